-- What the proofs of this crate name, passed on from one place.
pub use Rattle.ssh_certs.proofs.OptionFactLemmas.{extension-of, has-text, insists, named-of, of-extension, text-had}
pub use Rattle.ssh_certs.specs.OptionFacts.{AreOnce, HasExtension}
pub use Rattle.ssh_certs.specs.OptionTable.{is_critical}
pub use Rattle.ssh_certs.specs.declared.options.CertificateOption.TheVariants.{ForceCommand}
pub use Rattle.ssh_keys.specs.Signature.{Signature}
pub use Rattle.ssh_entries.specs.AuthEntry.{AuthEntry}
pub use Rattle.ssh_offers.specs.Offer.{Offer, OfCertificate, certified, plain}
pub use Rattle.ssh_options.specs.AuthOption.{AuthOption}
pub use Rattle.ssh_options.specs.Settings.{has_flag, setting}
pub use Rattle.ssh_options.specs.declared.option.Flag.TheVariants.{NoTouchRequired, VerifyRequired}
pub use Rattle.ssh_options.specs.declared.option.ValueName.TheVariants.{Command}
pub use Rattle.ssh_rights.specs.Rights.{is_on, last_word, AreRights, HasRight, OfferForces, command_of, forced_by_offer, has_right, permit_of, certificate_permits, IsOn, effect_on, carried_texts}
pub use Rattle.ssh_rights.specs.RightsOn.{on_after}
pub use Rattle.ssh_rights.specs.SecurityKeys.{HasSkFlag, IsPresent, OfferAsks, TouchSuffices, VerificationSuffices, has_sk_flag, is_present, is_touch_waived, is_verification_asked, touch_suffices, user_verified, verification_suffices, waives_touch, wants_verification}
pub use Rattle.ssh_rights.specs.declared.rights.Right.{Right}
pub use Rattle.ssh_rights.specs.declared.rights.Right.TheVariants.{Port, Agent, X11, Pty, UserRc}
pub use Rattle.ssh_rights.specs.declared.rights.RightsOn.{RightsOn}
pub use Rattle.std.proofs.Common.{refl, ◌≡◌, true, List, ◌++◌, ◌⊎◌, Bool, Option, Some, None, inl, inr, [], ◌∷◌, ◌↔◌, ◌||◌, ℕ, false, not, ◌∙◌, ap, sym}
pub use Rattle.std.proofs.lemmas.Bool.{and_from, and_parts, or_cases}
pub use Rattle.std.proofs.lemmas.Bool.Decides.{Decides-eqb}
pub use Rattle.std.specs.Bool.{Decides}
pub use Rattle.std.specs.List.{AllByRecursion}
pub use Rattle.std.specs.Prelude.{bit_and, unwrap_or}
