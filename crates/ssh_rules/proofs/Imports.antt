-- What the proofs of this crate name, passed on from one place.
pub use Rattle.base64.proofs.EngineFacts.{encode_of-append}
pub use Rattle.base64.specs.Engines.{standard}
pub use Rattle.jiff.specs.Types.{TimeZone}
pub use Rattle.memchr.specs.Find.{FindsNeedle}
pub use Rattle.ssh_certs.proofs.OptionFactLemmas.{is-known, known-is, of-text, text-of}
pub use Rattle.ssh_certs.specs.Certificate.{Certificate, CertOption}
pub use Rattle.ssh_certs.specs.CertificateOf.{certificate_of}
pub use Rattle.ssh_certs.specs.CertificateOptions.{forced_by_certificate, has_option, text_of_option}
pub use Rattle.ssh_certs.specs.Left.{options_left}
pub use Rattle.ssh_certs.specs.OptionFacts.{AreOnce, IsKnownOption}
pub use Rattle.ssh_certs.specs.Rules.{HasPrincipal, no_principals, time_of}
pub use Rattle.ssh_certs.specs.declared.options.CertificateOption.{CertificateOption}
pub use Rattle.ssh_certs.specs.declared.options.CertificateOption.TheVariants.{ForceCommand, SourceAddress}
pub use Rattle.ssh_keys.proofs.RsaSizes.{at_least-decides}
pub use Rattle.ssh_keys.specs.Fingerprint.{IsRsaAtLeast, is_rsa_below}
pub use Rattle.ssh_keys.specs.Names.{key_name_of}
pub use Rattle.ssh_keys.specs.PublicKey.{key_blob, PublicKey, kind_of}
pub use Rattle.ssh_entries.proofs.ByteLemmas.{AreBytes, AreBytes-from}
pub use Rattle.ssh_entries.proofs.ReadAuth.{auth_line-spells}
pub use Rattle.ssh_entries.specs.AuthEntry.{AuthEntry}
pub use Rattle.ssh_entries.specs.AuthGrammar.{SpellsEntry, auth_line}
pub use Rattle.ssh_entries.specs.KeyPart.{SpellsKey}
pub use Rattle.ssh_entries.specs.Names.{base64}
pub use Rattle.ssh_entries.specs.declared.auth_line.AuthLine.{AuthLine}
pub use Rattle.ssh_entries.specs.declared.auth_line.AuthLine.TheVariants.{Entry}
pub use Rattle.ssh_offers.specs.ClaimViews.{claim_of}
pub use Rattle.ssh_offers.specs.LoginClaim.{LoginClaim}
pub use Rattle.ssh_offers.specs.Offer.{subject, is_certified, Offer, certified, plain, OfCertificate}
pub use Rattle.ssh_offers.specs.Query.{Login}
pub use Rattle.ssh_offers.specs.declared.claim.EmptyPrincipals.{EmptyPrincipals}
pub use Rattle.ssh_offers.specs.declared.claim.EmptyPrincipals.TheVariants.{Any, Never}
pub use Rattle.ssh_options.proofs.MomentLemmas.{moment-is, moment-only}
pub use Rattle.ssh_options.specs.Expiry.{IsMoment}
pub use Rattle.ssh_options.specs.Moment.{moment_of}
pub use Rattle.ssh_options.specs.OptionsInPlace.{has_quote}
pub use Rattle.ssh_options.specs.Settings.{setting, settings}
pub use Rattle.ssh_options.specs.declared.option.ValueName.TheVariants.{Principals, ExpiryTime, From, Command}
pub use Rattle.ssh_patterns.proofs.AddressLaw.{address-read}
pub use Rattle.ssh_patterns.proofs.MatchLemmas.{or_left, or_right}
pub use Rattle.ssh_patterns.proofs.PermitLaw.{Tells, lower-tells}
pub use Rattle.ssh_patterns.proofs.SourceLaw.{bad_cidr-tells, bad_source-tells, cidr-tells, says-yes, source-tells}
pub use Rattle.ssh_patterns.specs.Lists.{FitsAddress, FitsSource, IsBadCidr, IsBadSource, OnHost, Source, cidr_item, cidr_list, has_slash, host_matches, is_bad_cidr, is_bad_source, is_match_in_lower_case, source_item, source_list}
pub use Rattle.ssh_patterns.specs.declared.address.Address.{Address}
pub use Rattle.ssh_patterns.specs.declared.list.Permit.{Permit}
pub use Rattle.ssh_patterns.specs.declared.list.Permit.TheVariants.{Yes, No, Bad}
pub use Rattle.ssh_rules.specs.Admission.{is_authority, line_rows, offer_mismatch, CriticalMet, PermitsClient, critical_rows, is_expired, PermitsAddress, AdmitsLogin, IsUnexpired, IsUserInForce, certificate_mismatch, is_past, source_by, user_force_rows, commands_differ}
pub use Rattle.ssh_rules.specs.CertificateForce.{user_certificate, InForce, force_rows, IsForAll, Serves, is_for_none}
pub use Rattle.ssh_rules.specs.CertificateRules.{has_two, first_unknown, has_its_form, has_repeats, fits_known, is_known, certificate_source_by, has_principal, is_listed, listed_names, serves, is_among}
pub use Rattle.ssh_rules.specs.KeyNeedle.{Holds, AdmitsNothing, HoldsPiece, piece_place, piece_of}
pub use Rattle.ssh_rules.specs.KeySizes.{AreLongEnough, has_short_key}
pub use Rattle.ssh_rules.specs.Mismatches.{first_mismatch, or_later, role_row, size_row, key_row, unknown_row, permit_row, time_row, when}
pub use Rattle.ssh_rules.specs.Spare.{is_escaped, is_named, has_escaped, is_about, is_in_role, needs_memory, owns_name}
pub use Rattle.ssh_rules.specs.Verdict.{verdict_by, login_verdict}
pub use Rattle.ssh_rules.specs.declared.reason.Mismatch.{Mismatch}
pub use Rattle.ssh_rules.specs.declared.reason.Reason.{Reason}
pub use Rattle.std.proofs.Common.{◌≡◌, false, true, refl, None, List, Option, ℕ, Some, Bool, ◌∙◌, sym, ◌∷◌, ◌||◌, [], ap, length, subst, arith, ◌==◌, rules, ◌≤◌, nat_lt, ◌<◌, inl, inr, not, ◌&&◌, ◌-◌, ◌*◌, ◌/◌, ◌%◌, ◌+◌, ◌++◌, take, drop, append_assoc, ◌⊎◌, zero, suc}
pub use Rattle.std.proofs.lemmas.Bool.{ltb-false, false≢true, ne_eqb, or_cases, le-ltb, leb-false, lt-leb}
pub use Rattle.std.proofs.lemmas.Bool.Decides.{Decides-eqb, same_from_decides}
pub use Rattle.std.proofs.lemmas.Iterator.Search.{any_from_yields_List}
pub use Rattle.std.proofs.lemmas.Iterator.Splits.{YieldsList-from_slice_split}
pub use Rattle.std.proofs.lemmas.List.{get_or_append_left, get_or-append-add, length-append, length-drop, length-take-le, take-append-drop}
pub use Rattle.std.proofs.lemmas.Slice.Eq.{bytes_eq-Decides}
pub use Rattle.std.specs.Bool.{Decides}
pub use Rattle.std.specs.Int.Signed.{le_z, le_z_yes}
pub use Rattle.std.specs.List.{list_any, AllByRecursion, list_all, slice_index_or}
pub use Rattle.std.specs.Prelude.{is_some, ◌↔◌, IsTrue, ℤ, ◌≤ℤ◌, pos, ◌≢◌, if◌then◌else◌, Contains, T, nat_le, IfSome}
pub use Rattle.std.specs.Str.{bytes_eq}
