-- What the proofs of this crate name, passed on from one place.
pub use Rattle.ssh_certs.specs.Certificate.{CertOption}
pub use Rattle.ssh_host_rules.specs.HostAdmission.{AdmitsHost, InsistsOnNothing, IsHostInForce, first_name, host_certificate, host_force_rows, host_line_rows, host_offer_mismatch, host_row, looked_up, marks_authority, principal_of}
pub use Rattle.ssh_host_rules.specs.Revocation.{can_revoke, RevokesNothing}
pub use Rattle.ssh_host_rules.specs.Verdict.{host_verdict}
pub use Rattle.ssh_keys.specs.PublicKey.{key_blob}
pub use Rattle.ssh_entries.proofs.ByteLemmas.{AreBytes, AreBytes-from}
pub use Rattle.ssh_entries.proofs.ReadKnown.{known_line-spells}
pub use Rattle.ssh_entries.specs.Front.{begins_with, front_of_body}
pub use Rattle.ssh_entries.specs.KnownEntry.{KnownEntry}
pub use Rattle.ssh_entries.specs.KnownGrammar.{SpellsKnown, line_of_entry, known_line_of_front}
pub use Rattle.ssh_entries.specs.Names.{Names, NamesHost, Patterns, Hashed, name_hash, names_host}
pub use Rattle.ssh_entries.specs.declared.known_line.KnownLine.{KnownLine}
pub use Rattle.ssh_offers.specs.HostClaim.{HostClaim}
pub use Rattle.ssh_offers.specs.Offer.{subject, Offer, OfCertificate, certified, is_certified, plain}
pub use Rattle.ssh_offers.specs.Query.{HostCheck}
pub use Rattle.ssh_options.specs.declared.option_text.LineCause.{LineCause}
pub use Rattle.ssh_patterns.proofs.PermitLaw.{lower-tells, permits-tells}
pub use Rattle.ssh_patterns.specs.Lists.{MatchesInLowerCase, is_match_in_lower_case}
pub use Rattle.ssh_rules.proofs.ForceLemmas.{in_force, force_none}
pub use Rattle.ssh_rules.proofs.KeyPieceLemmas.{key-holds, none-admitted, denied}
pub use Rattle.ssh_rules.proofs.SizeLemmas.{all_long, none_short}
pub use Rattle.ssh_rules.proofs.Tests.{none_of, of_none, both_none, none_both, key_held, held_key, same_role, role_same, off, when_off}
pub use Rattle.ssh_rules.specs.KeyNeedle.{AdmitsNothing, HoldsPiece, Holds, piece_of}
pub use Rattle.ssh_rules.specs.Mismatches.{first_mismatch, or_later, size_row, unknown_row}
pub use Rattle.ssh_text.specs.Text.{body_of, is_blank, line_limit}
pub use Rattle.std.proofs.Common.{◌≡◌, refl, ℕ, false, List, sym, [], ◌∷◌, subst, Bool, true, None, ◌++◌, nat_lt, ◌==◌, length, inl, inr, Result, Ok, Err, ◌∙◌, ap, arith, rules}
pub use Rattle.std.proofs.lemmas.Bool.{cases_Bool, or_parts}
pub use Rattle.std.proofs.lemmas.Slice.Eq.{bytes_eq-Decides}
pub use Rattle.std.specs.Bool.{Decides}
pub use Rattle.std.specs.Prelude.{◌↔◌, IfSome, IsTrue}
