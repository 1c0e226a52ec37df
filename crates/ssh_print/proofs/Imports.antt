-- The names that the proofs of this crate import, in one place.
pub use Rattle.hex.specs.Hex.{IsBytes, encode_lower, lower_digits}
pub use Rattle.hex.specs.declared.error.FromHexError.{FromHexError}
pub use Rattle.jiff.proofs.Family.{same_datetime}
pub use Rattle.jiff.proofs.SpanFacts.{signed_arith}
pub use Rattle.jiff.specs.Words.{signed_nanos}
pub use Rattle.ssh_certs.specs.Certificate.{Certificate}
pub use Rattle.ssh_certs.specs.CertificateOf.{certificate_of}
pub use Rattle.ssh_certs.specs.Left.{principals_left, options_left}
pub use Rattle.ssh_files.specs.Parts.{top_line}
pub use Rattle.ssh_findings.specs.OpenSsh.{has_nul}
pub use Rattle.ssh_keys.specs.Fingerprint.{IsBitCount, IsRsaSize}
pub use Rattle.ssh_keys.specs.PublicKey.{PublicKey, rsa, p256, p384, p521, ed25519, sk_p256, sk_ed25519}
pub use Rattle.ssh_keys.specs.Signature.{IsSignature}
pub use Rattle.ssh_keys.specs.declared.kind.KeyKind.{KeyKind}
pub use Rattle.ssh_keys.specs.declared.kind.KeyKind.TheVariants.{Rsa, P256, P384, P521, Ed25519, SkP256, SkEd25519}
pub use Rattle.ssh_entries.specs.AuthGrammar.{auth_line}
pub use Rattle.ssh_entries.proofs.AuthLemmas.{auth_line-spelled}
pub use Rattle.ssh_entries.specs.KeyText.{comment_field}
pub use Rattle.ssh_entries.specs.declared.auth_line.AuthLine.{AuthLine}
pub use Rattle.ssh_entries.specs.declared.auth_line.AuthLine.TheVariants.{Unreadable}
pub use Rattle.ssh_offers.specs.Evidence.{host_evidence}
pub use Rattle.ssh_offers.specs.HostClaim.{HostClaim}
pub use Rattle.ssh_offers.specs.LoginClaim.{LoginClaim}
pub use Rattle.ssh_offers.specs.declared.claim.AuditError.{AuditError}
pub use Rattle.ssh_offers.specs.declared.claim.AuditError.TheVariants.{Offer, Signature, WrongAlgorithm, WeakSignature, CertSignature, Address, FileTooLong, Memory, Read, Failed, Body, Salts}
pub use Rattle.ssh_offers.specs.declared.claim.Signed.{Signed}
pub use Rattle.ssh_options.specs.declared.option_text.LineCause.{LineCause}
pub use Rattle.ssh_print.specs.Admitting.{first_line}
pub use Rattle.ssh_print.specs.Codes.{reason_codes}
pub use Rattle.ssh_print.specs.Comparisons.{first_principals}
pub use Rattle.ssh_print.specs.DecisionText.{carried_line, reason_line}
pub use Rattle.ssh_print.specs.Denials.{HoldsAnother}
pub use Rattle.ssh_print.specs.Details.{first_mismatch}
pub use Rattle.ssh_print.specs.ExplainSamples.{lines_shown, unknown_shown, rows_are_found}
pub use Rattle.ssh_print.specs.Explaining.{row_text, is_unknown, code_line}
pub use Rattle.ssh_print.specs.HostOther.{granting_line, is_out_of_memory}
pub use Rattle.ssh_print.specs.KnownPossible.{known_possible_lines}
pub use Rattle.ssh_print.specs.OtherLines.{possible_line}
pub use Rattle.ssh_print.specs.PassedLines.{line_from, lines_after, passed_lines}
pub use Rattle.ssh_print.specs.PassedOver.{line_counted, line_firm, revoking_line}
pub use Rattle.ssh_print.specs.PossibleLines.{possible_lines, held_blob, passed_reason, wanted_blob, why_by_reason, why_held, why_held_key, with_line}
pub use Rattle.ssh_print.specs.Responses.{Response}
pub use Rattle.ssh_print.specs.Samples.{absent_shown, texts_shown, rights_shown, decisions_shown, signatures_shown, faults_shown, wire_codes_shown, key_codes_shown, cert_codes_shown, body_codes_shown, line_codes_shown, reason_codes_shown, cause_codes_shown, fault_codes_shown}
pub use Rattle.ssh_print.specs.ShowSamples.{keys_shown, words_shown}
pub use Rattle.ssh_print.specs.Showing.{shown_line, IsAnswerTo, Shows, cert_on, file_signature_in, key_on, public_half_in, first_of_lines}
pub use Rattle.ssh_print.specs.ShownBodies.{IsHalfText, IsSignatureText}
pub use Rattle.ssh_print.specs.ShownTexts.{IsDateText, IsCertText, IsShownKey, cert_lines, clock_text, key_lines, option_line}
pub use Rattle.ssh_print.specs.StandIn.{stand_in_signature}
pub use Rattle.ssh_print.specs.Strings.{quoted_byte, is_verbatim, read_rest, read_string, with_byte}
pub use Rattle.ssh_print.specs.Table.{reported, is_of, CodeRow, sections}
pub use Rattle.ssh_print.specs.TextParts.{part_bytes, text_bytes}
pub use Rattle.ssh_print.specs.Texts.{escaped_text, hex_digit, hex_digits, hex_text, hex_pair, is_plain_byte, text_line, escaped_byte}
pub use Rattle.ssh_print.specs.declared.possible.WhyPossible.{WhyPossible}
pub use Rattle.ssh_print.specs.declared.showing.ShowError.{ShowError}
pub use Rattle.ssh_print.specs.declared.showing.ShowKind.{ShowKind}
pub use Rattle.ssh_rules.specs.Verdict.{login_verdict}
pub use Rattle.ssh_rules.specs.declared.reason.Reason.{Reason}
pub use Rattle.ssh_text.specs.Text.{lines_of, numbered}
pub use Rattle.ssh_trust.proofs.CandidateLemmas.{line-of}
pub use Rattle.ssh_trust.specs.Answer.{GivesOrMemory, host_answer}
pub use Rattle.ssh_trust.specs.declared.decision.Cause.{Cause}
pub use Rattle.ssh_trust.specs.declared.decision.Decision.{Decision}
pub use Rattle.ssh_trust.specs.declared.decision.Decision.TheVariants.{Denied}
pub use Rattle.std.proofs.Common.{◌≡◌, ◌++◌, ◌∙◌, ap, ℕ, arith, List, drop, refl, [], ◌∷◌, length, sym, false, take, map, Bool, true, Option, Some, subst, cond, ◌≤◌, rules, zero, suc, ◌||◌, None, append_assoc, ◌==◌, inr, ◌+◌, ◌*◌, ◌<◌, Result, Ok, Err, not, inl, find, tests, ◌/◌, ◌%◌, ◌-◌, slice_index, nat_le, ◌&&◌, get_or, option_map, Bor, w64}
pub use Rattle.std.proofs.Math.Seq.{take-append_seam}
pub use Rattle.std.proofs.lemmas.Bool.{lt-ltb, and_from, and_parts, cases_Bool}
pub use Rattle.std.proofs.lemmas.Grind.{flat_map-append, common_steps}
pub use Rattle.std.proofs.lemmas.Int.{to_z_pos}
pub use Rattle.std.proofs.lemmas.Iterator.{YieldsList-from_slice}
pub use Rattle.std.proofs.lemmas.Iterator.Consumers.{YieldsList-from_copied}
pub use Rattle.std.proofs.lemmas.Iterator.Search.{position_from_yields_List, find_from_yields_List}
pub use Rattle.std.proofs.lemmas.List.{append-nil, at_drop_more, length-map}
pub use Rattle.std.proofs.lemmas.List.Concat.{flat_map-cons}
pub use Rattle.std.proofs.lemmas.List.Folds.{find-append, flat_map-map}
pub use Rattle.std.proofs.lemmas.Result.{IfOk-weaker}
pub use Rattle.std.proofs.lemmas.Slice.Eq.{bytes_eq-Decides}
pub use Rattle.std.specs.Fmt.{decimal}
pub use Rattle.std.specs.List.{flat_map, list_all, position, position_or_len, onto_first, list_any}
pub use Rattle.std.specs.Option.{option_or}
pub use Rattle.std.specs.Prelude.{codes, nat_lt, bytes_eq, slice_get, IsOk, OnOk, pos, ◌*ℤ◌}
