-- What the proofs of this crate name, passed on from one place.
pub use Rattle.base64.proofs.EngineFacts.{IsAscii-encode_of}
pub use Rattle.base64.proofs.RoundTrip.{length-encode_symbols}
pub use Rattle.base64.specs.Engines.{standard}
pub use Rattle.base64.specs.GeneralPurpose.{encode_of}
pub use Rattle.base64.specs.Rfc4648.{padding_len}
pub use Rattle.jiff.specs.Types.{TimeZone, DateTime}
pub use Rattle.jiff_core.proofs.CalendarLemmas.{days_in_month_bounds}
pub use Rattle.jiff_core.proofs.SignedLemmas.{signed_arith}
pub use Rattle.jiff_core.specs.Calendar.{IsYear}
pub use Rattle.jiff_core.specs.declared.civil.date.Date.{Date}
pub use Rattle.jiff_core.specs.declared.civil.time.Time.{Time}
pub use Rattle.jiff_fmt.specs.Text.{date_text, pad2, pad4, time_text, year_text}
pub use Rattle.sha2.specs.Sha256.{final_hash, initial_hash_256, sha256}
pub use Rattle.ssh_entries.proofs.AuthLemmas.{auth_line-spelled}
pub use Rattle.ssh_entries.proofs.ByteLemmas.{AreBytes-from}
pub use Rattle.ssh_entries.proofs.FieldLemmas.{body-bytes, next-bytes, word-bytes}
pub use Rattle.ssh_entries.proofs.LengthLemmas.{length_next, length-word, length_body}
pub use Rattle.ssh_entries.proofs.ReadAuth.{auth_line-spells}
pub use Rattle.ssh_entries.proofs.ReadKnown.{known_line-spells, known_line-spelled}
pub use Rattle.ssh_entries.proofs.RevokedLemmas.{read-revokes, read-unreadable_revocation}
pub use Rattle.ssh_entries.specs.AuthEntry.{AuthEntry}
pub use Rattle.ssh_entries.specs.AuthGrammar.{auth_line, SpellsEntry, SpellsOptions}
pub use Rattle.ssh_entries.specs.KeyPart.{SpellsKey}
pub use Rattle.ssh_entries.specs.KnownEntry.{KnownEntry}
pub use Rattle.ssh_entries.specs.KnownGrammar.{known_line, SpellsKnown, RevokesBytes, fourth_field}
pub use Rattle.ssh_entries.specs.KnownSeen.{known_seen}
pub use Rattle.ssh_entries.specs.LineView.{line_seen}
pub use Rattle.ssh_entries.specs.Names.{base64, names_text, IsTwentyBytes, Names, NamesHost, hidden, name_hash}
pub use Rattle.ssh_entries.specs.declared.auth_line.AuthLine.{AuthLine}
pub use Rattle.ssh_entries.specs.declared.auth_line.AuthLine.TheVariants.{Entry, Blank, Comment, Unreadable}
pub use Rattle.ssh_entries.specs.declared.known_line.KnownLine.{KnownLine}
pub use Rattle.ssh_entries.specs.declared.known_line.KnownLine.TheVariants.{Revoked, RevokedUnreadable}
pub use Rattle.ssh_entries.specs.declared.known_view.Marker.{Marker}
pub use Rattle.ssh_findings.proofs.LawLemmas.{granted, revoked_then}
pub use Rattle.ssh_findings.proofs.ShadowLemmas.{named, no_principals, no_sources}
pub use Rattle.ssh_findings.proofs.SumLemmas.{entry-bytes, entry-count, entry-sum}
pub use Rattle.ssh_findings.specs.Asking.{Asking, asking_of, is_reported}
pub use Rattle.ssh_findings.specs.Codes.{code_text}
pub use Rattle.ssh_findings.specs.Earlier.{Held, repeat_after, is_free, is_of_key, held_entry}
pub use Rattle.ssh_findings.specs.EntryFindings.{condition_findings, forces_but_forwards, ground_finding, ground_findings, policy_findings, reading_findings}
pub use Rattle.ssh_findings.specs.Findings.{code_of}
pub use Rattle.ssh_findings.specs.Ground.{ground_word}
pub use Rattle.ssh_findings.specs.HeldKey.{held_key, known_held_key}
pub use Rattle.ssh_findings.specs.HostFacts.{has_tab_after_first}
pub use Rattle.ssh_findings.specs.HostFindings.{unreadable_revocation_findings, host_reading_findings, other_line_findings, name_findings, passing_findings, refusal_findings, revoking_findings, trusting_findings, host_entry_findings, revocation_findings, unreadable_host_findings}
pub use Rattle.ssh_findings.specs.HostFindingsEarlier.{other_line, revoking_line, same_line, spelled_line, spelling_line, trusting_line, revoking, trusting}
pub use Rattle.ssh_findings.specs.HostFindingsFindings.{host_code_of}
pub use Rattle.ssh_findings.specs.HostFindingsMemory.{host_bytes_kept, kept_sum, spelling_bytes, spelling_sum}
pub use Rattle.ssh_findings.specs.HostLines.{HostLine}
pub use Rattle.ssh_findings.specs.Keeping.{RemembersEntries}
pub use Rattle.ssh_findings.specs.Memory.{entry_bytes, text_bytes, bytes_kept, keys_kept}
pub use Rattle.ssh_findings.specs.Moments.{earlier, is_known_past, least_of}
pub use Rattle.ssh_findings.specs.OpenSsh.{all_grounds, has_ground}
pub use Rattle.ssh_findings.specs.RevocationFacts.{revocation_facts_of}
pub use Rattle.ssh_findings.specs.Revoked.{revokes}
pub use Rattle.ssh_findings.specs.StandsFor.{RemembersLines}
pub use Rattle.ssh_findings.specs.Telling.{reported_some}
pub use Rattle.ssh_findings.specs.declared.code.Code.{Code}
pub use Rattle.ssh_findings.specs.declared.facts.Facts.{Facts}
pub use Rattle.ssh_findings.specs.declared.finding.Finding.{Finding}
pub use Rattle.ssh_findings.specs.declared.host_facts.HostFacts.{HostFacts}
pub use Rattle.ssh_findings.specs.declared.host_facts.RevocationFacts.{RevocationFacts}
pub use Rattle.ssh_findings.specs.declared.host_finding.HostFinding.{HostFinding}
pub use Rattle.ssh_findings.specs.declared.openssh.Ground.{Ground}
pub use Rattle.ssh_findings.specs.declared.recovered_key.HeldKey.{HeldKey}
pub use Rattle.ssh_host_rules.proofs.HostAdmissionLemmas.{host_where_none, none_where_host}
pub use Rattle.ssh_host_rules.specs.HostAdmission.{AdmitsHost, host_mismatch, looked_up, marks_authority}
pub use Rattle.ssh_host_rules.specs.Revocation.{may_revoke, revokes_offer, IsOwn, is_key_or_signer}
pub use Rattle.ssh_host_rules.specs.Verdict.{host_verdict}
pub use Rattle.ssh_keys.specs.Names.{key_name_of}
pub use Rattle.ssh_keys.specs.PublicKey.{key_blob, PublicKey, kind_of}
pub use Rattle.ssh_keys.specs.declared.key.KeyError.{KeyError}
pub use Rattle.ssh_keys.specs.declared.kind.KeyKind.{KeyKind}
pub use Rattle.ssh_keys.specs.declared.kind.KeyKind.TheVariants.{Rsa, P256, P384, P521, Ed25519, SkP256, SkEd25519}
pub use Rattle.ssh_offers.specs.Evidence.{host_evidence, login_evidence}
pub use Rattle.ssh_offers.specs.FirstRefusal.{AreBytes}
pub use Rattle.ssh_offers.specs.HostClaim.{HostClaim}
pub use Rattle.ssh_offers.specs.LoginClaim.{LoginClaim}
pub use Rattle.ssh_offers.specs.Offer.{plain, Offer, certified}
pub use Rattle.ssh_offers.specs.Query.{Login}
pub use Rattle.ssh_offers.specs.Vouching.{first_unvouched}
pub use Rattle.ssh_offers.specs.declared.claim.Signed.{Signed}
pub use Rattle.ssh_options.proofs.MomentLemmas.{moment-only}
pub use Rattle.ssh_options.specs.AuthOption.{AuthOption, Switch, Setting}
pub use Rattle.ssh_options.specs.Moment.{moment_of}
pub use Rattle.ssh_options.specs.OptionNames.{same_value_name, flag_name, value_name}
pub use Rattle.ssh_options.specs.OptionText.{escaped, SpellsItems, SpellsOption, quoted}
pub use Rattle.ssh_options.specs.Settings.{first_of, setting, settings}
pub use Rattle.ssh_options.specs.declared.option.Flag.{Flag}
pub use Rattle.ssh_options.specs.declared.option.Flag.TheVariants.{AgentForwarding, CertAuthority, NoAgentForwarding, NoPortForwarding, NoPty, NoUserRc, NoX11Forwarding, PortForwarding, Pty, NoTouchRequired, VerifyRequired, Restrict, UserRc, X11Forwarding}
pub use Rattle.ssh_options.specs.declared.option.ValueName.{ValueName}
pub use Rattle.ssh_options.specs.declared.option.ValueName.TheVariants.{Command, Environment, ExpiryTime, From, PermitListen, PermitOpen, Principals, Tunnel}
pub use Rattle.ssh_options.specs.declared.option_text.LineCause.{LineCause}
pub use Rattle.ssh_print.specs.Codes.{key_codes, wire_code}
pub use Rattle.ssh_print.specs.DecisionText.{carried_word, right_word, right_words}
pub use Rattle.ssh_print.specs.ShownTexts.{clock_text, last_second}
pub use Rattle.ssh_print.specs.Strings.{quoted_byte}
pub use Rattle.ssh_print.specs.Texts.{escaped_text, escaped_byte, hex_digit, hex_pair, hex_text, is_plain_byte}
pub use Rattle.ssh_review.specs.AnswerObjects.{carried_element, note_element, reason_element}
pub use Rattle.ssh_review.specs.Counting.{plus, no_counts}
pub use Rattle.ssh_print.specs.Dates.{clock_at, date_by, clock_at-whole, moment_date, moment_text}
pub use Rattle.ssh_review.specs.Ends.{fault_code, count_text, counts_text}
pub use Rattle.ssh_review.specs.Fields.{number_field, field_name, moment_or_null, null_field, number_or_null, text_field, text_or_null}
pub use Rattle.ssh_findings.specs.FindingRows.{FindingRow}
pub use Rattle.ssh_findings.specs.Findings.{auth_row}
pub use Rattle.ssh_findings.specs.HostFindingsFindings.{host_refusal, host_row}
pub use Rattle.ssh_review.specs.Findings.{cause_detail, cause_text, code_object, detail_part, detail_with, finding_head, finding_line, findings_end, host_finding_line, host_findings_end, object_after_comma, row_detail, row_line, row_object, row_sentence, rows_end, rows_list, value_text}
pub use Rattle.ssh_findings.specs.declared.row.Value.{Value}
pub use Rattle.ssh_review.specs.Forms.{end_line, file_fault_line, total_line, unreadable_record}
pub use Rattle.ssh_review.specs.Grants.{FindsShared, Grants, IsRevocationUnreadable, IsRevoked}
pub use Rattle.ssh_review.specs.HostListing.{IsHostListed, lines_kept}
pub use Rattle.ssh_review.specs.HostCounting.{host_counts_with}
pub use Rattle.ssh_review.specs.HostForms.{unreadable_revocation_record, host_entry_record, revoked_record, host_unreadable_record}
pub use Rattle.ssh_review.specs.HostLines.{host_counts_of, host_kept_of, host_records_of, host_line_counts, host_line_record, host_kept_lines, host_line_findings, known_key_reported}
pub use Rattle.ssh_review.specs.HostMemory.{host_line_bytes, host_line_sum, over_lines, host_line_spelling}
pub use Rattle.ssh_review.specs.HostReviews.{known_review}
pub use Rattle.ssh_review.specs.HostSpelling.{HasNoMarkerTab, has_marker_tab}
pub use Rattle.ssh_review.specs.Lines.{counts_of, held_by_line, line_record, records_of, line_counts, key_reported, line_findings, shadow_line, held_lines}
pub use Rattle.ssh_review.specs.Listing.{entries_of, HasRecord, IsListed}
pub use Rattle.ssh_review.specs.Memory.{lines_bytes, line_bytes}
pub use Rattle.ssh_review.specs.Objects.{fingerprint_text, held_fields, is_word, no_key_fields}
pub use Rattle.ssh_review.specs.OneLine.{are_printable, is_line, is_printable, AreBytesIfAny, HaveByteValues, IsHeldOfBytes, IsOfBytes, HasByteValue}
pub use Rattle.ssh_review.specs.OptionsText.{options_text}
pub use Rattle.ssh_review.specs.Records.{carried_inset, bits_text, comment_text, held_words, place_text, role_word}
pub use Rattle.ssh_review.specs.Reviews.{fault_review, auth_review}
pub use Rattle.ssh_review.specs.RightsWords.{without_space}
pub use Rattle.ssh_review.specs.Shown.{are_shown, are_shown_in, is_shown, is_shown_in, is_shown_or_tab}
pub use Rattle.ssh_review.specs.declared.end.Counts.{Counts}
pub use Rattle.ssh_review.specs.declared.end.FileFault.{FileFault}
pub use Rattle.ssh_review.specs.declared.end.FileFault.TheVariants.{TooLong, Unread}
pub use Rattle.ssh_review.specs.declared.end.Form.{Form}
pub use Rattle.ssh_review.specs.declared.end.Form.TheVariants.{Json, Line, Text}
pub use Rattle.ssh_review.specs.declared.records.RecordForm.{RecordForm}
pub use Rattle.ssh_review.specs.declared.records.RecordForm.TheVariants.{AsLines, AsRow}
pub use Rattle.ssh_review.specs.declared.end.Total.{Total}
pub use Rattle.ssh_rewriting.proofs.FileLemmas.{file-says, AreGood, IsGood, good, KeepsLines}
pub use Rattle.ssh_rewriting.proofs.HashedFactsLemmas.{hashed-says}
pub use Rattle.ssh_rewriting.proofs.LineLemmas.{known-kept, auth-kept}
pub use Rattle.ssh_rewriting.proofs.MemberLemmas.{mem-from, mem-to}
pub use Rattle.ssh_rewriting.proofs.PlainLemmas.{have-name, lookup-lower, name-had}
pub use Rattle.ssh_rewriting.specs.Answer.{hashed, rewritten}
pub use Rattle.ssh_rewriting.specs.Canonical.{after_comma, option_text, comment_part, key_text, marker_part}
pub use Rattle.ssh_rewriting.specs.CanonicalFile.{canonical_known_file, known_written, auth_written, canonical_auth_file, known_or_same, auth_or_same}
pub use Rattle.ssh_rewriting.specs.Facts.{known_facts, auth_facts}
pub use Rattle.ssh_rewriting.specs.HashedFile.{hashed_facts, hidden_names, hashed_file, names_hidden, are_plain, hidden_entry, is_hidden, lower_names, names_of_hidden, state_in_place}
pub use Rattle.ssh_rewriting.specs.declared.hash.HashError.{HashError}
pub use Rattle.ssh_rewriting.specs.declared.hash.HashError.TheVariants.{TooFewSalts}
pub use Rattle.ssh_rewriting.specs.declared.rewrite.RewriteError.{RewriteError}
pub use Rattle.ssh_rights.specs.Rights.{command_of, carried_by, carried_name, carried_texts}
pub use Rattle.ssh_rights.specs.declared.rights.Carried.{Carried}
pub use Rattle.ssh_rights.specs.declared.rights.CarriedName.{CarriedName}
pub use Rattle.ssh_rights.specs.declared.rights.Rights.{Rights}
pub use Rattle.ssh_rules.proofs.Tests.{le_z-decides}
pub use Rattle.ssh_rules.specs.Admission.{IsUnexpired}
pub use Rattle.ssh_rules.specs.Verdict.{login_verdict, verdict_by}
pub use Rattle.ssh_rules.specs.declared.admission.LineVerdict.{LineVerdict}
pub use Rattle.ssh_rules.specs.declared.admission.LineVerdict.TheVariants.{Skips, Admits}
pub use Rattle.ssh_rules.specs.declared.reason.Mismatch.{Mismatch}
pub use Rattle.ssh_rules.specs.declared.reason.Reason.{Reason}
pub use Rattle.ssh_text.proofs.LineLemmas.{lines_of-are}
pub use Rattle.ssh_text.proofs.NewlineLemmas.{lines_of-whole}
pub use Rattle.ssh_text.specs.Scan.{HasNoNewline}
pub use Rattle.ssh_text.specs.Text.{lines_of, numbered, file_limit, body_of, next_field, SpellsTail, first_word, line_limit}
pub use Rattle.ssh_trust.proofs.CandidateLemmas.{at-place, line-bytes, line-of}
pub use Rattle.ssh_trust.proofs.HostMeaningLemmas.{host_means}
pub use Rattle.ssh_trust.proofs.MeaningLemmas.{LoginReading, login_reading}
pub use Rattle.ssh_trust.specs.Answer.{host_answer, login_answer}
pub use Rattle.ssh_trust.specs.Candidate.{admits, candidate_of, first_admitted, reasons_of}
pub use Rattle.ssh_trust.specs.FileLines.{StandsAt}
pub use Rattle.ssh_trust.specs.HostDecision.{host_decision_by, revocation_cause, HostMeans, IsHostGrant, host_decision_of}
pub use Rattle.ssh_trust.specs.HostScan.{first_number, is_unreadable_revocation, admitting_number, revokes_by, host_line_verdict}
pub use Rattle.ssh_trust.specs.LoginDecision.{IsCandidate, IsGrant, line_verdict, candidate_at, decision_of, verdicts}
pub use Rattle.ssh_trust.specs.Scan.{scan_of}
pub use Rattle.ssh_trust.specs.declared.decision.Decision.{Decision}
pub use Rattle.ssh_trust.specs.declared.decision.Decision.TheVariants.{Granted}
pub use Rattle.ssh_trust.specs.declared.host_scan.HostScan.{HostScan}
pub use Rattle.ssh_wire.specs.declared.cursor.WireCause.{WireCause}
pub use Rattle.std.proofs.Common.{◌≡◌, ◌++◌, ℕ, List, [], refl, ◌∷◌, true, arith, Bool, false, ◌+◌, ◌∙◌, ap, length, cond, ◌≤◌, ◌==◌, sym, suc, append_assoc, ◌<◌, inl, inr, ◌&&◌, drop, length-append, zero, subst, nat_le, ◌/◌, ◌%◌, ◌*◌, nat_lt, take, ◌⊎◌, not, ◌||◌, rules, ◌≢◌, mul-add, mul-le-mul_left, mul-le-mul_right, ◌^◌, map, ◌-◌, ◌↔◌, ltb, Result, Ok, Err, if◌then◌else◌}
pub use Rattle.std.proofs.Math.Nat.{add_assoc}
pub use Rattle.std.proofs.lemmas.Bool.{and_from, eqb-true, leb-true, leb-false, cases_Bool, le-leb, lt-ltb, ltb-true, or_parts, ltb-false, and_parts, or_cases}
pub use Rattle.std.proofs.lemmas.List.{append-nil, length-drop}
pub use Rattle.std.proofs.lemmas.List.Elements.{Contains-append_left, Contains-append_right}
pub use Rattle.std.proofs.lemmas.List.Folds.{list_all-append, list_all_at, list_any-append}
pub use Rattle.std.proofs.lemmas.Slice.Eq.{bytes_eq-Decides}
pub use Rattle.std.specs.Fmt.{decimal, digit_glyph, digits_onto, signed_decimal}
pub use Rattle.std.specs.Int.{byte_at, bytes_high_first, to_be_bytes, w32}
pub use Rattle.std.specs.Int.Signed.{le_z}
pub use Rattle.std.specs.List.{flat_map, AllByRecursion, onto_first, list_any, slice_get, zip}
pub use Rattle.std.specs.Prelude.{codes, Option, None, Some, ℤ, option_map, pos, negsuc, replicate, slice_index, Contains, find, is_some}
pub use Rattle.std.specs.Str.{IsAscii, bytes_eq}
