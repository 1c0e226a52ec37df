-- What the proofs of this crate name, passed on from one place.
pub use Rattle.ssh_bodies.specs.Sshsig.{Sshsig, IsSshsigBlob}
pub use Rattle.ssh_host_rules.proofs.HostAdmissionLemmas.{host_where_none, none_where_host}
pub use Rattle.ssh_host_rules.specs.HostAdmission.{host_mismatch, AdmitsHost, looked_up}
pub use Rattle.ssh_host_rules.specs.Revocation.{may_revoke, revokes_offer, IsOwn, is_key_or_signer}
pub use Rattle.ssh_host_rules.specs.Turns.{host_width, host_most, host_least, names_least}
pub use Rattle.ssh_host_rules.specs.Verdict.{host_verdict}
pub use Rattle.ssh_keys.specs.Names.{key_name_of}
pub use Rattle.ssh_keys.specs.PublicKey.{key_blob}
pub use Rattle.ssh_keys.specs.declared.kind.KeyKind.{KeyKind}
pub use Rattle.ssh_keys.specs.declared.kind.KeyKind.TheVariants.{Rsa, P256, P384, P521, Ed25519, SkP256, SkEd25519}
pub use Rattle.ssh_entries.proofs.AuthLemmas.{auth_line-spelled}
pub use Rattle.ssh_entries.proofs.ReadAuth.{auth_line-spells}
pub use Rattle.ssh_entries.proofs.ReadKnown.{known_line-spells, known_line-spelled}
pub use Rattle.ssh_entries.proofs.RevokedLemmas.{unreadable_revocation-read, read-unreadable_revocation, read-revokes, revokes-read}
pub use Rattle.ssh_entries.specs.AuthEntry.{AuthEntry}
pub use Rattle.ssh_entries.specs.AuthGrammar.{SpellsEntry, SpellsOptions}
pub use Rattle.ssh_entries.specs.KnownEntry.{KnownEntry}
pub use Rattle.ssh_entries.specs.KnownGrammar.{IsUnreadableRevocation, SpellsKnown}
pub use Rattle.ssh_entries.specs.KnownSeen.{known_seen}
pub use Rattle.ssh_entries.specs.Names.{names_text, Names, Patterns, Hashed, list_of}
pub use Rattle.ssh_entries.specs.declared.auth_line.AuthLine.{AuthLine}
pub use Rattle.ssh_entries.specs.declared.auth_line.AuthLine.TheVariants.{Unreadable}
pub use Rattle.ssh_entries.specs.declared.known_line.KnownLine.{KnownLine}
pub use Rattle.ssh_entries.specs.declared.known_line.KnownLine.TheVariants.{RevokedUnreadable, Blank, Comment, Entry, Revoked}
pub use Rattle.ssh_offers.proofs.ClaimLaw.{host-claimed, login-claimed}
pub use Rattle.ssh_offers.proofs.VouchingLemmas.{none_unvouched, all_vouched, any-has, has-any}
pub use Rattle.ssh_offers.specs.Algorithms.{other_algorithm, rsa_sha256_name, rsa_sha512_name, is_weak_name, type_name, wanted_algorithm}
pub use Rattle.ssh_offers.specs.Evidence.{host_evidence, login_evidence}
pub use Rattle.ssh_offers.specs.FileSignature.{AlgorithmServes, sshsig_evidence, sshsig_claim}
pub use Rattle.ssh_offers.specs.FileSignatureView.{sshsig_claim_of}
pub use Rattle.ssh_offers.specs.FirstRefusal.{IsLoginRefusal, kind_offered}
pub use Rattle.ssh_offers.specs.HostClaim.{HostClaim, host_claim}
pub use Rattle.ssh_offers.specs.LoginClaim.{LoginClaim, login_claim}
pub use Rattle.ssh_offers.specs.Offer.{Offer, certified, plain, OfCertificate, is_certified}
pub use Rattle.ssh_offers.specs.Query.{login_of, Login, host_check_of}
pub use Rattle.ssh_offers.specs.Vouching.{first_unvouched, Has, is_vouched}
pub use Rattle.ssh_offers.specs.declared.claim.AuditError.{AuditError}
pub use Rattle.ssh_offers.specs.declared.claim.AuditError.TheVariants.{FileTooLong, Memory, WrongAlgorithm, WeakSignature, Read, Signature, CertSignature, Failed, Body, Salts}
pub use Rattle.ssh_offers.specs.declared.claim.Signed.{Signed}
pub use Rattle.ssh_options.specs.AuthOption.{AuthOption, Switch, Setting}
pub use Rattle.ssh_options.specs.OptionNames.{same_value_name}
pub use Rattle.ssh_options.specs.OptionText.{SpellsItems, SpellsOption, escaped, quoted}
pub use Rattle.ssh_options.specs.Settings.{first_of, setting, settings}
pub use Rattle.ssh_options.specs.declared.option.ValueName.{ValueName}
pub use Rattle.ssh_options.specs.declared.option.ValueName.TheVariants.{From}
pub use Rattle.ssh_patterns.specs.declared.address.Address.{Address}
pub use Rattle.ssh_rights.proofs.RightsLaw.{touch-is, verification-is, OptionsOnce, are-rights}
pub use Rattle.ssh_rights.specs.Rights.{rights_of}
pub use Rattle.ssh_rights.specs.SecurityKeys.{touch_suffices, verification_suffices, TouchSuffices, VerificationSuffices}
pub use Rattle.ssh_rules.proofs.AdmissionLemmas.{admits_where_none, none_where_admits}
pub use Rattle.ssh_rules.specs.Admission.{login_mismatch, AdmitsLogin, CriticalMet}
pub use Rattle.ssh_rules.specs.KeyNeedle.{AdmitsNothing}
pub use Rattle.ssh_rules.specs.Turns.{login_width, login_most, source_most}
pub use Rattle.ssh_rules.specs.Verdict.{verdict_by, login_verdict}
pub use Rattle.ssh_rules.specs.declared.admission.LineVerdict.{LineVerdict}
pub use Rattle.ssh_rules.specs.declared.admission.LineVerdict.TheVariants.{Admits, Skips}
pub use Rattle.ssh_rules.specs.declared.reason.Mismatch.{Mismatch}
pub use Rattle.ssh_rules.specs.declared.reason.Mismatch.TheVariants.{Listed, OtherHost, OtherKey}
pub use Rattle.ssh_rules.specs.declared.reason.Reason.{Reason}
pub use Rattle.ssh_text.proofs.LineLemmas.{lines_of-are, lines_of-only}
pub use Rattle.ssh_text.proofs.PieceLemmas.{adds-none, adds-one, ends-none, ends-one}
pub use Rattle.ssh_text.specs.Scan.{has_newline, up_to_newline, IsLastLine, IsReadyLine, unfinished, whole_lines, StandsFor}
pub use Rattle.ssh_text.specs.Text.{lines_of, numbered, file_limit, line_limit, line_len, AreLines}
pub use Rattle.ssh_text.specs.declared.scanner.Line.{Line}
pub use Rattle.ssh_text.specs.declared.scanner.Line.TheVariants.{Whole, TooLong}
pub use Rattle.ssh_trust.specs.Answer.{GivesOrMemory, OfClaim, RefusesAs, if_short}
pub use Rattle.ssh_trust.specs.Audit.{HasRead, HasTaken, HasAudited}
pub use Rattle.ssh_trust.specs.Candidate.{candidate_of, first_admitted, reasons_of, IsFirstAdmitted, admits, before_candidate, reasons_from, with_reason}
pub use Rattle.ssh_trust.specs.FileLines.{IsHandedLine, StandsAt}
pub use Rattle.ssh_trust.specs.Findings.{HasFound, IsKept}
pub use Rattle.ssh_trust.specs.HostDecision.{HostMeans, RevokesOwn, host_decision_by, revocation_cause, host_decision_of, HoldsAt, IsLeast, IsHostCandidate}
pub use Rattle.ssh_trust.specs.HostScan.{host_line_verdict, admitting_number, first_number, is_unreadable_revocation, revokes_by, empty_host_scan, host_scan_line, first_so_far}
pub use Rattle.ssh_trust.specs.LoginDecision.{line_verdict, decision_of, LoginMeans, candidate_at, IsCandidate, cause_by, decision_by, verdicts, IsGrant, login_scan_line}
pub use Rattle.ssh_trust.specs.Reads.{HoldsOfRead, AnswersReader, IsFedBy, StopsBy, piece_size}
pub use Rattle.ssh_trust.specs.Samples.{host_causes_in_order, login_causes_in_order, file_at_limit, first_admitted_found, reasons_listed}
pub use Rattle.ssh_trust.specs.Scan.{scan_verdict, scan_of, empty_scan, listed_with, scan_line}
pub use Rattle.ssh_trust.specs.SshsigAnswer.{IsOfBody, SshsigMeans, vouching_answer}
pub use Rattle.ssh_trust.specs.Telling.{HostTells, LoginTells, HostDecides, LoginDecides, AreReasons, HostReason, IsPassedOver, IsFirstUnvouched, LoginReason, RisesFrom}
pub use Rattle.ssh_trust.specs.Turns.{host_line_most, login_line_most, AreNameTurns, host_line_least}
pub use Rattle.ssh_trust.specs.declared.decision.Decision.{Decision}
pub use Rattle.ssh_trust.specs.declared.decision.Decision.TheVariants.{Granted, Denied}
pub use Rattle.ssh_trust.specs.declared.decision.SshsigAnswer.{SshsigAnswer}
pub use Rattle.ssh_trust.specs.declared.decision.SshsigAnswer.TheVariants.{OtherNamespace}
pub use Rattle.ssh_trust.specs.declared.host_scan.HostScan.{HostScan}
pub use Rattle.ssh_trust.specs.declared.login_scan.Candidate.{Candidate}
pub use Rattle.ssh_trust.specs.declared.search.Pieces.{Pieces}
pub use Rattle.ssh_trust.specs.declared.search.Scan.{Scan}
pub use Rattle.ssh_trust.specs.declared.search.Search.{Search}
pub use Rattle.std.proofs.Common.{◌∙◌, refl, sym, subst, ◌≡◌, List, ℕ, arith, ap, true, false, ◌+◌, length, [], ◌≤◌, Option, Some, None, Bool, ◌<◌, ◌∷◌, inl, inr, ◌++◌, suc, map, cond, take, ◌-◌, Result, Ok, Err, zero, ◌↔◌, ◌*◌, nat_lt, append_assoc, ◌⊎◌, ◌==◌, append-nil, drop, get_or, ◌||◌, if◌then◌else◌, ltb, not}
pub use Rattle.std.proofs.Math.Seq.{take-add}
pub use Rattle.std.proofs.lemmas.Bool.{cases_Bool, ltb-true, lt-ltb, ltb-false, le-ltb}
pub use Rattle.std.proofs.lemmas.List.{take_all, length-append, take-append-drop, take_at, length_push, length-drop}
pub use Rattle.std.proofs.lemmas.Nat.{mul-le}
pub use Rattle.std.proofs.lemmas.Result.{err_from_is_err_and}
pub use Rattle.std.proofs.lemmas.Slice.Eq.{bytes_eq-Decides}
pub use Rattle.std.specs.Bool.{Decides}
pub use Rattle.std.specs.Io.KnownBytes.{Consumes, IsAtEnd, Keeps}
pub use Rattle.std.specs.List.{AllByRecursion, position_or_len, onto_first}
pub use Rattle.std.specs.Prelude.{option_map, slice_get, is_some, IfOk, OnErr, OnOk, ⊤, ◌≢◌, Contains, IsSome, max}
pub use Rattle.std.specs.Str.{bytes_eq}
