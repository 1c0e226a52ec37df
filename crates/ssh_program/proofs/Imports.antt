-- What the proofs of this crate name, passed on from one place.
pub use Rattle.base64.specs.Engines.{standard}
pub use Rattle.base64.specs.GeneralPurpose.{decoded_of}
pub use Rattle.clap.proofs.WalkLemmas.{first_value-rows, raw_values-rows, list_any-map}
pub use Rattle.clap.specs.Faults.{fault_of, is_simple_and_free}
pub use Rattle.clap.specs.Kinds.{HasKind, IsAmong, Kinds}
pub use Rattle.clap.specs.Simple.{app_of_fields, on_top}
pub use Rattle.clap.specs.Words.{Row, app_of, App, Text, subcommand_rows_of, found_of, with_subcommand, kind_of, is_simple, subcommand_of, subcommand_name_of, first_of, with_rule}
pub use Rattle.clap.specs.declared.error.Error.{Error}
pub use Rattle.clap.specs.declared.error.ErrorKind.{ErrorKind}
pub use Rattle.clap.specs.declared.parser.matches.ArgMatches.{ArgMatches}
pub use Rattle.jiff.specs.Types.{TimeZone}
pub use Rattle.jiff.specs.Words.{plain_zone}
pub use Rattle.ssh_bodies.proofs.SshsigLaws.{strings_short}
pub use Rattle.ssh_bodies.specs.Sshsig.{Sshsig, digest_of}
pub use Rattle.ssh_bodies.specs.SshsigOf.{sshsig_of}
pub use Rattle.ssh_files.proofs.PieceLemmas.{words_long}
pub use Rattle.ssh_files.proofs.SourceLemmas.{Alike, none-failed, file-alike, one-failed, over_limit, left-none, left-alike, read-all, whole-alike, alike-same, keeps-same, end-same, left-end, no-end}
pub use Rattle.ssh_files.proofs.TurnLemmas.{leads_end, leads_next, Leads, files_same}
pub use Rattle.ssh_files.specs.FilesInTurn.{TellsFile, TellsFiles}
pub use Rattle.ssh_files.specs.Loading.{within_limit, FailsLoad, IsLeft, NoReadFailed, IsTooLong, KeepsFiles, KeepsOthers, ReadToEnd, OneReadFailed, FailsLine, LoadsLine}
pub use Rattle.ssh_files.specs.Parts.{after_whole, part_at, after_part, top_line, after_line, first_line, cut_at_empty}
pub use Rattle.ssh_files.specs.Seeking.{TellsOf, AreFound}
pub use Rattle.ssh_files.specs.SourceState.{IfTells, SourceState, bytes_at, dash, most_failures, Chosen, ChoosesKnown, choosing, left_of, left_with, named_file, nothing, standard_input, name_of, open_file, next_choice}
pub use Rattle.ssh_files.specs.Values.{ReadsZone, zone_text, number_below, hex_bytes, empty_principals_of, short_bytes, hex_value, pair_values, prepend, short_hex}
pub use Rattle.ssh_files.specs.VouchFile.{cut_at_space, has_space, is_skipped, triple_of, vouched_from}
pub use Rattle.ssh_files.specs.Words.{is_space, words_in}
pub use Rattle.ssh_files.specs.declared.part.Found.{Found}
pub use Rattle.ssh_files.specs.declared.read.ReadError.{ReadError}
pub use Rattle.ssh_findings.specs.Asking.{asking_of, Asking}
pub use Rattle.ssh_findings.specs.Codes.{codes_in, default_codes}
pub use Rattle.ssh_findings.specs.declared.code.Code.{Code}
pub use Rattle.ssh_keys.specs.PublicKey.{longest}
pub use Rattle.ssh_entries.specs.AuthGrammar.{auth_line}
pub use Rattle.ssh_entries.specs.declared.auth_line.AuthLine.TheVariants.{Unreadable}
pub use Rattle.ssh_offers.proofs.ClaimReading.{host-found, login-found}
pub use Rattle.ssh_offers.proofs.VouchingLemmas.{any-has, has-any}
pub use Rattle.ssh_offers.specs.Evidence.{host_evidence, login_evidence, signer_evidence}
pub use Rattle.ssh_offers.specs.FileSignatureView.{sshsig_claim_of}
pub use Rattle.ssh_offers.specs.HostClaim.{host_claim, HostClaim}
pub use Rattle.ssh_offers.specs.LoginClaim.{login_claim, LoginClaim}
pub use Rattle.ssh_offers.specs.Offer.{plain, certified}
pub use Rattle.ssh_offers.specs.Query.{HostCheck, Login}
pub use Rattle.ssh_offers.specs.Vouching.{is_vouched, first_unvouched}
pub use Rattle.ssh_offers.specs.declared.claim.AuditError.{AuditError}
pub use Rattle.ssh_offers.specs.declared.claim.AuditError.TheVariants.{FileTooLong, Memory, Read, Offer, Signature, WrongAlgorithm, WeakSignature, CertSignature, Address, Failed, Body, Salts}
pub use Rattle.ssh_offers.specs.declared.claim.EmptyPrincipals.{EmptyPrincipals}
pub use Rattle.ssh_offers.specs.declared.claim.EmptyPrincipals.TheVariants.{Any}
pub use Rattle.ssh_offers.specs.declared.claim.Signed.{Signed}
pub use Rattle.ssh_options.specs.declared.option_text.LineCause.{LineCause}
pub use Rattle.ssh_print.proofs.DenialLemmas.{unread_another}
pub use Rattle.ssh_print.proofs.TopLineLemmas.{line-offered, line-shown}
pub use Rattle.ssh_print.specs.DecisionText.{evidence_line, evidence_from}
pub use Rattle.ssh_print.specs.Denials.{HoldsAnother}
pub use Rattle.ssh_print.specs.FingerprintKeys.{found_key, offered_key}
pub use Rattle.ssh_print.specs.Explaining.{code_line, first_unknown_code}
pub use Rattle.ssh_print.specs.Offering.{Offered, shown_offer_in}
pub use Rattle.ssh_print.specs.OtherLines.{nothing_other, login_other, other_login}
pub use Rattle.ssh_print.specs.PossibleLines.{wanted_blob}
pub use Rattle.ssh_print.specs.ResponseView.{response}
pub use Rattle.ssh_print.specs.Responses.{no_file_response, Response, refused_response, value_response, usage_response, decision_response, vouch_response, decision_status}
pub use Rattle.ssh_print.specs.Showing.{Shows, IsFaultOfShow, show_fault_response, show_kind}
pub use Rattle.ssh_print.specs.ShownLines.{Finds}
pub use Rattle.ssh_print.specs.SshsigText.{sshsig_response}
pub use Rattle.ssh_print.specs.StandIn.{login_algorithm, stand_in}
pub use Rattle.ssh_print.specs.TextParts.{part_bytes, text_bytes}
pub use Rattle.ssh_print.specs.Texts.{hex_text, escaped_text, hex_pair, hex_digits, hex_digit, escaped_byte}
pub use Rattle.ssh_print.specs.declared.admission_text.Subject.{Subject}
pub use Rattle.ssh_print.specs.declared.explaining.ExplainError.{ExplainError}
pub use Rattle.ssh_print.specs.declared.explaining.ExplainError.TheVariants.{Unknown}
pub use Rattle.ssh_print.specs.declared.showing.ShowError.{ShowError}
pub use Rattle.ssh_print.specs.declared.showing.ShowKind.{ShowKind}
pub use Rattle.ssh_print.specs.declared.text.Part.{Part}
pub use Rattle.ssh_program.specs.Account.{NoneFailed, Account, failing, takes_nothing, taking, where_reported}
pub use Rattle.ssh_program.specs.Admissions.{AsksKey, reported_both, nothing_reported, telling, KeyAsking, beside_answer, beside_by, Otherness, IsReportedUnread, reported_by, reported_over, unread_fault, AsksBy, AsksFiles, AsksOffer, ReportedLines, offer_or_fault, or_shown_fault, reported_of, reported_response, denied_outcome, outcome_of, status_by, status_of}
pub use Rattle.ssh_program.specs.AdmissionsView.{reported_seen}
pub use Rattle.ssh_program.specs.AnswerSamples.{outcomes_summed, statuses_reported}
pub use Rattle.ssh_program.specs.FileNames.{AuditFiles, SshsigQuestion}
pub use Rattle.ssh_program.specs.FileNamesView.{question_of, files_seen}
pub use Rattle.ssh_program.specs.Audits.{host_by, login_by, Deciding, Audits, or_vouch_fault, vouched_in, answer_by, decided_by, after_vouching, vouched_or_fault, evidence_by, audit_response, IsAuditFault, IsVouchReadFault, decided_response, vouched_response, IsTrustReadFault, DecidesReader, refusal_of, answer_over, host_rests, login_rests}
pub use Rattle.ssh_program.specs.ChosenReads.{FailsOn, ReadsOn}
pub use Rattle.ssh_program.specs.CommandLine.{request_of, Request, request_in, with_options, program_app, spelled, option_rule}
pub use Rattle.ssh_program.specs.Digests.{answer_where, digest_bytes, IsDigest}
pub use Rattle.ssh_program.specs.Explanations.{explained_by, usage_after}
pub use Rattle.ssh_program.specs.FileAnswers.{IsFaultOf, AuditsFile, AuditsVouched, is_memory, AnswersFile}
pub use Rattle.ssh_program.specs.FileReviews.{telling_review, lines_before, with_file, review_of, ReviewsFiles}
pub use Rattle.ssh_program.specs.FileSamples.{faults_in_order, hash_faults_in_order, rewrite_kinds, signature_faults_in_order, trust_files_left, vouch_files_reported, vouch_files_written}
pub use Rattle.ssh_program.specs.GrantedRuns.{AsksFor, TellsHost, TellsLogin}
pub use Rattle.ssh_program.specs.Granting.{HostDenied, HostGranted, LoginDenied, LoginGranted, TrustsBytes, HostHeard, LoginHeard}
pub use Rattle.ssh_program.specs.Hashings.{Hashes, HashesBy, IsHashFault, hash_response, hashed_over, salts_in, salts_or_fault}
pub use Rattle.ssh_program.specs.Hosts.{RespondsToHostKey, RespondsToHost}
pub use Rattle.ssh_program.specs.Clients.{ClientOptions, client_asks, client_form, client_login, client_spelled, login_asking, login_with}
pub use Rattle.ssh_program.specs.ClientView.{client_seen}
pub use Rattle.ssh_program.specs.Fingerprints.{AsksFingerprint, AsksFound, IsUnreadFile, fingerprint_telling, fingerprint_reported, reported_absent, reported_alone, reported_alone_by, reported_fault, reported_found}
pub use Rattle.ssh_program.specs.KeyPlaces.{key_place, key_place_by}
pub use Rattle.ssh_program.specs.Keys.{host_asking, AdmitsAt, AdmitsInZone, FingerprintAsked}
pub use Rattle.ssh_program.specs.Logins.{RespondsInZone, RespondsToLogin}
pub use Rattle.ssh_program.specs.Options.{subcommand_name, option_word, subcommand_named, subcommands, names_id}
pub use Rattle.ssh_program.specs.Printing.{Breaks, TakesUpTo, TakesAll, WritesResponse}
pub use Rattle.ssh_program.specs.OfferTexts.{OptionTexts, RespondsByTexts, IsTextReadFault, IsTextsReadFault, after_text, after_texts, text_at, text_in, texts_at, text_on}
pub use Rattle.ssh_program.specs.OfferTextsView.{texts_seen, TakesText, TakesTexts, taken_seen}
pub use Rattle.ssh_program.specs.Requests.{RespondsBy, Answers, request_words, source_of, Responds, RespondsIn}
pub use Rattle.ssh_program.specs.Responding.{SignsDigest, SignsBody, SignsClaim, SignsMessage, SignsVouched, SignsAgain, SignsOne}
pub use Rattle.ssh_program.specs.NeededVouches.{RestsOn, VouchAlike, first_resting, second_resting, kept_by, evidence_found, wanted_in}
pub use Rattle.ssh_program.specs.ReviewForms.{FormAsked, as_lines, as_page, form_of, form_seen, review_form}
pub use Rattle.ssh_program.specs.Rewritings.{new_file, rewrite_over, RewritesFile, rewrite_kind, IsTrustFault, Rewrites, new_response}
pub use Rattle.ssh_program.specs.Samples.{host_values_in_order, login_asks_more, login_is_spelled, login_values_in_order, show_kinds, texts_of_files}
pub use Rattle.ssh_program.specs.Shows.{shown_part, ShowsFile, ShowsBytes}
pub use Rattle.ssh_program.specs.Spelled.{ReviewAsked, ReviewCall, RespondsToReview, review_kind_of, usual_minimum, ReviewsInZone}
pub use Rattle.ssh_program.specs.Spelling.{RespondsTo, value, given, or_fault, needed, value_or, audit_files, names_needed, sshsig_question, read_or, usual_port, IsReportedAs}
pub use Rattle.ssh_program.specs.Sshsigs.{Signs, IsContentFault, IsLastFault, IsSecondFault, IsSshsigReadFault, body_over, body_response, claim_answer, claim_over, claim_response, message_response, read_again, signature_response, vouched_over}
pub use Rattle.ssh_program.specs.Texts.{text_places, spelled_by, OptionText, TextPlace, TextPlaces}
pub use Rattle.ssh_program.specs.TextsView.{places_seen}
pub use Rattle.ssh_program.specs.Usage.{usage_line, usage_option}
pub use Rattle.ssh_program.specs.VouchLines.{HasBytes, vouch_file, vouch_line}
pub use Rattle.ssh_program.specs.Vouchings.{ByVouching, VouchesFor, again_in}
pub use Rattle.ssh_program.specs.ArgsSamples.{hosts_asked, key_places_asked, keys_asked, logins_asked, others_asked, reviews_asked, texts_are_asked, usage_reported, words_refused}
pub use Rattle.ssh_program.specs.ArgsView.{rows_in, request_in_memory, IfAnswered, FaultIs, Parses}
pub use Rattle.ssh_program.specs.declared.args.ArgName.{ArgName}
pub use Rattle.ssh_program.specs.declared.args.ArgName.TheVariants.{Zone, Kind}
pub use Rattle.ssh_program.specs.declared.args.Needed.{Needed}
pub use Rattle.ssh_program.specs.declared.args.Needed.TheVariants.{Required}
pub use Rattle.ssh_program.specs.declared.command.CommandError.{CommandError}
pub use Rattle.ssh_program.specs.declared.command.CommandError.TheVariants.{Usage, Value}
pub use Rattle.ssh_program.specs.declared.command.WordsError.{WordsError}
pub use Rattle.ssh_program.specs.declared.review.ReviewKind.{ReviewKind}
pub use Rattle.ssh_program.specs.declared.review.ReviewKind.TheVariants.{Auth, Known}
pub use Rattle.ssh_program.specs.declared.rewriting.NewFile.{NewFile}
pub use Rattle.ssh_program.specs.declared.rewriting.NewFile.TheVariants.{CanonicalAuth, CanonicalKnown, HashedKnown, ReadableAuth}
pub use Rattle.ssh_program.specs.declared.sshsig.MessageDigest.{MessageDigest}
pub use Rattle.ssh_program.specs.declared.subcommand.Subcommand.{Subcommand}
pub use Rattle.ssh_program.specs.declared.subcommand.Subcommand.TheVariants.{Show, Host, Rewrite, Readable, Hash, Admits, Trusts, Review, Explain}
pub use Rattle.ssh_program.specs.declared.texts.NoText.{NoText}
pub use Rattle.ssh_program.specs.declared.texts.NoText.TheVariants.{Reported}
pub use Rattle.ssh_program.specs.declared.texts.TakenText.{TakenText}
pub use Rattle.ssh_program.specs.declared.texts.TakenTexts.{TakenTexts}
pub use Rattle.ssh_program.specs.declared.vouching.Vouching.{Vouching}
pub use Rattle.ssh_program.specs.declared.vouching.Vouching.TheVariants.{Nothing, Held, Named}
pub use Rattle.ssh_review.specs.Reviews.{review, fault_review}
pub use Rattle.ssh_review.specs.declared.end.FileFault.TheVariants.{TooLong}
pub use Rattle.ssh_review.specs.declared.end.Form.{Form}
pub use Rattle.ssh_review.specs.declared.records.RecordForm.{RecordForm}
pub use Rattle.ssh_review.specs.declared.records.RecordForm.TheVariants.{AsLines}
pub use Rattle.ssh_rewriting.specs.Answer.{hashed}
pub use Rattle.ssh_rewriting.specs.declared.hash.HashError.{HashError}
pub use Rattle.ssh_rights.specs.declared.rights.Rights.{Rights}
pub use Rattle.ssh_rules.specs.declared.reason.Reason.{Reason}
pub use Rattle.ssh_text.proofs.LineLemmas.{lines_of-only}
pub use Rattle.ssh_text.specs.Text.{file_limit, lines_of, AreLines}
pub use Rattle.ssh_trust.proofs.HostMeaningLemmas.{host_means}
pub use Rattle.ssh_trust.proofs.MeaningLemmas.{login_means}
pub use Rattle.ssh_trust.proofs.TellingLemmas.{host_reported, login_reported}
pub use Rattle.ssh_trust.specs.Answer.{GivesOrMemory, OfClaim, RefusesAs, if_short, host_answer, login_answer}
pub use Rattle.ssh_trust.specs.HostDecision.{HostMeans, host_decision_by, revocation_cause}
pub use Rattle.ssh_trust.specs.HostScan.{host_scan_of}
pub use Rattle.ssh_trust.specs.LoginDecision.{LoginMeans, decision_by, decision_of, cause_by}
pub use Rattle.ssh_trust.specs.Reads.{AnswersReader}
pub use Rattle.ssh_trust.specs.SshsigAnswer.{vouched_answer}
pub use Rattle.ssh_trust.specs.Telling.{HostTells, LoginTells}
pub use Rattle.ssh_trust.specs.declared.decision.Cause.{Cause}
pub use Rattle.ssh_trust.specs.declared.decision.Decision.{Decision}
pub use Rattle.ssh_trust.specs.declared.decision.Decision.TheVariants.{Granted, Denied}
pub use Rattle.ssh_trust.specs.declared.decision.SshsigAnswer.TheVariants.{OtherNamespace}
pub use Rattle.ssh_trust.specs.declared.login_scan.Candidate.{Candidate}
pub use Rattle.ssh_wire.specs.Reading.{◌>>=◌}
pub use Rattle.std.proofs.Common.{ℕ, List, ◌≡◌, ap, ◌∙◌, Ok, Option, refl, sym, subst, Some, Err, rules, None, Result, length, inl, inr, arith, ◌++◌, map, true, drop, ◌<◌, [], false, ◌+◌, option_map, Bool, ◌∷◌, take, ◌≤◌, cond, get_or, codes, nat_lt, not, tests, ◌≢◌, ◌*◌, ◌/◌, ◌%◌, eqb, zero, suc, ◌&&◌, ltb, find, ap₂, ◌-◌}
pub use Rattle.std.proofs.Math.Dec.{eqb-suc-zero}
pub use Rattle.std.proofs.Math.Nat.{min-eq_left, div-add-mod}
pub use Rattle.std.proofs.Math.Seq.{take-append_seam, drop-append_seam}
pub use Rattle.std.proofs.lemmas.Bool.{lt-ltb, cases_Bool, ltb-true, and_parts, ne_eqb, ltb-false, lt-leb}
pub use Rattle.std.proofs.lemmas.Grind.{common_steps}
pub use Rattle.std.proofs.lemmas.Iterator.{YieldsList-from_slice}
pub use Rattle.std.proofs.lemmas.Iterator.Consumers.{YieldsList-from_copied}
pub use Rattle.std.proofs.lemmas.Iterator.Search.{find_from_yields_List, any_from_yields_List}
pub use Rattle.std.proofs.lemmas.List.{append-nil, length-append, take_all, append_assoc, drop_more, at_drop_more, drop_all, take-append-drop, length-take-le}
pub use Rattle.std.proofs.lemmas.List.Concat.{flat_map-append}
pub use Rattle.std.proofs.lemmas.List.Sums.{fold_more}
pub use Rattle.std.proofs.lemmas.Result.{err_from_is_err_and}
pub use Rattle.std.proofs.lemmas.Slice.Eq.{bytes_eq-Decides}
pub use Rattle.std.specs.Borrow.{Bor}
pub use Rattle.std.specs.Fmt.{decimal}
pub use Rattle.std.specs.List.{flat_map, position_or_len, AllByRecursion}
pub use Rattle.std.specs.Option.{ok_or}
pub use Rattle.std.specs.Prelude.{IfOk, ◌^◌, OnErr, min, option_and_then, ◌⊎◌, ◌↔◌, IfSome, IsSome, IsTrue, OnOk, slice_get, ⊤, if◌then◌else◌}
pub use Rattle.std.specs.Str.{bytes_eq}
