-- What the proofs of this crate name, passed on from one place.
pub use Rattle.base64.proofs.Decoding.{IsLeftover, IsLeftover_next}
pub use Rattle.base64.proofs.EngineFacts.{decode_of_strict, decode_of-encode_of}
pub use Rattle.base64.proofs.RoundTrip.{length-encode_symbols}
pub use Rattle.base64.proofs.Tables.{IsDecodeTable_from, are_tables_inverse}
pub use Rattle.base64.specs.Decode.{IsDecodeTable, or_else, symbol_error, group_error, group_bytes, groups_before_last, decode_group, decode_outcome, lone_error, push_leftover, scan_bytes, suffix_bytes, leftover_bytes, no_leftover}
pub use Rattle.base64.specs.Engines.{standard}
pub use Rattle.base64.specs.GeneralPurpose.{decode_of, IsBytes}
pub use Rattle.base64.specs.Rfc4648.{padding_len}
pub use Rattle.base64.specs.declared.decode.DecodeError.{DecodeError}
pub use Rattle.ssh_keys.proofs.KeyLaws.{key_again, key_takes}
pub use Rattle.ssh_keys.specs.Key.{key_or_none}
pub use Rattle.ssh_keys.specs.KeyReading.{kind_read}
pub use Rattle.ssh_keys.specs.Names.{class_of, key_name_of, certificate_name_of, class_by, kinds}
pub use Rattle.ssh_keys.specs.PublicKey.{PublicKey, kind_of, key_blob, IsKeyBlob}
pub use Rattle.ssh_keys.specs.declared.key.KeyError.{KeyError}
pub use Rattle.ssh_keys.specs.declared.kind.KeyKind.{KeyKind}
pub use Rattle.ssh_keys.specs.declared.kind.KeyKind.TheVariants.{Ed25519, Rsa, P256, P384, P521, SkP256, SkEd25519}
pub use Rattle.ssh_keys.specs.declared.kind.NameClass.{NameClass}
pub use Rattle.ssh_keys.specs.declared.kind.NameClass.TheVariants.{Plain, Certificate, Retired, Other}
pub use Rattle.ssh_entries.specs.AuthEntry.{AuthEntry}
pub use Rattle.ssh_entries.specs.AuthFaults.{HasOptions, IsAuthFault, IsKeyText, after_options, option_field}
pub use Rattle.ssh_entries.specs.AuthGrammar.{entry_of_key, entry_of, line_of_front, entry_after_options, SpellsEntry, SpellsOptions}
pub use Rattle.ssh_entries.specs.EntryFields.{entry_of_fields, needs_bytes}
pub use Rattle.ssh_entries.specs.Front.{begins_with, past_limit, remark, fields, front_of, LineFront, empty, front_of_body}
pub use Rattle.ssh_entries.specs.Hmac.{xor_each}
pub use Rattle.ssh_entries.specs.KeyPart.{has_no_bytes, KeyPart, key_after_fields, lacks_key, begins_with_type, is_type, key_of_blob, key_of_kind, key_by_class, SpellsKey, key_of_class}
pub use Rattle.ssh_entries.specs.KnownEntry.{KnownEntry}
pub use Rattle.ssh_entries.specs.KnownFaults.{HasFields, HasKey, IsKeyFault, field_of, IsTextFault, IsText, IsKnownFault}
pub use Rattle.ssh_entries.specs.KnownGrammar.{line_of_entry, line_by_first, known_line_of_front, revoked_by, known_entry_of_key, entry_of_names, names_cause, SpellsKnown, line_of_fields, RevokesBytes, IsUnreadableRevocation, HasNoBytes, fourth_field, revoked_of}
pub use Rattle.ssh_entries.specs.KnownSamples.{known_samples_read, known_faults_read, revocations_read, long_known_lines_read}
pub use Rattle.ssh_entries.specs.Markers.{authority_marker, revoked_marker, SpellsMarker}
pub use Rattle.ssh_entries.specs.Names.{base64, SpellsNames, Names, has_empty_item, IsTwentyBytes, hashed_field, hidden, name_hash, IsNamesFault, Patterns, Hashed, AreNames, begins_with_bar, if_twenty, names_by_hash, names_text}
pub use Rattle.ssh_entries.specs.NamesSamples.{field_samples_read, looked_up_names, hmac_samples}
pub use Rattle.ssh_entries.specs.Samples.{entry_samples_read, examples_read, every_option_read, option_faults_read, key_faults_read, long_lines_read}
pub use Rattle.ssh_entries.specs.declared.auth_line.AuthLine.{AuthLine}
pub use Rattle.ssh_entries.specs.declared.auth_line.AuthLine.TheVariants.{Unreadable, Entry}
pub use Rattle.ssh_entries.specs.declared.auth_view.EntryFields.{EntryFields}
pub use Rattle.ssh_entries.specs.declared.hashed.HashedName.{HashedName}
pub use Rattle.ssh_entries.specs.declared.known_line.KnownLine.{KnownLine}
pub use Rattle.ssh_entries.specs.declared.known_line.KnownLine.TheVariants.{Blank, Comment, Revoked, RevokedUnreadable}
pub use Rattle.ssh_entries.specs.declared.known_view.FirstField.{FirstField}
pub use Rattle.ssh_entries.specs.declared.known_view.Marker.{Marker}
pub use Rattle.ssh_entries.specs.declared.names.NamesError.{NamesError}
pub use Rattle.ssh_options.proofs.OptionFaultLemmas.{options_of-fault}
pub use Rattle.ssh_options.proofs.OptionLemmas.{is_option_name, stops_name, AreNameBytes, BeginsWithName, begins-items, other_byte, plain-from_name_byte, name_part-at, text_of-items, options_of-spelled, quotable}
pub use Rattle.ssh_options.proofs.ReadOptions.{read_options, text_cut, ReadOptions}
pub use Rattle.ssh_options.specs.AuthOption.{AuthOption}
pub use Rattle.ssh_options.specs.OptionFaults.{IsOptionsFault}
pub use Rattle.ssh_options.specs.OptionText.{option_text_of, options_of, SpellsItems, AreAllowed, name_part, is_name_byte}
pub use Rattle.ssh_options.specs.declared.option_text.LineCause.{LineCause}
pub use Rattle.ssh_patterns.proofs.CutLemmas.{after_mark-whole}
pub use Rattle.ssh_patterns.proofs.OctetLemmas.{and_then-some}
pub use Rattle.ssh_patterns.specs.Cut.{after_mark}
pub use Rattle.ssh_patterns.specs.Lists.{Item, item_of, pieces, pieces_left, items_of, length_left}
pub use Rattle.ssh_patterns.specs.Matching.{is_empty}
pub use Rattle.ssh_text.proofs.ReadText.{skipped, cr_cut, word-cut, skip_blanks-begins, IsCr, after_word-ends, spells-tail, comment_of-is}
pub use Rattle.ssh_text.proofs.TextLemmas.{ends_word, skip_blanks-after, skip_blanks-at_word, gap-differs, gap-test, comment_of-cr, comment_of-tail, first_word-at, after_word-at, without_cr-after}
pub use Rattle.ssh_text.specs.Text.{first_word, next_field, skip_blanks, body_of, after_word, line_limit, is_blank, without_cr, AreBlanks, begins_with_blank, comment_of, HasNoBlank, IsComment, SpellsTail, without_last, IsGap}
pub use Rattle.std.proofs.Common.{◌≡◌, sym, ℕ, List, ◌∙◌, ap, refl, arith, [], false, true, Bool, length, ◌∷◌, Ok, ◌++◌, subst, if◌then◌else◌, Result, Err, inl, inr, drop, bytes_eq, ◌≤◌, ◌≢◌, append_assoc, ◌==◌, take, Option, suc, codes, Some, None, zero, ◌<◌, ◌+◌, nat_lt, append-nil, ◌*◌, replicate, ◌||◌, not, IfOk, ◌/◌, slice_index, map, ◌⊎◌, rules, ◌-◌, ◌%◌, find, cond, eqb-true, bit_xor, get_or, option_copied}
pub use Rattle.std.proofs.Math.Seq.{drop-append_seam}
pub use Rattle.std.proofs.lemmas.Bool.{cases_Bool, le-ltb, ltb-false, cases_lt, and_parts, and_from, ltb-true, lt-ltb}
pub use Rattle.std.proofs.lemmas.List.{length-append, take_at, drop_all, take-append-drop, get_or-drop, get_or-take, get_or_past, length-take, length-drop, drop-replicate, length-map, drop_at, get_or_default}
pub use Rattle.std.proofs.lemmas.List.Edits.{map_over_more}
pub use Rattle.std.proofs.lemmas.List.Folds.{Any-from_list_any}
pub use Rattle.std.proofs.lemmas.Slice.Eq.{bytes_eq-Decides}
pub use Rattle.std.specs.Bool.{Decides}
pub use Rattle.std.specs.Int.{w32, to_be_bytes}
pub use Rattle.std.specs.List.{AllByRecursion, Any, list_all, list_any}
pub use Rattle.std.specs.Prelude.{IfErr}
