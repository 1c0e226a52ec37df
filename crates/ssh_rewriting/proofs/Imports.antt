-- What the proofs of this crate name, passed on from one place.
pub use Rattle.base64.proofs.RoundTrip.{length-encode_symbols}
pub use Rattle.base64.specs.Engines.{standard}
pub use Rattle.base64.specs.Rfc4648.{padding_len, encoded_size}
pub use Rattle.ssh_keys.specs.Names.{key_name_of}
pub use Rattle.ssh_keys.specs.PublicKey.{kind_of, key_blob, PublicKey}
pub use Rattle.ssh_entries.proofs.AuthLemmas.{auth_line-spelled}
pub use Rattle.ssh_entries.proofs.ByteLemmas.{AreBytes, AreBytes-from, AreBytes-front, AreBytes-back, IsBytes-from_all}
pub use Rattle.ssh_entries.proofs.HashedLemmas.{hidden-spelled, length-hashed}
pub use Rattle.ssh_entries.proofs.KeyLemmas.{HasNoBlank-append, HasNoBlank-from_test, base64-no_blank, index-passes, list_all-append, replicate-passes}
pub use Rattle.ssh_entries.proofs.ReadAuth.{auth_line-spells}
pub use Rattle.ssh_entries.proofs.ReadKnown.{known_line-spells, known_line-spelled}
pub use Rattle.ssh_entries.specs.AuthEntry.{AuthEntry}
pub use Rattle.ssh_entries.specs.AuthGrammar.{auth_line, SpellsEntry, SpellsOptions}
pub use Rattle.ssh_entries.specs.Front.{begins_with}
pub use Rattle.ssh_entries.specs.KeyPart.{SpellsKey}
pub use Rattle.ssh_entries.specs.KnownEntry.{KnownEntry}
pub use Rattle.ssh_entries.specs.KnownGrammar.{known_line, SpellsKnown}
pub use Rattle.ssh_entries.specs.Markers.{SpellsMarker, authority_marker}
pub use Rattle.ssh_entries.specs.Names.{hidden, base64, Names, names_text, IsTwentyBytes, name_hash, NamesHost, lookup_name, Patterns, Hashed, hashed_field, list_of, SpellsNames}
pub use Rattle.ssh_entries.specs.declared.auth_line.AuthLine.{AuthLine}
pub use Rattle.ssh_entries.specs.declared.known_line.KnownLine.{KnownLine}
pub use Rattle.ssh_entries.specs.declared.known_line.KnownLine.TheVariants.{Entry}
pub use Rattle.ssh_entries.specs.declared.known_view.Marker.{Marker}
pub use Rattle.ssh_options.proofs.OptionLemmas.{AreNameBytes, other_byte, spelled-bytes}
pub use Rattle.ssh_options.specs.AuthOption.{AuthOption}
pub use Rattle.ssh_options.specs.OptionNames.{same_name}
pub use Rattle.ssh_options.specs.OptionText.{option_name, value_part, SpellsOption, SpellsItems, escaped}
pub use Rattle.ssh_options.specs.OptionsInLine.{option_in_line}
pub use Rattle.ssh_patterns.proofs.MatchLemmas.{or_left, or_right}
pub use Rattle.ssh_patterns.proofs.PermitLaw.{permits-tells, lower-tells, not-true}
pub use Rattle.ssh_patterns.specs.Lists.{pieces, pieces_left, item_of, items_of, permits, is_match_in_lower_case, MatchesInLowerCase, length_left}
pub use Rattle.ssh_patterns.specs.Matching.{is_match}
pub use Rattle.ssh_rewriting.specs.Answer.{hashed, rewritten}
pub use Rattle.ssh_rewriting.specs.Bounded.{bounded_lines, bounded_line}
pub use Rattle.ssh_rewriting.specs.Canonical.{comment_part, marker_part, option_text, key_text, options_part, line_with_names, after_comma, canonical_auth, canonical_known}
pub use Rattle.ssh_rewriting.specs.CanonicalFile.{file_with, auth_written, known_written, auth_or_same, known_or_same, canonical_auth_file, canonical_known_file}
pub use Rattle.ssh_rewriting.specs.Facts.{known_facts, auth_facts}
pub use Rattle.ssh_rewriting.specs.HashedFile.{names_hidden, hidden_entry, hashed_file, hashed_lines, are_plain, hashed_length, hashed_line, lower_names, hidden_names, lines_in_place, hashed_facts, state_in_place, names_of_hidden, is_hidden, is_pattern_byte}
pub use Rattle.ssh_rewriting.specs.HashedNames.{AddsNoName, KeepsNames, IsNamed, SharesHash}
pub use Rattle.ssh_rewriting.specs.Samples.{auth_samples_written, known_samples_written, auth_files_written, hashed_files_written, known_files_written}
pub use Rattle.ssh_rewriting.specs.declared.rewrite.RewriteError.TheVariants.{TooLong}
pub use Rattle.ssh_text.proofs.LineLemmas.{lines_of-are}
pub use Rattle.ssh_text.proofs.NewlineLemmas.{lines_of-whole}
pub use Rattle.ssh_text.specs.Scan.{HasNoNewline, with_newlines}
pub use Rattle.ssh_text.specs.Text.{lines_of, numbered, line_limit, file_limit, HasNoBlank, AreLines, SpellsTail, IsGap}
pub use Rattle.ssh_wire.specs.Fronts.{Keeps}
pub use Rattle.std.proofs.Common.{◌≡◌, ap, ◌∙◌, sym, [], length, ◌++◌, refl, arith, ℕ, List, ◌∷◌, ◌≤◌, subst, ◌+◌, length-append, map, drop, append_assoc, false, inl, inr, true, append-nil, ◌<◌, nat_le, zero, suc, Bool, Ok, Err, length-drop, ◌≢◌, ◌/◌, ◌%◌, not, ◌==◌, codes, replicate, ◌⊎◌, bytes_eq, rules, option_copied, nat_lt, ◌-◌, ◌*◌, slice_index, take, ◌||◌, ◌&&◌, decimal, nat_eq}
pub use Rattle.std.proofs.lemmas.Bool.{and_parts, lt-ltb, le-ltb, cases_lt, eqb-false, leb-true, cases_Bool, ne_eqb, or_cases, or_parts}
pub use Rattle.std.proofs.lemmas.List.{length-map, map-append, length-replicate, take_at, take-append-drop, take-take}
pub use Rattle.std.proofs.lemmas.Result.{err_from_is_err_and}
pub use Rattle.std.proofs.lemmas.Slice.Eq.{bytes_eq-Decides}
pub use Rattle.std.proofs.lemmas.Str.Ascii.{lowercase_is, lowercase-lowercase}
pub use Rattle.std.specs.Char.{to_ascii_lowercase}
pub use Rattle.std.specs.Fmt.{digits_onto, digit_glyph}
pub use Rattle.std.specs.List.{flat_map, AllByRecursion, zip, join_with_byte, list_all, Contains, list_any, onto_first}
pub use Rattle.std.specs.Prelude.{None, Some, if◌then◌else◌, Option, slice_index_or, cond, Result}
pub use Rattle.std.specs.Result.{is_ok, OnOk}
pub use Rattle.std.specs.Str.{str_to_ascii_lowercase}
