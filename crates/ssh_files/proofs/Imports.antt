-- What the proofs of this crate name, passed on from one place.
pub use Rattle.hex.specs.Hex.{decode_of, digit_or_error, ◌>>=◌}
pub use Rattle.hex.specs.declared.error.FromHexError.{FromHexError}
pub use Rattle.hex.specs.declared.error.FromHexError.TheVariants.{OddLength, OutOfMemory}
pub use Rattle.ssh_files.specs.FilesInTurn.{Telling, TellsFile, TellsFiles}
pub use Rattle.ssh_files.specs.Loading.{within_limit, LoadsPart, KeepsOthers, NoReadFailed, OneReadFailed, IsLeft, IsTooLong, Loads}
pub use Rattle.ssh_files.specs.Parts.{cut_at_line, after_whole, has_line_end, is_line_end, top_line, cut_at_empty, after_part, part_at}
pub use Rattle.ssh_files.specs.Samples.{empty_principals_read, hex_read, hex_refused, numbers_read, numbers_refused, salts_read, zone_texts, vouch_files_read, vouch_files_refused, parts_read, words_read}
pub use Rattle.ssh_files.specs.Seekers.{is_wanted, lines_rest, next_number, or_found, with_verdict, seeker_rest, cut_rest, field_rest, fields_after, fields_rest, from_place, in_field_rest, is_start, key_wanted, triple_verdict, message_of, place_rest, rest_in_field, same_value, signature_wanted, unless_fault, value_rest, value_with, both, second_rest}
pub use Rattle.ssh_files.specs.Seeking.{wanted_of, TellsOf, is_wanted_among}
pub use Rattle.ssh_files.specs.SourceState.{SourceState, IfTells, next_choice, standard_input, bytes_at, choosing, left_of, left_with, dash, Chosen, ReadsKnown, named_file, nothing}
pub use Rattle.ssh_files.specs.Values.{hex_value, pair_value, pair_values, prepend, hex_bytes, is_digit, number_below}
pub use Rattle.ssh_files.specs.VouchFile.{is_skipped, triple_of, cut_at_space, has_space, signed_of, vouched_from, with_signed}
pub use Rattle.ssh_files.specs.Words.{is_space, is_text, keeps_words, begins_with_text, is_filled, words_in}
pub use Rattle.ssh_files.specs.declared.part.Found.{Found}
pub use Rattle.ssh_files.specs.declared.read.ReadError.{ReadError}
pub use Rattle.ssh_files.specs.declared.seeker.Digits.{Digits}
pub use Rattle.ssh_files.specs.declared.seeker.Digits.TheVariants.{Nothing, Dash}
pub use Rattle.ssh_files.specs.declared.seeker.Field.{Field}
pub use Rattle.ssh_files.specs.declared.seeker.FieldName.{FieldName}
pub use Rattle.ssh_files.specs.declared.seeker.FieldName.TheVariants.{Key}
pub use Rattle.ssh_files.specs.declared.seeker.Place.{Place}
pub use Rattle.ssh_files.specs.declared.seeker.Place.TheVariants.{Start, Comment, Broken, InField}
pub use Rattle.ssh_offers.specs.Vouching.{is_same}
pub use Rattle.ssh_offers.specs.declared.claim.Signed.{Signed}
pub use Rattle.ssh_text.specs.Text.{file_limit, lines_of}
pub use Rattle.std.proofs.Common.{ℕ, List, ◌≡◌, ◌∙◌, length, ap, Some, None, sym, true, ◌++◌, refl, Option, Bool, false, ◌+◌, cond, [], ◌∷◌, arith, ◌≤◌, take, inl, inr, ◌-◌, ◌==◌, suc, rules, ◌<◌, Result, Ok, Err, nat_lt, ltb, ◌&&◌, map, subst, ◌||◌, min, zero, not, nat_le, drop, filter, ◌⊎◌, ◌*◌, ◌%◌, ◌^◌, if◌then◌else◌, vec_len}
pub use Rattle.std.proofs.lemmas.Bool.{ne_eqb, lt-ltb, ltb-false, cases_Bool, ltb-true, le-ltb, eqb-true, eq-eqb, le-leb, and_parts, leb-true}
pub use Rattle.std.proofs.lemmas.List.{append-nil, length-take, take_all, append_assoc, take-append-le, length-append, length-take-le}
pub use Rattle.std.proofs.lemmas.Str.{utf8_valid_len-IsUtf8}
pub use Rattle.std.specs.Borrow.{Bor}
pub use Rattle.std.specs.Char.{digit_value}
pub use Rattle.std.specs.List.{position_or_len, onto_first, position, list_all, slice_split, prefix_len}
pub use Rattle.std.specs.Prelude.{option_map, IfSome, is_some, option_and_then, OkIff, unwrap_or}
pub use Rattle.std.specs.Result.{result_ok}
pub use Rattle.std.specs.Str.{bytes_eq, IsUtf8, IsValidUpTo}
pub use Rattle.std.specs.Str.Lossy.{utf8_valid_len}
pub use Rattle.std.specs.Str.Parse.{AllDigits, IsNumeral, ParsesUnsigned, digits_value, without_leading_plus}
