-- What the proofs of this crate name, passed on from one place.
pub use Rattle.memchr.specs.Find.{Nowhere, Passes, is_byte, is_byte2}
pub use Rattle.ssh_text.specs.Kept.{Kept, KeepsLine, kept_count}
pub use Rattle.ssh_text.specs.Pieces.{ComeOut, ComesLast, ComeOutOf}
pub use Rattle.ssh_text.specs.Samples.{file_samples_read, piece_samples_read}
pub use Rattle.ssh_text.specs.Scan.{StandsFor, HasNoNewline, has_newline, up_to_newline, unfinished, with_newlines, whole_lines, IsLastLine, lines_begun, is_newline, after_newline, Scan, IsScan, open_count}
pub use Rattle.ssh_text.specs.Text.{without_trailing, line_len, lines_of, is_trailing, before_trailing, is_blank, skip_blanks, first_word, after_word, numbered, without_cr, comment_of, AreBlanks, begins_with_blank, IsComment, SpellsTail, line_limit, without_last, ends_with, AreLines, HasNoBlank}
pub use Rattle.std.proofs.Common.{sym, ◌≡◌, length, ap, refl, ◌∙◌, arith, false, [], ◌∷◌, true, ℕ, List, ◌++◌, ◌+◌, ◌<◌, take, ◌==◌, suc, append_assoc, subst, ◌≢◌, Bool, inl, inr, append-nil, zero, ◌-◌, slice_index, drop, cond, if◌then◌else◌, ◌≤◌, ◌^◌, ◌||◌, ◌⊎◌, ◌↔◌, IsTrue, not, bytes_eq}
pub use Rattle.std.proofs.lemmas.Bool.{eqb-true, ne_eqb, eqb-false, cases_Bool, false_from_ne_true, eq-eqb}
pub use Rattle.std.proofs.lemmas.List.{take_all, length-append, take_more, take-append-drop, length-drop}
pub use Rattle.std.proofs.lemmas.List.Sums.{sum_by-append}
pub use Rattle.std.specs.List.{AllByRecursion, onto_first, count_by, concat}
pub use Rattle.std.specs.Prelude.{Some, slice_get}
