-- What the proofs of this crate name, passed on from one place.
pub use Rattle.ssh_wire.specs.Fronts.{IsBytes, IsRefused}
pub use Rattle.ssh_wire.specs.Laws.{refused_none, number_takes, wide32, number_again, string_again, no_prefix_of, IsBytes-drop, wide64}
pub use Rattle.ssh_wire.specs.MpintLaws.{mpint_bytes-natural, mpint_bytes-are_least, mpint_again}
pub use Rattle.ssh_wire.specs.Position.{Position, start, advance}
pub use Rattle.ssh_wire.specs.Reading.{◌>>=◌, Read, fault, number_at, pair_at}
pub use Rattle.ssh_wire.specs.Rows.{StopsAt, GoesOnAt, row_by, FitsBy, number_and_string, FitBoth}
pub use Rattle.ssh_wire.specs.Spelling.{natural, is_least, is_not_negative, worth, mpint, uint32, string}
pub use Rattle.ssh_wire.specs.declared.cursor.WireCause.TheVariants.{Short, MpintNotMinimal, MpintNegative, Trailing}
pub use Rattle.ssh_wire.specs.declared.cursor.WireError.{WireError}
pub use Rattle.std.proofs.Common.{arith, ◌∙◌, sym, ◌≡◌, ◌^◌, Err, refl, ℕ, suc, ◌+◌, ◌<◌, Bool, true, false, not, ltb, List, [], ◌++◌, length, ap, inl, inr, subst, ◌*◌, ◌≤◌, eqb, ◌∷◌, reverse, eq-eqb, ◌≢◌, cond, take, Result, Ok, append_assoc, ◌⊎◌, rules}
pub use Rattle.std.proofs.lemmas.Bool.{cases_lt, ltb-true, lt-ltb, le-ltb, lt-leb, ne_eqb}
pub use Rattle.std.proofs.lemmas.Grind.{common_steps}
pub use Rattle.std.proofs.lemmas.List.{reverse-append, append-nil, length-append}
pub use Rattle.std.proofs.lemmas.Slice.Eq.{bytes_eq-Decides}
pub use Rattle.std.specs.Int.{Width, w32, byte_len, from_be_bytes, w64}
pub use Rattle.std.specs.List.{concat}
pub use Rattle.std.specs.Prelude.{nat_lt, nat_le, ◌&&◌, ◌||◌}
pub use Rattle.std.specs.Str.{bytes_eq}
