-- What the proofs of this crate name, passed on from one place.
pub use Rattle.base64.specs.Engines.{standard}
pub use Rattle.base64.specs.GeneralPurpose.{encode_of}
pub use Rattle.base64.specs.Rfc4648.{encode_group, encode, padding_len}
pub use Rattle.sha2.specs.Sha256.{sha256}
pub use Rattle.ssh_keys.specs.Curves.{curve_name_of, point_len_of}
pub use Rattle.ssh_keys.specs.FieldFaults.{KeyFieldSort, number, curve, point, public, text, sorts_of, IsWrong, IsOfKind, IsFieldFault}
pub use Rattle.ssh_keys.specs.Fingerprint.{IsBitCount, IsRsaSize, IsRsaAtLeast, has_fewer_digits, is_rsa_below}
pub use Rattle.ssh_keys.specs.FirstFault.{AreShort, IsSpelled, IsUnknownName, IsFaultWithin, InFields, IsFirstFault}
pub use Rattle.ssh_keys.specs.KeyOf.{key_of, blob_of}
pub use Rattle.ssh_keys.specs.KeyReading.{ReadKey, as_key_error, wants, kind_from, kind_read, in_range_or_fault}
pub use Rattle.ssh_keys.specs.Names.{key_name_of, class_of, class_by, kinds, certificate_name_of}
pub use Rattle.ssh_keys.specs.PublicKey.{PublicKey, rsa, ed25519, longest, p256, p384, p521, sk_p256, sk_ed25519, IsKey, kind_of, fields_of, IsKeyBlob, is_point, is_in_range, key_blob_row}
pub use Rattle.ssh_keys.specs.Samples.{fingerprint_samples, key_samples_read, signature_samples_read}
pub use Rattle.ssh_keys.specs.Signature.{Signature, is_sk_algorithm, sk_row, is_sk_in_range, signature_row, IsSignature, IsSignatureBlob}
pub use Rattle.ssh_keys.specs.SignatureFault.{IsSpelledSignature, IsFaultOfFields, IsPastLimit, IsSignatureFault}
pub use Rattle.ssh_keys.specs.View.{public_key}
pub use Rattle.ssh_keys.specs.declared.key.KeyError.{KeyError}
pub use Rattle.ssh_keys.specs.declared.kind.Curve.{Curve}
pub use Rattle.ssh_keys.specs.declared.kind.Curve.TheVariants.{Nistp256, Nistp384, Nistp521}
pub use Rattle.ssh_keys.specs.declared.kind.KeyKind.{KeyKind}
pub use Rattle.ssh_keys.specs.declared.kind.KeyKind.TheVariants.{Ed25519, Rsa, P256, P384, P521, SkP256, SkEd25519}
pub use Rattle.ssh_wire.proofs.RowLemmas.{bind_err, string_is_short, stops_first, stops_after, goes_on_after, IsRenamed, stops_renamed, goes_on_renamed, test_err}
pub use Rattle.ssh_wire.specs.Fronts.{IsBytes, Took}
pub use Rattle.ssh_wire.specs.Laws.{string_takes, string_again, fine, ok_is, Took-then, bind_ok, wide32, number_again, refused_none, guard_ok, no_prefix_of, number_takes}
pub use Rattle.ssh_wire.specs.Mpint.{number_of}
pub use Rattle.ssh_wire.specs.MpintLaws.{mpint_takes, IsBytes-reverse, mpint_again, mpint_bytes-are_least}
pub use Rattle.ssh_wire.specs.Position.{Position, start, advance}
pub use Rattle.ssh_wire.specs.Reading.{◌>>=◌, end_at, Read, byte_at, number_at, fault}
pub use Rattle.ssh_wire.specs.Rows.{GoesOnAt, StopsAt, row_by, FitsBy}
pub use Rattle.ssh_wire.specs.Spelling.{string, natural, is_least, mpint, uint32, worth, is_not_negative}
pub use Rattle.ssh_wire.specs.Stands.{NoString, BeginsString}
pub use Rattle.ssh_wire.specs.declared.cursor.WireCause.{WireCause}
pub use Rattle.ssh_wire.specs.declared.cursor.WireCause.TheVariants.{Value, Short, Trailing, MpintNotMinimal, MpintNegative}
pub use Rattle.ssh_wire.specs.declared.cursor.WireError.{WireError}
pub use Rattle.std.proofs.Common.{ℕ, arith, ◌≡◌, refl, List, ◌∙◌, length, sym, ap, subst, ◌<◌, ◌≤◌, ◌++◌, ◌^◌, ◌+◌, true, [], false, ◌∷◌, Ok, take, Bool, cond, ltb, Err, suc, inl, inr, Result, Some, zero, eqb, None, ◌*◌, drop, ◌⊎◌, not, append_assoc, zero-add, ◌-◌, reverse, get_or, ◌≢◌, replicate, rules}
pub use Rattle.std.proofs.Math.Nat.{pow-le-pow_right, mul-le-mul_left, pow-succ'}
pub use Rattle.std.proofs.lemmas.Bool.{lt-ltb, ltb-true, ltb-false, le-ltb, eqb-true, eqb-false, cases_lt, ne_eqb, le-leb, lt-leb}
pub use Rattle.std.proofs.lemmas.List.{length-append, append-nil, reverse-append, length-reverse, length-take, take-append-drop}
pub use Rattle.std.proofs.lemmas.Nat.{pow-add, leading_top}
pub use Rattle.std.proofs.lemmas.Slice.Eq.{bytes_eq-Decides}
pub use Rattle.std.specs.Bool.{Decides, one_answer}
pub use Rattle.std.specs.Cmp.Lexicographic.{bytes_decides, same_text}
pub use Rattle.std.specs.Int.{w32, byte_len, from_be_bytes}
pub use Rattle.std.specs.Int.Count.{count_leading_zeros, leading_of_zero}
pub use Rattle.std.specs.List.{concat}
pub use Rattle.std.specs.Prelude.{nat_lt, ◌&&◌, codes, Option, is_some, OnOk, find, ◌||◌, nat_le, IsTrue, if◌then◌else◌, IfOk}
pub use Rattle.std.specs.Str.{bytes_eq}
pub use Rattle.std.specs.String.{string_bytes}
