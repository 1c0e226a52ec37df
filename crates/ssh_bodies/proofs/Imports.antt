-- What the proofs of this crate name, passed on from one place.
pub use Rattle.ssh_bodies.specs.BodyReading.{as_body_error, body_wants, magic_at, last_at, of_key, ReadBody, of_inner}
pub use Rattle.ssh_bodies.specs.PrivateFault.{PrivateStands, InSection, IsPrivateFieldFault, IsPrivateFault}
pub use Rattle.ssh_bodies.specs.PrivateFrom.{private_key}
pub use Rattle.ssh_bodies.specs.PrivateKey.{public_of, PrivateBody, is_private_in_range, padding, private_magic, private_fields, least_padding, private_blob, IsPrivateBody, private_row, PrivateKey, private_rsa, private_p256, private_p384, private_p521, private_ed25519, private_sk_p256, private_sk_ed25519, padding_after, section, IsPadded, IsPrivateBlob, private_with}
pub use Rattle.ssh_bodies.specs.PrivateMaking.{range_fault}
pub use Rattle.ssh_bodies.specs.PrivateOf.{private_body}
pub use Rattle.ssh_bodies.specs.PrivateReading.{is_padding, RsaNumbers, OnCurve, KeyHandle, on_curve_at}
pub use Rattle.ssh_bodies.specs.SectionFault.{section_row, IsBodyOf, SectionStands, NoCheck, NoSectionText, SectionFieldSort, number, text, byte, section_sorts_of, IsField, AreFields, IsMissing, StopsShort, IsSectionFault}
pub use Rattle.ssh_bodies.specs.Sshsig.{Sshsig, sshsig_magic, hash_name, IsSshsig, sshsig_row, IsSshsigBlob, digest_of}
pub use Rattle.ssh_bodies.specs.SshsigFault.{IsSpelledSshsig, SshsigStands, IsSshsigFieldFault, IsSshsigFault}
pub use Rattle.ssh_bodies.specs.SshsigMaking.{IsSshsigWith, sshsig_with}
pub use Rattle.ssh_bodies.specs.SshsigOf.{sshsig_of}
pub use Rattle.ssh_bodies.specs.SshsigReading.{hash_from}
pub use Rattle.ssh_bodies.specs.declared.error.BodyError.{BodyError}
pub use Rattle.ssh_bodies.specs.declared.sshsig.HashName.{HashName}
pub use Rattle.ssh_bodies.specs.declared.sshsig.HashName.TheVariants.{Sha256, Sha512}
pub use Rattle.ssh_keys.proofs.KeyFaults.{key_fault}
pub use Rattle.ssh_keys.proofs.KeyLaws.{key_takes, key_again, and_ok, name_short}
pub use Rattle.ssh_keys.proofs.Ranges.{key_from_takes, key_from_again}
pub use Rattle.ssh_keys.proofs.SignatureFaults.{signature_fault}
pub use Rattle.ssh_keys.proofs.SignatureLaws.{signature_takes, signature_again, byte_takes}
pub use Rattle.ssh_keys.specs.FirstFault.{IsFirstFault}
pub use Rattle.ssh_keys.specs.KeyOf.{key_of}
pub use Rattle.ssh_keys.specs.KeyReading.{key_from}
pub use Rattle.ssh_keys.specs.Names.{key_name_of}
pub use Rattle.ssh_keys.specs.PublicKey.{PublicKey, longest, IsKey, kind_of, ed25519, rsa, p256, p384, p521, sk_p256, sk_ed25519, is_in_range, fields_of}
pub use Rattle.ssh_keys.specs.Signature.{IsSignature, Signature}
pub use Rattle.ssh_keys.specs.View.{public_key}
pub use Rattle.ssh_keys.specs.declared.key.KeyError.{KeyError}
pub use Rattle.ssh_wire.proofs.RowLemmas.{string_is_short, test_err}
pub use Rattle.ssh_wire.specs.Fronts.{IsBytes, Took, Keeps}
pub use Rattle.ssh_wire.specs.Laws.{ok_is, fine, string_fits, Took-then, string_takes, string_again, refused_none, IsBytes-drop, wide32, number_takes, number_again, bind_inside, bind_same, guard_ok}
pub use Rattle.ssh_wire.specs.MpintLaws.{mpint_takes, mpint_again}
pub use Rattle.ssh_wire.specs.Position.{Position, start, advance}
pub use Rattle.ssh_wire.specs.Reading.{number_at, ◌>>=◌, byte_at, Read, Gives, fault}
pub use Rattle.ssh_wire.specs.Spelling.{string, uint32, mpint, natural, is_least, is_not_negative}
pub use Rattle.ssh_wire.specs.Stands.{NoString, Stands, NoNumber}
pub use Rattle.ssh_wire.specs.declared.cursor.WireCause.{WireCause}
pub use Rattle.ssh_wire.specs.declared.cursor.WireCause.TheVariants.{Short, Value, MpintNotMinimal, MpintNegative}
pub use Rattle.ssh_wire.specs.declared.cursor.WireError.{WireError}
pub use Rattle.std.proofs.Common.{arith, refl, ap, ◌≡◌, ℕ, length, ◌∙◌, List, sym, [], subst, Bool, true, ◌∷◌, ◌++◌, ◌+◌, ◌<◌, false, Ok, Err, ◌^◌, ◌≤◌, ltb, take, eqb, ◌≢◌, cond, Result, ◌%◌, append_assoc, drop, ◌-◌, inl, inr, replicate, ◌⊎◌, zero-add, zero, suc, get_or, not, None, rules}
pub use Rattle.std.proofs.lemmas.Bool.{eqb-true, eqb-false, ltb-true, ltb-false, lt-ltb, leb-true, le-leb, le-ltb, ne_eqb}
pub use Rattle.std.proofs.lemmas.List.{length-append, append-nil, length-drop, take_at, drop_at, drop-drop, take-append-drop, ext_get_or, take-take, take_all}
pub use Rattle.std.proofs.lemmas.Slice.Eq.{bytes_eq-Decides}
pub use Rattle.std.specs.Int.{w32, byte_len, from_be_bytes}
pub use Rattle.std.specs.List.{concat, flat_map}
pub use Rattle.std.specs.Prelude.{codes, ◌&&◌, nat_le, ◌==◌, OnOk, OnErr}
pub use Rattle.std.specs.Str.{bytes_eq}
