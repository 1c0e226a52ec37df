-- What the proofs of this crate name, passed on from one place.
pub use Rattle.ssh_certs.specs.Certificate.{Certificate, CertOption, packed_names, packed_options, rest_row, signed_row, IsCertificate, IsCertificateBlob}
pub use Rattle.ssh_certs.specs.CertificateFault.{CertificateFieldSort, long, short, text, names, options, signer, signature, sorts, certificate_front, tail_of, IsInRange, IsCut, NameIsCut, OptionIsCut, IsWrongField, InTail, InKey, IsLonger, IsOtherName, IsCertificateFaultWithin, IsCertificateFault}
pub use Rattle.ssh_certs.specs.CertificateOf.{certificate_of}
pub use Rattle.ssh_certs.specs.CertificateOptions.{has_formed, option_in, has_named, has_option, is_formed}
pub use Rattle.ssh_certs.specs.CertificateReading.{cert_option_at, as_fault, as_cert_error, certified_kind_from, items_in, names_at, options_at, signer_fault}
pub use Rattle.ssh_certs.specs.Holds.{holds}
pub use Rattle.ssh_certs.specs.Left.{options_left, principals_left}
pub use Rattle.ssh_certs.specs.OptionData.{one_string}
pub use Rattle.ssh_certs.specs.OptionFacts.{AreOnce, HasExtension, HasForm, HasText, InsistsOn, IsKnownOption, IsOneString, OfText}
pub use Rattle.ssh_certs.specs.OptionTable.{is_critical, certificate_option_name, certificate_options, fits, is_of_form, certificate_option_row}
pub use Rattle.ssh_certs.specs.Packed.{option_in_packed, without_items, names_in_packed, options_in_packed}
pub use Rattle.ssh_certs.specs.Parts.{certificate_of_parts}
pub use Rattle.ssh_certs.specs.View.{certificate_from}
pub use Rattle.ssh_certs.specs.Writing.{capped}
pub use Rattle.ssh_certs.specs.declared.options.CertificateOption.{CertificateOption}
pub use Rattle.ssh_certs.specs.declared.options.CertificateOption.TheVariants.{ForceCommand, SourceAddress, VerifyRequired, NoTouchRequired, PermitX11Forwarding, PermitAgentForwarding, PermitPortForwarding, PermitPty, PermitUserRc}
pub use Rattle.ssh_certs.specs.declared.options.DataForm.{DataForm}
pub use Rattle.ssh_certs.specs.declared.options.DataForm.TheVariants.{Empty, OneString}
pub use Rattle.ssh_certs.specs.declared.reading.CertError.{CertError}
pub use Rattle.ssh_certs.specs.declared.reading.CertError.TheVariants.{Options, Principals}
pub use Rattle.ssh_certs.specs.declared.writing.CertParts.{CertParts}
pub use Rattle.ssh_keys.proofs.KeyFaults.{fields_fault, key_fault}
pub use Rattle.ssh_keys.proofs.KeyLaws.{fields_take, fields_again, key_takes, key_again, find_some}
pub use Rattle.ssh_keys.proofs.SignatureFaults.{signature_fault}
pub use Rattle.ssh_keys.proofs.SignatureLaws.{signature_takes, signature_again}
pub use Rattle.ssh_keys.specs.FieldFaults.{IsFieldFault}
pub use Rattle.ssh_keys.specs.FirstFault.{IsFirstFault}
pub use Rattle.ssh_keys.specs.KeyOf.{key_of}
pub use Rattle.ssh_keys.specs.KeyReading.{ReadKey}
pub use Rattle.ssh_keys.specs.Names.{certificate_name_of, class_of, key_name_of, class_by, kinds}
pub use Rattle.ssh_keys.specs.PublicKey.{kind_of, fields_of, PublicKey, is_in_range, longest, IsKey, ed25519}
pub use Rattle.ssh_keys.specs.Signature.{Signature, IsSignature, signature_of}
pub use Rattle.ssh_keys.specs.SignatureFault.{IsSignatureFault}
pub use Rattle.ssh_keys.specs.declared.key.KeyError.{KeyError}
pub use Rattle.ssh_keys.specs.declared.kind.KeyKind.{KeyKind}
pub use Rattle.ssh_keys.specs.declared.kind.KeyKind.TheVariants.{Rsa, P256, P384, P521, Ed25519, SkP256, SkEd25519}
pub use Rattle.ssh_keys.specs.declared.kind.NameClass.{NameClass}
pub use Rattle.ssh_keys.specs.declared.kind.NameClass.TheVariants.{Plain, Retired, Other}
pub use Rattle.ssh_wire.proofs.RowLemmas.{bind_err, test_err, string_is_short, string_place}
pub use Rattle.ssh_wire.specs.Fronts.{IsBytes, Took, Keeps}
pub use Rattle.ssh_wire.specs.Laws.{string_takes, string_again, fine, bind_ok, string_fits, ok_is, Took-then, wide32, wide64, number_takes, number_again, guard_ok, refused_none, bind_inside}
pub use Rattle.ssh_wire.specs.Position.{Position, start, advance}
pub use Rattle.ssh_wire.specs.Reading.{◌>>=◌, number_at, Read, end_at, fault, Gives}
pub use Rattle.ssh_wire.specs.Spelling.{string, uint32, uint64}
pub use Rattle.ssh_wire.specs.Stands.{NoString, BeginsString}
pub use Rattle.ssh_wire.specs.declared.cursor.WireCause.{WireCause}
pub use Rattle.ssh_wire.specs.declared.cursor.WireCause.TheVariants.{Short, MpintNotMinimal, MpintNegative, Trailing, Value}
pub use Rattle.ssh_wire.specs.declared.cursor.WireError.{WireError}
pub use Rattle.std.proofs.Common.{◌≡◌, ap, arith, ℕ, List, refl, ◌∙◌, length, sym, ◌++◌, take, ◌<◌, ◌≤◌, [], ◌∷◌, subst, true, false, cond, Result, Ok, Err, ◌+◌, ◌^◌, Bool, ltb, zero, suc, append_assoc, ◌||◌, Some, ◌≢◌, inl, inr, ◌-◌, Option, rules, replicate, zero-add, nat_cmp, ◌&&◌, drop, map}
pub use Rattle.std.proofs.Math.Seq.{drop-length, take-length}
pub use Rattle.std.proofs.lemmas.Bool.{ltb-false, le-ltb, ltb-true, and_parts, eqb-true}
pub use Rattle.std.proofs.lemmas.List.{length-append, append-nil, take_at, nil_from_length, length-take, drop_at, take-append-drop, take-take}
pub use Rattle.std.proofs.lemmas.List.Concat.{flat_map-cons}
pub use Rattle.std.proofs.lemmas.List.Folds.{concat-append, Any-from_list_any, list_any-from_Any, flat_map-map, length-flat_map-take}
pub use Rattle.std.proofs.lemmas.Map.Text.{btree_map_updates_str}
pub use Rattle.std.proofs.lemmas.Result.{err_from_is_err_and}
pub use Rattle.std.proofs.lemmas.Slice.Eq.{bytes_eq-Decides}
pub use Rattle.std.specs.BTreeMap.{BTreeMap, UpdatesBy}
pub use Rattle.std.specs.Borrow.{Bor}
pub use Rattle.std.specs.Cmp.Lexicographic.{same_text, bytes_decides, nat_list_eq_equiv, slice_cmp}
pub use Rattle.std.specs.Int.{w32, w64, from_be_bytes, byte_len}
pub use Rattle.std.specs.List.{flat_map, list_any, AllByRecursion, concat, slice_index_or}
pub use Rattle.std.specs.Prelude.{None, is_some, codes, find, IsOk, ◌==◌, Any, Contains, option_and_then}
pub use Rattle.std.specs.Result.{result_unwrap_or, result_ok}
pub use Rattle.std.specs.Str.{bytes_eq}
