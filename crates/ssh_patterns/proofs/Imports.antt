-- What the proofs of this crate name, passed on from one place.
pub use Rattle.memchr.specs.Find.{Nowhere, Passes, is_byte}
pub use Rattle.ssh_patterns.specs.AddressReading.{groups_of_parts, octet_before, by_cut, v4_before_slash, octet_of}
pub use Rattle.ssh_patterns.specs.AddressText.{dotted, colon, AreOctets, IsAddressText, AreGroups, AreGroupsAtEnd, IsGroup, pairs, AreEightGroups, dot, before_dotted}
pub use Rattle.ssh_patterns.specs.Block.{Block, width, block_number, size}
pub use Rattle.ssh_patterns.specs.Cut.{cut_at, after_mark, cut_here, cut_near}
pub use Rattle.ssh_patterns.specs.Digits.{number_to_base, number_in_radix, below, decimal_of}
pub use Rattle.ssh_patterns.specs.Groups.{few, groups_in}
pub use Rattle.ssh_patterns.specs.Lists.{is_match_in_lower_case, Item, items_of, permits, Source, source_item, is_bad_source, permit, is_yes, has_slash, is_address, host_matches, Permits, MatchesInLowerCase, FitsAddress, FitsSource, IsBadSource, cidr_item, IsBadCidr, is_bad_cidr, length_left, item_of, pieces, is_v6_address, net_has, OnHost, pieces_left}
pub use Rattle.ssh_patterns.specs.Matching.{is_match, star, question, folded, is_empty, some_rest, first_and_rest, after_star, after_byte, Matches}
pub use Rattle.ssh_patterns.specs.Nets.{slash, prefix_of, ◌>>=◌, IsNetText, HasBase, HasHostBits, AreOfOneFamily, LiesIn, same_family, in_net, net_from, net_if_slash, same_address}
pub use Rattle.ssh_patterns.specs.Samples.{matching_samples, address_samples, net_samples, list_samples}
pub use Rattle.ssh_patterns.specs.declared.address.Address.{Address}
pub use Rattle.ssh_patterns.specs.declared.address.Address.TheVariants.{V4, V6}
pub use Rattle.ssh_patterns.specs.declared.address.PatternError.{PatternError}
pub use Rattle.ssh_patterns.specs.declared.list.Permit.{Permit}
pub use Rattle.ssh_patterns.specs.declared.list.Permit.TheVariants.{Yes, Bad}
pub use Rattle.ssh_patterns.specs.declared.pattern.Case.TheVariants.{Exact}
pub use Rattle.std.proofs.Common.{sym, ◌∙◌, arith, ◌≡◌, ap, length, ℕ, refl, List, true, Bool, false, ◌∷◌, ◌==◌, [], if◌then◌else◌, Some, ◌+◌, None, ◌≤◌, inl, inr, Option, ◌<◌, ◌++◌, ◌||◌, map, ◌*◌, option_map, append_assoc, length-append, drop, nat_lt, codes, lit≤, get_or, ◌&&◌, not, ◌↔◌, decimal, ◌-◌, ok_or, suc, take, option_and_then, ◌%◌, IsTrue, zero, add-one, ◌^◌, ◌/◌, Result, Ok, Err, option_copied, replicate, IfOk, ◌≢◌, IfSome, nat_le, w32, min, slice_index, cond, add-zero, add-suc, MatchBool, is_some, is_ok, ◌⊎◌, rules}
pub use Rattle.std.proofs.Math.Bool.{or-false}
pub use Rattle.std.proofs.Math.Nat.{pow-le-pow_right, mod-eq_of_lt, one-le-pow, mul-le-mul_left, pow-suc, div-eq_of_lt}
pub use Rattle.std.proofs.Math.Pow.{pow_mono}
pub use Rattle.std.proofs.Math.Seq.{drop-cons, take-suc, drop-nil}
pub use Rattle.std.proofs.lemmas.Bool.{lt-ltb, eqb-true, and_parts, eq-eqb, le-ltb, cases_lt, ne_eqb, or_cases, false≢true, ltb-true, le-leb, and_from, eqb-false, false_from_ne_true, lt-leb, ltb-false, leb-false, leb-true}
pub use Rattle.std.proofs.lemmas.Bool.Decides.{Decides-eqb}
pub use Rattle.std.proofs.lemmas.Fmt.{length-decimal-le, decimal_is_IsNumeral, decimal_digit, first_decimal, decimal-digits_value}
pub use Rattle.std.proofs.lemmas.Grind.{common_steps}
pub use Rattle.std.proofs.lemmas.Int.Digits.{digits_value-lt}
pub use Rattle.std.proofs.lemmas.List.{append-nil, length-replicate, length-drop, length-take-le, take_all, map-append, replicate_more}
pub use Rattle.std.proofs.lemmas.List.Folds.{list_any-append, Any-from_list_any, list_any-from_Any}
pub use Rattle.std.proofs.lemmas.List.Splits.{length-slice_split, join_with_byte-slice_split}
pub use Rattle.std.proofs.lemmas.Nat.{mul-le, pow-add, mul-add-lt}
pub use Rattle.std.proofs.lemmas.Slice.Eq.{strip_prefix_is}
pub use Rattle.std.proofs.lemmas.Str.Parse.{numerals_by_value, tells_digits}
pub use Rattle.std.specs.Char.{digit_value, is_digit, to_ascii_lowercase}
pub use Rattle.std.specs.Int.{from_be_bytes}
pub use Rattle.std.specs.List.{list_any, slice_split, list_all, Any, onto_first, AllByRecursion, join_with_byte}
pub use Rattle.std.specs.Str.{str_to_ascii_lowercase}
pub use Rattle.std.specs.Str.Parse.{digits_value, AllDigits, digits_value_after}
