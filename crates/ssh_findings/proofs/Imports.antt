-- The names that the proofs of this crate import, in one place.
pub use Rattle.jiff.specs.Types.{TimeZone}
pub use Rattle.jiff.specs.Words.{plain_zone}
pub use Rattle.ssh_certs.proofs.OptionFactLemmas.{each}
pub use Rattle.ssh_certs.specs.Certificate.{Certificate, CertOption}
pub use Rattle.ssh_certs.specs.OptionFacts.{IsOneString}
pub use Rattle.ssh_certs.specs.OptionTable.{certificate_option_name}
pub use Rattle.ssh_certs.specs.declared.options.CertificateOption.TheVariants.{ForceCommand}
pub use Rattle.ssh_findings.specs.Carried.{has_listen, has_open}
pub use Rattle.ssh_findings.specs.Codes.{codes_from, listed_codes, named_in}
pub use Rattle.ssh_findings.specs.Earlier.{Held, is_free, is_of_key, repeat_of, held_entry, is_narrower, is_unlimited}
pub use Rattle.ssh_findings.specs.Entries.{IsPlace, other_of, IsUnchanged, weight_at, value_at}
pub use Rattle.ssh_findings.specs.EntryFindings.{has_name_in, lets_nobody_in, names_nobody, permits_bad, refuses_all_in}
pub use Rattle.ssh_findings.specs.Facts.{bit_count, rsa_size}
pub use Rattle.ssh_findings.specs.HeldKey.{after_options, is_first, key_after_blanks, read_part, toggled}
pub use Rattle.ssh_findings.specs.HeldKeysSamples.{applications_read, certified_read, decoys_reported, hosts_reported, spellings_read}
pub use Rattle.ssh_findings.specs.HostFacts.{lower_list}
pub use Rattle.ssh_findings.specs.HostFindingsEarlier.{same_kind, revokes_blob, is_blob, other_line, revoking, same_line, says_shared, spells_blob, trusting, trusting_line, trusts_blob, trusts_other, revoking_line, says_revoked}
pub use Rattle.ssh_findings.specs.HostFindingsMemory.{items_bytes, items_sum, kinds_bytes, kinds_sum, entry_sum, host_entry_bytes}
pub use Rattle.ssh_findings.specs.HostFindingsSamples.{entries_found, revocations_found}
pub use Rattle.ssh_findings.specs.HostLines.{HostLine, Saying, Trusts, Revokes}
pub use Rattle.ssh_findings.specs.Items.{is_plain, has_item, is_pattern}
pub use Rattle.ssh_findings.specs.Keeping.{RemembersEntries, free_of, kept_after, kept_at, kept_in, kept_of, shadow_at}
pub use Rattle.ssh_findings.specs.Least.{lesser, line_if}
pub use Rattle.ssh_findings.specs.Lists.{says_name, begins_with_bang, has_bang, has_empty_name, has_name, has_stars, is_stars, says_none}
pub use Rattle.ssh_findings.specs.Maps.{other_of_kind, least_other, line_at}
pub use Rattle.ssh_findings.specs.Moments.{has_local_time, until}
pub use Rattle.ssh_findings.specs.OpenSsh.{may_refuse, is_in_brackets, is_of_name, is_of_host, is_long_item, is_short_item, is_refused_item}
pub use Rattle.ssh_findings.specs.OpenSshBlob.{least_of}
pub use Rattle.ssh_findings.specs.OpenSshWords.{is_no_space}
pub use Rattle.ssh_findings.specs.Revoked.{revokes}
pub use Rattle.ssh_findings.specs.Rows.{IsLast, numbers_in, row_of, LeadBack, LeadToLasts}
pub use Rattle.ssh_findings.specs.Samples.{forms_seen, lists_seen}
pub use Rattle.ssh_findings.specs.Shadows.{IsFree, IsSame, NamesFirst}
pub use Rattle.ssh_findings.specs.Spare.{is_code_first}
pub use Rattle.ssh_findings.specs.Stands.{StandsOutside, is_open, is_unbroken}
pub use Rattle.ssh_findings.specs.StandsFor.{KeepsName, KeepsKeys, KeepsSpellings, RemembersLines, has_names, names_other, says_named}
pub use Rattle.ssh_findings.specs.Tables.{numbers_of, rows_of}
pub use Rattle.ssh_findings.specs.declared.earlier.Earlier.{Earlier}
pub use Rattle.ssh_findings.specs.declared.earlier.Free.{Free}
pub use Rattle.ssh_findings.specs.declared.earlier.Kept.{Kept}
pub use Rattle.ssh_findings.specs.declared.facts.Facts.{Facts}
pub use Rattle.ssh_findings.specs.declared.finding.Finding.{Finding}
pub use Rattle.ssh_findings.specs.declared.least.LeastLines.{LeastLines}
pub use Rattle.ssh_findings.specs.declared.table.Link.{Link}
pub use Rattle.ssh_findings.specs.declared.host_earlier.EarlierHosts.{EarlierHosts}
pub use Rattle.ssh_findings.specs.declared.host_facts.HostFacts.{HostFacts}
pub use Rattle.ssh_findings.specs.declared.host_facts.RevocationFacts.{RevocationFacts}
pub use Rattle.ssh_findings.specs.declared.map.ByteMap.{ByteMap}
pub use Rattle.ssh_findings.specs.declared.map.Slot.{Slot}
pub use Rattle.ssh_findings.specs.declared.named.KindKeys.{KindKeys}
pub use Rattle.ssh_host_rules.specs.HostAdmission.{AdmitsHost, marks_authority}
pub use Rattle.ssh_host_rules.specs.Revocation.{is_key_or_signer}
pub use Rattle.ssh_keys.proofs.KeyLaws.{find_some}
pub use Rattle.ssh_keys.specs.Fingerprint.{IsBitCount, IsRsaSize}
pub use Rattle.ssh_keys.specs.PublicKey.{key_blob, PublicKey, rsa, p256, p384, p521, ed25519, sk_p256, sk_ed25519}
pub use Rattle.ssh_keys.specs.declared.kind.KeyKind.{KeyKind}
pub use Rattle.ssh_entries.specs.AuthEntry.{AuthEntry}
pub use Rattle.ssh_entries.specs.KnownEntry.{KnownEntry}
pub use Rattle.ssh_entries.specs.Names.{Names, Patterns, Hashed, names_text}
pub use Rattle.ssh_offers.specs.HostClaim.{HostClaim}
pub use Rattle.ssh_offers.specs.LoginClaim.{LoginClaim}
pub use Rattle.ssh_offers.specs.Offer.{Offer, certified, plain, subject, OfCertificate, is_certified}
pub use Rattle.ssh_offers.specs.Query.{Login}
pub use Rattle.ssh_options.specs.Settings.{settings, first_of, setting}
pub use Rattle.ssh_options.specs.declared.option.ValueName.TheVariants.{ExpiryTime, Command, From, Principals}
pub use Rattle.ssh_patterns.specs.Lists.{pieces_left, length_left, pieces, items_of, item_of, is_bad_source, permit, permits, source_item, source_list}
pub use Rattle.ssh_patterns.specs.declared.address.Address.{Address}
pub use Rattle.ssh_patterns.specs.declared.list.Permit.{Permit}
pub use Rattle.ssh_patterns.specs.declared.list.Permit.TheVariants.{Yes, No, Bad}
pub use Rattle.ssh_rights.specs.Rights.{command_of}
pub use Rattle.ssh_rules.proofs.AdmissionLemmas.{of-source}
pub use Rattle.ssh_rules.specs.Admission.{AdmitsLogin, CriticalMet, IsUnexpired, IsUserInForce, is_authority, source_by}
pub use Rattle.ssh_rules.specs.CertificateForce.{InForce, Serves, user_certificate}
pub use Rattle.ssh_text.specs.Text.{AreBlanks, begins_with_blank, is_blank, skip_blanks}
pub use Rattle.ssh_wire.specs.Mpint.{number_of}
pub use Rattle.ssh_wire.specs.Spelling.{natural, is_least, is_not_negative, worth}
pub use Rattle.std.proofs.Common.{◌≡◌, ap, ◌∙◌, sym, refl, ℕ, true, false, Some, List, Bool, ◌∷◌, arith, [], subst, None, ◌++◌, Option, cond, ◌+◌, option_copied, ◌<◌, length, drop, ◌&&◌, not, ◌≤◌, ◌||◌, suc, get_or, inl, inr, map, ◌%◌, set, ◌==◌, zero, ◌≢◌, BTreeMap, nat_cmp, ◌*◌, eqb, option_map, ◌⊎◌, Bor, reverse, option_and_then, min, length-append, ltb, ◌^◌, lit<, unwrap_or, mul-le-mul_right, suc-mul, take, FoldHasher, ◌-◌, rules, filter}
pub use Rattle.std.proofs.Math.Nat.{eq-or-lt_of_le, pow-suc}
pub use Rattle.std.proofs.Math.Seq.{get_or-append_seam}
pub use Rattle.std.proofs.lemmas.Bool.{ltb-true, ne_eqb, eqb-false, ltb-false, cases_lt, lt-leb, eq-eqb, leb-true, leb-false, and_parts}
pub use Rattle.std.proofs.lemmas.Bool.Decides.{Decides-eqb}
pub use Rattle.std.proofs.lemmas.Grind.{get_or_default_zero}
pub use Rattle.std.proofs.lemmas.List.{length-map, length-set, get_or-set_other, get_or-set_same, reverse-append, get_or_append_left, map-append, get_or-map}
pub use Rattle.std.proofs.lemmas.List.Folds.{find-append}
pub use Rattle.std.proofs.lemmas.List.Sums.{sum_by-append, sum_by-cons, sum_by-set}
pub use Rattle.std.proofs.lemmas.Map.Text.{is_eq-slice_cmp}
pub use Rattle.std.proofs.lemmas.Nat.{mod_below}
pub use Rattle.std.proofs.lemmas.Slice.Eq.{bytes_eq-Decides}
pub use Rattle.std.specs.BTreeMap.{UpdatesBy, get_by, insert_entry, is_at}
pub use Rattle.std.specs.Char.{to_ascii_lowercase}
pub use Rattle.std.specs.Cmp.{eq_by_cmp_equiv}
pub use Rattle.std.specs.Cmp.Lexicographic.{slice_cmp, nat_list_cmp_total}
pub use Rattle.std.specs.Global.{Vec}
pub use Rattle.std.specs.Hash.FoldHasher.{write}
pub use Rattle.std.specs.List.{list_any, prefix_len, AllByRecursion, sum_by, slice_index_or, onto_first}
pub use Rattle.std.specs.Map.{lookup, set_value}
pub use Rattle.std.specs.Option.{option_or}
pub use Rattle.std.specs.Ordering.{eq_by_cmp, is_eq, match_ordering}
pub use Rattle.std.specs.Prelude.{bytes_eq, is_some, slice_index, find, IsSome, nat_lt, nat_le, if◌then◌else◌, codes}
pub use Rattle.std.specs.Result.{OnErr}
pub use Rattle.std.specs.Str.{str_to_ascii_lowercase}
pub use Rattle.std.specs.declared.cmp.Ordering.{Ordering}
pub use Rattle.std.specs.declared.cmp.Ordering.TheVariants.{Less, Equal, Greater}
pub use Rattle.std.specs.declared.result.Result.{Result}
pub use Rattle.std.specs.declared.result.Result.TheVariants.{Ok, Err}
