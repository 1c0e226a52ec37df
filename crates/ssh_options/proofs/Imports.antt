-- What the proofs of this crate name, passed on from one place.
pub use Rattle.jiff.proofs.Family.{civil_nanos-parts, civil_nanos-civil_seconds, civil_nanos_range, epoch_day_same, same_datetime}
pub use Rattle.jiff.proofs.SpanFacts.{signed_arith}
pub use Rattle.jiff.specs.Types.{Date, DateTime, TimeZone}
pub use Rattle.jiff.specs.Words.{plain_zone, IsDate, IsTime, days_in_month, IsYmd, IsHms, IsWithin, epoch_day, civil_nanos, civil_seconds}
pub use Rattle.memchr.specs.Find.{Nowhere, Passes, is_byte}
pub use Rattle.ssh_options.specs.AllNames.{all_names_are_listed}
pub use Rattle.ssh_options.specs.AuthOption.{AuthOption, Switch, Setting}
pub use Rattle.ssh_options.specs.CivilFacts.{form-long, CivilFacts, civil-facts}
pub use Rattle.ssh_options.specs.Expiry.{is_civil_text, without_z, digits_at, year_of, month_of, day_of, hour_of, minute_of, second_of, has_form, is_date, is_time, IsShown, IsMoment}
pub use Rattle.ssh_options.specs.LineOptions.{noted_after}
pub use Rattle.ssh_options.specs.Moment.{clock_of, moment_at, moment_by}
pub use Rattle.ssh_options.specs.OptionFaults.{SpellsValue, SpellsItem, SpellsItemList, SaysOption, IsItemFault, IsOptionsFault}
pub use Rattle.ssh_options.specs.OptionNames.{same_name, option_named, name_in, flag_name, value_name, OptionRow, options, same_flag, same_value_name, same_option}
pub use Rattle.ssh_options.specs.OptionText.{OptionItem, option_items, unescaped, option_text_of, after_name, option_item, each_item, options_from, name_part, option_of, is_open_quote, turned, is_name_byte, repeats, has_bad_expiry, and_option, options_of_items, value_of, named_item, and_item, AreAllowed, can_be_quoted, escaped, ends_with_backslash, closed_by_quote, begins_with_quote, option_by_name, SpellsOption, SpellsItems, option_name, value_part, has_setting}
pub use Rattle.ssh_options.specs.OptionTexts.{split_at_quote, first_item, split_value, front_items, after_options, table_row, Following, after_item, texts_following, rest_following, TableRow, after_now, value_taken}
pub use Rattle.ssh_options.specs.OptionsInLine.{each_option, or_none, options_in}
pub use Rattle.ssh_options.specs.OptionsInPlace.{fault_in, has_escape, has_quote, seen_of, none_seen, stood, with_name, and_read_seen, and_item_seen}
pub use Rattle.ssh_options.specs.SameOptions.{are_same_options}
pub use Rattle.ssh_options.specs.Samples.{text_samples_read}
pub use Rattle.ssh_options.specs.Settings.{settings, setting, first_of, has_flag}
pub use Rattle.ssh_options.specs.declared.line_options.LineOptions.{LineOptions}
pub use Rattle.ssh_options.specs.declared.option.Flag.{Flag}
pub use Rattle.ssh_options.specs.declared.option.Flag.TheVariants.{AgentForwarding, CertAuthority, NoAgentForwarding, NoPortForwarding, NoPty, NoUserRc, NoX11Forwarding, PortForwarding, Pty, NoTouchRequired, VerifyRequired, Restrict, UserRc, X11Forwarding}
pub use Rattle.ssh_options.specs.declared.option.LineOption.{LineOption}
pub use Rattle.ssh_options.specs.declared.option.ValueName.{ValueName}
pub use Rattle.ssh_options.specs.declared.option.ValueName.TheVariants.{Command, Environment, ExpiryTime, From, PermitListen, PermitOpen, Principals, Tunnel}
pub use Rattle.ssh_options.specs.declared.option_text.LineCause.{LineCause}
pub use Rattle.ssh_options.specs.declared.option_text.Seen.{Seen}
pub use Rattle.ssh_text.proofs.TextLemmas.{ends_word}
pub use Rattle.ssh_text.specs.Text.{is_blank, without_last, ends_with}
pub use Rattle.std.proofs.Common.{◌≡◌, ap, ◌∙◌, false, sym, List, ℕ, true, refl, [], ◌∷◌, Some, length, Bool, Option, None, arith, ◌++◌, drop, ◌==◌, inl, inr, ◌&&◌, subst, Ok, option_map, not, if◌then◌else◌, Result, Err, append_assoc, ◌+◌, cond, append-nil, is_some, take, FitsSigned, rules, ◌≤◌, w64, ◌≢◌, find, tests, ◌-◌, ◌*◌, nat_le, IfSome, nat_lt, zero, suc, ◌<◌, slice_index, take-add, drop-drop, ◌⊎◌, map, ◌||◌, w8, w16}
pub use Rattle.std.proofs.lemmas.Bool.{cases_Bool, eqb-true, and_parts, ne_eqb, or_parts, or_cases, or_right, or_left, and_right, and_from, leb-true, le-leb, ltb-true, ltb-false, false_from_ne_true}
pub use Rattle.std.proofs.lemmas.Int.{ints, to_z-of_z}
pub use Rattle.std.proofs.lemmas.Iterator.{YieldsList-from_slice}
pub use Rattle.std.proofs.lemmas.Iterator.Consumers.{YieldsList-from_copied}
pub use Rattle.std.proofs.lemmas.Iterator.Search.{find_from_yields_List}
pub use Rattle.std.proofs.lemmas.List.{length-drop, take_all}
pub use Rattle.std.proofs.lemmas.Slice.Eq.{bytes_eq-Decides}
pub use Rattle.std.specs.Char.{is_ascii_digit}
pub use Rattle.std.specs.List.{onto_first, list_all, AllZip, join_with_byte, AllByRecursion}
pub use Rattle.std.specs.Option.{option_or}
pub use Rattle.std.specs.Prelude.{option_and_then, ℤ, pos, ◌≤ℤ◌, ◌↔◌, ◌-ℤ◌, ◌*ℤ◌, int_div}
pub use Rattle.std.specs.Result.{is_ok}
pub use Rattle.std.specs.Str.{bytes_eq, str_to_ascii_lowercase}
