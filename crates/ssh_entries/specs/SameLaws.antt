-- The tests of `SameEntries` are equivalence relations.
use Rattle.std.specs.Prelude.{◌≡◌}
use Rattle.std.specs.Bool.{Decides}
use Rattle.std.specs.Cmp.{IsEquivalence, and_equiv, decided, on_equiv}
use Rattle.std.specs.Cmp.Lexicographic.{nat_list_eq_equiv}
use denote.Enum.Bare.{same_true, true_same}
use Rattle.ssh_keys.specs.PublicKey.{key_blob}
use Rattle.ssh_entries.specs.Names.{names_text}
use Rattle.ssh_options.specs.SameLaws.{options_decide}
use Rattle.ssh_options.specs.SameOptions.{are_same_options}
use Rattle.ssh_entries.specs.contracts.known_view.Marker as marker_type
use Rattle.ssh_entries.specs.declared.known_view.Marker.{Marker}
use Rattle.ssh_entries.specs.SameEntries.{are_same_entries, are_same_known, same_marker}

marker_decides : (a b : Marker) → Decides (same_marker a b) (a ≡ b)
marker_decides a b = (same_true marker_type.the_type tt a b, true_same marker_type.the_type a b)

pub entries_equiv : IsEquivalence are_same_entries
entries_equiv =
    and_equiv
    (and_equiv
    (on_equiv (λ e. e.options) (decided are_same_options options_decide))
    (on_equiv (λ e. key_blob e.key) nat_list_eq_equiv))
    (on_equiv (λ e. e.comment) nat_list_eq_equiv)

pub known_equiv : IsEquivalence are_same_known
known_equiv =
    and_equiv
    (and_equiv
    (and_equiv (on_equiv (λ e. names_text e.names) nat_list_eq_equiv) (on_equiv (λ e. e.marker) (decided same_marker marker_decides)))
    (on_equiv (λ e. key_blob e.key) nat_list_eq_equiv))
    (on_equiv (λ e. e.comment) nat_list_eq_equiv)
