-- When two entries count as the same, part by part (this project's rule).
use Rattle.std.specs.Prelude.{Bool, ◌&&◌, bytes_eq}
use denote.Enum.Bare.{sameb}
use Rattle.ssh_keys.specs.PublicKey.{key_blob}
use Rattle.ssh_entries.specs.Names.{are_same_names}
use Rattle.ssh_options.specs.SameOptions.{are_same_options}
use Rattle.ssh_entries.specs.contracts.known_view.Marker as marker_type
use Rattle.ssh_entries.specs.declared.known_view.Marker.{Marker}
use Rattle.ssh_entries.specs.AuthEntry.{AuthEntry}
use Rattle.ssh_entries.specs.KnownEntry.{KnownEntry}

-- whether entries have the same options, keys with the same blob, and the same comment
abbrev pub are_same_entries : AuthEntry → AuthEntry → Bool
are_same_entries a b =
    (are_same_options a.options b.options && bytes_eq (key_blob a.key) (key_blob b.key))
    && bytes_eq a.comment b.comment

abbrev pub same_marker : Marker → Marker → Bool
same_marker = sameb marker_type.the_type

-- whether entries have the same names, markers, and comments, and keys with the same blob
abbrev pub are_same_known : KnownEntry → KnownEntry → Bool
are_same_known a b =
    ((are_same_names a.names b.names && same_marker a.marker b.marker)
    && bytes_eq (key_blob a.key) (key_blob b.key))
    && bytes_eq a.comment b.comment
