-- Worked option values, each as sshd of OpenSSH 9.2 was observed to accept or refuse it.
use Rattle.std.specs.Prelude.{◌≡◌, true, false, [], codes, refl}
use Rattle.ssh_patterns.specs.AddressReading.{address_of, eight_groups_of, filled, group_of, groups_of, last_groups_of, octets_of}
use Rattle.ssh_patterns.specs.Nets.{net_of}
use Rattle.ssh_findings.specs.OpenSsh.{has_short_address, host_len, is_device, is_host_port, is_listen_port, is_setting, refuses_all}

-- forms that sshd accepts, and those for which it refuses the line, or may
abbrev pub FormsSeen : Type 0
FormsSeen =
    (is_host_port (codes "h:1") ≡ true)
    × (is_host_port (codes "h:65535") ≡ true)
    × (is_host_port (codes "h:*") ≡ true)
    × (is_host_port (codes "[::1]:80") ≡ true)
    × (is_host_port (codes "192.0.2.1:60000") ≡ true)
    × (is_host_port (codes "none") ≡ false)
    × (is_host_port (codes "h") ≡ false)
    × (is_host_port (codes "h:0") ≡ false)
    × (is_host_port (codes "h:65536") ≡ false)
    × (is_host_port (codes "h:ssh") ≡ false)
    × (is_host_port (codes "h:") ≡ false)
    × (is_host_port (codes ":80") ≡ false)
    × (is_host_port (codes "::1:80") ≡ false)
    × (is_host_port (codes "h/80") ≡ false)
    × (is_host_port (codes "[::1]80") ≡ false)
    × (is_host_port (codes "h:080") ≡ false)
    × (is_host_port [] ≡ false)
    × (is_listen_port (codes "80") ≡ true)
    × (is_listen_port (codes "*") ≡ true)
    × (is_listen_port (codes "h:80") ≡ true)
    × (is_listen_port (codes "*:*") ≡ true)
    × (is_listen_port (codes "[::1]:1") ≡ true)
    × (is_listen_port (codes "65535") ≡ true)
    × (is_listen_port (codes "none") ≡ false)
    × (is_listen_port (codes "0") ≡ false)
    × (is_listen_port (codes "65536") ≡ false)
    × (is_listen_port (codes "h:") ≡ false)
    × (is_listen_port (codes "h:0") ≡ false)
    × (is_listen_port [] ≡ false)
    × (is_setting (codes "A=") ≡ true)
    × (is_setting (codes "A_1=b=c") ≡ true)
    × (is_setting (codes "z9=x") ≡ true)
    × (is_setting (codes "AB") ≡ false)
    × (is_setting (codes "A-B=c") ≡ false)
    × (is_setting (codes "=c") ≡ false)
    × (is_setting [] ≡ false)
    × (is_device (codes "any") ≡ true)
    × (is_device (codes "0") ≡ true)
    × (is_device (codes "999999999") ≡ true)
    × (is_device (codes "x") ≡ false)
    × (is_device [] ≡ false)
    × (is_device (codes "-1") ≡ false)
    × (is_device (codes "4294967296") ≡ false)

pub forms_seen : FormsSeen
unfolding is_host_port is_setting is_device host_len
forms_seen =
    (refl, refl, refl, refl, refl, refl, refl, refl, refl, refl, refl, refl, refl, refl, refl, refl, refl, refl, refl, refl, refl, refl, refl, refl, refl, refl, refl, refl, refl, refl, refl, refl, refl, refl, refl, refl, refl, refl, refl, refl, refl, refl, refl)

-- lists by which sshd permits nobody, and those by which it may permit somebody; items that it may read as addresses
abbrev pub ListsSeen : Type 0
ListsSeen =
    (refuses_all (codes "10.0.0.1/8") ≡ true)
    × (refuses_all (codes "*,,10.0.0.1") ≡ true)
    × (refuses_all [] ≡ true)
    × (refuses_all (codes "!") ≡ true)
    × (refuses_all (codes "2001:db8::1/32") ≡ true)
    × (refuses_all (codes "0/0") ≡ false)
    × (refuses_all (codes "10.0.0.0/08") ≡ false)
    × (refuses_all (codes "10.0.0.0/8,a/b") ≡ false)
    × (refuses_all (codes "10.0.0.0/33") ≡ false)
    × (refuses_all (codes "10.0.0.0/8") ≡ false)
    × (refuses_all (codes "*") ≡ false)
    × (refuses_all (codes "127.1") ≡ false)
    × (has_short_address (codes "127.1") ≡ true)
    × (has_short_address (codes "*,!0x7f.1") ≡ true)
    × (has_short_address (codes "0") ≡ true)
    × (has_short_address (codes "2130706433") ≡ true)
    × (has_short_address (codes "012.0.0.1") ≡ true)
    × (has_short_address (codes "127.0.0.1") ≡ false)
    × (has_short_address (codes "1.example") ≡ false)
    × (has_short_address (codes "*") ≡ false)
    × (has_short_address (codes "10.0.0.0/8") ≡ false)
    × (has_short_address (codes "::1") ≡ false)
    × (has_short_address (codes "a.b") ≡ false)

pub lists_seen : ListsSeen
unfolding refuses_all has_short_address net_of address_of octets_of group_of last_groups_of groups_of filled eight_groups_of
lists_seen =
    (refl, refl, refl, refl, refl, refl, refl, refl, refl, refl, refl, refl, refl, refl, refl, refl, refl, refl, refl, refl, refl, refl, refl)
