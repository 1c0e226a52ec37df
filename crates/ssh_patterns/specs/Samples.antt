-- Worked examples of the definitions, each computed.
use Rattle.std.specs.Prelude.{◌≡◌, true, false, [], codes, refl, Some, None, Ok, Err}
use Rattle.ssh_patterns.specs.declared.address.Address.TheVariants.{V4, V6}
use Rattle.ssh_patterns.specs.declared.list.Permit.TheVariants.{Yes, No, Bad}
use Rattle.ssh_patterns.specs.declared.address.PatternError.TheVariants as errors
use Rattle.ssh_patterns.specs.AddressReading.{octets_of, group_of, last_groups_of, groups_of, filled, eight_groups_of, address_of}
use Rattle.ssh_patterns.specs.Matching.{is_match}
use Rattle.ssh_patterns.specs.Nets.{net_of}
use Rattle.ssh_patterns.specs.Lists.{permit_by, host_list, source_list, cidr_list}

abbrev pub MatchingSamples : Type 0
MatchingSamples = (is_match (codes "a?c") (codes "ac") ≡ false)
    × (is_match (codes "?") [] ≡ false)
    × (is_match (codes "*") [] ≡ true)
    × (is_match (codes "*b*") (codes "abc") ≡ true)
    × (is_match (codes "*ab") (codes "aab") ≡ true)
    × (is_match (codes "a*b*c") (codes "acbb") ≡ false)

pub matching_samples : MatchingSamples
matching_samples = (refl, refl, refl, refl, refl, refl)

abbrev pub AddressSamples : Type 0
AddressSamples = (address_of (codes "01.2.3.4") ≡ None)
    × (address_of (codes "1.2.3") ≡ None)
    × (address_of (codes "10.0.0.256") ≡ None)
    × (address_of (codes "1:2:3:4:5:6:7:8::") ≡ None)
    × (address_of (codes "::1::") ≡ None)
    × (address_of (codes "fe80::1%2") ≡ None)
    × (address_of (codes "1.2.3.4::") ≡ None)
    × (address_of (codes "1:2:3:4:5:6:7::") ≡ Some (V6 0x0001_0002_0003_0004_0005_0006_0007_0000))
    × (address_of (codes "::") ≡ Some (V6 0))
    × (address_of (codes "::ffff:192.0.2.1") ≡ Some (V6 0xffff_c000_0201))
    × (address_of (codes "192.0.2.1") ≡ Some (V4 0xc000_0201))

pub address_samples : AddressSamples
unfolding octets_of group_of last_groups_of groups_of filled eight_groups_of address_of
address_samples = (refl, refl, refl, refl, refl, refl, refl, refl, refl, refl, refl)

abbrev pub NetSamples : Type 0
NetSamples = (net_of (codes "x/8") ≡ Err errors.Address)
    × (net_of (codes "10.0.0.0") ≡ Err errors.Address)
    × (net_of (codes "10.0.0.0/33") ≡ Err errors.Length)
    × (net_of (codes "10.0.0.0/08") ≡ Err errors.Length)
    × (net_of (codes "10.0.0.1/8") ≡ Err errors.HostBits)
    × (net_of (codes "10.0.0.0/8") ≡ Ok (record { base = V4 0x0a00_0000; prefix = 8 }))

pub net_samples : NetSamples
unfolding octets_of group_of last_groups_of groups_of filled eight_groups_of address_of net_of
net_samples = (refl, refl, refl, refl, refl, refl)

abbrev pub ListSamples : Type 0
ListSamples = (host_list (codes "!a") (codes "b") ≡ false)
    × (host_list (codes "*,!A") (codes "a") ≡ false)
    × (host_list (codes "*,!A") (codes "b") ≡ true)
    × (source_list (codes "!10.0.0.1,10.0.0.0/8") None (codes "10.0.0.1") ≡ No)
    × (source_list (codes "!10.0.0.1,10.0.0.0/8") None (codes "10.0.0.2") ≡ Yes)
    × (source_list (codes "2001:DB8::1") None (codes "2001:db8:0:0:0:0:0:1") ≡ Yes)
    × (source_list (codes "a,,b") None (codes "10.0.0.1") ≡ Bad)
    × (source_list (codes "10.0.0.1/8") None (codes "10.0.0.1") ≡ Bad)
    × (source_list (codes "0.0.0.0/0") None (codes "10.0.0.1") ≡ Yes)
    × (source_list (codes "::/0") None (codes "10.0.0.1") ≡ No)
    × (source_list (codes "*.example.org,!bad.example.org") (Some (codes "BAD.example.org")) (codes "192.0.2.1") ≡ No)
    × (source_list (codes "*.example.org,!bad.example.org") (Some (codes "good.example.org")) (codes "192.0.2.1") ≡ Yes)
    × (cidr_list (codes "!10.0.0.1") (V4 0x0a00_0001) ≡ Bad)
    × (cidr_list (codes "10.0.0.*") (V4 0x0a00_0001) ≡ Bad)

pub list_samples : ListSamples
unfolding octets_of group_of last_groups_of groups_of filled eight_groups_of address_of net_of permit_by
list_samples = (refl, refl, refl, refl, refl, refl, refl, refl, refl, refl, refl, refl, refl, refl)
