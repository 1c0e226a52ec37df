-- The items that an iterator over a packed list still has.
use Rattle.std.specs.Prelude.{ℕ, List}
use Rattle.ssh_certs.specs.declared.packed.Principals.{Principals}
use Rattle.ssh_certs.specs.declared.packed.CertOptions.{CertOptions}
use Rattle.ssh_certs.specs.Certificate.{CertOption, packed_names, packed_options}
use Rattle.ssh_certs.specs.Packed.{names_in_packed, options_in_packed}

-- the principals that have not been read yet
abbrev pub principals_left : Principals → List (List ℕ)
principals_left names = names_in_packed names.packed.now

-- the options that have not been read yet
abbrev pub options_left : CertOptions → List CertOption
options_left options = options_in_packed options.packed.now

-- the string that packs those principals
abbrev pub packed_names_left : Principals → List ℕ
packed_names_left names = packed_names (principals_left names)

-- the string that packs those options
abbrev pub packed_options_left : CertOptions → List ℕ
packed_options_left options = packed_options (options_left options)
