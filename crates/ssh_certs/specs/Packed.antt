-- The items of a packed list (PROTOCOL.certkeys: valid principals, critical options, extensions).
use Rattle.std.specs.Prelude.{ℕ, List, [], Result, Ok, Err}
use Rattle.std.specs.Borrow.{Bor}
use Rattle.std.specs.Result.{result_unwrap_or}
use Rattle.ssh_wire.specs.Reading.{string_at}
use Rattle.ssh_certs.specs.Certificate.{CertOption}
use Rattle.ssh_certs.specs.CertificateReading.{items_in, cert_option_at}

-- the names of a packed list
abbrev pub names_in_packed : List ℕ → List (List ℕ)
names_in_packed packed = result_unwrap_or (items_in string_at packed) []

-- the options of a packed list
abbrev pub options_in_packed : List ℕ → List CertOption
options_in_packed packed = result_unwrap_or (items_in cert_option_at packed) []

-- an option by its name and its data
abbrev pub option_in_packed : Bor (List ℕ) × Bor (List ℕ) → CertOption
option_in_packed o = record { name = o.0.now; value = o.1.now }

-- the result of reading without the items that were read: success or the error
abbrev pub without_items : {A E : Type 0} → Result A E → Result (Unit {0}) E
without_items (Ok x) = Ok tt
without_items (Err e) = Err e
