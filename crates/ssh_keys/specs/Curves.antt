-- Names of curves, and how long their points are (RFC 5656 section 10.1, SEC 1).
use Rattle.std.specs.Prelude.{ℕ, List, codes}
use Rattle.ssh_keys.specs.declared.kind.Curve.{Curve}
use Rattle.ssh_keys.specs.declared.kind.Curve.TheVariants.{Nistp256, Nistp384, Nistp521}

-- the name of the curve
abbrev pub curve_name_of : Curve → List ℕ
curve_name_of Nistp256 = codes "nistp256"
curve_name_of Nistp384 = codes "nistp384"
curve_name_of Nistp521 = codes "nistp521"

-- the byte 04 and two coordinates
abbrev pub point_len_of : Curve → ℕ
point_len_of Nistp256 = 65
point_len_of Nistp384 = 97
point_len_of Nistp521 = 133
