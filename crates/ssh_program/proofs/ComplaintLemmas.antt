-- The first thing with which something is wrong, one item after the other.
use Rattle.std.proofs.Common.{◌≡◌, ◌∙◌, List, ◌∷◌, Option, None, ap, sym}
use Rattle.std.specs.Option.{option_or}
use Rattle.ssh_program.specs.Complaints.{Wrong, first_wrong}

-- nothing is wrong with this item, so the search goes on behind it
pub wrong_later : {X : Type 0} (wrong : X → Option Wrong) (whole : Option Wrong) (left rest : List X) (item : X) → left ≡ item ∷ rest
    → None ≡ wrong item → whole ≡ first_wrong wrong left → whole ≡ first_wrong wrong rest
wrong_later wrong whole left rest item cut well h =
    h ∙ (ap (first_wrong wrong) cut ∙ ap (λ found. option_or found (first_wrong wrong rest)) (sym well))
