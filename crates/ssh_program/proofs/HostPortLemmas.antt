-- What a split at a byte gives.
use Rattle.std.proofs.Common.{◌≡◌, ◌<◌, ◌==◌, ℕ, List, Option, Some, None, Bor, ap₂, arith, length, refl}
use Rattle.std.proofs.lemmas.Bool.{lt-ltb, le-ltb}
use Rattle.std.specs.List.{after_first, before_first, position_or_len}
use Rattle.std.specs.Prelude.{MatchOption, option_map}
use Rattle.ssh_program.specs.HostPorts.{cut}
use Rattle.ssh_program.specs.HostPortsView.{pair_seen}

pub cut_made : (byte : ℕ) (text : List ℕ) (parts : Option (Bor (List ℕ) × Bor (List ℕ)))
    → MatchOption parts (position_or_len (λ b. b == byte) text ≡ length text)
    (λ x. (x.0.now ≡ before_first (λ b. b == byte) text) × (x.1.now ≡ after_first (λ b. b == byte) text) × (position_or_len (λ b. b == byte) text < length text))
    → option_map pair_seen parts ≡ cut byte text
cut_made byte text None h = rw (h, le-ltb (length text) (length text) (omega arith)) refl
cut_made byte text (Some parts) (front, rest, within) = rw (lt-ltb _ _ within) (ap₂ (λ x y. Some (x, y)) front rest)
