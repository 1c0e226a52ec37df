-- Maps from byte texts: what a change at some bytes leaves at any bytes.
use Rattle.ssh_findings.proofs.Imports.{◌≡◌, ◌∙◌, ℕ, Bool, true, false, cond, List, Option, Some, refl, ap, bytes_eq, bytes_eq-Decides, ByteMap}
use Rattle.ssh_findings.specs.Entries.{entry_of}

-- what is read at the bytes bs changes by f, and what is read at others stays
pub changed : {X Y : Type 0} (read : Option X → Y) (f : Y → Y) (bs cs : List ℕ) (m n : ByteMap X) (w : X)
    → ((other : List ℕ) → entry_of n other ≡ cond (bytes_eq bs other) (Some w) (entry_of m other))
    → read (Some w) ≡ f (read (entry_of m bs))
    → read (entry_of n cs) ≡ cond (bytes_eq bs cs) (f (read (entry_of m cs))) (read (entry_of m cs))
changed read f bs cs m n w h at = ap read (h cs) ∙ go (bytes_eq bs cs) refl
  where
    go : (b : Bool) → bytes_eq bs cs ≡ b
        → read (cond b (Some w) (entry_of m cs)) ≡ cond b (f (read (entry_of m cs))) (read (entry_of m cs))
    go true e = at ∙ ap (λ ds. f (read (entry_of m ds))) ((bytes_eq-Decides bs cs).0 e)
    go false e = refl

-- nothing changes where the same is kept
pub kept_there : {Y : Type 0} (bs cs : List ℕ) (y : Y) → cond (bytes_eq bs cs) y y ≡ y
kept_there bs cs y = go (bytes_eq bs cs)
  where
    go : (b : Bool) → cond b y y ≡ y
    go true = refl
    go false = refl
