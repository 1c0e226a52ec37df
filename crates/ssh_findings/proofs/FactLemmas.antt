-- A line without an expiry time has no moment up to which it admits, and no local time.
use Rattle.ssh_findings.proofs.Imports.{◌≡◌, ℕ, false, List, [], ◌∷◌, None, refl, is_some, TimeZone, first_of, has_local_time, until}

pub never_until : (zone : TimeZone) (texts : List (List ℕ)) → is_some (first_of texts) ≡ false → until zone texts ≡ None
never_until zone [] h = refl
never_until zone (text ∷ texts) h = cc

pub never_local : (texts : List (List ℕ)) → is_some (first_of texts) ≡ false → has_local_time texts ≡ false
never_local [] h = refl
never_local (text ∷ texts) h = cc
