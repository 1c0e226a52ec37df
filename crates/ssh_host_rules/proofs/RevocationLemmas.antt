-- Lines that can be no revocation, by their front.
use Rattle.ssh_host_rules.proofs.Imports.{◌≡◌, ℕ, nat_lt, false, ◌==◌, List, [], ◌∷◌, length, refl, inl, inr, Result, Ok, Err, cases_Bool, or_parts, LineCause, body_of, is_blank, line_limit, begins_with, front_of_body, KnownEntry, line_of_entry, known_line_of_front, RevokesNothing, can_revoke}
use Rattle.ssh_entries.specs.KnownGrammar.{known_line}
use Rattle.ssh_entries.specs.Markers.{first_field_of}

entry_revokes_nothing : (read : Result KnownEntry LineCause) → RevokesNothing (line_of_entry read)
entry_revokes_nothing (Ok entry) = (λ offer. refl, refl)
entry_revokes_nothing (Err cause) = (λ offer. refl, refl)

-- where the first field does not begin with `@`, it is names
body_revokes_nothing : (body : List ℕ) → begins_with 64 body ≡ false → RevokesNothing (known_line_of_front (front_of_body body))
unfolding first_field_of
body_revokes_nothing [] h = (λ offer. refl, refl)
body_revokes_nothing (c ∷ cs) h =
    elim (cases_Bool (c == 35)) [
      | inl e ↦ rw e (λ offer. refl, refl)
      | inr e ↦ elim (cases_Bool (is_blank c)) [
        | inl blank ↦ rw (e, blank) (entry_revokes_nothing _)
        | inr word ↦ rw (e, word, h) (entry_revokes_nothing _)
      ]
    ]

pub front_revokes_nothing : (line : List ℕ) → can_revoke line ≡ false → RevokesNothing (known_line line)
unfolding known_line
front_revokes_nothing line h =
    let parts = or_parts (nat_lt line_limit (length line)) (begins_with 64 (body_of line)) h in
    rw parts.0 (body_revokes_nothing (body_of line) parts.1)
