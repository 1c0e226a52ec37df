-- The records of lines are those of the first lines and then those of the others; and a stored entry is that of a line.
use Rattle.ssh_review.proofs.Imports.{◌≡◌, ◌∙◌, ◌++◌, ℕ, zero, suc, Bool, true, false, cond, List, [], ◌∷◌, Some, ap, sym, refl, find, slice_get, append-nil, append_assoc, AuthEntry, auth_line, AuthLine, Entry, Unreadable, Asking, Held, held_entry, RecordForm, held_by_line, line_record, records_of, entries_of}
use Rattle.ssh_entries.specs.declared.auth_line.AuthLine.TheVariants.{Blank, Comment}

pub records_after : (form : RecordForm) (asking : Asking) (name : List ℕ) (earlier : List Held) (first rest : List (ℕ × List ℕ))
    → records_of form asking name earlier (first ++ rest)
    ≡ records_of form asking name earlier first ++ records_of form asking name (earlier ++ entries_of asking first) rest
records_after form asking name earlier [] rest = ap (λ e. records_of form asking name e rest) (sym (append-nil earlier))
records_after form asking name earlier (line ∷ first) rest =
    let held = held_by_line asking (line.0, auth_line line.1) in
    let reported = line_record form asking name earlier line (auth_line line.1) in
    ap (λ more. reported ++ more) (records_after form asking name (earlier ++ held) first rest
    ∙ ap (λ e. records_of form asking name (earlier ++ held) first ++ records_of form asking name e rest) (append_assoc earlier held (entries_of asking first)))
    ∙ sym (append_assoc reported (records_of form asking name (earlier ++ held) first) (records_of form asking name (earlier ++ (held ++ entries_of asking first)) rest))

-- the entry of a line, which has this place among them
pub record IsOfLine (asking : Asking) (lines : List (ℕ × List ℕ)) (d : Held) : Type 0 where
  pub place : ℕ
  pub line : ℕ × List ℕ
  pub entry : AuthEntry
  pub stands : slice_get lines place ≡ Some line
  pub spells : auth_line line.1 ≡ Entry entry
  pub is : d ≡ held_entry asking.zone line.0 entry

later : (asking : Asking) (x : ℕ × List ℕ) (lines : List (ℕ × List ℕ)) (d : Held) → IsOfLine asking lines d → IsOfLine asking (x ∷ lines) d
later asking x lines d h = record { place = suc h.place; line = h.line; entry = h.entry; stands = h.stands; spells = h.spells; is = h.is }

here-or-later : (asking : Asking) (test : Held → Bool) (x : ℕ × List ℕ) (lines : List (ℕ × List ℕ)) (e : AuthEntry) (d : Held) (b : Bool)
    → auth_line x.1 ≡ Entry e → cond b (Some (held_entry asking.zone x.0 e)) (find test (entries_of asking lines)) ≡ Some d
    → (find test (entries_of asking lines) ≡ Some d → IsOfLine asking lines d) → IsOfLine asking (x ∷ lines) d
here-or-later asking test x lines e d true spells h rest =
    let same : held_entry asking.zone x.0 e ≡ d = cc in
    record { place = zero; line = x; entry = e; stands = refl; spells = spells; is = sym same }
here-or-later asking test x lines e d false spells h rest = later asking x lines d (rest h)

by-line : (asking : Asking) (test : Held → Bool) (x : ℕ × List ℕ) (lines : List (ℕ × List ℕ)) (d : Held) (l : AuthLine) → auth_line x.1 ≡ l
    → find test (held_by_line asking (x.0, l) ++ entries_of asking lines) ≡ Some d
    → (find test (entries_of asking lines) ≡ Some d → IsOfLine asking lines d) → IsOfLine asking (x ∷ lines) d
by-line asking test x lines d Blank is h rest = later asking x lines d (rest h)
by-line asking test x lines d Comment is h rest = later asking x lines d (rest h)
by-line asking test x lines d (Unreadable why) is h rest = later asking x lines d (rest h)
by-line asking test x lines d (Entry e) is h rest = here-or-later asking test x lines e d (test (held_entry asking.zone x.0 e)) is h rest

-- what is found among the entries of lines is the entry of one of them
pub found_held : (asking : Asking) (test : Held → Bool) (lines : List (ℕ × List ℕ)) (d : Held) → find test (entries_of asking lines) ≡ Some d → IsOfLine asking lines d
found_held asking test [] d h = cc
found_held asking test (x ∷ lines) d h = by-line asking test x lines d (auth_line x.1) refl h (found_held asking test lines d)
