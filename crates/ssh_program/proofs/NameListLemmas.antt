-- A list of names, one name after the other.
use Rattle.std.proofs.Common.{◌≡◌, ◌∙◌, ◌+◌, ◌<◌, ◌≤◌, ◌==◌, ◌++◌, ◌∷◌, [], ℕ, suc, List, Option, Some, None, Result, Ok, Err, ap, arith, cond, drop, inl, inr, length, refl, sym, take}
use Rattle.std.proofs.lemmas.Bool.{cases_Bool}
use Rattle.std.proofs.lemmas.List.{append-nil, append_assoc, drop_all, length-append, take_all}
use Rattle.std.specs.List.{after_first, before_first, onto_first, position_or_len}
use Rattle.clap.specs.Words.{Text}
use Rattle.ssh_program.specs.declared.naming.Naming.{Naming}
use Rattle.ssh_program.specs.NameLists.{cut_at_all, first_fault, name_end, name_fault, named_fault, names_of, names_read, unless_fault}
use Rattle.ssh_program.specs.declared.name_list.NameFault.{NameFault}
use Rattle.ssh_program.specs.declared.name_list.ListError.{ListError}
use Rattle.ssh_program.specs.declared.name_list.ListError.TheVariants.{Name}

-- ---- one name

-- where the byte is not there, all stands before it, and nothing behind it
pub uncut_name : (end : ℕ) (text : Text) → position_or_len (λ b. b == end) text ≡ length text → text ≡ before_first (λ b. b == end) text
uncut_name end text h = rw h (sym (take_all (length text) text (omega arith)))

pub uncut_rest : (end : ℕ) (text : Text) → position_or_len (λ b. b == end) text ≡ length text → [] ≡ after_first (λ b. b == end) text
uncut_rest end text h = rw h (sym (drop_all (length text + 1) text (omega arith)))

take-one : (k c : ℕ) (cs : List ℕ) → take (1 + k) (c ∷ cs) ≡ c ∷ take k cs
take-one k c cs = let next : 1 + k ≡ suc k = omega arith in ap (λ (j : ℕ). take j (c ∷ cs)) next

drop-one : (k c : ℕ) (cs : List ℕ) → drop ((1 + k) + 1) (c ∷ cs) ≡ drop (k + 1) cs
drop-one k c cs = let next : (1 + k) + 1 ≡ suc (k + 1) = omega arith in ap (λ (j : ℕ). drop j (c ∷ cs)) next

-- the first name, and those behind its end
cut-first : (end c : ℕ) (cs : Text) → cut_at_all end (c ∷ cs) ≡ before_first (λ b. b == end) (c ∷ cs) ∷ cut_at_all end (after_first (λ b. b == end) (c ∷ cs))
cut-first end c [] = elim (cases_Bool (c == end)) [ inl e ↦ rw e refl | inr e ↦ rw e refl ]
cut-first end c (d ∷ ds) =
    elim (cases_Bool (c == end)) [
      | inl e ↦ rw e refl
      | inr e ↦ rw (e, take-one (position_or_len (λ b. b == end) (d ∷ ds)) c (d ∷ ds), drop-one (position_or_len (λ b. b == end) (d ∷ ds)) c (d ∷ ds))
          (ap (onto_first c) (cut-first end d ds))
    ]

cut-name : (end : ℕ) (text name rest : Text) → 0 < length text → name ≡ before_first (λ b. b == end) text → rest ≡ after_first (λ b. b == end) text
    → cut_at_all end text ≡ name ∷ cut_at_all end rest
cut-name end [] name rest some front behind = absurd (omega (arith, some))
cut-name end (c ∷ cs) name rest some front behind = rw (front, behind) (cut-first end c cs)

-- ---- the names so far

-- these names were read, none of them with a fault, and this is left
pub record AreNames (naming : Naming) (text : Text) (names : List Text) (rest : Text) : Type 0 where
  pub whole : names ++ cut_at_all (name_end text) rest ≡ names_of text
  pub faults : first_fault naming (length names + 1) (cut_at_all (name_end text) rest) ≡ first_fault naming 1 (names_of text)

pub names_begin : (naming : Naming) (text : Text) → AreNames naming text [] text
names_begin naming text = record { whole = refl; faults = refl }

-- a name without a fault
pub names_more : (naming : Naming) (text : Text) (names more : List Text) (rest name after : Text) (end : ℕ) → end ≡ name_end text → 0 < length rest
    → name ≡ before_first (λ b. b == end) rest → after ≡ after_first (λ b. b == end) rest
    → None ≡ name_fault naming name → more ≡ names ++ name ∷ [] → AreNames naming text names rest → AreNames naming text more after
names_more naming text names more rest name after end is some front behind good pushed h =
    let cut : cut_at_all (name_end text) rest ≡ name ∷ cut_at_all (name_end text) after =
    ap (λ e. cut_at_all e rest) (sym is) ∙ (cut-name end rest name after some front behind ∙ ap (λ e. name ∷ cut_at_all e after) is) in
    let next : length more + 1 ≡ (length names + 1) + 1 = rw pushed (ap (λ (k : ℕ). k + 1) (length-append names (name ∷ []))) in
    record {
      whole = rw pushed (append_assoc names (name ∷ []) (cut_at_all (name_end text) after) ∙ (ap (λ ns. names ++ ns) (sym cut) ∙ h.whole));
      faults = rw next (sym (ap (first_fault naming (length names + 1)) cut ∙ rw (sym good) refl) ∙ h.faults);
    }

-- a name with a fault: the list has none but it
pub names_failed : (naming : Naming) (text : Text) (names : List Text) (rest name : Text) (fault : NameFault) (n end : ℕ) → end ≡ name_end text → 0 < length rest
    → name ≡ before_first (λ b. b == end) rest → Some fault ≡ name_fault naming name → n ≡ length names + 1 → AreNames naming text names rest
    → names_read naming text ≡ Err (Name fault n)
names_failed naming text names rest name fault n end is some front bad number h =
    let cut : cut_at_all (name_end text) rest ≡ name ∷ cut_at_all (name_end text) (after_first (λ b. b == end) rest) =
    ap (λ e. cut_at_all e rest) (sym is) ∙ (cut-name end rest name (after_first (λ b. b == end) rest) some front refl
    ∙ ap (λ e. name ∷ cut_at_all e (after_first (λ b. b == end) rest)) is) in
    let first : first_fault naming (length names + 1) (cut_at_all (name_end text) rest) ≡ Some (Name fault (length names + 1)) =
    ap (first_fault naming (length names + 1)) cut ∙ rw (sym bad) refl in
    rw number (ap (λ f. unless_fault f (names_of text)) (sym h.faults ∙ first))

-- no name is left
pub names_done : (naming : Naming) (text : Text) (names : List Text) (rest : Text) → length rest ≡ 0 → AreNames naming text names rest → names_read naming text ≡ Ok names
names_done naming text names [] none h =
    ap (λ f. unless_fault f (names_of text)) (sym h.faults) ∙ ap (λ ns. unless_fault None ns) (sym h.whole ∙ append-nil names)
names_done naming text names (c ∷ cs) none h = absurd (omega (arith, none))
