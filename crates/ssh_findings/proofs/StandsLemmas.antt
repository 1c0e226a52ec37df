-- A recovered key is outside quotes.
use Rattle.ssh_findings.proofs.Imports.{◌≡◌, ◌∙◌, ◌≢◌, ℕ, Bool, true, false, not, cond, List, [], ◌∷◌, ◌++◌, Option, Some, None, ap, sym, refl, eqb, inl, inr, ◌⊎◌, unwrap_or, option_or, AreBlanks, begins_with_blank, is_blank, skip_blanks, PublicKey, after_options, is_first, key_after_blanks, read_part, toggled, StandsOutside, is_open, is_unbroken}
use Rattle.std.specs.Prelude.{◌&&◌, ◌||◌}
use Rattle.ssh_keys.specs.Names.{certificate_kind, plain_kind}
use Rattle.ssh_findings.specs.HeldKey.{authorized_key, held_key}
use Rattle.ssh_findings.specs.OpenSshNames.{algorithm_kind, word_kind}
use Rattle.ssh_findings.specs.OpenSshWords.{key_at, key_of_words}

-- ---- the walk over the options

record Walked (quoted escaped : Bool) (text rest : List ℕ) : Type 0 where
  options : List ℕ
  cut : text ≡ options ++ rest
  closed : is_open quoted escaped options ≡ false
  unbroken : is_unbroken quoted escaped options ≡ true
  end : (rest ≡ []) ⊎ (begins_with_blank rest ≡ true)

some-is : {A : Type 0} (x y : A) → Some x ≡ Some y → x ≡ y
some-is x y h = ap (λ o. unwrap_or o x) h

stops-unquoted : (quoted blank : Bool) → (not quoted && blank) ≡ true → (quoted ≡ false) × (blank ≡ true)
stops-unquoted true blank h = cc
stops-unquoted false blank h = (refl, h)

goes-on : (quoted blank : Bool) → (not quoted && blank) ≡ false → (quoted || not blank) ≡ true
goes-on true blank h = refl
goes-on false true h = cc
goes-on false false h = refl

walk : (quoted escaped : Bool) (text rest : List ℕ) → after_options quoted escaped text ≡ Some rest → Walked quoted escaped text rest
walk true escaped [] rest h = cc
walk false escaped [] rest h = record { options = []; cut = some-is [] rest h; closed = refl; unbroken = refl; end = inl (sym (some-is [] rest h)) }
walk quoted escaped (c ∷ cs) rest h = go (not quoted && is_blank c) refl h (walk (toggled quoted escaped c) (eqb c 92) cs rest)
  where
    go : (stop : Bool) → (not quoted && is_blank c) ≡ stop
        → cond stop (Some (c ∷ cs)) (after_options (toggled quoted escaped c) (eqb c 92) cs) ≡ Some rest
        → (after_options (toggled quoted escaped c) (eqb c 92) cs ≡ Some rest → Walked (toggled quoted escaped c) (eqb c 92) cs rest)
        → Walked quoted escaped (c ∷ cs) rest
    go true e h further =
        let both = stops-unquoted quoted (is_blank c) e in
        let all : c ∷ cs ≡ rest = some-is (c ∷ cs) rest h in
        record { options = []; cut = all; closed = both.0; unbroken = refl; end = inr (ap begins_with_blank (sym all) ∙ both.1) }
    go false e h further =
        let w = further h in
        record {
          options = c ∷ w.options;
          cut = ap (λ t. c ∷ t) w.cut;
          closed = w.closed;
          unbroken = ap (λ b. b && is_unbroken (toggled quoted escaped c) (eqb c 92) w.options) (goes-on quoted (is_blank c) e) ∙ w.unbroken;
          end = w.end;
        }

-- ---- the blanks after them

record Skipped (text : List ℕ) : Type 0 where
  gap : List ℕ
  cut : text ≡ gap ++ skip_blanks text
  blanks : AreBlanks gap
  some : begins_with_blank text ≡ true → gap ≢ []

skipped : (text : List ℕ) → Skipped text
skipped [] = record { gap = []; cut = refl; blanks = tt; some = λ h e. cc }
skipped (c ∷ cs) = go (is_blank c) refl (skipped cs)
  where
    go : (b : Bool) → is_blank c ≡ b → Skipped cs → Skipped (c ∷ cs)
    go true e s = record {
      gap = c ∷ s.gap;
      cut = ap (λ t. c ∷ t) s.cut ∙ ap (λ b. c ∷ s.gap ++ cond b (skip_blanks cs) (c ∷ cs)) (sym e);
      blanks = (e, s.blanks);
      some = λ h k. cc;
    }
    go false e s = record {
      gap = [];
      cut = ap (λ b. cond b (skip_blanks cs) (c ∷ cs)) (sym e);
      blanks = tt;
      some = λ h k. absurd (let no : true ≡ false = sym h ∙ e in cc);
    }

-- ---- the key

none-at-end : (key : PublicKey) → key_at [] ≡ Some key → ⊥
unfolding key_at key_of_words word_kind algorithm_kind plain_kind certificate_kind
none-at-end key h = cc

after-walk : (text rest : List ℕ) (key : PublicKey) → after_options false false text ≡ Some rest → key_at (skip_blanks rest) ≡ Some key → StandsOutside text key
after-walk text rest key h k =
    let w = walk false false text rest h in
    let s = skipped rest in
    let apart : s.gap ≢ [] = elim w.end [
      | inl none ↦ absurd (none-at-end key (ap (λ t. key_at (skip_blanks t)) (sym none) ∙ k))
      | inr blank ↦ s.some blank
    ] in
    record {
      options = w.options;
      gap = s.gap;
      rest = skip_blanks rest;
      cut = w.cut ∙ ap (λ t. w.options ++ t) s.cut;
      walked = record { closed = w.closed; unbroken = w.unbroken };
      blanks = s.blanks;
      apart = inr apart;
      stands = k;
    }

at-front : (text : List ℕ) (key : PublicKey) → key_at text ≡ Some key → StandsOutside text key
at-front text key k = record {
  options = [];
  gap = [];
  rest = text;
  cut = refl;
  walked = record { closed = refl; unbroken = refl };
  blanks = tt;
  apart = inl refl;
  stands = k;
}

authorized : (text : List ℕ) (key : PublicKey) → authorized_key text ≡ Some key → StandsOutside text key
unfolding authorized_key
authorized text key h = go (is_first 35 text) (key_at text) refl h
  where
    later : (end : Option (List ℕ)) → after_options false false text ≡ end → key_after_blanks end ≡ Some key → StandsOutside text key
    later None e k = cc
    later (Some rest) e k = after-walk text rest key e k

    go : (b : Bool) (first : Option PublicKey) → key_at text ≡ first
        → cond b None (option_or first (key_after_blanks (after_options false false text))) ≡ Some key → StandsOutside text key
    go true first e k = cc
    go false None e k = later (after_options false false text) refl k
    go false (Some found) e k = at-front text key (e ∙ k)

pub reported-outside : (line : List ℕ) (key : PublicKey) → held_key line ≡ Some key → StandsOutside (read_part line) key
unfolding held_key
reported-outside line key h = authorized (read_part line) key h
