-- A pattern and a text whose last bytes are the same, or not.
use Rattle.ssh_patterns.proofs.Imports.{◌≡◌, ℕ, suc, ◌+◌, ◌-◌, ◌*◌, ◌≤◌, ◌==◌, Bool, true, false, ◌||◌, ◌&&◌, List, [], ◌∷◌, ◌++◌, length, take, get_or, map, length-append, refl, sym, ap, ◌∙◌, arith, or-false, ne_eqb, map-append, is_match, is_empty, some_rest, first_and_rest, star, question}

and-false : (a : Bool) → (a && false) ≡ false
and-false true = refl
and-false false = refl

not-empty : (text : List ℕ) (x : ℕ) → is_empty (text ++ x ∷ []) ≡ false
not-empty [] x = refl
not-empty (y ∷ text) x = refl

-- a pattern that ends with a byte that is not a star does not match the empty text
none-by : (s : Bool) (d c : ℕ) (pattern : List ℕ) → (d == star) ≡ s → is_match (pattern ++ c ∷ []) [] ≡ false
    → is_match (d ∷ (pattern ++ c ∷ [])) [] ≡ false
none-by true d c pattern e h = rw e h
none-by false d c pattern e h = rw e refl

none-empty : (pattern : List ℕ) (c : ℕ) → (c == star) ≡ false → is_match (pattern ++ c ∷ []) [] ≡ false
none-empty [] c plain = rw plain refl
none-empty (d ∷ pattern) c plain = none-by (d == star) d c pattern refl (none-empty pattern c plain)

-- whether a byte of the pattern that is not a star takes a byte of the text
abbrev pub takes : ℕ → ℕ → Bool
takes c x = (c == question) || (c == x)

joined-or : (b here later : Bool) → ((b && here) || (b && later)) ≡ (b && (here || later))
joined-or true here later = refl
joined-or false here later = refl

joined-and : (a b rest : Bool) → (a && (b && rest)) ≡ (b && (a && rest))
joined-and true b rest = refl
joined-and false b rest = sym (and-false b)

abbrev Ends : List ℕ → ℕ → ℕ → Type 0
Ends pattern c x = (text : List ℕ) → is_match (pattern ++ c ∷ []) (text ++ x ∷ []) ≡ (takes c x && is_match pattern text)

star-ends : (pattern : List ℕ) (c x : ℕ) → is_match (pattern ++ c ∷ []) [] ≡ false → Ends pattern c x → (text : List ℕ)
    → some_rest (is_match (pattern ++ c ∷ [])) (text ++ x ∷ []) ≡ (takes c x && some_rest (is_match pattern) text)
star-ends pattern c x none h [] = rw (h [], none) (or-false (takes c x && is_match pattern []))
star-ends pattern c x none h (y ∷ text) =
    rw (h (y ∷ text), star-ends pattern c x none h text)
    (joined-or (takes c x) (is_match pattern (y ∷ text)) (some_rest (is_match pattern) text))

byte-ends : (d c x : ℕ) (pattern : List ℕ) → is_match (pattern ++ c ∷ []) [] ≡ false → Ends pattern c x → (text : List ℕ)
    → first_and_rest (λ y. (d == question) || (d == y)) (is_match (pattern ++ c ∷ [])) (text ++ x ∷ [])
    ≡ (takes c x && first_and_rest (λ y. (d == question) || (d == y)) (is_match pattern) text)
byte-ends d c x pattern none h [] = rw none (and-false (takes d x) ∙ sym (and-false (takes c x)))
byte-ends d c x pattern none h (y ∷ text) = rw (h text) (joined-and (takes d y) (takes c x) (is_match pattern text))

ends-by : (s : Bool) (d c x : ℕ) (pattern text : List ℕ) → (d == star) ≡ s → is_match (pattern ++ c ∷ []) [] ≡ false → Ends pattern c x
    → is_match (d ∷ (pattern ++ c ∷ [])) (text ++ x ∷ []) ≡ (takes c x && is_match (d ∷ pattern) text)
ends-by true d c x pattern text e none h = rw e (star-ends pattern c x none h text)
ends-by false d c x pattern text e none h = rw e (byte-ends d c x pattern none h text)

last-by : (c x : ℕ) → (c == star) ≡ false → Ends [] c x
last-by c x plain [] = rw plain refl
last-by c x plain (y ∷ text) = rw (plain, not-empty text x) (and-false (takes c y) ∙ sym (and-false (takes c x)))

-- The law: the last byte of the pattern, where it is not a star, takes the last byte of the text.
pub ends : (pattern text : List ℕ) (c x : ℕ) → (c == star) ≡ false
    → is_match (pattern ++ c ∷ []) (text ++ x ∷ []) ≡ (takes c x && is_match pattern text)
ends [] text c x plain = last-by c x plain text
ends (d ∷ pattern) text c x plain =
    ends-by (d == star) d c x pattern text refl (none-empty pattern c plain) (λ t. ends pattern t c x plain)

-- a text in front of its last byte, and that byte
split-last : (text : List ℕ) → 1 ≤ length text → text ≡ take (length text - 1) text ++ get_or text (length text - 1) 0 ∷ []
split-last [] some = absurd (omega arith)
split-last (c ∷ []) some = refl
split-last (c ∷ d ∷ text) some =
    let n : length (c ∷ d ∷ text) - 1 ≡ suc (length (d ∷ text) - 1) = omega arith in
    rw n (ap (λ s. c ∷ s) (split-last (d ∷ text) (omega arith)))

-- the same, each byte as it is compared
folded-last : (f : ℕ → ℕ) (text : List ℕ) → 1 ≤ length text
    → map f text ≡ map f (take (length text - 1) text) ++ f (get_or text (length text - 1) 0) ∷ []
folded-last f text some =
    ap (map f) (split-last text some) ∙ map-append f (take (length text - 1) text) (get_or text (length text - 1) 0 ∷ [])

pub front-length : (text : List ℕ) → 1 ≤ length text → length (take (length text - 1) text) + 1 ≡ length text
front-length text some =
    sym (ap length (split-last text some) ∙ length-append (take (length text - 1) text) (get_or text (length text - 1) 0 ∷ []))

-- one step of the loop from the end, where the bytes as they are compared are c and x
last-turn : (f : ℕ → ℕ) (pattern text : List ℕ) (c x : ℕ) → 1 ≤ length pattern → 1 ≤ length text
    → c ≡ f (get_or pattern (length pattern - 1) 0) → x ≡ f (get_or text (length text - 1) 0) → (c ≡ star → ⊥)
    → is_match (map f pattern) (map f text)
    ≡ (takes c x && is_match (map f (take (length pattern - 1) pattern)) (map f (take (length text - 1) text)))
last-turn f pattern text c x p t is_c is_x plain =
    rw (folded-last f pattern p, folded-last f text t, ← is_c, ← is_x)
    (ends (map f (take (length pattern - 1) pattern)) (map f (take (length text - 1) text)) c x (ne_eqb c star plain))

pub last-differs : (f : ℕ → ℕ) (pattern text : List ℕ) (c x : ℕ) → 1 ≤ length pattern → 1 ≤ length text
    → c ≡ f (get_or pattern (length pattern - 1) 0) → x ≡ f (get_or text (length text - 1) 0)
    → (c ≡ star → ⊥) → (c ≡ question → ⊥) → (c ≡ x → ⊥) → is_match (map f pattern) (map f text) ≡ false
last-differs f pattern text c x p t is_c is_x plain one other =
    rw (last-turn f pattern text c x p t is_c is_x plain, ne_eqb c question one, ne_eqb c x other) refl

pub last-same : (f : ℕ → ℕ) (pattern text : List ℕ) (c x : ℕ) → 1 ≤ length pattern → 1 ≤ length text
    → c ≡ f (get_or pattern (length pattern - 1) 0) → x ≡ f (get_or text (length text - 1) 0)
    → (c ≡ star → ⊥) → takes c x ≡ true
    → is_match (map f pattern) (map f text)
    ≡ is_match (map f (take (length pattern - 1) pattern)) (map f (take (length text - 1) text))
last-same f pattern text c x p t is_c is_x plain same =
    rw (last-turn f pattern text c x p t is_c is_x plain, same) refl

steps-by : (wanted left passed steps : ℕ) → steps ≤ (wanted + 1) * (left + 1)
    → passed + steps ≤ (wanted + passed + 1) * (left + passed + 1)
steps-by wanted left passed steps h = omega (arith, h)

-- the steps from both sides
pub both-steps : (pattern text wanted left steps : ℕ) → wanted + text ≡ left + pattern → left ≤ text
    → steps ≤ (wanted + 1) * (left + 1) → text - left + steps ≤ (pattern + 1) * (text + 1)
both-steps pattern text wanted left steps lengths shorter h =
    let p : wanted + (text - left) ≡ pattern = omega arith in
    let t : left + (text - left) ≡ text = omega arith in
    rw (p, t) at (steps-by wanted left (text - left) steps h)
