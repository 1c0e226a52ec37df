-- The fields of a line.
use Rattle.ssh_entries.proofs.Imports.{◌≡◌, ℕ, ◌≤◌, nat_lt, Bool, true, false, ◌==◌, if◌then◌else◌, List, [], ◌∷◌, length, refl, sym, ap, ◌∙◌, arith, ltb-false, le-ltb, line_limit, body_of, has_no_bytes, past_limit, remark, fields, front_of, front_of_body, begins_with}
use Rattle.ssh_entries.proofs.LengthLemmas.{length_body}

-- what is known of a line on which these fields stand
pub record FrontFields (line body : List ℕ) : Type 0 where
  pub short : length line ≤ line_limit
  pub is : body_of line ≡ body
  pub some : has_no_bytes body ≡ false
  pub comment : begins_with 35 body ≡ false

remark-by : (c : ℕ) (cs body : List ℕ) (comment : Bool) → (c == 35) ≡ comment → (if comment then remark else fields (c ∷ cs)) ≡ fields body
    → (c ∷ cs ≡ body) × (begins_with 35 (c ∷ cs) ≡ false)
remark-by c cs body true e h = cc
remark-by c cs body false e h = (cc, e)

body-by : (text body : List ℕ) → front_of_body text ≡ fields body → (text ≡ body) × (has_no_bytes text ≡ false) × (begins_with 35 text ≡ false)
body-by [] body h = cc
body-by (c ∷ cs) body h = let is = remark-by c cs body (c == 35) refl h in (is.0, refl, is.1)

limit-by : (line body : List ℕ) (long : Bool) → nat_lt line_limit (length line) ≡ long
    → (if long then past_limit else front_of_body (body_of line)) ≡ fields body → FrontFields line body
limit-by line body true l h = cc
limit-by line body false l h =
    let is = body-by (body_of line) body h in
    record {
      short = ltb-false line_limit (length line) l;
      is = is.0;
      some = ap has_no_bytes (sym is.0) ∙ is.1;
      comment = ap (begins_with 35) (sym is.0) ∙ is.2;
    }

pub front-fields : (line body : List ℕ) → front_of line ≡ fields body → FrontFields line body
front-fields line body h = limit-by line body (nat_lt line_limit (length line)) refl h

-- fields are no longer than the line
pub fields-length : (line body : List ℕ) → front_of line ≡ fields body → length body ≤ line_limit
fields-length line body h =
    let f = front-fields line body h in
    let short = length_body 13 line in
    let is : length (body_of line) ≡ length body = ap length f.is in
    let limit = f.short in
    omega arith

fields-at : (text : List ℕ) → has_no_bytes text ≡ false → begins_with 35 text ≡ false → front_of_body text ≡ fields text
fields-at [] s h = cc
fields-at (c ∷ cs) s h = rw h refl

-- a short line has the fields of its body
pub front-at : (line body : List ℕ) → length line ≤ line_limit → body_of line ≡ body → has_no_bytes body ≡ false
    → begins_with 35 body ≡ false → front_of line ≡ fields body
front-at line body short is some comment =
    rw (le-ltb line_limit (length line) short, is) (fields-at body some comment)
