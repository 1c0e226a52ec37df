-- The lists that are matched stand on their lines, so that a line takes no more steps than by its length.
use Rattle.ssh_trust.proofs.Imports.{◌≡◌, ◌∙◌, ℕ, suc, ◌+◌, ◌*◌, ◌≤◌, ◌==◌, Bool, true, false, cond, List, [], ◌∷◌, ◌++◌, length, Option, Some, None, ap, refl, arith, mul-le, names_text, AuthOption, Switch, Setting, ValueName, From, same_value_name, SpellsItems, SpellsOption, escaped, quoted, first_of, setting, settings, AuthEntry, SpellsEntry, SpellsOptions, AuthLine, KnownEntry, SpellsKnown, KnownLine, auth_line-spells, known_line-spells, HostClaim, LoginClaim, Login, login_most, login_width, source_most, host_most, host_width, host_line_most, login_line_most}
use Rattle.std.proofs.Common.{length-append}
use Rattle.ssh_entries.specs.AuthGrammar.{auth_line}
use Rattle.ssh_entries.specs.declared.auth_line.AuthLine.TheVariants as auth
use Rattle.ssh_entries.specs.KnownGrammar.{known_line}
use Rattle.ssh_entries.specs.declared.known_line.KnownLine.TheVariants as known
use Rattle.ssh_trust.proofs.CandidateLemmas.{AreBytes}

-- ---- the value of an option

escaped-long : (text : List ℕ) → length text ≤ length (escaped text)
escaped-long [] = omega arith
escaped-long (c ∷ cs) = go (c == 34) (escaped-long cs)
  where
    go : (b : Bool) → length cs ≤ length (escaped cs) → length (c ∷ cs) ≤ length (cond b (92 ∷ 34 ∷ []) (c ∷ []) ++ escaped cs)
    go true h = omega (arith, h)
    go false h = omega (arith, h)

abbrev value_length : AuthOption → ℕ
value_length (Switch flag) = 0
value_length (Setting name state) = length state

abbrev text_length : Option (List ℕ) → ℕ
text_length None = 0
text_length (Some text) = length text

option-long : (option : AuthOption) (text : List ℕ) → SpellsOption option text → value_length option ≤ length text
option-long (Switch flag) text h = omega arith
option-long (Setting name state) text (spelled, same, is) =
    let whole : length text ≡ length spelled + suc (suc (length (escaped state ++ 34 ∷ []))) = ap length is ∙ length-append spelled (quoted state) in
    omega (arith, whole, length-append (escaped state) (34 ∷ []), escaped-long state)

one_more : (name : ValueName) (option : AuthOption) (options : List AuthOption) (n : ℕ)
    → value_length option ≤ n → text_length (setting name options) ≤ n → text_length (setting name (option ∷ options)) ≤ n
one_more name (Switch flag) options n h k = k
one_more name (Setting other state) options n h k = go (same_value_name other name)
  where
    go : (b : Bool) → text_length (first_of (cond b (state ∷ settings name options) (settings name options))) ≤ n
    go true = h
    go false = k

items-long : (name : ValueName) (options : List AuthOption) (text : List ℕ) → SpellsItems options text → text_length (setting name options) ≤ length text
items-long name [] text h = absurd h
items-long name (option ∷ []) text h = one_more name option [] (length text) (option-long option text h) (omega arith)
items-long name (option ∷ next ∷ options) text (first, rest, spelled, more, is) =
    let whole : length text ≡ length first + suc (length rest) = ap length is ∙ length-append first (44 ∷ rest) in
    one_more name option (next ∷ options) (length text) (omega (arith, whole, option-long option first spelled))
    (omega (arith, whole, items-long name (next ∷ options) rest more))

options-long : (name : ValueName) (options : List AuthOption) (text : List ℕ) → SpellsOptions options text → text_length (setting name options) ≤ length text
options-long name [] text h = omega arith
options-long name (option ∷ options) text (items, gap, spelled, blanks, allowed, is) =
    let whole : length text ≡ length items + length gap = ap length is ∙ length-append items gap in
    omega (arith, whole, items-long name (option ∷ options) items spelled)

entry-long : (name : ValueName) (e : AuthEntry) (line : List ℕ) → SpellsEntry e line → text_length (setting name e.options) ≤ length line
entry-long name e line (short, (blank, options, key, blanks, spelled, state, is)) =
    let whole : length line ≡ length (blank ++ options) + length key = ap length is ∙ length-append (blank ++ options) key in
    omega (arith, whole, length-append blank options, options-long name e.options options spelled)

-- ---- the steps of a line of authorized_keys

list-steps : (list : Option (List ℕ)) (q : Login) (n : ℕ) → text_length list ≤ n → source_most list q ≤ (n + 1) * login_width q
list-steps None q n h = omega arith
list-steps (Some list) q n h = mul-le (length list + 1) (login_width q) (n + 1) (login_width q) (omega (arith, h)) (omega arith)

login-state : (claim : LoginClaim) (line : List ℕ) (state : AuthLine) → AreBytes line → auth_line line ≡ state → login_most claim state ≤ (length line + 1) * login_width claim.query
login-state claim line auth.Blank h is = omega arith
login-state claim line auth.Comment h is = omega arith
login-state claim line (auth.Entry e) h is =
    list-steps (setting From e.options) claim.query (length line) (entry-long From e line (auth_line-spells line e h is))
login-state claim line (auth.Unreadable cause) h is = omega arith

pub login-fits : (claim : LoginClaim) (line : List ℕ) → AreBytes line → login_line_most claim line ≤ (length line + 1) * login_width claim.query
login-fits claim line h = login-state claim line (auth_line line) h refl

-- ---- the steps of a line of known_hosts

names-long : (e : KnownEntry) (line : List ℕ) → SpellsKnown e line → length (names_text e.names) ≤ length line
names-long e line (short, (blank, marker, names, gap, key, blanks, marked, named, solid, gaps, state, is)) =
    let whole : length line ≡ length (blank ++ marker ++ names ++ gap) + length key = ap length is ∙ length-append (blank ++ marker ++ names ++ gap) key in
    let same : length names ≡ length (names_text e.names) = ap length named.text in
    omega (arith, whole, same, length-append (blank ++ marker ++ names) gap, length-append (blank ++ marker) names)

host-state : (claim : HostClaim) (line : List ℕ) (state : KnownLine) → AreBytes line → known_line line ≡ state → host_most claim state ≤ (length line + 1) * host_width claim.query
host-state claim line known.Blank h is = omega arith
host-state claim line known.Comment h is = omega arith
host-state claim line (known.Entry e) h is =
    mul-le (length (names_text e.names) + 1) (host_width claim.query) (length line + 1) (host_width claim.query)
    (omega (arith, names-long e line (known_line-spells line e h is))) (omega arith)
host-state claim line (known.Revoked bytes) h is = omega arith
host-state claim line known.RevokedUnreadable h is = omega arith
host-state claim line (known.Unreadable cause) h is = omega arith

pub host-fits : (claim : HostClaim) (line : List ℕ) → AreBytes line → host_line_most claim line ≤ (length line + 1) * host_width claim.query
host-fits claim line h = host-state claim line (known_line line) h refl
