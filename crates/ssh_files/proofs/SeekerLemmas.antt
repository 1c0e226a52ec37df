-- A vouch file that is read for one signature, byte by byte.
use Rattle.ssh_files.proofs.Imports.{◌≡◌, ◌∙◌, ◌+◌, ◌==◌, ◌&&◌, ◌||◌, ℕ, suc, Bool, true, false, cond, ltb, List, [], ◌∷◌, length, take, drop, Option, Some, None, Result, Ok, Err, refl, sym, ap, arith, inl, inr, IfSome, is_some, option_and_then, option_map, Bor, onto_first, position_or_len, bytes_eq, cases_Bool, eqb-true, ne_eqb, lt-ltb, le-ltb, ltb-true, ltb-false, lines_of, Signed, is_same, cut_at_line, hex_bytes, hex_value, pair_value, pair_values, prepend, cut_at_space, has_space, is_skipped, signed_of, triple_of, is_space, cut_rest, field_rest, fields_after, fields_rest, from_place, in_field_rest, is_wanted, is_start, key_wanted, triple_verdict, lines_rest, message_of, next_number, or_found, place_rest, rest_in_field, same_value, signature_wanted, unless_fault, value_rest, value_with, with_verdict, wanted_of, Digits, Nothing, Dash, Field, FieldName, Key, Place, Start, Comment, Broken, InField}
use Rattle.ssh_files.specs.VouchFile.{three_fields}

-- ---- digits

long : (b : ℕ) (text : List ℕ) → (length (b ∷ text) == 0) ≡ false
long b text = ne_eqb (length (b ∷ text)) 0 (λ e. omega (arith, e))

pub dash_first : (b : ℕ) (text : List ℕ) → (b == 45) ≡ true → hex_bytes (b ∷ text) ≡ value_rest Dash text
dash_first b [] h = rw h refl
dash_first b (c ∷ cs) h = rw (eqb-true b 45 h, long 45 (c ∷ cs), long c cs) refl

pub no_dash : (b : ℕ) (text : List ℕ) → (b == 45) ≡ false → hex_bytes (b ∷ text) ≡ pair_values (b ∷ text)
no_dash b text h = rw (h, long b text) refl

pub pair_whole : (high b v : ℕ) (text : List ℕ) → Some v ≡ pair_value (hex_value high) (hex_value b) → pair_values (high ∷ b ∷ text) ≡ prepend (Some v) (pair_values text)
pair_whole high b v text h = ap (λ (o : Option ℕ). prepend o (pair_values text)) (sym h)

pub pair_broken : (high b : ℕ) (text : List ℕ) → None ≡ pair_value (hex_value high) (hex_value b) → pair_values (high ∷ b ∷ text) ≡ None
pair_broken high b text h = ap (λ (o : Option ℕ). prepend o (pair_values text)) (sym h)

-- ---- a byte that is compared

and-more : (q a b : Bool) → (q && (a && b)) ≡ ((q && a) && b)
and-more true a b = refl
and-more false a b = refl

and-none : (q : Bool) → (q && false) ≡ false
and-none true = refl
and-none false = refl

pub compares_first : (q : Bool) (b first : ℕ) (left : List ℕ) (rest : Option (List ℕ))
    → same_value q (first ∷ left) (value_with (Some b) rest) ≡ same_value (q && (b == first)) left rest
compares_first q b first left None = refl
compares_first q b first left (Some value) = ap (λ (s : Bool). Some s) (and-more q (b == first) (bytes_eq value left))

pub compares_past : (q : Bool) (b : ℕ) (rest : Option (List ℕ)) → same_value q [] (value_with (Some b) rest) ≡ same_value false [] rest
compares_past q b None = refl
compares_past q b (Some value) = ap (λ (s : Bool). Some s) (and-none q)

-- ---- spaces

less-next : (p n : ℕ) (less : Bool) → ltb p n ≡ less → ltb (1 + p) (suc n) ≡ less
less-next p n true e = let lt = ltb-true p n e in lt-ltb (1 + p) (suc n) (omega (arith, lt))
less-next p n false e = let le = ltb-false p n e in le-ltb (1 + p) (suc n) (omega (arith, le))

abbrev onto_cut : ℕ → List ℕ × List ℕ → List ℕ × List ℕ
onto_cut b cut = (b ∷ cut.0, cut.1)

abbrev cut_after : List ℕ → ℕ → List ℕ × List ℕ
cut_after text n = (take n text, drop 1 (drop n text))

cut-by : (less : Bool) (b p : ℕ) (text : List ℕ) → ltb p (length text) ≡ less
    → option_map (cut_after (b ∷ text)) (cond less (Some (1 + p)) None) ≡ option_map (onto_cut b) (option_map (cut_after text) (cond less (Some p) None))
cut-by true b p text e = let next : 1 + p ≡ suc p = omega arith in rw next refl
cut-by false b p text e = refl

cut-word : (b : ℕ) (text : List ℕ) → (b == 32) ≡ false → cut_at_space (b ∷ text) ≡ option_map (onto_cut b) (cut_at_space text)
cut-word b text h =
    let p = position_or_len is_space text in
    let less = ltb p (length text) in
    rw (h, less-next p (length text) less refl) (cut-by less b p text refl)

cut-space : (text : List ℕ) → cut_at_space (32 ∷ text) ≡ Some ([], text)
cut-space text = rw (lt-ltb 0 (length (32 ∷ text)) (omega arith)) refl

-- ---- fields

-- a byte within a field
on-cut : (d : Digits) (q : Bool) (x : List ℕ) (b : ℕ) (then : Bool → List ℕ → Option Bool) (o : Option Field) (rest : Field → List ℕ → Option Bool)
    → ((u : List ℕ) → field_rest d q x (b ∷ u) ≡ option_and_then (λ f. rest f u) o) → (cut : Option (List ℕ × List ℕ))
    → option_and_then (λ c. option_and_then (λ same. then same c.1) (field_rest d q x c.0)) (option_map (onto_cut b) cut)
    ≡ option_and_then (λ f. option_and_then (λ c. option_and_then (λ same. then same c.1) (rest f c.0)) cut) o
on-cut d q x b then None rest h None = refl
on-cut d q x b then (Some f) rest h None = refl
on-cut d q x b then None rest h (Some c) = ap (option_and_then (λ same. then same c.1)) (h c.0)
on-cut d q x b then (Some f) rest h (Some c) = ap (option_and_then (λ same. then same c.1)) (h c.0)

past-space : (space : Bool) (o : Option Field) (u : List ℕ) → cond space None (option_and_then (λ f. rest_in_field f u) o) ≡ option_and_then (λ f. cond space None (rest_in_field f u)) o
past-space true None u = refl
past-space true (Some f) u = refl
past-space false None u = refl
past-space false (Some f) u = refl

fields-byte : (d : Digits) (q : Bool) (x : List ℕ) (following : List (List ℕ)) (b : ℕ) (text : List ℕ) (o : Option Field) → (b == 32) ≡ false
    → ((u : List ℕ) → field_rest d q x (b ∷ u) ≡ option_and_then (λ f. rest_in_field f u) o)
    → fields_rest d q x following (b ∷ text) ≡ option_and_then (λ f. fields_rest f.digits f.equal f.left.now following text) o
fields-byte d q x [] b text o word h =
    rw word (ap (λ (r : Option Bool). cond (has_space text) None r) (h text) ∙ past-space (has_space text) o text)
fields-byte d q x (y ∷ more) b text o word h =
    ap (option_and_then (λ c. option_and_then (λ same. fields_rest Nothing same y more c.1) (field_rest d q x c.0))) (cut-word b text word)
    ∙ on-cut d q x b (λ same after. fields_rest Nothing same y more after) o rest_in_field h (cut_at_space text)

named-same : (wanted : Option Signed) (name : FieldName) (text : List ℕ) (o : Option Field) → IfSome o (λ f. f.name ≡ name)
    → option_and_then (λ f. fields_rest f.digits f.equal f.left.now (fields_after name wanted) text) o ≡ option_and_then (λ f. in_field_rest wanted f text) o
named-same wanted name text None h = refl
named-same wanted name text (Some f) h = ap (λ (n : FieldName). fields_rest f.digits f.equal f.left.now (fields_after n wanted) text) (sym h)

-- one more byte of a field
pub field_byte : (wanted : Option Signed) (field : Field) (b : ℕ) (text : List ℕ) (o : Option Field) → (b == 32) ≡ false → IfSome o (λ f. f.name ≡ field.name)
    → ((u : List ℕ) → rest_in_field field (b ∷ u) ≡ option_and_then (λ f. rest_in_field f u) o)
    → in_field_rest wanted field (b ∷ text) ≡ option_and_then (λ f. in_field_rest wanted f text) o
field_byte wanted field b text o word named h =
    fields-byte field.digits field.equal field.left.now (fields_after field.name wanted) b text o word h
    ∙ named-same wanted field.name text o named

-- a space after the last field
pub space_last : (d : Digits) (q : Bool) (x text : List ℕ) → fields_rest d q x [] (32 ∷ text) ≡ None
space_last d q x text = refl

-- a space after another
pub space_next : (d : Digits) (q : Bool) (x y : List ℕ) (more : List (List ℕ)) (text : List ℕ)
    → fields_rest d q x (y ∷ more) (32 ∷ text) ≡ option_and_then (λ same. fields_rest Nothing same y more text) (field_rest d q x [])
space_next d q x y more text = ap (option_and_then (λ c. option_and_then (λ same. fields_rest Nothing same y more c.1) (field_rest d q x c.0))) (cut-space text)

-- ---- a line as a triple

last-same : (q a b c : Bool) → (((q && a) && b) && c) ≡ (q && (a && (b && c)))
last-same false a b c = refl
last-same true false b c = refl
last-same true true b c = refl

abbrev same_as : Bool → List ℕ → List ℕ → List ℕ → Signed → Bool
same_as q k m g signed = q && is_same signed (record { key = k; message = m; signature = g })

signed-by : (space q : Bool) (k m g : List ℕ) (key message signature : Option (List ℕ))
    → option_and_then (λ one. option_and_then (λ two. cond space None (same_value two g signature)) (same_value one m message)) (same_value q k key)
    ≡ option_map (same_as q k m g) (cond space None (signed_of key message signature))
signed-by true q k m g None message signature = refl
signed-by true q k m g (Some key) None signature = refl
signed-by true q k m g (Some key) (Some message) signature = refl
signed-by false q k m g None message signature = refl
signed-by false q k m g (Some key) None None = refl
signed-by false q k m g (Some key) None (Some signature) = refl
signed-by false q k m g (Some key) (Some message) None = refl
signed-by false q k m g (Some key) (Some message) (Some signature) =
    ap (λ (s : Bool). Some s) (last-same q (bytes_eq key k) (bytes_eq message m) (bytes_eq signature g))

none-after : (o : Option Bool) → option_and_then {T = Bool} {U = Bool} (λ same. None) o ≡ None
none-after None = refl
none-after (Some b) = refl

abbrev signed_in : List ℕ × List ℕ × List ℕ → Option Signed
signed_in f = signed_of (hex_bytes f.0) (hex_bytes f.1) (hex_bytes f.2)

fields-in : (space : Bool) (key message signature : List ℕ) → option_and_then signed_in (cond space None (Some (key, message, signature))) ≡ cond space None (signed_of (hex_bytes key) (hex_bytes message) (hex_bytes signature))
fields-in true key message signature = refl
fields-in false key message signature = refl

second-cut : (q : Bool) (k m g key : List ℕ) (cut : Option (List ℕ × List ℕ))
    → option_and_then (λ one. option_and_then (λ d. option_and_then (λ two. fields_rest Nothing two g [] d.1) (field_rest Nothing one m d.0)) cut) (field_rest Nothing q k key)
    ≡ option_map (same_as q k m g) (option_and_then signed_in (option_and_then (λ d. cond (has_space d.1) None (Some (key, d.0, d.1))) cut))
second-cut q k m g key None = none-after (field_rest Nothing q k key)
second-cut q k m g key (Some d) =
    signed-by (has_space d.1) q k m g (hex_bytes key) (hex_bytes d.0) (hex_bytes d.1)
    ∙ ap (option_map (same_as q k m g)) (sym (fields-in (has_space d.1) key d.0 d.1))

first-cut : (q : Bool) (k m g : List ℕ) (cut : Option (List ℕ × List ℕ))
    → option_and_then (λ c. option_and_then (λ one. fields_rest Nothing one m (g ∷ []) c.1) (field_rest Nothing q k c.0)) cut
    ≡ option_map (same_as q k m g) (option_and_then signed_in (option_and_then (λ c. option_and_then (λ d. cond (has_space d.1) None (Some (c.0, d.0, d.1))) (cut_at_space c.1)) cut))
first-cut q k m g None = refl
first-cut q k m g (Some c) = second-cut q k m g c.0 (cut_at_space c.1)

fields-triple : (q : Bool) (k m g line : List ℕ) → fields_rest Nothing q k (m ∷ g ∷ []) line ≡ option_map (same_as q k m g) (triple_of line)
unfolding three_fields
fields-triple q k m g line = first-cut q k m g (cut_at_space line)

wanted-same : (wanted : Option Signed) (o : Option Signed) → option_map (is_wanted wanted) o ≡ option_map (same_as (is_some wanted) (key_wanted wanted) (message_of wanted) (signature_wanted wanted)) o
wanted-same None None = refl
wanted-same (Some s) None = refl
wanted-same None (Some signed) = refl
wanted-same (Some s) (Some signed) = refl

-- a line from its first field on
line-fields : (wanted : Option Signed) (line : List ℕ) → is_skipped line ≡ false
    → triple_verdict wanted line ≡ fields_rest Nothing (is_some wanted) (key_wanted wanted) (fields_after Key wanted) line
line-fields wanted line kept =
    rw kept
    (wanted-same wanted (triple_of line)
    ∙ sym (fields-triple (is_some wanted) (key_wanted wanted) (message_of wanted) (signature_wanted wanted) line))

given-same : (wanted : Option (Bor Signed)) → is_some wanted ≡ is_some (wanted_of wanted)
given-same None = refl
given-same (Some signed) = refl

pub line_begun : (wanted : Option (Bor Signed)) (field : Field) (line : List ℕ) → is_skipped line ≡ false → field.name ≡ Key → field.digits ≡ Nothing
    → field.equal ≡ is_some wanted → field.left.now ≡ key_wanted (wanted_of wanted) → triple_verdict (wanted_of wanted) line ≡ in_field_rest (wanted_of wanted) field line
line_begun wanted field line kept name digits equal left = rw (name, digits, equal, left, given-same wanted) (line-fields (wanted_of wanted) line kept)

-- ---- lines

onto-cut : (b : ℕ) (text : List ℕ) → onto_first b (lines_of text) ≡ (b ∷ (cut_at_line text).0) ∷ lines_of (cut_at_line text).1
onto-cut b [] = refl
onto-cut b (c ∷ cs) =
    elim (cases_Bool (c == 10)) [
      | inl e ↦ rw e refl
      | inr e ↦ rw e (ap (onto_first b) (onto-cut c cs))
    ]

lines-cut : (b : ℕ) (text : List ℕ) → (b == 10) ≡ false → lines_of (b ∷ text) ≡ (b ∷ (cut_at_line text).0) ∷ lines_of (cut_at_line text).1
lines-cut b text h = rw h (onto-cut b text)

cut-byte : (wanted : Option Signed) (n : ℕ) (place : Place) (b : ℕ) (text : List ℕ) → (b == 10) ≡ false
    → from_place wanted n place (b ∷ text) ≡ cut_rest wanted n place (b ∷ (cut_at_line text).0, (cut_at_line text).1)
cut-byte wanted n Start b text h = ap (lines_rest wanted n) (lines-cut b text h)
cut-byte wanted n Comment b text h = rw h refl
cut-byte wanted n Broken b text h = refl
cut-byte wanted n (InField field) b text h = rw h refl

cut-begun : (wanted : Option Signed) (n : ℕ) (place : Place) (text : List ℕ) → is_start place ≡ false → from_place wanted n place text ≡ cut_rest wanted n place (cut_at_line text)
cut-begun wanted n Start text h = cc
cut-begun wanted n Comment text h = refl
cut-begun wanted n Broken text h = refl
cut-begun wanted n (InField field) text h = refl

-- one more byte of a line
pub byte_taken : (fault : Option ℕ) (found : Bool) (wanted : Option Signed) (n : ℕ) (place next : Place) (b : ℕ) (text : List ℕ) → (b == 10) ≡ false → is_start next ≡ false
    → ((u : List ℕ) → place_rest wanted place (b ∷ u) ≡ place_rest wanted next u)
    → unless_fault fault found (from_place wanted n place (b ∷ text)) ≡ unless_fault fault found (from_place wanted n next text)
byte_taken fault found wanted n place next b text other begun h =
    ap (unless_fault fault found)
    (cut-byte wanted n place b text other
    ∙ (ap (λ (v : Option Bool). with_verdict v n (lines_rest wanted (next_number n) (lines_of (cut_at_line text).1))) (h (cut_at_line text).0)
    ∙ sym (cut-begun wanted n next text begun)))

cut-lf : (wanted : Option Signed) (n : ℕ) (place : Place) (text : List ℕ) → from_place wanted n place (10 ∷ text) ≡ cut_rest wanted n place ([], text)
cut-lf wanted n Start text = refl
cut-lf wanted n Comment text = refl
cut-lf wanted n Broken text = refl
cut-lf wanted n (InField field) text = refl

cut-end : (wanted : Option Signed) (n : ℕ) (place : Place) → from_place wanted n place [] ≡ cut_rest wanted n place ([], [])
cut-end wanted n Start = refl
cut-end wanted n Comment = refl
cut-end wanted n Broken = refl
cut-end wanted n (InField field) = refl

or-more : (found here : Bool) (rest : Result Bool ℕ) → or_found found (or_found here rest) ≡ or_found (found || here) rest
or-more true here (Ok later) = refl
or-more false here (Ok later) = refl
or-more found here (Err n) = refl

-- the LF of a line that is a triple, or skipped
pub line_taken : (found here : Bool) (wanted : Option Signed) (n : ℕ) (place : Place) (text : List ℕ) → Some here ≡ place_rest wanted place []
    → or_found found (from_place wanted n place (10 ∷ text)) ≡ or_found (found || here) (from_place wanted (next_number n) Start text)
line_taken found here wanted n place text h =
    ap (or_found found) (cut-lf wanted n place text ∙ ap (λ (v : Option Bool). with_verdict v n (lines_rest wanted (next_number n) (lines_of text))) (sym h))
    ∙ or-more found here (lines_rest wanted (next_number n) (lines_of text))

-- the LF of another
pub line_broken : (found : Bool) (wanted : Option Signed) (n : ℕ) (place : Place) (text : List ℕ) → None ≡ place_rest wanted place []
    → or_found found (from_place wanted n place (10 ∷ text)) ≡ Err n
line_broken found wanted n place text h =
    ap (or_found found) (cut-lf wanted n place text ∙ ap (λ (v : Option Bool). with_verdict v n (lines_rest wanted (next_number n) (lines_of text))) (sym h))

or-end : (found here : Bool) → or_found found (or_found here (Ok false)) ≡ Ok (found || here)
or-end true here = refl
or-end false true = refl
or-end false false = refl

-- the end of the file
pub file_taken : (found here : Bool) (wanted : Option Signed) (n : ℕ) (place : Place) → Some here ≡ place_rest wanted place []
    → Ok (found || here) ≡ or_found found (from_place wanted n place [])
file_taken found here wanted n place h =
    sym (ap (or_found found) (cut-end wanted n place ∙ ap (λ (v : Option Bool). with_verdict v n (Ok false)) (sym h)) ∙ or-end found here)

pub file_broken : (found : Bool) (wanted : Option Signed) (n : ℕ) (place : Place) → None ≡ place_rest wanted place []
    → Err n ≡ or_found found (from_place wanted n place [])
file_broken found wanted n place h = sym (ap (or_found found) (cut-end wanted n place ∙ ap (λ (v : Option Bool). with_verdict v n (Ok false)) (sym h)))

pub none_found : (rest : Result Bool ℕ) → or_found false rest ≡ rest
none_found (Ok later) = refl
none_found (Err n) = refl
