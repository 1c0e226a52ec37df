-- A line that spells an entry is read as that entry, so it spells no other.
use Rattle.ssh_entries.proofs.Imports.{◌≡◌, ◌≢◌, ℕ, Bool, true, false, not, ◌==◌, inl, inr, List, [], ◌∷◌, ◌++◌, length, bytes_eq, codes, Option, Some, None, Ok, refl, sym, ap, subst, ◌∙◌, append_assoc, append-nil, cases_Bool, le-ltb, bytes_eq-Decides, drop-append_seam, IsBytes, KeyKind, Rsa, P256, P384, P521, Ed25519, SkP256, SkEd25519, key_name_of, certificate_name_of, class_by, class_of, PublicKey, kind_of, key_blob, AuthOption, AuthEntry, Entry, line_limit, is_blank, skip_blanks, first_word, without_cr, AreBlanks, begins_with_blank, IsComment, SpellsTail, name_part, is_name_byte, option_text_of, SpellsItems, AreAllowed, AuthLine, front_of_body, SpellsEntry, SpellsOptions, line_of_front, entry_of, entry_of_key, ends_word, gap-test, skip_blanks-after, skip_blanks-at_word, comment_of-cr, comment_of-tail, is_option_name, stops_name, AreNameBytes, BeginsWithName, begins-items, other_byte, plain-from_name_byte, name_part-at, text_of-items, options_of-spelled, quotable, key_again, base64, is_type, begins_with_type}
use Rattle.ssh_keys.specs.Names.{plain_kind, certificate_kind}
use Rattle.ssh_keys.specs.KeyReading.{key_in}
use Rattle.ssh_options.specs.OptionNames.{row_named}
use Rattle.ssh_entries.specs.AuthGrammar.{auth_line}
use Rattle.ssh_entries.proofs.KeyLemmas.{base64-no_cr, base64-some, spelling-some, name-no_blank, first_field-at, key_part-at, without_cr-at}
use Rattle.ssh_entries.proofs.KeyNames.{class-of_name, plain_kind-named, certificate_kind-named}
use Rattle.ssh_entries.specs.KeyPart.{key_part_of}

-- ---- no option list begins as a key type

plain-no_option : (kind : KeyKind) → is_option_name (name_part (key_name_of kind)) ≡ false
unfolding row_named
plain-no_option Rsa = refl
plain-no_option P256 = refl
plain-no_option P384 = refl
plain-no_option P521 = refl
plain-no_option Ed25519 = refl
plain-no_option SkP256 = refl
plain-no_option SkEd25519 = refl

certificate-no_option : (kind : KeyKind) → is_option_name (name_part (certificate_name_of kind)) ≡ false
unfolding row_named
certificate-no_option Rsa = refl
certificate-no_option P256 = refl
certificate-no_option P384 = refl
certificate-no_option P521 = refl
certificate-no_option Ed25519 = refl
certificate-no_option SkP256 = refl
certificate-no_option SkEd25519 = refl

retired-no_option : is_option_name (name_part (codes "ssh-dss")) ≡ false
unfolding row_named
retired-no_option = refl

by_class-no_option : (word : List ℕ) (plain certificate : Option KeyKind) (retired : Bool)
    → plain_kind word ≡ plain → certificate_kind word ≡ certificate → bytes_eq word (codes "ssh-dss") ≡ retired
    → is_type (class_by plain certificate retired) ≡ true → is_option_name (name_part word) ≡ false
by_class-no_option word (Some kind) certificate retired p c r t = rw (plain_kind-named word kind p) (plain-no_option kind)
by_class-no_option word None (Some kind) retired p c r t = rw (certificate_kind-named word kind c) (certificate-no_option kind)
by_class-no_option word None None true p c r t = rw ((bytes_eq-Decides word (codes "ssh-dss")).0 r) retired-no_option
by_class-no_option word None None false p c r t = cc

-- a key type begins with no option's name
pub type-no_option : (word : List ℕ) → is_type (class_of word) ≡ true → is_option_name (name_part word) ≡ false
type-no_option word t =
    by_class-no_option word (plain_kind word) (certificate_kind word) (bytes_eq word (codes "ssh-dss")) refl refl refl t

-- ---- the first word of options

blank-stops : (c : ℕ) → is_blank c ≡ true → not (is_name_byte c) ≡ true
blank-stops c h =
    elim (cases_Bool (is_name_byte c)) [
      | inl e ↦ let plain = plain-from_name_byte c e in let f : false ≡ true = rw plain.blank at h in cc
      | inr e ↦ rw e refl
    ]

first_word-after : (name rest : List ℕ) → AreNameBytes name → first_word (name ++ rest) ≡ name ++ first_word rest
first_word-after [] rest n = refl
first_word-after (c ∷ name) rest n =
    let plain = plain-from_name_byte c n.0 in rw plain.blank (ap (λ s. c ∷ s) (first_word-after name rest n.1))

first_word-stops : (rest : List ℕ) → stops_name rest ≡ true → stops_name (first_word rest) ≡ true
first_word-stops [] s = refl
first_word-stops (c ∷ cs) s = elim (cases_Bool (is_blank c)) [ inl e ↦ rw e refl | inr e ↦ rw e s ]

-- a text that begins with an option's name does not begin with a key type
names-no_type : (text : List ℕ) → BeginsWithName text → begins_with_type text ≡ false
names-no_type text b =
    let here : name_part (first_word text) ≡ b.first ∷ b.others =
    ap (λ t. name_part (first_word t)) b.whole ∙ ap name_part (first_word-after (b.first ∷ b.others) b.rest b.bytes)
    ∙ name_part-at (b.first ∷ b.others) (first_word b.rest) b.bytes (first_word-stops b.rest b.stops) in
    elim (cases_Bool (begins_with_type text)) [
      | inl e ↦
          let f : is_option_name (name_part (first_word text)) ≡ false = type-no_option (first_word text) e in
          let g : is_option_name (name_part (first_word text)) ≡ true = ap is_option_name here ∙ b.listed in
          let h : true ≡ false = sym g ∙ f in cc
      | inr e ↦ e
    ]

-- ---- the line

abbrev begins_comment : List ℕ → Bool
begins_comment [] = true
begins_comment (c ∷ cs) = c == 35

-- a body as read
abbrev line_of_body : List ℕ → AuthLine
line_of_body body = line_of_front (front_of_body body)

line_of_body-at : (body : List ℕ) → begins_comment body ≡ false → line_of_body body ≡ entry_of body
line_of_body-at [] h = cc
line_of_body-at (c ∷ cs) h = rw h refl

name-no_comment : (kind : KeyKind) (rest : List ℕ) → begins_comment (key_name_of kind ++ rest) ≡ false
name-no_comment Rsa rest = refl
name-no_comment P256 rest = refl
name-no_comment P384 rest = refl
name-no_comment P521 rest = refl
name-no_comment Ed25519 rest = refl
name-no_comment SkP256 rest = refl
name-no_comment SkEd25519 rest = refl

name-begins : (kind : KeyKind) (rest : List ℕ) → begins_with_blank (key_name_of kind ++ rest) ≡ false
name-begins Rsa rest = refl
name-begins P256 rest = refl
name-begins P384 rest = refl
name-begins P521 rest = refl
name-begins Ed25519 rest = refl
name-begins SkP256 rest = refl
name-begins SkEd25519 rest = refl

begins-no_comment : (text : List ℕ) → BeginsWithName text → begins_comment text ≡ false
begins-no_comment text b = rw b.whole (other_byte b.first 35 b.bytes.0 refl)

begins-no_blank : (text : List ℕ) → BeginsWithName text → begins_with_blank text ≡ false
begins-no_blank text b = rw b.whole ((plain-from_name_byte b.first b.bytes.0).blank)

ends_word-cr : (text : List ℕ) → ends_word text ≡ true → ends_word (without_cr text) ≡ true
ends_word-cr [] h = refl
ends_word-cr (c ∷ []) h = elim (cases_Bool (c == 13)) [ inl e ↦ rw e refl | inr e ↦ rw e h ]
ends_word-cr (c ∷ d ∷ cs) h = h

tail-ends : (comment tail : List ℕ) → SpellsTail comment tail → ends_word (without_cr tail) ≡ true
tail-ends comment tail (inl (none, inl e)) = rw e refl
tail-ends comment tail (inl (none, inr e)) = rw e refl
tail-ends comment tail (inr (gap, after, g, a, e)) =
    ap (λ t. ends_word (without_cr t)) e ∙ ends_word-cr (gap ++ comment ++ after) (ap ends_word (append_assoc gap comment after) ∙ gap_ends gap (comment ++ after) g.some g.blanks)
  where
    gap_ends : (gap rest : List ℕ) → gap ≢ [] → AreBlanks gap → ends_word (gap ++ rest) ≡ true
    gap_ends [] rest s g = absurd (s refl)
    gap_ends (c ∷ gap) rest s g = g.0

-- the parts of a text with the key after the options
pub record KeyText (entry : AuthEntry) (text : List ℕ) : Type 0 where
  pub gap : List ℕ
  pub rest : List ℕ
  pub whole : text ≡ key_name_of (kind_of entry.key) ++ gap ++ (base64 (key_blob entry.key) ++ rest)
  pub some : bytes_eq gap [] ≡ false
  pub blanks : AreBlanks gap
  pub reads : key_part_of text ≡ Ok (record { key = entry.key; comment = entry.comment })

body-with_key : (entry : AuthEntry) (body : List ℕ) → entry.options ≡ [] → KeyText entry body → line_of_body body ≡ Entry entry
body-with_key entry body none k =
    let right : body ≡ key_name_of (kind_of entry.key) ++ (k.gap ++ (base64 (key_blob entry.key) ++ k.rest)) = k.whole ∙ simp append_assoc in
    let typed : begins_with_type body ≡ true =
    ap (λ t. is_type (class_of (first_word t))) k.whole
    ∙ ap (λ w. is_type (class_of w)) (first_field-at (key_name_of (kind_of entry.key)) k.gap (base64 (key_blob entry.key) ++ k.rest) (name-no_blank (kind_of entry.key)) k.some k.blanks)
    ∙ ap is_type (class-of_name (kind_of entry.key)) in
    line_of_body-at body (ap begins_comment right ∙ name-no_comment (kind_of entry.key) (k.gap ++ (base64 (key_blob entry.key) ++ k.rest)))
    ∙ rw (typed, k.reads) (ap (λ o. Entry (record { options = o; key = entry.key; comment = entry.comment })) (sym none))

body-with_options : (entry : AuthEntry) (items gap key : List ℕ) → SpellsItems entry.options items → bytes_eq gap [] ≡ false → AreBlanks gap
    → AreAllowed [] entry.options → begins_with_blank key ≡ false → key_part_of key ≡ Ok (record { key = entry.key; comment = entry.comment })
    → line_of_body (items ++ (gap ++ key)) ≡ Entry entry
body-with_options entry items gap key h e g a b k =
    let stops : stops_name (gap ++ key) ≡ true = gap_stops gap key e g in
    let begins = begins-items entry.options items (gap ++ key) h stops in
    let text : option_text_of false 0 (items ++ (gap ++ key)) ≡ items =
    text_of-items entry.options items (gap ++ key) (quotable entry.options a) h (gap_ends gap key e g) 0 in
    line_of_body-at (items ++ (gap ++ key)) (begins-no_comment (items ++ (gap ++ key)) begins)
    ∙ rw (names-no_type (items ++ (gap ++ key)) begins, text, options_of-spelled entry.options items h a)
    (ap (λ t. entry_of_key entry.options (key_part_of t)) (ap skip_blanks (drop-append_seam items (gap ++ key)) ∙ skip_blanks-after gap key g ∙ skip_blanks-at_word key b)
    ∙ ap (entry_of_key entry.options) k)
  where
    gap_stops : (gap key : List ℕ) → bytes_eq gap [] ≡ false → AreBlanks gap → stops_name (gap ++ key) ≡ true
    gap_stops [] key e g = cc
    gap_stops (c ∷ gap) key e g = blank-stops c g.0

    gap_ends : (gap key : List ℕ) → bytes_eq gap [] ≡ false → AreBlanks gap → (last : ℕ) → option_text_of false last (gap ++ key) ≡ []
    gap_ends [] key e g last = cc
    gap_ends (c ∷ gap) key e g last = rw g.0 refl

-- the key text of a line, apart from the CR at its end
pub key_text-at : (entry : AuthEntry) (gap tail : List ℕ) → bytes_eq gap [] ≡ false → AreBlanks gap → IsBytes (key_blob entry.key)
    → key_in (key_blob entry.key) ≡ Ok entry.key → IsComment entry.comment → SpellsTail entry.comment tail
    → KeyText entry (key_name_of (kind_of entry.key) ++ gap ++ (base64 (key_blob entry.key) ++ without_cr tail))
key_text-at entry gap tail e g b k c t = record {
  gap = gap;
  rest = without_cr tail;
  whole = refl;
  some = e;
  blanks = g;
  reads = key_part-at entry.key gap (without_cr tail) e g b k (tail-ends entry.comment tail t)
      ∙ ap (λ s. Ok (record { key = entry.key; comment = s })) (comment_of-cr tail ∙ comment_of-tail entry.comment tail c t);
}

-- a line without the CR at its end: the CR stands after the base64 field
pub line-without_cr : (key : PublicKey) (front gap tail : List ℕ) → key_in (key_blob key) ≡ Ok key
    → without_cr (front ++ (key_name_of (kind_of key) ++ gap ++ base64 (key_blob key) ++ tail))
    ≡ front ++ (key_name_of (kind_of key) ++ gap ++ (base64 (key_blob key) ++ without_cr tail))
line-without_cr key front gap tail k =
    let some = base64-some (key_blob key) (spelling-some key (key_blob key) k) in
    let regroup : front ++ (key_name_of (kind_of key) ++ gap ++ base64 (key_blob key) ++ tail)
    ≡ (front ++ (key_name_of (kind_of key) ++ gap)) ++ (base64 (key_blob key) ++ tail) = simp append_assoc in
    ap without_cr regroup
    ∙ without_cr-at (front ++ (key_name_of (kind_of key) ++ gap)) (base64 (key_blob key)) tail some (base64-no_cr (key_blob key))
    ∙ append_assoc front (key_name_of (kind_of key) ++ gap) (base64 (key_blob key) ++ without_cr tail)

spelled-body : (entry : AuthEntry) (options : List AuthOption) (text front key : List ℕ) → entry.options ≡ options
    → SpellsOptions options text → AreBlanks front → KeyText entry key → begins_with_blank key ≡ false
    → line_of_body (skip_blanks (front ++ text ++ key)) ≡ Entry entry
spelled-body entry [] text front key e o f k b =
    ap (λ t. line_of_body (skip_blanks (front ++ t ++ key))) o ∙ ap (λ t. line_of_body (skip_blanks (t ++ key))) (append-nil front)
    ∙ ap line_of_body (skip_blanks-after front key f ∙ skip_blanks-at_word key b) ∙ body-with_key entry key e k
spelled-body entry (option ∷ options) text front key e (items, gap, h, v, a, whole) f k b =
    let some = gap-test gap v.some in
    let g = v.blanks in
    let regroup : front ++ text ++ key ≡ front ++ (items ++ (gap ++ key)) = ap (λ t. front ++ t ++ key) whole ∙ simp append_assoc in
    let Spelled : List AuthOption → Type 0 = λ x. SpellsItems x items in
    let Allowed : List AuthOption → Type 0 = λ x. AreAllowed [] x in
    let begins = begins-items (option ∷ options) items (gap ++ key) h (gap_stops gap key some g) in
    ap (λ t. line_of_body (skip_blanks t)) regroup
    ∙ ap line_of_body (skip_blanks-after front (items ++ (gap ++ key)) f ∙ skip_blanks-at_word (items ++ (gap ++ key)) (begins-no_blank (items ++ (gap ++ key)) begins))
    ∙ body-with_options entry items gap key (subst Spelled (sym e) h) some g (subst Allowed (sym e) a) b k.reads
  where
    gap_stops : (gap key : List ℕ) → bytes_eq gap [] ≡ false → AreBlanks gap → stops_name (gap ++ key) ≡ true
    gap_stops [] key e g = cc
    gap_stops (c ∷ gap) key e g = blank-stops c g.0

pub key-begins : (kind : KeyKind) (gap rest : List ℕ) → begins_with_blank (key_name_of kind ++ gap ++ rest) ≡ false
key-begins kind gap rest = ap begins_with_blank (append_assoc (key_name_of kind) gap rest) ∙ name-begins kind (gap ++ rest)

-- A line that spells an entry is read as it.
pub auth_line-spelled : (entry : AuthEntry) (line : List ℕ) → SpellsEntry entry line → auth_line line ≡ Entry entry
unfolding auth_line
auth_line-spelled entry line (short, (front, options, text, f, o, (gap, tail, v, b, is, c, t, key_whole), whole)) =
    let some = gap-test gap v.some in
    let g = v.blanks in
    let k : key_in (key_blob entry.key) ≡ Ok entry.key = key_again entry.key is in
    let cut : without_cr line ≡ front ++ options ++ (key_name_of (kind_of entry.key) ++ gap ++ (base64 (key_blob entry.key) ++ without_cr tail)) =
    ap without_cr (whole ∙ ap (λ x. front ++ options ++ x) key_whole) ∙ line-without_cr entry.key (front ++ options) gap tail k in
    rw (le-ltb line_limit (length line) short)
    (ap (λ x. line_of_body (skip_blanks x)) cut
    ∙ spelled-body entry entry.options options front (key_name_of (kind_of entry.key) ++ gap ++ (base64 (key_blob entry.key) ++ without_cr tail)) refl o f
    (key_text-at entry gap tail some g b k c t) (key-begins (kind_of entry.key) gap (base64 (key_blob entry.key) ++ without_cr tail)))

-- A line spells at most one entry.
pub only_entry : (a b : AuthEntry) (line : List ℕ) → SpellsEntry a line → SpellsEntry b line → a ≡ b
only_entry a b line h k =
    let e : Entry a ≡ Entry b = sym (auth_line-spelled a line h) ∙ auth_line-spelled b line k in cc
