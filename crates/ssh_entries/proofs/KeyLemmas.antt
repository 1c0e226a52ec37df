-- The key part of a line that spells a key.
use Rattle.ssh_entries.proofs.Imports.{◌≡◌, ℕ, zero, suc, ◌+◌, ◌*◌, ◌/◌, ◌%◌, Bool, true, false, not, ◌==◌, inl, inr, List, [], ◌∷◌, ◌++◌, length, replicate, slice_index, bytes_eq, Ok, refl, sym, ap, ◌∙◌, append_assoc, append-nil, list_all, cases_Bool, and_parts, and_from, IsBytes, padding_len, standard, decode_of-encode_of, KeyKind, Rsa, P256, P384, P521, Ed25519, SkP256, SkEd25519, key_name_of, class_of, PublicKey, kind_of, key_blob, is_blank, HasNoBlank, AreBlanks, begins_with_blank, first_word, next_field, skip_blanks, comment_of, without_cr, ends_word, skip_blanks-after, skip_blanks-at_word, first_word-at, after_word-at, without_cr-after, base64, key_by_class, has_no_bytes}
use Rattle.base64.specs.Rfc4648.{encode_symbols}
use Rattle.ssh_keys.specs.KeyReading.{key_in, blob_at}
use Rattle.ssh_wire.specs.Reading.{string_at}
use Rattle.ssh_entries.proofs.KeyNames.{class-of_name}
use Rattle.ssh_entries.specs.KeyPart.{key_part_of}

-- ---- base64 has no blanks

pub index-passes : (test : ℕ → Bool) (xs : List ℕ) (i : ℕ) → test 0 ≡ true → list_all test xs ≡ true → test (slice_index xs i) ≡ true
index-passes test [] i z h = z
index-passes test (x ∷ xs) zero z h = (and_parts (test x) (list_all test xs) h).0
index-passes test (x ∷ xs) (suc i) z h = index-passes test xs i z (and_parts (test x) (list_all test xs) h).1

abbrev pub is_no_blank : ℕ → Bool
is_no_blank c = not (is_blank c)

no_blank-from_test : (c : ℕ) → is_no_blank c ≡ true → is_blank c ≡ false
no_blank-from_test c h = elim (cases_Bool (is_blank c)) [ inl e ↦ let f : false ≡ true = rw e at h in cc | inr e ↦ e ]

pub HasNoBlank-from_test : (xs : List ℕ) → list_all is_no_blank xs ≡ true → HasNoBlank xs
HasNoBlank-from_test [] h = tt
HasNoBlank-from_test (c ∷ cs) h =
    let parts = and_parts (is_no_blank c) (list_all is_no_blank cs) h in
    (no_blank-from_test c parts.0, HasNoBlank-from_test cs parts.1)

pub HasNoBlank-append : (a b : List ℕ) → HasNoBlank a → HasNoBlank b → HasNoBlank (a ++ b)
HasNoBlank-append [] b h k = k
HasNoBlank-append (c ∷ a) b h k = (h.0, HasNoBlank-append a b h.1 k)

HasNoBlank-replicate : (n : ℕ) → HasNoBlank (replicate n 61)
HasNoBlank-replicate zero = tt
HasNoBlank-replicate (suc n) = (refl, HasNoBlank-replicate n)

symbol : (i : ℕ) → is_blank (slice_index standard.encode_table i) ≡ false
symbol i = no_blank-from_test (slice_index standard.encode_table i) (index-passes is_no_blank standard.encode_table i refl refl)

symbols : (m : List ℕ) → HasNoBlank (encode_symbols standard.encode_table m)
unfolding encode_symbols
symbols [] = tt
symbols (a ∷ []) = (symbol (a / 4), (symbol (a % 4 * 16), tt))
symbols (a ∷ b ∷ []) = (symbol (a / 4), (symbol (a % 4 * 16 + b / 16), (symbol (b % 16 * 4), tt)))
symbols (a ∷ b ∷ c ∷ rest) =
    (symbol (a / 4), (symbol (a % 4 * 16 + b / 16), (symbol (b % 16 * 4 + c / 64), (symbol (c % 64), symbols rest))))

pub base64-no_blank : (m : List ℕ) → HasNoBlank (base64 m)
base64-no_blank m = HasNoBlank-append (encode_symbols standard.encode_table m) (replicate (padding_len (length m)) 61) (symbols m) (HasNoBlank-replicate (padding_len (length m)))

-- ---- names

pub name-no_blank : (kind : KeyKind) → HasNoBlank (key_name_of kind)
name-no_blank Rsa = HasNoBlank-from_test (key_name_of Rsa) refl
name-no_blank P256 = HasNoBlank-from_test (key_name_of P256) refl
name-no_blank P384 = HasNoBlank-from_test (key_name_of P384) refl
name-no_blank P521 = HasNoBlank-from_test (key_name_of P521) refl
name-no_blank Ed25519 = HasNoBlank-from_test (key_name_of Ed25519) refl
name-no_blank SkP256 = HasNoBlank-from_test (key_name_of SkP256) refl
name-no_blank SkEd25519 = HasNoBlank-from_test (key_name_of SkEd25519) refl

name-some : (kind : KeyKind) → has_no_bytes (key_name_of kind) ≡ false
name-some Rsa = refl
name-some P256 = refl
name-some P384 = refl
name-some P521 = refl
name-some Ed25519 = refl
name-some SkP256 = refl
name-some SkEd25519 = refl

name-same : (kind : KeyKind) → bytes_eq (key_name_of kind) (key_name_of kind) ≡ true
name-same Rsa = refl
name-same P256 = refl
name-same P384 = refl
name-same P521 = refl
name-same Ed25519 = refl
name-same SkP256 = refl
name-same SkEd25519 = refl

-- ---- the key part

-- no blob is empty
pub spelling-some : (key : PublicKey) (blob : List ℕ) → key_in blob ≡ Ok key → has_no_bytes blob ≡ false
unfolding key_in blob_at string_at
spelling-some key [] h = cc
spelling-some key (b ∷ bs) h = refl

pub base64-some : (m : List ℕ) → has_no_bytes m ≡ false → has_no_bytes (base64 m) ≡ false
unfolding encode_symbols
base64-some [] h = h
base64-some (a ∷ []) h = refl
base64-some (a ∷ b ∷ []) h = refl
base64-some (a ∷ b ∷ c ∷ rest) h = refl

pub begins-word : (word rest : List ℕ) → has_no_bytes word ≡ false → HasNoBlank word → begins_with_blank (word ++ rest) ≡ false
begins-word [] rest e h = cc
begins-word (c ∷ word) rest e h = h.0

pub ends-gap : (gap rest : List ℕ) → bytes_eq gap [] ≡ false → AreBlanks gap → ends_word (gap ++ rest) ≡ true
ends-gap [] rest e h = cc
ends-gap (c ∷ gap) rest e h = h.0

-- the field after a word and a gap
pub next_field-at : (word gap rest : List ℕ) → HasNoBlank word → bytes_eq gap [] ≡ false → AreBlanks gap
    → begins_with_blank rest ≡ false → next_field (word ++ gap ++ rest) ≡ rest
next_field-at word gap rest w e g b =
    ap next_field (append_assoc word gap rest)
    ∙ ap skip_blanks (after_word-at word (gap ++ rest) w (ends-gap gap rest e g))
    ∙ skip_blanks-after gap rest g ∙ skip_blanks-at_word rest b

pub first_field-at : (word gap rest : List ℕ) → HasNoBlank word → bytes_eq gap [] ≡ false → AreBlanks gap
    → first_word (word ++ gap ++ rest) ≡ word
first_field-at word gap rest w e g =
    ap first_word (append_assoc word gap rest) ∙ first_word-at word (gap ++ rest) w (ends-gap gap rest e g)

-- the fields of a text of type, base64 and what follows
after_fields-at : (text word field rest : List ℕ) → first_word text ≡ word → next_field text ≡ field ++ rest
    → HasNoBlank field → ends_word rest ≡ true → has_no_bytes word ≡ false → has_no_bytes field ≡ false
    → key_part_of text ≡ key_by_class (class_of word) field rest
unfolding key_part_of
after_fields-at text word field rest f n h e w s =
    rw (f, n, first_word-at field rest h e, after_word-at field rest h e, w, s) refl

class-at : (key : PublicKey) (rest : List ℕ) → IsBytes (key_blob key) → key_in (key_blob key) ≡ Ok key
    → key_by_class (class_of (key_name_of (kind_of key))) (base64 (key_blob key)) rest ≡ Ok (record { key = key; comment = comment_of rest })
class-at key rest b k =
    rw (class-of_name (kind_of key), decode_of-encode_of standard (key_blob key) refl b, k, name-same (kind_of key)) refl

-- a text that spells a key is read as that key
pub key_part-at : (key : PublicKey) (gap rest : List ℕ) → bytes_eq gap [] ≡ false → AreBlanks gap
    → IsBytes (key_blob key) → key_in (key_blob key) ≡ Ok key → ends_word rest ≡ true
    → key_part_of (key_name_of (kind_of key) ++ gap ++ (base64 (key_blob key) ++ rest)) ≡ Ok (record { key = key; comment = comment_of rest })
key_part-at key gap rest e g b k r =
    let some = base64-some (key_blob key) (spelling-some key (key_blob key) k) in
    after_fields-at (key_name_of (kind_of key) ++ gap ++ (base64 (key_blob key) ++ rest)) (key_name_of (kind_of key)) (base64 (key_blob key)) rest
    (first_field-at (key_name_of (kind_of key)) gap (base64 (key_blob key) ++ rest) (name-no_blank (kind_of key)) e g)
    (next_field-at (key_name_of (kind_of key)) gap (base64 (key_blob key) ++ rest) (name-no_blank (kind_of key)) e g
    (begins-word (base64 (key_blob key)) rest some (base64-no_blank (key_blob key))))
    (base64-no_blank (key_blob key)) r (name-some (kind_of key)) some
    ∙ class-at key rest b k

-- ---- base64 has no CR

pub list_all-append : (test : ℕ → Bool) (a b : List ℕ) → list_all test a ≡ true → list_all test b ≡ true → list_all test (a ++ b) ≡ true
list_all-append test [] b h k = k
list_all-append test (c ∷ a) b h k =
    let parts = and_parts (test c) (list_all test a) h in
    and_from (test c) (list_all test (a ++ b)) parts.0 (list_all-append test a b parts.1 k)

pub replicate-passes : (test : ℕ → Bool) (n : ℕ) → test 61 ≡ true → list_all test (replicate n 61) ≡ true
replicate-passes test zero p = refl
replicate-passes test (suc n) p = and_from (test 61) (list_all test (replicate n 61)) p (replicate-passes test n p)

abbrev pub is_no_cr : ℕ → Bool
is_no_cr c = not (c == 13)

no_cr-symbol : (i : ℕ) → is_no_cr (slice_index standard.encode_table i) ≡ true
no_cr-symbol i = index-passes is_no_cr standard.encode_table i refl refl

no_cr-symbols : (m : List ℕ) → list_all is_no_cr (encode_symbols standard.encode_table m) ≡ true
unfolding encode_symbols
no_cr-symbols [] = refl
no_cr-symbols (a ∷ []) = rw (no_cr-symbol (a / 4), no_cr-symbol (a % 4 * 16)) refl
no_cr-symbols (a ∷ b ∷ []) = rw (no_cr-symbol (a / 4), no_cr-symbol (a % 4 * 16 + b / 16), no_cr-symbol (b % 16 * 4)) refl
no_cr-symbols (a ∷ b ∷ c ∷ rest) =
    rw (no_cr-symbol (a / 4), no_cr-symbol (a % 4 * 16 + b / 16), no_cr-symbol (b % 16 * 4 + c / 64), no_cr-symbol (c % 64)) (no_cr-symbols rest)

pub base64-no_cr : (m : List ℕ) → list_all is_no_cr (base64 m) ≡ true
base64-no_cr m =
    list_all-append is_no_cr (encode_symbols standard.encode_table m) (replicate (padding_len (length m)) 61) (no_cr-symbols m)
    (replicate-passes is_no_cr (padding_len (length m)) refl)

without_cr-none : (text : List ℕ) → list_all is_no_cr text ≡ true → without_cr text ≡ text
without_cr-none [] h = refl
without_cr-none (c ∷ []) h =
    elim (cases_Bool (c == 13)) [ inl e ↦ let f : false ≡ true = rw e at h in cc | inr e ↦ rw e refl ]
without_cr-none (c ∷ d ∷ cs) h = ap (λ s. c ∷ s) (without_cr-none (d ∷ cs) (and_parts (is_no_cr c) (list_all is_no_cr (d ∷ cs)) h).1)

-- a CR at the end of a line stands after its base64 field
pub without_cr-at : (front field tail : List ℕ) → has_no_bytes field ≡ false → list_all is_no_cr field ≡ true
    → without_cr (front ++ (field ++ tail)) ≡ front ++ (field ++ without_cr tail)
without_cr-at front [] tail s h = cc
without_cr-at front (c ∷ cs) [] s h =
    ap (λ t. without_cr (front ++ t)) (append-nil (c ∷ cs)) ∙ without_cr-after front c cs
    ∙ ap (λ t. front ++ t) (without_cr-none (c ∷ cs) h ∙ sym (append-nil (c ∷ cs)))
without_cr-at front (c ∷ cs) (x ∷ xs) s h =
    without_cr-after front c (cs ++ x ∷ xs) ∙ ap (λ t. front ++ t) (without_cr-after (c ∷ cs) x xs)
