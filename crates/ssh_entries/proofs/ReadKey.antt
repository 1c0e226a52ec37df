-- A key part that is read is spelled by its text.
use Rattle.ssh_entries.proofs.Imports.{◌≡◌, ℕ, Bool, true, false, ◌||◌, if◌then◌else◌, List, [], ◌∷◌, ◌++◌, bytes_eq, Result, Ok, Err, refl, sym, ap, subst, ◌∙◌, append_assoc, bytes_eq-Decides, decode_of, IsBytes, standard, DecodeError, decode_of_strict, KeyKind, NameClass, Plain, Certificate, Retired, Other, KeyError, key_name_of, class_of, PublicKey, kind_of, key_blob, IsKeyBlob, first_word, after_word, next_field, comment_of, begins_with_blank, base64, KeyPart, has_no_bytes, lacks_key, SpellsKey, key_by_class, key_of_blob, key_of_kind, key_after_fields, key_takes, ends_word, gap-differs, skipped, skip_blanks-begins, word-cut, after_word-ends, IsCr, spells-tail, comment_of-is}
use Rattle.ssh_keys.specs.KeyReading.{key_in}
use Rattle.ssh_options.specs.declared.option_text.LineCause.TheVariants as causes
use Rattle.ssh_entries.specs.KeyPart.{key_part_of}
use Rattle.ssh_entries.proofs.DecodedBytes.{decoded-bytes}
use Rattle.ssh_entries.proofs.KeyNames.{plain-name}
use Rattle.ssh_entries.proofs.ByteLemmas.{AreBytes, IsBytes-from_all, AreBytes-front, AreBytes-back}

-- what is known where a key part is read
pub record KeyFacts (word field rest : List ℕ) (part : KeyPart) : Type 0 where
  pub kind : KeyKind
  pub class : class_of word ≡ Plain kind
  pub blob : List ℕ
  pub decoded : decode_of standard field ≡ Ok blob
  pub key : key_in blob ≡ Ok part.key
  pub same : bytes_eq (key_name_of kind) (key_name_of (kind_of part.key)) ≡ true
  pub comment : part.comment ≡ comment_of rest

kind-facts : (word field rest : List ℕ) (part : KeyPart) (kind : KeyKind) (blob : List ℕ) (key : PublicKey) (same : Bool)
    → class_of word ≡ Plain kind → decode_of standard field ≡ Ok blob → key_in blob ≡ Ok key
    → bytes_eq (key_name_of kind) (key_name_of (kind_of key)) ≡ same
    → (if same then Ok (record { key = key; comment = comment_of rest }) else Err causes.TypeMismatch) ≡ Ok part
    → KeyFacts word field rest part
kind-facts word field rest part kind blob key false c d k s h = cc
kind-facts word field rest part kind blob key true c d k s h =
    let e : record { key = key; comment = comment_of rest } ≡ part = cc in
    let P : KeyPart → Type 0 = λ p. KeyFacts word field rest p in
    subst P e (record { kind = kind; class = c; blob = blob; decoded = d; key = k; same = s; comment = refl })

blob-facts : (word field rest : List ℕ) (part : KeyPart) (kind : KeyKind) (blob : List ℕ) (key : Result PublicKey KeyError)
    → class_of word ≡ Plain kind → decode_of standard field ≡ Ok blob → key_in blob ≡ key
    → key_of_kind kind (comment_of rest) key ≡ Ok part → KeyFacts word field rest part
blob-facts word field rest part kind blob (Err e) c d k h = cc
blob-facts word field rest part kind blob (Ok key) c d k h =
    kind-facts word field rest part kind blob key (bytes_eq (key_name_of kind) (key_name_of (kind_of key))) c d k refl h

field-facts : (word field rest : List ℕ) (part : KeyPart) (kind : KeyKind) (blob : Result (List ℕ) DecodeError)
    → class_of word ≡ Plain kind → decode_of standard field ≡ blob
    → key_of_blob kind (comment_of rest) blob ≡ Ok part → KeyFacts word field rest part
field-facts word field rest part kind (Err e) c d h = cc
field-facts word field rest part kind (Ok blob) c d h = blob-facts word field rest part kind blob (key_in blob) c d refl h

class-facts : (word field rest : List ℕ) (part : KeyPart) (class : NameClass) → class_of word ≡ class
    → key_by_class class field rest ≡ Ok part → KeyFacts word field rest part
class-facts word field rest part Other c h = cc
class-facts word field rest part Retired c h = cc
class-facts word field rest part (Certificate kind) c h = cc
class-facts word field rest part (Plain kind) c h = field-facts word field rest part kind (decode_of standard field) c refl h

or-parts : (a b : Bool) → (a || b) ≡ false → (a ≡ false) × (b ≡ false)
or-parts true b h = cc
or-parts false b h = (refl, h)

pub record ReadKey (text : List ℕ) (part : KeyPart) : Type 0 where
  pub word : has_no_bytes (first_word text) ≡ false
  pub field : has_no_bytes (first_word (next_field text)) ≡ false
  pub facts : KeyFacts (first_word text) (first_word (next_field text)) (after_word (next_field text)) part

read-by : (text : List ℕ) (part : KeyPart) (lacks : Bool) → lacks_key text ≡ lacks
    → (if lacks then Err causes.NoKey else key_after_fields text) ≡ Ok part → ReadKey text part
read-by text part true l h = cc
read-by text part false l h =
    let parts = or-parts (has_no_bytes (first_word text)) (has_no_bytes (first_word (next_field text))) l in
    record {
      word = parts.0;
      field = parts.1;
      facts = class-facts (first_word text) (first_word (next_field text)) (after_word (next_field text)) part (class_of (first_word text)) refl h;
    }

pub key_part-facts : (text : List ℕ) (part : KeyPart) → key_part_of text ≡ Ok part → ReadKey text part
unfolding key_part_of
key_part-facts text part h = read-by text part (lacks_key text) refl h

-- the gap between two fields is not empty
pub gap-some : (gap rest : List ℕ) → ends_word (gap ++ rest) ≡ true → begins_with_blank rest ≡ false → has_no_bytes (first_word rest) ≡ false
    → bytes_eq gap [] ≡ false
gap-some [] [] e b w = cc
gap-some [] (c ∷ cs) e b w = let f : true ≡ false = sym e ∙ b in cc
gap-some (c ∷ gap) rest e b w = refl

-- A text that is read as a key spells it, with a CR after it or not.
pub key_part-spells : (text cr : List ℕ) (part : KeyPart) → AreBytes text → IsCr cr
    → key_part_of text ≡ Ok part → SpellsKey part.key part.comment (text ++ cr)
key_part-spells text cr part bytes is h =
    let read = key_part-facts text part h in
    let facts = read.facts in
    let skip = skipped (after_word text) in
    let next = next_field text in
    let next_cut : after_word text ≡ skip.gap ++ next = skip.whole in
    let text_cut : text ≡ first_word text ++ (skip.gap ++ (first_word next ++ after_word next)) =
    word-cut text ∙ ap (λ s. first_word text ++ s) (next_cut ∙ ap (λ s. skip.gap ++ s) (word-cut next)) in
    let next_bytes : AreBytes next =
    AreBytes-back skip.gap next (subst AreBytes next_cut (AreBytes-back (first_word text) (after_word text) (subst AreBytes (word-cut text) bytes))) in
    let field_bytes = AreBytes-front (first_word next) (after_word next) (subst AreBytes (word-cut next) next_bytes) in
    let blob_bytes : IsBytes facts.blob = decoded-bytes (first_word next) facts.blob facts.decoded in
    let taken : IsKeyBlob part.key facts.blob = key_takes facts.blob part.key blob_bytes facts.key in
    let blob : key_blob part.key ≡ facts.blob = sym taken.spelled in
    let key_bytes : IsBytes (key_blob part.key) = subst IsBytes (sym blob) blob_bytes in
    let field : first_word next ≡ base64 (key_blob part.key) =
    decode_of_strict standard (first_word next) facts.blob (refl, refl) (IsBytes-from_all (first_word next) field_bytes) facts.decoded ∙ ap base64 (sym blob) in
    let word : first_word text ≡ key_name_of (kind_of part.key) =
    plain-name (first_word text) facts.kind facts.class ∙ (bytes_eq-Decides (key_name_of facts.kind) (key_name_of (kind_of part.key))).0 facts.same in
    let some : bytes_eq skip.gap [] ≡ false =
    gap-some skip.gap next (ap ends_word (sym next_cut) ∙ after_word-ends text) (skip_blanks-begins (after_word text)) read.field in
    let whole : text ++ cr ≡ key_name_of (kind_of part.key) ++ skip.gap ++ base64 (key_blob part.key) ++ (after_word next ++ cr) =
    ap (λ s. s ++ cr) (text_cut ∙ ap (λ w. w ++ (skip.gap ++ (first_word next ++ after_word next))) word
    ∙ ap (λ f. key_name_of (kind_of part.key) ++ (skip.gap ++ (f ++ after_word next))) field)
    ∙ simp append_assoc in (
      skip.gap,
      after_word next ++ cr,
      record { some = gap-differs skip.gap some; blanks = skip.blanks },
      key_bytes,
      taken.is_key,
      rw facts.comment (comment_of-is (after_word next)),
      rw facts.comment (spells-tail (after_word next) cr (after_word-ends next) is),
      whole,
    )
