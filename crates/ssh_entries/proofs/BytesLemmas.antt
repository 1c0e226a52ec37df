-- Which answers depend on a key's bytes.
use Rattle.ssh_entries.proofs.Imports.{◌≡◌, true, false, Bool, bytes_eq, List, ℕ, Result, Ok, Err, IfOk, refl, sym, ap, ◌∙◌, if◌then◌else◌, ◌≤◌, length, arith, standard, decode_of, DecodeError, KeyError, KeyKind, key_name_of, PublicKey, kind_of, LineCause, AuthOption, after_word, comment_of, first_word, AuthLine, EntryFields, entry_of_key, entry_of_fields, needs_bytes, key_of_blob, key_of_kind}
use Rattle.ssh_keys.specs.KeyReading.{key_in}
use Rattle.ssh_options.specs.declared.option_text.LineCause.TheVariants as causes

of-type : (options : List AuthOption) (comment : List ℕ) (key : PublicKey) (same : Bool)
    → needs_bytes (entry_of_key options (if same then Ok (record { key = key; comment = comment }) else Err causes.TypeMismatch)) ≡ true
of-type options comment key true = refl
of-type options comment key false = refl

of-kind : (options : List AuthOption) (kind : KeyKind) (comment : List ℕ) (read : Result PublicKey KeyError)
    → needs_bytes (entry_of_key options (key_of_kind kind comment read)) ≡ true
of-kind options kind comment (Err e) = refl
of-kind options kind comment (Ok key) = of-type options comment key (bytes_eq (key_name_of kind) (key_name_of (kind_of key)))

of-blob : (options : List AuthOption) (kind : KeyKind) (comment : List ℕ) (decoded : Result (List ℕ) DecodeError)
    → needs_bytes (entry_of_key options (key_of_blob kind comment decoded)) ≡ true
of-blob options kind comment (Err e) = refl
of-blob options kind comment (Ok blob) = of-kind options kind comment (key_in blob)

-- fields are read with the bytes of the key
pub fields_need_bytes : (f : EntryFields) (line : AuthLine) → entry_of_fields f ≡ line → needs_bytes line ≡ true
fields_need_bytes f line e =
    ap needs_bytes (sym e) ∙ of-blob f.options f.kind (comment_of (after_word f.text.now)) (decode_of standard (first_word f.text.now))

-- a field within a part of a text is within the text
pub room-within : (fields : Result EntryFields LineCause) (part whole : ℕ) → part ≤ whole
    → IfOk fields (λ f. length f.text.now ≤ part) → IfOk fields (λ f. length f.text.now ≤ whole)
room-within (Err cause) part whole h room = tt
room-within (Ok f) part whole h room = omega arith
