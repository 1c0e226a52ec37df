-- The records of lines, as text, are of printable bytes and LFs.
use Rattle.ssh_review.proofs.Imports.{◌≡◌, ℕ, Bool, true, false, List, [], ◌∷◌, refl, ℤ, Option, Some, None, codes, AllByRecursion, flat_map, KeyKind, Carried, CarriedName, Rights, carried_word, Facts, Finding, HeldKey, auth_row, AreBytes, AreBytesIfAny, IsOfBytes, are_printable, bits_text, carried_inset, comment_text, held_words, place_text, role_word, are_shown}
use Rattle.ssh_rights.specs.declared.rights.CarriedName.TheVariants as carried
use Rattle.ssh_print.specs.Texts.{word_line}
use Rattle.ssh_review.proofs.PrintableLemmas.{ArePrintable, decimal-printable, escaped-printable, join, word}
use Rattle.ssh_review.proofs.WordLemmas.{kind-printable, rights-printable}
use Rattle.ssh_review.proofs.RowLemmas.{auth-texts, rows-shown}
use Rattle.ssh_review.specs.Records.{entry_head, entry_text, fingerprint_word, flag_line, key_words, limit_lines, right_lines, rights_inset, setting_line, unreadable_text, until_line}
use Rattle.ssh_review.proofs.DateTextLemmas.{moment-printable}
use Rattle.ssh_review.proofs.ShownLemmas.{AreShown, add, seen, show}

-- ---- parts of a record

pub place-printable : (name : List ℕ) (n : ℕ) → ArePrintable name → ArePrintable (place_text name n)
place-printable name n h =
    join (join (join h (word (codes ":") refl)) (decimal-printable n)) (word (codes ": ") refl)

pub role-printable : (b : Bool) → ArePrintable (role_word b)
role-printable true = word (codes "authority ") refl
role-printable false = word (codes "key ") refl

bits-printable : (bits : Option ℕ) → ArePrintable (bits_text bits)
bits-printable None = word [] refl
bits-printable (Some bits) = join (word (codes " ") refl) (decimal-printable bits)

pub comment-printable : (comment : List ℕ) → AreBytes comment → ArePrintable (comment_text comment)
comment-printable [] h = word [] refl
comment-printable (c ∷ cs) h = join (word (codes " ") refl) (escaped-printable (c ∷ cs) h)

pub key-printable : (kind : KeyKind) (bits : Option ℕ) (fingerprint : List ℕ) → ArePrintable fingerprint → ArePrintable (key_words kind bits fingerprint)
unfolding key_words fingerprint_word
key-printable kind bits fingerprint h =
    join (join (kind-printable kind) (bits-printable bits)) (join (word (codes " SHA256:") refl) h)

head-shown : (f : Facts) → ArePrintable f.fingerprint → AreBytes f.comment → AreShown (entry_head f)
unfolding entry_head
head-shown f h k =
    let key = join (role-printable f.is_authority) (key-printable f.kind f.bits f.fingerprint h) in
    add (seen (join key (comment-printable f.comment k))) (show (codes "\n") refl)

setting-shown : (said : List ℕ) (text : Option (List ℕ)) → are_printable said ≡ true → AreBytesIfAny text → AreShown (setting_line said text)
unfolding setting_line word_line
setting-shown said None h k = show [] refl
setting-shown said (Some text) h k = add (seen (join (word said h) (escaped-printable text k))) (show (codes "\n") refl)

rights-shown : (r : Rights) → AreShown (rights_inset r)
unfolding rights_inset
rights-shown r = add (seen (join (word (codes "    rights ") refl) (rights-printable r))) (show (codes "\n") refl)

carried-name-printable : (name : CarriedName) → ArePrintable (carried_word name)
carried-name-printable carried.Environment = record { all = refl }
carried-name-printable carried.PermitListen = record { all = refl }
carried-name-printable carried.PermitOpen = record { all = refl }
carried-name-printable carried.Tunnel = record { all = refl }

carried-shown : (texts : List Carried) → AllByRecursion (λ (c : Carried). AreBytes c.text) texts → AreShown (flat_map carried_inset texts)
carried-shown [] h = show [] refl
carried-shown (c ∷ texts) h =
    let name = join (join (word (codes "    carry ") refl) (carried-name-printable c.name)) (word (codes " ") refl) in
    add (add (seen (join name (escaped-printable c.text h.0))) (show (codes "\n") refl)) (carried-shown texts h.1)

right-lines-shown : (f : Facts) → IsOfBytes f → AreShown (right_lines f.rights)
unfolding right_lines
right-lines-shown f h =
    add (add (rights-shown f.rights) (setting-shown (codes "    command ") f.rights.command refl h.command)) (carried-shown f.rights.carried h.carried)

flag-shown : (stands : Bool) (line : List ℕ) → are_shown line ≡ true → AreShown (flag_line stands line)
unfolding flag_line
flag-shown true line h = show line h
flag-shown false line h = show [] refl

until-shown : (until : Option ℤ) → AreShown (until_line until)
unfolding until_line word_line
until-shown None = show [] refl
until-shown (Some moment) = add (seen (join (word (codes "    expires ") refl) (moment-printable moment))) (show (codes "\n") refl)

limits-shown : (f : Facts) → IsOfBytes f → AreShown (limit_lines f)
unfolding limit_lines
limits-shown f h =
    let touch = flag-shown f.no_touch_required (codes "    no-touch-required\n") refl in
    let verify = flag-shown f.verify_required (codes "    verify-required\n") refl in
    let from = setting-shown (codes "    from ") f.from refl h.from in
    let principals = setting-shown (codes "    principals ") f.principals refl h.principals in
    add (add (add (add touch verify) from) principals) (until-shown f.until)

-- ---- records

pub entry-shown : (name : List ℕ) (n : ℕ) (f : Facts) (found : List Finding) → ArePrintable name → IsOfBytes f → ArePrintable f.fingerprint → AreShown (entry_text name n f found)
unfolding entry_text
entry-shown name n f found h k p =
    let head = add (seen (place-printable name n h)) (head-shown f p k.comment) in
    add (add (add head (right-lines-shown f k)) (limits-shown f k)) (rows-shown auth_row auth-texts found)

-- the fingerprint of a key, if there is one, is printable
abbrev pub IsHeldPrintable : Option HeldKey → Type 0
IsHeldPrintable None = Unit {0}
IsHeldPrintable (Some held) = ArePrintable held.fingerprint

pub held-printable : (held : Option HeldKey) → IsHeldPrintable held → ArePrintable (held_words held)
held-printable None h = word [] refl
held-printable (Some held) h = join (word (codes " ") refl) (key-printable held.kind held.bits held.fingerprint h)

pub unreadable-shown : (name : List ℕ) (n : ℕ) (held : Option HeldKey) (found : List Finding) → ArePrintable name → IsHeldPrintable held
    → AreShown (unreadable_text name n held found)
unfolding unreadable_text
unreadable-shown name n held found h k =
    let key = join (join (place-printable name n h) (word (codes "unreadable") refl)) (held-printable held k) in
    add (add (seen key) (show (codes "\n") refl)) (rows-shown auth_row auth-texts found)
