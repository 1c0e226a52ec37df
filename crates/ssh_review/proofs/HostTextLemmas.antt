-- The records of lines, as text, are of printable bytes and LFs.
use Rattle.ssh_review.proofs.Imports.{◌≡◌, ℕ, true, List, refl, Option, codes, HeldKey, HostFacts, RevocationFacts, HostFinding, host_row, AreBytes, are_printable}
use Rattle.ssh_print.specs.Texts.{word_line}
use Rattle.ssh_review.proofs.PrintableLemmas.{ArePrintable, escaped-printable, join, word}
use Rattle.ssh_review.specs.Records.{fingerprint_word}
use Rattle.ssh_review.proofs.ShownLemmas.{AreShown, add, seen, show}
use Rattle.ssh_review.proofs.RowLemmas.{host-texts, rows-shown}
use Rattle.ssh_review.proofs.TextLemmas.{IsHeldPrintable, comment-printable, held-printable, key-printable, place-printable, role-printable}
use Rattle.ssh_review.specs.HostRecords.{bare_text, host_entry_head, host_entry_text, revoked_names, revoked_text}
use Rattle.ssh_review.proofs.HostByteLemmas.{IsOfBytes, print-printable}

-- ---- records

head-shown : (f : HostFacts) → IsOfBytes f → AreShown (host_entry_head f)
unfolding host_entry_head
head-shown f h =
    let key = join (role-printable f.is_authority) (key-printable f.kind f.bits f.fingerprint h.fingerprint) in
    add (seen (join key (comment-printable f.comment h.comment))) (show (codes "\n") refl)

pub entry-shown : (name : List ℕ) (n : ℕ) (f : HostFacts) (found : List HostFinding) → ArePrintable name → IsOfBytes f → AreShown (host_entry_text name n f found)
unfolding host_entry_text word_line
entry-shown name n f found h k =
    let names = add (seen (join (word (codes "    names ") refl) (escaped-printable f.names k.names))) (show (codes "\n") refl) in
    add (add (add (seen (place-printable name n h)) (head-shown f k)) names) (rows-shown host_row host-texts found)

names-shown : (f : RevocationFacts) → AreBytes f.names → AreShown (revoked_names f)
unfolding revoked_names word_line
names-shown f h =
    let names = add (seen (join (word (codes "    names ") refl) (escaped-printable f.names h))) (show (codes "\n") refl) in
    add names (show (codes "    in ssh it counts for these names alone\n") refl)

pub revoked-shown : (name : List ℕ) (n : ℕ) (bytes : List ℕ) (f : RevocationFacts) (found : List HostFinding) → ArePrintable name → AreBytes f.names
    → AreShown (revoked_text name n bytes f found)
unfolding revoked_text fingerprint_word
revoked-shown name n bytes f found h k =
    let print = join (word (codes " SHA256:") refl) (print-printable bytes) in
    let first = join (join (place-printable name n h) (word (codes "revoked") refl)) print in
    add (add (add (seen first) (show (codes "\n") refl)) (names-shown f k)) (rows-shown host_row host-texts found)

pub bare-shown : (name : List ℕ) (n : ℕ) (is : List ℕ) (held : Option HeldKey) (found : List HostFinding) → ArePrintable name → are_printable is ≡ true → IsHeldPrintable held
    → AreShown (bare_text name n is held found)
unfolding bare_text
bare-shown name n is held found h k p =
    let key = join (join (place-printable name n h) (word is k)) (held-printable held p) in
    add (add (seen key) (show (codes "\n") refl)) (rows-shown host_row host-texts found)
