-- The words of the ends of files and of the total are printable.
use Rattle.ssh_review.proofs.Imports.{◌≡◌, ℕ, pos, true, List, [], refl, codes, Option, Some, None, Asking, AreBytes, AreBytesIfAny, are_printable, Counts, FileFault, TooLong, Unread, Total, count_text, counts_text}
use Rattle.ssh_review.proofs.DateTextLemmas.{moment-printable}
use Rattle.ssh_review.proofs.EndLemmas.{code-printable, words-printable}
use Rattle.ssh_review.proofs.PrintableLemmas.{ArePrintable, decimal-printable, escaped-printable, hex-printable, join, word}
use Rattle.ssh_review.specs.Asked.{Asked, asked_words, zone_words}
use Rattle.ssh_review.specs.Ends.{asked_by, distinct_words, end_words, fault_words, found_text, lines_text, total_words, why_text}

count-printable : (n : ℕ) (what : List ℕ) → are_printable what ≡ true → ArePrintable (count_text n what)
count-printable n what h = join (decimal-printable n) (word what h)

lines-printable : (c : Counts) → ArePrintable (lines_text c)
lines-printable c = join (count-printable c.lines (codes " lines, ") refl) (count-printable c.keys (codes " key lines, ") refl)

found-printable : (c : Counts) → ArePrintable (found_text c)
found-printable c = join (count-printable c.unreadable (codes " unreadable, ") refl) (count-printable c.findings (codes " findings") refl)

counts-printable : (c : Counts) → ArePrintable (counts_text c)
counts-printable c = join (lines-printable c) (found-printable c)

distinct-printable : (keys : Option ℕ) → ArePrintable (distinct_words keys)
distinct-printable None = word (codes "more than 65536 distinct keys, ") refl
distinct-printable (Some keys) = count-printable keys (codes " distinct keys, ") refl

pub end-words-printable : (counts : Counts) (digest : List ℕ) → AreBytes digest → ArePrintable (end_words counts digest)
end-words-printable counts digest h = join (join (counts-printable counts) (word (codes ", sha256 ") refl)) (hex-printable digest h)

why-words : (fault : FileFault) → ArePrintable (why_text fault)
why-words (Unread cause) = join (word (codes ": ") refl) (words-printable cause)
why-words TooLong = word [] refl

pub fault-words-printable : (fault : FileFault) → ArePrintable (fault_words fault)
fault-words-printable fault = join (join (word (codes "fault ") refl) (code-printable fault)) (why-words fault)

asked-words-printable : (a : Asked) → AreBytesIfAny a.zone → ArePrintable (asked_words a)
unfolding asked_words
asked-words-printable a h = join (join (word (codes "asked at ") refl) (moment-printable (pos a.now))) (zone-printable a.zone h)
  where
    zone-printable : (zone : Option (List ℕ)) → AreBytesIfAny zone → ArePrintable (zone_words zone)
    zone-printable None k = word [] refl
    zone-printable (Some rule) k = join (word (codes ", zone ") refl) (escaped-printable rule k)

pub total-words-printable : (zone : List ℕ) (asking : Asking) (t : Total) → AreBytes zone → ArePrintable (total_words zone asking t)
total-words-printable zone asking t h =
    let files = join (word (codes "total: ") refl) (count-printable t.files (codes " files, ") refl) in
    let faults = join files (count-printable t.faults (codes " faults, ") refl) in
    let keys = join (join faults (lines-printable t.counts)) (distinct-printable t.distinct_keys) in
    let counted = join (join keys (found-printable t.counts)) (word (codes ", ") refl) in
    join counted (asked-words-printable (asked_by zone asking) h)
