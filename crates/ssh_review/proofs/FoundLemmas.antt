-- How often each code was found is printed in lines of printable ASCII.
use Rattle.ssh_review.proofs.Imports.{◌++◌, ℕ, nat_lt, Bool, true, false, cond, List, [], ◌∷◌, refl, codes, flat_map, decimal, Code, code_text}
use Rattle.ssh_findings.specs.CodeCounts.{number_of}
use Rattle.ssh_findings.specs.Codes.{all_codes}
use Rattle.ssh_findings.specs.Urgency.{how_soon, same_urgency}
use Rattle.ssh_findings.specs.declared.code.Code.TheVariants as code
use Rattle.ssh_findings.specs.declared.code_counts.CodeCounts.{CodeCounts}
use Rattle.ssh_findings.specs.declared.urgency.Urgency.{Urgency}
use Rattle.ssh_findings.specs.declared.urgency.Urgency.TheVariants.{Today, Soon, TidyUp, Policy}
use Rattle.ssh_print.specs.AnswerText.{sentence}
use Rattle.ssh_print.specs.Table.{answers, findings, lines, reasons, row_of, table}
use Rattle.ssh_review.specs.Found.{found_field, found_line, found_lines, found_object, urgent_line, urgent_lines}
use Rattle.ssh_review.proofs.FieldLemmas.{count-printable, object-printable}
use Rattle.ssh_review.proofs.PrintableLemmas.{ArePrintable, decimal-printable, join, word}
use Rattle.ssh_review.proofs.ShownLemmas.{AreShown, add, seen, show}
use Rattle.ssh_review.proofs.WordLemmas.{code-printable}

-- ---- as text

sentence-printable : (c : Code) → ArePrintable (sentence (code_text c))
unfolding row_of table answers reasons lines findings
sentence-printable code.Unreadable = record { all = refl }
sentence-printable code.SameKey = record { all = refl }
sentence-printable code.NeverDecides = record { all = refl }
sentence-printable code.GivesMore = record { all = refl }
sentence-printable code.ShortKey = record { all = refl }
sentence-printable code.Expired = record { all = refl }
sentence-printable code.PermitsNobody = record { all = refl }
sentence-printable code.ReadOtherwise = record { all = refl }
sentence-printable code.ForcedButForwards = record { all = refl }
sentence-printable code.UnreadableRevocation = record { all = refl }
sentence-printable code.OtherKey = record { all = refl }
sentence-printable code.TrustedAndRevoked = record { all = refl }
sentence-printable code.PatternHosts = record { all = refl }
sentence-printable code.EveryHost = record { all = refl }
sentence-printable code.AnyAddress = record { all = refl }
sentence-printable code.AnyCommand = record { all = refl }
sentence-printable code.NoExpiry = record { all = refl }
sentence-printable code.AnyPrincipal = record { all = refl }
sentence-printable code.NoComment = record { all = refl }
sentence-printable code.NamesInClear = record { all = refl }
sentence-printable code.SameHostKey = record { all = refl }
sentence-printable code.MayRefuse = record { all = refl }

line-shown : (c : Code) (n : ℕ) → AreShown (found_line c n)
line-shown c n = go (nat_lt 0 n)
  where
    go : (b : Bool) → AreShown (cond b (code_text c ++ codes ": " ++ decimal n ++ codes ", " ++ sentence (code_text c) ++ codes "\n") [])
    go true =
        let counted = join (join (join (code-printable c) (word (codes ": ") refl)) (decimal-printable n)) (word (codes ", ") refl) in
        add (seen (join counted (sentence-printable c))) (show (codes "\n") refl)
    go false = show [] refl

urgent-shown : (counts : CodeCounts) (urgency : Urgency) (c : Code) → AreShown (urgent_line counts urgency c)
urgent-shown counts urgency c = go (same_urgency (how_soon c) urgency)
  where
    go : (b : Bool) → AreShown (cond b (found_line c (number_of counts c)) [])
    go true = line-shown c (number_of counts c)
    go false = show [] refl

lines-shown : (counts : CodeCounts) (listed : List Code) (urgency : Urgency) → AreShown (urgent_lines counts listed urgency)
lines-shown counts [] urgency = show [] refl
lines-shown counts (c ∷ listed) urgency = add (urgent-shown counts urgency c) (lines-shown counts listed urgency)

pub found-shown : (counts : CodeCounts) → AreShown (found_lines counts)
unfolding found_lines
found-shown counts =
    add (lines-shown counts all_codes Today) (add (lines-shown counts all_codes Soon) (add (lines-shown counts all_codes TidyUp) (add (lines-shown counts all_codes Policy) (show [] refl))))

-- ---- as JSON

fields-printable : (counts : CodeCounts) (listed : List Code) → ArePrintable (flat_map (found_field counts) listed)
fields-printable counts [] = word [] refl
fields-printable counts (c ∷ listed) = join (count-printable (code_text c) (number_of counts c) (code-printable c).all) (fields-printable counts listed)

pub found-printable : (counts : CodeCounts) → ArePrintable (found_object counts)
unfolding found_object
found-printable counts = object-printable (codes "findings_by_code") (flat_map (found_field counts) all_codes) refl (fields-printable counts all_codes)
