-- What replaces a line is read as the line is, is one line, and is replaced by itself.
use Rattle.ssh_rewriting.proofs.Imports.{◌≡◌, ℕ, ◌≤◌, List, length, refl, sym, ap, ◌∙◌, arith, HasNoNewline, AuthLine, KnownLine, auth_line, known_line, auth_line-spells, known_line-spells, auth_or_same, auth_written, known_or_same, known_written}
use Rattle.ssh_entries.specs.declared.auth_line.AuthLine.TheVariants as auth
use Rattle.ssh_entries.specs.declared.known_line.KnownLine.TheVariants as known
use Rattle.ssh_rewriting.proofs.AuthLineLemmas.{canonical-length, canonical-read, canonical-none}
use Rattle.ssh_rewriting.proofs.KnownLineLemmas.{known-length, known-read, known-none}
use Rattle.ssh_rewriting.proofs.FileLemmas.{IsGood, KeepsLines}

-- ---- authorized_keys

record Written {A : Type 0} (read : List ℕ → A) (line written : List ℕ) : Type 0 where
  says : read written ≡ read line
  none : HasNoNewline written
  no_longer : length written ≤ length line

auth-by : (line : List ℕ) (read : AuthLine) → auth_line line ≡ read → IsGood line → Written auth_line line (auth_or_same read line)
auth-by line (auth.Entry entry) r g =
    let spelled = auth_line-spells line entry g.1 r in
    record { says = canonical-read entry line spelled ∙ sym r; none = canonical-none entry line spelled g.0; no_longer = canonical-length entry line spelled }
auth-by line auth.Blank r g = record { says = refl; none = g.0; no_longer = omega arith }
auth-by line auth.Comment r g = record { says = refl; none = g.0; no_longer = omega arith }
auth-by line (auth.Unreadable cause) r g = record { says = refl; none = g.0; no_longer = omega arith }

auth-same : (read : AuthLine) (line : List ℕ) → auth_or_same read (auth_or_same read line) ≡ auth_or_same read line
auth-same (auth.Entry entry) line = refl
auth-same auth.Blank line = refl
auth-same auth.Comment line = refl
auth-same (auth.Unreadable cause) line = refl

pub auth-kept : KeepsLines auth_line auth_written
auth-kept line g =
    let w = auth-by line (auth_line line) refl g in
    record {
      says = w.says;
      none = w.none;
      no_longer = w.no_longer;
      twice = ap (λ r. auth_or_same r (auth_written line)) w.says ∙ auth-same (auth_line line) line;
    }

-- ---- known_hosts

known-by : (line : List ℕ) (read : KnownLine) → known_line line ≡ read → IsGood line → Written known_line line (known_or_same read line)
known-by line (known.Entry entry) r g =
    let spelled = known_line-spells line entry g.1 r in
    record { says = known-read entry line spelled ∙ sym r; none = known-none entry line spelled g.0; no_longer = known-length entry line spelled }
known-by line known.Blank r g = record { says = refl; none = g.0; no_longer = omega arith }
known-by line known.Comment r g = record { says = refl; none = g.0; no_longer = omega arith }
known-by line (known.Revoked bytes) r g = record { says = refl; none = g.0; no_longer = omega arith }
known-by line known.RevokedUnreadable r g = record { says = refl; none = g.0; no_longer = omega arith }
known-by line (known.Unreadable cause) r g = record { says = refl; none = g.0; no_longer = omega arith }

known-same : (read : KnownLine) (line : List ℕ) → known_or_same read (known_or_same read line) ≡ known_or_same read line
known-same (known.Entry entry) line = refl
known-same known.Blank line = refl
known-same known.Comment line = refl
known-same (known.Revoked bytes) line = refl
known-same known.RevokedUnreadable line = refl
known-same (known.Unreadable cause) line = refl

pub known-kept : KeepsLines known_line known_written
known-kept line g =
    let w = known-by line (known_line line) refl g in
    record {
      says = w.says;
      none = w.none;
      no_longer = w.no_longer;
      twice = ap (λ r. known_or_same r (known_written line)) w.says ∙ known-same (known_line line) line;
    }
