-- The entries of an authorized_keys file that OpenSSH has no known reason to refuse or to read differently, and what is reported
-- of the lines that are left out (this project's rule).
use Rattle.std.specs.Prelude.{◌++◌, ◌∷◌, ◌==◌, ◌&&◌, [], ℕ, Bool, false, not, List, length, codes, if◌then◌else◌}
use Rattle.std.specs.Fmt.{decimal}
use Rattle.std.specs.List.{flat_map}
use Rattle.jiff.specs.Types.{UTC}
use Rattle.ssh_text.specs.Text.{lines_of, numbered}
use Rattle.ssh_keys.specs.PublicKey.{PublicKey, key_blob, rsa, p256, p384, p521, ed25519, sk_p256, sk_ed25519}
use Rattle.ssh_entries.specs.AuthEntry.{AuthEntry}
use Rattle.ssh_entries.specs.AuthGrammar.{auth_line}
use Rattle.ssh_entries.specs.declared.auth_line.AuthLine.{AuthLine}
use Rattle.ssh_entries.specs.declared.auth_line.AuthLine.TheVariants.{Blank, Comment, Entry, Unreadable}
use Rattle.ssh_rewriting.specs.Canonical.{canonical_auth}
use Rattle.ssh_findings.specs.Asking.{Asking}
use Rattle.ssh_findings.specs.Codes.{code_text}
use Rattle.ssh_findings.specs.EntryFindings.{entry_findings}
use Rattle.ssh_findings.specs.Facts.{facts_of}
use Rattle.ssh_findings.specs.OpenSsh.{has_nul}
use Rattle.ssh_findings.specs.declared.code.Code.TheVariants.{MayRefuse, PermitsNobody, ReadOtherwise}
use Rattle.ssh_findings.specs.declared.finding.Finding.{Finding}
use Rattle.ssh_findings.specs.declared.finding.Finding.TheVariants as finding
use Rattle.ssh_findings.specs.FindingRows.{FindingRow}
use Rattle.ssh_findings.specs.Findings.{auth_row}
use Rattle.ssh_review.specs.Findings.{detail_part, row_detail}

-- ---- entries

-- F7, F8 and F22: lists that permit nobody, what OpenSSH reads differently, and why it may refuse a line. None of them
-- depends on the time, the zone or the minimum.
abbrev pub doubting : Asking
doubting = record { now = 0; zone = UTC; is_zone_given = false; rsa_minimum = 0; reported = PermitsNobody ∷ ReadOtherwise ∷ MayRefuse ∷ [] }

-- the findings for which an entry is left out
unfoldable pub doubts : AuthEntry → List Finding
doubts e = entry_findings doubting [] (key_blob e.key) (facts_of UTC e)

-- the application of a security key has a NUL: OpenSSH drops one at its end, and with any other it reads no key
-- (sshbuf-getput-basic.c, sshbuf_get_cstring)
abbrev pub has_nul_application : PublicKey → Bool
has_nul_application (rsa e n) = false
has_nul_application (p256 q) = false
has_nul_application (p384 q) = false
has_nul_application (p521 q) = false
has_nul_application (ed25519 a) = false
has_nul_application (sk_p256 q application) = has_nul application
has_nul_application (sk_ed25519 a application) = has_nul application

-- an entry that is kept
abbrev pub is_kept : AuthEntry → Bool
is_kept e = (length (doubts e) == 0) && not (has_nul_application e.key)

-- a line with such an entry
abbrev pub is_kept_line : AuthLine → Bool
is_kept_line (Entry e) = is_kept e
is_kept_line Blank = false
is_kept_line Comment = false
is_kept_line (Unreadable cause) = false

-- ---- the new file

-- the canonical line of an entry that is kept, and an LF
abbrev pub kept_entry : AuthEntry → List ℕ
kept_entry e = if is_kept e then canonical_auth e ++ 10 ∷ [] else []

abbrev pub kept_line : AuthLine → List ℕ
kept_line (Entry e) = kept_entry e
kept_line Blank = []
kept_line Comment = []
kept_line (Unreadable cause) = []

-- the entries that are kept, in their order
unfoldable pub readable_file : List ℕ → List ℕ
readable_file file = flat_map (λ line. kept_line (auth_line line)) (lines_of file)

-- ---- what is reported of the lines that are left out

-- the number of the line, a code, and its detail
unfoldable pub left_out_line : ℕ → List ℕ → List ℕ → List ℕ
left_out_line n code detail = codes "ssh_audit: line " ++ decimal n ++ codes " left out: " ++ code ++ detail_part detail ++ codes "\n"

-- by the code and the detail that a review prints of a finding
abbrev pub left_out_row : ℕ → FindingRow → List ℕ
left_out_row n r = left_out_line n (code_text r.code) (row_detail r)

abbrev pub left_out_for : ℕ → Finding → List ℕ
left_out_for n f = left_out_row n (auth_row f)

-- by the word `application` where a security key's application has a NUL
abbrev pub left_out_key : ℕ → PublicKey → List ℕ
left_out_key n key = if has_nul_application key then left_out_line n (codes "application") [] else []

abbrev pub left_out_entry : ℕ → AuthEntry → List ℕ
left_out_entry n e = flat_map (left_out_for n) (doubts e) ++ left_out_key n e.key

-- of a line that cannot be read F1 with its cause; nothing of blank lines and comments
abbrev pub left_out_of : ℕ → AuthLine → List ℕ
left_out_of n (Entry e) = left_out_entry n e
left_out_of n Blank = []
left_out_of n Comment = []
left_out_of n (Unreadable cause) = left_out_for n (finding.Unreadable cause)

-- of all lines of a file
unfoldable pub left_out : List ℕ → List ℕ
left_out file = flat_map (λ line. left_out_of line.0 (auth_line line.1)) (numbered 1 (lines_of file))
