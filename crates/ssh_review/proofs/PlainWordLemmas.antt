-- The words of the program in the rows of the page have nothing to escape.
use Rattle.ssh_review.proofs.Imports.{◌≡◌, ◌∙◌, ℕ, zero, suc, ◌+◌, ◌*◌, ◌<◌, ◌≤◌, ◌==◌, ◌/◌, ◌%◌, nat_le, nat_lt, Bool, true, false, not, ◌&&◌, ◌||◌, cond, if◌then◌else◌, List, [], ◌∷◌, ◌++◌, length, take, replicate, slice_index, refl, sym, ap, inl, inr, arith, ℤ, pos, negsuc, Option, Some, None, codes, decimal, digit_glyph, digits_onto, signed_decimal, and_from, cases_Bool, list_all_at, le-leb, lt-ltb, leb-true, list_all-append, is_plain_byte, AreBytes, standard, encode_of, padding_len, DateTime, IsYear, Date, Time, days_in_month_bounds, signed_arith, date_text, pad2, pad4, time_text, year_text, clock_text, last_second, clock_at, clock_at-whole, date_by, moment_date, moment_text, WireCause, KeyError, KeyKind, Rsa, P256, P384, P521, Ed25519, SkP256, SkEd25519, key_name_of, LineCause, key_codes, wire_code, Code, Ground, ground_word, code_text, cause_detail, Finding, HostFinding, FindingRow, auth_row, host_row, cause_text, PublicKey, key_blob, AuthLine, Blank, Comment, Entry, Unreadable, auth_line, KnownLine, Revoked, RevokedUnreadable, known_line, Asking, Held, HostLine, HeldKey, Facts, HostFacts, Rights, held_key, known_held_key, option_map, held_by_line, host_kept_of, line_findings, carried_word}
use Rattle.std.proofs.lemmas.Bool.{ne_eqb}
use Rattle.std.specs.Fmt.{digits}
use Rattle.base64.specs.Rfc4648.{encode_symbols}
use Rattle.sha2.specs.Sha256.{sha256}
use Rattle.ssh_keys.specs.Fingerprint.{digest_text_of, fingerprint_of}
use Rattle.ssh_wire.specs.declared.cursor.WireCause.TheVariants as wire
use Rattle.ssh_keys.specs.declared.key.KeyError.TheVariants as key
use Rattle.ssh_options.specs.declared.option_text.LineCause.TheVariants as cause
use Rattle.ssh_entries.specs.declared.known_line.KnownLine.TheVariants as known
use Rattle.ssh_rights.specs.declared.rights.Carried.{Carried}
use Rattle.ssh_rights.specs.declared.rights.CarriedName.{CarriedName}
use Rattle.ssh_rights.specs.declared.rights.CarriedName.TheVariants as carried
use Rattle.ssh_print.specs.Dates.{date_of}
use Rattle.ssh_print.specs.DecisionText.{has_no_right}
use Rattle.ssh_print.specs.Table.{answers, lines, reasons, row_of, table}
use Rattle.ssh_findings.specs.Facts.{facts_of}
use Rattle.ssh_findings.specs.HeldKey.{held_of as reported_of}
use Rattle.ssh_findings.specs.HostFacts.{host_facts_of}
use Rattle.ssh_findings.specs.KeyRead.{key_read}
use Rattle.ssh_findings.specs.RevocationFacts.{revocation_facts_of}
use Rattle.ssh_findings.specs.declared.code.Code.TheVariants as code
use Rattle.ssh_findings.specs.declared.finding.Finding.TheVariants as finding
use Rattle.ssh_findings.specs.declared.host_finding.HostFinding.TheVariants as host
use Rattle.ssh_findings.specs.declared.openssh.Ground.TheVariants as grounds
use Rattle.ssh_findings.specs.declared.row.Value.{Value}
use Rattle.ssh_findings.specs.declared.row.Value.TheVariants.{Nothing, Number, Cause}
use Rattle.ssh_page.specs.declared.record.RowPlace.{RowPlace}
use Rattle.ssh_page.specs.Classes.{class_of}
use Rattle.ssh_page.specs.Documents.{Document, each, nothing, say, ◌&◌}
use Rattle.ssh_page.specs.Findings.{detail, finding_head, finding_part, has_bytes, has_value, line_link, names_a_line, value_detail, value_link, value_sentence}
use Rattle.ssh_page.specs.HostRecords.{bare_row, host_cells, host_entry_row, revoked_cells, revoked_row, role}
use Rattle.ssh_page.specs.Records.{all_limits, bits_part, carried_part, command_part, comment_part, entry_cells, entry_row, fingerprint_part, flag_part, held_part, is_free, key_part, limits_part, right_marks, rights_part, row_classes, row_findings, row_numbers, setting_part, unreadable_row, until_part, words_part}
use Rattle.ssh_review.specs.HostLines.{host_line_findings, known_key_reported}
use Rattle.ssh_review.specs.HostRecords.{print_of}
use Rattle.ssh_review.specs.HostRows.{host_line_row, host_rows_of}
use Rattle.ssh_review.specs.Lines.{key_reported}
use Rattle.ssh_review.specs.PageWords.{IsPlain, are_plain}
use Rattle.ssh_review.specs.RowPlaces.{row_place}
use Rattle.ssh_review.specs.Rows.{line_row, rows_of}
use Rattle.ssh_review.proofs.DigestLemmas.{digest-bytes}

-- A text has nothing to escape. As a record, so that a proof finds the text.
record ArePlain (text : List ℕ) : Type 0 where
  all : are_plain text ≡ true

word : (text : List ℕ) → are_plain text ≡ true → ArePlain text
word text h = record { all = h }

join : {a b : List ℕ} → ArePlain a → ArePlain b → ArePlain (a ++ b)
join {a} {b} h k = record { all = list_all-append is_plain_byte a b ∙ ap (λ t. t && are_plain b) h.all ∙ k.all }

within : (c : ℕ) → 32 ≤ c → c < 92 → is_plain_byte c ≡ true
within c h k =
    let other : (c == 92) ≡ false = ne_eqb c 92 (λ (e : c ≡ 92). omega (arith, e, k)) in
    and_from (nat_le 32 c) (nat_lt c 127 && not (c == 92)) (le-leb 32 c h)
    (and_from (nat_lt c 127) (not (c == 92)) (lt-ltb c 127 (omega (arith, k))) (ap not other))

-- ---- numbers

digit-plain : (n : ℕ) → is_plain_byte (digit_glyph false (n % 10)) ≡ true
digit-plain n =
    let small : nat_lt (n % 10) 10 ≡ true = lt-ltb (n % 10) 10 (omega arith) in
    rw small (within (48 + n % 10) (omega arith) (omega arith))

digits-plain : (k n : ℕ) (acc : List ℕ) → are_plain acc ≡ true → are_plain (digits_onto k 10 false n acc) ≡ true
digits-plain zero n acc h = h
digits-plain (suc k) n acc h =
    let more = and_from (is_plain_byte (digit_glyph false (n % 10))) (are_plain acc) (digit-plain n) h in
    go (n / 10 == 0) more (digits-plain k (n / 10) (digit_glyph false (n % 10) ∷ acc) more)
  where
    go : (b : Bool) → are_plain (digit_glyph false (n % 10) ∷ acc) ≡ true
        → are_plain (digits_onto k 10 false (n / 10) (digit_glyph false (n % 10) ∷ acc)) ≡ true
        → are_plain (cond b (digit_glyph false (n % 10) ∷ acc) (digits_onto k 10 false (n / 10) (digit_glyph false (n % 10) ∷ acc))) ≡ true
    go true all more = all
    go false all more = more

decimal-plain : (n : ℕ) → ArePlain (decimal n)
unfolding digits
decimal-plain n = record { all = digits-plain 64 n [] refl }

signed-plain : (n : ℤ) → ArePlain (signed_decimal n)
signed-plain (pos n) = decimal-plain n
signed-plain (negsuc n) = record { all = (decimal-plain (suc n)).all }

-- ---- names of types

kind-plain : (kind : KeyKind) → ArePlain (key_name_of kind)
kind-plain Rsa = record { all = refl }
kind-plain P256 = record { all = refl }
kind-plain P384 = record { all = refl }
kind-plain P521 = record { all = refl }
kind-plain Ed25519 = record { all = refl }
kind-plain SkP256 = record { all = refl }
kind-plain SkEd25519 = record { all = refl }

-- ---- codes and details

place-plain : (n : ℕ) → ArePlain (32 ∷ decimal n)
place-plain n = join (word (32 ∷ []) refl) (decimal-plain n)

wire-plain : (why : WireCause) → ArePlain (wire_code why)
wire-plain wire.Short = record { all = refl }
wire-plain wire.MpintNotMinimal = record { all = refl }
wire-plain wire.MpintNegative = record { all = refl }
wire-plain wire.Trailing = record { all = refl }
wire-plain wire.Value = record { all = refl }

key-plain : (e : KeyError) → ArePlain (key_codes e)
key-plain (key.Wire e) = join (word (codes " K1") refl) (join (wire-plain e.cause) (place-plain e.place))
key-plain key.UnknownType = record { all = refl }
key-plain key.RetiredType = record { all = refl }
key-plain key.IsCertificate = record { all = refl }
key-plain key.Curve = record { all = refl }
key-plain key.Point = record { all = refl }
key-plain key.Length = record { all = refl }
key-plain key.TooLong = record { all = refl }

cause-plain : (why : LineCause) → ArePlain (cause_detail why)
cause-plain cause.TooLong = record { all = refl }
cause-plain cause.OptionSyntax = record { all = refl }
cause-plain cause.UnknownOption = record { all = refl }
cause-plain cause.OptionValue = record { all = refl }
cause-plain cause.RepeatedOption = record { all = refl }
cause-plain cause.ExpiryText = record { all = refl }
cause-plain cause.NoKey = record { all = refl }
cause-plain cause.KeyType = record { all = refl }
cause-plain cause.RetiredType = record { all = refl }
cause-plain cause.Base64 = record { all = refl }
cause-plain (cause.KeyBlob e) = join (word (codes "L11") refl) (key-plain e)
cause-plain cause.TypeMismatch = record { all = refl }
cause-plain cause.CertificateOnLine = record { all = refl }
cause-plain cause.Marker = record { all = refl }
cause-plain cause.HashedName = record { all = refl }
cause-plain cause.Names = record { all = refl }

ground-plain : (g : Ground) → ArePlain (ground_word g)
ground-plain grounds.PermitOpen = record { all = refl }
ground-plain grounds.PermitListen = record { all = refl }
ground-plain grounds.Environment = record { all = refl }
ground-plain grounds.Tunnel = record { all = refl }
ground-plain grounds.Nul = record { all = refl }
ground-plain grounds.LongItem = record { all = refl }
ground-plain grounds.Rsa = record { all = refl }

code-plain : (c : Code) → ArePlain (code_text c)
code-plain code.Unreadable = record { all = refl }
code-plain code.SameKey = record { all = refl }
code-plain code.NeverDecides = record { all = refl }
code-plain code.GivesMore = record { all = refl }
code-plain code.ShortKey = record { all = refl }
code-plain code.Expired = record { all = refl }
code-plain code.PermitsNobody = record { all = refl }
code-plain code.ReadOtherwise = record { all = refl }
code-plain code.ForcedButForwards = record { all = refl }
code-plain code.UnreadableRevocation = record { all = refl }
code-plain code.OtherKey = record { all = refl }
code-plain code.TrustedAndRevoked = record { all = refl }
code-plain code.PatternHosts = record { all = refl }
code-plain code.EveryHost = record { all = refl }
code-plain code.AnyAddress = record { all = refl }
code-plain code.AnyCommand = record { all = refl }
code-plain code.NoExpiry = record { all = refl }
code-plain code.AnyPrincipal = record { all = refl }
code-plain code.NoComment = record { all = refl }
code-plain code.NamesInClear = record { all = refl }
code-plain code.SameHostKey = record { all = refl }
code-plain code.MayRefuse = record { all = refl }

-- ---- the texts of a row

pub record HasPlainTexts (r : FindingRow) : Type 0 where
  pub detail : are_plain r.detail ≡ true
  pub before : are_plain r.before ≡ true
  pub after : are_plain r.after ≡ true

auth-texts : (f : Finding) → HasPlainTexts (auth_row f)
auth-texts (finding.Unreadable why) = record { detail = refl; before = refl; after = refl }
auth-texts (finding.SameKey line) = record { detail = refl; before = refl; after = refl }
auth-texts (finding.NeverDecides line) = record { detail = refl; before = refl; after = refl }
auth-texts (finding.GivesMore line) = record { detail = refl; before = refl; after = refl }
auth-texts (finding.ShortKey bits) = record { detail = refl; before = refl; after = refl }
auth-texts finding.Expired = record { detail = refl; before = refl; after = refl }
auth-texts finding.BadSources = record { detail = refl; before = refl; after = refl }
auth-texts finding.SourcesHere = record { detail = refl; before = refl; after = refl }
auth-texts finding.NoPrincipal = record { detail = refl; before = refl; after = refl }
auth-texts finding.PlainPrincipals = record { detail = refl; before = refl; after = refl }
auth-texts finding.EmptyPrincipal = record { detail = refl; before = refl; after = refl }
auth-texts finding.VerifyIgnored = record { detail = refl; before = refl; after = refl }
auth-texts finding.LocalTime = record { detail = refl; before = refl; after = refl }
auth-texts finding.ShortAddress = record { detail = refl; before = refl; after = refl }
auth-texts finding.ForcedButForwards = record { detail = refl; before = refl; after = refl }
auth-texts finding.AnyAddress = record { detail = refl; before = refl; after = refl }
auth-texts finding.AnyCommand = record { detail = refl; before = refl; after = refl }
auth-texts finding.NoExpiry = record { detail = refl; before = refl; after = refl }
auth-texts finding.AnyPrincipal = record { detail = refl; before = refl; after = refl }
auth-texts finding.NoComment = record { detail = refl; before = refl; after = refl }
auth-texts (finding.MayRefuse ground) = record { detail = (ground-plain ground).all; before = refl; after = refl }

refusal-texts : (ground : Ground) → HasPlainTexts (host_row (host.MayRefuse ground))
refusal-texts grounds.PermitOpen = record { detail = refl; before = refl; after = refl }
refusal-texts grounds.PermitListen = record { detail = refl; before = refl; after = refl }
refusal-texts grounds.Environment = record { detail = refl; before = refl; after = refl }
refusal-texts grounds.Tunnel = record { detail = refl; before = refl; after = refl }
refusal-texts grounds.Nul = record { detail = refl; before = refl; after = refl }
refusal-texts grounds.LongItem = record { detail = refl; before = refl; after = refl }
refusal-texts grounds.Rsa = record { detail = refl; before = refl; after = refl }

host-texts : (f : HostFinding) → HasPlainTexts (host_row f)
host-texts (host.Unreadable why) = record { detail = refl; before = refl; after = refl }
host-texts (host.ShortKey bits) = record { detail = refl; before = refl; after = refl }
host-texts host.MarkerTab = record { detail = refl; before = refl; after = refl }
host-texts host.RevocationTab = record { detail = refl; before = refl; after = refl }
host-texts host.RevocationType = record { detail = refl; before = refl; after = refl }
host-texts host.UnreadableRevocation = record { detail = refl; before = refl; after = refl }
host-texts (host.OtherKey line) = record { detail = refl; before = refl; after = refl }
host-texts (host.TrustedAndRevoked line) = record { detail = refl; before = refl; after = refl }
host-texts (host.RevokedSpelling line) = record { detail = refl; before = refl; after = refl }
host-texts (host.TrustedSpelling line) = record { detail = refl; before = refl; after = refl }
host-texts host.PatternHosts = record { detail = refl; before = refl; after = refl }
host-texts host.EveryHost = record { detail = refl; before = refl; after = refl }
host-texts host.NamesInClear = record { detail = refl; before = refl; after = refl }
host-texts (host.SameHostKey line) = record { detail = refl; before = refl; after = refl }
host-texts (host.MayRefuse ground) = refusal-texts ground

-- ---- sentences

sentence-plain : (why : LineCause) → ArePlain (cause_text why)
unfolding row_of table answers reasons lines
sentence-plain cause.TooLong = record { all = refl }
sentence-plain cause.OptionSyntax = record { all = refl }
sentence-plain cause.UnknownOption = record { all = refl }
sentence-plain cause.OptionValue = record { all = refl }
sentence-plain cause.RepeatedOption = record { all = refl }
sentence-plain cause.ExpiryText = record { all = refl }
sentence-plain cause.NoKey = record { all = refl }
sentence-plain cause.KeyType = record { all = refl }
sentence-plain cause.RetiredType = record { all = refl }
sentence-plain cause.Base64 = record { all = refl }
sentence-plain (cause.KeyBlob e) = record { all = refl }
sentence-plain cause.TypeMismatch = record { all = refl }
sentence-plain cause.CertificateOnLine = record { all = refl }
sentence-plain cause.Marker = record { all = refl }
sentence-plain cause.HashedName = record { all = refl }
sentence-plain cause.Names = record { all = refl }

-- ---- base64

symbol-plain : (i : ℕ) → i < 64 → is_plain_byte (slice_index standard.encode_table i) ≡ true
symbol-plain i h = elim (cases_Bool (is_plain_byte (slice_index standard.encode_table i))) [
  | inl e ↦ e
  | inr e ↦
      let all : are_plain standard.encode_table ≡ true = refl in
      let not_all : are_plain standard.encode_table ≡ false = list_all_at is_plain_byte standard.encode_table i 0 h e in
      absurd (let no : false ≡ true = sym not_all ∙ all in cc)
]

symbols-plain : (m : List ℕ) → AreBytes m → are_plain (encode_symbols standard.encode_table m) ≡ true
unfolding encode_symbols
symbols-plain [] h = refl
symbols-plain (a ∷ []) h =
    and_from _ _ (symbol-plain (a / 4) (omega (arith, h.0)))
    (and_from _ true (symbol-plain (a % 4 * 16) (omega arith)) refl)
symbols-plain (a ∷ b ∷ []) h =
    and_from _ _ (symbol-plain (a / 4) (omega (arith, h.0)))
    (and_from _ _ (symbol-plain (a % 4 * 16 + b / 16) (omega (arith, h.1.0)))
    (and_from _ true (symbol-plain (b % 16 * 4) (omega arith)) refl))
symbols-plain (a ∷ b ∷ c ∷ rest) h =
    and_from _ _ (symbol-plain (a / 4) (omega (arith, h.0)))
    (and_from _ _ (symbol-plain (a % 4 * 16 + b / 16) (omega (arith, h.1.0)))
    (and_from _ _ (symbol-plain (b % 16 * 4 + c / 64) (omega (arith, h.1.1.0)))
    (and_from _ _ (symbol-plain (c % 64) (omega arith)) (symbols-plain rest h.1.1.1))))

padding-plain : (n : ℕ) → are_plain (replicate n 61) ≡ true
padding-plain zero = refl
padding-plain (suc n) = padding-plain n

taken-plain : (k : ℕ) (text : List ℕ) → are_plain text ≡ true → are_plain (take k text) ≡ true
taken-plain zero text h = refl
taken-plain (suc k) [] h = refl
taken-plain (suc k) (c ∷ cs) h = go (is_plain_byte c) (taken-plain k cs) h
  where
    go : (p : Bool) → (are_plain cs ≡ true → are_plain (take k cs) ≡ true) → (p && are_plain cs) ≡ true → (p && are_plain (take k cs)) ≡ true
    go true next h = next h
    go false next h = h

base64-plain : (k : ℕ) (m : List ℕ) → AreBytes m → ArePlain (take k (encode_of standard m))
base64-plain k m h =
    let whole = join (word (encode_symbols standard.encode_table m) (symbols-plain m h)) (word (replicate (padding_len (length m)) 61) (padding-plain (padding_len (length m)))) in
    record { all = taken-plain k (encode_of standard m) whole.all }

-- ---- dates

two-plain : (n : ℕ) → n < 100 → ArePlain (pad2 n)
two-plain n h = record {
  all = and_from _ _ (within (48 + n / 10) (omega arith) (omega (arith, h)))
      (and_from _ true (within (48 + n % 10) (omega arith) (omega arith)) refl);
}

four-plain : (n : ℕ) → n < 10000 → ArePlain (pad4 n)
four-plain n h = join (two-plain (n / 100) (omega (arith, h))) (two-plain (n % 100) (omega arith))

year-plain : (y : ℤ) → IsYear y → ArePlain (year_text y)
year-plain (pos n) h = four-plain n (omega (arith, signed_arith, h.1))
year-plain (negsuc n) h = join (word (codes "-00") refl) (four-plain (suc n) (omega (arith, signed_arith, h.0)))

dash : ArePlain (45 ∷ [])
dash = word (45 ∷ []) refl

colon : ArePlain (58 ∷ [])
colon = word (58 ∷ []) refl

day-plain : (d : Date) → ArePlain (date_text d)
day-plain d =
    let month = two-plain d.month (omega (arith, d.month_in.1)) in
    let day = two-plain d.day (omega (arith, d.day_in.1, (days_in_month_bounds d.year d.month).0)) in
    join (join (join (join (year-plain d.year d.year_in) dash) month) dash) day

time-plain : (t : Time) → t.subsec_nanosecond ≡ 0 → ArePlain (time_text None t)
time-plain t e =
    let minute = join colon (two-plain t.minute (omega (arith, t.minute_in))) in
    let second = join colon (two-plain t.second (omega (arith, t.second_in))) in
    rw e (join (join (join (two-plain t.hour (omega (arith, t.hour_in))) minute) second) (word [] refl))

clock-plain : (shown : DateTime) → shown.time.subsec_nanosecond ≡ 0 → ArePlain (clock_text shown)
clock-plain shown e =
    join (join (day-plain shown.date) (join (word (84 ∷ []) refl) (time-plain shown.time e))) (word (codes "Z") refl)

date-by-plain : (moment : ℕ) (b : Bool) (e : nat_le moment last_second ≡ b) → ArePlain (date_by moment b e)
date-by-plain moment true e =
    clock-plain (clock_at moment (leb-true moment last_second e)).shown (clock_at-whole moment (leb-true moment last_second e))
date-by-plain moment false e = word (codes "-") refl

date-plain : (moment : ℤ) → ArePlain (moment_date moment)
unfolding date_of
date-plain (pos moment) = date-by-plain moment (nat_le moment last_second) refl
date-plain (negsuc n) = word (codes "-") refl

moment-plain : (moment : ℤ) → ArePlain (moment_text moment)
moment-plain moment = join (join (signed-plain moment) (word (codes " ") refl)) (date-plain moment)

-- ---- findings

value-plain : (v : Value) → IsPlain (value_detail v)
value-plain Nothing = tt
value-plain (Number n) = tt
value-plain (Cause why) = (cause-plain why).all

value-sentence-plain : (v : Value) → IsPlain (value_sentence v)
value-sentence-plain Nothing = tt
value-sentence-plain (Number n) = tt
value-sentence-plain (Cause why) = (sentence-plain why).all

detail-by : (b : Bool) (said : List ℕ) (v : Value) → are_plain said ≡ true → IsPlain (if b then say (codes " ") & say said & value_detail v else nothing)
detail-by true said v h = ((refl, h), value-plain v)
detail-by false said v h = tt

detail-plain : (r : FindingRow) → are_plain r.detail ≡ true → IsPlain (detail r)
unfolding detail
detail-plain r h = detail-by (has_bytes r.detail || has_value r.value) r.detail r.value h

class-plain : (c : Code) → IsPlain (class_of c)
unfolding class_of
class-plain c = (tt, tt)

link-by : (file : ℕ) (named : Bool) (v : Value) → IsPlain (if named then value_link file v else nothing)
unfolding line_link
link-by file true Nothing = tt
link-by file true (Number line) = ((((((tt, tt), tt), tt), tt), tt), tt)
link-by file true (Cause why) = tt
link-by file false v = tt

head-plain : (r : FindingRow) → HasPlainTexts r → IsPlain (finding_head r)
unfolding finding_head
head-plain r h = (((((tt, class-plain r.code), tt), (code-plain r.code).all), detail-plain r h.detail), tt)

finding-plain : (file : ℕ) (r : FindingRow) → HasPlainTexts r → IsPlain (finding_part file r)
unfolding finding_part
finding-plain file r h = (((((head-plain r h, h.before), value-sentence-plain r.value), h.after), link-by file (names_a_line r.code) r.value), tt)

-- ---- parts of rows

each-plain : {A : Type 0} (part : A → Document) → ((x : A) → IsPlain (part x)) → (xs : List A) → IsPlain (each part xs)
each-plain part h [] = tt
each-plain part h (x ∷ xs) = (h x, each-plain part h xs)

classes-plain : {F : Type 0} (row : F → FindingRow) (found : List F) → IsPlain (row_classes row found)
classes-plain row found = each-plain (λ f. class_of (row f).code) (λ f. class-plain (row f).code) found

findings-plain : {F : Type 0} (place : RowPlace) (row : F → FindingRow) → ((f : F) → HasPlainTexts (row f)) → (found : List F) → IsPlain (row_findings place row found)
findings-plain place row h found = each-plain (λ f. finding_part place.file (row f)) (λ f. finding-plain place.file (row f) (h f)) found

-- As a record, so that a proof finds the part.
record HasPlain (part : Document) : Type 0 where
  all : IsPlain part

both : {a c : Document} → HasPlain a → HasPlain c → HasPlain (a & c)
both x y = record { all = (x.all, y.all) }

if-plain : (b : Bool) {a c : Document} → HasPlain a → HasPlain c → HasPlain (if b then a else c)
if-plain true x y = x
if-plain false x y = y

numbers-plain : (place : RowPlace) → IsPlain (row_numbers place)
unfolding row_numbers
numbers-plain place = ((((((tt, tt), tt), tt), tt), tt), tt)

comment-plain : (comment : List ℕ) → IsPlain (comment_part comment)
comment-plain [] = tt
comment-plain (c ∷ cs) = tt

bits-plain : (bits : Option ℕ) → IsPlain (bits_part bits)
bits-plain None = tt
bits-plain (Some bits) = (refl, tt)

print-plain : (fingerprint : List ℕ) → are_plain fingerprint ≡ true → IsPlain (fingerprint_part fingerprint)
unfolding fingerprint_part
print-plain fingerprint h = ((tt, h), tt)

key-part-plain : (kind : KeyKind) (bits : Option ℕ) (fingerprint : List ℕ) → are_plain fingerprint ≡ true → IsPlain (key_part kind bits fingerprint)
unfolding key_part
key-part-plain kind bits fingerprint h = ((((tt, (kind-plain kind).all), bits-plain bits), tt), print-plain fingerprint h)

abbrev IsHeldPlain : Option HeldKey → Type 0
IsHeldPlain None = Unit {0}
IsHeldPlain (Some held) = are_plain held.fingerprint ≡ true

held-plain : (held : Option HeldKey) → IsHeldPlain held → IsPlain (held_part held)
held-plain None h = tt
held-plain (Some held) h = key-part-plain held.kind held.bits held.fingerprint h

setting-plain : (name : List ℕ) (text : Option (List ℕ)) → are_plain name ≡ true → IsPlain (setting_part name text)
setting-plain name None h = tt
setting-plain name (Some text) h = (((tt, h), tt), tt)

flag-plain : (stands : Bool) (words : List ℕ) → are_plain words ≡ true → IsPlain (flag_part stands words)
flag-plain true words h = ((tt, h), tt)
flag-plain false words h = tt

rights-plain : (r : Rights) → HasPlain (rights_part r)
unfolding right_marks
rights-plain r = if-plain (has_no_right r) (record { all = tt }) (record { all = ((((tt, tt), tt), tt), tt) })

carried-word-plain : (name : CarriedName) → are_plain (carried_word name) ≡ true
carried-word-plain carried.Environment = refl
carried-word-plain carried.PermitListen = refl
carried-word-plain carried.PermitOpen = refl
carried-word-plain carried.Tunnel = refl

carried-plain : (c : Carried) → IsPlain (carried_part c)
unfolding carried_part
carried-plain c = (((((tt, refl), carried-word-plain c.name), refl), tt), tt)

until-plain : (moment : Option ℤ) → IsPlain (until_part moment)
unfolding words_part
until-plain None = tt
until-plain (Some moment) = (((tt, refl), (moment-plain moment).all), tt)

command-plain : (r : Rights) → IsPlain (command_part r)
unfolding command_part
command-plain r = (setting-plain (codes "command ") r.command refl, each-plain carried_part carried-plain r.carried)

limits-plain : (f : Facts) → IsPlain (limits_part f)
unfolding limits_part
limits-plain f = (
  (
    (
      (flag-plain f.no_touch_required (codes "no-touch-required") refl, flag-plain f.verify_required (codes "verify-required") refl),
      setting-plain (codes "from ") f.from refl,
    ),
    setting-plain (codes "principals ") f.principals refl,
  ),
  until-plain f.until,
)

free-plain : (b : Bool) {a : Document} → HasPlain a → HasPlain (if b then a else nothing)
free-plain b x = if-plain b x (record { all = tt })

all-limits-plain : (f : Facts) → HasPlain (all_limits f)
unfolding all_limits
all-limits-plain f =
    both (both (both (record { all = flag-plain f.is_authority (codes "authority: whoever it certifies") refl }) (record { all = command-plain f.rights }))
    (record { all = limits-plain f })) (free-plain (is_free f) (record { all = tt }))

cells-plain : (f : Facts) → are_plain f.fingerprint ≡ true → IsPlain (entry_cells f)
unfolding entry_cells
cells-plain f h = (((comment-plain f.comment, key-part-plain f.kind f.bits f.fingerprint h), tt), (rights-plain f.rights).all)

-- ---- rows

entry-plain : (place : RowPlace) (f : Facts) (found : List Finding) → are_plain f.fingerprint ≡ true → HasPlain (entry_row place f found)
unfolding entry_row
entry-plain place f found h =
    both (both (both (both (both (both (both (both (record { all = tt }) (record { all = classes-plain auth_row found })) (free-plain f.is_authority (record { all = tt })))
    (record { all = numbers-plain place })) (record { all = cells-plain f h })) (record { all = tt })) (all-limits-plain f))
    (record { all = findings-plain place auth_row auth-texts found })) (record { all = tt })

unreadable-plain : (place : RowPlace) (held : Option HeldKey) (found : List Finding) → IsHeldPlain held → IsPlain (unreadable_row place held found)
unfolding unreadable_row
unreadable-plain place held found h =
    ((((((((((tt, classes-plain auth_row found), tt), numbers-plain place), refl), held-plain held h), tt), tt), tt), findings-plain place auth_row auth-texts found), tt)

role-plain : (b : Bool) → are_plain (role b) ≡ true
role-plain true = refl
role-plain false = refl

host-cells-plain : (f : HostFacts) → are_plain f.fingerprint ≡ true → IsPlain (host_cells f)
unfolding host_cells
host-cells-plain f h = (((comment-plain f.comment, key-part-plain f.kind f.bits f.fingerprint h), tt), role-plain f.is_authority)

host-entry-plain : (place : RowPlace) (f : HostFacts) (found : List HostFinding) → are_plain f.fingerprint ≡ true → HasPlain (host_entry_row place f found)
unfolding host_entry_row
host-entry-plain place f found h =
    both (both (both (both (both (both (both (both (record { all = tt }) (record { all = classes-plain host_row found })) (free-plain f.is_authority (record { all = tt })))
    (record { all = numbers-plain place })) (record { all = host-cells-plain f h })) (record { all = tt })) (record { all = setting-plain (codes "names ") (Some f.names) refl }))
    (record { all = findings-plain place host_row host-texts found })) (record { all = tt })

revoked-plain : (place : RowPlace) (fingerprint names : List ℕ) (found : List HostFinding) → are_plain fingerprint ≡ true → IsPlain (revoked_row place fingerprint names found)
unfolding revoked_row revoked_cells
revoked-plain place fingerprint names found h = (
  (
    (
      ((((tt, classes-plain host_row found), numbers-plain place), ((((refl, print-plain fingerprint h), tt), refl), tt)), setting-plain (codes "names ") (Some names) refl),
      flag-plain true (codes "in ssh it counts for these names alone") refl,
    ),
    findings-plain place host_row host-texts found,
  ),
  tt,
)

bare-plain : (place : RowPlace) (is : List ℕ) (held : Option HeldKey) (found : List HostFinding) → are_plain is ≡ true → IsHeldPlain held → IsPlain (bare_row place is held found)
unfolding bare_row
bare-plain place is held found e h =
    ((((((((((tt, classes-plain host_row found), tt), numbers-plain place), e), held-plain held h), tt), e), tt), findings-plain place host_row host-texts found), tt)

-- ---- files

pub digest-plain : (bytes : List ℕ) → are_plain (digest_text_of (sha256 bytes)) ≡ true
unfolding digest_text_of
digest-plain bytes = (base64-plain 43 (sha256 bytes) (digest-bytes bytes)).all

fingerprint-plain : (key : PublicKey) → are_plain (fingerprint_of key) ≡ true
unfolding fingerprint_of
fingerprint-plain key = digest-plain (key_blob key)

held-key-plain : (key : Option PublicKey) → IsHeldPlain (option_map reported_of key)
held-key-plain None = tt
held-key-plain (Some key) = fingerprint-plain key

line-plain : (file : ℕ) (asking : Asking) (earlier : List Held) (line : ℕ × List ℕ) (said : AuthLine) → IsPlain (line_row file asking earlier line said)
unfolding facts_of
line-plain file asking earlier (n, line) Blank = tt
line-plain file asking earlier (n, line) Comment = tt
line-plain file asking earlier (n, line) (Entry e) =
    (entry-plain (row_place file n) (facts_of asking.zone e) (line_findings asking earlier (Entry e)) (fingerprint-plain (key_read e.key))).all
line-plain file asking earlier (n, line) (Unreadable why) =
    unreadable-plain (row_place file n) (key_reported line) (line_findings asking earlier (Unreadable why)) (held-key-plain (held_key line))

pub rows-plain : (file : ℕ) (asking : Asking) (earlier : List Held) (lines : List (ℕ × List ℕ)) → IsPlain (rows_of file asking earlier lines)
rows-plain file asking earlier [] = tt
rows-plain file asking earlier (line ∷ lines) =
    (line-plain file asking earlier line (auth_line line.1), rows-plain file asking (earlier ++ held_by_line asking (line.0, auth_line line.1)) lines)

host-line-plain : (file : ℕ) (asking : Asking) (earlier : List HostLine) (n : ℕ) (line : List ℕ) (said : KnownLine) → IsPlain (host_line_row file asking earlier n line said)
unfolding host_facts_of print_of
host-line-plain file asking earlier n line known.Blank = tt
host-line-plain file asking earlier n line known.Comment = tt
host-line-plain file asking earlier n line (known.Entry e) =
    (host-entry-plain (row_place file n) (host_facts_of line e) (host_line_findings asking earlier line (known.Entry e)) (fingerprint-plain (key_read e.key))).all
host-line-plain file asking earlier n line (Revoked bytes) =
    revoked-plain (row_place file n) (print_of bytes) (revocation_facts_of line bytes).names (host_line_findings asking earlier line (Revoked bytes)) (digest-plain bytes)
host-line-plain file asking earlier n line RevokedUnreadable =
    bare-plain (row_place file n) (codes "revocation-unreadable") (known_key_reported line) (host_line_findings asking earlier line RevokedUnreadable) refl (held-key-plain (known_held_key line))
host-line-plain file asking earlier n line (known.Unreadable why) =
    bare-plain (row_place file n) (codes "unreadable") (known_key_reported line) (host_line_findings asking earlier line (known.Unreadable why)) refl (held-key-plain (known_held_key line))

pub host-rows-plain : (file : ℕ) (asking : Asking) (earlier : List HostLine) (lines : List (ℕ × List ℕ)) → IsPlain (host_rows_of file asking earlier lines)
host-rows-plain file asking earlier [] = tt
host-rows-plain file asking earlier (line ∷ lines) =
    (host-line-plain file asking earlier line.0 line.1 (known_line line.1), host-rows-plain file asking (earlier ++ host_kept_of line.0 line.1 (known_line line.1)) lines)
