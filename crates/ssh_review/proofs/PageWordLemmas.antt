-- A row of the page has the words of the text form.
use Rattle.ssh_review.proofs.Imports.{◌≡◌, ◌∙◌, ℕ, ℤ, zero, suc, ◌==◌, ◌/◌, ◌%◌, Bool, true, false, not, ◌||◌, cond, if◌then◌else◌, List, length, arith, [], ◌∷◌, ◌++◌, refl, sym, ap, append_assoc, append-nil, codes, flat_map, decimal, digit_glyph, digits_onto, Option, Some, None, LineCause, KeyKind, key_name_of, Facts, Finding, HostFacts, HostFinding, HeldKey, FindingRow, Rights, auth_row, host_row, row_detail, detail_part, detail_with, finding_head, value_text, cause_detail, carried_inset, Code, code_text}
use Rattle.std.proofs.lemmas.Bool.{ne_eqb}
use Rattle.std.specs.Fmt.{digits}
use Rattle.ssh_print.specs.Texts.{text_line, word_line}
use Rattle.ssh_page.specs.declared.record.RowPlace.{RowPlace}
use Rattle.ssh_page.specs.HostRecords.{bare_row, host_cells, host_entry_row, revoked_cells, revoked_row, role}
use Rattle.ssh_page.specs.Records.{all_limits, bits_part, carried_part, command_part, comment_part, entry_cells, entry_row, fingerprint_part, flag_part, held_part, is_free, key_part, limits_part, right_marks, rights_part, row_classes, row_findings, row_numbers, setting_part, unreadable_row, until_part, words_part}
use Rattle.ssh_review.specs.Records.{bits_text, fingerprint_word, flag_line, held_words, key_words, limit_lines, setting_line, until_line}
use Rattle.ssh_review.specs.RightsWords.{rights_words}
use Rattle.ssh_options.specs.declared.option_text.LineCause.TheVariants as cause
use Rattle.ssh_findings.specs.declared.code.Code.TheVariants as code
use Rattle.ssh_findings.specs.declared.row.Value.{Value}
use Rattle.ssh_findings.specs.declared.row.Value.TheVariants.{Nothing, Number, Cause}
use Rattle.ssh_rights.specs.declared.rights.Carried.{Carried}
use Rattle.ssh_page.specs.Classes.{class_of}
use Rattle.ssh_page.specs.Documents.{Document, each, nothing, say, ◌&◌}
use Rattle.ssh_page.specs.Findings.{detail, finding_part, has_value, line_link, names_a_line, value_detail, value_link, value_sentence}
use Rattle.ssh_page.specs.Findings.{finding_head as page_head}
use Rattle.ssh_review.specs.PageWords.{all_limit_lines, bare_words, command_lines, comment_words, entry_words, host_entry_words, named_key, revoked_words, unreadable_words, line_word, linked_line, linked_lines, valued_after, see_line, spoken, words_on}

-- A part of the page is read as this text, and the value of an attribute is open before and after it, or not.
pub record Says (valued : Bool) (part : Document) (text : List ℕ) (left : Bool) : Type 0 where
  pub is : spoken valued part ≡ text
  pub next : valued_after valued part ≡ left

pub joined : {valued left : Bool} {a b : Document} {t u : List ℕ} (between : Bool) → Says valued a t between → Says between b u left → Says valued (a & b) (t ++ u) left
joined {valued} {left} {a} {b} {t} {u} between x y = record {
  is = ap (λ (s : List ℕ). s ++ spoken (valued_after valued a) b) x.is ∙ (ap (λ (o : Bool). t ++ spoken o b) x.next ∙ ap (λ (s : List ℕ). t ++ s) y.is);
  next = ap (λ (o : Bool). valued_after o b) x.next ∙ y.next;
}

pub word : {valued : Bool} {a : Document} (text : List ℕ) (left : Bool) → spoken valued a ≡ text → valued_after valued a ≡ left → Says valued a text left
word text left e h = record { is = e; next = h }

pub so : {valued left : Bool} {a : Document} {t u : List ℕ} → Says valued a t left → t ≡ u → Says valued a u left
so x e = record { is = x.is ∙ e; next = x.next }

-- ---- findings

digits-part : (k n c : ℕ) (acc : List ℕ) → detail_part (digits_onto k 10 false n (c ∷ acc)) ≡ 32 ∷ digits_onto k 10 false n (c ∷ acc)
digits-part zero n c acc = refl
digits-part (suc k) n c acc = go (n / 10 == 0) (digits-part k (n / 10) (digit_glyph false (n % 10)) (c ∷ acc))
  where
    all : List ℕ
    all = digit_glyph false (n % 10) ∷ c ∷ acc

    go : (b : Bool) → detail_part (digits_onto k 10 false (n / 10) all) ≡ 32 ∷ digits_onto k 10 false (n / 10) all
        → detail_part (cond b all (digits_onto k 10 false (n / 10) all)) ≡ 32 ∷ cond b all (digits_onto k 10 false (n / 10) all)
    go true next = refl
    go false next = next

first-digit : (k n : ℕ) → detail_part (digits_onto (suc k) 10 false n []) ≡ 32 ∷ digits_onto (suc k) 10 false n []
first-digit k n = go (n / 10 == 0) (digits-part k (n / 10) (digit_glyph false (n % 10)) [])
  where
    all : List ℕ
    all = digit_glyph false (n % 10) ∷ []

    go : (b : Bool) → detail_part (digits_onto k 10 false (n / 10) all) ≡ 32 ∷ digits_onto k 10 false (n / 10) all
        → detail_part (cond b all (digits_onto k 10 false (n / 10) all)) ≡ 32 ∷ cond b all (digits_onto k 10 false (n / 10) all)
    go true next = refl
    go false next = next

-- a number has digits
number-part : (n : ℕ) → detail_part (decimal n) ≡ 32 ∷ decimal n
unfolding digits
number-part n = first-digit 63 n

-- the codes of an error have bytes
cause-part : (why : LineCause) → detail_part (cause_detail why) ≡ 32 ∷ cause_detail why
cause-part cause.TooLong = refl
cause-part cause.OptionSyntax = refl
cause-part cause.UnknownOption = refl
cause-part cause.OptionValue = refl
cause-part cause.RepeatedOption = refl
cause-part cause.ExpiryText = refl
cause-part cause.NoKey = refl
cause-part cause.KeyType = refl
cause-part cause.RetiredType = refl
cause-part cause.Base64 = refl
cause-part (cause.KeyBlob e) = refl
cause-part cause.TypeMismatch = refl
cause-part cause.CertificateOnLine = refl
cause-part cause.Marker = refl
cause-part cause.HashedName = refl
cause-part cause.Names = refl

class-said : (c : Code) → Says true (class_of c) [] true
unfolding class_of
class-said code.Unreadable = record { is = refl; next = refl }
class-said code.SameKey = record { is = refl; next = refl }
class-said code.NeverDecides = record { is = refl; next = refl }
class-said code.GivesMore = record { is = refl; next = refl }
class-said code.ShortKey = record { is = refl; next = refl }
class-said code.Expired = record { is = refl; next = refl }
class-said code.PermitsNobody = record { is = refl; next = refl }
class-said code.ReadOtherwise = record { is = refl; next = refl }
class-said code.ForcedButForwards = record { is = refl; next = refl }
class-said code.UnreadableRevocation = record { is = refl; next = refl }
class-said code.OtherKey = record { is = refl; next = refl }
class-said code.TrustedAndRevoked = record { is = refl; next = refl }
class-said code.PatternHosts = record { is = refl; next = refl }
class-said code.EveryHost = record { is = refl; next = refl }
class-said code.AnyAddress = record { is = refl; next = refl }
class-said code.AnyCommand = record { is = refl; next = refl }
class-said code.NoExpiry = record { is = refl; next = refl }
class-said code.AnyPrincipal = record { is = refl; next = refl }
class-said code.NoComment = record { is = refl; next = refl }
class-said code.NamesInClear = record { is = refl; next = refl }
class-said code.SameHostKey = record { is = refl; next = refl }
class-said code.MayRefuse = record { is = refl; next = refl }

detail-full : (c : ℕ) (cs : List ℕ) (v : Value) (b : Bool) → b ≡ false
    → Says false (if not b || has_value v then say (codes " ") & say (c ∷ cs) & value_detail v else nothing) (detail_part (detail_with v (c ∷ cs))) false
detail-full c cs v true e = absurd (let no : true ≡ false = e in cc)
detail-full c cs Nothing false e = record { is = append-nil (32 ∷ c ∷ cs); next = refl }
detail-full c cs (Number n) false e = record { is = refl; next = refl }
detail-full c cs (Cause why) false e = record { is = refl; next = refl }

detail-by : (r : FindingRow) (said : List ℕ) (v : Value) → Says false (detail (record r { detail = said; value = v })) (detail_part (detail_with v said)) false
unfolding detail
detail-by r [] Nothing = record { is = refl; next = refl }
detail-by r [] (Number n) = record { is = sym (number-part n); next = refl }
detail-by r [] (Cause why) = record { is = sym (cause-part why); next = refl }
detail-by r (c ∷ cs) v =
    let some : (length (c ∷ cs) == 0) ≡ false = ne_eqb (length (c ∷ cs)) 0 (λ (e : length (c ∷ cs) ≡ 0). omega arith) in
    detail-full c cs v (length (c ∷ cs) == 0) some

value-said : (v : Value) → Says false (value_sentence v) (value_text v) false
value-said Nothing = record { is = refl; next = refl }
value-said (Number n) = record { is = refl; next = refl }
value-said (Cause why) = record { is = refl; next = refl }

link-by : (file : ℕ) (named : Bool) (v : Value) → Says false (if named then value_link file v else nothing) (if named then line_word v else []) false
unfolding line_link
link-by file true Nothing = record { is = refl; next = refl }
link-by file true (Number line) = record { is = append-nil (codes " see line " ++ decimal line); next = refl }
link-by file true (Cause why) = record { is = refl; next = refl }
link-by file false v = record { is = refl; next = refl }

head-said : (r : FindingRow) → Says false (page_head r) (finding_head (code_text r.code) (row_detail r)) false
unfolding page_head
head-said r =
    so (joined false (joined false (joined false (joined true (joined true (word (codes "    ") true refl refl) (class-said r.code)) (word [] false refl refl))
    (word (code_text r.code) false refl refl)) (detail-by r r.detail r.value)) (word (codes ": ") false refl refl))
    refl

finding-grouped : (head before value after link : List ℕ)
    → head ++ before ++ value ++ after ++ link ++ codes "\n" ≡ head ++ (before ++ value ++ after) ++ link ++ codes "\n"
finding-grouped head before value after link = simp append_assoc

finding-said : (file : ℕ) (r : FindingRow) → Says false (finding_part file r) (linked_line r) false
unfolding finding_part
finding-said file r =
    so (joined false (joined false (joined false (joined false (joined false (head-said r) (word r.before false refl refl)) (value-said r.value))
    (word r.after false refl refl)) (link-by file (names_a_line r.code) r.value)) (word (codes "\n") false refl refl))
    (finding-grouped (finding_head (code_text r.code) (row_detail r)) r.before (value_text r.value) r.after (see_line r))

pub finding-words : (file : ℕ) (r : FindingRow) → words_on (finding_part file r) ≡ linked_line r
finding-words file r = (finding-said file r).is

-- ---- parts of rows

each-said : {A : Type 0} (part : A → Document) (text : A → List ℕ) → ((x : A) → Says false (part x) (text x) false) → (xs : List A) → Says false (each part xs) (flat_map text xs) false
each-said part text h [] = record { is = refl; next = refl }
each-said part text h (x ∷ xs) = joined false (h x) (each-said part text h xs)

classes-said : {F : Type 0} (row : F → FindingRow) (found : List F) → Says true (row_classes row found) [] true
classes-said row [] = record { is = refl; next = refl }
classes-said row (f ∷ found) = joined true (class-said (row f).code) (classes-said row found)

findings-said : {F : Type 0} (place : RowPlace) (row : F → FindingRow) (found : List F) → Says false (row_findings place row found) (linked_lines row found) false
findings-said place row found = each-said (λ f. finding_part place.file (row f)) (λ f. linked_line (row f)) (λ f. finding-said place.file (row f)) found

class-if : (b : Bool) {a : Document} → Says true a [] true → Says true (if b then a else nothing) [] true
class-if true x = x
class-if false x = record { is = refl; next = refl }

line-if : (b : Bool) {a : Document} {t : List ℕ} → Says false a t false → Says false (if b then a else nothing) (if b then t else []) false
line-if true x = x
line-if false x = record { is = refl; next = refl }

numbers-said : (place : RowPlace) → Says true (row_numbers place) (decimal place.line ++ codes "\n") false
unfolding row_numbers
numbers-said place = record { is = refl; next = refl }

comment-said : (comment : List ℕ) → Says false (comment_part comment) (comment_words comment) false
comment-said [] = record { is = refl; next = refl }
comment-said (c ∷ cs) = record { is = refl; next = refl }

bits-said : (bits : Option ℕ) → Says false (bits_part bits) (bits_text bits) false
bits-said None = record { is = refl; next = refl }
bits-said (Some bits) = record { is = refl; next = refl }

fingerprint-said : (fingerprint : List ℕ) → Says false (fingerprint_part fingerprint) (fingerprint_word fingerprint) false
unfolding fingerprint_part fingerprint_word
fingerprint-said fingerprint = record { is = append-nil (codes " SHA256:" ++ fingerprint); next = refl }

key-grouped : (name bits print : List ℕ) → codes " " ++ name ++ bits ++ [] ++ print ≡ codes " " ++ (name ++ bits ++ print)
key-grouped name bits print = simp append_assoc

key-said : (kind : KeyKind) (bits : Option ℕ) (fingerprint : List ℕ) → Says false (key_part kind bits fingerprint) (codes " " ++ key_words kind bits fingerprint) false
unfolding key_part key_words
key-said kind bits fingerprint =
    so (joined false (joined false (joined false (joined false (word (codes " ") false refl refl) (word (key_name_of kind) false refl refl)) (bits-said bits))
    (word [] false refl refl)) (fingerprint-said fingerprint))
    (key-grouped (key_name_of kind) (bits_text bits) (fingerprint_word fingerprint))

held-said : (held : Option HeldKey) → Says false (held_part held) (held_words held) false
held-said None = record { is = refl; next = refl }
held-said (Some held) = key-said held.kind held.bits held.fingerprint

-- ---- rights and limits

setting-said : (name : List ℕ) (text : Option (List ℕ)) → Says false (setting_part name text) (setting_line (codes "    " ++ name) text) false
unfolding setting_line word_line
setting-said name None = record { is = refl; next = refl }
setting-said name (Some text) = record { is = refl; next = refl }

text-said : (name text : List ℕ) → Says false (setting_part name (Some text)) (text_line (codes "    " ++ name) text) false
unfolding word_line
text-said name text = record { is = refl; next = refl }

flag-said : (stands : Bool) (words : List ℕ) → Says false (flag_part stands words) (flag_line stands (codes "    " ++ words ++ codes "\n")) false
unfolding flag_line
flag-said true words = record { is = refl; next = refl }
flag-said false words = record { is = refl; next = refl }

carried-said : (c : Carried) → Says false (carried_part c) (carried_inset c) false
unfolding carried_part
carried-said c = record { is = refl; next = refl }

rights-by : (r : Rights) (port agent x11 pty user_rc : Bool)
    → Says false (rights_part (record r { port = port; agent = agent; x11 = x11; pty = pty; user_rc = user_rc }))
    (codes " " ++ rights_words (record r { port = port; agent = agent; x11 = x11; pty = pty; user_rc = user_rc })) false
unfolding right_marks rights_words
rights-by r true true true true true = record { is = refl; next = refl }
rights-by r true true true true false = record { is = refl; next = refl }
rights-by r true true true false true = record { is = refl; next = refl }
rights-by r true true true false false = record { is = refl; next = refl }
rights-by r true true false true true = record { is = refl; next = refl }
rights-by r true true false true false = record { is = refl; next = refl }
rights-by r true true false false true = record { is = refl; next = refl }
rights-by r true true false false false = record { is = refl; next = refl }
rights-by r true false true true true = record { is = refl; next = refl }
rights-by r true false true true false = record { is = refl; next = refl }
rights-by r true false true false true = record { is = refl; next = refl }
rights-by r true false true false false = record { is = refl; next = refl }
rights-by r true false false true true = record { is = refl; next = refl }
rights-by r true false false true false = record { is = refl; next = refl }
rights-by r true false false false true = record { is = refl; next = refl }
rights-by r true false false false false = record { is = refl; next = refl }
rights-by r false true true true true = record { is = refl; next = refl }
rights-by r false true true true false = record { is = refl; next = refl }
rights-by r false true true false true = record { is = refl; next = refl }
rights-by r false true true false false = record { is = refl; next = refl }
rights-by r false true false true true = record { is = refl; next = refl }
rights-by r false true false true false = record { is = refl; next = refl }
rights-by r false true false false true = record { is = refl; next = refl }
rights-by r false true false false false = record { is = refl; next = refl }
rights-by r false false true true true = record { is = refl; next = refl }
rights-by r false false true true false = record { is = refl; next = refl }
rights-by r false false true false true = record { is = refl; next = refl }
rights-by r false false true false false = record { is = refl; next = refl }
rights-by r false false false true true = record { is = refl; next = refl }
rights-by r false false false true false = record { is = refl; next = refl }
rights-by r false false false false true = record { is = refl; next = refl }
rights-by r false false false false false = record { is = refl; next = refl }

rights-said : (r : Rights) → Says false (rights_part r) (codes " " ++ rights_words r) false
rights-said r = rights-by r r.port r.agent r.x11 r.pty r.user_rc

command-said : (r : Rights) → Says false (command_part r) (command_lines r) false
unfolding command_part
command-said r = joined false (setting-said (codes "command ") r.command) (each-said carried_part carried_inset carried-said r.carried)

until-said : (moment : Option ℤ) → Says false (until_part moment) (until_line moment) false
unfolding words_part until_line word_line
until-said None = record { is = refl; next = refl }
until-said (Some moment) = record { is = refl; next = refl }

limits-said : (f : Facts) → Says false (limits_part f) (limit_lines f) false
unfolding limits_part limit_lines
limits-said f =
    joined false (joined false (joined false (joined false (flag-said f.no_touch_required (codes "no-touch-required")) (flag-said f.verify_required (codes "verify-required")))
    (setting-said (codes "from ") f.from)) (setting-said (codes "principals ") f.principals)) (until-said f.until)

all-limits-said : (f : Facts) → Says false (all_limits f) (all_limit_lines f) false
unfolding all_limits
all-limits-said f =
    joined false (joined false (joined false (flag-said f.is_authority (codes "authority: whoever it certifies")) (command-said f.rights)) (limits-said f))
    (line-if (is_free f) (word (codes "    any command, from anywhere, for ever\n") false refl refl))

-- ---- rows

cells-grouped : (comment key rights : List ℕ) → comment ++ (codes " " ++ key) ++ codes "\n" ++ (codes " " ++ rights) ≡ comment ++ codes " " ++ key ++ codes "\n" ++ codes " " ++ rights
cells-grouped comment key rights = simp append_assoc

cells-said : (f : Facts) → Says false (entry_cells f) (named_key f.comment f.kind f.bits f.fingerprint ++ codes " " ++ rights_words f.rights) false
unfolding entry_cells
cells-said f =
    so (joined false (joined false (joined false (comment-said f.comment) (key-said f.kind f.bits f.fingerprint)) (word (codes "\n") false refl refl)) (rights-said f.rights))
    (cells-grouped (comment_words f.comment) (key_words f.kind f.bits f.fingerprint) (rights_words f.rights))

entry-grouped : (number key rights limits found : List ℕ)
    → number ++ codes "\n" ++ (key ++ codes " " ++ rights) ++ codes "\n" ++ limits ++ found ++ codes "\n\n"
    ≡ number ++ codes "\n" ++ key ++ codes " " ++ rights ++ codes "\n" ++ limits ++ found ++ codes "\n\n"
entry-grouped number key rights limits found = simp append_assoc

entry-said : (place : RowPlace) (f : Facts) (found : List Finding) → Says false (entry_row place f found) (entry_words place.line f found) false
unfolding entry_row
entry-said place f found =
    so (joined false (joined false (joined false (joined false (joined false (joined true (joined true (joined true (word [] true refl refl) (classes-said auth_row found))
    (class-if f.is_authority (word [] true refl refl))) (numbers-said place)) (cells-said f)) (word (codes "\n") false refl refl)) (all-limits-said f))
    (findings-said place auth_row found)) (word (codes "\n\n") false refl refl))
    (entry-grouped (decimal place.line) (named_key f.comment f.kind f.bits f.fingerprint) (rights_words f.rights) (all_limit_lines f) (linked_lines auth_row found))

pub entry-row-words : (place : RowPlace) (f : Facts) (found : List Finding) → words_on (entry_row place f found) ≡ entry_words place.line f found
entry-row-words place f found = (entry-said place f found).is

unreadable-grouped : (number key found : List ℕ)
    → [] ++ [] ++ [] ++ (number ++ codes "\n") ++ codes "unreadable" ++ key ++ codes "\n" ++ codes " cannot be read" ++ codes "\n" ++ found ++ codes "\n\n"
    ≡ number ++ codes "\n" ++ codes "unreadable" ++ key ++ codes "\n" ++ codes " cannot be read\n" ++ found ++ codes "\n\n"
unreadable-grouped number key found = simp append_assoc

unreadable-said : (place : RowPlace) (held : Option HeldKey) (found : List Finding) → Says false (unreadable_row place held found) (unreadable_words place.line held found) false
unfolding unreadable_row
unreadable-said place held found =
    so (joined false (joined false (joined false (joined false (joined false (joined false (joined false (joined true (joined true (joined true (word [] true refl refl) (classes-said auth_row found))
    (word [] true refl refl)) (numbers-said place)) (word (codes "unreadable") false refl refl)) (held-said held)) (word (codes "\n") false refl refl))
    (word (codes " cannot be read") false refl refl)) (word (codes "\n") false refl refl)) (findings-said place auth_row found)) (word (codes "\n\n") false refl refl))
    (unreadable-grouped (decimal place.line) (held_words held) (linked_lines auth_row found))

pub unreadable-row-words : (place : RowPlace) (held : Option HeldKey) (found : List Finding) → words_on (unreadable_row place held found) ≡ unreadable_words place.line held found
unreadable-row-words place held found = (unreadable-said place held found).is

-- ---- rows of known_hosts lines

role-said : (is_authority : Bool) → Says false (say (role is_authority)) (role is_authority) false
role-said is_authority = record { is = refl; next = refl }

host-cells-grouped : (comment key is : List ℕ) → comment ++ (codes " " ++ key) ++ codes "\n" ++ is ≡ comment ++ codes " " ++ key ++ codes "\n" ++ is
host-cells-grouped comment key is = simp append_assoc

host-cells-said : (f : HostFacts) → Says false (host_cells f) (named_key f.comment f.kind f.bits f.fingerprint ++ role f.is_authority) false
unfolding host_cells
host-cells-said f =
    so (joined false (joined false (joined false (comment-said f.comment) (key-said f.kind f.bits f.fingerprint)) (word (codes "\n") false refl refl)) (role-said f.is_authority))
    (host-cells-grouped (comment_words f.comment) (key_words f.kind f.bits f.fingerprint) (role f.is_authority))

host-entry-grouped : (number key is names found : List ℕ)
    → number ++ codes "\n" ++ (key ++ is) ++ codes "\n" ++ names ++ found ++ codes "\n\n"
    ≡ number ++ codes "\n" ++ key ++ is ++ codes "\n" ++ names ++ found ++ codes "\n\n"
host-entry-grouped number key is names found = simp append_assoc

host-entry-said : (place : RowPlace) (f : HostFacts) (found : List HostFinding) → Says false (host_entry_row place f found) (host_entry_words place.line f found) false
unfolding host_entry_row
host-entry-said place f found =
    so (joined false (joined false (joined false (joined false (joined false (joined true (joined true (joined true (word [] true refl refl) (classes-said host_row found))
    (class-if f.is_authority (word [] true refl refl))) (numbers-said place)) (host-cells-said f)) (word (codes "\n") false refl refl))
    (text-said (codes "names ") f.names)) (findings-said place host_row found)) (word (codes "\n\n") false refl refl))
    (host-entry-grouped (decimal place.line) (named_key f.comment f.kind f.bits f.fingerprint) (role f.is_authority) (text_line (codes "    names ") f.names) (linked_lines host_row found))

pub host-entry-row-words : (place : RowPlace) (f : HostFacts) (found : List HostFinding) → words_on (host_entry_row place f found) ≡ host_entry_words place.line f found
host-entry-row-words place f found = (host-entry-said place f found).is

revoked-cells-said : (fingerprint : List ℕ) → Says false (revoked_cells fingerprint) (codes "revoked" ++ fingerprint_word fingerprint ++ codes "\n" ++ codes "revoked" ++ codes "\n") false
unfolding revoked_cells
revoked-cells-said fingerprint =
    joined false (joined false (joined false (joined false (word (codes "revoked") false refl refl) (fingerprint-said fingerprint)) (word (codes "\n") false refl refl))
    (word (codes "revoked") false refl refl)) (word (codes "\n") false refl refl)

revoked-grouped : (number print names found : List ℕ)
    → number ++ codes "\n" ++ (codes "revoked" ++ print ++ codes "\n" ++ codes "revoked" ++ codes "\n") ++ names ++ codes "    in ssh it counts for these names alone\n" ++ found ++ codes "\n\n"
    ≡ number ++ codes "\n" ++ codes "revoked" ++ print ++ codes "\n" ++ codes "revoked\n" ++ names ++ codes "    in ssh it counts for these names alone\n" ++ found ++ codes "\n\n"
revoked-grouped number print names found = simp append_assoc

own-names-said : Says false (flag_part true (codes "in ssh it counts for these names alone")) (codes "    in ssh it counts for these names alone\n") false
own-names-said = record { is = refl; next = refl }

revoked-said : (place : RowPlace) (fingerprint names : List ℕ) (found : List HostFinding) → Says false (revoked_row place fingerprint names found) (revoked_words place.line fingerprint names found) false
unfolding revoked_row
revoked-said place fingerprint names found =
    so (joined false (joined false (joined false (joined false (joined false (joined true (joined true (word [] true refl refl) (classes-said host_row found))
    (numbers-said place)) (revoked-cells-said fingerprint)) (text-said (codes "names ") names)) own-names-said) (findings-said place host_row found)) (word (codes "\n\n") false refl refl))
    (revoked-grouped (decimal place.line) (fingerprint_word fingerprint) (text_line (codes "    names ") names) (linked_lines host_row found))

pub revoked-row-words : (place : RowPlace) (fingerprint names : List ℕ) (found : List HostFinding) → words_on (revoked_row place fingerprint names found) ≡ revoked_words place.line fingerprint names found
revoked-row-words place fingerprint names found = (revoked-said place fingerprint names found).is

bare-grouped : (number is key found : List ℕ)
    → number ++ codes "\n" ++ is ++ key ++ codes "\n" ++ is ++ codes "\n" ++ found ++ codes "\n\n"
    ≡ number ++ codes "\n" ++ is ++ key ++ codes "\n" ++ is ++ codes "\n" ++ found ++ codes "\n\n"
bare-grouped number is key found = refl

bare-said : (place : RowPlace) (is : List ℕ) (held : Option HeldKey) (found : List HostFinding) → Says false (bare_row place is held found) (bare_words place.line is held found) false
unfolding bare_row
bare-said place is held found =
    so (joined false (joined false (joined false (joined false (joined false (joined false (joined false (joined true (joined true (joined true (word [] true refl refl) (classes-said host_row found))
    (word [] true refl refl)) (numbers-said place)) (word is false refl refl)) (held-said held)) (word (codes "\n") false refl refl))
    (word is false refl refl)) (word (codes "\n") false refl refl)) (findings-said place host_row found)) (word (codes "\n\n") false refl refl))
    (bare-grouped (decimal place.line) is (held_words held) (linked_lines host_row found))

pub bare-row-words : (place : RowPlace) (is : List ℕ) (held : Option HeldKey) (found : List HostFinding) → words_on (bare_row place is held found) ≡ bare_words place.line is held found
bare-row-words place is held found = (bare-said place is held found).is
