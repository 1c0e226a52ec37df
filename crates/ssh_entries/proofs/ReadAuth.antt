-- A line that is read as an entry spells it.
use Rattle.ssh_entries.proofs.Imports.{◌≡◌, ℕ, ◌≤◌, Bool, true, false, if◌then◌else◌, List, [], ◌∷◌, ◌++◌, length, drop, bytes_eq, Result, Ok, Err, refl, sym, ap, subst, ◌∙◌, append_assoc, LineCause, AuthOption, AuthEntry, Entry, line_limit, body_of, skip_blanks, without_cr, AreBlanks, SpellsItems, AreAllowed, option_text_of, options_of, KeyPart, SpellsKey, begins_with_type, LineFront, past_limit, empty, remark, fields, front_of, SpellsEntry, SpellsOptions, line_of_front, entry_of, entry_of_key, entry_after_options, ends_word, gap-differs, skipped, skip_blanks-begins, cr_cut, IsCr, ReadOptions, read_options, text_cut}
use Rattle.ssh_entries.specs.KeyPart.{key_part_of}
use Rattle.ssh_entries.specs.AuthGrammar.{auth_line}
use Rattle.ssh_entries.proofs.ByteLemmas.{AreBytes, AreBytes-front, AreBytes-back}
use Rattle.ssh_entries.proofs.FrontLemmas.{front-fields}
use Rattle.ssh_entries.proofs.ReadKey.{gap-some, key_part-facts, key_part-spells}

-- a body spells an entry, with a CR after it or not
abbrev SpellsBody : AuthEntry → List ℕ → Type 0
SpellsBody entry text =
    (options key : List ℕ) × SpellsOptions entry.options options × SpellsKey entry.key entry.comment key × (text ≡ options ++ key)

pub record ReadPart (options : List AuthOption) (text : List ℕ) (entry : AuthEntry) : Type 0 where
  pub part : KeyPart
  pub reads : key_part_of text ≡ Ok part
  pub is : entry ≡ record { options = options; key = part.key; comment = part.comment }

part-by : (options : List AuthOption) (text : List ℕ) (entry : AuthEntry) (part : Result KeyPart LineCause) → key_part_of text ≡ part
    → entry_of_key options part ≡ Entry entry → ReadPart options text entry
part-by options text entry (Err cause) k h = cc
part-by options text entry (Ok part) k h =
    let e : record { options = options; key = part.key; comment = part.comment } ≡ entry = cc in
    record { part = part; reads = k; is = sym e }

spells-options : (options : List AuthOption) (items gap : List ℕ) → SpellsItems options items → AreAllowed [] options
    → bytes_eq gap [] ≡ false → AreBlanks gap → SpellsOptions options (items ++ gap)
spells-options [] items gap h a e g = absurd h
spells-options (option ∷ options) items gap h a e g = (items, gap, h, record { some = gap-differs gap e; blanks = g }, a, refl)

-- the key after options
after-options : (options : List AuthOption) (text rest body cr : List ℕ) (entry : AuthEntry)
    → ReadOptions text options → body ≡ text ++ rest → ends_word rest ≡ true → AreBytes body → IsCr cr
    → ReadPart options (skip_blanks rest) entry → SpellsBody entry (body ++ cr)
after-options options text rest body cr entry o whole ends bytes is read =
    let skip = skipped rest in
    let key = skip_blanks rest in
    let facts = key_part-facts key read.part read.reads in
    let rest_bytes : AreBytes rest = AreBytes-back text rest (subst AreBytes whole bytes) in
    let all : AreBytes key = AreBytes-back skip.gap key (subst AreBytes skip.whole rest_bytes) in
    let gap : bytes_eq skip.gap [] ≡ false = gap-some skip.gap key (ap ends_word (sym skip.whole) ∙ ends) (skip_blanks-begins rest) facts.word in
    let spelled = key_part-spells key cr read.part all is read.reads in
    let P : AuthEntry → Type 0 = λ x. SpellsBody x (body ++ cr) in
    subst P (sym read.is) (
      text ++ skip.gap,
      key ++ cr,
      spells-options options text skip.gap o.spelled o.allowed gap skip.blanks,
      spelled,
      ap (λ t. t ++ cr) (whole ∙ ap (λ t. text ++ t) skip.whole) ∙ simp append_assoc,
    )

without-options : (body cr : List ℕ) (entry : AuthEntry) → AreBytes body → IsCr cr
    → ReadPart [] body entry → SpellsBody entry (body ++ cr)
without-options body cr entry bytes is read =
    let P : AuthEntry → Type 0 = λ x. SpellsBody x (body ++ cr) in
    subst P (sym read.is) ([], body ++ cr, refl, key_part-spells body cr read.part bytes is read.reads, refl)

options-by : (body cr : List ℕ) (entry : AuthEntry) (options : Result (List AuthOption) LineCause)
    → AreBytes body → IsCr cr → options_of (option_text_of false 0 body) ≡ options
    → entry_after_options options (skip_blanks (drop (length (option_text_of false 0 body)) body)) ≡ Entry entry
    → SpellsBody entry (body ++ cr)
options-by body cr entry (Err cause) bytes is o h = cc
options-by body cr entry (Ok options) bytes is o h =
    let cut = text_cut false 0 body in
    let rest = drop (length (option_text_of false 0 body)) body in
    after-options options (option_text_of false 0 body) rest body cr entry (read_options (option_text_of false 0 body) options o)
    cut.whole cut.ends bytes is (part-by options (skip_blanks rest) entry (key_part_of (skip_blanks rest)) refl h)

entry-by : (body cr : List ℕ) (entry : AuthEntry) (typed : Bool) → AreBytes body → IsCr cr
    → (if typed then entry_of_key [] (key_part_of body)
    else entry_after_options (options_of (option_text_of false 0 body)) (skip_blanks (drop (length (option_text_of false 0 body)) body)))
    ≡ Entry entry
    → SpellsBody entry (body ++ cr)
entry-by body cr entry true bytes is h =
    without-options body cr entry bytes is (part-by [] body entry (key_part_of body) refl h)
entry-by body cr entry false bytes is h =
    options-by body cr entry (options_of (option_text_of false 0 body)) bytes is refl h

front-by : (line : List ℕ) (entry : AuthEntry) (front : LineFront) → front_of line ≡ front → line_of_front front ≡ Entry entry
    → (length line ≤ line_limit) × (entry_of (body_of line) ≡ Entry entry)
front-by line entry past_limit f h = cc
front-by line entry empty f h = cc
front-by line entry remark f h = cc
front-by line entry (fields body) f h = let front = front-fields line body f in (front.short, ap entry_of front.is ∙ h)

spells-line : (line : List ℕ) (entry : AuthEntry) (gap cr : List ℕ) → length line ≤ line_limit → AreBlanks gap
    → line ≡ gap ++ (body_of line ++ cr) → SpellsBody entry (body_of line ++ cr) → SpellsEntry entry line
spells-line line entry gap cr short g whole (options, key, o, k, e) =
    (short, (gap, options, key, g, o, k, whole ∙ ap (λ t. gap ++ t) e ∙ sym (append_assoc gap options key)))

-- A line that is read as an entry spells it.
pub auth_line-spells : (line : List ℕ) (entry : AuthEntry) → AreBytes line
    → auth_line line ≡ Entry entry → SpellsEntry entry line
unfolding auth_line
auth_line-spells line entry bytes h =
    let cut = cr_cut line in
    let skip = skipped (without_cr line) in
    let read = front-by line entry (front_of line) refl h in
    let whole : line ≡ skip.gap ++ (body_of line ++ cut.cr) = cut.whole ∙ ap (λ t. t ++ cut.cr) skip.whole ∙ append_assoc skip.gap (body_of line) cut.cr in
    let body : AreBytes (body_of line) =
    AreBytes-front (body_of line) cut.cr (AreBytes-back skip.gap (body_of line ++ cut.cr) (subst AreBytes whole bytes)) in
    spells-line line entry skip.gap cut.cr read.0 skip.blanks whole
    (entry-by (body_of line) cut.cr entry (begins_with_type (body_of line)) body cut.is read.1)
