-- What is printed of a line of bytes consists of bytes.
use Rattle.ssh_review.proofs.Imports.{◌≡◌, ℕ, zero, suc, ◌<◌, ◌==◌, Bool, true, false, cond, List, [], ◌∷◌, ◌++◌, take, refl, sym, subst, inl, inr, arith, Option, Some, None, option_map, AllByRecursion, onto_first, IsAscii, eqb-true, standard, encode_of, IsAscii-encode_of, TimeZone, SpellsTail, lines_of, key_name_of, PublicKey, key_blob, kind_of, AuthOption, Switch, Setting, ValueName, same_value_name, SpellsItems, SpellsOption, escaped, quoted, first_of, setting, settings, AuthEntry, SpellsEntry, SpellsOptions, auth_line, Entry, base64, SpellsKey, auth_line-spells, plain, Carried, CarriedName, carried_by, carried_name, carried_texts, command_of, AreBytes, AreBytesIfAny, HasByteValue, HaveByteValues, IsHeldOfBytes, IsOfBytes}
use Rattle.sha2.specs.Sha256.{sha256}
use Rattle.ssh_keys.specs.Fingerprint.{digest_text_of, fingerprint_of}
use Rattle.ssh_options.specs.declared.option.ValueName.TheVariants as value
use Rattle.ssh_rights.specs.Rights.{rights_of}
use Rattle.ssh_findings.specs.KeyRead.{key_read}
use Rattle.ssh_findings.specs.Facts.{facts_of}
use Rattle.ssh_findings.specs.HeldKey.{held_of as reported_of}

-- ---- parts

pub front : (a b : List ℕ) → AreBytes (a ++ b) → AreBytes a
front [] b h = tt
front (c ∷ a) b h = (h.0, front a b h.1)

pub back : (a b : List ℕ) → AreBytes (a ++ b) → AreBytes b
back [] b h = h
back (c ∷ a) b h = back a b h.1

taken : (k : ℕ) (text : List ℕ) → AreBytes text → AreBytes (take k text)
taken zero text h = tt
taken (suc k) [] h = tt
taken (suc k) (c ∷ cs) h = (h.0, taken k cs h.1)

from_ascii : (text : List ℕ) → IsAscii text → AreBytes text
from_ascii [] h = tt
from_ascii (c ∷ cs) h = let few : c < 128 = h 0 in (omega (arith, few), from_ascii cs (λ i. h (suc i)))

-- ---- options

value-back : (text : List ℕ) → AreBytes (escaped text) → AreBytes text
value-back [] h = tt
value-back (c ∷ cs) h = go (c == 34) refl (value-back cs) h
  where
    go : (b : Bool) → (c == 34) ≡ b → (AreBytes (escaped cs) → AreBytes cs) → AreBytes (cond b (92 ∷ 34 ∷ []) (c ∷ []) ++ escaped cs) → AreBytes (c ∷ cs)
    go true e next h = let same : c ≡ 34 = eqb-true c 34 e in (omega (arith, same), next h.1.1)
    go false e next h = (h.0, next h.1)

option-value : (option : AuthOption) (text : List ℕ) → SpellsOption option text → AreBytes text → HasByteValue option
option-value (Switch flag) text h k = tt
option-value (Setting name said) text (spelled, same, is) k =
    let whole : AreBytes (spelled ++ quoted said) = subst AreBytes is k in
    value-back said (front (escaped said) (34 ∷ []) (back spelled (quoted said) whole).1.1)

items-values : (options : List AuthOption) (text : List ℕ) → SpellsItems options text → AreBytes text → HaveByteValues options
items-values [] text h k = tt
items-values (option ∷ []) text h k = (option-value option text h k, tt)
items-values (option ∷ next ∷ options) text (first, rest, spelled, more, is) k =
    let whole : AreBytes (first ++ 44 ∷ rest) = subst AreBytes is k in
    (option-value option first spelled (front first (44 ∷ rest) whole), items-values (next ∷ options) rest more (back first (44 ∷ rest) whole).1)

options-values : (options : List AuthOption) (text : List ℕ) → SpellsOptions options text → AreBytes text → HaveByteValues options
options-values [] text h k = tt
options-values (option ∷ options) text (items, gap, spelled, blanks, allowed, is) k =
    items-values (option ∷ options) items spelled (front items gap (subst AreBytes is k))

-- ---- the comment

tail-comment : (comment tail : List ℕ) → SpellsTail comment tail → AreBytes tail → AreBytes comment
tail-comment comment tail (inl (none, ends)) k = subst AreBytes (sym none) tt
tail-comment comment tail (inr (gap, after, blanks, trailing, is)) k =
    back gap comment (front (gap ++ comment) after (subst AreBytes is k))

pub key-comment : (key : PublicKey) (comment text : List ℕ) → SpellsKey key comment text → AreBytes text → AreBytes comment
key-comment key comment text (gap, tail, blanks, bytes, is_key, fits, spelled, is) k =
    tail-comment comment tail spelled (back (key_name_of (kind_of key) ++ gap ++ base64 (key_blob key)) tail (subst AreBytes is k))

-- ---- an entry

record EntryBytes (e : AuthEntry) : Type 0 where
  values : HaveByteValues e.options
  comment : AreBytes e.comment

spelled-bytes : (e : AuthEntry) (line : List ℕ) → SpellsEntry e line → AreBytes line → EntryBytes e
spelled-bytes e line (short, (blank, options, key, blanks, spelled, said, is)) k =
    let whole : AreBytes (blank ++ options ++ key) = subst AreBytes is k in
    let front_bytes = back blank options (front (blank ++ options) key whole) in
    let key_bytes = back (blank ++ options) key whole in
    record { values = options-values e.options options spelled front_bytes; comment = key-comment e.key e.comment key said key_bytes }

settings-bytes : (name : ValueName) (options : List AuthOption) → HaveByteValues options → AllByRecursion AreBytes (settings name options)
settings-bytes name [] h = tt
settings-bytes name (Switch flag ∷ options) h = settings-bytes name options h.1
settings-bytes name (Setting other said ∷ options) h = go (same_value_name other name) (settings-bytes name options h.1)
  where
    go : (b : Bool) → AllByRecursion AreBytes (settings name options) → AllByRecursion AreBytes (cond b (said ∷ settings name options) (settings name options))
    go true more = (h.0, more)
    go false more = more

first-bytes : (values : List (List ℕ)) → AllByRecursion AreBytes values → AreBytesIfAny (first_of values)
first-bytes [] h = tt
first-bytes (said ∷ values) h = h.0

setting-bytes : (name : ValueName) (options : List AuthOption) → HaveByteValues options → AreBytesIfAny (setting name options)
setting-bytes name options h = first-bytes (settings name options) (settings-bytes name options h)

command-bytes : (command : Option (List ℕ)) (key : PublicKey) → AreBytesIfAny command → AreBytesIfAny (command_of command (plain key))
command-bytes None key h = tt
command-bytes (Some text) key h = h

carried-after : (name : Option CarriedName) (text : List ℕ) (texts : List Carried) → AreBytes text → AllByRecursion (λ (c : Carried). AreBytes c.text) texts
    → AllByRecursion (λ (c : Carried). AreBytes c.text) (carried_by name text ++ texts)
carried-after None text texts h k = k
carried-after (Some name) text texts h k = (h, k)

carried-bytes : (options : List AuthOption) → HaveByteValues options → AllByRecursion (λ (c : Carried). AreBytes c.text) (carried_texts options)
carried-bytes [] h = tt
carried-bytes (Switch flag ∷ options) h = carried-bytes options h.1
carried-bytes (Setting name text ∷ options) h = carried-after (carried_name name) text (carried_texts options) h.0 (carried-bytes options h.1)

pub fingerprint-bytes : (key : PublicKey) → AreBytes (fingerprint_of key)
unfolding fingerprint_of digest_text_of
fingerprint-bytes key =
    let text = encode_of standard (sha256 (key_blob key)) in
    taken 43 text (from_ascii text (IsAscii-encode_of standard (sha256 (key_blob key))))

facts-bytes : (zone : TimeZone) (e : AuthEntry) → EntryBytes e → IsOfBytes (facts_of zone e)
unfolding facts_of rights_of
facts-bytes zone e h = record {
  fingerprint = fingerprint-bytes (key_read e.key);
  comment = h.comment;
  command = command-bytes (setting value.Command e.options) e.key (setting-bytes value.Command e.options h.values);
  carried = carried-bytes e.options h.values;
  from = setting-bytes value.From e.options h.values;
  principals = setting-bytes value.Principals e.options h.values;
}

-- what is printed of the entry of a line of bytes consists of bytes
pub entry-facts : (zone : TimeZone) (line : List ℕ) (e : AuthEntry) → AreBytes line → auth_line line ≡ Entry e
    → IsOfBytes (facts_of zone e) × HaveByteValues e.options
entry-facts zone line e h is =
    let bytes = spelled-bytes e line (auth_line-spells line e h is) h in (facts-bytes zone e bytes, bytes.values)

-- what is printed of the key on a line that cannot be read consists of bytes
pub held-bytes : (key : Option PublicKey) → IsHeldOfBytes (option_map reported_of key)
held-bytes None = tt
held-bytes (Some key) = fingerprint-bytes key

-- ---- the lines of a file

onto-bytes : (c : ℕ) (lines : List (List ℕ)) → c < 256 → AllByRecursion AreBytes lines → AllByRecursion AreBytes (onto_first c lines)
onto-bytes c [] h k = ((h, tt), tt)
onto-bytes c (line ∷ lines) h k = ((h, k.0), k.1)

pub lines-bytes : (file : List ℕ) → AreBytes file → AllByRecursion AreBytes (lines_of file)
lines-bytes [] h = tt
lines-bytes (c ∷ cs) h = go (c == 10) (lines-bytes cs h.1)
  where
    go : (b : Bool) → AllByRecursion AreBytes (lines_of cs) → AllByRecursion AreBytes (cond b ([] ∷ lines_of cs) (onto_first c (lines_of cs)))
    go true more = (tt, more)
    go false more = onto-bytes c (lines_of cs) h.0 more
