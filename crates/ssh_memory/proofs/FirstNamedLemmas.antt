-- The first of several files that has a name.
use Rattle.std.proofs.Common.{◌≡◌, ◌∙◌, ℕ, Bool, true, false, cond, List, [], ◌∷◌, Option, Some, None, refl, sym, ap}
use Rattle.std.proofs.lemmas.Bool.{false≢true}
use Rattle.std.specs.Cmp.Lexicographic.{bytes_decides}
use Rattle.std.specs.Option.{option_or}
use Rattle.std.specs.Prelude.{IfSome, is_some}
use Rattle.std.specs.Str.{bytes_eq}
use Rattle.ssh_memory.specs.FirstNamed.{first_named}
use Rattle.ssh_memory.specs.declared.files.NamedBytes.{NamedBytes}

-- ---- what is found has the name

if_named : (b : Bool) (f : NamedBytes) (rest : Option NamedBytes) (name : List ℕ) → (b ≡ true → f.name.now ≡ name)
    → IfSome rest (λ g. g.name.now ≡ name) → IfSome (cond b (Some f) rest) (λ g. g.name.now ≡ name)
if_named true f rest name is later = is refl
if_named false f rest name is later = later

pub has_name : (files : List NamedBytes) (name : List ℕ) → IfSome (first_named files name) (λ f. f.name.now ≡ name)
has_name [] name = tt
has_name (f ∷ files) name =
    if_named (bytes_eq f.name.now name) f (first_named files name) name (bytes_decides f.name.now name).0 (has_name files name)

-- ---- one more file

-- a file whose name is there already changes nothing
pub kept : (b : Bool) (f : NamedBytes) (old : Option NamedBytes) → (b ≡ true → is_some old ≡ true) → old ≡ option_or old (cond b (Some f) None)
kept b f (Some g) there = refl
kept false f None there = refl
kept true f None there = absurd (false≢true (there refl))

-- a file whose name is new is found by it
pub put : (b : Bool) (f : NamedBytes) (old new : Option NamedBytes) → (b ≡ true → is_some old ≡ false)
    → new ≡ cond b (Some f) old → new ≡ option_or old (cond b (Some f) None)
put false f None new absent is = is
put false f (Some g) new absent is = is
put true f None new absent is = is
put true f (Some g) new absent is = absurd (false≢true (sym (absent refl)))

-- ---- file by file

chosen : (b : Bool) (f : NamedBytes) (later : Option NamedBytes) → option_or (cond b (Some f) None) later ≡ cond b (Some f) later
chosen true f later = refl
chosen false f later = refl

-- what is found by the files so far and those that are left
pub stepped : (old new : Option NamedBytes) (f : NamedBytes) (files rest : List NamedBytes) (name : List ℕ) (whole : Option NamedBytes)
    → new ≡ option_or old (first_named (f ∷ []) name) → option_or old (first_named files name) ≡ whole → files ≡ f ∷ rest
    → option_or new (first_named rest name) ≡ whole
stepped (Some g) new f files rest name whole is before split = ap (λ o. option_or o (first_named rest name)) is ∙ before
stepped None new f files rest name whole is before split =
    ap (λ o. option_or o (first_named rest name)) is ∙ chosen (bytes_eq f.name.now name) f (first_named rest name)
    ∙ sym (ap (λ l. first_named l name) split) ∙ before
