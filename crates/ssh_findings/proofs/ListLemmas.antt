-- A `from` list is bad exactly if some item is not allowed in it, whoever the client is.
use Rattle.ssh_findings.proofs.Imports.{◌≡◌, ℕ, Bool, true, false, List, Option, refl, sym, ◌∙◌, ap, list_any, Permit, Yes, No, Bad, is_bad_source, items_of, permit, permits, source_item, source_list}
use Rattle.ssh_patterns.specs.Lists.{permit_by}
use Rattle.ssh_findings.specs.Lists.{is_bad_list}

abbrev pub is_bad : Permit → Bool
is_bad Yes = false
is_bad No = false
is_bad Bad = true

bad-permit : (b p : Bool) → is_bad (permit b p) ≡ b
bad-permit true p = refl
bad-permit false true = refl
bad-permit false false = refl

bad-list : (list : List ℕ) (host : Option (List ℕ)) (text : List ℕ) → is_bad (source_list list host text) ≡ is_bad_list list
unfolding permit_by is_bad_list
bad-list list host text = bad-permit (list_any is_bad_source (items_of list)) (permits (source_item (record { host = host; text = text })) (items_of list))

-- by the answer for one source
pub said_is : (said : Permit) (list : List ℕ) (host : Option (List ℕ)) (text : List ℕ) → said ≡ source_list list host text → is_bad said ≡ is_bad_list list
said_is said list host text e = ap is_bad e ∙ bad-list list host text

-- the answer for every source
pub bad_always : (list : List ℕ) (host : Option (List ℕ)) (text : List ℕ) → is_bad_list list ≡ true → source_list list host text ≡ Yes → true ≡ false
bad_always list host text h e = sym h ∙ sym (bad-list list host text) ∙ ap is_bad e
