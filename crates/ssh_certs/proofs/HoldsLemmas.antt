-- One more name in a sorted set of names.
use Rattle.ssh_certs.proofs.Imports.{◌≡◌, ◌∙◌, ◌||◌, ℕ, Bool, true, false, cond, List, Option, Some, refl, ap, nat_cmp, is_some, Bor, BTreeMap, UpdatesBy, nat_list_eq_equiv, slice_cmp, btree_map_updates_str, holds}
use Rattle.std.specs.Prelude.{bytes_eq}

either : (b : Bool) (before : Option (Unit {0})) → is_some (cond b (Some tt) before) ≡ (b || is_some before)
either true before = refl
either false before = refl

-- a name that is inserted is in the set, and so are those that were there
pub put : (name : List ℕ) (old new : BTreeMap (Bor (List ℕ)) (Unit {0}))
    → UpdatesBy (λ x y. slice_cmp nat_cmp x.now y.now) (λ key. slice_cmp nat_cmp name key.now) old new (Some tt)
    → (other : List ℕ) → holds new other ≡ (bytes_eq other name || holds old other)
put name old new h other =
    ap is_some (btree_map_updates_str name old new (Some tt) h other)
    ∙ either (bytes_eq name other) _
    ∙ ap (λ b. b || holds old other) (nat_list_eq_equiv.symm name other)

pub turned : (a b c : Bool) → (a || (b || c)) ≡ ((b || a) || c)
turned true true c = refl
turned true false c = refl
turned false true c = refl
turned false false c = refl
