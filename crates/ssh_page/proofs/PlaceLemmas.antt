-- Places on the page before and after a part of it.
use Rattle.std.proofs.Common.{◌≡◌, ◌∙◌, Bool, true, false, List, [], ◌∷◌, refl, ap}
use Rattle.ssh_page.specs.declared.piece.Piece.{Piece}
use Rattle.ssh_page.specs.Documents.{Document, put, each, after, ◌&◌}
use Rattle.ssh_page.specs.Records.{put_if}
use Rattle.ssh_page.specs.Tags.{Place}

-- A part leads from one place to another. As a record, so that a proof finds the three.
pub record Leads (a : Place) (d : Document) (b : Place) : Type 0 where
  pub by : after a d ≡ b

-- it leads to where it leads
pub here : (a : Place) (d : Document) → Leads a d (after a d)
here a d = record { by = refl }

pub next : {a b c : Place} {d e : Document} → Leads a d b → Leads b e c → Leads a (d & e) c
next {a} {b} {c} {d} {e} h k = record { by = ap (λ p. after p e) h.by ∙ k.by }

each-stays : {A : Type 0} (a : Place) (part : A → Document) → ((x : A) → Leads a (part x) a) → (xs : List A) → after a (each part xs) ≡ a
each-stays a part h [] = refl
each-stays a part h (x ∷ xs) = ap (λ p. after p (each part xs)) (h x).by ∙ each-stays a part h xs

-- parts that lead to where they began
pub all_stay : {A : Type 0} (a : Place) (part : A → Document) → ((x : A) → Leads a (part x) a) → (xs : List A) → Leads a (each part xs) a
all_stay a part h xs = record { by = each-stays a part h xs }

pub may_stay : (a : Place) (p : Piece) (holds : Bool) → Leads a (put p) a → Leads a (put_if holds p) a
may_stay a p true h = h
may_stay a p false h = record { by = refl }
