-- The bytes that the program writes, and what a failed write leaves.
use Rattle.std.specs.Prelude.{◌≡◌, ◌⊎◌, ◌++◌, ◌<◌, ℕ, List, Option, length}
use Rattle.ssh_program.specs.Account.{Account, failing, taking, where_reported}
use Rattle.ssh_print.specs.Responses.{Response, out_of_memory}

-- the text was taken but for this rest, and no write failed
pub record TakesUpTo (old new : Option Account) (text rest : List ℕ) : Type 0 where
  pub front : List ℕ
  pub parts : text ≡ front ++ rest
  pub reported : new ≡ where_reported (λ a. taking a front) old

-- all of the text was taken, and no write failed
abbrev pub TakesAll : Option Account → Option Account → List ℕ → Type 0
TakesAll old new text = new ≡ where_reported (λ a. taking a text) old

-- a proper prefix of the text was taken, and then one write failed
pub record Breaks (old new : Option Account) (text : List ℕ) : Type 0 where
  pub front : List ℕ
  pub rest : List ℕ
  pub parts : text ≡ front ++ rest
  pub proper : 0 < length rest
  pub reported : new ≡ where_reported (λ a. failing (taking a front)) old

-- the whole text was taken, no write failed, and the status is the response's; or a write failed after a proper prefix
-- of the text, and the status is 2
abbrev pub WritesResponse : Option Account → Option Account → Response → ℕ → Type 0
WritesResponse old new r status = (TakesAll old new r.text × (status ≡ r.status)) ⊎ (Breaks old new r.text × (status ≡ 2))

-- a response behind this text
abbrev pub behind : List ℕ → Response → Response
behind text r = record { status = r.status; text = text ++ r.text }

-- such a response, or that of want of memory, was written, whole or until a write failed
abbrev pub WritesAnswer : (Response → Type 0) → Option Account → Option Account → ℕ → Type 0
WritesAnswer Is old new status = (r : Response) × (Is r ⊎ (r ≡ out_of_memory)) × WritesResponse old new r status
