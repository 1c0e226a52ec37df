-- The account of a writer: the bytes that it took and its failed writes, and how a write changes them.
use Rattle.std.specs.Prelude.{◌≡◌, ◌++◌, ◌+◌, ◌==◌, ◌&&◌, ℕ, Bool, List, Option, Some, None, Result, Ok, Err, length, nat_lt, take, if◌then◌else◌, ⊤}

pub record Account : Type 0 where
  -- the bytes that were taken
  pub taken : List ℕ
  -- how many writes failed
  pub failures : ℕ

-- more bytes were taken
abbrev pub taking : Account → List ℕ → Account
taking a bytes = record a { taken = a.taken ++ bytes }

abbrev pub failing : Account → Account
failing a = record a { failures = a.failures + 1 }

-- a write that takes no byte of a text with bytes counts as a failed write
abbrev pub takes_nothing : ℕ → List ℕ → Bool
takes_nothing n buf = (n == 0) && nat_lt 0 (length buf)

-- after a write of `buf`: either the result gives how many bytes of its front were taken, or the write failed and is
-- counted
abbrev pub after_write : {E : Type 0} → Result ℕ E → List ℕ → Account → Account
after_write (Ok n) buf a = if takes_nothing n buf then failing a else taking a (take n buf)
after_write (Err e) buf a = failing a

-- a change of the account, if the writer keeps one
abbrev pub where_reported : (Account → Account) → Option Account → Option Account
where_reported change None = None
where_reported change (Some a) = Some (change a)

-- no write has failed, or the writer keeps no account
abbrev pub NoneFailed : Option Account → Type 0
NoneFailed None = ⊤
NoneFailed (Some a) = a.failures ≡ 0
