-- Where a recovered key is on an authorized_keys line: outside quotes.
use Rattle.std.specs.Prelude.{◌≡◌, ◌≢◌, ℕ, Bool, true, false, not, ◌==◌, ◌&&◌, ◌||◌, ◌⊎◌, List, [], ◌∷◌, ◌++◌, Some}
use Rattle.ssh_text.specs.Text.{AreBlanks, is_blank}
use Rattle.ssh_keys.specs.PublicKey.{PublicKey}
use Rattle.ssh_findings.specs.HeldKey.{toggled}
use Rattle.ssh_findings.specs.OpenSshWords.{key_at}

-- whether a quote is open after a text
abbrev pub is_open : (quoted escaped : Bool) → List ℕ → Bool
is_open quoted escaped [] = quoted
is_open quoted escaped (c ∷ cs) = is_open (toggled quoted escaped c) (c == 92) cs

-- whether each blank is inside quotes
abbrev pub is_unbroken : (quoted escaped : Bool) → List ℕ → Bool
is_unbroken quoted escaped [] = true
is_unbroken quoted escaped (c ∷ cs) = (quoted || not (is_blank c)) && is_unbroken (toggled quoted escaped c) (c == 92) cs

-- options as sshd skips them: each quote is closed, and each blank is inside quotes (sshkey.c,
-- sshkey_advance_past_options)
pub record AreOptions (options : List ℕ) : Type 0 where
  pub closed : is_open false false options ≡ false
  pub unbroken : is_unbroken false false options ≡ true

-- The key is at the front of what follows the options and blanks, or at the front of the text. Every quote that is
-- opened before it is closed before it.
pub record StandsOutside (text : List ℕ) (key : PublicKey) : Type 0 where
  pub options : List ℕ
  pub gap : List ℕ
  pub rest : List ℕ
  pub cut : text ≡ options ++ (gap ++ rest)
  pub walked : AreOptions options
  pub blanks : AreBlanks gap
  pub apart : (options ≡ []) ⊎ (gap ≢ [])
  pub stands : key_at rest ≡ Some key
