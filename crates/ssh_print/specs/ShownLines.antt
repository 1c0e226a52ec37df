-- What reading and printing a file gives, unless memory could not be allocated.
use Rattle.std.specs.Prelude.{◌≡◌, ⊤, ℕ, List, Result, Ok, Err}
use Rattle.ssh_print.specs.declared.showing.ShowKind.{ShowKind}
use Rattle.ssh_print.specs.declared.showing.ShowKind.TheVariants as shown
use Rattle.ssh_print.specs.declared.showing.ShowError.{ShowError}
use Rattle.ssh_print.specs.declared.showing.ShowError.TheVariants.{Line, Cert, Body, Memory}
use Rattle.ssh_entries.specs.KeyText.{comment_field}
use Rattle.ssh_print.specs.Showing.{cert_on, file_signature_in, key_on, public_half_in, shown_line}
use Rattle.ssh_print.specs.ShownBodies.{IsHalfText, IsSignatureText}
use Rattle.ssh_print.specs.ShownTexts.{IsCertText, IsShownKey}

-- a value was read, seen by `view`, or the first fault was found
abbrev pub Finds : {X A : Type 0} → (X → A) → Result A ShowError → Result X ShowError → Type 0
Finds view read (Ok x) = read ≡ Ok (view x)
Finds view read (Err (Line cause)) = read ≡ Err (Line cause)
Finds view read (Err (Cert e)) = read ≡ Err (Cert e)
Finds view read (Err (Body e)) = read ≡ Err (Body e)
Finds view read (Err Memory) = ⊤

-- the text of what was read
abbrev pub IsTextRead : {A : Type 0} → (A → List ℕ → Type 0) → Result A ShowError → List ℕ → Type 0
IsTextRead IsTextOf (Ok x) text = IsTextOf x text
IsTextRead IsTextOf (Err e) text = ⊥

-- the text of what was read, as `view` sees it, or the first fault was found
abbrev pub Prints : {X A : Type 0} → (X → List ℕ) → (A → List ℕ → Type 0) → Result A ShowError → Result X ShowError → Type 0
Prints view IsTextOf read (Ok x) = IsTextRead IsTextOf read (view x)
Prints view IsTextOf read (Err (Line cause)) = read ≡ Err (Line cause)
Prints view IsTextOf read (Err (Cert e)) = read ≡ Err (Cert e)
Prints view IsTextOf read (Err (Body e)) = read ≡ Err (Body e)
Prints view IsTextOf read (Err Memory) = ⊤

-- the same for a file that is shown as this kind
abbrev pub PrintsFile : {X : Type 0} → (X → List ℕ) → ShowKind → List ℕ → Result X ShowError → Type 0
PrintsFile view shown.Key file result = Prints view (λ key text. IsShownKey key (comment_field (shown_line file)) text) (key_on (shown_line file)) result
PrintsFile view shown.Cert file result = Prints view IsCertText (cert_on (shown_line file)) result
PrintsFile view shown.Private file result = Prints view IsHalfText (public_half_in file) result
PrintsFile view shown.Sshsig file result = Prints view IsSignatureText (file_signature_in file) result
