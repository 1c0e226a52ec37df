-- The codes of findings, as they are printed and listed (this project's rule).
use Rattle.std.specs.Prelude.{ℕ, Bool, if◌then◌else◌, List, [], ◌∷◌, ◌++◌, codes, bytes_eq, find, Option, Some, option_and_then}
use denote.Enum.Bare.{sameb}
use denote.Enum.Declared.{tag_of}
use Rattle.ssh_patterns.specs.Lists.{pieces}
use Rattle.ssh_findings.specs.contracts.code.Code as code_type
use Rattle.ssh_findings.specs.declared.code.Code.{Code}
use Rattle.ssh_findings.specs.declared.code.Code.TheVariants as code

-- two codes are the same if they are the same variant
abbrev pub same_code : Code → Code → Bool
same_code = sameb code_type.the_type

-- the place of a code among all codes: 0 for F1
abbrev pub code_place : Code → ℕ
code_place c = tag_of code_type.the_type c

-- the printed code
abbrev pub code_text : Code → List ℕ
code_text code.Unreadable = codes "F1"
code_text code.SameKey = codes "F2"
code_text code.NeverDecides = codes "F3"
code_text code.GivesMore = codes "F4"
code_text code.ShortKey = codes "F5"
code_text code.Expired = codes "F6"
code_text code.PermitsNobody = codes "F7"
code_text code.ReadOtherwise = codes "F8"
code_text code.ForcedButForwards = codes "F9"
code_text code.UnreadableRevocation = codes "F10"
code_text code.OtherKey = codes "F11"
code_text code.TrustedAndRevoked = codes "F12"
code_text code.PatternHosts = codes "F13"
code_text code.EveryHost = codes "F14"
code_text code.AnyAddress = codes "F15"
code_text code.AnyCommand = codes "F16"
code_text code.NoExpiry = codes "F17"
code_text code.AnyPrincipal = codes "F18"
code_text code.NoComment = codes "F19"
code_text code.NamesInClear = codes "F20"
code_text code.SameHostKey = codes "F21"
code_text code.MayRefuse = codes "F22"

-- F1 to F14: wrong under any policy
abbrev pub first_codes : List Code
first_codes =
    code.Unreadable ∷ code.SameKey ∷ code.NeverDecides ∷ code.GivesMore ∷ code.ShortKey ∷ code.Expired ∷ code.PermitsNobody
    ∷ code.ReadOtherwise ∷ code.ForcedButForwards ∷ code.UnreadableRevocation ∷ code.OtherKey ∷ code.TrustedAndRevoked
    ∷ code.PatternHosts ∷ code.EveryHost ∷ []

-- F1 to F14 and F22
abbrev pub default_codes : List Code
default_codes = first_codes ++ code.MayRefuse ∷ []

-- all codes, in ascending order
abbrev pub all_codes : List Code
all_codes =
    first_codes
    ++ code.AnyAddress ∷ code.AnyCommand ∷ code.NoExpiry ∷ code.AnyPrincipal ∷ code.NoComment ∷ code.NamesInClear
    ∷ code.SameHostKey ∷ code.MayRefuse ∷ []

-- the first of some codes with this printed text
abbrev pub named_in : List Code → List ℕ → Option Code
named_in codes text = find (λ c. bytes_eq (code_text c) text) codes

unfoldable pub code_named : List ℕ → Option Code
code_named text = named_in all_codes text

-- these codes and those of the pieces, if each piece is a code
abbrev pub codes_from : List Code → List (List ℕ) → Option (List Code)
codes_from found [] = Some found
codes_from found (piece ∷ pieces) = option_and_then (λ c. codes_from (found ++ c ∷ []) pieces) (code_named piece)

-- the codes of a list separated by commas
abbrev pub listed_codes : List ℕ → Option (List Code)
listed_codes text = codes_from [] (pieces text)

-- `all`, `none`, or codes separated by commas, in any order and possibly repeated
unfoldable pub codes_in : List ℕ → Option (List Code)
codes_in text =
    if bytes_eq text (codes "all") then Some all_codes
    else if bytes_eq text (codes "none") then Some []
    else listed_codes text
