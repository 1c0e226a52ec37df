-- A printed signature as a line of a vouch file (this project's rule).
use Rattle.std.specs.Prelude.{◌++◌, ◌<◌, ℕ, List, codes}
use Rattle.std.specs.List.{AllByRecursion, flat_map}
use Rattle.ssh_offers.specs.declared.claim.Signed.{Signed}
use Rattle.ssh_print.specs.Texts.{hex_text, spaced}

-- the three fields of an evidence line, after its number
abbrev pub vouch_line : Signed → List ℕ
vouch_line s = hex_text s.key ++ spaced (hex_text s.message ++ spaced (hex_text s.signature))

-- a vouch file that lists all of these
abbrev pub vouch_file : List Signed → List ℕ
vouch_file evidence = flat_map (λ s. vouch_line s ++ codes "\n") evidence

-- its fields consist of bytes
pub record HasBytes (s : Signed) : Type 0 where
  pub key : AllByRecursion (λ c. c < 256) s.key
  pub message : AllByRecursion (λ c. c < 256) s.message
  pub signature : AllByRecursion (λ c. c < 256) s.signature
