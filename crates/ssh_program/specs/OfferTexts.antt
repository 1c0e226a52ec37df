-- The texts of an offer and of its signature, from the command line or from files (this project's rule).
use Rattle.std.specs.Prelude.{◌≡◌, ◌⊎◌, ℕ, List, [], ◌∷◌, Option, Some, None, Result, Ok, Err}
use Rattle.ssh_wire.specs.Reading.{◌>>=◌}
use Rattle.ssh_entries.specs.KeyText.{base64_field, type_field}
use Rattle.ssh_files.specs.SourceState.{SourceState, bytes_at}
use Rattle.ssh_files.specs.Parts.{after_whole, top_line}
use Rattle.ssh_files.specs.Loading.{within_limit}
use Rattle.ssh_print.specs.Responses.{Response, no_file_response}
use Rattle.ssh_program.specs.Spelling.{RespondsTo}
use Rattle.ssh_program.specs.Texts.{OptionText, TextPlace, TextPlaces}
use Rattle.ssh_program.specs.Audits.{IsFileFault}

-- ---- the text on a line

abbrev pub or_first : List ℕ → List ℕ → List ℕ
or_first [] first = first
or_first (c ∷ cs) first = c ∷ cs

-- The second field of a line, since a public key's file has the base64 after the type (sshd(8)); or its only field.
abbrev pub text_on : List ℕ → List ℕ
text_on line = or_first (base64_field line) (type_field line)

-- ---- one text

-- the text on the first line of a file, or the fault of a file that cannot be read
abbrev pub text_in : OptionText → Option (List ℕ) → Result OptionText Response
text_in file None = Err (no_file_response file.text)
text_in file (Some bytes) = Ok (record { option = file.option; text = text_on (top_line bytes) })

-- the text at this place
abbrev pub text_at : TextPlace → SourceState → Result OptionText Response
text_at (TextPlace.in_word t) s = Ok t
text_at (TextPlace.in_file file) s = text_in file (within_limit (bytes_at s file.text))

-- the source after it was read
abbrev pub after_text : TextPlace → SourceState → SourceState
after_text (TextPlace.in_word t) s = s
after_text (TextPlace.in_file file) s = after_whole s file.text

-- the read of its file failed
abbrev pub IsTextReadFault : TextPlace → SourceState → Option SourceState → Response → Type 0
IsTextReadFault (TextPlace.in_word x) s t r = ⊥
IsTextReadFault (TextPlace.in_file file) s t r = IsFileFault file.text s t r

-- ---- both texts

pub record OptionTexts : Type 0 where
  pub offer : OptionText
  pub signature : OptionText

-- the offer's text is read first
abbrev pub texts_at : TextPlaces → SourceState → Result OptionTexts Response
texts_at places s = do
  offer ← text_at places.offer s
  signature ← text_at places.signature (after_text places.offer s)
  Ok (record { offer = offer; signature = signature })

abbrev pub after_texts : TextPlaces → SourceState → SourceState
after_texts places s = after_text places.signature (after_text places.offer s)

-- the read of the offer's file failed; or, after it gave a text, that of the signature's
abbrev pub IsTextsReadFault : TextPlaces → SourceState → Option SourceState → Response → Type 0
IsTextsReadFault places s t r = IsTextReadFault places.offer s t r
    ⊎ ((offer : OptionText) × (text_at places.offer s ≡ Ok offer) × IsTextReadFault places.signature (after_text places.offer s) t r)

-- the response with the texts at these places, from the source that is left; or the fault of a file of them
abbrev pub RespondsByTexts : (OptionTexts → SourceState → Option SourceState → Response → Type 0) → TextPlaces → SourceState → Option SourceState → Response → Type 0
RespondsByTexts responds places s t r = IsTextsReadFault places s t r ⊎ RespondsTo (λ texts s. responds texts (after_texts places s)) (texts_at places s) s t r
