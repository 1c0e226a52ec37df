-- The models of the texts in memory, and the result of reading them.
use Rattle.std.specs.Prelude.{◌≡◌, ◌⊎◌, Option, Result, Ok, Err, ⊤}
use Rattle.ssh_files.specs.SourceState.{SourceState}
use Rattle.ssh_files.specs.Loading.{IsLeft, NoReadFailed}
use Rattle.ssh_print.specs.ResponseView.{response}
use Rattle.ssh_program.specs.Texts.{OptionText, TextPlace, TextPlaces}
use Rattle.ssh_program.specs.declared.texts.NoText.{NoText}
use Rattle.ssh_program.specs.declared.texts.NoText.TheVariants.{Reported, Memory}
use Rattle.ssh_program.specs.declared.texts.TakenText.{TakenText}
use Rattle.ssh_program.specs.declared.texts.TakenText.TheVariants.{Word, Line}
use Rattle.ssh_program.specs.declared.texts.TakenTexts.{TakenTexts}
use Rattle.ssh_program.specs.OfferTexts.{IsTextReadFault, IsTextsReadFault, OptionTexts, after_text, after_texts, text_at, text_on, texts_at}

abbrev pub taken_seen : TakenText → OptionText
taken_seen (Word option text) = record { option = option; text = text.now }
taken_seen (Line option line) = record { option = option; text = text_on line.items }

abbrev pub texts_seen : TakenTexts → OptionTexts
texts_seen t = record { offer = taken_seen t.offer; signature = taken_seen t.signature }

-- the result of reading a text: the text and the state of the source, or why there is none
abbrev pub TakesText : TextPlace → SourceState → Option SourceState → Result TakenText NoText → Type 0
TakesText place s t (Ok text) = (text_at place s ≡ Ok (taken_seen text)) × IsLeft s (after_text place s) t
TakesText place s t (Err (Reported r)) = IsTextReadFault place s t (response r) ⊎ ((text_at place s ≡ Err (response r)) × NoReadFailed s t)
TakesText place s t (Err Memory) = ⊤

-- the same of both texts
abbrev pub TakesTexts : TextPlaces → SourceState → Option SourceState → Result TakenTexts NoText → Type 0
TakesTexts places s t (Ok texts) = (texts_at places s ≡ Ok (texts_seen texts)) × IsLeft s (after_texts places s) t
TakesTexts places s t (Err (Reported r)) = IsTextsReadFault places s t (response r) ⊎ ((texts_at places s ≡ Err (response r)) × NoReadFailed s t)
TakesTexts places s t (Err Memory) = ⊤
