-- The response to arguments, by the files of a source.
use Rattle.std.specs.Prelude.{◌≡◌, ◌⊎◌, ℕ, List, [], ◌∷◌, Option, Some, None}
use Rattle.clap.specs.Words.{Row}
use Rattle.ssh_files.specs.SourceState.{SourceState}
use Rattle.ssh_files.specs.Parts.{first_line, after_line}
use Rattle.ssh_files.specs.Words.{words_in}
use Rattle.ssh_files.specs.Loading.{NoReadFailed, LineReadFailed}
use Rattle.ssh_files.specs.declared.read.ReadError.{ReadError}
use Rattle.ssh_files.specs.declared.read.ReadError.TheVariants as fault
use Rattle.ssh_print.specs.Responses.{Response, out_of_memory, usage_response}
use Rattle.ssh_program.specs.declared.command.WordsError.{WordsError}
use Rattle.ssh_program.specs.declared.command.WordsError.TheVariants.{Usage, Memory}
use Rattle.ssh_program.specs.declared.subcommand.Subcommand.{Subcommand}
use Rattle.ssh_program.specs.declared.subcommand.Subcommand.TheVariants.{Show, Login, Host, Sshsig, Rewrite, Readable, Hash, Admits, Trusts, Review, Explain}
use Rattle.ssh_program.specs.CommandLine.{Request, request_of}
use Rattle.ssh_program.specs.Spelled.{RespondsToReview}
use Rattle.ssh_program.specs.Explanations.{RespondsToExplain}
use Rattle.ssh_program.specs.Hashings.{RespondsToHash}
use Rattle.ssh_program.specs.Hosts.{RespondsToHost}
use Rattle.ssh_program.specs.Keys.{RespondsToAdmits, RespondsToTrusts}
use Rattle.ssh_program.specs.Logins.{RespondsToLogin}
use Rattle.ssh_program.specs.Rewritings.{RespondsToReadable, RespondsToRewrite}
use Rattle.ssh_program.specs.Shows.{RespondsToShow}
use Rattle.ssh_program.specs.Sshsigs.{RespondsToSshsig}

-- ---- requests

-- The response is that of the subcommand to its options and no read failed; or a read failed, and the response is the
-- fault of that file. Files with the texts of an offer are read first, then the values of the options, then a vouch
-- file or the salts, then the other files.
abbrev pub RespondsIn : Subcommand → List Row → SourceState → Option SourceState → Response → Type 0
RespondsIn Show = RespondsToShow
RespondsIn Login = RespondsToLogin
RespondsIn Host = RespondsToHost
RespondsIn Sshsig = RespondsToSshsig
RespondsIn Rewrite = RespondsToRewrite
RespondsIn Readable = RespondsToReadable
RespondsIn Hash = RespondsToHash
RespondsIn Admits = RespondsToAdmits
RespondsIn Trusts = RespondsToTrusts
RespondsIn Review = RespondsToReview
RespondsIn Explain = RespondsToExplain

abbrev pub RespondsBy : Option Request → SourceState → Option SourceState → Response → Type 0
RespondsBy None s t r = NoReadFailed s t × (r ≡ usage_response)
RespondsBy (Some q) s t r = RespondsIn q.subcommand q.rows s t r

-- ---- arguments

-- if there are no arguments, they are those of the first line of standard input
abbrev pub request_words : List (List ℕ) → SourceState → List (List ℕ)
request_words [] s = words_in (first_line s)
request_words (w ∷ words) s = w ∷ words

abbrev pub source_of : List (List ℕ) → SourceState → SourceState
source_of [] s = after_line s
source_of (w ∷ words) s = s

-- the same of arguments, where the read of the first line of standard input may have failed
abbrev pub Responds : List (List ℕ) → SourceState → Option SourceState → Response → Type 0
Responds words s t r = RespondsBy (request_of (request_words words s)) (source_of words s) t r ⊎ (LineReadFailed s t × (words ≡ []) × (r ≡ usage_response))

-- the response is the defined one if no read failed, and a read's fault if one did, unless memory could not be
-- allocated
abbrev pub Answers : List (List ℕ) → SourceState → Option SourceState → Response → Type 0
Answers words s t r = Responds words s t r ⊎ (r ≡ out_of_memory)

-- ---- arguments that cannot be read

-- the fault where the first line of standard input gives no arguments
abbrev pub line_fault : ReadError → WordsError
line_fault fault.Memory = Memory
line_fault e = Usage

-- the response where the program's own arguments cannot be read
abbrev pub words_response : WordsError → Response
words_response Usage = usage_response
words_response Memory = out_of_memory
