-- From the answers to a request to the answer of the program.
use Rattle.ssh_program.proofs.Imports.{◌≡◌, ◌∙◌, ◌<◌, ℕ, List, [], ◌∷◌, length, map, Option, Some, None, Ok, Err, refl, sym, ap, subst, inl, inr, arith, lt-leb, Row, Account, WritesResponse, Parses, WordsError, IfTells, SourceState, after_line, first_line, words_in, FailsLine, LoadsLine, ReadError, words_long, usage_response, show_kind, Subcommand, Show, Host, Rewrite, Readable, Hash, Admits, Trusts, Review, Explain, Request, request_of, AdmitsAt, AsksKey, Hashes, key_place, RespondsToHostKey, RespondsInZone, RespondsByTexts, text_places, Responds, RespondsBy, RespondsIn, RewritesFile, new_file, rewrite_kind, ShowsFile, Signs, RespondsTo, needed, sshsig_question, value, Alike, left-alike, none-failed, ReadableAuth}
use Rattle.ssh_files.specs.declared.read.ReadError.TheVariants as fault
use Rattle.ssh_print.specs.Responses.{Response as Shown, out_of_memory}
use Rattle.ssh_program.specs.declared.command.WordsError.TheVariants as refused
use Rattle.ssh_program.specs.Printing.{WritesAnswer}
use Rattle.ssh_program.specs.Requests.{line_fault, words_response}
use Rattle.ssh_program.specs.declared.args.ArgName.TheVariants as option
use Rattle.ssh_program.specs.declared.subcommand.Subcommand.TheVariants.{Login, Sshsig}
use Rattle.ssh_program.specs.Keys.{trusts_spelled}
use Rattle.ssh_program.proofs.TextLemmas.{host-same, login-same, texts-same}
use Rattle.ssh_program.proofs.AdmissionLemmas.{key-same}
use Rattle.ssh_program.proofs.ByFingerprintLemmas.{admits-same}
use Rattle.ssh_program.proofs.SpelledLemmas.{reviews_same}
use Rattle.ssh_program.proofs.StreamLemmas.{writes_as, writes_in}
use Rattle.ssh_program.proofs.AnsweredLemmas.{spelled_same}
use Rattle.ssh_program.proofs.CommandLineLemmas.{no_request}
use Rattle.ssh_program.proofs.HashingLemmas.{hashes-same}
use Rattle.ssh_program.proofs.RewritingLemmas.{rewrites-same}
use Rattle.ssh_program.proofs.ShowLemmas.{shows-same}
use Rattle.ssh_program.proofs.SshsigLemmas.{signs-same}

-- ---- sources that are alike have the same answers

subcommand-same : (c : Subcommand) (rows : List Row) (a b : SourceState) (u : Option SourceState) (r : Shown) → Alike a b → RespondsIn c rows a u r → RespondsIn c rows b u r
subcommand-same Show rows a b u r e h =
    spelled_same (λ kind. RespondsTo (ShowsFile kind) (needed option.File rows)) (value show_kind option.Kind rows) a b u r e
    (λ kind. spelled_same (ShowsFile kind) (needed option.File rows) a b u r e (λ name. shows-same kind name a b u r e)) h
subcommand-same Login rows a b u r e (zone, read, h) = (
  zone,
  read,
  spelled_same (RespondsByTexts (RespondsInZone rows zone)) (text_places rows) a b u r e
      (λ p. texts-same (RespondsInZone rows zone) (login-same rows zone) p a b u r e) h,
)
subcommand-same Host rows a b u r e h =
    spelled_same (RespondsByTexts (RespondsToHostKey rows)) (text_places rows) a b u r e
    (λ p. texts-same (RespondsToHostKey rows) (host-same rows) p a b u r e) h
subcommand-same Sshsig rows a b u r e h = spelled_same Signs (sshsig_question rows) a b u r e (λ q. signs-same q a b u r e) h
subcommand-same Rewrite rows a b u r e h =
    spelled_same (λ kind. RespondsTo (RewritesFile (new_file kind)) (needed option.File rows)) (value rewrite_kind option.Kind rows) a b u r e
    (λ kind. spelled_same (RewritesFile (new_file kind)) (needed option.File rows) a b u r e (λ name. rewrites-same (new_file kind) name a b u r e)) h
subcommand-same Readable rows a b u r e h =
    spelled_same (RewritesFile (new_file ReadableAuth)) (needed option.File rows) a b u r e (λ name. rewrites-same (new_file ReadableAuth) name a b u r e) h
subcommand-same Hash rows a b u r e h =
    spelled_same (λ trust. RespondsTo (Hashes trust) (needed option.Salts rows)) (needed option.File rows) a b u r e
    (λ trust. spelled_same (Hashes trust) (needed option.Salts rows) a b u r e (λ salts. hashes-same trust salts a b u r e)) h
subcommand-same Admits rows a b u r e (zone, read, h) =
    (zone, read, spelled_same (AdmitsAt rows zone) (key_place rows) a b u r e (λ place. admits-same rows zone place a b u r e) h)
subcommand-same Trusts rows a b u r e h =
    spelled_same (λ q. AsksKey q.asks q.key q.names) (trusts_spelled rows) a b u r e (λ q. key-same q.asks q.key q.names a b u r e) h
subcommand-same Review rows a b u r e h = reviews_same rows a b u r e h
subcommand-same Explain rows a b u r e h = (none-failed b a u e.failures h.0, h.1)

shifted : (q : Option Request) (a b : SourceState) (u : Option SourceState) (r : Shown) → Alike a b → RespondsBy q a u r → RespondsBy q b u r
shifted None a b u r e h = (none-failed b a u e.failures h.0, h.1)
shifted (Some q) a b u r e h = subcommand-same q.subcommand q.rows a b u r e h

-- ---- arguments

lined : {V : Type 0} (bytes : V → List ℕ) (s t : SourceState) (u : Option SourceState) (line : V) (r : Shown) → LoadsLine bytes s (Some t) (Ok line)
    → RespondsBy (request_of (words_in (bytes line))) t u r → Responds [] s u r
lined bytes s t u line r loads h =
    let P : List ℕ → Type 0 = λ l. RespondsBy (request_of (words_in l)) (after_line s) u r in
    inl (subst P (sym loads.0) (shifted (request_of (words_in (bytes line))) t (after_line s) u r (left-alike s (after_line s) t refl loads.1) h))

-- the arguments on the first line of standard input
pub line_responds : {V : Type 0} (bytes : V → List ℕ) (read : List ℕ) (o t u : Option SourceState) (line : V) (old new : Option Account) (status : ℕ) → read ≡ bytes line
    → IfTells o (λ s. LoadsLine bytes s t (Ok line))
    → IfTells t (λ s. WritesAnswer (RespondsBy (request_of (words_in read)) s u) old new status)
    → IfTells o (λ s. WritesAnswer (Responds [] s u) old new status)
line_responds bytes read None t u line old new status is loads h = tt
line_responds bytes read (Some s) None u line old new status is loads h = λ counts. absurd ((loads counts).1)
line_responds bytes read (Some s) (Some t) u line old new status is loads h = λ counts.
    let load = loads counts in
    let same : t.failures ≡ s.failures = load.1.2 in
    writes_as (RespondsBy (request_of (words_in (bytes line))) t u) (Responds [] s u) old new status (λ r. lined bytes s t u line r load) (rw is at (h (omega (arith, counts, same))))

unread : (s : SourceState) (u : Option SourceState) (e : ReadError) (old new : Option Account) (status : ℕ) → FailsLine s u e → WritesResponse old new (words_response (line_fault e)) status
    → WritesAnswer (Responds [] s u) old new status
unread s u fault.Missing old new status fails writes = absurd fails
unread s u fault.Failed old new status fails writes = (usage_response, inl (inr (fails, refl, refl)), writes)
unread s u fault.Memory old new status fails writes = (out_of_memory, inr refl, writes)
unread s u fault.TooLong old new status fails writes =
    let none : words_in (first_line s) ≡ [] = sym (words_long (first_line s) (lt-leb (length (first_line s)) 65536 fails.0)) in
    let nothing = subst (λ (q : Option Request). RespondsBy q (after_line s) u usage_response) (sym (ap request_of none ∙ no_request)) (none-failed (after_line s) s u refl fails.1, refl) in
    (usage_response, inl (inl nothing), writes)

-- a first line of standard input without arguments
pub unread_responds : (o u : Option SourceState) (e : ReadError) (old new : Option Account) (status : ℕ)
    → IfTells o (λ s. FailsLine s u e) → WritesResponse old new (words_response (line_fault e)) status → IfTells o (λ s. WritesAnswer (Responds [] s u) old new status)
unread_responds None u e old new status fails writes = tt
unread_responds (Some s) u e old new status fails writes = λ counts. unread s u e old new status (fails counts) writes

-- arguments that were given
pub words_respond : {W : Type 0} (text : W → List ℕ) (words : List W) (o u : Option SourceState) (old new : Option Account) (status : ℕ) → 0 < length words
    → IfTells o (λ s. WritesAnswer (RespondsBy (request_of (map text words)) s u) old new status)
    → IfTells o (λ s. WritesAnswer (Responds (map text words) s u) old new status)
words_respond text [] o u old new status some h = absurd (omega (arith, some))
words_respond text (w ∷ words) o u old new status some h =
    writes_in (λ s. RespondsBy (request_of (text w ∷ map text words)) s u) (λ s. Responds (text w ∷ map text words) s u) o old new status (λ s r responds. inl responds) h

-- what is answered to a request is answered to the arguments that give it
pub request_responds : (p q : Option Request) (o u : Option SourceState) (old new : Option Account) (status : ℕ) → p ≡ q
    → IfTells o (λ s. WritesAnswer (RespondsBy q s u) old new status)
    → IfTells o (λ s. WritesAnswer (RespondsBy p s u) old new status)
request_responds p q o u old new status e h =
    let P : Option Request → Type 0 = λ x. IfTells o (λ s. WritesAnswer (RespondsBy x s u) old new status) in
    subst P (sym e) h

-- arguments that ask for nothing are answered without a read, or memory could not be allocated for them
pub nothing_responds : (words : List (List ℕ)) (e : WordsError) (o : Option SourceState) (old new : Option Account) (status : ℕ) → Parses words (Err e)
    → WritesResponse old new (words_response e) status → IfTells o (λ s. WritesAnswer (RespondsBy (request_of words) s o) old new status)
nothing_responds words e None old new status none writes = tt
nothing_responds words refused.Memory (Some s) old new status none writes = λ counts. (out_of_memory, inr refl, writes)
nothing_responds words refused.Usage (Some s) old new status none writes = λ counts.
    (usage_response, inl (subst (λ (q : Option Request). RespondsBy q s (Some s) usage_response) (sym none) (refl, refl)), writes)

-- no arguments: those of the first line of standard input
pub no_words_respond : {W : Type 0} (text : W → List ℕ) (words : List W) (o u : Option SourceState) (old new : Option Account) (status : ℕ) → length words ≡ 0
    → IfTells o (λ s. WritesAnswer (Responds [] s u) old new status)
    → IfTells o (λ s. WritesAnswer (Responds (map text words) s u) old new status)
no_words_respond text [] o u old new status none h = h
no_words_respond text (w ∷ words) o u old new status none h = absurd (omega (arith, none))
