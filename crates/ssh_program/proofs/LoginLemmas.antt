-- From the values of the options of `login` and the answer of the files, to the response.
use Rattle.ssh_program.proofs.Imports.{◌≡◌, ◌∙◌, ℕ, List, Option, Some, None, Result, Ok, Err, ap, refl, subst, ◌^◌, IfOk, standard, decoded_of, Row, TimeZone, EmptyPrincipals, Any, AuditError, Login, LoginClaim, login_claim, IfTells, SourceState, empty_principals_of, hex_bytes, number_below, short_bytes, short_hex, AuditFiles, Audits, decided_by, login_by, RespondsInZone, RespondsTo, audit_files, given, needed, or_fault, value, value_or, spelled_by, OptionTexts}
use Rattle.ssh_trust.specs.LoginDecision.{login_decision}
use Rattle.ssh_print.specs.Responses.{Response as Shown}
use Rattle.ssh_program.specs.declared.args.ArgName.TheVariants as option
use Rattle.ssh_program.specs.Logins.{login_spelled}
use Rattle.ssh_program.proofs.AnsweredLemmas.{spelled_so}

-- ---- values

-- the login of these values
pub login_is_spelled : (rows : List Row) (reported : Option TimeZone) (texts : OptionTexts) (offered signature session user : List ℕ) (now : ℕ) (zone : TimeZone) (empty : EmptyPrincipals) (bits : ℕ) (algorithm address : List ℕ)
    → spelled_by (decoded_of standard) texts.offer ≡ Ok offered
    → spelled_by hex_bytes texts.signature ≡ Ok signature
    → value short_hex option.Session rows ≡ Ok session
    → value short_bytes option.User rows ≡ Ok user
    → value (number_below (2 ^ 64)) option.Now rows ≡ Ok now
    → or_fault option.Zone reported ≡ Ok zone
    → value_or Any empty_principals_of option.EmptyPrincipals rows ≡ Ok empty
    → value_or 0 (number_below (2 ^ 32)) option.RsaMinimum rows ≡ Ok bits
    → needed option.Algorithm rows ≡ Ok algorithm
    → needed option.Address rows ≡ Ok address
    → login_spelled rows reported texts ≡ Ok (record {
      offered = offered;
      signature = signature;
      algorithm = algorithm;
      session = session;
      user = user;
      host = given option.Host rows;
      address = address;
      now = now;
      zone = zone;
      empty_principals = empty;
      rsa_minimum = bits;
    })
unfolding login_spelled
login_is_spelled rows reported texts offered signature session user now zone empty bits algorithm address a b c d e f g h i j = rw (a, b, c, d, e, f, g, h, i, j) refl

-- ---- answers

login-by : (rows : List Row) (reported : Option TimeZone) (texts : OptionTexts) (f : AuditFiles) (claimed : Result LoginClaim AuditError) (p q : Login) (s : SourceState) (t : Option SourceState) (r : Shown)
    → audit_files rows ≡ Ok f → login_spelled rows reported texts ≡ Ok q → claimed ≡ login_claim p → p ≡ q
    → Audits (decided_by login_decision claimed) f s t r → RespondsInZone rows reported texts s t r
login-by rows reported texts f claimed p q s t r files spelled read same h =
    spelled_so (λ names. RespondsTo (λ login. Audits (login_by login) names) (login_spelled rows reported texts)) (audit_files rows) f s t r files
    (spelled_so (λ login. Audits (login_by login) f) (login_spelled rows reported texts) q s t r spelled
    (subst (λ (x : Result LoginClaim AuditError). Audits (decided_by login_decision x) f s t r) (read ∙ ap login_claim same) h))

-- the response to the claim of the login of the options is the response to the options
pub login_responds : {R E : Type 0} (view : R → Shown) (rows : List Row) (reported : Option TimeZone) (texts : OptionTexts) (f : AuditFiles) (claimed : Result LoginClaim AuditError) (p q : Login) (o t : Option SourceState) (res : Result R E)
    → audit_files rows ≡ Ok f → login_spelled rows reported texts ≡ Ok q → claimed ≡ login_claim p → p ≡ q
    → IfTells o (λ s. IfOk res (λ r. Audits (decided_by login_decision claimed) f s t (view r)))
    → IfTells o (λ s. IfOk res (λ r. RespondsInZone rows reported texts s t (view r)))
login_responds view rows reported texts f claimed p q None t res files spelled read same h = tt
login_responds view rows reported texts f claimed p q (Some s) t (Err x) files spelled read same h = λ counts. tt
login_responds view rows reported texts f claimed p q (Some s) t (Ok r) files spelled read same h = λ counts. login-by rows reported texts f claimed p q s t (view r) files spelled read same (h counts)
