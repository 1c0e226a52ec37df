-- From the values of the options of `host` and the answer of the files, to the response.
use Rattle.ssh_program.proofs.Imports.{◌≡◌, ◌∙◌, ℕ, List, Option, Some, None, Result, Ok, Err, ap, refl, subst, ◌^◌, IfOk, standard, decoded_of, Row, EmptyPrincipals, Any, AuditError, HostCheck, HostClaim, host_claim, IfTells, SourceState, empty_principals_of, hex_bytes, number_below, AuditFiles, Audits, decided_by, host_by, RespondsToHostKey, RespondsTo, audit_files, needed, value, value_or, spelled_by, OptionTexts}
use Rattle.ssh_trust.specs.HostDecision.{host_decision}
use Rattle.ssh_print.specs.Responses.{Response as Shown}
use Rattle.ssh_program.specs.declared.args.ArgName.TheVariants as option
use Rattle.ssh_program.specs.Hosts.{host_spelled}
use Rattle.ssh_program.proofs.AnsweredLemmas.{spelled_so}

-- ---- values

-- the host's key of these values
pub host_is_spelled : (rows : List Row) (texts : OptionTexts) (offered signature exchange_hash : List ℕ) (port now : ℕ) (empty : EmptyPrincipals) (bits : ℕ) (host : List ℕ)
    → spelled_by (decoded_of standard) texts.offer ≡ Ok offered
    → spelled_by hex_bytes texts.signature ≡ Ok signature
    → value hex_bytes option.Hash rows ≡ Ok exchange_hash
    → value (number_below (2 ^ 16)) option.Port rows ≡ Ok port
    → value (number_below (2 ^ 64)) option.Now rows ≡ Ok now
    → value_or Any empty_principals_of option.EmptyPrincipals rows ≡ Ok empty
    → value_or 0 (number_below (2 ^ 32)) option.RsaMinimum rows ≡ Ok bits
    → needed option.Host rows ≡ Ok host
    → host_spelled rows texts ≡ Ok (record {
      offered = offered;
      signature = signature;
      exchange_hash = exchange_hash;
      host = host;
      port = port;
      now = now;
      empty_principals = empty;
      rsa_minimum = bits;
    })
unfolding host_spelled
host_is_spelled rows texts offered signature exchange_hash port now empty bits host a b c d e f g h = rw (a, b, c, d, e, f, g, h) refl

-- ---- answers

host-by : (rows : List Row) (texts : OptionTexts) (f : AuditFiles) (claimed : Result HostClaim AuditError) (p q : HostCheck) (s : SourceState) (t : Option SourceState) (r : Shown)
    → audit_files rows ≡ Ok f → host_spelled rows texts ≡ Ok q → claimed ≡ host_claim p → p ≡ q
    → Audits (decided_by host_decision claimed) f s t r → RespondsToHostKey rows texts s t r
host-by rows texts f claimed p q s t r files spelled read same h =
    spelled_so (λ names. RespondsTo (λ check. Audits (host_by check) names) (host_spelled rows texts)) (audit_files rows) f s t r files
    (spelled_so (λ check. Audits (host_by check) f) (host_spelled rows texts) q s t r spelled
    (subst (λ (x : Result HostClaim AuditError). Audits (decided_by host_decision x) f s t r) (read ∙ ap host_claim same) h))

-- the response to the claim of the host's key of the options is the response to the options
pub host_responds : {R E : Type 0} (view : R → Shown) (rows : List Row) (texts : OptionTexts) (f : AuditFiles) (claimed : Result HostClaim AuditError) (p q : HostCheck) (o t : Option SourceState) (res : Result R E)
    → audit_files rows ≡ Ok f → host_spelled rows texts ≡ Ok q → claimed ≡ host_claim p → p ≡ q
    → IfTells o (λ s. IfOk res (λ r. Audits (decided_by host_decision claimed) f s t (view r)))
    → IfTells o (λ s. IfOk res (λ r. RespondsToHostKey rows texts s t (view r)))
host_responds view rows texts f claimed p q None t res files spelled read same h = tt
host_responds view rows texts f claimed p q (Some s) t (Err x) files spelled read same h = λ counts. tt
host_responds view rows texts f claimed p q (Some s) t (Ok r) files spelled read same h = λ counts. host-by rows texts f claimed p q s t (view r) files spelled read same (h counts)
