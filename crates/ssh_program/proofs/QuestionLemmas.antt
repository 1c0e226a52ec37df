-- What was read of an offer: its claim, or its refusal, which is no failed read.
use Rattle.ssh_program.proofs.Imports.{◌≡◌, Result, Ok, Err, sym, inl, inr, AuditError, Read, HostCheck, Login}
use Rattle.std.specs.Prelude.{IfErr}
use Rattle.ssh_wire.specs.Reading.{Gives}
use Rattle.ssh_offers.specs.FirstRefusal.{IsHostRefusal, IsLoginRefusal}
use Rattle.ssh_trust.proofs.AnswerLemmas.{err-inj}
use Rattle.ssh_trust.proofs.RefusalLemmas.{refusal-reads-not}
use Rattle.ssh_program.specs.Audits.{claim_seen}

pub claim_read : {X C : Type 0} (view : X → C) (result : Result X AuditError) (claimed : Result C AuditError) → Gives view result claimed → claim_seen view result ≡ claimed
claim_read view (Ok x) claimed h = sym h
claim_read view (Err e) claimed h = sym h

pub login_unread : {X : Type 0} (q : Login) (result : Result X AuditError) → IfErr result (IsLoginRefusal q) → result ≡ Err Read → ⊥
login_unread q (Ok x) refused same = cc
login_unread {X = X} q (Err e) refused same = refusal-reads-not q e refused (err-inj {A = X} e Read same)

host-reads-not : (q : HostCheck) (e : AuditError) → IsHostRefusal q e → e ≡ Read → ⊥
host-reads-not q e (inl (fault, is, at)) read = cc
host-reads-not q e (inr (inl (what, fault, is, blob, at))) read = cc
host-reads-not q e (inr (inr (inl (what, signature, blobs, inl (weak, is))))) read = cc
host-reads-not q e (inr (inr (inl (what, signature, blobs, inr (none, is))))) read = cc
host-reads-not q e (inr (inr (inr (what, signature, fitted, unserved, is)))) read = cc

pub host_unread : {X : Type 0} (q : HostCheck) (result : Result X AuditError) → IfErr result (IsHostRefusal q) → result ≡ Err Read → ⊥
host_unread q (Ok x) refused same = cc
host_unread {X = X} q (Err e) refused same = host-reads-not q e refused (err-inj {A = X} e Read same)
