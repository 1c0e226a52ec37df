-- The refusal of an offer as the answer of a file.
use Rattle.ssh_program.proofs.Imports.{Err, refl, AuditError, Offer, Signature, WrongAlgorithm, WeakSignature, CertSignature, Address, FileTooLong, Memory, Read, Failed, Body, Salts, Decision, GivesOrMemory}

pub refusal_gives : (e : AuditError) → GivesOrMemory {A = Decision} (Err e) (Err e)
refusal_gives (Offer x) = refl
refusal_gives (Signature x) = refl
refusal_gives WrongAlgorithm = refl
refusal_gives WeakSignature = refl
refusal_gives CertSignature = refl
refusal_gives Address = refl
refusal_gives FileTooLong = refl
refusal_gives Memory = tt
refusal_gives Read = refl
refusal_gives Failed = refl
refusal_gives (Body x) = refl
refusal_gives Salts = refl
