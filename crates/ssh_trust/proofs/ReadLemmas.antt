-- What a reader gave, read by read, and what is answered on it.
use Rattle.ssh_trust.proofs.Imports.{◌≡◌, ◌∙◌, ◌+◌, ◌<◌, ◌≤◌, ◌↔◌, ℕ, Bool, true, false, List, [], ◌++◌, length, nat_lt, Option, Some, None, Result, Ok, Err, inl, inr, refl, sym, ap, subst, arith, append-nil, append_assoc, IfOk, OnOk, Consumes, IsAtEnd, Keeps, cases_Bool, lt-ltb, ltb-false, ltb-true, length-append, AuditError, Signature, WrongAlgorithm, WeakSignature, CertSignature, FileTooLong, Memory, Read, Failed, Body, Salts, Decision, Pieces, Search, GivesOrMemory, if_short, file_limit, HasRead, HasTaken, AnswersReader, HoldsOfRead, IsFedBy, StopsBy, piece_size}
use Rattle.ssh_offers.specs.declared.claim.AuditError.TheVariants.{Offer, Address}
use Rattle.ssh_trust.proofs.AuditLemmas.{taken-more}
use Rattle.ssh_trust.proofs.AnswerLemmas.{err-inj}
use Rattle.ssh_trust.proofs.CandidateLemmas.{AreBytes}

-- ---- the bytes that are left

pub consumes-none : (left : Option (List ℕ)) → Consumes left left []
consumes-none None = tt
consumes-none (Some xs) = refl

consumes-more : (old now new : Option (List ℕ)) (xs ys : List ℕ) → Consumes old now xs → Consumes now new ys → Consumes old new (xs ++ ys)
consumes-more None now new xs ys h k = tt
consumes-more (Some was) None new xs ys h k = absurd h
consumes-more (Some was) (Some is) None xs ys h k = absurd k
consumes-more (Some was) (Some is) (Some are) xs ys h k = h ∙ ap (λ s. xs ++ s) k ∙ sym (append_assoc xs ys are)

consumes-kept : (old now new : Option (List ℕ)) (xs : List ℕ) → Consumes old now xs → Keeps now new → Consumes old new xs
consumes-kept None now new xs h k = tt
consumes-kept (Some was) None new xs h k = absurd h
consumes-kept (Some was) (Some is) None xs h k = absurd k
consumes-kept (Some was) (Some is) (Some are) xs h k = h ∙ ap (λ s. xs ++ s) (sym k)

-- ---- the loop

-- the audit represents the bytes before, and what the reader gave so far
pub record IsFeeding {T S : Type 0} (Found : List (ℕ × List ℕ) → Search T S → Type 0) (audit : Pieces T S) (bytes : List ℕ) (old now : Option (List ℕ)) : Type 0 where
  pub given : List ℕ
  pub consumed : Consumes old now given
  pub taken : HasTaken Found audit (bytes ++ given)

pub feeding-none : {T S : Type 0} (Found : List (ℕ × List ℕ) → Search T S → Type 0) (audit : Pieces T S) (bytes : List ℕ) (left : Option (List ℕ))
    → HasTaken Found audit bytes → IsFeeding Found audit bytes left left
feeding-none Found audit bytes left h = record {
  given = [];
  consumed = consumes-none left;
  taken = subst (λ s. HasTaken Found audit s) (sym (append-nil bytes)) h;
}

pub feeding-more : {T S : Type 0} (Found : List (ℕ × List ℕ) → Search T S → Type 0) (audit after : Pieces T S) (bytes piece : List ℕ) (old now new : Option (List ℕ))
    → IsFeeding Found audit bytes old now → Consumes now new piece
    → AreBytes piece → audit.scanner.used + length piece ≤ file_limit → after.failed ≡ false
    → ((used : List ℕ) → HasRead Found audit used → HasRead Found after (used ++ piece))
    → IsFeeding Found after bytes old new
feeding-more Found audit after bytes piece old now new h consumed are short sound read = record {
  given = h.given ++ piece;
  consumed = consumes-more old now new h.given piece h.consumed consumed;
  taken = subst (λ s. HasTaken Found after s) (append_assoc bytes h.given piece)
      (taken-more Found audit after (bytes ++ h.given) piece h.taken are short sound (read (bytes ++ h.given) h.taken.read));
}

-- the reader ended
pub fed-whole : {T S : Type 0} (Found : List (ℕ × List ℕ) → Search T S → Type 0) (audit : Pieces T S) (bytes : List ℕ) (old now new : Option (List ℕ))
    → IsFeeding Found audit bytes old now → Consumes now new [] → IsAtEnd new
    → IsFedBy (λ given. HasTaken Found audit (bytes ++ given)) old new (length bytes) (Ok tt)
fed-whole Found audit bytes old now new h consumed end =
    let short = h.taken.short in
    let long = length-append bytes h.given in
    record {
      given = h.given;
      consumed = subst (λ s. Consumes old new s) (append-nil h.given) (consumes-more old now new h.given [] h.consumed consumed);
      bounded = omega (arith, short, long);
      stops = (h.taken, end);
    }

-- the reader's end is no failed read
pub ends-read : ◌≡◌ {A = Result (Unit {0}) AuditError} (Ok tt) (Err Read) → ⊥
ends-read h = cc

-- a read failed
pub fed-unread : {T S : Type 0} (Found : List (ℕ × List ℕ) → Search T S → Type 0) (audit after : Pieces T S) (bytes : List ℕ) (old now new : Option (List ℕ))
    → IsFeeding Found audit bytes old now → Keeps now new
    → IsFedBy (λ given. HasTaken Found after (bytes ++ given)) old new (length bytes) (Err Read)
fed-unread Found audit after bytes old now new h kept =
    let short = h.taken.short in
    let long = length-append bytes h.given in
    record {
      given = h.given;
      consumed = consumes-kept old now new h.given h.consumed kept;
      bounded = omega (arith, short, long);
      stops = tt;
    }

-- why a piece was refused
pub data Refusal (failed : Bool) (size : ℕ) (e : AuditError) : Type 0 where
  again : failed ≡ true → e ≡ Failed → Refusal failed size e
  too-long : file_limit < size → e ≡ FileTooLong → Refusal failed size e
  no-memory : e ≡ Memory → Refusal failed size e

abbrev Refused : AuditError → Result (Unit {0}) AuditError
Refused e = Err e

pub refusal : (failed : Bool) (size : ℕ) (e : AuditError) → ((Refused e ≡ Refused Failed) ↔ (failed ≡ true))
    → (failed ≡ false → ((Refused e ≡ Refused FileTooLong) ↔ (file_limit < size)))
    → (failed ≡ false → size ≤ file_limit → Refused e ≡ Refused Memory) → Refusal failed size e
refusal true size e before long memory = again refl (err-inj e Failed (before.1 refl))
refusal false size e before long memory =
    elim (cases_Bool (nat_lt file_limit size)) [
      | inl t ↦ let more = ltb-true file_limit size t in too-long more (err-inj e FileTooLong ((long refl).1 more))
      | inr f ↦ no-memory (err-inj e Memory (memory refl (ltb-false file_limit size f)))
    ]

pub reads-not : (failed : Bool) (size : ℕ) (e : AuditError) → Refusal failed size e → e ≡ Read → ⊥
reads-not failed size e (again h is) r = let bad : Failed ≡ Read = sym is ∙ r in cc
reads-not failed size e (too-long h is) r = let bad : FileTooLong ≡ Read = sym is ∙ r in cc
reads-not failed size e (no-memory is) r = let bad : Memory ≡ Read = sym is ∙ r in cc

stops-by : (P : Type 0) (new : Option (List ℕ)) (size : ℕ) (e : AuditError) → Refusal false size e → StopsBy P new size (Err e)
stops-by P new size e (again h is) = let bad : false ≡ true = h in cc
stops-by P new size e (too-long h is) = rw is h
stops-by P new size e (no-memory is) = rw is tt

-- a piece was refused
pub fed-partly : {T S : Type 0} (Found : List (ℕ × List ℕ) → Search T S → Type 0) (audit after : Pieces T S) (bytes piece : List ℕ) (old now new : Option (List ℕ)) (e : AuditError)
    → IsFeeding Found audit bytes old now → Consumes now new piece → length piece ≤ piece_size
    → Refusal audit.failed (audit.scanner.used + length piece) e
    → IsFedBy (λ given. HasTaken Found after (bytes ++ given)) old new (length bytes) (Err e)
fed-partly Found audit after bytes piece old now new e h consumed few why =
    let short = h.taken.short in
    let long = length-append bytes h.given in
    let more = length-append h.given piece in
    let used = h.taken.read.scanned.used in
    let size : audit.scanner.used + length piece ≡ length bytes + length (h.given ++ piece) = omega (arith, long, more, used) in
    record {
      given = h.given ++ piece;
      consumed = consumes-more old now new h.given piece h.consumed consumed;
      bounded = omega (arith, short, long, more, few);
      stops = stops-by (HasTaken Found after (bytes ++ (h.given ++ piece))) new (length bytes + length (h.given ++ piece)) e (rw (h.taken.sound, size) at why);
    }

-- ---- the answer

stopped : (P : Type 0) (new : Option (List ℕ)) (given : List ℕ) (d : Decision) (e : AuditError) → StopsBy P new (0 + length given) (Err e)
    → (◌≡◌ {A = Result Decision AuditError} (Err e) (Err Read) → ⊥) → GivesOrMemory (if_short given d) (Err e)
stopped P new given d FileTooLong h n = rw (lt-ltb file_limit (length given) (omega (arith, h))) refl
stopped P new given d Memory h n = tt
stopped P new given d Read h n = absurd (n refl)
stopped P new given d (Offer x) h n = absurd h
stopped P new given d (Signature x) h n = absurd h
stopped P new given d WrongAlgorithm h n = absurd h
stopped P new given d WeakSignature h n = absurd h
stopped P new given d CertSignature h n = absurd h
stopped P new given d Address h n = absurd h
stopped P new given d Failed h n = absurd h
stopped P new given d (Body x) h n = absurd h
stopped P new given d Salts h n = absurd h

-- an audit that stopped before the reader's end
pub answers-stopped : (P : List ℕ → Type 0) (old new : Option (List ℕ)) (decision : List ℕ → Decision) (e : AuditError)
    → IsFedBy P old new 0 (Err e) → AnswersReader old new (λ file. if_short file (decision file)) (Err e)
answers-stopped P old new decision e h = record {
  given = h.given;
  consumed = h.consumed;
  bounded = omega (arith, h.bounded);
  to_end = tt;
  answer = stopped (P h.given) new h.given (decision h.given) e h.stops;
}

at-end : (new : Option (List ℕ)) (result : Result Decision AuditError) → IsAtEnd new → OnOk result (IsAtEnd new)
at-end new (Ok d) h = h
at-end new (Err e) h = tt

-- an audit that took all that the reader had
pub answers-whole : (P : List ℕ → Type 0) (old new : Option (List ℕ)) (of_file : List ℕ → Result Decision AuditError) (result : Result Decision AuditError)
    → (h : IsFedBy P old new 0 (Ok tt)) → ((file : List ℕ) → P file → GivesOrMemory (of_file file) result) → AnswersReader old new of_file result
answers-whole P old new of_file result h answer = record {
  given = h.given;
  consumed = h.consumed;
  bounded = omega (arith, h.bounded);
  to_end = at-end new result h.stops.1;
  answer = λ _. answer h.given h.stops.0;
}

-- what its decision means
pub means-whole : (P : List ℕ → Type 0) (old new : Option (List ℕ)) (Means : List ℕ → Decision → Type 0) (result : Result Decision AuditError)
    → IsFedBy P old new 0 (Ok tt) → ((file : List ℕ) → P file → IfOk result (Means file)) → IfOk result (λ d. HoldsOfRead old new (λ file. Means file d))
means-whole P old new Means (Ok d) h means = record {
  given = h.given;
  consumed = h.consumed;
  to_end = h.stops.1;
  holds = means h.given h.stops.0;
}
means-whole P old new Means (Err e) h means = tt

-- ---- where no audit was made, or no decision

-- no memory for an audit: nothing was read
pub answers-spared : (left : Option (List ℕ)) (of_file : List ℕ → Result Decision AuditError) → AnswersReader left left of_file (Err Memory)
answers-spared left of_file = record {
  given = [];
  consumed = consumes-none left;
  bounded = omega arith;
  to_end = tt;
  answer = λ _. tt;
}

-- a file's answer is no failed read
pub answers-not : (file : List ℕ) (d : Decision) → GivesOrMemory (if_short file d) (Err Read) → ⊥
answers-not file d h = elim (cases_Bool (nat_lt file_limit (length file))) [
  | inl t ↦ let bad : ◌≡◌ {A = Result Decision AuditError} (Err FileTooLong) (Err Read) = rw t at h in cc
  | inr f ↦ let bad : ◌≡◌ {A = Result Decision AuditError} (Ok d) (Err Read) = rw f at h in cc
]

-- what follows from what is true of the file that was read is true of it too
pub read-too : (old new : Option (List ℕ)) (P Q : List ℕ → Type 0) → ((file : List ℕ) → P file → Q file) → HoldsOfRead old new P → HoldsOfRead old new Q
read-too old new P Q f h = record {
  given = h.given;
  consumed = h.consumed;
  to_end = h.to_end;
  holds = f h.given h.holds;
}
