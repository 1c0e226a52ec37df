-- From the result of a reader over the chosen file to the decision of the file of that name.
use Rattle.ssh_program.proofs.Imports.{◌≡◌, ◌∙◌, ◌++◌, ◌<◌, ◌+◌, ℕ, Bool, true, false, List, [], length, Option, Some, None, Result, Ok, Err, refl, sym, ap, subst, inl, inr, arith, rules, ◌⊎◌, ◌↔◌, IfSome, IsSome, IsTrue, OnErr, OnOk, min, bytes_eq, min-eq_left, lt-ltb, ltb-true, append-nil, length-append, Chosen, ChoosesKnown, IfTells, SourceState, bytes_at, choosing, dash, left_of, left_with, most_failures, name_of, named_file, nothing, standard_input, NoReadFailed, OneReadFailed, GivesOrMemory, if_short, file_limit, AnswersReader, Decision, Signed, AuditError, Offer, Signature, WrongAlgorithm, WeakSignature, CertSignature, Address, FileTooLong, Memory, Read, Failed, Body, Salts, Deciding, DecidesReader, answer_by, refusal_of, FailsOn, ReadsOn, AnswersFile}
use Rattle.std.specs.Prelude.{nat_lt, option_map}
use Rattle.ssh_files.specs.declared.files.UnreadCause.{UnreadCause}

-- ---- whether a read failed

abbrev is_read : {A : Type 0} → Result A AuditError → Bool
is_read (Err Read) = true
is_read _ = false

read-is : {A : Type 0} (r : Result A AuditError) → is_read r ≡ true → r ≡ Err Read
read-is (Ok x) h = cc
read-is (Err (Offer x)) h = cc
read-is (Err (Signature x)) h = cc
read-is (Err WrongAlgorithm) h = cc
read-is (Err WeakSignature) h = cc
read-is (Err CertSignature) h = cc
read-is (Err Address) h = cc
read-is (Err FileTooLong) h = cc
read-is (Err Memory) h = cc
read-is (Err Read) h = refl
read-is (Err Failed) h = cc
read-is (Err (Body x)) h = cc
read-is (Err Salts) h = cc

not_read : {A : Type 0} (r : Result A AuditError) → is_read r ≡ false → r ≡ Err Read → ⊥
not_read r h e = cc

either-by : {A P : Type 0} (r : Result A AuditError) (b : Bool) → is_read r ≡ b → (r ≡ Err Read → P) → ((r ≡ Err Read → ⊥) → P) → P
either-by r true e failed other = failed (read-is r e)
either-by r false e failed other = other (not_read r e)

-- what holds whether or not a read failed
pub either_way : {A P : Type 0} (r : Result A AuditError) → (r ≡ Err Read → P) → ((r ≡ Err Read → ⊥) → P) → P
either_way r failed other = either-by r (is_read r) refl failed other

-- ---- what a reader gave

-- a file that begins with bytes that are too long is too long
short-by : (b : Bool) (given left : List ℕ) (x y : Decision) (e : AuditError) → nat_lt file_limit (length given) ≡ b
    → if_short given x ≡ Err e → if_short (given ++ left) y ≡ Err e
short-by true given left x y e long h =
    let limit : file_limit < length given = ltb-true file_limit (length given) long in
    let longer : file_limit < length (given ++ left) = rw (length-append given left) (omega (arith, limit)) in
    let fault : Err FileTooLong ≡ Err e = rw long at h in
    rw (lt-ltb file_limit (length (given ++ left)) longer) fault
short-by false given left x y e short h =
    let none : Ok x ≡ Err e = rw short at h in
    cc

short : (given left : List ℕ) (x y : Decision) (e : AuditError) → if_short given x ≡ Err e → if_short (given ++ left) y ≡ Err e
short given left x y e h = short-by (nat_lt file_limit (length given)) given left x y e refl h

-- the result is the answer, or memory could not be allocated
pub reported : {A : Type 0} (answer result : Result A AuditError) → GivesOrMemory answer result → (result ≡ Err Memory) ⊎ (result ≡ answer)
reported answer (Ok x) h = inr (sym h)
reported answer (Err (Offer x)) h = inr (sym h)
reported answer (Err (Signature x)) h = inr (sym h)
reported answer (Err WrongAlgorithm) h = inr (sym h)
reported answer (Err WeakSignature) h = inr (sym h)
reported answer (Err CertSignature) h = inr (sym h)
reported answer (Err Address) h = inr (sym h)
reported answer (Err FileTooLong) h = inr (sym h)
reported answer (Err Memory) h = inl refl
reported answer (Err Read) h = inr (sym h)
reported answer (Err Failed) h = inr (sym h)
reported answer (Err (Body x)) h = inr (sym h)
reported answer (Err Salts) h = inr (sym h)

whole : (decision : List ℕ → Decision) (given left : List ℕ) (result : Result Decision AuditError) → OnOk result (left ≡ []) → result ≡ if_short given (decision given)
    → result ≡ if_short (given ++ left) (decision (given ++ left))
whole decision given left (Ok x) end h = rw (end, append-nil given) h
whole decision given left (Err e) end h = sym (short given left (decision given) (decision (given ++ left)) e (sym h))

read_on : (decision : List ℕ → Decision) (bytes left : List ℕ) (result : Result Decision AuditError) → (result ≡ Err Read → ⊥)
    → AnswersReader (Some bytes) (Some left) (λ file. if_short file (decision file)) result
    → (result ≡ Err Memory) ⊎ (result ≡ if_short bytes (decision bytes))
read_on decision bytes left result other h = rw h.consumed (by (reported (if_short h.given (decision h.given)) result (h.answer other))) where
  by : (result ≡ Err Memory) ⊎ (result ≡ if_short h.given (decision h.given)) → (result ≡ Err Memory) ⊎ (result ≡ if_short (h.given ++ left) (decision (h.given ++ left)))
  by (inl e) = inl e
  by (inr e) = inr (whole decision h.given left result h.to_end e)

-- if no read failed, the result is the answer by the whole file, or memory could not be allocated
by_reads : (by : Deciding) (vouched : List Signed) (bytes left : List ℕ) (result : Result Decision AuditError) → (result ≡ Err Read → ⊥)
    → DecidesReader by vouched (Some bytes) (Some left) result → (result ≡ Err Memory) ⊎ (result ≡ answer_by by bytes vouched)
by_reads (Err e) vouched bytes left result other h = inr h
by_reads (Ok decision) vouched bytes left result other h = read_on (λ file. decision file vouched) bytes left result other h

-- ---- the chosen file

kept : (c : Chosen) (s : SourceState) (left : List ℕ) → (left_with c s left).failures ≡ s.failures
kept nothing s left = refl
kept standard_input s left = refl
kept (named_file name bytes) s left = refl

chose : (c : Chosen) (s : SourceState) (left : List ℕ) → (left_with c s left).choices ≡ s.choices
chose nothing s left = refl
chose standard_input s left = refl
chose (named_file name bytes) s left = refl

named : (c : Chosen) (s : SourceState) (left : List ℕ) → s.chosen ≡ c → name_of (left_with c s left).chosen ≡ name_of c
named nothing s left e = ap name_of e
named standard_input s left e = ap name_of e
named (named_file name bytes) s left e = refl

-- the file of this name was chosen, and is there with these bytes
pub record IsChosen (s : SourceState) (name bytes : List ℕ) : Type 0 where
  pub named : name_of (choosing s name).chosen ≡ Some name
  pub left : left_of (choosing s name) ≡ bytes

chosen-by : (b : Bool) (o : Result (List ℕ) UnreadCause) (s : SourceState) (name bytes : List ℕ) → bytes_eq name dash ≡ b → s.named name ≡ o → bytes_at s name ≡ Some bytes → IsChosen s name bytes
chosen-by true o s name bytes e n h =
    let same : Some s.input ≡ Some bytes = rw e at h in
    let dashed : name ≡ dash = search rules in
    record { named = rw e (ap (λ x. Some x) (sym dashed)); left = rw e cc }
chosen-by false (Err cause) s name bytes e n h =
    let none : None ≡ Some bytes = rw (e, n) at h in
    cc
chosen-by false (Ok b) s name bytes e n h =
    let same : Some b ≡ Some bytes = rw (e, n) at h in
    record { named = rw (e, n) refl; left = rw (e, n) cc }

chosen : (s : SourceState) (name bytes : List ℕ) → bytes_at s name ≡ Some bytes → IsChosen s name bytes
chosen s name bytes h = chosen-by (bytes_eq name dash) (s.named name) s name bytes refl refl h

-- after reads of it of which none failed
none-failed : (s t : SourceState) (name : List ℕ) → ReadsOn (Some (choosing s name)) (Some t) → t.failures ≡ s.failures
none-failed s t name h = ap (λ x. x.failures) h ∙ kept (choosing s name).chosen (choosing s name) (left_of t)

-- after reads of it of which the last failed
one-failed : (s t : SourceState) (name bytes : List ℕ) → s.failures < most_failures → bytes_at s name ≡ Some bytes → FailsOn (Some (choosing s name)) (Some t) → OneReadFailed s (Some t) name
one-failed s t name bytes counts there h =
    let c = choosing s name in
    let before : (left_with c.chosen c (left_of t)).failures ≡ s.failures = kept c.chosen c (left_of t) in
    let more : min (s.failures + 1) most_failures ≡ s.failures + 1 = min-eq_left (omega (arith, counts)) in (
      ap (λ x. x.failures) h ∙ (ap (λ n. min (n + 1) most_failures) before ∙ more),
      ap (λ x. x.failed) h ∙ (named c.chosen c (left_of t) refl ∙ (chosen s name bytes there).named),
      ap (λ x. x.choices) h ∙ chose c.chosen c (left_of t),
    )

-- where a read failed the offer is not refused, since nothing is read then
offered : (by : Deciding) (s t : SourceState) (name : List ℕ) → OnErr by (Some t ≡ Some (choosing s name)) → OneReadFailed s (Some t) name → refusal_of by ≡ None
offered (Ok decision) s t name unread failed = refl
offered (Err e) s t name unread failed =
    let kept : Some t ≡ Some (choosing s name) = unread in
    let same : t ≡ choosing s name = cc in
    let none : t.failures ≡ s.failures = ap (λ (x : SourceState). x.failures) same in
    let one : t.failures ≡ s.failures + 1 = failed.0 in
    absurd (omega (arith, none, one))

decided-by : (by : Deciding) (vouched : List Signed) (name bytes : List ℕ) (s t : SourceState) (result : Result Decision AuditError) → NoReadFailed s (Some t)
    → (result ≡ Err Memory) ⊎ (result ≡ answer_by by bytes vouched) → AnswersFile by vouched name (Some bytes) s (Some t) result
decided-by by vouched name bytes s t result none (inl e) = inl e
decided-by (Err x) vouched name bytes s t result none (inr e) = inr (inr (none, e))
decided-by (Ok decision) vouched name bytes s t result none (inr e) = inr (inr (none, e))

decided : (by : Deciding) (vouched : List Signed) (name bytes : List ℕ) (s : SourceState) (t : Option SourceState) (result : Result Decision AuditError) → s.failures < most_failures → bytes_at s name ≡ Some bytes
    → OnErr by (t ≡ Some (choosing s name)) → (result ≡ Err Read → FailsOn (Some (choosing s name)) t) → ((result ≡ Err Read → ⊥) → ReadsOn (Some (choosing s name)) t)
    → DecidesReader by vouched (Some (left_of (choosing s name))) (option_map left_of t) result
    → AnswersFile by vouched name (Some bytes) s t result
decided by vouched name bytes s None result counts there unread failed unfailed answer = absurd (either_way result failed unfailed)
decided by vouched name bytes s (Some t) result counts there unread failed unfailed answer =
    let is = chosen s name bytes there in
    let P : List ℕ → Type 0 = λ l. DecidesReader by vouched (Some l) (Some (left_of t)) result in
    either_way result (λ e.
    let one : OneReadFailed s (Some t) name = one-failed s t name bytes counts there (failed e) in
    inr (inl (offered by s t name unread one, one, e)))
    (λ other. decided-by by vouched name bytes s t result (none-failed s t name (unfailed other)) (by_reads by vouched bytes (left_of t) result other (subst P is.left answer)))

there-some : (o : Option (List ℕ)) → IsSome o → (x : List ℕ) × (o ≡ Some x)
there-some None h = cc
there-some (Some x) h = (x, refl)

-- the decision by what a reader over the chosen file gave
pub file_decided : (by : Deciding) (vouched : List Signed) (name : List ℕ) (o p q t : Option SourceState) (there : Bool) (result : Result Decision AuditError) → there ≡ true
    → IfSome o (λ s. IsTrue there ↔ IsSome (bytes_at s name)) → ChoosesKnown o p name → t ≡ q
    → OnErr by (q ≡ p) → (result ≡ Err Read → FailsOn p q) → ((result ≡ Err Read → ⊥) → ReadsOn p q) → DecidesReader by vouched (option_map left_of p) (option_map left_of q) result
    → IfTells o (λ s. AnswersFile by vouched name (bytes_at s name) s t result)
file_decided by vouched name None p q t there result found is chosen same unread failed unfailed answer = tt
file_decided by vouched name (Some s) p q t there result found is chosen same unread failed unfailed answer = λ counts.
    let some = there-some (bytes_at s name) (is.0 found) in
    let A : Option (List ℕ) → Type 0 = λ z. AnswersFile by vouched name z s t result in
    let N : Option SourceState → Option SourceState → Type 0 = λ x y. OnErr by (y ≡ x) in
    let F : Option SourceState → Option SourceState → Type 0 = λ x y. result ≡ Err Read → FailsOn x y in
    let U : Option SourceState → Option SourceState → Type 0 = λ x y. (result ≡ Err Read → ⊥) → ReadsOn x y in
    let R : Option SourceState → Option SourceState → Type 0 = λ x y. DecidesReader by vouched (option_map left_of x) (option_map left_of y) result in
    subst A (sym some.1) (decided by vouched name some.0 s t result counts some.1
    (subst (λ x. N x t) chosen (subst (N p) (sym same) unread))
    (subst (λ x. F x t) chosen (subst (F p) (sym same) failed))
    (subst (λ x. U x t) chosen (subst (U p) (sym same) unfailed))
    (subst (λ x. R x t) chosen (subst (R p) (sym same) answer)))

-- what follows where the offer is refused
pub where_refused : {A E P Q : Type 0} (r : Result A E) → (P → Q) → OnErr r P → OnErr r Q
where_refused (Ok x) f h = tt
where_refused (Err e) f h = f h
