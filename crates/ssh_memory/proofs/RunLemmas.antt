-- What a run means to a caller whose answer is in memory.
use Rattle.std.proofs.Common.{◌≡◌, ◌+◌, ℕ, List, [], Option, Some, None, refl, ap, inl, inr, arith, subst}
use Rattle.ssh_program.specs.Account.{Account}
use Rattle.ssh_program.specs.Printing.{WritesResponse}
use Rattle.ssh_files.specs.SourceState.{SourceState}
use Rattle.ssh_print.specs.Responses.{Response, out_of_memory}
use Rattle.ssh_memory.specs.MemoryRuns.{Gives, RunMeans}

-- the account of a writer in memory
abbrev pub account_of : List ℕ → ℕ → Option Account
account_of taken failures = Some (record { taken = taken; failures = failures })

taken_in : Option Account → List ℕ
taken_in None = []
taken_in (Some a) = a.taken

failed_in : Option Account → ℕ
failed_in None = 0
failed_in (Some a) = a.failures

-- where no write has failed, what was taken of the text of a response is all of it
written : (taken : List ℕ) (failures : ℕ) (r : Response) (status : ℕ)
    → failures ≡ 0 → WritesResponse (account_of [] 0) (account_of taken failures) r status → Gives taken status r
unfolding failed_in taken_in
written taken failures r status unfailed (inl (all, same)) = (ap taken_in all, same)
written taken failures r status unfailed (inr (breaks, same)) =
    let one : failures ≡ 0 + 1 = ap failed_in breaks.reported in absurd (omega (arith, unfailed, one))

-- the same of a writer to which nothing was written before
pub given_by_writer : (first : List ℕ) (before : ℕ) (taken : List ℕ) (failures : ℕ) (r : Response) (status : ℕ)
    → first ≡ [] → before ≡ 0 → failures ≡ 0 → WritesResponse (account_of first before) (account_of taken failures) r status → Gives taken status r
given_by_writer first before taken failures r status none unbroken unfailed writes =
    let begun : account_of first before ≡ account_of [] 0 = rw (none, unbroken) refl in
    written taken failures r status unfailed (subst (λ (old : Option Account). WritesResponse old (account_of taken failures) r status) begun writes)

-- the same run, of whose response more is known
pub run_given : (words : List (List ℕ)) (s : SourceState) (status : ℕ) (Seen Given : Response → Type 0)
    → ((r : Response) → Seen r → Given r) → RunMeans words s status Seen → RunMeans words s status Given
run_given words s status Seen Given turn m = record {
  answers = (m.answers.0, m.answers.1, turn m.answers.0 m.answers.2);
  login = λ rows places f asks ends. let at = m.login rows places f asks ends in (at.0, at.1, turn at.0 at.2);
  login_denied = λ rows places f asks ends. let at = m.login_denied rows places f asks ends in (at.0, at.1, turn at.0 at.2);
  host = λ rows places f asks ends. let at = m.host rows places f asks ends in (at.0, at.1, turn at.0 at.2);
  host_denied = λ rows places f asks ends. let at = m.host_denied rows places f asks ends in (at.0, at.1, turn at.0 at.2);
  signature = λ w asks ends. let at = m.signature w asks ends in (at.0, at.1, turn at.0 at.2);
  signature_denied = λ w asks ends. let at = m.signature_denied w asks ends in (at.0, at.1, turn at.0 at.2);
  admits = m.admits;
  admits_none = m.admits_none;
  admits_fingerprint = m.admits_fingerprint;
  admits_no_fingerprint = m.admits_no_fingerprint;
  trusts = m.trusts;
  trusts_none = m.trusts_none;
  rewrite = λ rows asks ends. let at = m.rewrite rows asks ends in (at.0, at.1, turn at.0 at.2);
  hash = λ rows asks ends. let at = m.hash rows asks ends in (at.0, at.1, turn at.0 at.2);
  review = λ rows names asks no_key lines shows ends. let at = m.review rows names asks no_key lines shows ends in (at.0, at.1, turn at.0 at.2);
  review_page = λ rows names asks page ends. let at = m.review_page rows names asks page ends in (at.0, at.1, turn at.0 at.2);
  review_key = λ rows names key asks for_key ends. let at = m.review_key rows names key asks for_key ends in (at.0, at.1, turn at.0 at.2);
  review_key_none = λ rows names key asks for_key ends. let at = m.review_key_none rows names key asks for_key ends in (at.0, at.1, turn at.0 at.2);
}

-- the answer where there is no memory
pub no_memory : (words : List (List ℕ)) (s : SourceState) → RunMeans words s 2 (Gives out_of_memory.text 2)
no_memory words s = record {
  answers = (out_of_memory, record { after = s; unfailed = refl; answers = inr refl }, (refl, refl));
  login = λ rows places f asks ends. absurd (omega (arith, ends));
  login_denied = λ rows places f asks ends. absurd (omega (arith, ends));
  host = λ rows places f asks ends. absurd (omega (arith, ends));
  host_denied = λ rows places f asks ends. absurd (omega (arith, ends));
  signature = λ w asks ends. absurd (omega (arith, ends));
  signature_denied = λ w asks ends. absurd (omega (arith, ends));
  admits = λ rows names asks ends. absurd (omega (arith, ends));
  admits_none = λ rows names asks ends. absurd (omega (arith, ends));
  admits_fingerprint = λ rows names asks ends. absurd (omega (arith, ends));
  admits_no_fingerprint = λ rows names asks ends. absurd (omega (arith, ends));
  trusts = λ rows names asks ends. absurd (omega (arith, ends));
  trusts_none = λ rows names asks ends. absurd (omega (arith, ends));
  rewrite = λ rows asks ends. absurd (omega (arith, ends));
  hash = λ rows asks ends. absurd (omega (arith, ends));
  review = λ rows names asks no_key lines shows ends. absurd (omega (arith, ends));
  review_page = λ rows names asks page ends. absurd (omega (arith, ends));
  review_key = λ rows names key asks for_key ends. absurd (omega (arith, ends));
  review_key_none = λ rows names key asks for_key ends. absurd (omega (arith, ends));
}
