-- Worked decisions: the causes in their order, the reasons that are listed, and a file at the limit.
use Rattle.std.specs.Prelude.{◌≡◌, ℕ, Bool, true, false, List, [], ◌∷◌, ◌++◌, codes, replicate, length, Option, Some, None, slice_get, Ok, Err, refl}
use Rattle.ssh_offers.specs.declared.claim.AuditError.TheVariants.{FileTooLong}
use Rattle.ssh_offers.specs.declared.claim.Signed.{Signed}
use Rattle.ssh_rights.specs.declared.rights.Rights.{Rights}
use Rattle.ssh_rules.specs.declared.reason.Reason.TheVariants.{Expired, SourceRefused}
use Rattle.ssh_rules.specs.declared.admission.LineVerdict.{LineVerdict}
use Rattle.ssh_rules.specs.declared.admission.LineVerdict.TheVariants.{Admits, Skips}
use Rattle.ssh_trust.specs.declared.decision.Cause.TheVariants.{NoLine, NotVouched, Revoked, RevocationUnreadable, TouchMissing, VerifyMissing}
use Rattle.ssh_trust.specs.declared.decision.Decision.{Decision}
use Rattle.ssh_trust.specs.declared.decision.Decision.TheVariants.{Granted, Denied}
use Rattle.ssh_trust.specs.declared.host_scan.HostScan.{HostScan}
use Rattle.ssh_trust.specs.declared.login_scan.Candidate.{Candidate}
use Rattle.ssh_trust.specs.Answer.{if_short}
use Rattle.ssh_trust.specs.Candidate.{candidate_of, reasons_of}
use Rattle.ssh_trust.specs.LoginDecision.{decision_of}
use Rattle.ssh_trust.specs.HostDecision.{host_decision_of}

-- ---- the evidence of a certificate: the key's signature, and that of its signer

abbrev signed : List ℕ → List ℕ → List ℕ → Signed
signed key message signature = record { key = key; message = message; signature = signature }

abbrev by_key : Signed
by_key = signed (codes "key") (codes "login") (codes "sig")

abbrev by_signer : Signed
by_signer = signed (codes "ca") (codes "cert") (codes "sig")

abbrev both : List Signed
both = by_key ∷ by_signer ∷ []

-- The first of them, and one that equals the second but for its key. The next two differ from the second in the message
-- and in the signature.
abbrev but_key : List Signed
but_key = by_key ∷ signed (codes "cb") (codes "cert") (codes "sig") ∷ []

abbrev but_message : List Signed
but_message = by_key ∷ signed (codes "ca") (codes "cerT") (codes "sig") ∷ []

abbrev but_signature : List Signed
but_signature = by_key ∷ signed (codes "ca") (codes "cert") (codes "sig2") ∷ []

-- ---- logins

abbrev no_rights : Rights
no_rights = record { port = false; agent = false; x11 = false; pty = false; user_rc = false; command = None; carried = [] }

-- line 7 admits the login
abbrev seventh : Bool → Bool → Option Candidate
seventh touched verified = Some (record { line = 7; touched = touched; verified = verified; rights = no_rights })

-- N3 comes before all, N4 before N5, N5 before N6; N6 names the first signature that is not vouched for
abbrev pub LoginCausesInOrder : Type 0
LoginCausesInOrder =
    (decision_of both [] None [] ≡ Denied NoLine [] both)
    × (decision_of both both None [] ≡ Denied NoLine [] both)
    × (decision_of both [] (seventh false false) [] ≡ Denied TouchMissing [] both)
    × (decision_of both both (seventh false true) [] ≡ Denied TouchMissing [] both)
    × (decision_of both [] (seventh true false) [] ≡ Denied VerifyMissing [] both)
    × (decision_of both both (seventh true false) [] ≡ Denied VerifyMissing [] both)
    × (decision_of both [] (seventh true true) [] ≡ Denied (NotVouched 0) [] both)
    × (decision_of both (by_signer ∷ []) (seventh true true) [] ≡ Denied (NotVouched 0) [] both)
    × (decision_of both (by_key ∷ []) (seventh true true) [] ≡ Denied (NotVouched 1) [] both)
    × (decision_of both but_key (seventh true true) [] ≡ Denied (NotVouched 1) [] both)
    × (decision_of both but_message (seventh true true) [] ≡ Denied (NotVouched 1) [] both)
    × (decision_of both but_signature (seventh true true) [] ≡ Denied (NotVouched 1) [] both)
    × (decision_of both both (seventh true true) [] ≡ Granted 7 (Some no_rights) [] both)
    × (decision_of both (by_signer ∷ by_key ∷ []) (seventh true true) [] ≡ Granted 7 (Some no_rights) [] both)

pub login_causes_in_order : LoginCausesInOrder
login_causes_in_order = (refl, refl, refl, refl, refl, refl, refl, refl, refl, refl, refl, refl, refl, refl)

-- ---- hosts' keys

-- the numbers of the first line that admits, of the first that revokes, and of the first that may
abbrev state : Option ℕ → Option ℕ → Option ℕ → HostScan
state candidate revoked unreadable_revocation = record { admission = record { candidate = candidate; reasons = [] }; revoked = revoked; unreadable_revocation = unreadable_revocation }

-- N1 comes before N2, wherever their lines are, both before N3, and N3 before N6; a host gets no rights
abbrev pub HostCausesInOrder : Type 0
HostCausesInOrder =
    (host_decision_of (state (Some 2) (Some 5) (Some 3)) both both ≡ Denied (Revoked 5) [] both)
    × (host_decision_of (state None (Some 5) None) [] both ≡ Denied (Revoked 5) [] both)
    × (host_decision_of (state (Some 2) None (Some 3)) both both ≡ Denied (RevocationUnreadable 3) [] both)
    × (host_decision_of (state None None (Some 3)) [] both ≡ Denied (RevocationUnreadable 3) [] both)
    × (host_decision_of (state None None None) [] both ≡ Denied NoLine [] both)
    × (host_decision_of (state None None None) both both ≡ Denied NoLine [] both)
    × (host_decision_of (state (Some 2) None None) [] both ≡ Denied (NotVouched 0) [] both)
    × (host_decision_of (state (Some 2) None None) (by_key ∷ []) both ≡ Denied (NotVouched 1) [] both)
    × (host_decision_of (state (Some 2) None None) both both ≡ Granted 2 None [] both)

pub host_causes_in_order : HostCausesInOrder
host_causes_in_order = (refl, refl, refl, refl, refl, refl, refl, refl, refl)

-- ---- the verdicts of lines

-- the verdict of a line with another key, and that of one whose list of sources refuses the client
abbrev other : LineVerdict ℕ
other = Skips None

abbrev refused : LineVerdict ℕ
refused = Skips (Some SourceRefused)

-- the first line that admits, by its number from 1
abbrev pub FirstAdmitted : Type 0
FirstAdmitted = (candidate_of (other ∷ refused ∷ Admits 8 ∷ Admits 9 ∷ []) ≡ Some (3, 8))
    × (candidate_of {E = ℕ} (Admits 8 ∷ []) ≡ Some (1, 8))
    × (candidate_of (other ∷ refused ∷ []) ≡ None)
    × (candidate_of {E = ℕ} [] ≡ None)

pub first_admitted_found : FirstAdmitted
first_admitted_found = (refl, refl, refl, refl)

-- the reasons before the candidate, each with its line's number, and no more than 100
abbrev pub ReasonsListed : Type 0
ReasonsListed = (reasons_of (other ∷ refused ∷ Skips (Some Expired) ∷ Admits 8 ∷ refused ∷ []) ≡ (2, SourceRefused) ∷ (3, Expired) ∷ [])
    × (reasons_of (Admits 8 ∷ refused ∷ []) ≡ [])
    × (reasons_of (other ∷ other ∷ []) ≡ [])
    × (length (reasons_of (replicate 100 refused)) ≡ 100)
    × (length (reasons_of (replicate 101 refused)) ≡ 100)
    × (slice_get (reasons_of (replicate 101 refused)) 99 ≡ Some (100, SourceRefused))
    × (length (reasons_of (replicate 99 refused ++ Admits 8 ∷ refused ∷ [])) ≡ 99)

pub reasons_listed : ReasonsListed
reasons_listed = (refl, refl, refl, refl, refl, refl, refl)

-- ---- the limit of a file

-- a file of 64 MiB is decided, and one of a byte more is not
abbrev pub FileAtLimit : Type 0
FileAtLimit =
    ((file : List ℕ) (d : Decision) → length file ≡ 67108864 → if_short file d ≡ Ok d)
    × ((file : List ℕ) (d : Decision) → length file ≡ 67108865 → if_short file d ≡ Err FileTooLong)

pub file_at_limit : FileAtLimit
file_at_limit = (λ file d h. rw h refl, λ file d h. rw h refl)
