-- What is printed beside the answer of a known_hosts file: the lines by which ssh of OpenSSH 9.2 may decide
-- differently.
use Rattle.std.specs.Prelude.{ℕ, nat_lt, ◌==◌, Bool, true, false, if◌then◌else◌, List, [], ◌++◌, codes, length, take, Option, Some, None, Result, Ok, Err}
use Rattle.std.specs.Fmt.{decimal}
use Rattle.ssh_text.specs.Text.{lines_of, numbered}
use Rattle.ssh_keys.specs.PublicKey.{key_blob}
use Rattle.ssh_offers.specs.declared.claim.AuditError.{AuditError}
use Rattle.ssh_offers.specs.declared.claim.AuditError.TheVariants.{Memory}
use Rattle.ssh_offers.specs.Evidence.{host_evidence}
use Rattle.ssh_offers.specs.HostClaim.{HostClaim, host_claim}
use Rattle.ssh_offers.specs.Offer.{is_certified, plain_key, subject}
use Rattle.ssh_offers.specs.Query.{HostCheck}
use Rattle.ssh_trust.specs.declared.decision.Decision.{Decision}
use Rattle.ssh_trust.specs.declared.decision.Decision.TheVariants.{Granted, Denied}
use Rattle.ssh_trust.specs.Answer.{host_answer}
use Rattle.ssh_print.specs.declared.admission_text.Subject.TheVariants.{Host}
use Rattle.ssh_print.specs.declared.possible.WhyPossible.{WhyPossible}
use Rattle.ssh_print.specs.declared.possible.WhyPossible.TheVariants as why
use Rattle.ssh_print.specs.KnownPossible.{known_possible_lines}
use Rattle.ssh_print.specs.AnswerText.{indent}
use Rattle.ssh_print.specs.PassedOver.{claim_counted, claim_revoking, file_firm}
use Rattle.ssh_print.specs.Details.{host_details}
use Rattle.ssh_print.specs.OtherLines.{OtherLines, decides_line, nothing_other, other_both, possible_line, possible_text, reported_other}

-- ---- lines that cannot be read

-- of all lines of a file
unfoldable pub known_other : HostClaim → List ℕ → OtherLines
known_other claim file =
    let lines = take 101 (known_possible_lines (key_blob (subject claim.offer)) (numbered 1 (lines_of file))) in
    record { may_admit = nat_lt 0 (length lines); text = possible_text Host false lines }

-- ---- what ssh also looks for

-- the line that grants, if the answer is a grant
abbrev pub granting_line : Result Decision AuditError → Option ℕ
granting_line (Err e) = None
granting_line (Ok (Denied why reasons evidence)) = None
granting_line (Ok (Granted line rights reasons evidence)) = Some line

-- memory could not be allocated
abbrev pub is_out_of_memory : Result Decision AuditError → Bool
is_out_of_memory (Err Memory) = true
is_out_of_memory answer = false

-- the line by which the file trusts the key of this claim, if all evidence is vouched for
unfoldable pub trusting_line : HostClaim → List ℕ → Option ℕ
trusting_line claim file = granting_line (host_answer file claim (host_evidence claim))

abbrev pub trusted_at : WhyPossible → Option ℕ → OtherLines
trusted_at w None = nothing_other
trusted_at w (Some n) = record { may_admit = true; text = possible_line Host false (n, w) }

abbrev pub without_port : HostCheck → HostCheck
without_port q = record q { port = 22 }

-- the claim of the same key under the name without a port
abbrev pub claim_without_port : HostClaim → HostClaim
claim_without_port claim = record claim { query = without_port claim.query }

-- The name with a port was not found: ssh looks for the name alone (sshconnect.c, check_host_key).
abbrev pub port_by : Bool → HostClaim → List ℕ → OtherLines
port_by true claim file = nothing_other
port_by false claim file = trusted_at why.Port (trusting_line (claim_without_port claim) file)

unfoldable pub port_other : HostClaim → List ℕ → OtherLines
port_other claim file = port_by (claim.query.port == 22) claim file

-- The key is trusted, except for a revocation. ssh passes over a revocation that it cannot read, and counts one only
-- for the hosts that it names (hostfile.c, hostkeys_foreach_file).
unfoldable pub revoked_other : HostClaim → List ℕ → OtherLines
revoked_other claim file = trusted_at why.Revocation (trusting_line claim (claim_counted claim file))

-- the line that trusts the key except for a revocation, if no line trusts it as it is
abbrev pub revoked_beside : Option ℕ → HostClaim → List ℕ → OtherLines
revoked_beside (Some n) claim file = nothing_other
revoked_beside None claim file = revoked_other claim file

-- by the lines that cannot be read here, and by revocations that ssh may pass over
unfoldable pub claim_beside : Option ℕ → HostClaim → List ℕ → OtherLines
claim_beside line claim file = other_both (known_other claim file) (revoked_beside line claim file)

-- the line that trusts the key, and what is beside it; nothing of a key whose offer is refused
abbrev pub plain_claimed : Result HostClaim AuditError → List ℕ → OtherLines
plain_claimed (Err e) file = nothing_other
plain_claimed (Ok claim) file =
    let line = trusting_line claim file in
    other_both (trusted_at why.PlainKey line) (claim_beside line claim file)

unfoldable pub plain_trusted : HostCheck → List ℕ → OtherLines
plain_trusted q file = plain_claimed (host_claim q) file

abbrev pub plain_check : HostClaim → HostCheck
plain_check claim = record (claim.query) { offered = key_blob (plain_key claim.offer) }

-- without an authority for a certificate, ssh looks for the plain key in it (sshconnect.c, check_host_key)
abbrev pub plain_by : Bool → HostClaim → List ℕ → OtherLines
plain_by false claim file = nothing_other
plain_by true claim file = plain_trusted (plain_check claim) file

unfoldable pub plain_other : HostClaim → List ℕ → OtherLines
plain_other claim file = plain_by (is_certified claim.offer) claim file

-- ---- a line that trusts here, and by which ssh may not trust

unfoldable pub refused_words : List ℕ
refused_words = codes "ssh may refuse line "

unfoldable pub revoked_words : List ℕ
revoked_words = codes "ssh may take the key as revoked by line "

unfoldable pub no_other_words : List ℕ
no_other_words = codes "    no other line trusts it\n"

abbrev pub is_same_line : ℕ → Option ℕ → Bool
is_same_line n None = false
is_same_line n (Some m) = n == m

-- the line that decides in that case
abbrev pub host_then_line : Option ℕ → List ℕ
host_then_line None = no_other_words
host_then_line (Some n) = decides_line n

abbrev pub numbered_line : List ℕ → ℕ → List ℕ
numbered_line words n = indent ++ words ++ decimal n ++ codes "\n"

-- by the line that trusts, and the first of those that ssh has no known reason to pass over
abbrev pub refused_line_at : ℕ → Option ℕ → List ℕ
refused_line_at n firm = if is_same_line n firm then [] else numbered_line refused_words n ++ host_then_line firm

-- a line that ssh counts as a revocation of the key, although it revokes other bytes here
abbrev pub revoked_line_at : Option ℕ → List ℕ
revoked_line_at None = []
revoked_line_at (Some n) = numbered_line revoked_words n

-- beside a line that trusts
unfoldable pub granted_other : HostClaim → List ℕ → ℕ → OtherLines
granted_other claim file n = record {
  may_admit = false;
  text = refused_line_at n (trusting_line claim (file_firm file))
      ++ revoked_line_at (claim_revoking claim file);
}

-- ---- a host's key

-- what is printed beside a decision on a host's key by this file
unfoldable pub claim_other : HostClaim → List ℕ → Decision → OtherLines
claim_other claim file (Granted line rights reasons evidence) = granted_other claim file line
claim_other claim file (Denied why reasons evidence) =
    other_both (other_both (known_other claim file) (revoked_other claim file))
    (other_both (port_other claim file) (plain_other claim file))

-- after the details of the decision
abbrev pub other_host : HostClaim → List ℕ → Decision → OtherLines
other_host claim file decision = other_both (reported_other (host_details claim file decision)) (claim_other claim file decision)
