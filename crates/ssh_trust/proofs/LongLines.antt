-- Lines that are longer than a line may be.
use Rattle.ssh_trust.proofs.Imports.{◌≡◌, ◌<◌, ℕ, List, length, refl, subst, lt-ltb, Unreadable, RevokedUnreadable, HostClaim, LoginClaim, AdmitsNothing, login_verdict, host_verdict, line_limit, host_line_verdict, line_verdict}
use Rattle.ssh_options.specs.declared.option_text.LineCause.TheVariants as causes
use Rattle.ssh_entries.specs.AuthGrammar.{auth_line}
use Rattle.ssh_entries.specs.KnownGrammar.{known_line}

pub long_auth : (line : List ℕ) → line_limit < length line → Unreadable causes.TooLong ≡ auth_line line
unfolding auth_line
long_auth line long = rw (lt-ltb line_limit (length line) long) refl

pub long_known : (line : List ℕ) → line_limit < length line → RevokedUnreadable ≡ known_line line
unfolding known_line
long_known line long = rw (lt-ltb line_limit (length line) long) refl

-- ---- such a line does not admit

pub long_auth_admits_nothing : (claim : LoginClaim) (line : List ℕ) → line_limit < length line → AdmitsNothing (line_verdict claim line)
long_auth_admits_nothing claim line long = subst (λ state. AdmitsNothing (login_verdict claim state)) (long_auth line long) tt

pub long_known_admits_nothing : (claim : HostClaim) (line : List ℕ) → line_limit < length line → AdmitsNothing (host_line_verdict claim line)
long_known_admits_nothing claim line long = subst (λ state. AdmitsNothing (host_verdict claim state)) (long_known line long) tt
