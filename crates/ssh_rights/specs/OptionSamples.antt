-- Worked options of certificates: which command they force, and which rights they give. The names are those of
-- PROTOCOL.certkeys.
use Rattle.std.specs.Prelude.{◌≡◌, ℕ, Bool, true, false, List, [], ◌∷◌, ◌++◌, map, codes, Option, Some, None}
use Rattle.ssh_certs.specs.declared.options.CertificateOption.TheVariants.{SourceAddress}
use Rattle.ssh_certs.specs.Certificate.{CertOption}
use Rattle.ssh_certs.specs.CertificateOptions.{forced_by_certificate, text_of_option}
use Rattle.ssh_options.specs.AuthOption.{AuthOption, Switch}
use Rattle.ssh_options.specs.declared.option.Flag.TheVariants as flag
use Rattle.ssh_offers.specs.Offer.{Offer}
use Rattle.ssh_rights.specs.declared.rights.Right.TheVariants.{Agent, Port, Pty, UserRc, X11}
use Rattle.ssh_rights.specs.Rights.{command_of, has_right}
use Rattle.ssh_rights.specs.Samples.{bare, certificate, certificate_with, option}

-- a string of up to 255 bytes
abbrev short : ℕ → List ℕ → List ℕ
short len text = 0 ∷ 0 ∷ 0 ∷ len ∷ text

-- the command that these critical options force
abbrev Forces : List CertOption → Option (List ℕ) → Type 0
Forces critical command = forced_by_certificate (certificate_with critical []) ≡ command

abbrev ls_forced : CertOption
ls_forced = option (codes "force-command") (short 2 (codes "ls"))

-- Only the critical option `force-command` forces a command, by data of its form; the first of two counts.
abbrev pub CommandsForced : Type 0
CommandsForced =
    Forces [] None
    × Forces (option (codes "force-command") (short 7 (codes "a \"b\" c")) ∷ []) (Some (codes "a \"b\" c"))
    × Forces (option (codes "verify-required") [] ∷ ls_forced ∷ []) (Some (codes "ls"))
    × Forces (ls_forced ∷ option (codes "force-command") (short 2 (codes "id")) ∷ []) (Some (codes "ls"))
    × Forces (option (codes "force-command") [] ∷ []) None
    × Forces (option (codes "force-command") (short 2 (codes "ls" ++ 0 ∷ [])) ∷ []) None
    × Forces (option (codes "force-command") (codes "ls") ∷ []) None
    × Forces (option (codes "Force-Command") (short 2 (codes "ls")) ∷ []) None
    × Forces (option (codes "source-address") (short 2 (codes "ls")) ∷ []) None
    × (forced_by_certificate (certificate_with [] (ls_forced ∷ [])) ≡ None)
    × (text_of_option SourceAddress (certificate_with (option (codes "source-address") (short 8 (codes "10.0.0.1")) ∷ []) []) ≡ Some (codes "10.0.0.1"))
    × (text_of_option SourceAddress (certificate_with (option (codes "source-address") (short 8 (codes "10.0.0.1" ++ 0 ∷ [])) ∷ []) []) ≡ None)

-- the line's command wins over the certificate's
abbrev pub CommandsChosen : Type 0
CommandsChosen =
    (command_of None bare ≡ None)
    × (command_of (Some (codes "id")) bare ≡ Some (codes "id"))
    × (command_of None (certificate (ls_forced ∷ []) []) ≡ Some (codes "ls"))
    × (command_of (Some (codes "id")) (certificate (ls_forced ∷ []) []) ≡ Some (codes "id"))

-- ---- rights

-- which of five rights a line and an offer leave: port and agent forwarding, X11, a terminal, ~/.ssh/rc
abbrev Leaves : List AuthOption → Offer → (port agent x11 pty rc : Bool) → Type 0
Leaves options offer port agent x11 pty rc =
    map (λ x. has_right x options offer) (Port ∷ Agent ∷ X11 ∷ Pty ∷ UserRc ∷ []) ≡ port ∷ agent ∷ x11 ∷ pty ∷ rc ∷ []

-- an extension without data
abbrev permit : List ℕ → CertOption
permit name = option name []

-- those that `ssh-keygen` gives a user's certificate
abbrev all_permits : List CertOption
all_permits = permit (codes "permit-X11-forwarding") ∷ permit (codes "permit-agent-forwarding") ∷ permit (codes "permit-port-forwarding")
    ∷ permit (codes "permit-pty") ∷ permit (codes "permit-user-rc") ∷ []

-- A plain key has every right, and a certificate those of its extensions: by exactly these names, without data, and not
-- by critical options.
abbrev pub CertificateRights : Type 0
CertificateRights =
    Leaves [] bare true true true true true
    × Leaves [] (certificate [] []) false false false false false
    × Leaves [] (certificate [] all_permits) true true true true true
    × Leaves [] (certificate [] (permit (codes "permit-port-forwarding") ∷ [])) true false false false false
    × Leaves [] (certificate [] (permit (codes "permit-agent-forwarding") ∷ [])) false true false false false
    × Leaves [] (certificate [] (permit (codes "permit-X11-forwarding") ∷ [])) false false true false false
    × Leaves [] (certificate [] (permit (codes "permit-pty") ∷ [])) false false false true false
    × Leaves [] (certificate [] (permit (codes "permit-user-rc") ∷ [])) false false false false true
    × Leaves [] (certificate [] (permit (codes "permit-x11-forwarding") ∷ permit (codes "permit-pty ") ∷ permit [] ∷ [])) false false false false false
    × Leaves [] (certificate [] (option (codes "permit-pty") (0 ∷ []) ∷ option (codes "permit-user-rc") (short 0 []) ∷ [])) false false false false false
    × Leaves [] (certificate all_permits []) false false false false false

-- The line takes rights away, by the last of its options that names one, and gives a certificate none.
abbrev pub LineRights : Type 0
LineRights =
    Leaves (Switch flag.Restrict ∷ []) bare false false false false false
    × Leaves (Switch flag.Restrict ∷ Switch flag.Pty ∷ []) bare false false false true false
    × Leaves (Switch flag.Pty ∷ Switch flag.Restrict ∷ []) bare false false false false false
    × Leaves (Switch flag.NoPortForwarding ∷ []) bare false true true true true
    × Leaves (Switch flag.NoAgentForwarding ∷ []) bare true false true true true
    × Leaves (Switch flag.NoX11Forwarding ∷ []) bare true true false true true
    × Leaves (Switch flag.NoPty ∷ []) bare true true true false true
    × Leaves (Switch flag.NoUserRc ∷ []) bare true true true true false
    × Leaves (Switch flag.NoPty ∷ Switch flag.Pty ∷ []) bare true true true true true
    × Leaves (Switch flag.Restrict ∷ Switch flag.PortForwarding ∷ Switch flag.AgentForwarding ∷ []) bare true true false false false
    × Leaves (Switch flag.Restrict ∷ Switch flag.X11Forwarding ∷ Switch flag.UserRc ∷ []) bare false false true false true
    × Leaves (Switch flag.Pty ∷ []) (certificate [] []) false false false false false
    × Leaves (Switch flag.Restrict ∷ Switch flag.Pty ∷ []) (certificate [] all_permits) false false false true false
