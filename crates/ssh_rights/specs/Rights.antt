-- What an admitted login may do (sshd(8), AUTHORIZED_KEYS FILE FORMAT; PROTOCOL.certkeys).
use Rattle.std.specs.Prelude.{◌≡◌, ◌↔◌, ◌⊎◌, ℕ, Bool, true, false, ◌&&◌, ◌||◌, if◌then◌else◌, List, [], ◌∷◌, ◌++◌, Option, Some, None, unwrap_or}
use Rattle.std.specs.List.{AllByRecursion}
use Rattle.ssh_certs.specs.declared.options.CertificateOption.{CertificateOption}
use Rattle.ssh_certs.specs.declared.options.CertificateOption.TheVariants.{ForceCommand, PermitPortForwarding, PermitAgentForwarding, PermitX11Forwarding, PermitPty, PermitUserRc}
use Rattle.ssh_certs.specs.CertificateOptions.{forced_by_certificate, has_formed}
use Rattle.ssh_certs.specs.OptionFacts.{HasExtension, HasText}
use Rattle.ssh_entries.specs.AuthEntry.{AuthEntry}
use Rattle.ssh_options.specs.AuthOption.{AuthOption, Switch, Setting}
use Rattle.ssh_options.specs.declared.option.Flag.{Flag}
use Rattle.ssh_options.specs.declared.option.Flag.TheVariants as flag
use Rattle.ssh_options.specs.declared.option.ValueName.{ValueName}
use Rattle.ssh_options.specs.declared.option.ValueName.TheVariants as value
use Rattle.ssh_options.specs.OptionNames.{same_flag}
use Rattle.ssh_options.specs.Settings.{setting}
use Rattle.ssh_rights.specs.declared.rights.Carried.{Carried}
use Rattle.ssh_rights.specs.declared.rights.CarriedName.{CarriedName}
use Rattle.ssh_rights.specs.declared.rights.CarriedName.TheVariants.{Environment, PermitListen, PermitOpen, Tunnel}
use Rattle.ssh_rights.specs.declared.rights.Rights.{Rights}
use Rattle.ssh_rights.specs.declared.rights.Right.{Right}
use Rattle.ssh_rights.specs.declared.rights.Right.TheVariants.{Port, Agent, X11, Pty, UserRc}
use Rattle.ssh_offers.specs.Offer.{Offer, OfCertificate, plain, certified}

-- the flags of a line that turn a right on and off
abbrev pub turns_on : Right → Flag
turns_on Port = flag.PortForwarding
turns_on Agent = flag.AgentForwarding
turns_on X11 = flag.X11Forwarding
turns_on Pty = flag.Pty
turns_on UserRc = flag.UserRc

abbrev pub turns_off : Right → Flag
turns_off Port = flag.NoPortForwarding
turns_off Agent = flag.NoAgentForwarding
turns_off X11 = flag.NoX11Forwarding
turns_off Pty = flag.NoPty
turns_off UserRc = flag.NoUserRc

-- the extension of a certificate that gives a right
abbrev pub permit_of : Right → CertificateOption
permit_of Port = PermitPortForwarding
permit_of Agent = PermitAgentForwarding
permit_of X11 = PermitX11Forwarding
permit_of Pty = PermitPty
permit_of UserRc = PermitUserRc

-- whether an option turns a right on or off, if it does either: `restrict` turns off every right
abbrev pub effect_on : Right → AuthOption → Option Bool
effect_on x (Switch f) =
    if same_flag f (turns_on x) then Some true
    else if same_flag f (turns_off x) || same_flag f flag.Restrict then Some false
    else None
effect_on x (Setting name text) = None

-- A right is on if no option turns it on or off, or one turns it on and no later one turns it on or off.
abbrev pub IsOn : Right → List AuthOption → Type 0
IsOn x options =
    AllByRecursion (λ o. effect_on x o ≡ None) options
    ⊎ ((before : List AuthOption) × (o : AuthOption) × (after : List AuthOption)
    × (options ≡ before ++ o ∷ after) × (effect_on x o ≡ Some true) × AllByRecursion (λ o. effect_on x o ≡ None) after)

-- The login has the right: the line leaves it on, and a certificate, where one is offered, gives it too.
abbrev pub HasRight : Right → AuthEntry → Offer → Type 0
HasRight x e offer = IsOn x e.options × OfCertificate (HasExtension (permit_of x)) offer

-- the certificate that is offered forces the command
abbrev pub OfferForces : Offer → List ℕ → Type 0
OfferForces (plain key) command = ⊥
OfferForces (certified c) command = HasText ForceCommand c command

-- The line's command is forced, and where it has none that of the certificate.
abbrev pub IsForced : AuthEntry → Offer → List ℕ → Type 0
IsForced e offer command =
    (setting value.Command e.options ≡ Some command) ⊎ ((setting value.Command e.options ≡ None) × OfferForces offer command)

-- the options whose texts are passed on to whoever starts the session
abbrev pub carried_name : ValueName → Option CarriedName
carried_name value.Command = None
carried_name value.Environment = Some Environment
carried_name value.ExpiryTime = None
carried_name value.From = None
carried_name value.PermitListen = Some PermitListen
carried_name value.PermitOpen = Some PermitOpen
carried_name value.Principals = None
carried_name value.Tunnel = Some Tunnel

abbrev pub carried_by : Option CarriedName → List ℕ → List Carried
carried_by None text = []
carried_by (Some name) text = record { name = name; text = text } ∷ []

abbrev pub carried_of : AuthOption → List Carried
carried_of (Switch f) = []
carried_of (Setting name text) = carried_by (carried_name name) text

-- their texts, in the order of the line
abbrev pub carried_texts : List AuthOption → List Carried
carried_texts [] = []
carried_texts (o ∷ options) = carried_of o ++ carried_texts options

-- what a login by this line may do, as a relation
pub record AreRights (e : AuthEntry) (offer : Offer) (rights : Rights) : Type 0 where
  pub port : (rights.port ≡ true) ↔ HasRight Port e offer
  pub agent : (rights.agent ≡ true) ↔ HasRight Agent e offer
  pub x11 : (rights.x11 ≡ true) ↔ HasRight X11 e offer
  pub pty : (rights.pty ≡ true) ↔ HasRight Pty e offer
  pub user_rc : (rights.user_rc ≡ true) ↔ HasRight UserRc e offer
  pub command : (text : List ℕ) → (rights.command ≡ Some text) ↔ IsForced e offer text
  pub carried : rights.carried ≡ carried_texts e.options

-- ======== as functions

-- a right after these options, by the last that turns it on or off, and by its value before them
abbrev pub last_word : Right → Bool → List AuthOption → Bool
last_word x value [] = value
last_word x value (o ∷ options) = last_word x (unwrap_or (effect_on x o) value) options

abbrev pub is_on : Right → List AuthOption → Bool
is_on x options = last_word x true options

-- a certificate must give the right too
abbrev pub certificate_permits : Right → Offer → Bool
certificate_permits x (plain key) = true
certificate_permits x (certified c) = has_formed (permit_of x) c

abbrev pub has_right : Right → List AuthOption → Offer → Bool
has_right x options offer = is_on x options && certificate_permits x offer

-- the command that a certificate forces
abbrev pub forced_by_offer : Offer → Option (List ℕ)
forced_by_offer (plain key) = None
forced_by_offer (certified c) = forced_by_certificate c

-- the command of the line, otherwise that of a certificate
abbrev pub command_of : Option (List ℕ) → Offer → Option (List ℕ)
command_of (Some command) offer = Some command
command_of None offer = forced_by_offer offer

-- what a login by this line may do
unfoldable pub rights_of : AuthEntry → Offer → Rights
rights_of e offer = record {
  port = has_right Port e.options offer;
  agent = has_right Agent e.options offer;
  x11 = has_right X11 e.options offer;
  pty = has_right Pty e.options offer;
  user_rc = has_right UserRc e.options offer;
  command = command_of (setting value.Command e.options) offer;
  carried = carried_texts e.options;
}
