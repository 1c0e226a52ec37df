-- Worked authorized_keys lines, as the definitions read them.
use Rattle.std.specs.Prelude.{◌≡◌, ℕ, List, [], ◌∷◌, ◌++◌, codes, refl, replicate}
use Rattle.base64.proofs.OnLiterals.{base64_on_literals}
use Rattle.ssh_wire.specs.declared.cursor.WireCause.TheVariants.{Short}
use Rattle.ssh_wire.specs.Reading.{string_at}
use Rattle.ssh_keys.specs.declared.key.KeyError.TheVariants.{Wire}
use Rattle.ssh_keys.specs.Names.{plain_kind, certificate_kind}
use Rattle.ssh_keys.specs.PublicKey.{PublicKey, ed25519}
use Rattle.ssh_keys.specs.KeyReading.{key_in, blob_at, fields_at, public_at}
use Rattle.ssh_options.specs.declared.option_text.LineCause.TheVariants as causes
use Rattle.ssh_options.specs.declared.option.Flag.TheVariants.{AgentForwarding, CertAuthority, NoAgentForwarding, NoPortForwarding, NoPty, NoUserRc, NoX11Forwarding, PortForwarding, Pty, NoTouchRequired, VerifyRequired, Restrict, UserRc, X11Forwarding}
use Rattle.ssh_options.specs.declared.option.ValueName.TheVariants.{Command, Environment, ExpiryTime, From, PermitListen, PermitOpen, Principals, Tunnel}
use Rattle.ssh_options.specs.AuthOption.{AuthOption, Switch, Setting}
use Rattle.ssh_entries.specs.declared.auth_line.AuthLine.{AuthLine}
use Rattle.ssh_entries.specs.declared.auth_line.AuthLine.TheVariants.{Blank, Comment, Entry, Unreadable}
use Rattle.ssh_options.specs.Expiry.{is_expiry_text}
use Rattle.ssh_options.specs.OptionNames.{option_row, row_named}
use Rattle.ssh_options.specs.OptionText.{options_of}
use Rattle.ssh_entries.specs.KeyPart.{key_part_of}
use Rattle.ssh_entries.specs.AuthGrammar.{auth_line}

-- an Ed25519 key of 32 zero bytes, in base64 and in a line
abbrev pub zero_key : PublicKey
zero_key = ed25519 (replicate 32 0)

abbrev pub zero_text : List ℕ
zero_text = codes "AAAAC3NzaC1lZDI1NTE5AAAAI" ++ replicate 43 65

abbrev pub zero_line : List ℕ
zero_line = codes "ssh-ed25519 " ++ zero_text

-- lines without a fault
abbrev pub EntrySamplesRead : Type 0
EntrySamplesRead =
    (auth_line (zero_line ++ codes " me") ≡ Entry (record { options = []; key = zero_key; comment = codes "me" }))
    × (auth_line (codes "PTY,command=\"a \\\"b\\\" c\" " ++ zero_line ++ codes " x y ") ≡ Entry (record { options = Switch Pty ∷ Setting Command (codes "a \"b\" c") ∷ []; key = zero_key; comment = codes "x y" }))
    × (auth_line (codes "expiry-time=\"20240229Z\" " ++ zero_line ++ 13 ∷ []) ≡ Entry (record { options = Setting ExpiryTime (codes "20240229Z") ∷ []; key = zero_key; comment = [] }))
    × (auth_line (32 ∷ 9 ∷ 13 ∷ []) ≡ Blank)
    × (auth_line (codes "  # a comment") ≡ Comment)

pub entry_samples_read : EntrySamplesRead
unfolding auth_line options_of option_row row_named key_part_of is_expiry_text key_in blob_at fields_at public_at string_at plain_kind certificate_kind base64_on_literals
entry_samples_read = (refl, refl, refl, refl, refl)

-- the entry of these options and the key
abbrev pub zero_with : List AuthOption → AuthLine
zero_with options = Entry (record { options = options; key = zero_key; comment = [] })

-- the lines of sshd(8)'s EXAMPLES, with this key in place of theirs
abbrev pub ExamplesRead : Type 0
ExamplesRead =
    (auth_line (codes "# Comments are allowed at start of line. Blank lines are allowed.") ≡ Comment)
    × (auth_line [] ≡ Blank)
    × (auth_line zero_line ≡ zero_with [])
    × (auth_line (codes "restrict,command=\"dump /home\" " ++ zero_line) ≡ zero_with (Switch Restrict ∷ Setting Command (codes "dump /home") ∷ []))
    × (auth_line (codes "permitopen=\"192.0.2.1:80\",permitopen=\"192.0.2.2:25\" " ++ zero_line) ≡ zero_with (Setting PermitOpen (codes "192.0.2.1:80") ∷ Setting PermitOpen (codes "192.0.2.2:25") ∷ []))
    × (auth_line (codes "permitlisten=\"localhost:8080\",permitlisten=\"[::1]:22000\" " ++ zero_line) ≡ zero_with (Setting PermitListen (codes "localhost:8080") ∷ Setting PermitListen (codes "[::1]:22000") ∷ []))
    × (auth_line (codes "tunnel=\"0\",command=\"sh /etc/netstart tun0\" " ++ zero_line) ≡ zero_with (Setting Tunnel (codes "0") ∷ Setting Command (codes "sh /etc/netstart tun0") ∷ []))
    × (auth_line (codes "restrict,pty,command=\"nethack\" " ++ zero_line) ≡ zero_with (Switch Restrict ∷ Switch Pty ∷ Setting Command (codes "nethack") ∷ []))
    × (auth_line (codes "no-touch-required " ++ zero_line) ≡ zero_with (Switch NoTouchRequired ∷ []))
    × (auth_line (codes "verify-required " ++ zero_line) ≡ zero_with (Switch VerifyRequired ∷ []))
    × (auth_line (codes "cert-authority,no-touch-required,principals=\"user_a\" " ++ zero_line) ≡ zero_with (Switch CertAuthority ∷ Switch NoTouchRequired ∷ Setting Principals (codes "user_a") ∷ []))

pub examples_read : ExamplesRead
unfolding auth_line options_of option_row row_named key_part_of is_expiry_text key_in blob_at fields_at public_at string_at plain_kind certificate_kind base64_on_literals
examples_read = (refl, refl, refl, refl, refl, refl, refl, refl, refl, refl, refl)

-- every option of sshd(8)'s list: those without a value, and those with one
abbrev pub EveryOptionRead : Type 0
EveryOptionRead =
    (auth_line (codes "agent-forwarding,cert-authority,no-agent-forwarding,no-port-forwarding,no-pty,no-user-rc,no-X11-forwarding " ++ zero_line)
    ≡ zero_with (Switch AgentForwarding ∷ Switch CertAuthority ∷ Switch NoAgentForwarding ∷ Switch NoPortForwarding ∷ Switch NoPty ∷ Switch NoUserRc ∷ Switch NoX11Forwarding ∷ []))
    × (auth_line (codes "port-forwarding,pty,no-touch-required,verify-required,restrict,user-rc,X11-forwarding " ++ zero_line)
    ≡ zero_with (Switch PortForwarding ∷ Switch Pty ∷ Switch NoTouchRequired ∷ Switch VerifyRequired ∷ Switch Restrict ∷ Switch UserRc ∷ Switch X11Forwarding ∷ []))
    × (auth_line (codes "command=\"echo \\\"a b\\\"\",environment=\"LANG=C\",expiry-time=\"20240229\",from=\"*.example.com,!bad\" " ++ zero_line)
    ≡ zero_with (Setting Command (codes "echo \"a b\"") ∷ Setting Environment (codes "LANG=C") ∷ Setting ExpiryTime (codes "20240229") ∷ Setting From (codes "*.example.com,!bad") ∷ []))
    × (auth_line (codes "permitlisten=\"8080\",permitopen=\"[2001:db8::1]:80\",principals=\"a,b\",tunnel=\"0\" " ++ zero_line)
    ≡ zero_with (Setting PermitListen (codes "8080") ∷ Setting PermitOpen (codes "[2001:db8::1]:80") ∷ Setting Principals (codes "a,b") ∷ Setting Tunnel (codes "0") ∷ []))

pub every_option_read : EveryOptionRead
unfolding auth_line options_of option_row row_named key_part_of is_expiry_text key_in blob_at fields_at public_at string_at plain_kind certificate_kind base64_on_literals
every_option_read = (refl, refl, refl, refl)

-- lines with a fault: in their options, in the order of the tests
abbrev pub OptionFaultsRead : Type 0
OptionFaultsRead =
    (auth_line (codes "pty,,restrict " ++ zero_line) ≡ Unreadable causes.OptionSyntax)
    × (auth_line (codes "pty, " ++ zero_line) ≡ Unreadable causes.OptionSyntax)
    × (auth_line (codes "command=\"a " ++ zero_line) ≡ Unreadable causes.OptionSyntax)
    × (auth_line (codes "command=\"a\\\" " ++ zero_line) ≡ Unreadable causes.OptionSyntax)
    × (auth_line (codes "nosuch,,pty " ++ zero_line) ≡ Unreadable causes.OptionSyntax)
    × (auth_line (codes "nosuch " ++ zero_line) ≡ Unreadable causes.UnknownOption)
    × (auth_line (codes "pty=\"x\" " ++ zero_line) ≡ Unreadable causes.OptionValue)
    × (auth_line (codes "command " ++ zero_line) ≡ Unreadable causes.OptionValue)
    × (auth_line (codes "nosuch,pty=\"x\" " ++ zero_line) ≡ Unreadable causes.UnknownOption)
    × (auth_line (codes "from=\"a\",from=\"a\" " ++ zero_line) ≡ Unreadable causes.RepeatedOption)
    × (auth_line (codes "expiry-time=\"2024022924\" " ++ zero_line) ≡ Unreadable causes.ExpiryText)
    × (auth_line (codes "expiry-time=\"202402292400Z\" " ++ zero_line) ≡ Unreadable causes.ExpiryText)
    × (auth_line (codes "expiry-time=\"20230229Z\" " ++ zero_line) ≡ Unreadable causes.ExpiryText)
    × (auth_line (codes "from=\"a\",from=\"b\",expiry-time=\"x\" " ++ zero_line) ≡ Unreadable causes.RepeatedOption)
    × (auth_line (codes "from=\"a\",expiry-time=\"x\",from=\"b\" " ++ zero_line) ≡ Unreadable causes.ExpiryText)
    × (auth_line (codes "nosuch") ≡ Unreadable causes.UnknownOption)

pub option_faults_read : OptionFaultsRead
unfolding auth_line options_of option_row row_named key_part_of is_expiry_text key_in blob_at fields_at public_at string_at plain_kind certificate_kind base64_on_literals
option_faults_read = (refl, refl, refl, refl, refl, refl, refl, refl, refl, refl, refl, refl, refl, refl, refl, refl)

-- lines with a fault in their key
abbrev pub KeyFaultsRead : Type 0
KeyFaultsRead =
    (auth_line (codes "ssh-ed25519") ≡ Unreadable causes.NoKey)
    × (auth_line (codes "pty") ≡ Unreadable causes.NoKey)
    × (auth_line (codes "ssh-dss") ≡ Unreadable causes.NoKey)
    × (auth_line (codes "pty frob") ≡ Unreadable causes.NoKey)
    × (auth_line (codes "pty frob " ++ zero_text) ≡ Unreadable causes.KeyType)
    × (auth_line (codes "ssh-dss *") ≡ Unreadable causes.RetiredType)
    × (auth_line (codes "ssh-ed25519-cert-v01@openssh.com *") ≡ Unreadable causes.CertificateOnLine)
    × (auth_line (zero_line ++ codes "*") ≡ Unreadable causes.Base64)
    × (auth_line (zero_line ++ 13 ∷ 13 ∷ []) ≡ Unreadable causes.Base64)
    × (auth_line (codes "ssh-ed25519 AAAA") ≡ Unreadable (causes.KeyBlob (Wire (record { place = 0; cause = Short }))))
    × (auth_line (codes "ssh-rsa AAAA") ≡ Unreadable (causes.KeyBlob (Wire (record { place = 0; cause = Short }))))
    × (auth_line (codes "ssh-rsa " ++ zero_text) ≡ Unreadable causes.TypeMismatch)

pub key_faults_read : KeyFaultsRead
unfolding auth_line options_of option_row row_named key_part_of is_expiry_text key_in blob_at fields_at public_at string_at plain_kind certificate_kind base64_on_literals
key_faults_read = (refl, refl, refl, refl, refl, refl, refl, refl, refl, refl, refl, refl)

-- a line of the greatest length, and one a byte longer
abbrev pub LongLinesRead : Type 0
LongLinesRead =
    (auth_line (zero_line ++ codes " " ++ replicate 65455 120) ≡ Entry (record { options = []; key = zero_key; comment = replicate 65455 120 }))
    × (auth_line (zero_line ++ codes " " ++ replicate 65456 120) ≡ Unreadable causes.TooLong)
    × (auth_line (codes "#" ++ replicate 65535 120) ≡ Comment)
    × (auth_line (codes "#" ++ replicate 65536 120) ≡ Unreadable causes.TooLong)

pub long_lines_read : LongLinesRead
unfolding auth_line options_of option_row row_named key_part_of is_expiry_text key_in blob_at fields_at public_at string_at plain_kind certificate_kind base64_on_literals
long_lines_read = (refl, refl, refl, refl)
