-- The texts that are printed of a line are printable ASCII.
use Rattle.ssh_review.proofs.Imports.{◌≡◌, ℕ, ◌==◌, Bool, true, false, ◌&&◌, cond, List, [], ◌∷◌, ◌++◌, refl, arith, codes, flat_map, decimal, WireCause, KeyError, KeyKind, Rsa, P256, P384, P521, Ed25519, SkP256, SkEd25519, key_name_of, LineCause, Flag, AgentForwarding, CertAuthority, NoAgentForwarding, NoPortForwarding, NoPty, NoUserRc, NoX11Forwarding, PortForwarding, Pty, NoTouchRequired, VerifyRequired, Restrict, UserRc, X11Forwarding, ValueName, Command, Environment, ExpiryTime, From, PermitListen, PermitOpen, Principals, Tunnel, AuthOption, Switch, Setting, flag_name, value_name, Rights, after_comma, option_text, key_codes, wire_code, right_word, right_words, Code, Ground, ground_word, code_text, cause_detail, AreBytes, HaveByteValues, are_printable, is_printable, options_text, without_space}
use Rattle.ssh_wire.specs.declared.cursor.WireCause.TheVariants as wire
use Rattle.ssh_keys.specs.declared.key.KeyError.TheVariants as key
use Rattle.ssh_options.specs.declared.option_text.LineCause.TheVariants as cause
use Rattle.ssh_options.specs.OptionNames.{option_row}
use Rattle.ssh_options.specs.OptionText.{escaped as value_text}
use Rattle.ssh_findings.specs.declared.code.Code.TheVariants as code
use Rattle.ssh_findings.specs.declared.openssh.Ground.TheVariants as grounds
use Rattle.ssh_review.specs.RightsWords.{rights_words}
use Rattle.ssh_review.proofs.PrintableLemmas.{ArePrintable, bytes-append, bytes-from_printable, decimal-printable, join, word}

-- ---- names of types

pub kind-printable : (kind : KeyKind) → ArePrintable (key_name_of kind)
kind-printable Rsa = record { all = refl }
kind-printable P256 = record { all = refl }
kind-printable P384 = record { all = refl }
kind-printable P521 = record { all = refl }
kind-printable Ed25519 = record { all = refl }
kind-printable SkP256 = record { all = refl }
kind-printable SkEd25519 = record { all = refl }

-- ---- options

flag-printable : (flag : Flag) → ArePrintable (flag_name flag)
unfolding option_row
flag-printable AgentForwarding = record { all = refl }
flag-printable CertAuthority = record { all = refl }
flag-printable NoAgentForwarding = record { all = refl }
flag-printable NoPortForwarding = record { all = refl }
flag-printable NoPty = record { all = refl }
flag-printable NoUserRc = record { all = refl }
flag-printable NoX11Forwarding = record { all = refl }
flag-printable PortForwarding = record { all = refl }
flag-printable Pty = record { all = refl }
flag-printable NoTouchRequired = record { all = refl }
flag-printable VerifyRequired = record { all = refl }
flag-printable Restrict = record { all = refl }
flag-printable UserRc = record { all = refl }
flag-printable X11Forwarding = record { all = refl }

value-name-printable : (name : ValueName) → ArePrintable (value_name name)
unfolding option_row
value-name-printable Command = record { all = refl }
value-name-printable Environment = record { all = refl }
value-name-printable ExpiryTime = record { all = refl }
value-name-printable From = record { all = refl }
value-name-printable PermitListen = record { all = refl }
value-name-printable PermitOpen = record { all = refl }
value-name-printable Principals = record { all = refl }
value-name-printable Tunnel = record { all = refl }

value-bytes : (value : List ℕ) → AreBytes value → AreBytes (value_text value)
value-bytes [] h = tt
value-bytes (c ∷ cs) h = go (c == 34) (value-bytes cs h.1)
  where
    go : (b : Bool) → AreBytes (value_text cs) → AreBytes (cond b (92 ∷ 34 ∷ []) (c ∷ []) ++ value_text cs)
    go true more = (omega arith, (omega arith, more))
    go false more = (h.0, more)

option-bytes : (option : AuthOption) → HaveByteValues (option ∷ []) → AreBytes (option_text option)
option-bytes (Switch flag) h = bytes-append (flag_name flag) [] (bytes-from_printable (flag-printable flag)) tt
option-bytes (Setting name value) h =
    bytes-append (value_name name) (61 ∷ 34 ∷ value_text value ++ 34 ∷ []) (bytes-from_printable (value-name-printable name))
    (omega arith, (omega arith, bytes-append (value_text value) (34 ∷ []) (value-bytes value h.0) (omega arith, tt)))

others-bytes : (options : List AuthOption) → HaveByteValues options → AreBytes (flat_map after_comma options)
others-bytes [] h = tt
others-bytes (option ∷ options) h =
    bytes-append (after_comma option) (flat_map after_comma options) (omega arith, option-bytes option (h.0, tt)) (others-bytes options h.1)

pub options-bytes : (options : List AuthOption) → HaveByteValues options → AreBytes (options_text options)
options-bytes [] h = tt
options-bytes (option ∷ options) h =
    bytes-append (option_text option) (flat_map after_comma options) (option-bytes option (h.0, tt)) (others-bytes options h.1)

-- ---- rights

right-printable : (b : Bool) (said : List ℕ) → ArePrintable said → ArePrintable (right_word b said)
right-printable true said h = h
right-printable false said h = record { all = refl }

words-printable : (r : Rights) → ArePrintable (right_words r)
words-printable r =
    let port = right-printable r.port (codes " port") (word (codes " port") refl) in
    let agent = right-printable r.agent (codes " agent") (word (codes " agent") refl) in
    let x11 = right-printable r.x11 (codes " x11") (word (codes " x11") refl) in
    let pty = right-printable r.pty (codes " pty") (word (codes " pty") refl) in
    join (join (join (join port agent) x11) pty) (right-printable r.user_rc (codes " rc") (word (codes " rc") refl))

without-printable : (words : List ℕ) → are_printable words ≡ true → ArePrintable (without_space words)
without-printable [] h = record { all = refl }
without-printable (c ∷ cs) h = go (is_printable c) h
  where
    go : (p : Bool) → (p && are_printable cs) ≡ true → ArePrintable cs
    go true h = record { all = h }
    go false h = absurd (let no : false ≡ true = h in cc)

pub rights-printable : (r : Rights) → ArePrintable (rights_words r)
unfolding rights_words
rights-printable r = without-printable (right_words r) (words-printable r).all

-- ---- codes and details

place-printable : (n : ℕ) → ArePrintable (32 ∷ decimal n)
place-printable n = join (word (32 ∷ []) refl) (decimal-printable n)

wire-printable : (why : WireCause) → ArePrintable (wire_code why)
wire-printable wire.Short = record { all = refl }
wire-printable wire.MpintNotMinimal = record { all = refl }
wire-printable wire.MpintNegative = record { all = refl }
wire-printable wire.Trailing = record { all = refl }
wire-printable wire.Value = record { all = refl }

key-printable : (e : KeyError) → ArePrintable (key_codes e)
key-printable (key.Wire e) = join (word (codes " K1") refl) (join (wire-printable e.cause) (place-printable e.place))
key-printable key.UnknownType = record { all = refl }
key-printable key.RetiredType = record { all = refl }
key-printable key.IsCertificate = record { all = refl }
key-printable key.Curve = record { all = refl }
key-printable key.Point = record { all = refl }
key-printable key.Length = record { all = refl }
key-printable key.TooLong = record { all = refl }

pub cause-printable : (why : LineCause) → ArePrintable (cause_detail why)
cause-printable cause.TooLong = record { all = refl }
cause-printable cause.OptionSyntax = record { all = refl }
cause-printable cause.UnknownOption = record { all = refl }
cause-printable cause.OptionValue = record { all = refl }
cause-printable cause.RepeatedOption = record { all = refl }
cause-printable cause.ExpiryText = record { all = refl }
cause-printable cause.NoKey = record { all = refl }
cause-printable cause.KeyType = record { all = refl }
cause-printable cause.RetiredType = record { all = refl }
cause-printable cause.Base64 = record { all = refl }
cause-printable (cause.KeyBlob e) = join (word (codes "L11") refl) (key-printable e)
cause-printable cause.TypeMismatch = record { all = refl }
cause-printable cause.CertificateOnLine = record { all = refl }
cause-printable cause.Marker = record { all = refl }
cause-printable cause.HashedName = record { all = refl }
cause-printable cause.Names = record { all = refl }

pub ground-printable : (g : Ground) → ArePrintable (ground_word g)
ground-printable grounds.PermitOpen = record { all = refl }
ground-printable grounds.PermitListen = record { all = refl }
ground-printable grounds.Environment = record { all = refl }
ground-printable grounds.Tunnel = record { all = refl }
ground-printable grounds.Nul = record { all = refl }
ground-printable grounds.LongItem = record { all = refl }
ground-printable grounds.Rsa = record { all = refl }

pub code-printable : (c : Code) → ArePrintable (code_text c)
code-printable code.Unreadable = record { all = refl }
code-printable code.SameKey = record { all = refl }
code-printable code.NeverDecides = record { all = refl }
code-printable code.GivesMore = record { all = refl }
code-printable code.ShortKey = record { all = refl }
code-printable code.Expired = record { all = refl }
code-printable code.PermitsNobody = record { all = refl }
code-printable code.ReadOtherwise = record { all = refl }
code-printable code.ForcedButForwards = record { all = refl }
code-printable code.UnreadableRevocation = record { all = refl }
code-printable code.OtherKey = record { all = refl }
code-printable code.TrustedAndRevoked = record { all = refl }
code-printable code.PatternHosts = record { all = refl }
code-printable code.EveryHost = record { all = refl }
code-printable code.AnyAddress = record { all = refl }
code-printable code.AnyCommand = record { all = refl }
code-printable code.NoExpiry = record { all = refl }
code-printable code.AnyPrincipal = record { all = refl }
code-printable code.NoComment = record { all = refl }
code-printable code.NamesInClear = record { all = refl }
code-printable code.SameHostKey = record { all = refl }
code-printable code.MayRefuse = record { all = refl }
