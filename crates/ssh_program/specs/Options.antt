-- The options and the subcommands of the command line (this project's rules).
use Rattle.std.specs.Prelude.{Bool, true, false, List, [], ◌∷◌, Option, Some, None, codes, find}
use Rattle.std.specs.Str.{bytes_eq}
use Rattle.clap.specs.Words.{Text}
use Rattle.ssh_program.specs.declared.args.Needed.{Needed}
use Rattle.ssh_program.specs.declared.args.Needed.TheVariants.{Required, Optional}
use Rattle.ssh_program.specs.declared.args.ArgName.{ArgName}
use Rattle.ssh_program.specs.declared.args.ArgName.TheVariants as option
use Rattle.ssh_program.specs.declared.subcommand.Subcommand.{Subcommand}
use Rattle.ssh_program.specs.declared.subcommand.Subcommand.TheVariants.{Show, Login, Host, Sshsig, Rewrite, Readable, Hash, Admits, Trusts, Review, Explain}

-- ---- options

abbrev pub option_word : ArgName → Text
option_word option.Kind = codes "kind"
option_word option.File = codes "file"
option_word option.Offer = codes "offer"
option_word option.OfferFile = codes "offer-file"
option_word option.Signature = codes "signature"
option_word option.SignatureFile = codes "signature-file"
option_word option.Algorithm = codes "algorithm"
option_word option.Session = codes "session"
option_word option.User = codes "user"
option_word option.Address = codes "address"
option_word option.Now = codes "now"
option_word option.Host = codes "host"
option_word option.Zone = codes "zone"
option_word option.Vouch = codes "vouch"
option_word option.EmptyPrincipals = codes "empty-principals"
option_word option.RsaMinimum = codes "rsa-minimum"
option_word option.Hash = codes "hash"
option_word option.Port = codes "port"
option_word option.Body = codes "body"
option_word option.Message = codes "message"
option_word option.Namespace = codes "namespace"
option_word option.Salts = codes "salts"
option_word option.Key = codes "key"
option_word option.Fingerprint = codes "fingerprint"
option_word option.Findings = codes "findings"
option_word option.FailOn = codes "fail-on"
option_word option.Show = codes "show"
option_word option.Form = codes "form"
option_word option.Title = codes "title"
option_word option.Labels = codes "labels"
option_word option.FilesFrom = codes "files-from"

abbrev pub is_required : Needed → Bool
is_required Required = true
is_required Optional = false

-- ---- subcommands

abbrev pub subcommands : List Subcommand
subcommands = Show ∷ Login ∷ Host ∷ Sshsig ∷ Rewrite ∷ Readable ∷ Hash ∷ Admits ∷ Trusts ∷ Review ∷ Explain ∷ []

abbrev pub subcommand_name : Subcommand → Text
subcommand_name Show = codes "show"
subcommand_name Login = codes "login"
subcommand_name Host = codes "host"
subcommand_name Sshsig = codes "sshsig"
subcommand_name Rewrite = codes "rewrite"
subcommand_name Readable = codes "readable"
subcommand_name Hash = codes "hash"
subcommand_name Admits = codes "admits"
subcommand_name Trusts = codes "trusts"
subcommand_name Review = codes "review"
subcommand_name Explain = codes "explain"

-- the subcommand of a name, if there is one
abbrev pub subcommand_named : Text → Option Subcommand
subcommand_named name = find (λ c. bytes_eq (subcommand_name c) name) subcommands

-- the subcommand that the first of these words names
abbrev pub subcommand_in : List Text → Option Subcommand
subcommand_in [] = None
subcommand_in (name ∷ words) = subcommand_named name

-- the options of a subcommand, and which of them have to be given
abbrev pub subcommand_options : Subcommand → List (ArgName × Needed)
subcommand_options Show = (option.Kind, Required) ∷ (option.File, Required) ∷ []
subcommand_options Login = (option.File, Required) ∷ (option.Offer, Optional) ∷ (option.OfferFile, Optional) ∷ (option.Signature, Optional)
    ∷ (option.SignatureFile, Optional) ∷ (option.Algorithm, Required) ∷ (option.Session, Required) ∷ (option.User, Required) ∷ (option.Address, Required) ∷ (option.Now, Required)
    ∷ (option.Host, Optional) ∷ (option.Zone, Optional) ∷ (option.Vouch, Optional)
    ∷ (option.EmptyPrincipals, Optional) ∷ (option.RsaMinimum, Optional) ∷ []
subcommand_options Host = (option.File, Required) ∷ (option.Offer, Optional) ∷ (option.OfferFile, Optional) ∷ (option.Signature, Optional)
    ∷ (option.SignatureFile, Optional) ∷ (option.Hash, Required)
    ∷ (option.Host, Required) ∷ (option.Port, Required) ∷ (option.Now, Required) ∷ (option.Vouch, Optional)
    ∷ (option.EmptyPrincipals, Optional) ∷ (option.RsaMinimum, Optional) ∷ []
subcommand_options Sshsig = (option.Body, Required) ∷ (option.Message, Required) ∷ (option.Namespace, Required) ∷ (option.Vouch, Optional) ∷ []
subcommand_options Rewrite = (option.Kind, Required) ∷ (option.File, Required) ∷ []
subcommand_options Readable = (option.File, Required) ∷ []
subcommand_options Hash = (option.File, Required) ∷ (option.Salts, Required) ∷ []
subcommand_options Admits = (option.Key, Optional) ∷ (option.Fingerprint, Optional) ∷ (option.User, Required) ∷ (option.Address, Required) ∷ (option.Now, Required)
    ∷ (option.Host, Optional) ∷ (option.Zone, Optional) ∷ (option.EmptyPrincipals, Optional) ∷ (option.RsaMinimum, Optional)
    ∷ (option.Form, Optional) ∷ []
subcommand_options Trusts = (option.Key, Required) ∷ (option.Host, Required) ∷ (option.Now, Required) ∷ (option.Port, Optional)
    ∷ (option.EmptyPrincipals, Optional) ∷ (option.RsaMinimum, Optional) ∷ (option.Form, Optional) ∷ []
subcommand_options Review = (option.Kind, Required) ∷ (option.Now, Required) ∷ (option.Key, Optional) ∷ (option.Zone, Optional) ∷ (option.RsaMinimum, Optional)
    ∷ (option.Findings, Optional) ∷ (option.FailOn, Optional) ∷ (option.Show, Optional) ∷ (option.Form, Optional) ∷ (option.Title, Optional) ∷ (option.Labels, Optional) ∷ []
subcommand_options Explain = []

-- The options of a subcommand as people are reported of them: those, and of `review` a list of names. That is read before the
-- words are: the question is asked with its names.
abbrev pub reported_options : Subcommand → List (ArgName × Needed)
reported_options Review = (option.Kind, Required) ∷ (option.Now, Required) ∷ (option.Key, Optional) ∷ (option.Zone, Optional) ∷ (option.RsaMinimum, Optional)
    ∷ (option.Findings, Optional) ∷ (option.FailOn, Optional) ∷ (option.Show, Optional) ∷ (option.Form, Optional) ∷ (option.Title, Optional) ∷ (option.Labels, Optional) ∷ (option.FilesFrom, Optional) ∷ []
reported_options c = subcommand_options c

-- whether a subcommand takes operands (files or codes), and whether at least one has to be given
abbrev pub subcommand_operands : Subcommand → Option Needed
subcommand_operands Admits = Some Required
subcommand_operands Trusts = Some Required
subcommand_operands Review = Some Required
subcommand_operands Explain = Some Optional
subcommand_operands c = None

-- the name of the operands
abbrev pub names_id : Text
names_id = codes "NAME"
