-- What `--help` prints on standard error (this project's rule): the commands with a sentence each, and the options of a
-- command.
use Rattle.std.specs.Prelude.{◌++◌, ◌==◌, Bool, true, false, List, [], Option, Some, None, codes, length, if◌then◌else◌}
use Rattle.std.specs.List.{flat_map}
use Rattle.clap.specs.Words.{Text}
use Rattle.ssh_program.specs.declared.args.Needed.{Needed}
use Rattle.ssh_program.specs.declared.args.Needed.TheVariants.{Required, Optional}
use Rattle.ssh_program.specs.declared.args.ArgName.{ArgName}
use Rattle.ssh_program.specs.declared.args.ArgName.TheVariants as option
use Rattle.ssh_program.specs.declared.subcommand.Subcommand.{Subcommand}
use Rattle.ssh_program.specs.declared.subcommand.Subcommand.TheVariants.{Show, Login, Host, Sshsig, Rewrite, Readable, Hash, Admits, Trusts, Review, Explain}
use Rattle.ssh_program.specs.Options.{option_word, reported_options, subcommand_name}

-- ---- the sentences

-- what a command does
abbrev pub command_sentence : Subcommand → Text
command_sentence Show = codes "print one public key, certificate, private key or file signature, field by field"
command_sentence Login = codes "decide on a login with its signature, by an authorized_keys file"
command_sentence Host = codes "decide on a host's key with its signature, by a known_hosts file"
command_sentence Sshsig = codes "tell whether a file signature is for a namespace and is vouched for"
command_sentence Rewrite = codes "print a trust file anew, in one spelling, so that every answer stays the same"
command_sentence Readable = codes "print the entries of an authorized_keys file that OpenSSH reads as they are read here"
command_sentence Hash = codes "print a known_hosts file anew with its host names hashed"
command_sentence Admits = codes "tell whether a key would get in, by which line and with which rights, or why not"
command_sentence Trusts = codes "tell whether a host's key is trusted, by which line, or which line revokes it"
command_sentence Review = codes "list who is let in by trust files, and what has to be fixed"
command_sentence Explain = codes "print what codes mean and what to do about them"

-- what stands for the value of an option
abbrev pub value_word : ArgName → Text
value_word option.Kind = codes "KIND"
value_word option.File = codes "FILE"
value_word option.Offer = codes "BASE64"
value_word option.OfferFile = codes "FILE"
value_word option.Signature = codes "HEX"
value_word option.SignatureFile = codes "FILE"
value_word option.Algorithm = codes "NAME"
value_word option.Session = codes "HEX"
value_word option.User = codes "NAME"
value_word option.Address = codes "ADDRESS"
value_word option.Now = codes "SECONDS"
value_word option.Host = codes "NAME"
value_word option.Zone = codes "RULE"
value_word option.Vouch = codes "FILE"
value_word option.EmptyPrincipals = codes "WHOM"
value_word option.RsaMinimum = codes "BITS"
value_word option.Hash = codes "HEX"
value_word option.Port = codes "PORT"
value_word option.Body = codes "FILE"
value_word option.Message = codes "FILE"
value_word option.Namespace = codes "TEXT"
value_word option.Salts = codes "FILE"
value_word option.Key = codes "FILE"
value_word option.Fingerprint = codes "FINGERPRINT"
value_word option.Findings = codes "CODES"
value_word option.FailOn = codes "CODES"
value_word option.Show = codes "WHAT"
value_word option.Form = codes "FORM"
value_word option.Title = codes "TEXT"
value_word option.Labels = codes "NAMES"
value_word option.FilesFrom = codes "FILE"

-- what `--kind` gives to a command
abbrev pub kind_sentence : Subcommand → Text
kind_sentence Show = codes "what is in the file: key, cert, private or sshsig"
kind_sentence c = codes "the format of the files: auth for authorized_keys, known for known_hosts"

-- what `--file` gives to a command
abbrev pub file_sentence : Subcommand → Text
file_sentence Login = codes "the authorized_keys file"
file_sentence Readable = codes "the authorized_keys file"
file_sentence Rewrite = codes "the trust file that is printed anew"
file_sentence Show = codes "the file that is shown"
file_sentence c = codes "the known_hosts file"

-- what `--host` gives to a command
abbrev pub host_sentence : Subcommand → Text
host_sentence Login = codes "the host name of the client, for from= patterns"
host_sentence Admits = codes "the host name of the client, for from= patterns"
host_sentence c = codes "the name or the address that the client connects to"

-- what `--rsa-minimum` gives to a command
abbrev pub minimum_sentence : Subcommand → Text
minimum_sentence Review = codes "how many bits an RSA key has to have; 2048 without it"
minimum_sentence c = codes "how many bits an RSA key has to have; any number without it"

-- what `--port` gives to a command
abbrev pub port_sentence : Subcommand → Text
port_sentence Host = codes "the port that the client connects to, from 0 to 65535"
port_sentence c = codes "the port that the client connects to, from 0 to 65535; 22 without it"

-- what `--key` gives to a command
abbrev pub key_sentence : Subcommand → Text
key_sentence Review = codes "list only this key: the file of the public key or certificate, or its fingerprint"
key_sentence Admits = codes "the .pub file of the key or certificate, or the key's fingerprint as sshd logs it"
key_sentence c = codes "the file of the public key or certificate, as id_ed25519.pub"

-- what `--form` gives to a command
abbrev pub form_sentence : Subcommand → Text
form_sentence Review = codes "text (so without it), json for one object a line, line for a table, html for a page to look at, print and sign"
form_sentence c = codes "text (so without it), or json for one object on each line"

-- what an option gives to a command
abbrev pub option_sentence : Subcommand → ArgName → Text
option_sentence c option.Kind = kind_sentence c
option_sentence c option.File = file_sentence c
option_sentence c option.Offer = codes "the offered key or certificate: its blob in base64, or a file whose first line has it"
option_sentence c option.OfferFile = codes "the offered key or certificate: its blob in base64, or a file whose first line has it"
option_sentence c option.Signature = codes "the signature: its blob in hexadecimal, or a file whose first line has it"
option_sentence c option.SignatureFile = codes "the signature: its blob in hexadecimal, or a file whose first line has it"
option_sentence c option.Algorithm = codes "the public key algorithm of the request, as ssh-ed25519"
option_sentence c option.Session = codes "the session identifier, in hexadecimal"
option_sentence c option.User = codes "the name of the user who logs in"
option_sentence c option.Address = codes "the address of the client, as 192.0.2.1 or 2001:db8::1"
option_sentence c option.Now = codes "the time of the question, in seconds since 1970-01-01 UTC"
option_sentence c option.Host = host_sentence c
option_sentence c option.Zone = codes "the time zone of expiry times that name none, as CET-1CEST,M3.5.0,M10.5.0/3"
option_sentence c option.Vouch = codes "a file of the signatures that somebody verified"
option_sentence c option.EmptyPrincipals = codes "whom a certificate without principals is for: any (so without it) or never"
option_sentence c option.RsaMinimum = minimum_sentence c
option_sentence c option.Hash = codes "the exchange hash that the host signed, in hexadecimal"
option_sentence c option.Port = port_sentence c
option_sentence c option.Body = codes "a file of the signature's raw bytes"
option_sentence c option.Message = codes "the file that was signed"
option_sentence c option.Namespace = codes "what the signature has to be for"
option_sentence c option.Salts = codes "a file of 20 raw bytes for each name"
option_sentence c option.Key = key_sentence c
option_sentence c option.Fingerprint = codes "the fingerprint of the key, as sshd logs it"
option_sentence c option.Findings = codes "the findings that are reported: all, none, or codes joined by commas"
option_sentence c option.FailOn = codes "the findings that make the status 1: all, none, or codes; without it all that are reported"
option_sentence c option.Show = codes "what is listed: all (so without it), found for lines with a finding, or totals"
option_sentence c option.Form = form_sentence c
option_sentence c option.Title = codes "the heading of the page, with --form html alone"
option_sentence c option.Labels = codes "host,account: each name has both before its path, and a tab behind each"
option_sentence c option.FilesFrom = codes "a file of more names, each ended by NUL or by a line end; - is standard input"

-- what the value of an option has to be
abbrev pub wanted_value : ArgName → Text
wanted_value option.Kind = codes "a format or kind that the command knows"
wanted_value option.File = codes "the name of a file"
wanted_value option.Offer = codes "base64 without blanks or line ends"
wanted_value option.OfferFile = codes "a file whose first line has base64"
wanted_value option.Signature = codes "hexadecimal, two digits for each byte"
wanted_value option.SignatureFile = codes "a file whose first line has hexadecimal, two digits for each byte"
wanted_value option.Algorithm = codes "a name of fewer than 2^32 bytes"
wanted_value option.Session = codes "hexadecimal, two digits for each byte"
wanted_value option.User = codes "a name of fewer than 2^32 bytes"
wanted_value option.Address = codes "an IPv4 or IPv6 address"
wanted_value option.Now = codes "seconds since 1970-01-01 UTC, or a date and time as 2026-11-27T15:25:08Z"
wanted_value option.Host = codes "a host name or an address"
wanted_value option.Zone = codes "a POSIX rule, as CET-1CEST,M3.5.0,M10.5.0/3, or the name of a zone"
wanted_value option.Vouch = codes "the name of a file"
wanted_value option.EmptyPrincipals = codes "any or never"
wanted_value option.RsaMinimum = codes "decimal digits below 4294967296"
wanted_value option.Hash = codes "hexadecimal, two digits for each byte"
wanted_value option.Port = codes "decimal digits, from 0 to 65535"
wanted_value option.Body = codes "the name of a file"
wanted_value option.Message = codes "the name of a file"
wanted_value option.Namespace = codes "a text"
wanted_value option.Salts = codes "the name of a file"
wanted_value option.Key = codes "the name of a file, or a fingerprint as ssh-keygen -l prints it"
wanted_value option.Fingerprint = codes "SHA256: and 43 characters of base64, as in sshd's log"
wanted_value option.Findings = codes "all, none, or codes from F1 to F22 joined by commas"
wanted_value option.FailOn = codes "all, none, or codes from F1 to F22 joined by commas"
wanted_value option.Show = codes "all, found or totals"
wanted_value option.Form = codes "text or json, and of review also line or html"
wanted_value option.Title = codes "a text"
wanted_value option.Labels = codes "host,account, and names that have both, each with a tab behind it"
wanted_value option.FilesFrom = codes "a file of names, each ended by NUL or by a line end"

-- what the operands of a command are
abbrev pub help_names : Subcommand → Text
help_names Admits = codes "  NAME..\n      the authorized_keys files; ~/.ssh/authorized_keys without one\n"
help_names Trusts = codes "  NAME..\n      the known_hosts files; ~/.ssh/known_hosts without one\n"
help_names Review = codes "  NAME..\n      the files that are reviewed; the one in ~/.ssh without one\n"
help_names Explain = codes "  CODE..\n      the codes, and usage for the synopsis; all codes without one\n"
help_names c = []

-- ---- options

-- the other way to give the key to a command
abbrev pub other_key : Subcommand → Option ArgName
other_key Admits = Some option.Fingerprint
other_key c = None

-- the option that gives the same to a command in another way: exactly one of the two has to be given
abbrev pub other_place : Subcommand → ArgName → Option ArgName
other_place c option.Offer = Some option.OfferFile
other_place c option.Signature = Some option.SignatureFile
other_place c option.Key = other_key c
other_place c o = None

-- the option that an option is not given with
abbrev pub apart_from : ArgName → Option ArgName
apart_from option.FailOn = Some option.Key
apart_from option.Show = Some option.Key
apart_from o = None

-- whether an option is reported together with the one before it
abbrev pub is_joined : ArgName → Bool
is_joined option.OfferFile = true
is_joined option.SignatureFile = true
is_joined option.Fingerprint = true
is_joined o = false

-- an option with its value
abbrev pub help_form : ArgName → Text
help_form o = codes "--" ++ option_word o ++ codes " " ++ value_word o

abbrev pub help_forms : ArgName → Option ArgName → Text
help_forms o None = help_form o
help_forms o (Some other) = codes "(" ++ help_form o ++ codes " | " ++ help_form other ++ codes ")"

-- the word before the sentence of an option that has to be given
abbrev pub needed_word : Needed → Option ArgName → Text
needed_word Optional None = []
needed_word Optional (Some other) = codes "required, one of the two: "
needed_word Required other = codes "required: "

-- what takes the place of an option that a question leaves out
abbrev pub default_time : Subcommand → Text
default_time Admits = codes "; without it the time of the clock"
default_time Trusts = codes "; without it the time of the clock"
default_time Review = codes "; without it the time of the clock"
default_time c = []

abbrev pub default_zone : Subcommand → Text
default_zone Admits = codes "; without it that of this machine"
default_zone Review = codes "; without it that of this machine"
default_zone c = []

abbrev pub default_kind : Subcommand → Text
default_kind Review = codes "; without it by the names of the files"
default_kind c = []

abbrev pub default_word : Subcommand → ArgName → Text
default_word c option.Now = default_time c
default_word c option.Zone = default_zone c
default_word c option.Kind = default_kind c
default_word c o = []

-- the word before the sentence of an option that nothing takes the place of
abbrev pub needed_by : Text → Needed → Option ArgName → Text
needed_by fallback needed other = if length fallback == 0 then needed_word needed other else []

-- the lines of an option
abbrev pub help_option : Subcommand → ArgName × Needed → Text
help_option c row =
    if is_joined row.0 then []
    else codes "  " ++ help_forms row.0 (other_place c row.0) ++ codes "\n      " ++ needed_by (default_word c row.0) row.1 (other_place c row.0) ++ option_sentence c row.0 ++ default_word c row.0 ++ codes "\n"

-- ---- the texts

-- the options of a command
unfoldable pub options_help : Subcommand → Text
options_help c = codes "ssh_audit " ++ subcommand_name c ++ codes ": " ++ command_sentence c ++ codes "\n"
    ++ flat_map (help_option c) (reported_options c) ++ help_names c ++ codes "see also the manual page ssh_audit(1)\n"

-- the line of a command in the list of the commands
abbrev pub command_line : Subcommand → Text
command_line c = codes "  " ++ subcommand_name c ++ codes ": " ++ command_sentence c ++ codes "\n"

-- the list of these commands
unfoldable pub commands_help : List Subcommand → Text
commands_help commands = codes "ssh_audit COMMAND [--OPTION VALUE].. [NAME..]\n" ++ flat_map command_line commands
    ++ codes "see 'ssh_audit COMMAND --help', or the manual page ssh_audit(1)\n"

-- what is said of a value that the option does not take
abbrev pub wants_text : ArgName → Text
wants_text o = codes "ssh_audit: --" ++ option_word o ++ codes " wants " ++ wanted_value o ++ codes "\n"
