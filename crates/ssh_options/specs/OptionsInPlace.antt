-- The first error of options that are read in place, and their escaped quotes.
use Rattle.std.specs.Prelude.{ℕ, Bool, false, ◌||◌, ◌&&◌, ◌==◌, if◌then◌else◌, List, [], ◌∷◌, Option, Some, None, Result, Ok, Err}
use Rattle.ssh_options.specs.declared.option.ValueName.{ValueName}
use Rattle.ssh_options.specs.declared.option.ValueName.TheVariants.{Command, Environment, ExpiryTime, From, PermitListen, PermitOpen, Principals, Tunnel}
use Rattle.ssh_options.specs.AuthOption.{AuthOption, Switch, Setting}
use Rattle.ssh_options.specs.declared.option_text.Seen.{Seen}
use Rattle.ssh_options.specs.declared.option_text.LineCause.{LineCause}
use Rattle.ssh_options.specs.declared.option_text.LineCause.TheVariants as causes
use Rattle.ssh_options.specs.OptionNames.{same_value_name}
use Rattle.ssh_options.specs.OptionText.{OptionItem, begins_with_quote, has_setting, has_bad_expiry, option_of}

-- whether there is an escaped quote between the quotes
abbrev pub has_escape : List ℕ → Bool
has_escape [] = false
has_escape (c ∷ cs) = ((c == 92) && begins_with_quote cs) || has_escape cs

-- a quote is among the bytes
abbrev pub has_quote : List ℕ → Bool
has_quote [] = false
has_quote (c ∷ cs) = (c == 34) || has_quote cs

-- the byte in front is a backslash that escapes a quote
abbrev pub escapes_first : List ℕ → Bool
escapes_first [] = false
escapes_first (c ∷ cs) = (c == 92) && begins_with_quote cs

-- ---- what may appear only once

-- which of the options that may appear only once are among the options
abbrev pub seen_of : List AuthOption → Seen
seen_of options = record {
  command = has_setting Command options;
  from = has_setting From options;
  principals = has_setting Principals options;
}

abbrev pub none_seen : Seen
none_seen = record { command = false; from = false; principals = false }

-- an option of this name may appear only once, and has been read
abbrev pub stood : Seen → ValueName → Bool
stood seen Command = seen.command
stood seen From = seen.from
stood seen Principals = seen.principals
stood seen Environment = false
stood seen ExpiryTime = false
stood seen PermitListen = false
stood seen PermitOpen = false
stood seen Tunnel = false

abbrev pub with_name : Seen → ValueName → Seen
with_name seen name = record {
  command = seen.command || same_value_name name Command;
  from = seen.from || same_value_name name From;
  principals = seen.principals || same_value_name name Principals;
}

-- ---- the first error, where only that state is known of the options before an item

abbrev pub and_seen : Seen → AuthOption → Result Seen LineCause
and_seen seen (Switch flag) = Ok seen
and_seen seen (Setting name value) =
    if stood seen name then Err causes.RepeatedOption
    else if has_bad_expiry (Setting name value) then Err causes.ExpiryText
    else Ok (with_name seen name)

abbrev pub and_read_seen : Seen → Result AuthOption LineCause → Result Seen LineCause
and_read_seen seen (Err cause) = Err cause
and_read_seen seen (Ok option) = and_seen seen option

abbrev pub and_item_seen : Result Seen LineCause → OptionItem → Result Seen LineCause
and_item_seen (Err cause) item = Err cause
and_item_seen (Ok seen) item = and_read_seen seen (option_of item)

-- the error, if there is one
abbrev pub fault_in : {A : Type 0} → Result A LineCause → Option LineCause
fault_in (Ok x) = None
fault_in (Err cause) = Some cause
