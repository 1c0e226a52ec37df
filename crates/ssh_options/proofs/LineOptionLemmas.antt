-- What is noted of options one by one is what is noted of all.
use Rattle.ssh_options.proofs.Imports.{◌≡◌, ◌||◌, ℕ, Bool, true, false, List, [], ◌∷◌, Option, Some, None, refl, if◌then◌else◌, is_some, option_or, AuthOption, Setting, Switch, CertAuthority, NoTouchRequired, VerifyRequired, Command, ExpiryTime, From, Principals, same_flag, same_value_name, first_of, has_flag, setting, settings, LineOptions, noted_after}

-- before the first option
abbrev pub none_noted : LineOptions
none_noted = record {
  authority = false;
  no_touch_required = false;
  verify_required = false;
  from = None;
  principals = None;
  command = None;
  expires = false;
}

or-after : (a b c : Bool) → ((a || (b || false)) || c) ≡ (a || (b || c))
or-after true b c = refl
or-after false true c = refl
or-after false false c = refl

or-false : (a b : Bool) → ((a || false) || b) ≡ (a || b)
or-false true b = refl
or-false false b = refl

or-none : (before later : Option (List ℕ)) → option_or (option_or before None) later ≡ option_or before later
or-none None later = refl
or-none (Some value) later = refl

first-after : (before : Option (List ℕ)) (same : Bool) (value : List ℕ) (rest : List (List ℕ))
    → option_or (option_or before (first_of (if same then value ∷ [] else []))) (first_of rest)
    ≡ option_or before (first_of (if same then value ∷ rest else rest))
first-after None true value rest = refl
first-after None false value rest = refl
first-after (Some found) same value rest = refl

any-after : (before same : Bool) (value : List ℕ) (rest : List (List ℕ))
    → ((before || is_some (first_of (if same then value ∷ [] else []))) || is_some (first_of rest))
    ≡ (before || is_some (first_of (if same then value ∷ rest else rest)))
any-after true same value rest = refl
any-after false true value rest = refl
any-after false false value rest = refl

pub noted_one : (before : LineOptions) (option : AuthOption) (options : List AuthOption)
    → noted_after (noted_after before (option ∷ [])) options ≡ noted_after before (option ∷ options)
noted_one before (Switch flag) options =
    rw (
      or-after before.authority (same_flag flag CertAuthority) (has_flag CertAuthority options),
      or-after before.no_touch_required (same_flag flag NoTouchRequired) (has_flag NoTouchRequired options),
      or-after before.verify_required (same_flag flag VerifyRequired) (has_flag VerifyRequired options),
      or-none before.from (setting From options),
      or-none before.principals (setting Principals options),
      or-none before.command (setting Command options),
      or-false before.expires (is_some (setting ExpiryTime options)),
    ) refl
noted_one before (Setting name value) options =
    rw (
      or-false before.authority (has_flag CertAuthority options),
      or-false before.no_touch_required (has_flag NoTouchRequired options),
      or-false before.verify_required (has_flag VerifyRequired options),
      first-after before.from (same_value_name name From) value (settings From options),
      first-after before.principals (same_value_name name Principals) value (settings Principals options),
      first-after before.command (same_value_name name Command) value (settings Command options),
      any-after before.expires (same_value_name name ExpiryTime) value (settings ExpiryTime options),
    ) refl
