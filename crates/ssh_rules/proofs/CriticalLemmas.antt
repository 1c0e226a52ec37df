-- A certificate's critical options are met exactly where none of their rows holds.
use Rattle.ssh_rules.proofs.Imports.{◌≡◌, ◌∙◌, ℕ, Bool, true, false, List, [], ◌∷◌, Option, Some, None, ap, sym, refl, ◌≢◌, is_some, AllByRecursion, bytes_eq, bytes_eq-Decides, CertificateOption, ForceCommand, SourceAddress, Certificate, CertOption, forced_by_certificate, has_option, text_of_option, AreOnce, IsKnownOption, is-known, known-is, of-text, text-of, AuthEntry, Command, setting, Address, Yes, CriticalMet, PermitsAddress, commands_differ, critical_rows, first_unknown, fits_known, has_its_form, has_two, is_known, has_repeats, certificate_source_by, unknown_row}
use Rattle.ssh_certs.specs.OptionTable.{critical_named}
use Rattle.ssh_rules.specs.declared.reason.Reason.TheVariants as reason
use Rattle.ssh_rules.proofs.SourceLemmas.{address-permitted, permits-address}
use Rattle.ssh_rules.proofs.Tests.{NoneHolds, each-decides, none-fails, not_off, off, off_not, permitted, when_off, yes_row}

-- ---- each is known, with data of its form

first-known : (options : List CertOption) → AllByRecursion IsKnownOption options → unknown_row (first_unknown options) ≡ None
first-known [] h = refl
first-known (o ∷ options) h =
    let known : is_known o.name ≡ true = ap is_some (is-known o h.0).0 in
    rw known (first-known options h.1)

known-by : (o : CertOption) (found : Option CertificateOption) → critical_named o.name ≡ found → fits_known found o.value ≡ true → IsKnownOption o
known-by o None e h = cc
known-by o (Some option) e h = known-is o option e h

all-known : (options : List CertOption) → AllByRecursion (λ o. has_its_form o ≡ true) options → AllByRecursion IsKnownOption options
all-known [] h = tt
all-known (o ∷ options) h = (known-by o (critical_named o.name) refl h.0, all-known options h.1)

all-formed : (options : List CertOption) → AllByRecursion IsKnownOption options → AllByRecursion (λ o. has_its_form o ≡ true) options
all-formed [] h = tt
all-formed (o ∷ options) h =
    let known = is-known o h.0 in
    (ap (λ (found : Option CertificateOption). fits_known found o.value) known.0 ∙ known.1, all-formed options h.1)

-- ---- none stands twice

no-option : (name : List ℕ) (options : List CertOption) → has_option name options ≡ false → AllByRecursion (λ p. p.name ≢ name) options
no-option name [] h = tt
no-option name (o ∷ options) h = go (no-option name options) (bytes_eq o.name name) refl
  where
    go : (has_option name options ≡ false → AllByRecursion (λ p. p.name ≢ name) options) → (b : Bool) → bytes_eq o.name name ≡ b → AllByRecursion (λ p. p.name ≢ name) (o ∷ options)
    go rest true e =
        let bad : true ≡ false = rw e at h in
        cc
    go rest false e = (
      λ same. let bad : true ≡ false = sym ((bytes_eq-Decides o.name name).1 same) ∙ e in cc,
      rest (rw e at h),
    )

option-not : (name : List ℕ) (options : List CertOption) → AllByRecursion (λ p. p.name ≢ name) options → has_option name options ≡ false
option-not name [] h = refl
option-not name (o ∷ options) h = go (option-not name options h.1) (bytes_eq o.name name) refl
  where
    go : has_option name options ≡ false → (b : Bool) → bytes_eq o.name name ≡ b → has_option name (o ∷ options) ≡ false
    go rest true e = absurd (h.0 ((bytes_eq-Decides o.name name).0 e))
    go rest false e = rw e rest

none-twice : (name : List ℕ) (options : List CertOption) → has_option name options ≡ false → has_two name options ≡ false
none-twice name [] h = refl
none-twice name (o ∷ options) h = go (none-twice name options) (bytes_eq o.name name) refl
  where
    go : (has_option name options ≡ false → has_two name options ≡ false) → (b : Bool) → bytes_eq o.name name ≡ b → has_two name (o ∷ options) ≡ false
    go rest true e =
        let bad : true ≡ false = rw e at h in
        cc
    go rest false e = rw e (rest (rw e at h))

-- an option after another stands twice in the whole list, if it stands twice after it
fewer : (o : CertOption) (name : List ℕ) (options : List CertOption) → has_two name (o ∷ options) ≡ false → has_two name options ≡ false
fewer o name options h = go (bytes_eq o.name name) refl
  where
    go : (b : Bool) → bytes_eq o.name name ≡ b → has_two name options ≡ false
    go true e = none-twice name options (rw e at h)
    go false e = rw e at h

all-fewer : (o : CertOption) (options of : List CertOption) → AllByRecursion (λ p. has_two p.name (o ∷ options) ≡ false) of
    → AllByRecursion (λ p. has_two p.name options ≡ false) of
all-fewer o options [] h = tt
all-fewer o options (p ∷ of) h = (fewer o p.name options h.0, all-fewer o options of h.1)

own-name : (o : CertOption) (options : List CertOption) → has_two o.name (o ∷ options) ≡ has_option o.name options
own-name o options = rw ((bytes_eq-Decides o.name o.name).1 refl) refl

once-is : (options : List CertOption) → AllByRecursion (λ o. has_two o.name options ≡ false) options → AreOnce options
once-is [] h = tt
once-is (o ∷ options) h = (no-option o.name options (sym (own-name o options) ∙ h.0), once-is options (all-fewer o options options h.1))

other-names : (o : CertOption) (options of : List CertOption) → AllByRecursion (λ p. p.name ≢ o.name) of
    → AllByRecursion (λ p. has_two p.name options ≡ false) of → AllByRecursion (λ p. has_two p.name (o ∷ options) ≡ false) of
other-names o options [] other h = tt
other-names o options (p ∷ of) other h = (go (bytes_eq o.name p.name) refl, other-names o options of other.1 h.1)
  where
    go : (b : Bool) → bytes_eq o.name p.name ≡ b → has_two p.name (o ∷ options) ≡ false
    go true e = absurd (other.0 (sym ((bytes_eq-Decides o.name p.name).0 e)))
    go false e = rw e h.0

is-once : (options : List CertOption) → AreOnce options → AllByRecursion (λ o. has_two o.name options ≡ false) options
is-once [] h = tt
is-once (o ∷ options) h = (own-name o options ∙ option-not o.name options h.0, other-names o options options h.0 (is-once options h.1))

twice-decides : (options : List CertOption) → (has_repeats options ≡ false → AllByRecursion (λ o. has_two o.name options ≡ false) options)
    × (AllByRecursion (λ o. has_two o.name options ≡ false) options → has_repeats options ≡ false)
twice-decides options = none-fails (λ o. has_two o.name options) (λ o. has_two o.name options ≡ false) (λ o. (λ h. h, λ h. h)) options

-- ---- its sources and its command

source-of : (o : Option (List ℕ)) (address : Address) → certificate_source_by o address ≡ Yes → (list : List ℕ) → o ≡ Some list → PermitsAddress address list
source-of None address h list e = cc
source-of (Some found) address h list e =
    let same : found ≡ list = cc in
    rw same at (address-permitted address found h)

of-source : (o : Option (List ℕ)) (address : Address) → ((list : List ℕ) → o ≡ Some list → PermitsAddress address list) → certificate_source_by o address ≡ Yes
of-source None address h = refl
of-source (Some list) address h = permits-address address list (h list refl)

same-command : (a b : Option (List ℕ)) → commands_differ a b ≡ false → (own : List ℕ) → b ≡ Some own → (line : List ℕ) → a ≡ Some line → line ≡ own
same-command None b h own f line e = cc
same-command (Some x) None h own f line e = cc
same-command (Some x) (Some y) h own f line e =
    let same : x ≡ y = (bytes_eq-Decides x y).0 (not_off _ h) in
    cc

command-same : (a b : Option (List ℕ)) → ((own : List ℕ) → b ≡ Some own → (line : List ℕ) → a ≡ Some line → line ≡ own) → commands_differ a b ≡ false
command-same None b h = refl
command-same (Some x) None h = refl
command-same (Some x) (Some y) h = off_not _ ((bytes_eq-Decides x y).1 (h y refl x refl))

-- ---- all of them

abbrev SameCommand : AuthEntry → List ℕ → Type 0
SameCommand e own = (line : List ℕ) → setting Command e.options ≡ Some line → line ≡ own

pub met : (e : AuthEntry) (address : Address) (c : Certificate) → NoneHolds (critical_rows e address c) → CriticalMet e address c
met e address c n =
    let once = once-is c.critical ((twice-decides c.critical).0 (off _ reason.CriticalRepeated n.1.0)) in
    let formed = (each-decides has_its_form c.critical).0 (not_off _ (off _ reason.CriticalData n.1.1.0)) in
    record {
      known = all-known c.critical formed;
      once = once;
      source = of-text SourceAddress c (PermitsAddress address) once
          (source-of (text_of_option SourceAddress c) address (permitted reason.CertSourceBad reason.CertSourceRefused _ n.1.1.1.0));
      command = of-text ForceCommand c (SameCommand e) once
          (same-command (setting Command e.options) (forced_by_certificate c) (off _ reason.CommandConflict n.1.1.1.1.0));
    }

pub met-none : (e : AuthEntry) (address : Address) (c : Certificate) → CriticalMet e address c → NoneHolds (critical_rows e address c)
met-none e address c m = (
  first-known c.critical m.known,
  (
    when_off _ reason.CriticalRepeated ((twice-decides c.critical).1 (is-once c.critical m.once)),
    (
      when_off _ reason.CriticalData (off_not _ ((each-decides has_its_form c.critical).1 (all-formed c.critical m.known))),
      (
        yes_row reason.CertSourceBad reason.CertSourceRefused _
            (of-source (text_of_option SourceAddress c) address (text-of SourceAddress c (PermitsAddress address) m.source)),
        (
          when_off _ reason.CommandConflict
              (command-same (setting Command e.options) (forced_by_certificate c) (text-of ForceCommand c (SameCommand e) m.command)),
          tt,
        ),
      ),
    ),
  ),
)
