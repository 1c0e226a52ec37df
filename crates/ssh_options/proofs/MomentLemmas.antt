-- Seconds from the start of 1970.
use Rattle.ssh_options.proofs.Imports.{◌≡◌, ℕ, Bool, true, false, List, Option, Some, None, is_some, IfSome, FitsSigned, w64, refl, sym, ap, subst, ◌∙◌, arith, ℤ, pos, ◌-ℤ◌, ◌*ℤ◌, int_div, ints, to_z-of_z, signed_arith, civil_nanos-parts, civil_nanos-civil_seconds, civil_nanos_range, epoch_day_same, same_datetime, Date, DateTime, TimeZone, IsYmd, IsHms, IsWithin, epoch_day, civil_nanos, civil_seconds, without_z, is_civil_text, IsShown, IsMoment, CivilFacts, civil-facts, clock_of, moment_at, moment_by}
use mir.Val.{to_z, of_z}
use Rattle.jiff.proofs.OnLiterals.{jiff_on_literals}
use Rattle.ssh_options.specs.Expiry.{is_expiry_text}
use Rattle.ssh_options.specs.Moment.{moment_of}

-- a whole number of seconds, from its nanoseconds
whole-seconds : (s n : ℤ) → n ≡ s *ℤ pos 1_000_000_000 → int_div n (pos 1_000_000_000) ≡ s
whole-seconds s n e = omega (arith, signed_arith, e)

pub clock-seconds : (shown : DateTime) (n zero : ℤ) → shown.time.subsec_nanosecond ≡ 0 → zero ≡ pos 0 → n ≡ civil_nanos shown -ℤ zero
    → int_div n (pos 1_000_000_000) ≡ civil_seconds shown
clock-seconds shown n zero whole none e =
    whole-seconds (civil_seconds shown) n (omega (arith, signed_arith, e, none, whole, civil_nanos-civil_seconds shown))

pub clock-range : (shown : DateTime) → IsWithin 377_705_116_800 (civil_seconds shown)
clock-range shown =
    (omega (arith, signed_arith, civil_nanos-civil_seconds shown, civil_nanos_range shown), omega (arith, signed_arith, civil_nanos-civil_seconds shown, civil_nanos_range shown))

abbrev the_epoch : Date
the_epoch = record { year = pos 1970; month = 1; day = 1; year_in = (omega (arith, ints), omega (arith, ints)); month_in = (omega arith, omega arith); day_in = (omega arith, omega arith) }

epoch-day : epoch_day the_epoch ≡ pos 0
unfolding jiff_on_literals
epoch-day = refl

pub epoch-nanos : (shown : DateTime) → IsYmd (pos 1970) (pos 1) (pos 1) shown.date → IsHms (pos 0) (pos 0) (pos 0) (pos 0) shown.time → civil_nanos shown ≡ pos 0
epoch-nanos shown date time =
    let m : shown.date.month ≡ 1 = omega (arith, ints, date.1) in
    let d : shown.date.day ≡ 1 = omega (arith, ints, date.2) in
    let day = epoch_day_same shown.date the_epoch date.0 m d ∙ epoch-day in
    omega (arith, signed_arith, civil_nanos-parts shown, day, time.0, time.1, time.2, time.3)

-- ---- the moment of a text

same-shown : (digits : List ℕ) (a b : DateTime) → IsShown digits a → IsShown digits b → a ≡ b
same-shown digits a b sa sb =
    let y : a.date.year ≡ b.date.year = sa.date.0 ∙ sym sb.date.0 in
    let m : a.date.month ≡ b.date.month = omega (arith, ints, sa.date.1, sb.date.1) in
    let d : a.date.day ≡ b.date.day = omega (arith, ints, sa.date.2, sb.date.2) in
    let day = epoch_day_same a.date b.date y m d in
    same_datetime a b (omega (arith, signed_arith, civil_nanos-parts a, civil_nanos-parts b, day, sa.time.0, sa.time.1, sa.time.2, sa.time.3, sb.time.0, sb.time.1, sb.time.2, sb.time.3))

clock-shown : (digits : List ℕ) (facts : CivilFacts digits) → IsShown digits (clock_of digits facts)
clock-shown digits facts = record { date = (refl, refl, refl); time = (refl, refl, refl, refl) }

by-clock : (text : List ℕ) (zone : TimeZone) (shown : DateTime) (is : Bool) (e : is_civil_text (without_z text) ≡ is) → is ≡ true
    → IsShown (without_z text) shown → moment_by text zone is e ≡ Some (moment_at text zone shown)
by-clock text zone shown false e t s = cc
by-clock text zone shown true e t s =
    ap (λ (clock : DateTime). Some (moment_at text zone clock))
    (same-shown (without_z text) (clock_of (without_z text) (civil-facts (without_z text) e)) shown (clock-shown (without_z text) (civil-facts (without_z text) e)) s)

-- the date and time that the digits give have the moment
pub moment-shown : (text : List ℕ) (zone : TimeZone) (shown : DateTime) → is_civil_text (without_z text) ≡ true → IsShown (without_z text) shown
    → moment_of text zone ≡ Some (moment_at text zone shown)
unfolding moment_of
moment-shown text zone shown t s = by-clock text zone shown (is_civil_text (without_z text)) refl t s

by-none : (text : List ℕ) (zone : TimeZone) (is : Bool) (e : is_civil_text (without_z text) ≡ is) → is ≡ false → moment_by text zone is e ≡ None
by-none text zone false e t = refl
by-none text zone true e t = cc

pub moment-none : (text : List ℕ) (zone : TimeZone) → is_civil_text (without_z text) ≡ false → moment_of text zone ≡ None
unfolding moment_of
moment-none text zone t = by-none text zone (is_civil_text (without_z text)) refl t

by-some : (text : List ℕ) (zone : TimeZone) (is : Bool) (e : is_civil_text (without_z text) ≡ is) → is_some (moment_by text zone is e) ≡ is
by-some text zone true e = refl
by-some text zone false e = refl

pub moment-some : (text : List ℕ) (zone : TimeZone) → is_some (moment_of text zone) ≡ is_expiry_text text
unfolding moment_of is_expiry_text
moment-some text zone = by-some text zone (is_civil_text (without_z text)) refl

by-is : (text : List ℕ) (zone : TimeZone) (is : Bool) (e : is_civil_text (without_z text) ≡ is) (moment : ℤ) → moment_by text zone is e ≡ Some moment → IsMoment text zone moment
unfolding is_expiry_text
by-is text zone false e moment h = cc
by-is text zone true e moment h =
    let facts = civil-facts (without_z text) e in
    let same : moment_at text zone (clock_of (without_z text) facts) ≡ moment = cc in
    (e, (clock_of (without_z text) facts, clock-shown (without_z text) facts, sym same))

pub moment-is : (text : List ℕ) (zone : TimeZone) (moment : ℤ) → moment_of text zone ≡ Some moment → IsMoment text zone moment
unfolding moment_of
moment-is text zone moment h = by-is text zone (is_civil_text (without_z text)) refl moment h

-- a text has one moment at most
pub moment-only : (text : List ℕ) (zone : TimeZone) (moment : ℤ) → IsMoment text zone moment → moment_of text zone ≡ Some moment
unfolding is_expiry_text
moment-only text zone moment (t, (shown, s, e)) = moment-shown text zone shown t s ∙ ap Some (sym e)

pub moment-found : (text : List ℕ) (zone : TimeZone) (moment : Option ℤ) → moment ≡ moment_of text zone → IfSome moment (IsMoment text zone)
moment-found text zone None e = tt
moment-found text zone (Some moment) e = moment-is text zone moment (sym e)

-- the difference of numbers of 64 bits, as a machine takes it
pub difference : (a b x y : ℤ) → a ≡ x → b ≡ y → IsWithin 377_705_116_800 a → IsWithin 93_599 b
    → to_z w64 (of_z w64 (to_z w64 (of_z w64 a) -ℤ to_z w64 (of_z w64 b))) ≡ x -ℤ y
difference a b x y e f ra rb =
    let fa : FitsSigned w64 a = omega (arith, signed_arith, ra) in
    let fb : FitsSigned w64 b = omega (arith, signed_arith, rb) in
    let fd : FitsSigned w64 (a -ℤ b) = omega (arith, signed_arith, ra, rb) in
    rw (to_z-of_z w64 a fa, to_z-of_z w64 b fb, to_z-of_z w64 (a -ℤ b) fd, e, f) refl

-- the same for the digits that were read
pub read-none : (text digits : List ℕ) (zone : TimeZone) → digits ≡ without_z text → false ≡ is_civil_text digits → None ≡ moment_of text zone
read-none text digits zone e t = sym (moment-none text zone (ap is_civil_text (sym e) ∙ sym t))

pub read-shown : (text digits : List ℕ) (zone : TimeZone) (shown : DateTime) (moment : ℤ) → digits ≡ without_z text → true ≡ is_civil_text digits
    → IsShown digits shown → moment ≡ moment_at text zone shown → Some moment ≡ moment_of text zone
read-shown text digits zone shown moment e t s m =
    let P : List ℕ → Type 0 = λ d. IsShown d shown in
    ap Some m ∙ sym (moment-shown text zone shown (ap is_civil_text (sym e) ∙ sym t) (subst P e s))
