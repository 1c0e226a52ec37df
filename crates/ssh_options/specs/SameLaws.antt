-- The tests for equal options are true exactly where the options are equal.
use Rattle.std.specs.Prelude.{◌≡◌, ℕ, Bool, true, false, ◌&&◌, List, bytes_eq}
use Rattle.std.specs.Bool.{Decides}
use Rattle.std.specs.Cmp.{first_so, second_so}
use Rattle.std.specs.Cmp.Lexicographic.{bytes_decides, pointwise_decides}
use denote.Enum.Bare.{same_true, true_same}
use mathlib.Core.Bool.{true≢false}
use mathlib.Core.Path.{sym, ap, ◌∙◌}
use Rattle.ssh_options.specs.contracts.option.Flag as flag_type
use Rattle.ssh_options.specs.contracts.option.ValueName as value_type
use Rattle.ssh_options.specs.declared.option.Flag.{Flag}
use Rattle.ssh_options.specs.declared.option.ValueName.{ValueName}
use Rattle.ssh_options.specs.AuthOption.{AuthOption, Switch, Setting}
use Rattle.ssh_options.specs.OptionNames.{same_value_name}
use Rattle.ssh_options.specs.SameOptions.{is_same_option, are_same_options}

flag_or : Flag → AuthOption → Flag
flag_or other (Switch flag) = flag
flag_or other (Setting name value) = other

name_or : ValueName → AuthOption → ValueName
name_or other (Switch flag) = other
name_or other (Setting name value) = name

value_or : List ℕ → AuthOption → List ℕ
value_or other (Switch flag) = other
value_or other (Setting name value) = value

is_switch : AuthOption → Bool
is_switch (Switch flag) = true
is_switch (Setting name value) = false

setting_same : (a b : ValueName) (value other : List ℕ) → a ≡ b → value ≡ other → Setting a value ≡ Setting b other
setting_same a b value other h k = ap (λ name. Setting name value) h ∙ ap (λ text. Setting b text) k

both_true : (s t : Bool) → s ≡ true → t ≡ true → (s && t) ≡ true
both_true s t h k = ap (λ b. b && t) h ∙ k

-- the test of two options decides whether they are equal
pub option_decides : (a b : AuthOption) → Decides (is_same_option a b) (a ≡ b)
unfolding flag_or is_switch name_or value_or
option_decides (Switch a) (Switch b) =
    (λ e. ap Switch (same_true flag_type.the_type tt a b e), λ e. true_same flag_type.the_type a b (ap (flag_or a) e))
option_decides (Switch a) (Setting b other) = (λ e. absurd (true≢false (sym e)), λ e. sym (ap is_switch e))
option_decides (Setting a value) (Switch b) = (λ e. absurd (true≢false (sym e)), λ e. ap is_switch e)
option_decides (Setting a value) (Setting b other) = (
  λ e. setting_same a b value other
      (same_true value_type.the_type tt a b (first_so (same_value_name a b) (bytes_eq value other) e))
      ((bytes_decides value other).0 (second_so (same_value_name a b) (bytes_eq value other) e)),
  λ e. both_true (same_value_name a b) (bytes_eq value other)
      (true_same value_type.the_type a b (ap (name_or a) e))
      ((bytes_decides value other).1 (ap (value_or value) e)),
)

-- the test of two lists decides whether they are equal
pub options_decide : (a b : List AuthOption) → Decides (are_same_options a b) (a ≡ b)
options_decide = pointwise_decides option_decides
