-- Worked examples of texts that are expiry times, and of texts that are not.
use Rattle.std.specs.Prelude.{◌≡◌, codes, refl, true, false}
use Rattle.ssh_options.specs.Expiry.{is_expiry_text}

-- which texts are expiry times
abbrev pub TextSamplesRead : Type 0
TextSamplesRead =
    (is_expiry_text (codes "20240229") ≡ true)
    × (is_expiry_text (codes "20240229235959Z") ≡ true)
    × (is_expiry_text (codes "20240229235960Z") ≡ false)
    × (is_expiry_text (codes "19000229") ≡ false)
    × (is_expiry_text (codes "00000229") ≡ true)
    × (is_expiry_text (codes "20240229z") ≡ false)
    × (is_expiry_text (codes "20240229ZZ") ≡ false)

pub text_samples_read : TextSamplesRead
unfolding is_expiry_text
text_samples_read = (refl, refl, refl, refl, refl, refl, refl)
