use Rattle.std.proofs.Common.{ℕ, cond, leb, bit_or, refl}
use Rattle.std.proofs.lemmas.Simd.{zip2_splat, zip2_splat_left, zip2_of_maps}
use Rattle.ssh_print.specs.Strings.{is_verbatim}
use Rattle.ssh_print.proofs.ClassLemmas.{class_front}
use Rattle.ssh_print.proofs.escaped.VerbatimByteClass.front_len.Goals as goal

pub returns : goal.returns
returns c =
    let v = c.args.bytes.now in
    let long = c.told-bytes in
    class_front is_verbatim _ v _ _ long c.fits-bytes c.first_set.ensures
    (zip2_of_maps bit_or _ _ v (zip2_of_maps bit_or _ _ v (zip2_of_maps bit_or _ _ v (zip2_splat {Y = ℕ} _ v 16 32 long) (zip2_splat_left {X = ℕ} (λ (a b : ℕ). cond (leb a b) 255 0) 127 16 v long)) (zip2_splat {Y = ℕ} _ v 16 92 long)) (zip2_splat {Y = ℕ} _ v 16 34 long)) refl
