use Rattle.ssh_options.proofs.Imports.{arith, ints}
use Rattle.ssh_options.proofs.ExpiryLemmas.{year-read}
use Rattle.ssh_options.proofs.expiry_time.year.Goals as goal

pub returns-clause-value : goal.returns-clause-value
returns-clause-value c =
    let read = year-read c.args.digits.now c.two_digits.result c.two_digits-2.result c.requires c.two_digits.ensures.value c.two_digits-2.ensures.value in
    omega (arith, ints, read, c.two_digits.ensures.bound, c.two_digits-2.ensures.bound)
