use Rattle.ssh_options.proofs.Imports.{◌∙◌, sym, arith, FitsSigned, w8, w16, is_ok, to_z-of_z, signed_arith}
use Rattle.ssh_options.proofs.ExpiryLemmas.{is-civil-read}
use Rattle.ssh_options.proofs.expiry_time.read_civil.Goals as goal

pub returns-clause-is : goal.returns-clause-is
returns-clause-is c =
    let y : FitsSigned w16 c.year.result = omega (arith, signed_arith, c.year.type_inv) in
    let m : FitsSigned w8 c.part-month.result = omega (arith, signed_arith, c.part-month.ensures.value, c.part-month.ensures.bound) in
    let d : FitsSigned w8 c.part-day.result = omega (arith, signed_arith, c.part-day.ensures.value, c.part-day.ensures.bound) in
    let h : FitsSigned w8 c.part-hour.result = omega (arith, signed_arith, c.part-hour.ensures.value, c.part-hour.ensures.bound) in
    let mi : FitsSigned w8 c.part-minute.result = omega (arith, signed_arith, c.part-minute.ensures.value, c.part-minute.ensures.bound) in
    let s : FitsSigned w8 c.part-second.result = omega (arith, signed_arith, c.part-second.ensures.value, c.part-second.ensures.bound) in
    let exists = simp to_z-of_z at c.new.ensures.succeeds in
    c.ok.ensures.variant ∙ is-civil-read c.args.digits.now (is_ok c.new.result) c.year.result c.part-month.result c.part-day.result
    c.part-hour.result c.part-minute.result c.part-second.result (sym c.has_form.ensures ∙ c.if-not-has_form.false) (record {
      year_is = c.year.ensures.value;
      year_small = c.year.ensures.bound;
      month_is = c.part-month.ensures.value;
      day_is = c.part-day.ensures.value;
      hour_is = c.part-hour.ensures.value;
      minute_is = c.part-minute.ensures.value;
      second_is = c.part-second.ensures.value;
    }) exists
