use Rattle.form_preproc.proofs.Calculations.{nothing_calculated, calculation_put_in, calculation_out_of_range, calculation_ill_formed, braces_kept, unopened_kept}
use Rattle.form_preproc.proofs.laws.braces_calculated.Goals as goal

pub returns : goal.returns
returns c = record {
  plain = nothing_calculated;
  value = calculation_put_in;
  range = calculation_out_of_range;
  form = calculation_ill_formed;
  other = braces_kept;
  unopened = unopened_kept;
}
