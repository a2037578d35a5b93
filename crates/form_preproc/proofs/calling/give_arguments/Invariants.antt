use Rattle.std.proofs.Common.{◌≡◌, drop}
use Rattle.form_preproc.specs.Expansion.{with_arguments}
use Rattle.form_preproc.specs.Kept.{kept_in}
use Rattle.form_preproc.proofs.calling.give_arguments.Given as goal

-- what is left gives what all gives
abbrev pub invariant-loop-parameter : goal.invariant-loop-parameter
invariant-loop-parameter l = record {
  given : with_arguments (kept_in l.fn.variables).values l.parameters l.fn.arguments ≡ with_arguments (kept_in l.variables).values (drop l.parameter-index l.parameters) l.arguments;
  calls : (kept_in l.variables).calls ≡ (kept_in l.fn.variables).calls;
}
