use Rattle.std.proofs.Common.{◌∙◌}
use Rattle.form_match.specs.Asking.{name_value}
use Rattle.form_bindings.specs.Values.{is_same}
use Rattle.form_match.proofs.Told.{any_map}
use Rattle.form_match.proofs.sets.has_name.Goals as goal

pub returns : goal.returns
returns c = c.is_one_of.ensures ∙ any_map (is_same c.args.value.now) (λ n. name_value c.args.kind.now n) c.args.names.now
