use Rattle.std.proofs.Common.{List, length, sym, subst}
use Rattle.form_gathered.specs.Joined.{IsJoined, alone}
use Rattle.form_gathered.specs.declared.joined.JoinedTerm.{JoinedTerm}
use Rattle.form_levels.proofs.outputs.outputs_of_joined.Goals as goal

pub returns : goal.returns
returns c = λ list sums.
    c.outputs_of.ensures list
    (subst (λ (js : List JoinedTerm). IsJoined (length list) js (alone list)) (sym c.in_ok-each_once.ensures) (c.sums_of_inputs.ensures c.args.inputs.now list sums))
