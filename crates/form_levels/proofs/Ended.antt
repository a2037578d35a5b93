-- What a run of inputs has come to, by the joined terms that came of all of them.
use Rattle.std.proofs.Common.{◌≤◌, List, length}
use Rattle.form_term.specs.declared.monomial.Monomial.{Monomial}
use Rattle.form_gathered.specs.Joined.{IsJoined, alone, counted}
use Rattle.form_gathered.specs.declared.joined.JoinedTerm.{JoinedTerm}
use Rattle.form_flow.specs.Statement.{Compiled}
use Rattle.form_flow.specs.Statements.{outputs, run}
use Rattle.form_levels.specs.Outputs.{HasOutputs}
use Rattle.form_levels.specs.Runs.{Comes}
use Rattle.form_levels.proofs.Inputs.{inputs_done, sums_of_outputs}

pub outputs_had : (c : Compiled) (inputs : List Monomial) (js ks : List JoinedTerm) → IsJoined (length inputs) js (alone inputs) → Comes (run c.limits c.statements) js ks → counted ks ≤ c.limits.terms → HasOutputs c inputs ks
unfolding outputs
outputs_had c inputs js ks joined r few = record {
  ended = inputs_done c.limits.terms (run c.limits c.statements) inputs js ks joined r few;
  sums = sums_of_outputs c.limits.terms (run c.limits c.statements) inputs js ks joined r few;
}
