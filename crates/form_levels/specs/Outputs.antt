-- What a run of inputs has come to.
use Rattle.std.specs.Prelude.{◌≡◌, List, flat_map, None}
use Rattle.std.specs.List.{AllByRecursion}
use Rattle.form_term.specs.declared.monomial.Monomial.{Monomial}
use Rattle.form_gathered.specs.Joined.{HaveSums}
use Rattle.form_gathered.specs.declared.joined.JoinedTerm.{JoinedTerm}
use Rattle.form_flow.specs.Statement.{Compiled}
use Rattle.form_flow.specs.Statements.{outputs}

-- No input is refused, which also says that none has more outputs than may be, and these are the sums of all outputs.
pub record HasOutputs (c : Compiled) (inputs : List Monomial) (js : List JoinedTerm) : Type 0 where
  pub ended : AllByRecursion (λ m. (outputs c m).end ≡ None) inputs
  pub sums : HaveSums js (flat_map (λ m. (outputs c m).terms) inputs)
