use Rattle.std.proofs.Common.{Option, subst, sym}
use Rattle.form_expand.specs.Expanding.{list_of_sum}
use Rattle.form_expand.specs.Meanings.{Meanings}
use Rattle.form_flow.specs.Rests.{names_in}
use Rattle.form_levels.specs.RightSides.{IsWhole}
use Rattle.form_levels.proofs.right_sides.list_by.Goals as goal

pub returns-in-Some : goal.returns-in-Some
returns-in-Some c = subst (λ (o : Option Meanings). IsWhole (list_of_sum c.args.limit (names_in o) c.args.right.now) c.bound_list.result) (sym c.in-Some.is) c.bound_list.ensures

pub returns-in-None : goal.returns-in-None
returns-in-None c = subst (λ (o : Option Meanings). IsWhole (list_of_sum c.args.limit (names_in o) c.args.right.now) c.unbound_list.result) (sym c.in-None.is) c.unbound_list.ensures
