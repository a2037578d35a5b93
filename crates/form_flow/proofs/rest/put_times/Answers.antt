use Rattle.std.proofs.Common.{◌≡◌, ◌++◌, IfOk, Option, replicate, subst, sym}
use Rattle.form_expand.specs.Expanding.{list_of_sum}
use Rattle.form_expand.specs.Meanings.{Meanings}
use Rattle.form_expand.specs.Runs.{lists_of}
use Rattle.form_flow.specs.Rests.{names_in}
use Rattle.form_flow.proofs.rest.put_times.Goals as goal

pub returns-in-None : goal.returns-in-None
returns-in-None c =
    let max = c.args.limit in
    subst (λ (names : Option Meanings). IfOk c.put_unbound.result (λ lists. lists_of max lists.items ≡ lists_of max c.args.behind.items ++ replicate c.args.times (list_of_sum max (names_in names) c.args.right.now)))
    (sym c.in-None.is) c.put_unbound.ensures
