use Rattle.std.proofs.Common.{subst}
use Rattle.form_expand.specs.Expanding.{list_of_sum}
use Rattle.form_expand.specs.Meanings.{Meanings}
use Rattle.form_levels.specs.Rows.{IsBehind}
use Rattle.form_levels.proofs.rewriting.Rule.with_match.Goals as goal

pub returns-clause-fronts : goal.returns-clause-fronts
returns-clause-fronts c =
    subst (λ (ms : Meanings). IsBehind c.args.fronts c.args.times (list_of_sum c.args.self.now.limit ms c.args.self.now.part.now.right) c.with_list.result) c.bound-names.ensures c.with_list.ensures.fronts
