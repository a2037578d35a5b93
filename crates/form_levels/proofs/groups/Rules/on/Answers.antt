use Rattle.std.proofs.Common.{List, IfOk, subst, sym}
use Rattle.form_flow.specs.Ready.{Part}
use Rattle.form_levels.specs.Becoming.{AreFor}
use Rattle.form_levels.specs.Rules.{IsRewritten}
use Rattle.form_levels.proofs.groups.Rules.on.Goals as goal

pub by_one-requires-clause-kept : goal.by_one-requires-clause-kept
by_one-requires-clause-kept c = rw c.in-Some.ensures at c.requires.kept

pub returns-in-Some-clause-kept : goal.returns-in-Some-clause-kept
returns-in-Some-clause-kept c = subst (λ (ps : List Part). AreFor c.args.self.now.limit ps c.by_one.new.powers) (sym c.in-Some.ensures) c.by_one.ensures.kept

pub returns-in-Some-clause-rewritten : goal.returns-in-Some-clause-rewritten
returns-in-Some-clause-rewritten c = λ at limit. subst (λ (ps : List Part). IfOk c.by_one.result (IsRewritten at ps c.args.joined)) (sym c.in-Some.ensures) (c.by_one.ensures.rewritten at limit)

pub returns-in-None-clause-rewritten : goal.returns-in-None-clause-rewritten
returns-in-None-clause-rewritten c = c.by_several.ensures
