use Rattle.std.proofs.Common.{subst}
use Rattle.std.proofs.lemmas.Result.{IfOk-weaker}
use Rattle.form_gathered.specs.declared.joined.JoinedTerm.{JoinedTerm}
use Rattle.form_levels.specs.Becoming.{IsRowOf}
use Rattle.form_levels.specs.Groups.{lists_behind}
use Rattle.form_levels.specs.Rules.{IsRewritten}
use Rattle.form_levels.proofs.Several.{acts_by, stays_by}
use Rattle.form_levels.proofs.groups.Rules.by_several.Goals as goal

pub returns-then-not-has_matched : goal.returns-then-not-has_matched
returns-then-not-has_matched c = λ at limit.
    stays_by at c.args.self.now.limit c.args.self.now.group.now c.args.joined c.in-Some.rest limit (rw c.in-Some.is at c.in_ok-rest.ensures) c.with-front.result c.if-not-has_matched.true c.with-front.ensures

pub returns : goal.returns
returns c = λ at limit.
    let max = c.args.self.now.limit in
    let ps = c.args.self.now.group.now in
    let j = c.args.joined in
    let rest = c.in-Some.rest in
    IfOk-weaker c.with_all.result _ (IsRewritten at ps j)
    (λ made row. acts_by at max ps j rest limit (rw c.in-Some.is at c.in_ok-rest.ensures) made c.if-not-has_matched.false
    (subst (λ (front : JoinedTerm). IsRowOf max (lists_behind rest.behind.items) front made) c.with-front.ensures row))
    c.with_all.ensures
