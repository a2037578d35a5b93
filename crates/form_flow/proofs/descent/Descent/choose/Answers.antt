use Rattle.std.proofs.Common.{◌≤◌, suc, map, option_map, ◌∙◌, ap, refl, subst, arith}
use Rattle.form_flow.specs.Left.{limits_of}
use Rattle.form_flow.specs.Statements.{branch_by, first_branch, taken}
use Rattle.form_flow.specs.Ways.{acts_of}
use Rattle.form_flow.specs.Weight.{branches_weight, taken_weight}
use Rattle.form_flow.proofs.Ahead.{spends_way}
use Rattle.form_flow.proofs.Waiting.{as_it_is}
use Rattle.form_flow.proofs.descent.Descent.choose.Goals as goal

pub returns-in_ok-enter-in-Some-clause-ahead : goal.returns-in_ok-enter-in-Some-clause-ahead
returns-in_ok-enter-in-Some-clause-ahead c =
    let d = c.args.self.now in
    let at = limits_of d in
    let all = branches_weight at c.args.branches.now c.args.last.now in
    let less = subst (λ b. taken_weight at b ≤ all) c.in-Some.is (c.in_ok-block.ensures.weight at) in
    let weight = c.in_ok-enter-in-Some.ensures.weight at in
    spends_way c.args.item (suc all) d (record d { path = c.enter.new.self }) (omega (arith, less, weight)) refl

pub returns-in-None-clause-moves : goal.returns-in-None-clause-moves
returns-in-None-clause-moves c act is =
    as_it_is c.args.self.now c.args.item (first_branch (map (branch_by act) c.args.branches.now) (option_map (acts_of act) c.args.last.now) c.args.item) c.requires
    (c.in_ok-block.ensures.taken act ∙ ap (λ b. taken act b c.args.item) c.in-None.is)

pub returns-in-None-clause-ahead : goal.returns-in-None-clause-ahead
returns-in-None-clause-ahead c =
    let d = c.args.self.now in
    spends_way c.args.item (suc (branches_weight (limits_of d) c.args.branches.now c.args.last.now)) d d (omega arith) refl
