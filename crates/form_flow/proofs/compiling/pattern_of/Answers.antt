use Rattle.std.proofs.Common.{◌≡◌, sym, subst}
use Rattle.std.proofs.lemmas.Result.{IfOk-weaker}
use Rattle.form_flow.specs.Making.{tried}
use Rattle.form_flow.specs.Ready.{IsBuilt}
use Rattle.form_flow.proofs.Readying.{is_pattern, tried_is}
use Rattle.form_flow.proofs.compiling.pattern_of.Goals as goal

pub returns-clause-is : goal.returns-clause-is
returns-clause-is c =
    IfOk-weaker c.new.result _ (λ made. made ≡ tried c.args.limit c.args.pattern.now)
    (λ made e. tried_is c.args.limit c.args.pattern.now c.pieces.result.now c.fixed.result.now c.in_ok-fixed.fixed.items made e c.pieces.ensures c.in_ok-fixed.ensures c.fixed.ensures) c.new.ensures

pub returns-clause-built : goal.returns-clause-built
returns-clause-built c =
    IfOk-weaker c.new.result _ IsBuilt
    (λ made e. subst IsBuilt (sym (tried_is c.args.limit c.args.pattern.now c.pieces.result.now c.fixed.result.now c.in_ok-fixed.fixed.items made e c.pieces.ensures c.in_ok-fixed.ensures c.fixed.ensures)) (is_pattern c.args.limit c.args.pattern.now c.requires))
    c.new.ensures
