use Rattle.std.proofs.Common.{◌≡◌, suc, ◌+◌, ◌-◌, ◌*◌, refl, sym, ap, ◌∙◌, arith}
use Rattle.form_flow.specs.Left.{limits_of}
use Rattle.form_flow.specs.Nearing.{way_weight}
use Rattle.form_flow.specs.Outcome.{bind, turns}
use Rattle.form_flow.specs.Paths.{ways}
use Rattle.form_flow.specs.Statements.{action, run}
use Rattle.form_flow.specs.Ways.{out}
use Rattle.form_flow.specs.Weight.{block_weight}
use Rattle.form_flow.proofs.Acting.{no_turn}
use Rattle.form_flow.proofs.Ahead.{spends_way}
use Rattle.form_flow.proofs.Waiting.{budget, by_path}
use Rattle.form_flow.proofs.descent.Descent.repeat.Goals as goal

pub returns-then-most-eq0-clause-moves : goal.returns-then-most-eq0-clause-moves
returns-then-most-eq0-clause-moves c =
    let d = c.args.self.now in
    let at = limits_of d in
    let once = run at c.args.block.now in
    budget d (turns at.turns once c.args.item) (no_turn at.turns once c.args.item (sym c.turns-most.ensures ∙ c.if-most-eq0.true))

pub returns-clause-moves : goal.returns-clause-moves
returns-clause-moves c =
    let d = c.args.self.now in
    let at = limits_of d in
    let once = run at c.args.block.now in
    let all : suc (c.turns-most.result - 1) ≡ at.turns = omega (arith, c.turns-most.ensures, c.if-most-eq0.false) in
    by_path d c.enter_repeat.new.self c.args.item (turns at.turns once c.args.item) c.requires
    (c.in_ok-enter_repeat.ensures.repeats (action at) c.args.item ∙ ap (λ n. bind (out (ways (action at) d.path)) (turns n once c.args.item)) all)

pub returns-clause-ahead : goal.returns-clause-ahead
returns-clause-ahead c =
    let d = c.args.self.now in
    let at = limits_of d in
    let all : suc (c.turns-most.result - 1) ≡ at.turns = omega (arith, c.turns-most.ensures, c.if-most-eq0.false) in
    let weight = c.in_ok-enter_repeat.ensures.weight at ∙ ap (λ n. n * suc (block_weight at c.args.block.now) + way_weight d) all in
    spends_way c.args.item (at.turns * suc (block_weight at c.args.block.now)) d (record d { path = c.enter_repeat.new.self }) (omega (arith, weight)) refl
