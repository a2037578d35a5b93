use Rattle.std.proofs.Common.{◌≡◌, true, Ok, ap, ◌∙◌}
use Rattle.std.specs.Vec.Iter.{into_iter_items}
use Rattle.form_module.proofs.Taken.{nothing_left}
use Rattle.form_module.proofs.Summed.{all_added, none_added, one_added}
use Rattle.form_module.proofs.joined.add_joined.Goals as goal

pub loop-term-init : goal.loop-term-init
loop-term-init c = none_added c.args.table.now c.args.terms.items (into_iter_items c.into_iter-term-iterator.result) c.into_iter-term-iterator.ensures.into_iter_gives.0

pub loop-term-preserved : goal.loop-term-preserved
loop-term-preserved c =
    let is_added : c.in_ok-add.field-0 ≡ true = c.if-not-branch.false in
    let told : c.add.result ≡ Ok true = c.in_ok-add.was ∙ ap Ok is_added in
    one_added c.args.table.now c.args.terms.items c.loop-term.table c.add.new.self (into_iter_items c.loop-term.term-iterator) (into_iter_items c.next.new.self) c.in-Some.term
    (c.add.ensures.sums told) c.in-Some.ensures.steps.0 c.loop-term.invariant

pub returns : goal.returns
returns c =
    all_added c.args.table.now c.args.terms.items c.loop-term.table (into_iter_items c.loop-term.term-iterator)
    (nothing_left c.loop-term.term-iterator c.in-None.ensures.steps.0) c.loop-term.invariant
