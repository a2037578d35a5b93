use Rattle.std.proofs.Common.{◌≡◌, true, Ok, [], ◌++◌, refl, ap, ◌∙◌, arith}
use Rattle.std.proofs.lemmas.List.{nil_from_length}
use Rattle.form_gathered.proofs.Standing.{one_added, all_added}
use Rattle.form_sides.proofs.products.add_each.Goals as goal

pub loop-term-preserved : goal.loop-term-preserved
loop-term-preserved c =
    let joined : c.in_ok-add.field-0 ≡ true = c.if-not-branch.false in
    let told : c.add.result ≡ Ok true = c.in_ok-add.was ∙ ap Ok joined in
    one_added (c.args.table.now ++ c.args.terms.items) c.loop-term.table c.add.new.self c.loop-term.term-iterator.rest.items c.next.new.self.rest.items c.in-Some.term c.in-Some.ensures.steps.0
    (c.add.ensures.lists told) c.loop-term.invariant

pub returns : goal.returns
returns c =
    let left = c.loop-term.term-iterator.rest.items in
    let none : left ≡ [] = nil_from_length left (omega (arith, c.in-None.ensures.steps)) in
    all_added (c.args.table.now ++ c.args.terms.items) c.loop-term.table left c.loop-term.table none refl c.loop-term.invariant
