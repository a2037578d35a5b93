use Rattle.std.proofs.Common.{◌≡◌, ◌≤◌, Some, length, sym, subst, arith, rules}
use Rattle.form_expand.specs.NumberSums.{begun_sum, further_sum}
use Rattle.form_expand.proofs.NumberSums.{IsAddedTo, sum_begun, sum_further, sum_ended_at}
use Rattle.form_expand.proofs.number_sum.number_sum.Goals as goal

pub loop-piece-init : goal.loop-piece-init
loop-piece-init c = λ law.
    let max = c.args.limit in
    let all = c.args.names.now in
    let ps = c.args.pieces.now in
    let more = c.in-Some.more.now in
    let link = c.in-Some-number_at.link in
    let number = c.in-Some-number_at.number in
    let is : c.begun-adding.result ≡ begun_sum link number = search rules in
    subst (λ a. IsAddedTo max all law ps a more) (sym is) (sum_begun max all law ps c.in-Some.first.now more link number c.in-Some.ensures.cases.0 c.in-Some-number_at.ensures)

pub loop-piece-preserved : goal.loop-piece-preserved
loop-piece-preserved c = λ law.
    let ps = c.args.pieces.now in
    let adding = c.loop-piece.adding in
    let link = c.in-Some-number_at-2.link in
    let number = c.in-Some-number_at-2.number in
    let new = c.in-Some-further.further in
    let fits : length ps ≤ c.args.limit = omega (arith, c.if-pieces-limit.false) in
    let is : further_sum adding link number ≡ Some new = search rules in
    sum_further c.args.limit c.args.names.now law ps c.loop-piece.rest.now c.in-Some-split_first.piece.now c.in-Some-split_first.more.now adding number c.in-Some-split_first.ensures.cases.0 (c.loop-piece.invariant law) link new c.in-Some-number_at-2.ensures fits is

pub returns-in_default-number_at-2 : goal.returns-in_default-number_at-2
returns-in_default-number_at-2 c =
    let law = c.single_factors.ensures.number in
    let fits : length c.args.pieces.now ≤ c.args.limit = omega (arith, c.if-pieces-limit.false) in
    sum_ended_at c.args.limit c.args.names.now law c.args.pieces.now c.loop-piece.rest.now c.in-Some-split_first.piece.now c.in-Some-split_first.more.now c.loop-piece.adding c.ended.result
    c.in-Some-split_first.ensures.cases.0 (c.loop-piece.invariant law) fits c.ended.ensures
