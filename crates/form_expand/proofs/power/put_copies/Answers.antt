use Rattle.std.proofs.Common.{◌≡◌, [], ◌∷◌, ap, ◌∙◌, arith}
use Rattle.std.specs.Prelude.{replicate}
use Rattle.form_expand.specs.declared.list.List.TheVariants.{Unlimited}
use Rattle.form_expand.specs.declared.walk.Walk.{Walk}
use Rattle.form_expand.specs.Factors.{factor_lists}
use Rattle.form_expand.specs.Kept.{listing}
use Rattle.form_expand.specs.Listing.{powers}
use Rattle.form_expand.specs.Lists.{list_whole}
use Rattle.form_expand.proofs.Factored.{copies_more, same_then}
use Rattle.form_expand.proofs.Filling.{powers_row, put_as, put_begun}
use Rattle.form_expand.proofs.power.put_copies.Goals as goal

pub loop-made-init : goal.loop-made-init
loop-made-init c =
    let max = c.args.scope.limit in
    put_begun max (factor_lists max c.reserve.new.self) (factor_lists max c.put.new.self) (list_whole max (Unlimited c.new.result)) (listing c.args.whole)
    (c.reserve.ensures max ∙ c.requires.none max) (ap (λ (w : Walk). listing w.whole) c.new.ensures) (c.in_ok-put.ensures max)

pub loop-made-preserved : goal.loop-made-preserved
loop-made-preserved c =
    let max = c.args.scope.limit in
    let list = listing c.args.whole in
    let now = factor_lists max c.loop-made.factors in
    let new = factor_lists max c.put-in-loop-made.new.self in
    let same = ap (λ (w : Walk). listing w.whole) c.new-in-loop-made.ensures ∙ c.in_ok-again.ensures list c.args.times c.requires.piece in
    copies_more max [] now list c.loop-made._made c.loop-made.invariant new (put_as max now new (list_whole max (Unlimited c.new-in-loop-made.result)) list same (c.in_ok-put-2.ensures max))

pub returns : goal.returns
returns c =
    let max = c.args.scope.limit in
    let list = listing c.args.whole in
    let all : c.loop-made._made ≡ c.args.times = omega (arith, c.requires.some, c.loop-made.auto._made-end, c.loop-made-test.false) in
    same_then max (powers max list c.args.times ∷ []) (replicate c.args.times list) (factor_lists max c.loop-made.factors) (powers_row max list c.args.times c.requires.some) (rw all at c.loop-made.invariant)
