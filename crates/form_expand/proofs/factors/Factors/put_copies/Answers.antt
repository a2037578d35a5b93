use Rattle.std.proofs.Common.{◌≡◌, [], ◌∷◌, ◌++◌, append-nil, replicate, ap, subst, ◌∙◌, arith}
use Rattle.std.specs.Prelude.{List}
use Rattle.form_expand.specs.declared.walk.Walk.{Walk}
use Rattle.form_expand.specs.Factors.{IsSameRow, factor_lists}
use Rattle.form_expand.specs.Kept.{listing}
use Rattle.form_expand.specs.Left.{row}
use Rattle.form_expand.specs.Listing.{Listing, limited}
use Rattle.form_expand.specs.Walks.{all_of}
use Rattle.form_expand.proofs.Factored.{copies_ended, copies_more}
use Rattle.form_expand.proofs.factors.Factors.put_copies.Goals as goal

pub loop-made-init : goal.loop-made-init
loop-made-init c = λ max more. ap (λ (ls : List Listing). row max (ls ++ more)) (append-nil (factor_lists max c.args.self.now))

pub loop-made-preserved : goal.loop-made-preserved
loop-made-preserved c = λ max.
    let now = factor_lists max c.loop-made.self in
    let new = factor_lists max c.put.new.self in
    let list : listing c.new.result.whole ≡ all_of c.args.terms.now = ap (λ (w : Walk). listing w.whole) c.new.ensures ∙ c.lent.ensures in
    copies_more max (factor_lists max c.args.self.now) now (limited max (all_of c.args.terms.now)) c.loop-made._made (c.loop-made.invariant max) new
    (subst (λ (l : Listing). IsSameRow max (now ++ limited max l ∷ []) new) list (c.in_ok-put.ensures max))

pub returns-then-is_ended : goal.returns-then-is_ended
returns-then-is_ended c = λ max.
    let l = limited max (all_of c.args.terms.now) in
    copies_ended max (factor_lists max c.args.self.now) (factor_lists max c.loop-made.self) l c.loop-made._made (c.loop-made.invariant max) c.args.times (omega (arith, c.loop-made-test.true)) (c.if-is_ended.ensures max l)

pub returns : goal.returns
returns c = λ max.
    let all : c.loop-made._made ≡ c.args.times = omega (arith, c.loop-made-test.false, c.loop-made.auto._made-end) in
    subst (λ (n : _). IsSameRow max (factor_lists max c.args.self.now ++ replicate n (limited max (all_of c.args.terms.now))) (factor_lists max c.loop-made.self)) all (c.loop-made.invariant max)
