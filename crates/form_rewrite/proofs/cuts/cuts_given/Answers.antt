use Rattle.std.proofs.Common.{◌∙◌, sym}
use Rattle.form_rewrite.proofs.Cutting.{given_all, given_from, given_more}
use Rattle.form_rewrite.proofs.cuts.cuts_given.Goals as goal

pub loop-number-preserved : goal.loop-number-preserved
loop-number-preserved c =
    let number = c.loop-number.number in
    let h = given_more c.loop-number.cuts.items number c.args.places.now number c.loop-number-test.true in
    rw c.in_ok-push.ensures.items (h ∙ c.loop-number.invariant)

pub returns : goal.returns
unfolding given_from
returns c =
    let number = c.loop-number.number in
    sym (given_all c.loop-number.cuts.items number c.args.places.now number c.loop-number-test.false) ∙ c.loop-number.invariant
