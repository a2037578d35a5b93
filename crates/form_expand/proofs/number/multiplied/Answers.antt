use Rattle.std.proofs.Common.{refl, arith}
use Rattle.std.proofs.lemmas.Result.{err_from_is_err_and}
use Rattle.form_expand.specs.Numbers.{raised}
use Rattle.form_expand.proofs.Powered.{raised_made, raised_unmade, raised_all}
use Rattle.form_expand.proofs.number.multiplied.Goals as goal

pub loop-made-init : goal.loop-made-init
unfolding raised
loop-made-init c = refl

pub returns-in_err-product : goal.returns-in_err-product
returns-in_err-product c =
    let e = err_from_is_err_and c.from_residual.result c.from_residual.ensures.1 in
    rw (e.1, e.2) (raised_unmade c.args.base c.loop-made.product c.loop-made._made c.args.power (c.in_err-product.field-0.0) c.loop-made.auto._made (omega arith) c.loop-made.invariant c.in_err-product.ensures)

pub loop-made-preserved : goal.loop-made-preserved
loop-made-preserved c = raised_made c.args.base c.loop-made.product c.in_ok-product.product c.loop-made._made c.loop-made.auto._made c.loop-made.invariant c.in_ok-product.ensures

pub returns : goal.returns
returns c = raised_all c.args.base c.loop-made.product c.loop-made._made c.args.power (omega (arith, c.loop-made.auto._made-end c.requires)) c.loop-made.invariant
