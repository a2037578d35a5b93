use Rattle.std.proofs.Common.{◌-◌, refl}
use Rattle.form_expand.proofs.Leveled.{closed_first, closed_before}
use Rattle.form_expand.proofs.product.Product.close.Goals as goal

pub returns-then-self-eq0 : goal.returns-then-self-eq0
returns-then-self-eq0 c =
    let product = c.args.self.now in
    closed_first product.place product.place product.levels.items c.clear.new.self.items c.if-self-eq0.true c.clear.ensures.items

pub returns : goal.returns
returns c =
    let product = c.args.self.now in
    closed_before product.place (product.place - 1) product.levels.items product.levels.items c.if-self-eq0.false refl refl
