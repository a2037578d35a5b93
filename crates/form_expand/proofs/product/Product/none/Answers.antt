use Rattle.std.proofs.Common.{[], arith}
use Rattle.form_expand.specs.Listing.{nothing}
use Rattle.form_expand.proofs.Leveled.{product_past}
use Rattle.form_expand.proofs.product.Product.none.Goals as goal

pub returns : goal.returns
returns c = λ max. rw c.new.ensures.items (product_past max 0 [] nothing (omega arith))
