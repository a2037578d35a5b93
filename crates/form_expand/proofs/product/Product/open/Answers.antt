use Rattle.std.proofs.Common.{◌≡◌, get_or}
use Rattle.std.proofs.lemmas.List.{get_or_read}
use Rattle.form_expand.specs.Products.{IsBegun}
use Rattle.form_expand.proofs.Leveled.{changed_set}
use Rattle.form_expand.proofs.product.Product.open.Goals as goal

pub returns-clause-begun : goal.returns-clause-begun
returns-clause-begun c =
    let levels = c.args.self.now.levels.items in
    let level = c.index_mut.result.now in
    let read : level ≡ get_or levels c.args.place level = get_or_read levels c.args.place level c.requires c.index_mut.ensures.value level in
    changed_set (IsBegun c.args.left) c.args.place levels level c.begin.new.self c.requires read c.begin.ensures
