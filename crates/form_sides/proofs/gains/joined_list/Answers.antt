use Rattle.std.proofs.Common.{IfOk, ap, subst, ◌∙◌}
use Rattle.std.specs.Prelude.{IfSome}
use Rattle.form_expand.specs.Listing.{Listing}
use Rattle.form_expand.specs.Reading.{list_of_pieces}
use Rattle.form_expand.proofs.Trees.{pieces_of_tree}
use Rattle.form_joined.specs.Products.{HasList}
use Rattle.form_sides.proofs.gains.joined_list.Goals as goal

pub returns : goal.returns
returns c = λ s is.
    let max = c.args.limit in
    let names = c.args.names.now in
    subst (λ (l : Listing). IfOk c.sum.result (λ made. IfSome made (λ all. HasList l all.items))) (ap (list_of_pieces max names) is ∙ pieces_of_tree max names s) c.sum.ensures
