use Rattle.std.proofs.Common.{◌≡◌, sym, ap, ◌∙◌}
use Rattle.form_expand.specs.Expanding.{list_of_sum}
use Rattle.form_expand.specs.Listing.{Listing}
use Rattle.form_expand.specs.Meanings.{Meanings}
use Rattle.form_flow.specs.Multiplying.{multiplied_by}
use Rattle.form_flow.specs.Outcome.{made}
use Rattle.form_flow.specs.Sources.{expanded_left, listed}
use Rattle.form_flow.proofs.leaf.times_tree.Goals as goal

pub returns : goal.returns
unfolding listed
returns c =
    let s = c.args.right.now in
    let max = c.args.limit in
    let list : c.expand_tree-list.result ≡ list_of_sum max c.nothing.result.now s = c.expand_tree-list.ensures s c.pieces.ensures in
    let same = sym (list ∙ ap (λ (names : Meanings). list_of_sum max names s) c.nothing.ensures) in
    ap (λ (l : Listing). made (multiplied_by c.args.side l c.args.item)) same ∙ ap (λ e. made (expanded_left e)) (sym c.in_ok-expanded.ensures.ok)
