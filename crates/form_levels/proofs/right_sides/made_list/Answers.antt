use Rattle.std.proofs.Common.{ap, sym, ◌∙◌}
use Rattle.form_expand.specs.Listing.{Listing}
use Rattle.form_expand.specs.Walks.{all_of}
use Rattle.form_levels.proofs.right_sides.made_list.Goals as goal

pub returns : goal.returns
returns c = (rw c.in-Some.is at rw c.nothing.ensures at c.in_ok-terms.ensures.some c.args.right.now c.pieces-pieces.ensures) ∙ ap (λ (l : Listing). all_of l.terms) (sym c.made.ensures)
