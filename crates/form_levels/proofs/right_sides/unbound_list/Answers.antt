use Rattle.std.proofs.Common.{ap, sym, ◌∙◌}
use Rattle.form_expand.specs.Listing.{Listing}
use Rattle.form_expand.specs.Walks.{all_of}
use Rattle.form_levels.proofs.right_sides.unbound_list.Goals as goal

pub returns-in-Some : goal.returns-in-Some
returns-in-Some c = c.in-Some.ensures.list ∙ ap (λ (l : Listing). all_of l.terms) (sym c.lent.ensures)
