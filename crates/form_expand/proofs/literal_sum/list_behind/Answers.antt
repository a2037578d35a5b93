use Rattle.std.proofs.Common.{[], ◌∷◌, ◌++◌, sym, ap, ◌∙◌}
use Rattle.form_expand.specs.Listing.{limited, followed}
use Rattle.form_expand.specs.Reading.{list_of_pieces}
use Rattle.form_expand.specs.Walks.{all_of}
use Rattle.form_expand.proofs.literal_sum.list_behind.Goals as goal

pub returns-in-Some : goal.returns-in-Some
returns-in-Some c =
    let list = list_of_pieces c.args.limit c.args.names.now c.args.pieces.now in
    ap (λ ms. limited c.args.limit (followed (all_of ms) list)) (sym (c.in_ok-push.ensures.items ∙ ap (λ ms. ms ++ c.args.first ∷ []) c.in_ok-terms.ensures.items))
    ∙ (rw c.in-Some.is at c.in_ok-all.ensures)
    ∙ sym c.made.ensures
