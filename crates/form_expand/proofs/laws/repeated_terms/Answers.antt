use Rattle.std.proofs.Common.{[], ◌∷◌, append-nil, replicate, sym, ap, ◌∙◌}
use Rattle.form_expand.specs.Left.{row, row_behind}
use Rattle.form_expand.specs.Listing.{single}
use Rattle.form_expand.specs.Often.{often}
use Rattle.form_expand.proofs.Factored.{often_front}
use Rattle.form_expand.proofs.Repeating.{often_more, powers_often_from}
use Rattle.form_expand.proofs.Rows.{product_limited}
use Rattle.form_expand.proofs.laws.repeated_terms.Goals as goal

pub returns-clause-powers : goal.returns-clause-powers
returns-clause-powers c = λ max m k some. powers_often_from max some m k

pub returns-clause-rows : goal.returns-clause-rows
unfolding row row_behind
returns-clause-rows c = λ max m t k some.
    ap (row max) (sym (append-nil (single m ∷ replicate k (single t)))) ∙ often_front max some t k m [] ∙ product_limited max some (often m t k)

pub returns-clause-further : goal.returns-clause-further
returns-clause-further c = often_more
