use Rattle.std.proofs.Common.{◌≡◌, ap, ◌∙◌}
use Rattle.std.proofs.lemmas.Result.{IfOk-weaker}
use Rattle.form_expand.specs.Expanding.{list_of_sum}
use Rattle.form_expand.specs.Kept.{listing}
use Rattle.form_expand.specs.Reading.{list_of_pieces}
use Rattle.form_expand.proofs.Trees.{pieces_of_tree}
use Rattle.form_expand.proofs.expansion.whole_list.Goals as goal

pub returns : goal.returns
returns c = λ s is.
    let max = c.args.limit in
    let all = c.args.names.now in
    IfOk-weaker c.list_of.result _ (λ whole. listing whole ≡ list_of_sum max all s)
    (λ whole made. made ∙ ap (list_of_pieces max all) is ∙ pieces_of_tree max all s)
    c.list_of.ensures
