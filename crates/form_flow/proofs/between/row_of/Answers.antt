use Rattle.std.proofs.Common.{◌≡◌, true, ap, map, ◌∙◌}
use Rattle.std.proofs.lemmas.Result.{IfOk-weaker}
use Rattle.form_expand.specs.Runs.{lists_of}
use Rattle.form_flow.specs.Rests.{cut_list, first_cut}
use Rattle.form_flow.specs.Rewriting.{list_of_rest}
use Rattle.form_flow.proofs.Inserting.{row_cut}
use Rattle.form_flow.proofs.between.row_of.Goals as goal

pub returns : goal.returns
returns c =
    let max = c.args.limit in
    let m = c.args.item in
    let bs = c.args.between.items in
    let ls = c.in_ok-lists.lists.items in
    let rs = c.in_ok-runs.runs.items in
    let all = c.in_ok-with_behind.field-0.items in
    IfOk-weaker c.of_runs-2.result _ (λ row. row ≡ list_of_rest max m (record { left = m.term; cuts = map (cut_list max) bs; behind = lists_of max c.args.behind.items; has_matched = true }))
    (λ l made. row_cut max m (record { coefficient = m.coefficient; term = c.in_ok-front.front }) bs c.in-Some.start ls rs c.args.behind.items all l
    (c.in-Some.ensures ∙ ap first_cut c.deref.ensures.value)
    (ap (λ t. record { coefficient = m.coefficient; term = t }) c.in_ok-front.ensures)
    (c.in_ok-lists.ensures max) (c.in_ok-runs.ensures max) c.in_ok-with_behind.ensures made)
    c.of_runs-2.ensures
