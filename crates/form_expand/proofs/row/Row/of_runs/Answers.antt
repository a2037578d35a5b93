use Rattle.std.proofs.Common.{◌≡◌, List, [], ◌∷◌, ◌++◌, rules, sym, ap, subst, ◌∙◌, arith}
use Rattle.std.specs.Vec.Iter.{into_iter_items}
use Rattle.std.proofs.lemmas.List.{nil_from_length}
use Rattle.form_expand.specs.declared.row.Run.{Run}
use Rattle.form_expand.specs.Factors.{IsSameRow, factor_lists}
use Rattle.form_expand.specs.Listing.{single}
use Rattle.form_expand.specs.Runs.{lists_of, run_lists}
use Rattle.form_expand.proofs.Factored.{same_behind}
use Rattle.form_expand.proofs.Filling.{runs_all, runs_more}
use Rattle.form_expand.proofs.row.Row.of_runs.Goals as goal

pub loop-run-init : goal.loop-run-init
loop-run-init c =
    let max = c.args.limit in
    let items : into_iter_items c.into_iter-run-iterator.result ≡ c.args.runs.items = search rules in
    let now = factor_lists max c.in_ok-factors.factors in
    let left = lists_of max (into_iter_items c.into_iter-run-iterator.result) in
    subst (λ (rs : List Run). IsSameRow max (single c.args.first ∷ lists_of max rs) (now ++ left)) items
    (same_behind max (single c.args.first ∷ []) now left c.in_ok-factors.ensures)

pub loop-run-preserved : goal.loop-run-preserved
loop-run-preserved c =
    let max = c.args.limit in
    let left = into_iter_items c.next.new.self in
    let run = c.in-Some.run' in
    let next : into_iter_items c.loop-run.run-iterator ≡ run ∷ left = c.in-Some.ensures.steps.0 in
    runs_more max (single c.args.first ∷ lists_of max c.args.runs.items) (factor_lists max c.loop-run.factors) (run_lists max run) (lists_of max (into_iter_items c.loop-run.run-iterator)) (lists_of max left) (factor_lists max c.put_run.new.factors)
    c.loop-run.invariant (ap (lists_of max) next) c.in_ok-put_run.ensures

pub returns : goal.returns
returns c =
    let max = c.args.limit in
    let items = into_iter_items c.loop-run.run-iterator in
    let none : items ≡ [] = nil_from_length items (omega (arith, c.in-None.ensures.steps.0)) in
    c.in_ok-product.ensures
    ∙ sym (runs_all max (single c.args.first ∷ lists_of max c.args.runs.items) (factor_lists max c.loop-run.factors) (lists_of max items) c.loop-run.invariant (ap (lists_of max) none))
