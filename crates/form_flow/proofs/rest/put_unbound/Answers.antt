use Rattle.std.proofs.Common.{◌≡◌, ◌++◌, ap, replicate, sym, ◌∙◌}
use Rattle.std.proofs.lemmas.Result.{IfOk-weaker}
use Rattle.form_expand.specs.Expanding.{list_of_sum}
use Rattle.form_expand.specs.Listing.{Listing, limited}
use Rattle.form_expand.specs.Meanings.{no_meanings}
use Rattle.form_expand.specs.Runs.{lists_of}
use Rattle.form_flow.proofs.rest.put_unbound.Goals as goal

pub returns-in-Some : goal.returns-in-Some
returns-in-Some c =
    let max = c.args.limit in
    let l = list_of_sum max no_meanings c.args.right.now in
    IfOk-weaker c.put_run.result _ (λ lists. lists_of max lists.items ≡ lists_of max c.args.behind.items ++ replicate c.args.times l)
    (λ lists is.
    is max ∙ ap (λ (x : Listing). lists_of max c.args.behind.items ++ replicate c.args.times x) (ap (limited max) (sym c.in-Some.ensures.list) ∙ c.lists_of_trees.ensures.within max no_meanings c.args.right.now))
    c.put_run.ensures
