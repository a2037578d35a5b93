use Rattle.std.proofs.Common.{rules}
use Rattle.std.specs.Ordering.{is_lt}
use Rattle.std.proofs.lemmas.Fn.{always_returns_same}
use Rattle.std.proofs.lemmas.List.Sorted.{ranks_by}
use Rattle.form_collect.specs.Keys.{keyed_order}
use Rattle.form_collect.specs.declared.sorting.Keyed.{Keyed}
use Rattle.form_collect.proofs.Places.{keyed_order_total}
use Rattle.form_collect.proofs.sorting.sort_keys.Goals as goal

pub returns-clause-rising : goal.returns-clause-rising
returns-clause-rising c =
    let terms = c.args.terms.now in
    c.sort_unstable_by.ensures.sorted (λ a b. is_lt (keyed_order terms a b)) (ranks_by (keyed_order_total terms) (λ (k : Keyed). k)) (always_returns_same _ _ _ (λ a r g k. search rules))
