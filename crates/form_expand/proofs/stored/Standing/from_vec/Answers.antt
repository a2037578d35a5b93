use Rattle.std.proofs.Common.{◌+◌, leb, leb-true, get_or, sym, rules, of_calls}
use Rattle.std.proofs.lemmas.Fn.{always_returns_same}
use Rattle.std.proofs.lemmas.List.Sorted.{IsNonDecreasingBy-from_all_adjacent}
use Rattle.form_expand.specs.declared.stored.Stored.{Stored}
use Rattle.form_expand.proofs.stored.Standing.from_vec.Goals as goal

pub invariant_of-result : goal.invariant_of-result
invariant_of-result c = λ yes.
    let h = c.is_sorted_by-rises.ensures.cases (λ (x y : Stored). leb x.expression y.expression) (always_returns_same _ _ _ (λ a r f k. search (rules, of_calls))) in
    let adjacent = rw (c.deref.ensures.value, yes) at h in
    IsNonDecreasingBy-from_all_adjacent (λ (s : Stored). s.expression) c.args.items.items
    (λ k d within. leb-true ((get_or c.args.items.items k d).expression) ((get_or c.args.items.items (k + 1) d).expression) (sym (adjacent k d within)))
