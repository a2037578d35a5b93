use Rattle.std.proofs.Common.{rules}
use Rattle.std.specs.Ordering.{is_lt}
use Rattle.std.proofs.lemmas.List.Sorted.{ranks_by, answers_always}
use Rattle.form_term.specs.TermLaws.{order_total}
use Rattle.form_term.specs.declared.monomial.Monomial.{Monomial}
use Rattle.form_collect.specs.Keys.{term_order}
use Rattle.form_collect.proofs.sorting.sort_plainly.Goals as goal

pub returns : goal.returns
returns c = record {
  moved = c.sort_unstable_by.ensures.permutation;
  rising = c.sort_unstable_by.ensures.sorted (λ a b. is_lt (term_order a b)) (ranks_by order_total (λ (m : Monomial). m.term)) (answers_always _ _ _ (λ f a r g k. search rules));
}
