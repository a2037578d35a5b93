-- The entries stand for the list, before and after one more summand (`Sums`).
use Rattle.std.proofs.Common.{◌≡◌, [], ◌∷◌, ◌++◌, Option, Some, None, Result, Ok, Err, refl, ap, ◌∙◌, append_assoc, rules}
use Rattle.std.specs.Prelude.{OnErr}
use Rattle.std.specs.Map.{lookup}
use Rattle.std.specs.HashMap.Entry.{map_with_value}
use Rattle.std.specs.Option.{ok_or, unwrap_or}
use Rattle.form_frac.specs.Fraction.{Fraction, add}
use Rattle.form_collect.proofs.Lists.{same}
use Rattle.form_collect.proofs.Stands.{totals_from, overflow_from, stands_by_totals, stands_by_overflow}
use Rattle.form_collect.proofs.Sums.{totals_put, put_overflows}
use Rattle.form_collect.proofs.collector.Collector.add.Goals as goal

some_from : {E : Type 0} (o : Option Fraction) (e : E) (x : Fraction) → Ok x ≡ ok_or o e → o ≡ Some x
some_from None e x h = absurd (cc)
some_from (Some y) e x h = cc

none_from : {E : Type 0} (o : Option Fraction) (e f : E) → Err f ≡ ok_or o e → o ≡ None
none_from None e f h = refl
none_from (Some y) e f h = absurd (cc)

on_err : {T E : Type 0} (r : Result T E) (P : Type 0) → P → OnErr r P
on_err (Ok x) P h = tt
on_err (Err e) P h = h

-- a total has overflowed, and does so however the list goes on
pub returns-then-self-clause-ok : goal.returns-then-self-clause-ok
returns-then-self-clause-ok c = λ list h.
    stands_by_overflow c.args.self.now (list ++ c.args.item ∷ []) c.if-self.true (λ rest. rw append_assoc (overflow_from c.args.self.now list c.if-self.true h (c.args.item ∷ rest)))

pub returns-in_err-self-clause-err : goal.returns-in_err-self-clause-err
returns-in_err-self-clause-err c = on_err c.from_residual.result _ (λ list h.
    let same_entries : c.entry.follows.lender-at-none.entries ≡ c.args.self.now.sums.entries = search rules in
    stands_by_totals _ list c.if-self.false (rw same_entries (totals_from c.args.self.now list c.if-self.false h)))

-- one more summand
pub returns-in-Ok-clause-ok : goal.returns-in-Ok-clause-ok
returns-in-Ok-clause-ok c = λ list h.
    let item = c.args.item in
    let es = c.args.self.now.sums.entries in
    let raised = c.in-Ok.raised in
    let sum = c.or_insert-sum.result.now in
    let was = c.or_insert-sum.ensures.value ∙ ap (λ (o : Option Fraction). unwrap_or o c.zero.result) c.in_ok-self.ensures.value ∙ ap (unwrap_or (lookup (same item.term) es)) c.zero.ensures in
    let made : c.self-in-Ok-2-1.given.0 ≡ map_with_value c.in_ok-self.field-0 raised = search rules in
    let totals = totals_put list item es (map_with_value c.in_ok-self.field-0 raised).entries (lookup (same item.term) es) sum raised c.laws.ensures.lowest c.in_ok-self.ensures.unique refl was
    (some_from (add sum item.coefficient) _ raised c.in-Ok.ensures) (c.in_ok-self.ensures.update.1 raised) (totals_from c.args.self.now list c.if-self.false h) in
    stands_by_totals _ (list ++ item ∷ []) c.if-self.false (rw made totals)

pub returns-in-Err-clause-ok : goal.returns-in-Err-clause-ok
returns-in-Err-clause-ok c = λ list h.
    let item = c.args.item in
    let es = c.args.self.now.sums.entries in
    let sum = c.or_insert-sum.result.now in
    let was = c.or_insert-sum.ensures.value ∙ ap (λ (o : Option Fraction). unwrap_or o c.zero.result) c.in_ok-self.ensures.value ∙ ap (unwrap_or (lookup (same item.term) es)) c.zero.ensures in
    stands_by_overflow _ (list ++ item ∷ []) refl
    (put_overflows list item es (lookup (same item.term) es) sum c.laws.ensures.lowest refl was (none_from (add sum item.coefficient) _ c.in-Err.field-0 c.in-Err.ensures) (totals_from c.args.self.now list c.if-self.false h))
