use Rattle.std.proofs.Common.{◌≡◌, Bool, true, false, List, refl, ap, sym, ◌∙◌}
use Rattle.std.specs.Prelude.{if◌then◌else◌}
use Rattle.std.specs.Ordering.{nat_cmp, bool_cmp, ordering_then}
use Rattle.std.specs.declared.cmp.Ordering.{Ordering}
use Rattle.form_term.specs.declared.power.Power.{Power}
use Rattle.form_term.specs.Term.{Term, order, imaginary_exponent, symbols_order, others_order}
use Rattle.form_term.specs.TermLaws.{equal_exactly}
use Rattle.form_term.proofs.order.compare.Goals as goal

order_by_parts : (t u : Term) → order t u ≡ ordering_then (nat_cmp (imaginary_exponent t) (imaginary_exponent u)) (ordering_then (symbols_order t.symbols u.symbols) (others_order t.others u.others))
unfolding order
order_by_parts t u = refl

-- `false` and `true` compare as the exponents that they stand for
as_exponents : (b c : Bool) → bool_cmp b c ≡ nat_cmp (if b then 1 else 0) (if c then 1 else 0)
as_exponents true true = refl
as_exponents true false = refl
as_exponents false true = refl
as_exponents false false = refl

-- an order by its three parts
together : (o i r s q i' s' q' : Ordering) → o ≡ ordering_then i r → r ≡ ordering_then s q → i ≡ i' → s ≡ s' → q ≡ q' → o ≡ ordering_then i' (ordering_then s' q')
together o i r s q i' s' q' e f g h k = rw (← k, ← h, ← g, ← f) e

pub returns-clause-order : goal.returns-clause-order
returns-clause-order c =
    let imaginary : c.cmp-imaginary.result ≡ nat_cmp (imaginary_exponent c.args.left.now) (imaginary_exponent c.args.right.now) =
    c.cmp-imaginary.ensures ∙ ap (λ (b : Bool). bool_cmp b c.is_imaginary-2.result) c.is_imaginary.ensures ∙ ap (bool_cmp c.args.left.now.others.is_imaginary) c.is_imaginary-2.ensures ∙ as_exponents c.args.left.now.others.is_imaginary c.args.right.now.others.is_imaginary in
    let symbols : c.compare_symbols-symbols.result ≡ symbols_order c.args.left.now.symbols c.args.right.now.symbols =
    c.compare_symbols-symbols.ensures ∙ ap (λ (ps : List Power). symbols_order ps c.powers-2.result.now) c.powers.ensures.powers ∙ ap (symbols_order c.args.left.now.symbols) c.powers-2.ensures.powers in
    together c.then.result c.cmp-imaginary.result c.or_by_others.result c.compare_symbols-symbols.result (others_order c.args.left.now.others c.args.right.now.others)
    (nat_cmp (imaginary_exponent c.args.left.now) (imaginary_exponent c.args.right.now)) (symbols_order c.args.left.now.symbols c.args.right.now.symbols) (others_order c.args.left.now.others c.args.right.now.others)
    c.then.ensures c.or_by_others.ensures imaginary symbols refl
    ∙ sym (order_by_parts c.args.left.now c.args.right.now)

pub returns-clause-equal : goal.returns-clause-equal
returns-clause-equal c =
    let h = returns-clause-order c in
    let both = equal_exactly c.args.left.now c.args.right.now c.powers.ensures.lawful c.powers-2.ensures.lawful in
    (λ e. both.0 (sym h ∙ e), λ e. h ∙ both.1 e)
