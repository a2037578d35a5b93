-- The powers that are counted and those that are left are those of the whole.
use Rattle.std.proofs.Common.{◌≡◌, ◌≤◌, ◌^◌, ◌∷◌, ◌+ℤ◌, nat_abs, to_z, of_z, SFits, rules}
use Rattle.std.specs.Int.{w128}
use Rattle.std.proofs.lemmas.Int.{to_z-of_z}
use Rattle.std.proofs.lemmas.List.{nil_from_length}
use Rattle.std.specs.declared.cmp.Ordering.TheVariants.{Equal}
use Rattle.form_term.specs.Term.{pair_order}
use Rattle.form_normal.proofs.Sums.{Summing, all_behind, summing_next, summing_ends}
use Rattle.form_normal.proofs.several.sum_of_first.Goals as goal

pub returns-then-ne-clause-sum : goal.returns-then-ne-clause-sum
returns-then-ne-clause-sum c =
    let first = c.args.first.now in
    let whole = c.args.first.now ∷ c.args.behind.now in
    let sum = to_z w128 c.loop-next.sum-bits in
    let m : Summing first whole sum (c.in-Some.next.now ∷ c.in-Some.others.now) = rw c.in-Some.ensures.cases.0 at c.loop-next.invariant in
    let other : pair_order first c.in-Some.next.now ≡ Equal → ⊥ = λ e. search rules in
    summing_ends first whole sum c.loop-next.rest.now c.loop-next.invariant c.requires.there
    (rw c.in-Some.ensures.cases.0 (all_behind first whole sum c.in-Some.next.now c.in-Some.others.now m other))

pub loop-next-preserved : goal.loop-next-preserved
loop-next-preserved c =
    let first = c.args.first.now in
    let whole = c.args.first.now ∷ c.args.behind.now in
    let sum = to_z w128 c.loop-next.sum-bits in
    let m : Summing first whole sum (c.in-Some.next.now ∷ c.in-Some.others.now) = rw c.in-Some.ensures.cases.0 at c.loop-next.invariant in
    let same : pair_order first c.in-Some.next.now ≡ Equal = search rules in
    let r = to_z w128 (of_z w128 c.from-sum-in-Some.result) in
    let is : r ≡ c.in-Some.next.now.exponent = search rules in
    let fits : SFits w128 (sum +ℤ r) = search rules in
    let small : nat_abs c.in-Some.next.now.exponent ≤ 2 ^ 31 = search rules in
    rw (to_z-of_z w128 (sum +ℤ r) fits, is) (summing_next first whole sum c.in-Some.next.now c.in-Some.others.now m same small)

pub returns-clause-sum : goal.returns-clause-sum
returns-clause-sum c =
    let first = c.args.first.now in
    let whole = c.args.first.now ∷ c.args.behind.now in
    let none = nil_from_length c.loop-next.rest.now c.in_default.ensures.cases in
    summing_ends first whole (to_z w128 c.loop-next.sum-bits) c.loop-next.rest.now c.loop-next.invariant c.requires.there (rw none tt)
