use Rattle.std.proofs.Common.{◌≡◌, ◌≤◌, ◌-◌, ◌^◌, [], ◌∷◌, Some, suc, ℕ, length, replicate, rules, arith, subst, sym}
use Rattle.form_term.specs.declared.monomial.Monomial.{Monomial}
use Rattle.form_expand.specs.Walks.{all_of}
use Rattle.form_joined.specs.Goes.{Goes}
use Rattle.form_joined.specs.Powers.{AreKept, HasRoom, IsPower}
use Rattle.form_joined.specs.Products.{paired}
use Rattle.form_joined.proofs.Weighed.{WeightLaws}
use Rattle.form_levels.specs.Rows.{row_from}
use Rattle.form_levels.proofs.Rows.{row_at_once}
use Rattle.form_levels.proofs.rewriting.Rule.times.Goals as goal

pub returns-in-Some-2-clause-row : goal.returns-in-Some-2-clause-row
returns-in-Some-2-clause-row c =
    let laws : WeightLaws = record { moved = c.weights.ensures.moved; paired = c.weights.ensures.paired; each = c.weights.ensures.each; negated = c.weights.ensures.negated } in
    let max = c.args.self.now.limit in
    let list = c.args.list.now in
    let j = c.args.front in
    let n = c.args.times - 1 in
    let all : suc n ≡ c.args.times = omega arith in
    let ps = c.in-Some.power.now in
    let made = c.in-Some-2.made.items in
    let kept : AreKept list c.make.new.self = search rules in
    let fits : HasRoom (suc n) list j × IsPower list n ps = rw c.in-Some.is at c.behind.ensures list kept in
    let short : length list ^ c.args.times ≤ max = search rules in
    let product : paired (j ∷ []) ps ≡ Some made = search rules in
    subst (λ (k : ℕ). Goes (λ (m : Monomial). row_from max j.term (replicate k (all_of list)) m.coefficient) (j ∷ []) made) all
    (row_at_once laws max n j list ps made c.requires.some fits.1 fits.0 (subst (λ (k : ℕ). length list ^ k ≤ max) (sym all) short) product)
