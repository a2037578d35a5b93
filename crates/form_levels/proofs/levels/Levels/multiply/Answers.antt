use Rattle.std.proofs.Common.{ℕ, refl, sym, ap, ◌∙◌, arith}
use Rattle.std.proofs.lemmas.Bool.{OnTrue_at}
use Rattle.std.proofs.lemmas.List.{nil_from_length}
use Rattle.form_expand.specs.Expanding.{list_of_sum}
use Rattle.form_expand.specs.Meanings.{no_meanings}
use Rattle.form_expand.specs.Walks.{all_of}
use Rattle.form_levels.proofs.Carrying.{none_so_far, more_so_far, all_so_far, acted_more}
use Rattle.form_levels.proofs.levels.Levels.multiply.Goals as goal

pub loop-term-init : goal.loop-term-init
loop-term-init c = none_so_far _ _ _ _ _ c.into_iter-term-iterator.ensures.into_iter_gives.0 refl

pub loop-term-preserved : goal.loop-term-preserved
loop-term-preserved c =
    let term = c.in-Some-term.term in
    let right = c.args.right.now in
    let same =
    ap (λ (n : ℕ). list_of_sum n no_meanings right) (sym c.limit-limit.ensures)
    ∙ (rw c.in-Some.is at c.in_ok-list.ensures)
    ∙ ap all_of (sym c.terms.ensures) in
    let runs = OnTrue_at c.if-not-branch.false (c.in_ok-multiply_one.ensures right same) in
    more_so_far _ _ _ _ _ _ _ _ _ term c.in-Some-term.ensures.steps.0 c.loop-term.invariant (acted_more _ term _ _ _ runs)

pub returns : goal.returns
returns c = rw c.new.ensures.items (all_so_far _ _ _ _ _ _ (nil_from_length c.loop-term.term-iterator.rest.items (omega (arith, c.in-None.ensures.steps))) c.loop-term.invariant)
