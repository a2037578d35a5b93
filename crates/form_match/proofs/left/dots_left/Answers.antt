use Rattle.std.proofs.Common.{ℕ, ◌+◌, ◌++◌, List, drop, sym, ap, subst, ◌∙◌}
use Rattle.form_term.specs.declared.power.DotPower.{DotPower}
use Rattle.form_match.specs.Fits.{FitsExponent}
use Rattle.form_match.specs.Left.{taken, dot_taken}
use Rattle.form_match.proofs.Remaining.{dots_from, dots_step}
use Rattle.form_match.proofs.left.dots_left.Goals as goal

pub lowered_dot-requires-clause-fits : goal.lowered_dot-requires-clause-fits
lowered_dot-requires-clause-fits c =
    subst (λ (n : ℕ). FitsExponent c.dot-item.result.exponent (taken (dot_taken n) c.args.takes.now)) (sym c.loop-dot.invariant.at)
    (c.requires.fits c.loop-dot.dot-index c.dot-item.result c.loop-dot-test.true c.dot-item.is)

pub loop-dot-preserved : goal.loop-dot-preserved
loop-dot-preserved c =
    let us = c.args.takes.now in
    let ds = c.args.dots.now in
    let i = c.loop-dot.dot-index in
    let n = c.loop-dot.place in
    record {
      at = ap (λ (m : ℕ). m + 1) c.loop-dot.invariant.at;
      made = ap (λ (l : List DotPower). l ++ dots_from (n + 1) us (drop (i + 1) ds)) c.in_ok-put_dot.ensures
          ∙ dots_step us ds c.loop-dot.left.items n i c.dot-item.result c.lowered_dot.result c.loop-dot.invariant.at c.loop-dot-test.true c.dot-item.is c.lowered_dot.ensures c.loop-dot.invariant.made;
    }
