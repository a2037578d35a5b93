use Rattle.std.proofs.Common.{sym, arith, rules}
use Rattle.std.proofs.lemmas.Bool.{OnTrue_at}
use Rattle.std.proofs.lemmas.List.{nil_from_length}
use Rattle.form_levels.specs.Heaps.{limits_of}
use Rattle.form_levels.proofs.Carrying.{none_so_far, more_so_far, all_so_far}
use Rattle.form_levels.proofs.levels.Levels.rewrite.Goals as goal

pub loop-term-init : goal.loop-term-init
loop-term-init c = record {
  so_far = none_so_far _ _ _ _ _ c.into_iter-term-iterator.ensures.into_iter_gives.0 c.new-idle.ensures.items;
  kept = search rules;
}

pub loop-term-preserved : goal.loop-term-preserved
loop-term-preserved c =
    let term = c.in-Some.term in
    let at = limits_of c.args.self.now in
    let runs = c.in_ok-rewritten.ensures.rewritten at (sym c.limit-limit.ensures) in
    record {
      so_far = more_so_far _ _ _ _ _ _ _ _ _ term c.in-Some.ensures.steps.0 c.loop-term.invariant.so_far (OnTrue_at c.if-not-branch.false (c.in_ok-put_rewritten.ensures at c.args.group.now term runs));
      kept = search rules;
    }

pub returns : goal.returns
returns c = all_so_far _ _ _ _ _ _ (nil_from_length c.loop-term.term-iterator.rest.items (omega (arith, c.in-None.ensures.steps))) c.loop-term.invariant.so_far
