use Rattle.std.proofs.Common.{◌≡◌, ◌-◌}
use Rattle.form_tree.specs.Pattern.{Factors, pieces_of_factors}
use Rattle.form_rewrite.specs.Taking.{and_more}
use Rattle.form_rewrite.proofs.take.and_at_most.Given as goal

abbrev pub invariant-loop-made : goal.invariant-loop-made
invariant-loop-made l = (fs : Factors) → l.pattern.pieces ≡ pieces_of_factors fs →
    and_more (l.most - l._made) l.pattern.fixed fs l.taken ≡ and_more l.most l.pattern.fixed fs l.fn.taken
