use Rattle.std.proofs.Common.{◌≡◌, ℕ, ◌<◌, ◌≤◌, false}
use Rattle.form_tree.specs.declared.pattern.PatternPiece.TheVariants as pieces
use Rattle.form_match.specs.Factors.{is_fit}
use Rattle.form_match.proofs.choices.next_stretch.Given as goal

abbrev pub invariant-loop-start : goal.invariant-loop-start
invariant-loop-start l = (k : ℕ) → l.from ≤ k → k < l.start → is_fit l.host (pieces.Word l.count) l.behind k ≡ false
