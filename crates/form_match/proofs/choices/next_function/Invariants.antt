use Rattle.std.proofs.Common.{◌≡◌, ℕ, ◌<◌, ◌≤◌, false}
use Rattle.form_tree.specs.declared.pattern.PatternPiece.TheVariants as pieces
use Rattle.form_match.specs.Factors.{is_fit}
use Rattle.form_match.proofs.choices.next_function.Given as goal

abbrev pub invariant-loop-candidate : goal.invariant-loop-candidate
invariant-loop-candidate l = (k : ℕ) → l.from ≤ k → k < l.candidate → is_fit l.host (pieces.Function l.name) l.behind k ≡ false
