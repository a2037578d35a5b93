use Rattle.std.proofs.Common.{◌≡◌, ℕ, ◌+◌, ◌≤◌, drop}
use Rattle.std.specs.Prelude.{option_map}
use Rattle.form_match.specs.Parts.{single_count}
use Rattle.form_match.proofs.arguments.single_count.Given as goal

abbrev pub invariant-loop-piece : goal.invariant-loop-piece
invariant-loop-piece l = record {
  counted : single_count l.pieces ≡ option_map (λ (n : ℕ). l.count + n) (single_count (drop l.piece-index l.pieces));
  few : l.count ≤ l.piece-index;
}
