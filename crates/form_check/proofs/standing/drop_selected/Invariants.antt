use Rattle.std.proofs.Common.{◌≡◌, ℕ, ◌==◌, ◌&&◌, not, drop}
use Rattle.std.specs.List.{list_any}
use Rattle.form_right_side.specs.Marks.{current_in, stands_in, is_defined_in, stays_in, AreMarksLawful}
use Rattle.form_check.proofs.standing.drop_selected.Given as goal

-- what is left drops what all of them drop
abbrev pub invariant-loop-id : goal.invariant-loop-id
invariant-loop-id l = record {
  current : current_in l.standing ≡ current_in l.fn.standing;
  lawful : AreMarksLawful l.standing;
  standing : (e : ℕ) → stands_in l.standing e ≡ stands_in l.fn.standing e;
  defining : (e : ℕ) → is_defined_in l.standing e ≡ is_defined_in l.fn.standing e;
  staying : (e : ℕ) → (stays_in l.fn.standing e && not (list_any (λ id. id == e) l.id-items)) ≡ (stays_in l.standing e && not (list_any (λ id. id == e) (drop l.id-index l.id-items)));
}
