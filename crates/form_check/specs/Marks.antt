-- That the marks of expressions agree with the statements.
use Rattle.std.specs.Prelude.{◌≡◌, ℕ, ◌&&◌, not, List}
use Rattle.form_right_side.specs.declared.standing.Standing.{Standing}
use Rattle.form_right_side.specs.Marks.{stands_in, is_defined_in, stays_in, AreMarksLawful}
use Rattle.form_check.specs.declared.checked.Checked.{Checked}
use Rattle.form_check.specs.Program.{Module}
use Rattle.form_check.specs.Standing.{defines, drops, stands}

-- the marks say what the modules before and the statements of this one say
pub record AreMarksOf (kept : Standing) (earlier : List Module) (statements : List Checked) : Type 0 where
  pub lawful : AreMarksLawful kept
  pub standing : (expression : ℕ) → stands_in kept expression ≡ stands earlier expression
  pub defining : (expression : ℕ) → is_defined_in kept expression ≡ defines statements expression
  pub staying : (expression : ℕ) → stays_in kept expression ≡ (stands earlier expression && not (drops statements expression))
