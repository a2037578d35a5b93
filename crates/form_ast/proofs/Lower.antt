-- A tree that is lawful where some parentheses are open is lawful where fewer are.
use Rattle.std.proofs.Common.{ℕ, ◌+◌, List, ◌<◌, ◌≤◌, Option, Some, None, arith}
use Rattle.form_ast.specs.declared.expr.Piece.{Piece}
use Rattle.form_ast.specs.declared.expr.Power.{Power}
use Rattle.form_ast.specs.declared.setting.Setting.{Setting}
use Rattle.form_ast.specs.declared.setting.Setting.TheVariants.{Pattern}
use Rattle.form_ast.specs.Syntax.{Sum, first, more, Product, one, times, over, Factor, factor, raised, Base, number, name, dot, delta, empty_call, call, parenthesis, Arguments, argument, further, Argument, expression, field}
use Rattle.form_ast.specs.Lawful.{most_open, ArePattern, ArePatternWithin, IsLawfulPower, IsLawfulSum, IsLawfulProduct, IsLawfulFactor, IsLawfulBase, IsLawfulArguments, IsLawfulArgument}

lower : (m n : ℕ) → m ≤ n → m + 1 ≤ n + 1
lower m n h = omega arith

below : (m n : ℕ) → m ≤ n → n < most_open → m < most_open
below m n h k = omega arith

lower_power : (power : Option Power) (m n : ℕ) → m ≤ n → IsLawfulPower n power → IsLawfulPower m power
lower_power None m n h l = tt
lower_power (Some p) m n h l = λ e. below m n h (l e)

mutual
  pub lower_sum : (s : Sum) (g : Setting) (m n : ℕ) → m ≤ n → IsLawfulSum g n s → IsLawfulSum g m s
  lower_sum (first sign p) g m n h l = lower_product p g m n h l
  lower_sum (more s sign p) g m n h l = (lower_sum s g m n h l.0, lower_product p g m n h l.1)

  lower_product : (p : Product) (g : Setting) (m n : ℕ) → m ≤ n → IsLawfulProduct g n p → IsLawfulProduct g m p
  lower_product (one f) g m n h l = lower_factor f g m n h l
  lower_product (times p f) g m n h l = (lower_product p g m n h l.0, lower_factor f g m n h l.1)
  lower_product (over p f) g m n h l = (lower_product p g m n h l.0, lower_factor f g m n h l.1, l.2)

  lower_factor : (f : Factor) (g : Setting) (m n : ℕ) → m ≤ n → IsLawfulFactor g n f → IsLawfulFactor g m f
  lower_factor (factor b power) g m n h l = (lower_base b g m n h l.0, lower_power power m n h l.1, l.2)
  lower_factor (raised b sign k) g m n h l = (lower_base b g m n h l.0, l.1)

  lower_base : (b : Base) (g : Setting) (m n : ℕ) → m ≤ n → IsLawfulBase g n b → IsLawfulBase g m b
  lower_base (number k) g m n h l = tt
  lower_base (name k) g m n h l = l
  lower_base (dot p q) g m n h l = l
  lower_base (delta spot a b) g m n h l = (below m n h l.0, l.1, l.2)
  lower_base (empty_call k) g m n h l = (below m n h l.0, l.1)
  lower_base (call k args) g m n h l = (below m n h l.0, l.1, lower_arguments args g (m + 1) (n + 1) (lower m n h) l.2)
  lower_base (parenthesis s) g m n h l = (below m n h l.0, lower_sum s g (m + 1) (n + 1) (lower m n h) l.1)

  lower_arguments : (args : Arguments) (g : Setting) (m n : ℕ) → m ≤ n → IsLawfulArguments g n args → IsLawfulArguments g m args
  lower_arguments (argument a) g m n h l = lower_argument a g m n h l
  lower_arguments (further args a) g m n h l = (lower_arguments args g m n h l.0, lower_argument a g m n h l.1)

  lower_argument : (a : Argument) (g : Setting) (m n : ℕ) → m ≤ n → IsLawfulArgument g n a → IsLawfulArgument g m a
  lower_argument (expression s) g m n h l = lower_sum s g m n h l
  lower_argument (field k) g m n h l = l

-- a pattern in parentheses is one alone
pub pattern_alone : (opened : ℕ) (list : List Piece) → ArePatternWithin opened list → ArePattern list
pattern_alone opened list h = record { tree = h.tree; lawful = lower_sum h.tree Pattern 0 opened (omega arith) h.lawful; is_pattern = h.is_pattern; pieces = h.pieces }
