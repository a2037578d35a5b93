-- What was counted and what the factors that are left have is the whole count.
use Rattle.std.proofs.Common.{◌≡◌, ◌+◌, ◌≤◌, drop, map}
use Rattle.std.specs.Prelude.{fold}
use Rattle.form_term.specs.Term.{imaginary_exponent}
use Rattle.form_normal.specs.Product.{imaginary_count}
use Rattle.form_normal.proofs.several.imaginary_count.Given as goal

abbrev pub invariant-loop-factor : goal.invariant-loop-factor
invariant-loop-factor l =
    l.count ≤ l.factor-index × fold (λ n k. n + k) l.count (map imaginary_exponent (map (λ m. m.term) (drop l.factor-index l.factors))) ≡ imaginary_count (map (λ m. m.term) l.factors)
