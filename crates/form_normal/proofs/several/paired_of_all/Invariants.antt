-- The powers that were written as pairs and those of the factors that are left are all; and so far each factor is a term.
use Rattle.std.proofs.Common.{◌≡◌, ◌++◌, drop, map}
use Rattle.std.specs.List.{AllByRecursion}
use Rattle.form_term.specs.Term.{IsTerm}
use Rattle.form_normal.specs.Several.{paired_in}
use Rattle.form_normal.proofs.several.paired_of_all.Given as goal

abbrev pub invariant-loop-factor : goal.invariant-loop-factor
invariant-loop-factor l =
    (l.pairs.items ++ paired_in (map (λ m. m.term) (drop l.factor-index l.factors)) ≡ paired_in (map (λ m. m.term) l.factors))
    × (AllByRecursion IsTerm (map (λ m. m.term) (drop l.factor-index l.factors)) → AllByRecursion IsTerm (map (λ m. m.term) l.factors))
