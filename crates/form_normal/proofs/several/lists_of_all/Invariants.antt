-- What is joined and the lists that are left are those of all factors.
use Rattle.std.proofs.Common.{◌≡◌, drop, map}
use Rattle.form_normal.specs.Several.{lists_of, put_behind}
use Rattle.form_normal.proofs.several.lists_of_all.Given as goal

abbrev pub invariant-loop-factor : goal.invariant-loop-factor
invariant-loop-factor l = put_behind l.lists (lists_of (map (λ m. m.term) (drop l.factor-index l.factors))) ≡ lists_of (map (λ m. m.term) l.factors)
