-- What was put and what is left are the whole.
use Rattle.std.proofs.Common.{◌≡◌, ◌++◌, map, drop, string_bytes}
use Rattle.form_print.specs.Joined.{is_first_behind, starred}
use Rattle.form_print.proofs.factor.push_factors.Given as goal

abbrev pub invariant-loop-factor : goal.invariant-loop-factor
invariant-loop-factor g l =
    (string_bytes l.text ++ starred l.first (map (g.F.Factor.shown l.names) (drop l.factor-index l.factors)) ≡ string_bytes l.initial.text ++ starred l.is_first (map (g.F.Factor.shown l.names) l.factors))
    × (is_first_behind l.first (drop l.factor-index l.factors) ≡ is_first_behind l.is_first l.factors)
