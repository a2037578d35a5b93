use Rattle.std.proofs.Common.{[], arith}
use Rattle.std.proofs.lemmas.List.Elements.{All-nil}
use Rattle.std.specs.Prelude.{nat_abs, ◌<◌, ◌≤◌}
use Rattle.form_term.specs.declared.power.Power.{Power}
use Rattle.form_term.specs.Term.{largest_exponent}
use Rattle.form_term.specs.TermLaws.{symbols_lawful}
use Rattle.form_term.proofs.term.Term.one.Goals as goal

pub invariant_of-result : goal.invariant_of-result
invariant_of-result c = rw (c.new.ensures.items, c.new-2.ensures.items) (symbols_lawful [] (tt, All-nil (λ (p : Power). 0 < nat_abs p.exponent)) (All-nil (λ (p : Power). nat_abs p.exponent ≤ largest_exponent)) (omega arith), tt)
