use Rattle.form_collect.proofs.Places.{StillRise, IsFirst}
use Rattle.form_collect.proofs.sorting.first_symbol.Given as goal

abbrev pub invariant-loop-item : goal.invariant-loop-item
invariant-loop-item l = IsFirst l.terms l.first l.item-index × StillRise l.terms l.first l.item-index
