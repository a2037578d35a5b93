use Rattle.std.proofs.Common.{◌≡◌}
use Rattle.form_collect.proofs.Places.{AreKeys}
use Rattle.form_collect.proofs.sorting.keys_of.Given as goal

-- each key's place is that of its term
abbrev pub invariant-loop-item : goal.invariant-loop-item
invariant-loop-item l = AreKeys l.first l.is_told l.terms l.keys.items l.item-index × (l.place ≡ l.item-index)
