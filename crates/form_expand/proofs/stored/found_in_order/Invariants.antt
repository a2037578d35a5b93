use Rattle.std.proofs.Common.{◌≡◌, drop}
use Rattle.form_expand.specs.Stored.{terms_in}
use Rattle.form_expand.proofs.stored.found_in_order.Given as goal

abbrev pub invariant-loop-one : goal.invariant-loop-one
invariant-loop-one l = terms_in l.stored l.expression ≡ terms_in (drop l.one-index l.stored) l.expression
