-- what is left goes on from the renamings so far
use Rattle.std.proofs.Common.{◌≡◌, drop, map}
use Rattle.std.specs.List.{fold}
use Rattle.form_flow.specs.Indices.{and_dummy, become, dummies, indices_in}
use Rattle.form_flow.specs.Numbering.{AreNumbered}
use Rattle.form_flow.proofs.summing.dummies.Given as goal

abbrev pub invariant-loop-index : goal.invariant-loop-index
invariant-loop-index l =
    (fold (and_dummy (indices_in l.term)) l.renamings.items (drop l.index-index l.indices) ≡ dummies l.indices (indices_in l.term))
    × (l.there.items ≡ map (become l.renamings.items) (indices_in l.term))
    × AreNumbered l.there.items l.next
