use Rattle.std.proofs.Common.{◌≡◌, fold, take}
use Rattle.form_flow.specs.Rests.{rest_in}
use Rattle.form_flow.specs.Rewriting.{and_part, untouched}
use Rattle.form_flow.proofs.rest.rest.Given as goal

abbrev pub invariant-loop-part : goal.invariant-loop-part
invariant-loop-part l = (l.rest.limit ≡ l.limit) × (rest_in l.rest ≡ fold (and_part l.limit) (untouched l.fn.term) (take l.part-index l.parts))
