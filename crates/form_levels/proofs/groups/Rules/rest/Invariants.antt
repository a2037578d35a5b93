use Rattle.std.proofs.Common.{◌≡◌, fold, take}
use Rattle.form_flow.specs.Rewriting.{and_part, untouched}
use Rattle.form_levels.specs.Groups.{rest_in}
use Rattle.form_levels.proofs.groups.Rules.rest.Given as goal

abbrev pub invariant-loop-part : goal.invariant-loop-part
invariant-loop-part l = rest_in l.rest ≡ fold (and_part l.self.limit) (untouched l.fn.term) (take l.part-index l.parts)
