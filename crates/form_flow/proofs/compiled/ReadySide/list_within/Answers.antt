use Rattle.std.proofs.Common.{◌≡◌, rules}
use Rattle.form_tree.specs.Building.{sum_of}
use Rattle.form_flow.proofs.Readying.{kept_within}
use Rattle.form_flow.proofs.compiled.ReadySide.list_within.Goals as goal

pub returns-in-Some-clause-list : goal.returns-in-Some-clause-list
returns-in-Some-clause-list c =
    let s = c.self.inside in
    let same : c.args.limit ≡ s.limit = search rules in
    kept_within c.args.limit s.limit (sum_of s.pieces.now) c.args.self.now s.fixed c.in-Some.list c.as_slice.result.now same c.self.view_is c.in-Some.is c.as_slice.ensures.value c.self.invariant.1
