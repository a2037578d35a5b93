use Rattle.std.proofs.Common.{◌≡◌, List, [], ◌++◌, flat_map, replicate, ap, ◌∙◌, rules}
use Rattle.form_bindings.specs.Values.{Binding}
use Rattle.form_flow.specs.Rewriting.{right_with}
use Rattle.form_levels.specs.Groups.{lists_behind}
use Rattle.form_levels.proofs.Several.{put_uncut}
use Rattle.form_levels.proofs.groups.Rules.and_taken.Goals as goal

pub returns : goal.returns
returns c =
    let max = c.args.self.now.limit in
    let right = c.args.part.now.right in
    let x = c.args.taken in
    let before = lists_behind c.args.behind.items in
    let uncut : x.cuts ≡ [] = search rules in
    put_uncut max right x before (lists_behind c.in-Some.lists.items) uncut
    ((rw c.in-Some.is at c.in_ok-lists.ensures) ∙ ap (λ (ms : List (List Binding)). before ++ flat_map (λ bs. replicate x.times (right_with max right bs)) ms) c.into_vec-matches.ensures)
