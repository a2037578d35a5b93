use Rattle.std.proofs.Common.{◌≡◌, List, ap, fold, ◌∙◌, sym, rules}
use Rattle.std.specs.Vec.Iter.{into_iter_items}
use Rattle.form_expand.specs.Listing.{Listing}
use Rattle.form_flow.proofs.Behind.{all_behind, and_behind, nothing_left}
use Rattle.form_levels.specs.Groups.{lists_behind}
use Rattle.form_levels.proofs.groups.Rules.put_all.Goals as goal

pub loop-bindings-init : goal.loop-bindings-init
loop-bindings-init c =
    let same : into_iter_items c.into_iter-bindings-iterator.result ≡ c.args.matches.items = search rules in
    ap (fold (and_behind c.args.self.now.limit c.args.part.now.right c.args.times) (lists_behind c.args.behind.items)) same

pub loop-bindings-preserved : goal.loop-bindings-preserved
loop-bindings-preserved c =
    let max = c.args.self.now.limit in
    let s = c.args.part.now.right in
    ap (λ (ls : List Listing). fold (and_behind max s c.args.times) ls (into_iter_items c.next.new.self)) (rw c.in-Some-2.is at c.in_ok-more.ensures)
    ∙ ap (fold (and_behind max s c.args.times) (lists_behind c.loop-bindings.behind.items)) (sym c.in-Some.ensures.steps.0)
    ∙ c.loop-bindings.invariant

pub returns : goal.returns
returns c =
    let max = c.args.self.now.limit in
    let s = c.args.part.now.right in
    ap (fold (and_behind max s c.args.times) (lists_behind c.loop-bindings.behind.items)) (sym (nothing_left c.loop-bindings.bindings-iterator c.in-None.ensures.steps.0))
    ∙ c.loop-bindings.invariant
    ∙ all_behind max s c.args.times (lists_behind c.args.behind.items) c.args.matches.items
