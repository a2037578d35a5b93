use Rattle.std.proofs.Common.{◌≡◌, [], refl, ap, rules}
use Rattle.std.specs.Vec.Iter.{into_iter_items}
use Rattle.form_flow.proofs.Behind.{nothing_left}
use Rattle.form_levels.specs.Becoming.{right_by, right_by_each}
use Rattle.form_levels.proofs.Becoming.{all_come_by, come_by, row_made}
use Rattle.form_levels.proofs.rewriting.Rule.by_each.Goals as goal

pub loop-bindings-init : goal.loop-bindings-init
loop-bindings-init c =
    let same : into_iter_items c.into_iter-bindings-iterator.result ≡ c.args.matches.items = search rules in
    record {
      lists = [];
      so_far = ap (right_by_each c.args.self.now c.args.times) same;
      fronts = c.in_ok-fronts.ensures.fronts c.args.front refl;
      limit = c.in_ok-fronts.ensures.limit;
    }

pub loop-bindings-preserved : goal.loop-bindings-preserved
loop-bindings-preserved c =
    let j = c.args.front in
    let so_far = c.loop-bindings.invariant in
    come_by c.args.self.now.limit (right_by c.args.self.now c.args.times) j c.args.matches.items (into_iter_items c.loop-bindings.bindings-iterator) (into_iter_items c.next.new.self) c.in-Some.bindings
    c.loop-bindings.fronts c.in-Some-2.more c.in-Some.ensures.steps.0 so_far (rw c.in-Some-2.is at c.in_ok-more.ensures.fronts j.term so_far.lists j so_far.fronts) (rw c.in-Some-2.is at c.in_ok-more.ensures.limit)

pub returns : goal.returns
returns c =
    let r = c.args.self.now in
    let j = c.args.front in
    let all = c.args.matches.items in
    let come = c.loop-bindings.invariant in
    row_made r.limit (right_by_each r c.args.times all) j c.loop-bindings.fronts c.into_vec.result.items come.limit
    (all_come_by r.limit (right_by r c.args.times) j all (into_iter_items c.loop-bindings.bindings-iterator) c.loop-bindings.fronts (nothing_left c.loop-bindings.bindings-iterator c.in-None.ensures.steps.0) come) c.into_vec.ensures
