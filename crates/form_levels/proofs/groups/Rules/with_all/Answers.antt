use Rattle.std.proofs.Common.{◌≡◌, [], refl, ap, rules}
use Rattle.std.specs.Vec.Iter.{into_iter_items}
use Rattle.form_flow.proofs.Behind.{nothing_left}
use Rattle.form_levels.specs.Groups.{lists_behind, repeated}
use Rattle.form_levels.proofs.Becoming.{all_come_by, come_by, row_made}
use Rattle.form_levels.proofs.groups.Rules.with_all.Goals as goal

pub loop-one-init : goal.loop-one-init
loop-one-init c =
    let same : into_iter_items c.into_iter-one-iterator.result ≡ c.args.behind.items = search rules in
    record {
      lists = [];
      so_far = ap lists_behind same;
      fronts = c.in_ok-fronts.ensures.fronts c.args.front refl;
      limit = c.in_ok-fronts.ensures.limit;
    }

pub loop-one-preserved : goal.loop-one-preserved
loop-one-preserved c =
    let j = c.args.front in
    let so_far = c.loop-one.invariant in
    come_by c.args.self.now.limit repeated j c.args.behind.items (into_iter_items c.loop-one.one-iterator) (into_iter_items c.next.new.self) c.in-Some.one
    c.loop-one.fronts c.in-Some-2.more c.in-Some.ensures.steps.0 so_far (rw c.in-Some-2.is at c.in_ok-more.ensures.fronts j.term so_far.lists j so_far.fronts) (rw c.in-Some-2.is at c.in_ok-more.ensures.limit)

pub loop-one-preserved-in-Some-2 : goal.loop-one-preserved-in-Some-2
loop-one-preserved-in-Some-2 c =
    let j = c.args.front in
    let so_far = c.loop-one.invariant in
    come_by c.args.self.now.limit repeated j c.args.behind.items (into_iter_items c.loop-one.one-iterator) (into_iter_items c.next.new.self) c.in-Some.one
    c.loop-one.fronts c.in-Some-2.more c.in-Some.ensures.steps.0 so_far (rw c.in-Some-2.is at c.in_ok-more.ensures.fronts j.term so_far.lists j so_far.fronts) (rw c.in-Some-2.is at c.in_ok-more.ensures.limit)

pub returns : goal.returns
returns c =
    let max = c.args.self.now.limit in
    let j = c.args.front in
    let all = c.args.behind.items in
    let come = c.loop-one.invariant in
    row_made max (lists_behind all) j c.loop-one.fronts c.into_vec.result.items come.limit
    (all_come_by max repeated j all (into_iter_items c.loop-one.one-iterator) c.loop-one.fronts (nothing_left c.loop-one.one-iterator c.in-None.ensures.steps.0) come) c.into_vec.ensures
