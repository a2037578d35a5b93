use Rattle.std.proofs.Common.{◌+◌, [], drop, map, refl}
use Rattle.std.proofs.lemmas.List.{drop_all}
use Rattle.form_expand.proofs.Places.{drop_here}
use Rattle.form_levels.specs.Becoming.{put_named}
use Rattle.form_levels.specs.Stretches.{with_each, with_origin}
use Rattle.form_levels.proofs.Becoming.{all_come, come_on, row_made}
use Rattle.form_levels.proofs.rewriting.Rule.between.Goals as goal

pub loop-stretch-init : goal.loop-stretch-init
loop-stretch-init c = record {
  lists = [];
  so_far = refl;
  fronts = c.in_ok-fronts.ensures.fronts c.args.front refl;
  limit = c.in_ok-fronts.ensures.limit;
}

pub loop-stretch-preserved : goal.loop-stretch-preserved
loop-stretch-preserved c =
    let r = c.args.self.now in
    let j = c.args.front in
    let all = c.args.stretches.now in
    let i = c.loop-stretch.stretch-index in
    let so_far = c.loop-stretch.invariant in
    come_on r.limit (put_named r c.args.names.now) j all (drop i all) (drop (i + 1) all) c.stretch-item.result c.loop-stretch.fronts c.in-Some.more
    (drop_here all i c.stretch-item.result c.loop-stretch-test.true c.stretch-item.is) so_far
    (rw c.in-Some.is at c.in_ok-more.ensures.fronts j.term so_far.lists j so_far.fronts) (rw c.in-Some.is at c.in_ok-more.ensures.limit)

pub returns : goal.returns
returns c =
    let r = c.args.self.now in
    let put = put_named r c.args.names.now in
    let j = c.args.front in
    let all = c.args.stretches.now in
    row_made r.limit (with_each put (map with_origin all)) j c.loop-stretch.fronts c.into_vec.result.items c.loop-stretch.invariant.limit
    (all_come r.limit put j all (drop c.loop-stretch.stretch-index all) c.loop-stretch.fronts (drop_all c.loop-stretch.stretch-index all c.loop-stretch-test.false) c.loop-stretch.invariant) c.into_vec.ensures
