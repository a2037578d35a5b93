use Rattle.std.proofs.Common.{◌≡◌, ◌++◌, ◌-◌, List, append-nil, length, map, ap, sym, ◌∙◌, arith, rules}
use Rattle.std.specs.Vec.Iter.{into_iter_items}
use Rattle.std.proofs.lemmas.List.{nil_from_length}
use Rattle.form_rewrite.specs.declared.taken.Cut.{Cut}
use Rattle.form_flow.specs.declared.between.Inserted.{Inserted}
use Rattle.form_flow.specs.Rests.{cut_list}
use Rattle.form_flow.proofs.Inserting.{comes_next, going_first, going_on, named, one_put, some_left}
use Rattle.form_flow.proofs.between.put_between.Goals as goal

pub loop-cut-init : goal.loop-cut-init
loop-cut-init c =
    let max = c.args.limit in
    let before = map (cut_list max) c.args.before.items in
    let same : into_iter_items c.into_iter-earlier.result ≡ c.args.before.items = search rules in
    record {
      going = going_first max c.args.before.items (into_iter_items c.into_iter-earlier.result) c.args.cuts.now same c.requires;
      made = ap (λ (is : List Inserted). map (cut_list max) is ++ map (named max c.args.right.now before c.args.names.now) c.args.cuts.now) c.new-between.ensures.items;
    }

pub put_in-requires : goal.put_in-requires
put_in-requires c = λ given.
    let max = c.args.limit in
    let before = map (cut_list max) c.args.before.items in
    let some = some_left max before c.in-Some.cut.now c.loop-cut.ahead.now c.in-Some.behind.now (into_iter_items c.loop-cut.earlier) c.in-Some.ensures.cases.0 c.loop-cut.invariant.going given in
    omega (arith, some)

pub loop-cut-preserved : goal.loop-cut-preserved
loop-cut-preserved c =
    let max = c.args.limit in
    let before = map (cut_list max) c.args.before.items in
    let s = c.args.right.now in
    let names = c.args.names.now in
    let cut = c.in-Some.cut.now in
    let ahead = c.loop-cut.ahead.now in
    let behind = c.in-Some.behind.now in
    let left = into_iter_items c.loop-cut.earlier in
    let is = c.in-Some.ensures.cases.0 in
    let put = c.in_ok-list.ensures (length before - length left) before c.loop-cut.invariant.going.lists (comes_next max before cut ahead behind left is c.loop-cut.invariant.going) in
    record {
      going = going_on max before cut ahead behind left is c.loop-cut.invariant.going (into_iter_items c.put_in.new.earlier) put.0;
      made = one_put max s before names cut behind c.in_ok-list.list c.loop-cut.between.items c.push.new.self.items (map (named max s before names) c.args.cuts.now) put.1 c.in_ok-push.ensures.items
          (ap (λ (cs : List Cut). map (cut_list max) c.loop-cut.between.items ++ map (named max s before names) cs) (sym is) ∙ c.loop-cut.invariant.made);
    }

pub returns : goal.returns
returns c =
    let max = c.args.limit in
    let before = map (cut_list max) c.args.before.items in
    let f = named max c.args.right.now before c.args.names.now in
    let made = map (cut_list max) c.loop-cut.between.items in
    sym (append-nil made) ∙ ap (λ (cs : List Cut). made ++ map f cs) (sym (nil_from_length c.loop-cut.ahead.now c.in_default.ensures.cases)) ∙ c.loop-cut.invariant.made
