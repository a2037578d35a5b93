use Rattle.std.proofs.Common.{◌≡◌, ◌++◌, length, map}
use Rattle.std.specs.Vec.Iter.{into_iter_items}
use Rattle.form_flow.specs.Rests.{cut_list}
use Rattle.form_flow.proofs.Inserting.{Going, named}
use Rattle.form_flow.proofs.between.put_between.Given as goal

abbrev pub invariant-loop-cut : goal.invariant-loop-cut
invariant-loop-cut l = record {
  going : Going l.limit (map (cut_list l.limit) l.fn.before.items) l.ahead (into_iter_items l.earlier);
  made : map (cut_list l.limit) l.between.items ++ map (named l.limit l.right (map (cut_list l.limit) l.fn.before.items) l.names) l.ahead
      ≡ map (named l.limit l.right (map (cut_list l.limit) l.fn.before.items) l.names) l.cuts;
}

abbrev pub decreases-loop-cut : goal.decreases-loop-cut
decreases-loop-cut l = length l.ahead
