use Rattle.std.proofs.Common.{◌≡◌, All, length}
use Rattle.form_outside.specs.Runs.{HasNoLiveRun}
use Rattle.form_mem.specs.Store.{lengths_of}
use Rattle.form_mem.proofs.stores.fresh_stores.Given as goal

-- so many stores are made, each without runs
abbrev pub invariant-loop-made : goal.invariant-loop-made
invariant-loop-made l = record {
  count : length l.stores.items ≡ l._made;
  empty : All (λ store. HasNoLiveRun (lengths_of store)) l.stores.items;
}
