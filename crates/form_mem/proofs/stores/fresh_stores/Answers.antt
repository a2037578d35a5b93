use Rattle.std.proofs.Common.{◌≡◌, [], length, arith, subst, sym, ap, ◌∙◌}
use Rattle.std.proofs.lemmas.List.{length-append}
use Rattle.std.proofs.lemmas.List.Elements.{All-push}
use Rattle.form_outside.specs.Runs.{Contents, HasNoLiveRun}
use Rattle.form_mem.specs.declared.store.MemStore.{MemStore}
use Rattle.form_outside.specs.Runs.{lengths_in}
use Rattle.form_mem.specs.Store.{runs_of, lengths_of}
use Rattle.form_mem.proofs.stores.fresh_stores.Goals as goal

-- a store without runs has no live one
no_live_run : (store : MemStore) → runs_of store ≡ [] → HasNoLiveRun (lengths_of store)
no_live_run store none = let P : Contents → Type 0 = λ runs. HasNoLiveRun (lengths_in runs) in subst P (sym none) (λ k d h. absurd (omega arith))

pub loop-made-preserved : goal.loop-made-preserved
loop-made-preserved c = record {
  count = ap length c.in_ok-push.ensures.items ∙ length-append c.loop-made.stores.items _ ∙ omega arith;
  empty = rw c.in_ok-push.ensures.items (All-push (λ store. HasNoLiveRun (lengths_of store)) c.loop-made.stores.items c.new.result c.loop-made.invariant.empty (no_live_run c.new.result c.new.ensures));
}
