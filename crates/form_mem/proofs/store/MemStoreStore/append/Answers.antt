use Rattle.form_mem.specs.Store.{runs_of}
use Rattle.form_mem.proofs.Runs.{live_within, live_held, held-extended, held-unchanged, length_held_small, lengths-Appended, KeepsOthers-same}
use Rattle.form_mem.proofs.store.MemStoreStore.append.Goals as goal

pub extend-requires : goal.extend-requires
extend-requires c = live_held c.args.self.now.runs.items c.args.run c.index_mut.result.now c.requires c.index_mut.ensures.value

pub returns-in-Ok-clause-longer : goal.returns-in-Ok-clause-longer
returns-in-Ok-clause-longer c =
    let runs = c.args.self.now.runs.items in
    lengths-Appended (runs_of c.args.self.now) _ c.args.run c.args.bytes.now
    (held-extended runs c.args.run c.index_mut.result.now c.extend.new.held c.args.bytes.now (live_within runs c.args.run c.requires) c.index_mut.ensures.value c.in-Ok.ensures.ok)

pub returns-in-Ok-clause-small : goal.returns-in-Ok-clause-small
returns-in-Ok-clause-small c =
    let runs = c.args.self.now.runs.items in
    length_held_small runs c.args.run c.extend.new.held (live_within runs c.args.run c.requires) c.in-Ok.ensures.small

pub returns-in-Ok-clause-appended : goal.returns-in-Ok-clause-appended
returns-in-Ok-clause-appended c =
    let runs = c.args.self.now.runs.items in
    held-extended runs c.args.run c.index_mut.result.now c.extend.new.held c.args.bytes.now (live_within runs c.args.run c.requires) c.index_mut.ensures.value c.in-Ok.ensures.ok

pub returns-in-Err-clause-unchanged : goal.returns-in-Err-clause-unchanged
returns-in-Err-clause-unchanged c =
    held-unchanged c.args.self.now.runs.items c.args.run c.index_mut.result.now c.extend.new.held c.index_mut.ensures.value c.in-Err.ensures.err

pub returns-in-Err-clause-others : goal.returns-in-Err-clause-others
returns-in-Err-clause-others c =
    KeepsOthers-same (runs_of c.args.self.now) _ c.args.run c.requires
    (held-unchanged c.args.self.now.runs.items c.args.run c.index_mut.result.now c.extend.new.held c.index_mut.ensures.value c.in-Err.ensures.err)
