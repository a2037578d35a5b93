use Rattle.std.proofs.Common.{map}
use Rattle.form_module.specs.Places.{work_at}
use Rattle.form_module.proofs.Placed.{definition_more}
use Rattle.form_module.proofs.works.add_definitions.Goals as goal

pub loop-place-preserved : goal.loop-place-preserved
loop-place-preserved c =
    definition_more c.args.statements.now (map (work_at c.args.statements.now) c.args.works.now.entries) c.loop-place.works.entries c.note.new.works.entries c.loop-place.place c.index-statements-place.result
    c.loop-place-test.true c.index-statements-place.is c.loop-place.invariant c.in_ok-note.ensures
