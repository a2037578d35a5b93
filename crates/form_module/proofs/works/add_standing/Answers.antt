use Rattle.std.proofs.Common.{map, sym, ◌∙◌}
use Rattle.form_module.specs.Places.{work_at}
use Rattle.form_module.proofs.Placed.{standing_more}
use Rattle.form_module.proofs.works.add_standing.Goals as goal

pub loop-one-preserved : goal.loop-one-preserved
loop-one-preserved c = λ s same.
    standing_more s c.args.standing.now (map (work_at s) c.args.works.now.entries) c.loop-one.works.entries c.note_standing.new.works.entries c.loop-one.one-index c.one-item.result c.goes_through.result
    c.loop-one-test.true c.one-item.is (same c.one-item.result.expression ∙ sym c.goes_through.ensures) (c.loop-one.invariant s same) c.in_ok-note_standing.ensures
