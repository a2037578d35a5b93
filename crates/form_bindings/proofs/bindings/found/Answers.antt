use Rattle.std.proofs.Common.{true, false, sym, ◌∙◌}
use Rattle.form_bindings.proofs.Lookups.{looked_up, looked_through}
use Rattle.form_bindings.proofs.bindings.found.Goals as goal

pub returns-then-is_of : goal.returns-then-is_of
returns-then-is_of c =
    sym (c.loop-entry.invariant ∙ looked_up c.args.pieces.now c.args.entries.now c.args.wildcard.now c.loop-entry.entry-index c.entry-item.result true c.loop-entry-test.true c.entry-item.is c.if-is_of.ensures)

pub loop-entry-preserved : goal.loop-entry-preserved
loop-entry-preserved c =
    c.loop-entry.invariant ∙ looked_up c.args.pieces.now c.args.entries.now c.args.wildcard.now c.loop-entry.entry-index c.entry-item.result false c.loop-entry-test.true c.entry-item.is c.if-is_of.ensures

pub returns : goal.returns
returns c = sym (c.loop-entry.invariant ∙ looked_through c.args.pieces.now c.args.entries.now c.args.wildcard.now c.loop-entry.entry-index c.loop-entry-test.false)
