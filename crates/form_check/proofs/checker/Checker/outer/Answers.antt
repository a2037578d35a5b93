use Rattle.form_check.proofs.Dropping.{marks-dropped}
use Rattle.form_check.proofs.checker.Checker.outer.Goals as goal

pub keep-requires-clause-marks : goal.keep-requires-clause-marks
keep-requires-clause-marks c =
    let old = c.args.self.now in
    let drops = c.in_ok-drop_selected-in-Drop.ensures in
    marks-dropped old.standing c.drop_selected.new.standing old.modules.items old.statements.items c.in_ok-which-in-Drop.which c.requires.consistent.marks drops.lawful drops.stands drops.defines drops.stays
