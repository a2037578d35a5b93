use Rattle.std.proofs.Common.{◌-◌, refl}
use Rattle.form_expand.proofs.Repeating.{one_made, one_unmade, one_zero}
use Rattle.form_expand.proofs.repeated.one_more.Goals as goal

pub returns-in-Ok-Some : goal.returns-in-Ok-Some
returns-in-Ok-Some c =
    one_made c.args.front c.args.term.now c.in-Ok-Some.made c.args.left (c.args.left - 1) c.requires refl (rw c.in-Ok-Some.field-0-is at c.in-Ok-Some.ensures)

pub returns-in-Ok-None : goal.returns-in-Ok-None
returns-in-Ok-None c = one_zero c.args.front c.args.term.now c.args.left c.requires (rw c.in-Ok-None.field-0-is at c.in-Ok-None.ensures)

pub returns-in-Err : goal.returns-in-Err
returns-in-Err c = one_unmade c.args.front c.args.term.now c.args.left c.in-Err.error c.requires c.in-Err.ensures
