use Rattle.std.proofs.Common.{Ok, ap, map}
use Rattle.form_module.specs.Kept.{as_stored}
use Rattle.form_module.proofs.Stays.{stands}
use Rattle.form_module.proofs.module.put_all.Goals as goal

pub returns : goal.returns
returns c =
    ap Ok (stands c.args.statements.now c.in_ok-changed.changed c.args.standing.items c.args.results.items _ _ _ _
    c.in_ok-changed.ensures (ap (map as_stored) c.new-after.ensures.empty) c.in_ok-keep.ensures c.in_ok-put.ensures c.in_ok-listed.ensures)
