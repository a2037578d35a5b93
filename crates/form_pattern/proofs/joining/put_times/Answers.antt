use Rattle.std.proofs.Common.{sym}
use Rattle.std.proofs.lemmas.List.{append-nil}
use Rattle.form_pattern.proofs.Joined.{times-made}
use Rattle.form_pattern.proofs.joining.put_times.Goals as goal

pub loop-made-init : goal.loop-made-init
loop-made-init c = sym (append-nil c.args.out.now.items)

pub loop-made-preserved : goal.loop-made-preserved
loop-made-preserved c = times-made c.loop-made._made c.args.pieces.now c.args.out.now.items c.loop-made.out.items c.put_copies.new.out.items c.loop-made.invariant c.in_ok-put_copies.ensures
