use Rattle.std.proofs.Common.{◌≤◌, length, subst, arith, length-take, length-drop, ℕ}
use Rattle.std.specs.Io.KnownBytes.{Appends}
use Rattle.std.proofs.KnownBytes.{Appends-trans}
use Rattle.form_files.proofs.Known.{take_both}
use Rattle.form_files.proofs.out_sink.write_front.Goals as goal

pub loop-written-preserved : goal.loop-written-preserved
loop-written-preserved g c =
    let within : c.loop-written.written ≤ length c.args.bytes.now = c.loop-written.invariant.within in
    let both = Appends-trans _ _ _ _ _ c.loop-written.invariant.appended c.in-Ok.ensures.bytes in
    record {
      within = omega (arith, c.in-Ok.ensures.bound, length-take {A = ℕ}, length-drop {A = ℕ});
      appended = subst (Appends _ _) (take_both c.args.bytes.now c.loop-written.written c.in-Ok.count within) both;
    }
