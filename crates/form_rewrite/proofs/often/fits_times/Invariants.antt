use Rattle.std.proofs.Common.{◌≡◌, map, drop}
use Rattle.form_rewrite.specs.Taking.{fits_times, least, times_at}
use Rattle.form_rewrite.proofs.often.fits_times.Given as goal

abbrev pub invariant-loop-one : goal.invariant-loop-one
invariant-loop-one l = least l.times (map (times_at l.term) (drop l.one-index l.others)) ≡ fits_times l.term l.takes
