use Rattle.std.proofs.Common.{ap, ◌∙◌, ◌+◌, drop, map, min}
use Rattle.form_rewrite.specs.Taking.{least, times_at}
use Rattle.form_rewrite.proofs.Fitting.{least_more}
use Rattle.form_rewrite.proofs.often.fits_times.Goals as goal

pub loop-one-preserved : goal.loop-one-preserved
loop-one-preserved c =
    ap (λ n. least n (map (times_at c.args.term.now) (drop (c.loop-one.one-index + 1) c.in-Some.others.now))) (c.min-times.ensures ∙ ap (min c.loop-one.times) c.times_of.ensures)
    ∙ least_more c.args.term.now c.loop-one.times c.in-Some.others.now c.loop-one.one-index c.one-item.result c.loop-one-test.true c.one-item.is
    ∙ c.loop-one.invariant
