use Rattle.std.proofs.Common.{◌+◌, ◌-◌, arith, ap, ◌∙◌}
use Rattle.std.specs.Prelude.{Some, None}
use Rattle.std.proofs.lemmas.Result.{err_from_is_err_and}
use Rattle.form_expand.specs.Kept.{listing, rest_at, end_of}
use Rattle.form_expand.specs.Left.{times_by}
use Rattle.form_expand.specs.Listing.{limited, before}
use Rattle.form_expand.proofs.Listings.{limited_nothing}
use Rattle.form_expand.proofs.Places.{spent}
use Rattle.form_expand.proofs.Taking.{at_end, limited_first, limited_end, gives_last, gives_unmade, times_by_end}
use Rattle.form_expand.proofs.walk.Walk.last_times.Goals as goal

pub returns-in_default-clause-next : goal.returns-in_default-clause-next
returns-in_default-clause-next c = λ max one.
    let w = c.args.self.now in
    let none = limited_end max w.place (end_of w.whole.end) (rest_at w.place (listing w.whole)) c.in_default.ensures.first ∙ ap at_end one.done in
    (ap (times_by (Some c.args.front)) none ∙ times_by_end (Some c.args.front) None, none)

pub returns-in_err-made-clause-next : goal.returns-in_err-made-clause-next
returns-in_err-made-clause-next c = λ max one.
    let w = c.args.self.now in
    let list = listing w.whole in
    let left = Some c.args.front in
    let p = err_from_is_err_and c.from_residual.result c.from_residual.ensures.1 in
    let here = limited (max - w.place) (rest_at w.place list) in
    let behind = limited (max - (w.place + 1)) (rest_at (w.place + 1) list) in
    rw (p.1, p.2)
    (gives_unmade left c.in-Some.term.now here behind (c.in_err-made.field-0.0) here
    (limited_first max w.place c.in-Some.term.now (rest_at w.place list) (rest_at (w.place + 1) list) c.in-Some.ensures.first.0 one.within) c.in_err-made.ensures)

pub returns-clause-next : goal.returns-clause-next
returns-clause-next c = λ max one.
    let w = c.args.self.now in
    let list = listing w.whole in
    let last = spent list (w.place + 1) one.done (omega (arith, one.last)) in
    let none = λ (n : _). ap (limited n) last ∙ limited_nothing n in
    let here = limited (max - w.place) (rest_at w.place list) in
    let first = limited_first max w.place c.in-Some.term.now (rest_at w.place list) (rest_at (w.place + 1) list) c.in-Some.ensures.first.0 one.within ∙ ap (before c.in-Some.term.now) (none (max - (w.place + 1))) in
    gives_last (Some c.args.front) c.in-Some.term.now c.in_ok-made.made here (limited (max - (w.place + 1)) (rest_at (w.place + 1) list)) first c.in_ok-made.ensures (none (max - (w.place + 1)))
