use Rattle.std.proofs.Common.{◌≡◌, ◌+◌, arith}
use Rattle.form_expand.proofs.Repeating.{many_made}
use Rattle.form_expand.proofs.repeated.so_many_more.Goals as goal

pub returns : goal.returns
returns c =
    let count = c.saturating_sub-count.result in
    let all : c.args.left ≡ count + c.in-Some.rest = omega (arith, c.in-Some.ensures.0, c.in-Some.ensures.1) in
    many_made c.args.front.now c.args.term.now c.in-Some-2.made count c.in-Some.rest c.args.left (omega (arith, c.if-count-eq0.false)) all (rw c.in-Some-2.is at c.in_ok-made.ensures)
