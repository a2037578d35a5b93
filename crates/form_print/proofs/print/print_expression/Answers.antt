use Rattle.std.proofs.Common.{◌≡◌, [], arith}
use Rattle.std.proofs.lemmas.Grind.{common_steps}
use Rattle.form_print.specs.Joined.{beginning}
use Rattle.form_print.proofs.Pieces.{printed-terms}
use Rattle.form_outside.proofs.Written.{Takes_break, Takes_empty, Takes_then}
use Rattle.form_print.proofs.print.print_expression.Goals as goal

pub returns-in_err-put-clause-taken : goal.returns-in_err-put-clause-taken
returns-in_err-put-clause-taken g c =
    let text : c.as_bytes-2.result.now ≡ beginning c.args.names.now c.args.name.now c.in-Some.first.now = grind (arith, common_steps) in
    let put = rw text at (c.in_err-put.ensures.taken) in
    Takes_break _ _ _ [] _ _ _ _ _ _ (Takes_empty _ _ tt) put (printed-terms _ _ _ _ _ c.in-Some.ensures.cases.0) c.from_residual-in_err-put.ensures.0

pub returns-in_err-put_later_pieces-clause-taken : goal.returns-in_err-put_later_pieces-clause-taken
returns-in_err-put_later_pieces-clause-taken g c =
    let text : c.as_bytes-2.result.now ≡ beginning c.args.names.now c.args.name.now c.in-Some.first.now = grind (arith, common_steps) in
    let put = rw text at (c.in_ok-put.ensures.taken) in
    Takes_break _ _ _ _ _ _ _ _ _ _ put c.in_err-put_later_pieces.ensures.taken (printed-terms _ _ _ _ _ c.in-Some.ensures.cases.0) c.from_residual-in_err-put_later_pieces.ensures.0

pub returns-clause-taken : goal.returns-clause-taken
returns-clause-taken g c =
    let text : c.as_bytes-2.result.now ≡ beginning c.args.names.now c.args.name.now c.in-Some.first.now = grind (arith, common_steps) in
    let put = rw text at (c.in_ok-put.ensures.taken) in
    let later = Takes_then _ _ _ _ _ _ _ c.in_ok-put_later_pieces.ensures.taken c.put-3.ensures.taken in
    rw (printed-terms _ _ _ _ _ c.in-Some.ensures.cases.0) (Takes_then _ _ _ _ _ _ _ put later)
