use Rattle.std.proofs.Common.{◌≡◌, ◌-◌, length, take, sym, ap, ◌∙◌, rules}
use Rattle.form_term.specs.Monomial.{summands_of}
use Rattle.form_term.specs.Term.{expression as sum_of}
use Rattle.form_expand.specs.Reading.{list_of_pieces}
use Rattle.form_expand.specs.Singles.{argument_of}
use Rattle.form_expand.specs.Streams.{stream_left}
use Rattle.form_expand.proofs.Alones.{expression_kept, expression_none}
use Rattle.form_expand.proofs.argument.expression.Goals as goal

pub returns-in-Ok : goal.returns-in-Ok
returns-in-Ok c =
    let same : c.deref.result.now ≡ c.in-Ok.terms.items = search rules in
    let max = c.args.limit in
    let all = c.args.names.now in
    let ps = c.args.pieces.now in
    let within = c.split_at.result.0.now in
    let front : within ≡ take (length ps - 1) ps = c.split_at.ensures.front ∙ ap (λ n. take n ps) c.saturating_sub.ensures in
    let whole : stream_left c.new-list.result ≡ list_of_pieces max all within = rw (c.new.ensures.limit, c.new.ensures.names) at c.new-list.ensures.pieces in
    let collected = rw c.in-Ok.is at c.in_ok-terms.ensures in
    expression_kept (list_of_pieces max all (take (length ps - 1) ps)) (sum_of (summands_of c.in-Ok.terms.items)) c.in_ok-with_expression-in-Ok.field-0
    (ap (λ qs. argument_of (list_of_pieces max all qs)) (sym front) ∙ ap argument_of (sym whole) ∙ collected.argument)
    (rw (same, c.new-in-Ok.ensures) at c.in_ok-with_expression-in-Ok.ensures)

pub returns : goal.returns
returns c =
    let max = c.args.limit in
    let all = c.args.names.now in
    let ps = c.args.pieces.now in
    let within = c.split_at.result.0.now in
    let front : within ≡ take (length ps - 1) ps = c.split_at.ensures.front ∙ ap (λ n. take n ps) c.saturating_sub.ensures in
    let whole : stream_left c.new-list.result ≡ list_of_pieces max all within = rw (c.new.ensures.limit, c.new.ensures.names) at c.new-list.ensures.pieces in
    let collected = rw c.in-Err.is at c.in_ok-terms.ensures in
    expression_none (list_of_pieces max all (take (length ps - 1) ps)) c.in-Err.field-0.cause
    (ap (λ qs. argument_of (list_of_pieces max all qs)) (sym front) ∙ ap argument_of (sym whole) ∙ collected)
