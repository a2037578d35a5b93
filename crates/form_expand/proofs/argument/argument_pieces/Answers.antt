use Rattle.std.proofs.Common.{sym, ap, ◌∙◌}
use Rattle.std.specs.Prelude.{Some}
use Rattle.form_term.specs.Term.{Call}
use Rattle.form_expand.specs.Alone.{pieces_unless_refused, arguments_alone}
use Rattle.form_expand.proofs.Alones.{alone_same}
use Rattle.form_expand.proofs.argument.argument_pieces.Goals as goal

pub returns-in_ok-into_call-in-Some-clause-pieces : goal.returns-in_ok-into_call-in-Some-clause-pieces
returns-in_ok-into_call-in-Some-clause-pieces c = λ a e.
    let max = c.args.limit in
    let all = c.args.names.now in
    ap (λ (k : Call). Some k.pieces) c.in_ok-into_call-in-Some.ensures
    ∙ sym c.in-Some.is ∙ c.in_ok-arguments.ensures
    ∙ ap (λ ps. pieces_unless_refused (arguments_alone max all ps)) e ∙ ap pieces_unless_refused (alone_same max all a)

pub returns-in-None-clause-pieces : goal.returns-in-None-clause-pieces
returns-in-None-clause-pieces c = λ a e.
    let max = c.args.limit in
    let all = c.args.names.now in
    sym c.in-None.is ∙ c.in_ok-arguments.ensures
    ∙ ap (λ ps. pieces_unless_refused (arguments_alone max all ps)) e ∙ ap pieces_unless_refused (alone_same max all a)
