use Rattle.std.proofs.Common.{ℕ, List, ap, sym, ◌∙◌, subst}
use Rattle.form_term.proofs.ReadBack.{call_arguments}
use Rattle.form_term.specs.Arguments.{arguments_of}
use Rattle.form_term.specs.declared.piece.Piece.{Piece}
use Rattle.form_term.specs.Term.{AreArguments}
use Rattle.form_flow.specs.Within.{is_named, takes_from}
use Rattle.form_flow.proofs.Untaken.{none_taken}
use Rattle.form_flow.proofs.within.takes.Goals as goal

pub returns-then-not-is_named : goal.returns-then-not-is_named
returns-then-not-is_named c =
    let ps = c.args.functions.now in
    let f = c.args.call.now in
    sym (none_taken ps f.function 1 (arguments_of f.pieces) (ap (is_named ps) (sym c.function-function.ensures) ∙ sym c.is_named.ensures ∙ c.if-not-is_named.true))

pub takes_one-requires : goal.takes_one-requires
takes_one-requires c = subst AreArguments (sym c.pieces.ensures.pieces) (call_arguments c.args.call.now c.pieces.ensures.lawful)

pub returns : goal.returns
returns c =
    let ps = c.args.functions.now in
    let f = c.args.call.now in
    c.takes_one.ensures
    ∙ ap (λ (qs : List Piece). takes_from ps c.function-function.result 1 (arguments_of qs)) c.pieces.ensures.pieces
    ∙ ap (λ (g : ℕ). takes_from ps g 1 (arguments_of f.pieces)) c.function-function.ensures
