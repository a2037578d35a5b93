use Rattle.std.proofs.Common.{◌≡◌, ◌∷◌, sym, ap, ◌∙◌, arith}
use Rattle.form_tree.specs.declared.tree.Piece.TheVariants.{EndOfArgument}
use Rattle.form_expand.proofs.Lones.{lone_argued}
use Rattle.form_expand.proofs.literal_arguments.one_piece.Goals as goal

pub returns : goal.returns
returns c =
    let piece = c.in-Some.piece.now in
    let rest = c.in-Some-split_first.rest.now in
    let is : c.args.pieces.now ≡ piece ∷ EndOfArgument ∷ rest = c.in-Some.ensures.cases.0 ∙ ap (λ ps. piece ∷ ps) (c.in-Some-split_first.ensures.cases.0 ∙ ap (λ p. p ∷ rest) c.in-EndOfArgument.is) in
    let added = sym c.is_subtracted.ensures ∙ c.if-is_subtracted.false in
    record {
      present = c.in-Some-of_piece.ensures.present;
      read = λ old new put. lone_argued c.args.limit c.args.names.now c.args.pieces.now piece rest c.in-Some-of_piece.lone old new is (omega (arith, c.if-limit-eq0.false)) c.in-Some-of_piece.ensures added put;
    }
