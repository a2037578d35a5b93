use Rattle.std.proofs.Common.{ℕ, Option, List, length, sym}
use Rattle.std.proofs.lemmas.Result.{IfOk-weaker}
use Rattle.form_term.specs.declared.piece.Piece.{Piece}
use Rattle.form_tree.specs.declared.pattern.PatternPiece.{PatternPiece}
use Rattle.form_tree.specs.declared.pattern.PatternPiece.TheVariants as of_pattern
use Rattle.form_match.specs.Leading.{Takes}
use Rattle.form_match.specs.Places.{ground_of}
use Rattle.form_match.proofs.Fields.{bound_alone}
use Rattle.form_match.proofs.arguments.take_field.Goals as goal

pub returns-in-Some : goal.returns-in-Some
returns-in-Some c =
    bound_alone c.args.field c.args.pieces.now c.args.behind.now c.args.at.now (length (ground_of c.args.terms.now).inners) c.args.trail.now c.in-Some.value.now c.front_len.result
    (sym c.in-Some.ensures.found) c.requires.lawful c.front_len.ensures c.if-at-ne0.false

pub returns-in-None : goal.returns-in-None
returns-in-None c =
    let terms = length (ground_of c.args.terms.now).inners in
    let new = c.take_one_by_one-in-None.new.trail in
    IfOk-weaker c.take_one_by_one-in-None.result
    (λ (n : Option ℕ). (table : List (Option (List Piece))) (behind : List PatternPiece) → Takes table (of_pattern.Field c.args.field) behind c.args.pieces.now c.args.at.now terms c.args.trail.now new n)
    (λ (n : Option ℕ). (table : List (Option (List Piece))) → Takes table (of_pattern.Field c.args.field) c.args.behind.now c.args.pieces.now c.args.at.now terms c.args.trail.now new n)
    (λ n all table. all table c.args.behind.now) c.take_one_by_one-in-None.ensures
