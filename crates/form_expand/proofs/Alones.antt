-- Arguments that stand alone.
use Rattle.std.proofs.Common.{◌≡◌, ℕ, ◌-◌, List, [], ◌∷◌, ◌++◌, length, take, refl, sym, ap, ◌∙◌, arith, append-nil, length-append}
use Rattle.std.specs.Prelude.{Some, None, Ok, Err}
use Rattle.form_base.specs.declared.cause.Cause.{Cause}
use Rattle.form_term.specs.declared.piece.Piece as kept
use Rattle.form_term.specs.Term as terms
use Rattle.form_tree.specs.declared.tree.Piece.TheVariants as pieces
use Rattle.form_tree.specs.Tree as tree
use Rattle.form_tree.specs.Tree.{Argument, pieces_of_argument, pieces_of_sum}
use Rattle.form_expand.specs.Alone.{pieces_unless_refused, arguments_alone}
use Rattle.form_expand.specs.Expanding.{arguments_in}
use Rattle.form_expand.specs.Listing.{Listing}
use Rattle.form_expand.specs.Meanings.{Meanings}
use Rattle.form_expand.specs.Reading.{list_of_pieces}
use Rattle.form_expand.specs.Singles.{argument_of, one_argument}
use Rattle.form_expand.proofs.Trees.{pieces_of_tree}

-- all but the last of these
take_end : {X : Type 0} (xs : List X) (x : X) → take (length xs) (xs ++ x ∷ []) ≡ xs
take_end [] x = refl
take_end (y ∷ xs) x = ap (λ ys. y ∷ ys) (take_end xs x)

before_end : {X : Type 0} (xs : List X) (x : X) → take (length (xs ++ x ∷ []) - 1) (xs ++ x ∷ []) ≡ xs
before_end xs x =
    let e : length (xs ++ x ∷ []) - 1 ≡ length xs = omega (arith, length-append xs (x ∷ [])) in
    ap (λ n. take n (xs ++ x ∷ [])) e ∙ take_end xs x

-- what the pieces of an argument give is what the argument gives
pub alone_same : (max : ℕ) (all : Meanings) (a : Argument) → arguments_alone max all (pieces_of_argument a) ≡ arguments_in max all a
unfolding arguments_in
alone_same max all (tree.index i) = refl
alone_same max all (tree.vector v) = refl
alone_same max all (tree.field w) = refl
alone_same max all (tree.expression s) =
    ap (λ ps. one_argument (argument_of (list_of_pieces max all ps))) (before_end (pieces_of_sum s) pieces.EndOfArgument)
    ∙ ap (λ l. one_argument (argument_of l)) (pieces_of_tree max all s)

-- an argument was kept by its pieces
pub one_kept : (a : terms.Argument) (ps : List kept.Piece) → ps ≡ terms.pieces_of_argument a → Some ps ≡ pieces_unless_refused (Ok (a ∷ []))
one_kept a ps e = ap Some (e ∙ sym (append-nil (terms.pieces_of_argument a)))

-- and so was the expression of a list, or it is refused
pub expression_kept : (l : Listing) (a : terms.Argument) (ps : List kept.Piece) → argument_of l ≡ Ok a → ps ≡ terms.pieces_of_argument a → Some ps ≡ pieces_unless_refused (one_argument (argument_of l))
expression_kept l a ps e h = one_kept a ps h ∙ ap (λ r. pieces_unless_refused (one_argument r)) (sym e)

pub expression_none : (l : Listing) (cause : Cause) → argument_of l ≡ Err cause → None ≡ pieces_unless_refused (one_argument (argument_of l))
expression_none l cause e = ap (λ r. pieces_unless_refused (one_argument r)) (sym e)
