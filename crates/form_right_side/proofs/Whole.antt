-- A whole right side.
use Rattle.std.proofs.Common.{◌≡◌, ℕ, Bool, List, [], ◌∷◌, ◌++◌, Option, Some, None, Result, Ok, refl, sym, ap, ◌∙◌}
use Rattle.form_names.specs.Names.{Entry}
use Rattle.form_ast.specs.declared.expr.Piece.{Piece}
use Rattle.form_ast.specs.declared.expr.Piece.TheVariants.{EndOfCall}
use Rattle.form_ast.specs.Building.{tree_of}
use Rattle.form_ast.specs.Lawful.{AreLawful, AreRight}
use Rattle.form_ast.specs.Syntax as syntax
use Rattle.form_tree.specs.declared.tree.Piece as resolved
use Rattle.form_tree.specs.declared.tree.Piece.TheVariants as resolved_pieces
use Rattle.form_tree.specs.Tree as tree
use Rattle.form_tree.specs.Tree.{pieces_of_sum, pieces_of_argument}
use Rattle.form_right_side.specs.declared.error.CheckError.{CheckError}
use Rattle.form_right_side.specs.declared.error.CheckError.TheVariants.{Refused, Memory}
use Rattle.form_right_side.specs.declared.walk.Place.TheVariants.{Sum}
use Rattle.form_right_side.specs.Refusal.{Refusal, IsRefused, ◌>>=◌}
use Rattle.form_right_side.specs.RightSide.{Known, nothing_known, none_stands, alone, lone, argument, sum, pieces_from, right_side}
use Rattle.form_right_side.specs.Walking.{Walk, at, walked, alone_before, alone_last, alone_list, argument_by, argument_walked}
use Rattle.form_right_side.proofs.Bare.{IsBareSum, bare-lawful, bare-right}
use Rattle.form_right_side.proofs.Binding.{bind-bind}
use Rattle.form_right_side.proofs.Fronts.{front-sum, peek, alone-is}
use Rattle.form_right_side.proofs.Walked.{walked-whole, walked-inside}

-- what is made once all pieces are gone through
abbrev pub made : Result Walk Refusal → Result (List resolved.Piece) Refusal
made r = r >>= (λ w. Ok w.pieces)

pub made-given : (right : Result (List resolved.Piece) Refusal) (all : Result Walk Refusal) (w : Walk) → right ≡ made all → all ≡ Ok w → right ≡ Ok w.pieces
made-given right all w same is = same ∙ ap made is

pub made-refused : (right : Result (List resolved.Piece) Refusal) (all : Result Walk Refusal) (e : CheckError) → right ≡ made all → IsRefused e all → IsRefused e right
made-refused right all Memory same is = tt
made-refused right all (Refused cause spot) same is = same ∙ ap made is

module _ (names : List Entry) (stands : ℕ → Bool) (known : Known) (law : (tree : syntax.Sum) → tree_of (syntax.pieces_of_sum tree) ≡ Some tree) where
  -- a right side is what its tree gives
  pub whole-tree : (list : List Piece) (s : syntax.Sum) → list ≡ syntax.pieces_of_sum s → right_side names stands known list ≡ (sum names stands known s >>= (λ t. Ok (pieces_of_sum t)))
  unfolding right_side
  whole-tree list s is =
      ap (λ (l : List Piece). pieces_from names stands known (tree_of l)) is ∙ ap (pieces_from names stands known) (law s)

  -- and what going through its pieces gives
  pub whole-walked : (list : List Piece) → AreLawful list → right_side names stands known list ≡ made (walked names stands known (at [] Sum 0) list)
  whole-walked list lawful =
      let s = lawful.tree in
      whole-tree list s lawful.pieces
      ∙ sym (bind-bind (sum names stands known s) (λ t. Ok (at (pieces_of_sum t) Sum 0)) (λ w. Ok w.pieces))
      ∙ ap made (sym (walked-whole names stands known s (bare-lawful list lawful)) ∙ ap (walked names stands known (at [] Sum 0)) (sym lawful.pieces))

-- the same where no expression is named
pub inside-walked : (names : List Entry) (stands : ℕ → Bool) (known : Known) → ((tree : syntax.Sum) → tree_of (syntax.pieces_of_sum tree) ≡ Some tree) → (pattern list : List Piece) → AreRight pattern list
    → right_side names none_stands known list ≡ made (walked names stands known (at [] Sum 1) list)
inside-walked names stands known law pattern list lawful =
    let s = lawful.tree in
    whole-tree names none_stands known law list s lawful.pieces
    ∙ sym (bind-bind (sum names none_stands known s) (λ t. Ok (at (pieces_of_sum t) Sum 1)) (λ w. Ok w.pieces))
    ∙ ap made (sym (walked-inside names stands known s (bare-right pattern list lawful) []) ∙ ap (walked names stands known (at [] Sum 1)) (sym lawful.pieces))

-- ---- an argument of a pattern, without wildcards

-- a sum that is alone is seen to be so
pub alone-list : (s : syntax.Sum) → IsBareSum s → alone_list (syntax.pieces_of_sum s) ≡ alone s
alone-list s bare = ap alone_list (front-sum s).is ∙ by-tail (front-sum s).head (front-sum s).tail (front-sum s).is (peek EndOfCall [] refl s bare)
  where
    two : {A : Type 0} (p q x : A) (more : List A) → p ∷ q ∷ more ≡ x ∷ [] → ⊥
    two p q x more e = cc

    none : (p q : Piece) (more : List Piece) (o : Option syntax.Entry) → syntax.pieces_of_sum s ≡ p ∷ q ∷ more → alone s ≡ o → None ≡ o
    none p q more None is e = refl
    none p q more (Some x) is e = let one = alone-is s x bare e in absurd (two p q one.piece more (sym is ∙ one.is))

    by-tail : (p : Piece) (tail : List Piece) → syntax.pieces_of_sum s ≡ p ∷ tail → alone_before (tail ++ EndOfCall ∷ []) p ≡ alone s → alone_last tail p ≡ alone s
    by-tail p [] is seen = seen
    by-tail p (q ∷ more) is seen = none p q more (alone s) is refl

module _ (names : List Entry) (stands : ℕ → Bool) (s : syntax.Sum) (bare : IsBareSum s) where
  abbrev inner : Result tree.Sum Refusal
  inner = sum names none_stands nothing_known s

  by-lone : (o : Option tree.Argument) → argument_by names stands (syntax.pieces_of_sum s) o ≡ (argument o inner >>= (λ a. Ok (pieces_of_argument a)))
  by-lone (Some a) = refl
  by-lone None =
      ap (λ (r : Result Walk Refusal). r >>= (λ w. Ok (w.pieces ++ resolved_pieces.EndOfArgument ∷ []))) (walked-inside names stands nothing_known s bare (resolved_pieces.Argument ∷ []))
      ∙ bind-bind inner (λ t. Ok (at ((resolved_pieces.Argument ∷ []) ++ pieces_of_sum t) Sum 1)) (λ w. Ok (w.pieces ++ resolved_pieces.EndOfArgument ∷ []))
      ∙ sym (bind-bind inner (λ t. Ok (tree.expression t)) (λ a. Ok (pieces_of_argument a)))

  -- such an argument is what its pieces give
  pub argument-whole : argument_walked names stands (syntax.pieces_of_sum s) ≡ (argument (lone names (alone s)) inner >>= (λ a. Ok (pieces_of_argument a)))
  argument-whole =
      ap (λ (o : Option syntax.Entry). argument_by names stands (syntax.pieces_of_sum s) (lone names o)) (alone-list s bare) ∙ by-lone (lone names (alone s))
