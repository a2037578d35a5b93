-- The list of a factor that is one piece.
use Rattle.std.proofs.Common.{◌≡◌, ℕ, List, [], ◌∷◌, refl, sym, subst, ◌∙◌}
use Rattle.std.specs.Prelude.{Option, Some, None, Result, Ok, Err, IfOk, IfSome}
use Rattle.std.specs.Global.{Vec}
use Rattle.form_term.specs.declared.monomial.Monomial.{Monomial}
use Rattle.form_tree.specs.declared.tree.Link.{Link}
use Rattle.form_tree.specs.declared.tree.Piece.{Piece}
use Rattle.form_tree.specs.declared.tree.Piece.TheVariants as pieces
use Rattle.form_tree.specs.Tree as tree
use Rattle.form_tree.specs.Tree.{Factor, Sum, pieces_of_sum}
use Rattle.form_expand.specs.Expanding.{list_of_sum, list_of_product, list_of_factor}
use Rattle.form_expand.specs.Listing.{Listing, powers}
use Rattle.form_expand.specs.Meanings.{Meanings, component_of, index_of, terms_of, vector_of}
use Rattle.form_expand.specs.Numbers.{number_list, symbol_list}
use Rattle.form_expand.specs.Singles.{imaginary_list, dot_list, component_list, delta_list}
use Rattle.form_expand.specs.Walks.{all_of}
use Rattle.form_expand.proofs.Streamed.{signed_plus}
use Rattle.form_gathered.specs.declared.joined.JoinedTerm.{JoinedTerm}
use Rattle.form_joined.specs.Products.{HasList}
use Rattle.form_sides.specs.Pieces.{HasPiece, IsOnePiece, factor_of, sum_of}

-- a list that is done
pub done_list : (l : Listing) (list : List Monomial) → l.end ≡ None → list ≡ l.terms → l ≡ all_of list
done_list l list e is = λ i. record { terms = sym is i; end = e i }

-- the terms of an expression to a power
pub stored_read : {E : Type 0} (max : ℕ) (all : Meanings) (link : Link) (s power : ℕ) (r : Result (Option (Vec JoinedTerm)) E)
    → IfOk r (λ made. IfSome made (λ js. HasList (powers max (all_of (terms_of all s)) power) js.items)) → IfOk r (λ made. IfSome made (λ js. HasPiece max all (pieces.Stored link s power) js.items))
stored_read max all link s power (Ok (Some js)) h = record { list = all_of (terms_of all s); power = power; is = refl; has = h }
stored_read max all link s power (Ok None) h = tt
stored_read max all link s power (Err e) h = tt

module _ (max : ℕ) (all : Meanings) where
  list_alone : (f : Factor) → list_of_sum max all (sum_of f) ≡ list_of_factor max all f
  unfolding list_of_sum list_of_product
  list_alone f = signed_plus (list_of_factor max all f)

  module _ (added : Piece) (whole : Listing) (is : (s : Sum) → added ∷ [] ≡ pieces_of_sum s → whole ≡ list_of_sum max all s) (js : List JoinedTerm) (has : HasList whole js) where
    alone : (f : Factor) (l : Listing) → added ∷ [] ≡ pieces_of_sum (sum_of f) → list_of_factor max all f ≡ l → HasList l js
    alone f l h e = subst (λ (k : Listing). HasList k js) (is (sum_of f) h ∙ list_alone f ∙ e) has

    pub factor_read : (piece : Piece) → IsOnePiece (factor_of piece) added → HasPiece max all piece js
    unfolding list_of_factor powers
    factor_read (pieces.Number link n k) h = record { list = number_list n k; power = 1; is = refl; has = alone (tree.number n k) (powers max (number_list n k) 1) h refl }
    factor_read (pieces.Symbol link s k) h = record { list = symbol_list s k; power = 1; is = refl; has = alone (tree.symbol s k) (powers max (symbol_list s k) 1) h refl }
    factor_read (pieces.Imaginary link k) h = record { list = imaginary_list; power = k; is = refl; has = alone (tree.imaginary k) (powers max imaginary_list k) h refl }
    factor_read (pieces.Dot link p q k) h =
        record { list = dot_list (vector_of all p) (vector_of all q) k; power = 1; is = refl; has = alone (tree.dot p q k) (powers max (dot_list (vector_of all p) (vector_of all q) k) 1) h refl }
    factor_read (pieces.Component link c k) h = record { list = component_list (component_of all c); power = k; is = refl; has = alone (tree.component c k) (powers max (component_list (component_of all c)) k) h refl }
    factor_read (pieces.Delta link i j k) h =
        record { list = delta_list (index_of all i) (index_of all j); power = k; is = refl; has = alone (tree.delta i j k) (powers max (delta_list (index_of all i) (index_of all j)) k) h refl }
    factor_read piece h = absurd h
