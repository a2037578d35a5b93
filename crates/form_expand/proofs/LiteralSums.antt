-- Sums of products each of which is one term, all of which are read at once.
use Rattle.std.proofs.Common.{◌≡◌, ℕ, ◌≤◌, List, [], ◌∷◌, ◌++◌, length, refl, sym, ap, subst, ◌∙◌, arith}
use Rattle.std.specs.Prelude.{Option, Result, IfOk, IfSome}
use Rattle.std.specs.Global.{Vec}
use Rattle.form_term.specs.declared.monomial.Monomial.{Monomial}
use Rattle.form_tree.specs.declared.tree.Piece.{Piece}
use Rattle.form_expand.specs.declared.literal.Literal.{Literal}
use Rattle.form_expand.specs.declared.whole.Whole.{Whole}
use Rattle.form_expand.specs.Kept.{listing}
use Rattle.form_expand.specs.Meanings.{Meanings}
use Rattle.form_expand.specs.Listing.{Listing, nothing, single, before, limited, followed, signed, with_sign}
use Rattle.form_expand.specs.Literals.{IsLiteral, ReadsProduct}
use Rattle.form_expand.specs.Reading.{list_of_pieces}
use Rattle.form_expand.specs.Walks.{all_of}
use Rattle.form_expand.proofs.Behind.{limited_pieces, pieces_of_none}
use Rattle.form_expand.proofs.Listings.{followed_nothing, followed_last, followed_before, limited_within, limited_followed_last, taken_on}
use Rattle.form_expand.proofs.Streamed.{one_limited}

module _ (max : ℕ) (all : Meanings) where
  pub sum_begun : (pieces : List Piece) (terms : List Monomial) → terms ≡ []
      → limited max (list_of_pieces max all pieces) ≡ limited max (followed (all_of terms) (list_of_pieces max all pieces))
  sum_begun pieces terms none =
      let list = list_of_pieces max all pieces in
      ap (limited max) (sym (ap (λ ms. followed (all_of ms) list) none ∙ followed_nothing list))

  -- a further product is read
  pub sum_more : (whole : Listing) (terms made : List Monomial) (pieces rest : List Piece) (l : Literal) → ReadsProduct max all pieces l rest
      → whole ≡ limited max (followed (all_of terms) (list_of_pieces max all pieces)) → made ≡ terms ++ with_sign l.is_minus l.term ∷ []
      → whole ≡ limited max (followed (all_of made) (list_of_pieces max all rest))
  sum_more whole terms made pieces rest l h e is =
      let behind = list_of_pieces max all rest in
      let term = with_sign l.is_minus l.term in
      e
      ∙ ap (λ b. limited max (followed (all_of terms) b)) (h ∙ one_limited max max l.is_minus l.term behind (omega arith))
      ∙ limited_followed_last max max (all_of terms) (followed (signed l.is_minus (single l.term)) behind) (omega arith)
      ∙ ap (λ b. limited max (followed (all_of terms) b)) (followed_before term nothing behind ∙ ap (before term) (followed_nothing behind))
      ∙ ap (limited max) (taken_on terms term behind)
      ∙ ap (λ ms. limited max (followed (all_of ms) behind)) (sym is)

  -- all are read
  pub sum_done : (whole : Listing) (rest : List Piece) (terms : List Monomial) → rest ≡ [] → length terms ≤ max → whole ≡ limited max (followed (all_of terms) (list_of_pieces max all rest)) → whole ≡ all_of terms
  sum_done whole rest terms none short e =
      e
      ∙ ap (λ ps. limited max (followed (all_of terms) (list_of_pieces max all ps))) none
      ∙ ap (λ l. limited max (followed (all_of terms) l)) (pieces_of_none max all)
      ∙ ap (limited max) (followed_last (all_of terms))
      ∙ limited_within max (all_of terms) short

  pub sum_read : (pieces rest : List Piece) (terms : List Monomial) → rest ≡ [] → length terms ≤ max
      → limited max (list_of_pieces max all pieces) ≡ limited max (followed (all_of terms) (list_of_pieces max all rest))
      → list_of_pieces max all pieces ≡ all_of terms
  sum_read pieces rest terms none short e = sym (limited_pieces max all pieces) ∙ sum_done (limited max (list_of_pieces max all pieces)) rest terms none short e

  -- a sum behind no terms
  pub sum_alone : {E : Type 0} (r : Result (Option (Vec Monomial)) E) (pieces : List Piece) (none : List Monomial) → none ≡ []
      → IfOk r (λ found. IfSome found (λ made. limited max (followed (all_of none) (list_of_pieces max all pieces)) ≡ all_of made.items))
      → IfOk r (λ found. IfSome found (λ terms. list_of_pieces max all pieces ≡ all_of terms.items))
  sum_alone r pieces none empty h =
      subst (λ (l : Listing). IfOk r (λ found. IfSome found (λ terms. l ≡ all_of terms.items)))
      (sym (sym (limited_pieces max all pieces) ∙ sum_begun pieces none empty)) h

  -- the first product is read
  pub first_read : (pieces rest : List Piece) (l : Literal) (term : Monomial) → IsLiteral max all pieces l rest → term ≡ with_sign l.is_minus l.term
      → limited max (list_of_pieces max all pieces) ≡ limited max (followed (single term) (list_of_pieces max all rest))
  first_read pieces rest l term h is = sum_more (limited max (list_of_pieces max all pieces)) [] (term ∷ []) pieces rest l h.list (sum_begun pieces [] refl) (ap (λ m. m ∷ []) is)

  -- a sum of one product
  pub single_read : (pieces rest : List Piece) (l : Literal) (term : Monomial) → 1 ≤ max → rest ≡ [] → IsLiteral max all pieces l rest → term ≡ with_sign l.is_minus l.term → list_of_pieces max all pieces ≡ single term
  single_read pieces rest l term room none h is = sum_read pieces rest (term ∷ []) none room (first_read pieces rest l term h is)

  -- and of several
  pub several_read : {E : Type 0} (r : Result (Option Whole) E) (pieces rest : List Piece) (l : Literal) (term : Monomial) → IsLiteral max all pieces l rest → term ≡ with_sign l.is_minus l.term
      → IfOk r (λ found. IfSome found (λ whole. limited max (followed (single term) (list_of_pieces max all rest)) ≡ listing whole))
      → IfOk r (λ found. IfSome found (λ whole. list_of_pieces max all pieces ≡ listing whole))
  several_read r pieces rest l term h is k =
      subst (λ (x : Listing). IfOk r (λ found. IfSome found (λ whole. x ≡ listing whole))) (sym (sym (limited_pieces max all pieces) ∙ first_read pieces rest l term h is)) k
