-- A term times a right side that is one function.
use Rattle.std.proofs.Common.{◌≡◌, ℕ, ◌+◌, ◌≤◌, ◌<◌, Bool, true, false, List, [], ◌∷◌, length, take, drop, refl, sym, ap, ◌∙◌, arith}
use Rattle.std.specs.Prelude.{Some, Ok}
use Rattle.form_term.specs.declared.arguments.Arguments.{Arguments}
use Rattle.form_term.specs.declared.monomial.Monomial.{Monomial}
use Rattle.form_term.specs.Calls.{call}
use Rattle.form_term.specs.Term.{Call}
use Rattle.form_normal.specs.Product.{product_of, function_alone, StandsAlone}
use Rattle.form_tree.specs.declared.tree.Link.TheVariants as links
use Rattle.form_tree.specs.declared.tree.Piece.{Piece}
use Rattle.form_tree.specs.declared.tree.Piece.TheVariants as pieces
use Rattle.form_expand.specs.declared.ended.Ended.TheVariants.{Power}
use Rattle.form_expand.specs.Closings.{closing_at}
use Rattle.form_expand.specs.Left.{row, row_behind}
use Rattle.form_expand.specs.Listing.{Listing, single, limited, followed, signed}
use Rattle.form_expand.specs.Literals.{AreArgued}
use Rattle.form_expand.specs.Meanings.{Meanings, function_of}
use Rattle.form_expand.specs.Readers.{IsReadFactor, IsReadFunction, in_product}
use Rattle.form_expand.specs.Reading.{fed, read_from, list_of_pieces}
use Rattle.form_expand.specs.Singles.{alone as list_alone, of_product, list_of_call}
use Rattle.form_expand.proofs.Behind.{pieces_of_none, read_ends, read_first}
use Rattle.form_expand.proofs.Listings.{followed_last, limited_again, limited_within}
use Rattle.form_expand.proofs.Literals.{pair_of_ones, within_read}
use Rattle.form_expand.proofs.Parenthesized.{drop_next}
use Rattle.form_expand.proofs.Places.{drop_past}
use Rattle.form_expand.proofs.Streamed.{signed_plus}

-- a row of one list
row_of_one : (max : ℕ) (l : Listing) → row max (limited max l ∷ []) ≡ limited max l
unfolding row row_behind
row_of_one max l = limited_again max l

module _ (max : ℕ) (all : Meanings) where
  -- a sum of one product of one factor
  factor_alone : (l : Listing) → limited max (followed (signed false (row max (limited max l ∷ []))) (list_of_pieces max all [])) ≡ limited max l
  factor_alone l =
      ap (λ behind. limited max (followed (signed false (row max (limited max l ∷ []))) behind)) (pieces_of_none max all)
      ∙ ap (limited max) (followed_last (signed false (row max (limited max l ∷ []))) ∙ signed_plus (row max (limited max l ∷ [])) ∙ row_of_one max l)
      ∙ limited_again max l

  -- a function as a further factor is read behind the piece that begins it
  function_read : (f : ℕ) (is_commuting : Bool) (more : List Piece) (old new : List Listing) (rest : List Piece) → IsReadFunction (function_of all f) is_commuting max all more old new rest → IsReadFactor max all (pieces.Function links.Plus f is_commuting) more old new rest
  unfolding read_from fed
  function_read f is_commuting more old new rest h = h

  -- The pieces are one commuting function.
  pub lone_read : (ps : List Piece) (piece : Piece) (more within : List Piece) (f g : ℕ) (arguments : Arguments) (len : ℕ) (c : Call) → ps ≡ piece ∷ more → piece ≡ pieces.Function links.Plus f true → g ≡ function_of all f
      → closing_at 0 0 more ≡ Some (len, Power 1) → within ≡ take len more → drop (len + 1) more ≡ [] → AreArgued max all within arguments → c ≡ call g arguments
      → list_of_pieces max all ps ≡ limited max (list_of_call true c)
  lone_read ps piece more within f g arguments len c is begins named closes front none argued made =
      let h = function_of all f in
      let l = list_of_call true (call h arguments) in
      let rest = drop (len + 1) more in
      ap (list_of_pieces max all) (is ∙ ap (λ p. p ∷ more) begins)
      ∙ read_first max all (pieces.Function links.Plus f true) more
      ∙ function_read f true more [] (limited max l ∷ []) rest (within_read max all h true arguments more within rest len closes front refl argued []) false
      ∙ ap (read_from all (in_product max false (limited max l ∷ []))) none
      ∙ read_ends max all false (limited max l ∷ []) [] tt
      ∙ factor_alone l
      ∙ ap (λ n. limited max (list_of_call true (call n arguments))) (sym named)
      ∙ ap (λ k. limited max (list_of_call true k)) (sym made)

  -- The product with it is all of the row.
  pub lone_times : (ps : List Piece) (left made : Monomial) (c : Call) → list_of_pieces max all ps ≡ limited max (list_of_call true c) → 0 < max → product_of left (function_alone c) ≡ Ok (Some made) → StandsAlone (function_alone c)
      → row max (single left ∷ list_of_pieces max all ps ∷ []) ≡ single made
  unfolding row row_behind list_alone
  lone_times ps left made c list some product stands =
      let f = function_alone c in
      ap (λ l. row max (single left ∷ l ∷ [])) (list ∙ ap (limited max) (ap of_product stands.alone))
      ∙ pair_of_ones max left f made product
      ∙ limited_within max (single made) (omega (arith, some))

-- Nothing is behind the end.
pub none_behind : (n : ℕ) (ps end : List Piece) → end ≡ drop n ps → length end ≤ 1 → drop (n + 1) ps ≡ []
none_behind n ps end is short = sym (drop_next n ps) ∙ ap (drop 1) (sym is) ∙ drop_past end 1 short
