-- Taking terms from a sum whose products are gone through one after the other.
use Rattle.std.proofs.Common.{◌≡◌, ℕ, zero, suc, ◌+◌, ◌-◌, ◌<◌, ◌≤◌, Bool, false, List, [], ◌∷◌, map, refl, sym, ap, subst, ◌∙◌, arith}
use Rattle.std.specs.Prelude.{Option, Some, None, Result, Err, IfSome, option_to_list}
use Rattle.form_base.specs.declared.cause.Cause.TheVariants.{ExpandLimit}
use Rattle.form_term.specs.declared.monomial.Monomial.{Monomial}
use Rattle.form_tree.specs.declared.tree.Piece.{Piece}
use Rattle.form_expand.specs.declared.error.ExpandError.{ExpandError}
use Rattle.form_expand.specs.declared.error.ExpandError.TheVariants.{Refused, Memory}
use Rattle.form_expand.specs.Meanings.{Meanings}
use Rattle.form_expand.specs.Literals.{ReadsProduct}
use Rattle.form_expand.specs.Listing.{Listing, nothing, single, refusal, before, limited, followed, signed, with_sign}
use Rattle.form_expand.specs.Next.{Gives}
use Rattle.form_expand.specs.Left.{row, row_behind}
use Rattle.form_expand.specs.Reading.{list_of_pieces}
use Rattle.form_expand.specs.Readers.{IsRead}
use Rattle.form_expand.proofs.Behind.{limited_pieces, pieces_of_none}
use Rattle.form_expand.proofs.Listings.{followed_before, followed_nothing, followed_refusal, limited_more, limited_none, limited_nothing, limited_refusal, limited_limited, limited_within}

pub gives_from : (r : Result (Option Monomial) ExpandError) (old same new : Listing) → old ≡ same → Gives r same new → Gives r old new
gives_from r old same new e h = subst (λ (l : Listing). Gives r l new) (sym e) h

-- a refusal, whatever is left behind it
pub gives_err_from : (e : ExpandError) (old same new then : Listing) → old ≡ same → Gives (Err e) same new → Gives (Err e) old then
gives_err_from (Refused cause) old same new then e h = e ∙ h
gives_err_from Memory old same new then e h = tt

module _ (limit given : ℕ) (is_minus : Bool) (rest : Listing) where
  -- where this is left of the product at hand
  abbrev left : Listing → Listing
  left product = limited (limit - given) (followed (signed is_minus product) rest)

  pub stream_taken : (m : Monomial) (product : Listing) → given < limit
      → left (before m product) ≡ before (with_sign is_minus m) (limited (limit - (given + 1)) (followed (signed is_minus product) rest))
  stream_taken m product h =
      let e : limit - given ≡ suc (limit - (given + 1)) = omega arith in
      rw e
      (ap (limited (suc (limit - (given + 1)))) (followed_before (with_sign is_minus m) (signed is_minus product) rest)
      ∙ limited_more (limit - (given + 1)) (with_sign is_minus m) (followed (signed is_minus product) rest))

  pub stream_over : (m : Monomial) (product : Listing) → limit ≤ given → left (before m product) ≡ refusal ExpandLimit
  stream_over m product h =
      let e : limit - given ≡ 0 = omega arith in
      rw e
      (ap (limited 0) (followed_before (with_sign is_minus m) (signed is_minus product) rest)
      ∙ limited_none (with_sign is_minus m) (followed (signed is_minus product) rest))

  -- where the next term of the product at hand wasn't given
  pub stream_ungiven : (e : ExpandError) (product after then : Listing) → Gives (Err e) product after → Gives (Err e) (left product) then
  stream_ungiven (Refused cause) product after then h =
      ap left h ∙ ap (limited (limit - given)) (followed_refusal cause rest) ∙ limited_refusal (limit - given) cause
  stream_ungiven Memory product after then h = tt

  pub stream_on : (product : Listing) → product ≡ nothing → left product ≡ limited (limit - given) rest
  stream_on product h = ap left h ∙ ap (limited (limit - given)) (followed_nothing rest)

-- before the first product
pub stream_begun : (limit : ℕ) (all : Meanings) (is_minus : Bool) (pieces : List Piece) (product : Listing) → product ≡ nothing → limited (limit - 0) (followed (signed is_minus product) (list_of_pieces limit all pieces)) ≡ list_of_pieces limit all pieces
stream_begun limit all is_minus pieces product h =
    let list = list_of_pieces limit all pieces in
    let e : limit - 0 ≡ limit = omega arith in
    stream_on limit 0 is_minus list product h ∙ ap (λ n. limited n list) e ∙ limited_pieces limit all pieces

-- where nothing is left to read
pub stream_done : (limit given : ℕ) (is_minus : Bool) (all : Meanings) (pieces : List Piece) (product : Listing) → product ≡ nothing → pieces ≡ []
    → limited (limit - given) (followed (signed is_minus product) (list_of_pieces limit all pieces)) ≡ nothing
stream_done limit given is_minus all pieces product h e =
    stream_on limit given is_minus (list_of_pieces limit all pieces) product h
    ∙ ap (λ ps. limited (limit - given) (list_of_pieces limit all ps)) e
    ∙ ap (limited (limit - given)) (pieces_of_none limit all)
    ∙ limited_nothing (limit - given)

-- a product is read
pub stream_read : (limit given : ℕ) (all : Meanings) (pieces rest : List Piece) (is_minus was_minus : Bool) (factors : List Listing) (old new : Listing)
    → IsRead limit all pieces is_minus factors rest → old ≡ nothing → new ≡ row limit factors
    → limited (limit - given) (followed (signed is_minus new) (list_of_pieces limit all rest))
    ≡ limited (limit - given) (followed (signed was_minus old) (list_of_pieces limit all pieces))
stream_read limit given all pieces rest is_minus was_minus factors old new h done made =
    let behind = list_of_pieces limit all rest in
    let product = followed (signed is_minus (row limit factors)) behind in
    ap (λ l. limited (limit - given) (followed (signed is_minus l) behind)) made
    ∙ sym (limited_limited (limit - given) limit product (omega arith))
    ∙ ap (limited (limit - given)) (sym h)
    ∙ sym (stream_on limit given was_minus (list_of_pieces limit all pieces) old done)

-- a list of one term, within the limit of the whole
pub one_limited : (n k : ℕ) (is_minus : Bool) (m : Monomial) (rest : Listing) → n ≤ k → limited n (followed (signed is_minus (limited k (single m))) rest) ≡ limited n (followed (signed is_minus (single m)) rest)
one_limited n zero is_minus m rest h =
    let e : n ≡ 0 = omega arith in
    rw e
    (ap (λ l. limited 0 (followed (signed is_minus l) rest)) (limited_none m nothing)
    ∙ ap (limited 0) (followed_refusal ExpandLimit rest)
    ∙ limited_refusal 0 ExpandLimit
    ∙ sym (limited_none (with_sign is_minus m) (followed (signed is_minus nothing) rest))
    ∙ ap (limited 0) (sym (followed_before (with_sign is_minus m) (signed is_minus nothing) rest)))
one_limited n (suc k) is_minus m rest h = ap (λ l. limited n (followed (signed is_minus l) rest)) (limited_within (suc k) (single m) (omega arith))

-- a product that is one term is read, which is next
pub stream_term : (limit given : ℕ) (all : Meanings) (pieces rest : List Piece) (is_minus was_minus : Bool) (m : Monomial) (product : Listing) → ReadsProduct limit all pieces (record { is_minus = is_minus; term = m }) rest → product ≡ nothing
    → limited (limit - given) (followed (signed is_minus (before m product)) (list_of_pieces limit all rest))
    ≡ limited (limit - given) (followed (signed was_minus product) (list_of_pieces limit all pieces))
stream_term limit given all pieces rest is_minus was_minus m product h done =
    let behind = list_of_pieces limit all rest in
    ap (λ l. limited (limit - given) (followed (signed is_minus (before m l)) behind)) done
    ∙ sym (one_limited (limit - given) limit is_minus m behind (omega arith))
    ∙ sym (limited_limited (limit - given) limit (followed (signed is_minus (limited limit (single m))) behind) (omega arith))
    ∙ ap (limited (limit - given)) (sym h)
    ∙ sym (stream_on limit given was_minus (list_of_pieces limit all pieces) product done)

-- the same where the product is this front, if there is one
pub stream_front : (limit given : ℕ) (all : Meanings) (pieces rest : List Piece) (is_minus was_minus : Bool) (front : Option Monomial) (factors : List Listing) (product : Listing) → IsRead limit all pieces is_minus factors rest → factors ≡ map single (option_to_list front)
    → product ≡ nothing
    → IfSome front (λ m. limited (limit - given) (followed (signed is_minus (before m product)) (list_of_pieces limit all rest)) ≡ limited (limit - given) (followed (signed was_minus product) (list_of_pieces limit all pieces)))
unfolding row row_behind
stream_front limit given all pieces rest is_minus was_minus None factors product h is done = tt
stream_front limit given all pieces rest is_minus was_minus (Some m) factors product h is done =
    stream_term limit given all pieces rest is_minus was_minus m product (h ∙ ap (λ (ls : List Listing). limited limit (followed (signed is_minus (row limit ls)) (list_of_pieces limit all rest))) is) done

-- a product without factors is read
pub stream_past : (limit given : ℕ) (all : Meanings) (pieces rest : List Piece) (is_minus was_minus : Bool) (factors : List Listing) (product : Listing) → IsRead limit all pieces is_minus factors rest → factors ≡ [] → product ≡ nothing
    → limited (limit - given) (followed (signed is_minus product) (list_of_pieces limit all rest)) ≡ limited (limit - given) (followed (signed was_minus product) (list_of_pieces limit all pieces))
unfolding row
stream_past limit given all pieces rest is_minus was_minus factors product h none done =
    stream_read limit given all pieces rest is_minus was_minus factors product product h done (done ∙ ap (row limit) (sym none))

map_same : {X : Type 0} (f : X → X) (h : (x : X) → f x ≡ x) (xs : List X) → map f xs ≡ xs
map_same f h [] = refl
map_same f h (x ∷ xs) = ap (λ y. y ∷ map f xs) (h x) ∙ ap (λ ys. x ∷ ys) (map_same f h xs)

pub signed_plus : (l : Listing) → signed false l ≡ l
signed_plus l = ap (λ ms. record { terms = ms; end = l.end }) (map_same (with_sign false) (λ m. refl) l.terms)
