-- Products and lists of c times a term.
use Rattle.std.proofs.Common.{◌≡◌, ℕ, zero, suc, ◌&&◌, nat_le, Bool, true, false, if◌then◌else◌, List, [], ◌∷◌, ◌++◌, Option, Some, None, option_map, Result, Ok, Err, inl, refl, sym, ap, subst, ◌∙◌, arith}
use Rattle.std.proofs.lemmas.List.{append-nil}
use Rattle.form_base.specs.declared.cause.Cause.{Cause}
use Rattle.form_base.specs.declared.cause.Cause.TheVariants.{Overflow}
use Rattle.form_frac.specs.Fraction.{Fraction, is_in_range, largest, multiply, negate}
use Rattle.form_frac.specs.Weight.{product as times_fraction}
use Rattle.form_frac.proofs.Reduced.{product_negated, product_product, product_swap}
use Rattle.form_term.specs.Term.{Term}
use Rattle.form_term.specs.declared.monomial.Monomial.{Monomial}
use Rattle.form_normal.specs.Product.{is_turned, joined, product, product_of, term_product, turned, vanishes}
use Rattle.form_normal.specs.Product as normal
use Rattle.form_expand.specs.Left.{row, row_behind}
use Rattle.form_expand.specs.Listing.{Listing, before_by, followed, followed_at, limited, nothing, pairs, pairs_each, refusal, single, times, times_each}
use Rattle.form_expand.specs.Singles.{of_product}
use Rattle.form_expand.proofs.Listings.{limited_more, limited_none, limited_within}
use Rattle.form_levels.specs.Linear.{scaled}
use Rattle.form_levels.proofs.Agreeing.{IsChanged, IsScaledList, go_on, stops_first, stops_second}

abbrev listing : List Monomial → Option Cause → Listing
listing ms e = record { terms = ms; end = e }

-- what comes behind a list that ends so
abbrev rest : Listing → Option Cause → Listing
rest b None = b
rest b (Some cause) = refusal cause

followed_rest : (ms : List Monomial) (e : Option Cause) (b : Listing) → followed_at ms e b ≡ listing (ms ++ (rest b e).terms) (rest b e).end
unfolding followed_at
followed_rest ms None b = refl
followed_rest ms (Some cause) b = ap (λ ns. listing ns (Some cause)) (sym (append-nil ms))

before_followed : (made : Result (Option Monomial) Cause) (l : Listing) → before_by made l ≡ followed (of_product made) l
unfolding followed_at
before_followed (Ok (Some m)) l = refl
before_followed (Ok None) l = refl
before_followed (Err cause) l = refl

limited_empty : (n : ℕ) (e : Option Cause) → limited n (listing [] e) ≡ listing [] e
limited_empty n e = limited_within n (listing [] e) (omega arith)

abbrev fits : Fraction → Bool
fits x = is_in_range x.numerator && nat_le x.denominator largest

-- a product with this coefficient, where it is in range
abbrev put : Bool → Bool → Fraction → Result Term Cause → Bool → Listing
put is_none turn x t in_range = of_product (if is_none then Ok None else joined (option_map (turned turn) (if in_range then Some x else None)) t)

module _ (c : Fraction) where
  -- ---- products

  turned_scaled : (turn : Bool) (x y : Fraction) → y ≡ times_fraction c x → turned turn y ≡ times_fraction c (turned turn x)
  turned_scaled true x y is = ap negate is ∙ sym (product_negated c x)
  turned_scaled false x y is = is

  -- a product with c times its coefficient, whether each of both coefficients is in range or isn't
  put_scaled : (is_none turn : Bool) (x y : Fraction) (t : Result Term Cause) → y ≡ times_fraction c x → (p q : Bool) → IsScaledList c (put is_none turn x t p) (put is_none turn y t q)
  put_scaled true turn x y t is p q = inl refl
  put_scaled false turn x y t is false q = stops_first (scaled c) (Some Overflow) [] (Some Overflow) (put false turn y t q).terms (put false turn y t q).end refl refl
  put_scaled false turn x y t is true false = stops_second (scaled c) (Some Overflow) (put false turn x t true).terms (put false turn x t true).end [] (Some Overflow) refl refl
  put_scaled false turn x y (Ok t) is true true = (ap (λ (z : Fraction). record { coefficient = z; term = t }) (turned_scaled turn x y is), inl refl)
  put_scaled false turn x y (Err cause) is true true = inl refl

  pub alone_scaled : (m : Monomial) → IsScaledList c (of_product (product (m ∷ []))) (of_product (product (scaled c m ∷ [])))
  unfolding product
  alone_scaled m =
      put_scaled (vanishes (m.term ∷ [])) (is_turned (m.term ∷ [])) m.coefficient (times_fraction c m.coefficient) (normal.limited (term_product (m.term ∷ []))) refl true true

  left_scaled : (m n : Monomial) → IsScaledList c (of_product (product_of m n)) (of_product (product_of (scaled c m) n))
  unfolding product multiply
  left_scaled m n =
      let x = times_fraction m.coefficient n.coefficient in
      let y = times_fraction (times_fraction c m.coefficient) n.coefficient in
      put_scaled (vanishes (m.term ∷ n.term ∷ [])) (is_turned (m.term ∷ n.term ∷ [])) x y (normal.limited (term_product (m.term ∷ n.term ∷ [])))
      (sym (product_product c m.coefficient n.coefficient)) (fits x) (fits y)

  right_scaled : (m n : Monomial) → IsScaledList c (of_product (product_of m n)) (of_product (product_of m (scaled c n)))
  unfolding product multiply
  right_scaled m n =
      let x = times_fraction m.coefficient n.coefficient in
      let y = times_fraction m.coefficient (times_fraction c n.coefficient) in
      let is = product_product m.coefficient c n.coefficient ∙ ap (λ z. times_fraction z n.coefficient) (product_swap m.coefficient c) ∙ sym (product_product c m.coefficient n.coefficient) in
      put_scaled (vanishes (m.term ∷ n.term ∷ [])) (is_turned (m.term ∷ n.term ∷ [])) x y (normal.limited (term_product (m.term ∷ n.term ∷ []))) is (fits x) (fits y)

  -- ---- lists

  abbrev ScaledAt : List Monomial → Option Cause → List Monomial → Option Cause → Type 0
  ScaledAt = IsChanged (scaled c) (Some Overflow)

  rest_scaled : (b d : Listing) → IsScaledList c b d → (e : Option Cause) → IsScaledList c (rest b e) (rest d e)
  rest_scaled b d a None = a
  rest_scaled b d a (Some cause) = inl refl

  pub followed_scaled : (a g b d : Listing) → IsScaledList c a g → IsScaledList c b d → IsScaledList c (followed a b) (followed g d)
  followed_scaled a g b d first second =
      rw (followed_rest a.terms a.end b, followed_rest g.terms g.end d)
      (go_on (scaled c) (Some Overflow) (λ z. (rest b z).terms) (λ z. (rest d z).terms) (λ z. (rest b z).end) (λ z. (rest d z).end) refl refl refl refl (rest_scaled b d second)
      a.terms a.end g.terms g.end first)

  before_scaled : (p q : Result (Option Monomial) Cause) (l k : Listing) → IsScaledList c (of_product p) (of_product q) → IsScaledList c l k → IsScaledList c (before_by p l) (before_by q k)
  before_scaled p q l k first second =
      subst (λ (x : Listing). IsScaledList c x (before_by q k)) (sym (before_followed p l))
      (subst (λ (y : Listing). IsScaledList c (followed (of_product p) l) y) (sym (before_followed q k)) (followed_scaled (of_product p) (of_product q) l k first second))

  times_scaled : (m : Monomial) (rs : List Monomial) (e : Option Cause) → IsScaledList c (times_each m rs e) (times_each (scaled c m) rs e)
  unfolding times_each
  times_scaled m [] e = inl refl
  times_scaled m (r ∷ rs) e = before_scaled (product_of m r) (product_of (scaled c m) r) (times_each m rs e) (times_each (scaled c m) rs e) (left_scaled m r) (times_scaled m rs e)

  pairs_scaled : (ms : List Monomial) (e : Option Cause) (ns : List Monomial) (f : Option Cause) (r : Listing) → ScaledAt ms e ns f → IsScaledList c (pairs_each ms e r) (pairs_each ns f r)
  unfolding pairs_each
  pairs_scaled [] e [] f r a = a
  pairs_scaled [] e (n ∷ ns) f r over = stops_first (scaled c) (Some Overflow) [] e (pairs_each (n ∷ ns) f r).terms (pairs_each (n ∷ ns) f r).end refl over
  pairs_scaled (m ∷ ms) e [] f r over = stops_second (scaled c) (Some Overflow) (pairs_each (m ∷ ms) e r).terms (pairs_each (m ∷ ms) e r).end [] f refl over
  pairs_scaled (m ∷ ms) e (n ∷ ns) f r a =
      followed_scaled (times m r) (times n r) (pairs_each ms e r) (pairs_each ns f r)
      (subst (λ (z : Monomial). IsScaledList c (times m r) (times z r)) (sym a.0) (times_scaled m r.terms r.end)) (pairs_scaled ms e ns f r a.1)

  pub behind_list_scaled : (m : Monomial) (r : Listing) → IsScaledList c (pairs (single m) r) (pairs (single (scaled c m)) r)
  behind_list_scaled m r = pairs_scaled (m ∷ []) None (scaled c m ∷ []) None r (refl, inl refl)

  pub before_list_scaled : (ls : List Monomial) (e : Option Cause) (m : Monomial) → IsScaledList c (pairs_each ls e (single m)) (pairs_each ls e (single (scaled c m)))
  unfolding pairs_each times_each
  before_list_scaled [] e m = inl refl
  before_list_scaled (l ∷ ls) e m =
      followed_scaled (times l (single m)) (times l (single (scaled c m))) (pairs_each ls e (single m)) (pairs_each ls e (single (scaled c m)))
      (before_scaled (product_of l m) (product_of l (scaled c m)) nothing nothing (right_scaled l m) (inl refl)) (before_list_scaled ls e m)

  pub limited_scaled : (n : ℕ) (ms : List Monomial) (e : Option Cause) (ns : List Monomial) (f : Option Cause) → ScaledAt ms e ns f
      → IsScaledList c (limited n (listing ms e)) (limited n (listing ns f))
  limited_scaled n [] e [] f a = rw (limited_empty n e, limited_empty n f) a
  limited_scaled n [] e (y ∷ ys) f over =
      rw (limited_empty n e) (stops_first (scaled c) (Some Overflow) [] e (limited n (listing (y ∷ ys) f)).terms (limited n (listing (y ∷ ys) f)).end refl over)
  limited_scaled n (x ∷ xs) e [] f over =
      rw (limited_empty n f) (stops_second (scaled c) (Some Overflow) (limited n (listing (x ∷ xs) e)).terms (limited n (listing (x ∷ xs) e)).end [] f refl over)
  limited_scaled zero (x ∷ xs) e (y ∷ ys) f a = rw (limited_none x (listing xs e), limited_none y (listing ys f)) (inl refl)
  limited_scaled (suc n) (x ∷ xs) e (y ∷ ys) f a = rw (limited_more n x (listing xs e), limited_more n y (listing ys f)) (a.0, limited_scaled n xs e ys f a.1)

  row_behind_scaled : (max : ℕ) (l k : Listing) (lists : List Listing) → IsScaledList c l k → IsScaledList c (row_behind max l lists) (row_behind max k lists)
  unfolding row_behind
  row_behind_scaled max l k [] a = a
  row_behind_scaled max l k (r ∷ lists) a =
      let made = pairs_scaled l.terms l.end k.terms k.end r a in
      row_behind_scaled max (limited max (pairs l r)) (limited max (pairs k r)) lists (limited_scaled max (pairs l r).terms (pairs l r).end (pairs k r).terms (pairs k r).end made)

  -- the coefficient stands in the first factor of a row alone
  pub row_scaled : (max : ℕ) (m : Monomial) (lists : List Listing) → IsScaledList c (row max (single m ∷ lists)) (row max (single (scaled c m) ∷ lists))
  unfolding row
  row_scaled max m lists = row_behind_scaled max (limited max (single m)) (limited max (single (scaled c m))) lists (limited_scaled max (m ∷ []) None (scaled c m ∷ []) None (refl, inl refl))
