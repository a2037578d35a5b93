-- The products of a term with several coefficients and another one: they don't see the coefficients but in theirs.
use Rattle.std.proofs.Common.{◌≡◌, Bool, true, false, List, [], ◌∷◌, ◌++◌, map, refl, ap, sym, ◌∙◌}
use Rattle.std.specs.Prelude.{Option, Some, None, option_map, Result, Ok, Err, if◌then◌else◌}
use Rattle.std.specs.List.{AllByRecursion}
use Rattle.std.proofs.lemmas.List.{map-append}
use Rattle.form_base.specs.declared.cause.Cause.{Cause}
use Rattle.form_frac.specs.Fraction.{Fraction, multiply}
use Rattle.form_term.specs.Term.{Term}
use Rattle.form_term.specs.declared.monomial.Monomial.{Monomial}
use Rattle.form_normal.specs.Product.{is_turned, turned, vanishes, limited, term_product, joined, product, product_of}
use Rattle.form_frac.specs.Weight.{product as fraction_product, products}
use Rattle.form_gathered.specs.Joined.{members}
use Rattle.form_joined.proofs.Crossed.{term_made, made_with, crossed, IsFineWith, AreFine}

-- a term with a coefficient
abbrev pub with : Fraction → Term → Monomial
with c t = record { coefficient = c; term = t }

-- ---- two factors

abbrev found : Result (Option Monomial) Cause → Monomial → Monomial
found (Ok (Some m)) d = m
found (Ok None) d = d
found (Err cause) d = d

abbrev put : Bool → Option Fraction → Result Term Cause → Result (Option Monomial) Cause
put is_none c t = if is_none then Ok None else joined c t

put_other : (is_none : Bool) (p q : Fraction) (t : Result Term Cause) (m : Monomial) → put is_none (Some p) t ≡ Ok (Some m)
    → (put is_none (Some q) t ≡ Ok (Some (with q m.term))) × (m.coefficient ≡ p)
put_other true p q t m e = absurd cc
put_other false p q (Ok t) m e =
    let same = ap (λ r. found r m) e in
    (ap (λ (u : Term). Ok (Some (with q u))) (ap (λ (n : Monomial). n.term) same), sym (ap (λ (n : Monomial). n.coefficient) same))
put_other false p q (Err cause) m e = absurd cc

put_none : (is_none : Bool) (c d : Option Fraction) (t : Result Term Cause) → put is_none c t ≡ Ok None → put is_none d t ≡ Ok None
put_none true c d t e = refl
put_none false (Some p) d (Ok t) e = absurd cc
put_none false (Some p) d (Err cause) e = absurd cc
put_none false None d t e = absurd cc

module _ (s t : Term) (x y : Fraction) where
  put_is : (c d : Fraction) → product_of (with c s) (with d t) ≡ put (vanishes (s ∷ t ∷ [])) (option_map (turned (is_turned (s ∷ t ∷ []))) (multiply c d)) (limited (term_product (s ∷ t ∷ [])))
  unfolding product
  put_is c d = refl

  pub product_none : product_of (with x s) (with y t) ≡ Ok None → (c d : Fraction) → product_of (with c s) (with d t) ≡ Ok None
  product_none e c d = put_is c d ∙ put_none _ _ _ _ (sym (put_is x y) ∙ e)

  abbrev turned_here : Fraction → Fraction
  turned_here c = turned (is_turned (s ∷ t ∷ [])) c

  put_at : (c d p : Fraction) → multiply c d ≡ Some p → product_of (with c s) (with d t) ≡ put (vanishes (s ∷ t ∷ [])) (Some (turned_here p)) (limited (term_product (s ∷ t ∷ [])))
  put_at c d p e = put_is c d ∙ ap (λ o. put (vanishes (s ∷ t ∷ [])) (option_map (turned (is_turned (s ∷ t ∷ []))) o) (limited (term_product (s ∷ t ∷ [])))) e

  pub product_some : (p : Fraction) (m : Monomial) → multiply x y ≡ Some p → product_of (with x s) (with y t) ≡ Ok (Some m)
      → (m.coefficient ≡ turned_here p) × ((c d q : Fraction) → multiply c d ≡ Some q → product_of (with c s) (with d t) ≡ Ok (Some (with (turned_here q) m.term)))
  product_some p m e h =
      let here = sym (put_at x y p e) ∙ h in
      ((put_other _ _ (turned_here p) _ m here).1, λ c d q f. put_at c d q f ∙ (put_other _ _ (turned_here q) _ m here).0)

-- ---- several coefficients

module _ (s t : Term) (none : (c d : Fraction) → product_of (with c s) (with d t) ≡ Ok None) where
  made_none : (c : Fraction) (ds : List Fraction) → IsFineWith (members t ds) (with c s) × (made_with (members t ds) (with c s) ≡ [])
  made_none c [] = (tt, refl)
  made_none c (d ∷ ds) =
      let rest = made_none c ds in
      let made = none c d in
      ((rw made tt, rest.0), ap (λ r. term_made r ++ made_with (members t ds) (with c s)) made ∙ rest.1)

  pub crossed_none : (cs ds : List Fraction) → AreFine (members s cs) (members t ds) × (crossed (members s cs) (members t ds) ≡ [])
  crossed_none [] ds = (tt, refl)
  crossed_none (c ∷ cs) ds =
      let rest = crossed_none cs ds in
      let made = made_none c ds in
      ((made.0, rest.0), ap (λ l. l ++ crossed (members s cs) (members t ds)) made.1 ∙ rest.1)

module _ (s t u : Term) (turn : Fraction → Fraction) (some : (c d q : Fraction) → multiply c d ≡ Some q → product_of (with c s) (with d t) ≡ Ok (Some (with (turn q) u))) where
  made_some : (c : Fraction) (ds : List Fraction) → AllByRecursion (λ d. multiply c d ≡ Some (fraction_product c d)) ds
      → IsFineWith (members t ds) (with c s) × (made_with (members t ds) (with c s) ≡ members u (map turn (map (fraction_product c) ds)))
  made_some c [] f = (tt, refl)
  made_some c (d ∷ ds) f =
      let rest = made_some c ds f.1 in
      let made = some c d (fraction_product c d) f.0 in
      ((rw made tt, rest.0), ap (λ r. term_made r ++ made_with (members t ds) (with c s)) made ∙ ap (λ l. with (turn (fraction_product c d)) u ∷ l) rest.1)

  pub crossed_some : (cs ds : List Fraction) → AllByRecursion (λ c. AllByRecursion (λ d. multiply c d ≡ Some (fraction_product c d)) ds) cs
      → AreFine (members s cs) (members t ds) × (crossed (members s cs) (members t ds) ≡ members u (map turn (products cs ds)))
  crossed_some [] ds f = (tt, refl)
  crossed_some (c ∷ cs) ds f =
      let rest = crossed_some cs ds f.1 in
      let made = made_some c ds f.0 in
      let ends : members u (map turn (products (c ∷ cs) ds)) ≡ members u (map turn (map (fraction_product c) ds)) ++ members u (map turn (products cs ds)) =
      ap (members u) (map-append turn (map (fraction_product c) ds) (products cs ds)) ∙ map-append (λ c. with c u) (map turn (map (fraction_product c) ds)) (map turn (products cs ds)) in
      ((made.0, rest.0), ap (λ l. l ++ crossed (members s cs) (members t ds)) made.1 ∙ ap (λ l. members u (map turn (map (fraction_product c) ds)) ++ l) rest.1 ∙ sym ends)
