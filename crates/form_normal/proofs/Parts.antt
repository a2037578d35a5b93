-- The product of two terms by its parts.
use Rattle.std.proofs.Common.{◌≡◌, Bool, true, false, not, ◌&&◌, ◌||◌, List, [], ◌∷◌, ◌++◌, Option, Some, None, Result, Ok, Err, refl, ap, sym, ◌∙◌, append-nil}
use Rattle.std.specs.Prelude.{◌==◌, ◌%◌, ◌/◌, sum, IsErrAnd, if◌then◌else◌}
use Rattle.std.specs.Bool.{beq}
use Rattle.std.specs.Option.{ok_or}
use Rattle.std.specs.List.{range_with_len, list_any}
use Rattle.std.proofs.lemmas.List.Folds.{list_any-append}
use Rattle.form_base.specs.declared.cause.Cause.{Cause}
use Rattle.form_base.specs.declared.cause.Cause.TheVariants.{Overflow}
use Rattle.form_frac.specs.Fraction.{Fraction, multiply}
use Rattle.form_term.specs.declared.power.Power.{Power}
use Rattle.form_term.specs.declared.monomial.Monomial.{Monomial}
use Rattle.form_term.specs.Term.{Term, Others, of_symbols}
use Rattle.form_term.specs.Terms.{term}
use Rattle.form_term.specs.SymbolLaws.{ArePowers}
use Rattle.form_term.specs.PowerLaws.{powers_rise, powers_present}
use Rattle.form_normal.specs.Product.{symbols_product, exponent_sum, reach_of_all, others_product, term_product, limited, vanishes, is_zero, turned, product, product_of}

-- the powers of a product are as a term's are
pub powers_lawful : (ts : List Term) → ArePowers (symbols_product ts)
unfolding symbols_product
powers_lawful ts = (powers_rise 0 (reach_of_all ts) (exponent_sum ts), powers_present (range_with_len 0 (reach_of_all ts)) (exponent_sum ts))

-- they go by the factors' powers alone
by_symbols : (l r : Term) → symbols_product (of_symbols l.symbols ∷ of_symbols r.symbols ∷ []) ≡ symbols_product (l ∷ r ∷ [])
unfolding symbols_product
by_symbols l r = refl

pub powers_made : (l r : Term) (ps qs made : List Power) → made ≡ symbols_product (of_symbols ps ∷ of_symbols qs ∷ []) → ps ≡ l.symbols → qs ≡ r.symbols → made ≡ symbols_product (l ∷ r ∷ [])
powers_made l r ps qs made e f g = e ∙ ap (λ (xs : List Power). symbols_product (of_symbols xs ∷ of_symbols qs ∷ [])) f ∙ ap (λ (xs : List Power). symbols_product (of_symbols l.symbols ∷ of_symbols xs ∷ [])) g ∙ by_symbols l r

pub term_made : (l r : Term) (ps : List Power) (o : Others) → ps ≡ symbols_product (l ∷ r ∷ []) → o ≡ others_product (l ∷ r ∷ []) → term ps o ≡ term_product (l ∷ r ∷ [])
term_made l r ps o e f = λ i. record { symbols = e i; others = f i }

-- whether `i_` stands in a product of two factors, and whether it turns the sign
pub parity : (a b : Bool) → not (beq a b) ≡ (sum ((if a then 1 else 0) ∷ (if b then 1 else 0) ∷ []) % 2 == 1)
parity true true = refl
parity true false = refl
parity false true = refl
parity false false = refl

turns : (a b : Bool) → ((sum ((if a then 1 else 0) ∷ (if b then 1 else 0) ∷ []) / 2) % 2 == 1) ≡ (a && b)
turns true true = refl
turns true false = refl
turns false true = refl
turns false false = refl

-- a list made of two, by both
pub joined_as : {A B : Type 0} (F : List A → B) (made : B) (xs ys xs' ys' : List A) → made ≡ F (xs ++ ys) → xs ≡ xs' → ys ≡ ys' → made ≡ F (xs' ++ (ys' ++ []))
joined_as F made xs ys xs' ys' e f g = e ∙ ap (λ zs. F (zs ++ ys)) f ∙ ap (λ zs. F (xs' ++ zs)) (g ∙ sym (append-nil ys'))

-- where a product vanishes
vanish : (l r : Term) → vanishes (l ∷ r ∷ []) ≡ (list_any is_zero l.others.deltas || list_any is_zero r.others.deltas)
vanish l r = list_any-append is_zero l.others.deltas (r.others.deltas ++ []) ∙ ap (λ b. list_any is_zero l.others.deltas || b) (ap (list_any is_zero) (append-nil r.others.deltas))

-- The product of two factors, by those of their coefficients and of their terms.
module _ (l r : Monomial) where
  zeros : Bool
  zeros = list_any is_zero l.term.others.deltas || list_any is_zero r.term.others.deltas

  pub product_zero : (list_any is_zero l.term.others.deltas || list_any is_zero r.term.others.deltas) ≡ true → product_of l r ≡ Ok None
  unfolding product
  product_zero z = rw (vanish l.term r.term ∙ z) refl

  pub product_overflows : (list_any is_zero l.term.others.deltas || list_any is_zero r.term.others.deltas) ≡ false → multiply l.coefficient r.coefficient ≡ None → product_of l r ≡ Err Overflow
  unfolding product
  product_overflows z e = rw (vanish l.term r.term ∙ z, e) refl

  pub product_refused : (c : Fraction) (cause : Cause) → (list_any is_zero l.term.others.deltas || list_any is_zero r.term.others.deltas) ≡ false → multiply l.coefficient r.coefficient ≡ Some c → limited (term_product (l.term ∷ r.term ∷ [])) ≡ Err cause → product_of l r ≡ Err cause
  unfolding product
  product_refused c cause z e f = rw (vanish l.term r.term ∙ z, e, f) refl

  pub product_made : (c d : Fraction) (t : Term) → (list_any is_zero l.term.others.deltas || list_any is_zero r.term.others.deltas) ≡ false → multiply l.coefficient r.coefficient ≡ Some c → d ≡ turned (l.term.others.is_imaginary && r.term.others.is_imaginary) c → limited (term_product (l.term ∷ r.term ∷ [])) ≡ Ok t → product_of l r ≡ Ok (Some (record { coefficient = d; term = t }))
  unfolding product
  product_made c d t z e g f = rw (vanish l.term r.term ∙ z, e, f) (ap (λ (x : Fraction). Ok (Some (record { coefficient = x; term = t }))) (ap (λ b. turned b c) (turns l.term.others.is_imaginary r.term.others.is_imaginary) ∙ sym g))

-- what a product of coefficients answers

pub some_from : {E : Type 0} (o : Option Fraction) (e : E) (x : Fraction) → Ok x ≡ ok_or o e → o ≡ Some x
some_from None e x h = absurd (cc)
some_from (Some y) e x h = cc

-- an error that is handed on is that of the answer
pub handed_on : {T E : Type 0} (r : Result T E) (e f : E) → IsErrAnd r (λ x. x ≡ e) → r ≡ Err f → e ≡ f
handed_on (Ok x) e f h k = absurd h
handed_on (Err x) e f h k = let same : x ≡ f = cc in sym h ∙ same

pub none_from : {E : Type 0} (o : Option Fraction) (e f : E) → Err f ≡ ok_or o e → o ≡ None
none_from None e f h = refl
none_from (Some y) e f h = absurd (cc)
