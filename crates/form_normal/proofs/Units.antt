-- The word of a product, and products with `i_`, 1 and 0.
use Rattle.std.proofs.Common.{◌≡◌, Bool, true, false, ◌||◌, List, [], ◌∷◌, ◌++◌, map, Option, Some, None, Result, Ok, Err, refl, ap, sym, ◌∙◌}
use Rattle.std.specs.Prelude.{pos, option_map, if◌then◌else◌}
use Rattle.std.specs.List.{flat_map, list_any}
use Rattle.std.proofs.lemmas.List.Folds.{list_any-append}
use Rattle.form_base.specs.declared.cause.Cause.{Cause}
use Rattle.form_frac.specs.Fraction.{Fraction, IsLowest, whole, negate}
use Rattle.form_term.specs.declared.monomial.Monomial.{Monomial}
use Rattle.form_term.specs.Factor.{imaginary_factor}
use Rattle.form_term.specs.Monomial.{unit}
use Rattle.form_term.specs.Term.{Term, IsTerm, nothing, one}
use Rattle.form_normal.specs.Lists.{in_order, dots_product}
use Rattle.form_normal.specs.Product.{is_zero, is_turned, coefficient_of, symbols_product, others_product, term_product, turned, vanishes, joined, limited, product, product_of, number_alone, imaginary_alone}
use Rattle.form_normal.proofs.Alone.{vanish_alone, within_from, made_of}
use Rattle.form_normal.proofs.Lasting.{multiply_one, one_is_lowest, one_alone, none_lawful, within}
use Rattle.form_normal.proofs.Parts.{product_made}
use Rattle.form_normal.proofs.Swapped.{product_swapped}

-- ---- the word

word_of : (ts : List Term) → (others_product ts).word ≡ flat_map (λ (t : Term). t.others.word) ts
unfolding others_product
word_of ts = refl

words_of : (ms : List Monomial) → flat_map (λ (t : Term). t.others.word) (map (λ (m : Monomial). m.term) ms) ≡ flat_map (λ (m : Monomial). m.term.others.word) ms
words_of [] = refl
words_of (m ∷ ms) = ap (λ cs. m.term.others.word ++ cs) (words_of ms)

pub word_made : (ms : List Monomial) (m : Monomial) → product ms ≡ Ok (Some m) → m.term.others.word ≡ flat_map (λ (x : Monomial). x.term.others.word) ms
word_made ms m e =
    let ts = map (λ (x : Monomial). x.term) ms in
    let same = (within_from (term_product ts) m.term (made_of ms m e).limits).same in
    ap (λ (t : Term). t.others.word) (sym same) ∙ word_of ts ∙ words_of ms

-- ---- `i_`

squared_symbols : symbols_product (imaginary_factor ∷ imaginary_factor ∷ []) ≡ []
unfolding symbols_product
squared_symbols = refl

squared_others : others_product (imaginary_factor ∷ imaginary_factor ∷ []) ≡ nothing
unfolding others_product in_order dots_product
squared_others = refl

pub imaginary_squared : product_of imaginary_alone imaginary_alone ≡ Ok (Some (number_alone (negate (whole (pos 1)))))
imaginary_squared =
    let squared : term_product (imaginary_factor ∷ imaginary_factor ∷ []) ≡ one = λ i. record { symbols = squared_symbols i; others = squared_others i } in
    product_made imaginary_alone imaginary_alone (whole (pos 1)) (negate (whole (pos 1))) one refl (multiply_one (whole (pos 1)) one_is_lowest) refl (ap limited squared ∙ within one none_lawful)

-- ---- 1 and 0

pub one_behind : (m : Monomial) → IsLowest m.coefficient → IsTerm m.term → product_of m unit ≡ product (m ∷ [])
one_behind m lowest lawful = product_swapped m unit lawful none_lawful refl ∙ one_alone m lowest lawful

vanishing : (ms : List Monomial) → product ms ≡ Ok None → vanishes (map (λ (m : Monomial). m.term) ms) ≡ true
unfolding product
vanishing ms e =
    step (vanishes (map (λ (m : Monomial). m.term) ms)) (option_map (turned (is_turned (map (λ (m : Monomial). m.term) ms))) (coefficient_of ms)) (limited (term_product (map (λ (m : Monomial). m.term) ms))) refl e
  where
    step : (b : Bool) (c : Option Fraction) (r : Result Term Cause) → vanishes (map (λ (m : Monomial). m.term) ms) ≡ b → (if b then Ok None else joined c r) ≡ Ok None → vanishes (map (λ (m : Monomial). m.term) ms) ≡ true
    step true c r f h = f
    step false None r f h = absurd (cc)
    step false (Some c) (Err cause) f h = absurd (cc)
    step false (Some c) (Ok t) f h = absurd (cc)

either_way : (b : Bool) → (b || true) ≡ true
either_way true = refl
either_way false = refl

zeros_in : (front rest : List Monomial) (m : Monomial) → list_any is_zero m.term.others.deltas ≡ true → vanishes (map (λ (x : Monomial). x.term) (front ++ m ∷ rest)) ≡ true
zeros_in [] rest m z =
    let others = flat_map (λ (t : Term). t.others.deltas) (map (λ (x : Monomial). x.term) rest) in
    list_any-append is_zero m.term.others.deltas others ∙ ap (λ b. b || list_any is_zero others) z
zeros_in (x ∷ front) rest m z =
    let others = flat_map (λ (t : Term). t.others.deltas) (map (λ (y : Monomial). y.term) (front ++ m ∷ rest)) in
    list_any-append is_zero x.term.others.deltas others ∙ ap (λ b. list_any is_zero x.term.others.deltas || b) (zeros_in front rest m z) ∙ either_way (list_any is_zero x.term.others.deltas)

pub zero_among : (front rest : List Monomial) (m : Monomial) → product (m ∷ []) ≡ Ok None → product (front ++ m ∷ rest) ≡ Ok None
unfolding product
zero_among front rest m e = rw (zeros_in front rest m (sym (vanish_alone m.term) ∙ vanishing (m ∷ []) e)) refl
