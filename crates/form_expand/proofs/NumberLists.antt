-- The list of a number's power, by the sign and size of the power.
use Rattle.std.proofs.Common.{◌≡◌, ℕ, zero, suc, ◌/◌, ◌<◌, ◌≤◌, Bool, false, cond, ℤ, pos, negsuc, nat_abs, refl, sym, ap, subst, ◌∙◌, arith}
use Rattle.std.specs.Prelude.{Option, Some, None, Result, Ok, Err}
use Rattle.std.specs.Option.{ok_or}
use Rattle.std.specs.Result.{result_ok}
use Rattle.std.specs.Int.Signed.{lt_z}
use Rattle.std.proofs.lemmas.Bool.{ne_eqb, lt-leb, le-leb, le-ltb}
use Rattle.form_base.specs.declared.cause.Cause.TheVariants.{Overflow}
use Rattle.form_frac.specs.Fraction.{Fraction, whole, largest, gcd, reduced, make, is_zero, IsLowest}
use Rattle.form_frac.specs.declared.frac_error.FracError.{FracError}
use Rattle.form_term.specs.Monomial.{unit}
use Rattle.form_normal.specs.Product.{number_alone}
use Rattle.form_expand.specs.Listing.{nothing, single, refusal}
use Rattle.form_expand.specs.Numbers.{raised, of_coefficient, of_fraction, number_list}

pub number_of_none : (value : ℕ) (power : ℤ) → nat_abs power ≡ 0 → number_list value power ≡ single unit
unfolding number_list
number_of_none value (pos zero) e = refl
number_of_none value (pos (suc k)) e = absurd (omega arith)
number_of_none value (negsuc k) e = absurd (omega arith)

pub number_too_large : (value : ℕ) (power : ℤ) → 1 ≤ nat_abs power → largest < value → number_list value power ≡ refusal Overflow
unfolding number_list
number_too_large value (pos zero) some h = absurd (omega arith)
number_too_large value (pos (suc k)) some h = rw (lt-leb value largest h) refl
number_too_large value (negsuc k) some h = rw (lt-leb value largest h) refl

pub number_made : (value : ℕ) (power : ℤ) (base : Result Fraction FracError) → 1 ≤ nat_abs power → value ≤ largest
    → base ≡ cond (lt_z power (pos 0)) (make (pos 1) (pos value)) (make (pos value) (pos 1)) → of_fraction base (nat_abs power) ≡ number_list value power
unfolding number_list
number_made value (pos zero) base some h e = absurd (omega arith)
number_made value (pos (suc k)) base some h e =
    let above = le-ltb (suc k) 0 (omega arith) in
    let here = rw above at e in
    rw (le-leb value largest h) (ap (λ b. of_fraction b (suc k)) here)
number_made value (negsuc k) base some h e = rw (le-leb value largest h) (ap (λ b. of_fraction b (suc k)) e)

pub ok_from : {T E : Type 0} (r : Result T E) (x : T) → Some x ≡ result_ok r → r ≡ Ok x
ok_from (Ok y) x e = cc
ok_from (Err y) x e = absurd (cc)

pub some_from : {E : Type 0} (o : Option Fraction) (e : E) (x : Fraction) → Ok x ≡ ok_or o e → o ≡ Some x
some_from None e x h = absurd (cc)
some_from (Some y) e x h = cc

-- a power that is one number
pub number_is_alone : (value : ℕ) (power : ℤ) (base number : Fraction) → 1 ≤ nat_abs power → value ≤ largest → Ok base ≡ cond (lt_z power (pos 0)) (make (pos 1) (pos value)) (make (pos value) (pos 1))
    → is_zero base ≡ false → raised base (nat_abs power) ≡ Some number → number_list value power ≡ single (number_alone number)
number_is_alone value power base number some h e present made =
    sym (number_made value power (Ok base) some h e)
    ∙ ap (λ (b : Bool). cond b nothing (of_coefficient (raised base (nat_abs power)))) present
    ∙ ap of_coefficient made

-- a number that is its own power
whole_made : (n : ℕ) → n ≤ largest → gcd n 1 ≡ 1 → make (pos n) (pos 1) ≡ Ok (whole (pos n))
unfolding make reduced
whole_made n h one =
    let same : n / 1 ≡ n = omega arith in
    rw (one, same, le-leb n largest h) refl

pub number_is_whole : (n : ℕ) (q : Fraction) → 0 < n → n ≤ largest → q ≡ whole (pos n) → IsLowest q → number_list n (pos 1) ≡ single (number_alone q)
unfolding raised
number_is_whole n q some h is lowest =
    let one : gcd n 1 ≡ 1 = subst (λ (f : Fraction). gcd (nat_abs f.numerator) f.denominator ≡ 1) is lowest.is_coprime in
    number_is_alone n (pos 1) (whole (pos n)) (whole (pos n)) (omega arith) h (sym (whole_made n h one)) (ne_eqb n 0 (λ e. absurd (omega (arith, some, e)))) refl
    ∙ ap (λ f. single (number_alone f)) (sym is)
