-- The values of names and numbers are arguments.
use Rattle.std.proofs.Common.{◌≡◌, ℕ, ◌<◌, ◌≤◌, ◌==◌, Bool, true, false, if◌then◌else◌, ℤ, pos, negsuc, [], ◌∷◌, refl, sym, append-nil, arith, FitsSigned, w32}
use Rattle.std.specs.Prelude.{nat_abs}
use Rattle.std.specs.List.Sorted.{IsStrictlySortedBy}
use Rattle.std.proofs.lemmas.List.Elements.{All-nil, All-cons}
use Rattle.form_frac.specs.Fraction.{IsLowest, is_zero, largest, whole}
use Rattle.form_frac.proofs.Fractions.{whole_is_lowest}
use Rattle.form_term.specs.declared.index.Index.{Index}
use Rattle.form_term.specs.declared.power.Power.{Power}
use Rattle.form_term.specs.Term.{Summand, Argument, index, vector, expression, one, of_symbols, AreArguments, IsArgumentOf, IsExpression, IsTerm, largest_exponent, pieces_of_argument}
use Rattle.form_term.specs.TermLaws.{power_lawful, symbols_lawful}
use Rattle.form_bindings.specs.Values.{symbol_value, number_value, index_value, vector_value}

argument_alone : (a : Argument) → IsArgumentOf IsTerm a → AreArguments (pieces_of_argument a)
argument_alone a h = record {
  arguments = a ∷ [];
  written = sym (append-nil (pieces_of_argument a));
  lawful = All-cons (IsArgumentOf IsTerm) a [] h (All-nil (IsArgumentOf IsTerm));
}

abbrev IsPresent : Summand → Type 0
IsPresent s = is_zero s.coefficient ≡ false

abbrev IsInLowest : Summand → Type 0
IsInLowest s = IsLowest s.coefficient

abbrev HasTerm : Summand → Type 0
HasTerm s = IsTerm s.term

one_summand : (s : Summand) → is_zero s.coefficient ≡ false → IsLowest s.coefficient → IsTerm s.term → IsExpression (s ∷ [])
unfolding IsStrictlySortedBy
one_summand s present lowest term = record {
  rising = (tt, tt);
  present = All-cons IsPresent s [] present (All-nil IsPresent);
  lowest = All-cons IsInLowest s [] lowest (All-nil IsInLowest);
  terms = All-cons HasTerm s [] term (All-nil HasTerm);
}

no_summands : IsExpression []
unfolding IsStrictlySortedBy
no_summands = record { rising = tt; present = All-nil IsPresent; lowest = All-nil IsInLowest; terms = All-nil HasTerm }

one_lawful : IsTerm one
one_lawful = symbols_lawful [] (tt, All-nil (λ (p : Power). 0 < nat_abs p.exponent)) (All-nil (λ (p : Power). nat_abs p.exponent ≤ largest_exponent)) (omega arith)

pub symbol_lawful : (s : ℕ) → AreArguments (symbol_value s)
symbol_lawful s =
    argument_alone (expression (record { coefficient = whole (pos 1); term = of_symbols (record { symbol = s; exponent = pos 1 } ∷ []) } ∷ []))
    (one_summand (record { coefficient = whole (pos 1); term = of_symbols (record { symbol = s; exponent = pos 1 } ∷ []) }) refl (whole_is_lowest (pos 1) (omega arith))
    (power_lawful (record { symbol = s; exponent = pos 1 }) (omega arith) (omega arith)))

pub number_lawful : (z : ℤ) → nat_abs z ≤ largest → AreArguments (number_value z)
number_lawful z small = by (nat_abs z == 0) refl
  where
    by : (b : Bool) → (nat_abs z == 0) ≡ b → AreArguments (pieces_of_argument (expression (if b then [] else record { coefficient = whole z; term = one } ∷ [])))
    by true e = argument_alone (expression []) no_summands
    by false e = argument_alone (expression (record { coefficient = whole z; term = one } ∷ [])) (one_summand (record { coefficient = whole z; term = one }) e (whole_is_lowest z small) one_lawful)

pub index_lawful : (i : Index) → AreArguments (index_value i)
index_lawful i = argument_alone (index i) tt

pub vector_lawful : (v : ℕ) → AreArguments (vector_value v)
vector_lawful v = argument_alone (vector v) tt

-- an exponent is within what a coefficient may be
pub small_exponent : (e : ℤ) → FitsSigned w32 e → nat_abs e ≤ largest
small_exponent (pos n) fits = omega arith
small_exponent (negsuc n) fits = omega arith
