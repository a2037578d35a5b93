-- `parse` at a text that begins with a digit other than 0 reads the number that `is_decimal` speaks of.
use Rattle.std.proofs.Common.{◌≡◌, ◌∙◌, ◌<◌, ◌≤◌, ◌^◌, ◌&&◌, ◌==◌, ℕ, Bool, true, false, List, [], ◌∷◌, get_or, length, Option, Some, None, Result, Ok, Err, arith, refl, ap, sym, inl, inr, rules, tests}
use Rattle.std.specs.Prelude.{nat_le, unwrap_or, if◌then◌else◌}
use Rattle.std.proofs.lemmas.Bool.{cases_lt, le-leb}
use Rattle.std.proofs.lemmas.Bool.Decides.{nat_tests}
use Rattle.std.specs.Str.Parse.{ParsesUnsigned, digits_value}
use Rattle.std.specs.Str.{all_ascii_digits}
use Rattle.std.specs.Result.{OkIff, result_ok}
use Rattle.std.proofs.lemmas.Str.Parse.{IsNumeralModel, numerals_by_value, tells_all_ascii_digits, parse_plain}
use Rattle.form_words.specs.Options.{is_decimal, number_between}

own : IsNumeralModel (λ ds. all_ascii_digits ds ≡ true) (digits_value 10)
own = numerals_by_value _ tells_all_ascii_digits

-- a text that begins with a digit other than 0 is decimal where it has only digits
digits_only : (bs : List ℕ) → 0 < length bs → 49 ≤ get_or bs 0 0 → is_decimal bs ≡ all_ascii_digits bs
digits_only [] some low = absurd (omega arith)
digits_only (first ∷ rest) some low =
    let other : (first == 48) ≡ false = search (rules, tests) in
    rw other refl

abbrev Reads : {E : Type 0} → List ℕ → Result ℕ E → Type 0
Reads bs r = OkIff r ((is_decimal bs ≡ true) × (0 < length bs) × (digits_value 10 bs < 2 ^ 64)) (digits_value 10 bs)

reads : {E : Type 0} (bs : List ℕ) (r : Result ℕ E) → ParsesUnsigned 64 10 bs r → 0 < length bs → 49 ≤ get_or bs 0 0 → Reads bs r
reads bs r h some low = rw (digits_only bs some low) (parse_plain own 64 bs r h (λ plus. omega arith))

-- no number of the range
outside : (decimal : Bool) (least most n : ℕ) → (decimal ≡ true → n ≤ most → ⊥) → (if decimal && (nat_le least n && nat_le n most) then Some n else None) ≡ None
outside false least most n none = refl
outside true least most n none =
    let above : most < n = elim (cases_lt most n) [ inl lt ↦ lt | inr le ↦ absurd (none refl le) ] in
    grind (arith, nat_tests)

within : (decimal : Bool) (least most n : ℕ) → decimal ≡ true → least ≤ n → n ≤ most → (if decimal && (nat_le least n && nat_le n most) then Some n else None) ≡ Some n
within decimal least most n is low high = rw (is, le-leb least n low, le-leb n most high) refl

-- where it fails, the text writes no number of 64 bits
pub none_between : {E : Type 0} (least most : ℕ) (bs : List ℕ) (r : Result ℕ E) → result_ok r ≡ None → ParsesUnsigned 64 10 bs r → 0 < length bs → 49 ≤ get_or bs 0 0 → most < 2 ^ 64
    → number_between least most bs ≡ None
none_between least most bs (Ok n) is parses some low fits = cc
none_between least most bs (Err e) is parses some low fits =
    let fails = reads bs (Err e) parses some low in
    outside (is_decimal bs) least most (digits_value 10 bs) (λ d le. fails (d, some, omega arith))

-- and where it succeeds, it gives the number that the text writes
pub some_between : {E : Type 0} (least most n : ℕ) (bs : List ℕ) (r : Result ℕ E) → result_ok r ≡ Some n → ParsesUnsigned 64 10 bs r → 0 < length bs → 49 ≤ get_or bs 0 0 → least ≤ n → n ≤ most
    → number_between least most bs ≡ Some n
some_between {E} least most n bs (Err e) is parses some low above below = cc
some_between {E} least most n bs (Ok m) is parses some low above below =
    let given = reads {E = E} bs (Ok m) parses some low in
    let same : n ≡ digits_value 10 bs = ap (λ (o : Option ℕ). unwrap_or o n) (sym is) ∙ given.1 in
    rw same (within (is_decimal bs) least most (digits_value 10 bs) given.0.0 (omega arith) (omega arith))
