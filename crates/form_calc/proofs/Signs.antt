-- A factor by its first character: a blank, a sign, a parenthesis or a digit.
use Rattle.std.proofs.Common.{◌≡◌, ◌⊎◌, inl, inr, ℕ, ℤ, pos, Bool, true, false, if◌then◌else◌, List, [], ◌∷◌, ◌++◌, Option, Some, None, refl, ap, ◌∙◌}
use Rattle.std.specs.Prelude.{◌==◌, ◌||◌, ◌≢◌, option_map}
use Rattle.std.specs.List.{list_all}
use Rattle.std.proofs.lemmas.Bool.{and_parts, eqb-true}
use Rattle.form_calc.specs.Number.{in_range, negated, number_of}
use Rattle.form_calc.specs.Reading.{is_blank}
use Rattle.form_calc.specs.Calculation.{Reader, is_digit, is_lead, numeral, after_signs, turned, signed, with_signs, primary, factor}
use Rattle.form_calc.specs.Expression.{decimal}
use Rattle.form_calc.proofs.Spaces.{read_as, either_is, StopsAt, unlike}
use Rattle.form_calc.proofs.Decimals.{number_alone}
use Rattle.form_calc.proofs.Fronts.{front_read}

-- a sign before others is one behind them
pub signed_negated : (cs : List ℕ) (n : Option ℤ) → signed cs (negated n) ≡ negated (signed cs n)
unfolding signed
signed_negated [] n = refl
signed_negated (c ∷ cs) n = by (is_lead c) (c == 45) (λ m. signed_negated cs m)
  where
    by : (lead is_minus : Bool) → ((m : Option ℤ) → signed cs (negated m) ≡ negated (signed cs m))
        → (if lead then signed cs (if is_minus then negated (negated n) else negated n) else negated n) ≡ negated (if lead then signed cs (if is_minus then negated n else n) else n)
    by false is_minus again = refl
    by true true again = again (negated n)
    by true false again = again n

abbrev pub turn : ℕ → Option ℤ × List ℕ → Option ℤ × List ℕ
turn c p = (turned c p.0, p.1)

pub signed_turned : (c : ℕ) (cs : List ℕ) (n : Option ℤ) → signed cs (turned c n) ≡ turned c (signed cs n)
signed_turned c cs n = by (c == 45)
  where
    by : (q : Bool) → signed cs (if q then negated n else n) ≡ (if q then negated (signed cs n) else signed cs n)
    by true = signed_negated cs n
    by false = refl

-- a factor behind a blank or a sign
pub factor_led : (inner : Reader) (c : ℕ) (t : List ℕ) → is_lead c ≡ true → factor inner (c ∷ t) ≡ option_map (turn c) (factor inner t)
unfolding factor signed
factor_led inner c t h =
    ap (λ (q : Bool). with_signs (c ∷ t) (primary inner (if q then after_signs t else c ∷ t))) h ∙ by (primary inner (after_signs t))
  where
    by : (x : Option (Option ℤ × List ℕ)) → with_signs (c ∷ t) x ≡ option_map (turn c) (with_signs t x)
    by None = refl
    by (Some p) = ap (λ (q : Bool). read_as (if q then signed t (turned c p.0) else p.0) p.1) h ∙ ap (λ n. read_as n p.1) (signed_turned c t p.0)

pub unturned : (c : ℕ) (n : Option ℤ) → is_blank c ≡ true → turned c n ≡ n
unturned c n h = by (either_is c 32 9 h)
  where
    by : (c ≡ 32) ⊎ (c ≡ 9) → turned c n ≡ n
    by (inl e) = ap (λ b. turned b n) e
    by (inr e) = ap (λ b. turned b n) e

pub factor_blanks : (inner : Reader) (bs t : List ℕ) → list_all is_blank bs ≡ true → factor inner (bs ++ t) ≡ factor inner t
factor_blanks inner [] t h = refl
factor_blanks inner (b ∷ bs) t h =
    let p = and_parts (is_blank b) (list_all is_blank bs) h in
    factor_led inner b (bs ++ t) (ap (λ (q : Bool). q || (b == 43) || (b == 45)) p.0) ∙ by p.0 (factor inner (bs ++ t)) ∙ factor_blanks inner bs t p.1
  where
    by : is_blank b ≡ true → (x : Option (Option ℤ × List ℕ)) → option_map (turn b) x ≡ x
    by e None = refl
    by e (Some p) = ap (λ n. read_as n p.1) (unturned b p.0 e)

pub factor_open : (inner : Reader) (t : List ℕ) → factor inner (40 ∷ t) ≡ inner t
unfolding factor signed primary
factor_open inner t = by (inner t)
  where
    by : (x : Option (Option ℤ × List ℕ)) → with_signs (40 ∷ t) x ≡ x
    by None = refl
    by (Some (n, rest)) = refl

no_lead : (d : ℕ) → is_digit d ≡ true → is_lead d ≡ false
no_lead d h =
    ap (λ (q : Bool). (q || (d == 9)) || (d == 43) || (d == 45)) (unlike is_digit d 32 h refl)
    ∙ ap (λ (q : Bool). (false || q) || (d == 43) || (d == 45)) (unlike is_digit d 9 h refl)
    ∙ ap (λ (q : Bool). false || q || (d == 45)) (unlike is_digit d 43 h refl)
    ∙ ap (λ (q : Bool). false || false || q) (unlike is_digit d 45 h refl)

abbrev pub numeral_given : List ℕ → List ℕ → Option (Option ℤ × List ℕ)
numeral_given ds rest = Some (number_of ds, rest)

numeral_written : (ds rest : List ℕ) → ds ≢ [] → list_all is_digit ds ≡ true → StopsAt is_digit rest → numeral (ds ++ rest) ≡ Some (in_range (pos (decimal ds)), rest)
unfolding numeral
numeral_written ds rest some h k = front_read is_digit numeral_given ds rest h some k ∙ ap (λ n. read_as n rest) (number_alone ds h)

pub numeral_read : (inner : Reader) (ds rest : List ℕ) → ds ≢ [] → list_all is_digit ds ≡ true → StopsAt is_digit rest → factor inner (ds ++ rest) ≡ Some (in_range (pos (decimal ds)), rest)
unfolding factor signed primary
numeral_read inner [] rest some h k = absurd (some refl)
numeral_read inner (d ∷ ds) rest some h k =
    let t = ds ++ rest in
    let e = (and_parts (is_digit d) (list_all is_digit ds) h).0 in
    ap (λ (q : Bool). with_signs (d ∷ t) (primary inner (if q then after_signs t else d ∷ t))) (no_lead d e)
    ∙ ap (λ (q : Bool). with_signs (d ∷ t) (if q then inner t else numeral (d ∷ t))) (unlike is_digit d 40 e refl)
    ∙ ap (with_signs (d ∷ t)) (numeral_written (d ∷ ds) rest some h k)
    ∙ ap (λ (q : Bool). read_as (if q then signed t (turned d (in_range (pos (decimal (d ∷ ds))))) else in_range (pos (decimal (d ∷ ds)))) rest) (no_lead d e)

-- ---- what stands before a factor

pub data Lead (c : ℕ) : Type 0 where
  space : is_blank c ≡ true → Lead c
  plus : c ≡ 43 → Lead c
  minus : c ≡ 45 → Lead c

pub lead_is : (c : ℕ) → is_lead c ≡ true → Lead c
lead_is c h = by (is_blank c) (c == 43) (c == 45) refl refl refl h
  where
    by : (q0 q1 q2 : Bool) → is_blank c ≡ q0 → (c == 43) ≡ q1 → (c == 45) ≡ q2 → (q0 || q1 || q2) ≡ true → Lead c
    by true q1 q2 e0 e1 e2 f = space e0
    by false true q2 e0 e1 e2 f = plus (eqb-true c 43 e1)
    by false false true e0 e1 e2 f = minus (eqb-true c 45 e2)
    by false false false e0 e1 e2 f = absurd cc
