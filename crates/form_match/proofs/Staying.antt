-- Powers stay where nothing is taken of a symbol.
use Rattle.std.proofs.Common.{◌≡◌, ℕ, ◌<◌, Bool, false, cond, ℤ, pos, ◌-ℤ◌, List, [], ◌∷◌, map, refl, ap, ◌∙◌, arith, lt-ltb}
use Rattle.std.proofs.lemmas.Int.{ints}
use Rattle.std.specs.Prelude.{All, filter, nat_abs, nat_lt, ◌+ℤ◌}
use Rattle.std.specs.List.{list_any}
use Rattle.std.proofs.lemmas.List.Elements.{All-head, All-tail}
use Rattle.form_term.specs.declared.power.Power.{Power}
use Rattle.form_match.specs.declared.uses.Use.{Use}
use Rattle.form_match.specs.declared.uses.Use.TheVariants as uses
use Rattle.form_match.specs.Left.{powers_left, symbol_taken, taken}
use Rattle.form_match.specs.Taken.{is_of_symbol}

-- nothing is taken of any symbol
none_taken : (s : ℕ) (us : List Use) → list_any is_of_symbol us ≡ false → taken (symbol_taken s) us ≡ pos 0
none_taken s [] none = refl
none_taken s (uses.Symbol t k ∷ us) none = cc
none_taken s (uses.Dot m k ∷ us) none = ap (λ (z : ℤ). pos 0 +ℤ z) (none_taken s us none)
none_taken s (uses.Component m ∷ us) none = ap (λ (z : ℤ). pos 0 +ℤ z) (none_taken s us none)
none_taken s (uses.Delta m ∷ us) none = ap (λ (z : ℤ). pos 0 +ℤ z) (none_taken s us none)
none_taken s (uses.Function m ∷ us) none = ap (λ (z : ℤ). pos 0 +ℤ z) (none_taken s us none)
none_taken s (uses.Stretch start n ∷ us) none = ap (λ (z : ℤ). pos 0 +ℤ z) (none_taken s us none)

less_nothing : (e : ℤ) → e -ℤ pos 0 ≡ e
less_nothing e = grind (arith, ints)

pub powers_stay : (us : List Use) (ps : List Power) → list_any is_of_symbol us ≡ false → All (λ p. 0 < nat_abs p.exponent) ps → powers_left us ps ≡ ps
powers_stay us [] none present = refl
powers_stay us (p ∷ ps) none present =
    let same : (record { symbol = p.symbol; exponent = p.exponent -ℤ taken (symbol_taken p.symbol) us }) ≡ p =
    ap (λ (z : ℤ). record { symbol = p.symbol; exponent = p.exponent -ℤ z }) (none_taken p.symbol us none) ∙ ap (λ (z : ℤ). record { symbol = p.symbol; exponent = z }) (less_nothing p.exponent) in
    ap (λ (q : Power). filter (λ r. nat_lt 0 (nat_abs r.exponent)) (q ∷ map (λ r. record { symbol = r.symbol; exponent = r.exponent -ℤ taken (symbol_taken r.symbol) us }) ps)) same
    ∙ ap (λ (b : Bool). cond b (p ∷ powers_left us ps) (powers_left us ps)) (lt-ltb 0 (nat_abs p.exponent) (All-head (λ (r : Power). 0 < nat_abs r.exponent) p ps present))
    ∙ ap (λ (l : List Power). p ∷ l) (powers_stay us ps none (All-tail (λ (r : Power). 0 < nat_abs r.exponent) p ps present))
