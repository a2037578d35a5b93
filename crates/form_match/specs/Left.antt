-- What is left of a term once a match is taken out.
use Rattle.std.specs.Prelude.{ℕ, ◌+◌, ◌==◌, nat_lt, ℤ, pos, ◌+ℤ◌, ◌-ℤ◌, nat_abs, Bool, false, not, ◌&&◌, List, [], ◌∷◌, ◌++◌, map, filter, take, drop, if◌then◌else◌}
use Rattle.std.specs.List.{list_any, enumerate_from}
use Rattle.form_term.specs.declared.power.Power.{Power}
use Rattle.form_term.specs.declared.power.DotPower.{DotPower}
use Rattle.form_term.specs.Term.{Term, Call, is_nil, is_nothing}
use Rattle.form_match.specs.declared.uses.Use.{Use}
use Rattle.form_match.specs.declared.uses.Use.TheVariants as uses

-- how much of a symbol is taken, and of the dot product at a place
abbrev pub symbol_taken : ℕ → Use → ℤ
symbol_taken s (uses.Symbol t k) = if s == t then k else pos 0
symbol_taken s _ = pos 0

abbrev pub dot_taken : ℕ → Use → ℤ
dot_taken m (uses.Dot n k) = if m == n then k else pos 0
dot_taken m _ = pos 0

abbrev pub taken : (Use → ℤ) → List Use → ℤ
taken of_use [] = pos 0
taken of_use (u ∷ us) = of_use u +ℤ taken of_use us

-- whether the component, delta or function at a place is taken
abbrev pub takes_component : ℕ → Use → Bool
takes_component m (uses.Component n) = m == n
takes_component m _ = false

abbrev pub takes_delta : ℕ → Use → Bool
takes_delta m (uses.Delta n) = m == n
takes_delta m _ = false

abbrev pub takes_function : ℕ → Use → Bool
takes_function m (uses.Function n) = m == n
takes_function m _ = false

-- the elements at places that aren't taken
abbrev pub untaken : {A : Type 0} → (ℕ → Use → Bool) → List Use → List A → List A
untaken takes us xs = map (λ e. e.1) (filter (λ e. not (list_any (takes e.0) us)) (enumerate_from 0 xs))

-- the word without the stretch that is taken
abbrev pub without_stretch : Use → List Call → List Call
without_stretch (uses.Stretch start n) w = take start w ++ drop (start + n) w
without_stretch _ w = w

abbrev pub word_left : List Use → List Call → List Call
word_left [] w = w
word_left (u ∷ us) w = word_left us (without_stretch u w)

abbrev pub powers_left : List Use → List Power → List Power
powers_left us ps =
    filter (λ p. nat_lt 0 (nat_abs p.exponent)) (map (λ p. record { symbol = p.symbol; exponent = p.exponent -ℤ taken (symbol_taken p.symbol) us }) ps)

abbrev pub dots_left : List Use → List DotPower → List DotPower
dots_left us ds =
    filter (λ d. nat_lt 0 (nat_abs d.exponent)) (map (λ e. record { left = e.1.left; right = e.1.right; exponent = e.1.exponent -ℤ taken (dot_taken e.0) us }) (enumerate_from 0 ds))

-- Exponents are lowered by what is taken, and the things that are taken are gone.
unfoldable pub left_of : Term → List Use → Term
left_of t us = record {
  symbols = powers_left us t.symbols;
  others = record {
    is_imaginary = t.others.is_imaginary;
    dots = dots_left us t.others.dots;
    components = untaken takes_component us t.others.components;
    deltas = untaken takes_delta us t.others.deltas;
    functions = untaken takes_function us t.others.functions;
    word = word_left us t.others.word;
  };
}

-- the term 1
abbrev pub is_one : Term → Bool
is_one t = is_nil t.symbols && is_nothing t.others
