-- Exponents within their limits and past them.
use Rattle.std.proofs.Common.{◌≡◌, ◌≤◌, true, List, [], ◌∷◌, refl}
use Rattle.std.specs.Prelude.{All, nat_abs, nat_le}
use Rattle.std.proofs.lemmas.Bool.{le-leb, leb-true, and_parts}
use Rattle.std.proofs.lemmas.List.Elements.{All-nil, All-cons, All-head, All-tail}
use Rattle.form_term.specs.declared.power.Power.{Power}
use Rattle.form_term.specs.declared.power.DotPower.{DotPower}
use Rattle.form_term.specs.Term.{largest_exponent}
use Rattle.form_normal.specs.Factors.{IsInRange}
use Rattle.form_normal.specs.Product.{are_in_range, are_dots_in_range}

pub each_in_range : (ps : List Power) → are_in_range ps ≡ true → All IsInRange ps
each_in_range [] e = All-nil IsInRange
each_in_range (p ∷ ps) e =
    let both = and_parts (nat_le (nat_abs p.exponent) largest_exponent) (are_in_range ps) e in
    All-cons IsInRange p ps (leb-true (nat_abs p.exponent) largest_exponent both.0) (each_in_range ps both.1)

pub are_in_range_from : (ps : List Power) → All IsInRange ps → are_in_range ps ≡ true
are_in_range_from [] h = refl
are_in_range_from (p ∷ ps) h = rw (le-leb (nat_abs p.exponent) largest_exponent (All-head IsInRange p ps h)) (are_in_range_from ps (All-tail IsInRange p ps h))

abbrev pub IsDotInRange : DotPower → Type 0
IsDotInRange d = nat_abs d.exponent ≤ largest_exponent

pub are_dots_in_range_from : (ds : List DotPower) → All IsDotInRange ds → are_dots_in_range ds ≡ true
are_dots_in_range_from [] h = refl
are_dots_in_range_from (d ∷ ds) h = rw (le-leb (nat_abs d.exponent) largest_exponent (All-head IsDotInRange d ds h)) (are_dots_in_range_from ds (All-tail IsDotInRange d ds h))

pub each_dot_in_range : (ds : List DotPower) → are_dots_in_range ds ≡ true → All IsDotInRange ds
each_dot_in_range [] e = All-nil IsDotInRange
each_dot_in_range (d ∷ ds) e =
    let both = and_parts (nat_le (nat_abs d.exponent) largest_exponent) (are_dots_in_range ds) e in
    All-cons IsDotInRange d ds (leb-true (nat_abs d.exponent) largest_exponent both.0) (each_dot_in_range ds both.1)
