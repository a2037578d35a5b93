-- A term times another one, again and again.
use Rattle.std.specs.Prelude.{◌≡◌, ◌<◌, ℕ, zero, suc, ◌==◌, ℤ, pos, ◌+ℤ◌, ◌*ℤ◌, nat_abs, nat_lt, nat_le, Bool, not, ◌&&◌, if◌then◌else◌, List, [], ◌∷◌, map, Option, Some, None, Result, Ok, Err}
use Rattle.std.specs.Bool.{beq}
use Rattle.std.specs.Int.{is_negative}
use Rattle.std.specs.List.{list_all, list_any}
use Rattle.form_base.specs.declared.cause.Cause.{Cause}
use Rattle.form_frac.specs.Fraction.{has_size_one}
use Rattle.form_term.specs.declared.monomial.Monomial.{Monomial}
use Rattle.form_term.specs.declared.power.Power.{Power}
use Rattle.form_term.specs.declared.power.DotPower.{DotPower}
use Rattle.form_term.specs.Term.{Term, exponent_in, is_nil, largest_exponent}
use Rattle.form_normal.specs.Product.{is_fixed, product_of}
use Rattle.form_expand.specs.declared.error.ExpandError.{ExpandError}
use Rattle.form_expand.specs.declared.error.ExpandError.TheVariants.{Refused, Memory}
use Rattle.form_expand.specs.declared.repeated.More.{More}
use Rattle.form_expand.specs.declared.repeated.More.TheVariants as more

-- what comes of a product that goes on; one that is 0 or refused doesn't
abbrev pub then_by : Result (Option Monomial) Cause → (Monomial → Result (Option Monomial) Cause) → Result (Option Monomial) Cause
then_by (Ok (Some m)) next = next m
then_by (Ok None) next = Ok None
then_by (Err cause) next = Err cause

-- A term times another one so many times, from the left: none where a product is 0; else the last one, or the first refusal.
unfoldable pub often : Monomial → Monomial → ℕ → Result (Option Monomial) Cause
often m t zero = Ok (Some m)
often m t (suc k) = then_by (often m t k) (λ x. product_of x t)

-- the exponent that so many of another reach from this one
abbrev pub reached : ℤ → ℤ → ℕ → ℤ
reached e d k = e +ℤ pos k *ℤ d

-- an exponent is in range, and on the side of 0 on which another is
abbrev pub is_kept : ℤ → ℤ → Bool
is_kept e f = nat_lt 0 (nat_abs f) && nat_le (nat_abs f) largest_exponent && beq (is_negative f) (is_negative e)

-- a power times so many of these powers, and whether its exponent is kept so
abbrev pub raised_power : List Power → ℕ → Power → Power
raised_power qs k p = record { symbol = p.symbol; exponent = reached p.exponent (exponent_in qs p.symbol) k }

abbrev pub keeps_power : List Power → ℕ → Power → Bool
keeps_power qs k p = is_kept p.exponent (reached p.exponent (exponent_in qs p.symbol) k)

-- the exponent of a dot product among powers of such, 0 where it is absent
abbrev pub dot_in : List DotPower → ℕ → ℕ → ℤ
dot_in [] p q = pos 0
dot_in (d ∷ ds) p q = if d.left == p && d.right == q then d.exponent else dot_in ds p q

-- a power of a dot product times so many of these powers, and whether its exponent is kept so
abbrev pub raised_dot : List DotPower → ℕ → DotPower → DotPower
raised_dot es k d = record { left = d.left; right = d.right; exponent = reached d.exponent (dot_in es d.left d.right) k }

abbrev pub keeps_dot : List DotPower → ℕ → DotPower → Bool
keeps_dot es k d = is_kept d.exponent (reached d.exponent (dot_in es d.left d.right) k)

-- a term times so many of another, where exponents alone change
abbrev pub raised_term : Term → ℕ → Term → Term
raised_term t k f = record {
  symbols = map (raised_power t.symbols k) f.symbols;
  others = record f.others { dots = map (raised_dot t.others.dots k) f.others.dots };
}

-- a symbol and a dot product stand among these, too
abbrev pub stands_in : List Power → Power → Bool
stands_in ps q = nat_lt 0 (nat_abs (exponent_in ps q.symbol))

abbrev pub dot_stands_in : List DotPower → DotPower → Bool
dot_stands_in ds e = nat_lt 0 (nat_abs (dot_in ds e.left e.right))

-- besides symbols, dot products and `i_` there is nothing
abbrev pub is_bare : Term → Bool
is_bare t = is_nil t.others.components && is_nil t.others.deltas && is_nil t.others.functions && is_nil t.others.word

-- 1 or -1 and such a term
abbrev pub is_unit_power : Monomial → Bool
is_unit_power t = has_size_one t.coefficient && is_bare t.term

-- what a term has stands in the front, too, whose deltas stay
abbrev pub is_among : Term → Term → Bool
is_among f t = not (list_any is_fixed f.others.deltas) && list_all (stands_in f.symbols) t.symbols && list_all (dot_stands_in f.others.dots) t.others.dots

-- a further factor changes the exponents of the front alone, with the sign and `i_`
abbrev pub changes_exponents : Monomial → Monomial → Bool
changes_exponents f t = is_unit_power t && is_among f.term t.term

-- What some further factors come to, where so many are left to be made: a product and how many are left behind it, fewer.
abbrev pub MakesMore : Result More ExpandError → Monomial → Monomial → ℕ → Type 0
MakesMore (Ok (more.Made m rest)) front t left = (often front t left ≡ often m t rest) × (rest < left)
MakesMore (Ok more.Nothing) front t left = often front t left ≡ Ok None
MakesMore (Err (Refused cause)) front t left = often front t left ≡ Err cause
MakesMore (Err Memory) front t left = Unit {0}
