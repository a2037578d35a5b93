-- Powers of a list, joined.
use Rattle.std.specs.Prelude.{ℕ, List, All, IfSome}
use Rattle.std.specs.List.{AllByRecursion}
use Rattle.form_frac.specs.Fraction.{Fraction}
use Rattle.form_term.specs.declared.monomial.Monomial.{Monomial}
use Rattle.form_reach.specs.declared.reach.Reach.{Reach}
use Rattle.form_reach.specs.Reach.{IsUnder, IsWithin, StaysWithin}
use Rattle.form_reach.specs.Rows.{AreFineOften, IsRight, crossed_often}
use Rattle.form_gathered.specs.Joined.{IsJoined}
use Rattle.form_gathered.specs.declared.joined.JoinedTerm.{JoinedTerm}
use Rattle.form_joined.specs.declared.powers.Power.{Power}
use Rattle.form_joined.specs.declared.powers.Powers.{Powers}

-- Joined terms stand for a list with itself so many times behind it, and none of its products is refused.
pub record IsPower (list : List Monomial) (n : ℕ) (js : List JoinedTerm) : Type 0 where
  pub fine : AreFineOften n list list
  pub stand : IsJoined 1 js (λ _. crossed_often n list list)

abbrev pub IsPowerOf : List Monomial → Power → Type 0
IsPowerOf list p = IsPower list p.further p.factors

-- all products of a joined term and so many factors out of a list stay within the limits
pub record HasRoom (n : ℕ) (list : List Monomial) (j : JoinedTerm) : Type 0 where
  pub front : Reach
  pub factor : Reach
  pub within : (c : Fraction) → IsUnder j.weight c → IsWithin front (record { coefficient = c; term = j.term })
  pub each : AllByRecursion (IsWithin factor) list
  pub right : AllByRecursion IsRight list
  pub stays : StaysWithin n front factor

-- how far the factors out of a list reach, and that they may stand in a row
pub record AreRight (list : List Monomial) (r : Reach) : Type 0 where
  pub each : AllByRecursion (IsWithin r) list
  pub right : AllByRecursion IsRight list

-- what is kept of the powers of a list
pub record AreKept (list : List Monomial) (p : Powers) : Type 0 where
  pub powers : All (IsPowerOf list) p.made.items
  pub reach : IfSome p.reach (AreRight list)
