-- Linear statements: what they make of a term with c times its coefficient.
use Rattle.std.specs.Prelude.{◌≡◌, ◌⊎◌, false, List, [], map, length, take, Some}
use Rattle.std.specs.List.{AllByRecursion}
use Rattle.form_base.specs.declared.block.Action.TheFolds.{fold-Action}
use Rattle.form_base.specs.declared.block.Action.TheOpen.{Action-F}
use Rattle.form_base.specs.declared.cause.Cause.TheVariants.{Overflow}
use Rattle.form_base.specs.Statements.{conditions_in}
use Rattle.form_check.specs.declared.checked.Picked.{Picked}
use Rattle.form_expand.specs.Listing.{Listing}
use Rattle.form_frac.specs.Fraction.{Fraction}
use Rattle.form_frac.specs.Weight.{product}
use Rattle.form_term.specs.declared.monomial.Monomial.{Monomial}
use Rattle.form_flow.specs.declared.compiled.ReadyLeaf.{ReadyLeaf}
use Rattle.form_flow.specs.Outcome.{Outcome, Output, refused}
use Rattle.form_flow.specs.Ready.{Choice}
use Rattle.form_flow.specs.Statement.{Chosen, Statement}
use Rattle.form_levels.specs.Asks.{asks_coefficient}

-- ---- which statements

-- the conditions that are asked of a term itself: those in an `argument` are asked of the terms of its arguments
abbrev pub conditions_on_term_in : Action-F ReadyLeaf Choice (List Picked) (List Choice) → List Choice
conditions_on_term_in (Action-F.Within picks b) = []
conditions_on_term_in a = conditions_in a

abbrev pub conditions_on_term : Statement → List Choice
conditions_on_term = fold-Action ReadyLeaf Choice (List Picked) (List Choice) conditions_on_term_in

abbrev pub IsIndifferent : Choice → Type 0
IsIndifferent q = asks_coefficient q.condition ≡ false

-- Statements are linear where none of these conditions asks for the coefficient.
abbrev pub IsLinear : Statement → Type 0
IsLinear s = AllByRecursion IsIndifferent (conditions_on_term s)

abbrev pub AreLinear : List Statement → Type 0
AreLinear ss = AllByRecursion IsLinear ss

abbrev pub IsLinearBranch : Chosen → Type 0
IsLinearBranch b = IsIndifferent b.condition × AreLinear b.block

-- ---- what comes of c times a term

-- a term with c times its coefficient, whatever the parts of both
abbrev pub scaled : Fraction → Monomial → Monomial
scaled c m = record m { coefficient = product c m.coefficient }

-- the same of outputs, and of a list
abbrev pub scaled_output : Fraction → Output → Output
scaled_output c o = record o { item = scaled c o.item }

abbrev pub scaled_outcome : Fraction → Outcome → Outcome
scaled_outcome c o = record o { outputs = map (scaled_output c) o.outputs }

abbrev pub scaled_list : Fraction → Listing → Listing
scaled_list c l = record l { terms = map (scaled c) l.terms }

-- a list ends by an overflow, and is a front of another one
abbrev pub StopsIn : {A E : Type 0} → E → List A → E → List A → Type 0
StopsIn overflow xs e ys = (e ≡ overflow) × (take (length xs) ys ≡ xs)

-- Two lists are the same and end alike; or one of both overflows, and they agree up to there.
abbrev pub AgreeTo : {A E : Type 0} → E → List A → E → List A → E → Type 0
AgreeTo overflow xs e ys f = ((xs ≡ ys) × (e ≡ f)) ⊎ (StopsIn overflow xs e ys ⊎ StopsIn overflow ys f xs)

abbrev pub Agree : Outcome → Outcome → Type 0
Agree o p = AgreeTo (refused Overflow) o.outputs o.end p.outputs p.end

abbrev pub AgreeListing : Listing → Listing → Type 0
AgreeListing l k = AgreeTo (Some Overflow) l.terms l.end k.terms k.end
