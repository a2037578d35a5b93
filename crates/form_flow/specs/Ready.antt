-- What a module's statements are made ready as.
use Rattle.std.specs.Prelude.{◌≡◌, ℕ, List, Option, IfSome, Vec}
use Rattle.std.specs.declared.alloc.Global.{Global}
use Rattle.form_base.specs.declared.taking.Taking.{Taking}
use Rattle.form_term.specs.declared.monomial.Monomial.{Monomial}
use Rattle.form_term.specs.declared.piece.Piece.{Piece}
use Rattle.form_tree.specs.Condition.{Alternatives}
use Rattle.form_tree.specs.Pattern.{Factors, pieces_of_factors}
use Rattle.form_tree.specs.PatternBuilding.{factors_of}
use Rattle.form_tree.specs.Tree.{Sum}
use Rattle.form_match.specs.Ready.{ReadyPattern}
use Rattle.form_cond.specs.Condition.{Ready}
use Rattle.form_expand.specs.Expanding.{list_of_sum}
use Rattle.form_expand.specs.Meanings.{no_meanings}
use Rattle.form_expand.specs.Walks.{all_of}

-- An `id` or an `also`: its option, its pattern, what the arguments without wildcards in that are, none where one is refused, and
-- its right side.
pub record Part : Type 0 where
  pub option : Option Taking
  pub pattern : Factors
  pub fixed : List (Option (List Piece))
  pub right : Sum

-- a condition, and its patterns by their numbers
pub record Choice : Type 0 where
  pub patterns : List Ready
  pub condition : Alternatives

-- ---- what is kept

-- the pieces of a pattern are those of its tree
abbrev pub IsBuilt : ReadyPattern → Type 0
IsBuilt p = p.pieces ≡ pieces_of_factors (factors_of p.pieces)

-- a pattern of a condition
abbrev pub pattern_in : ReadyPattern → Ready
pattern_in p = record { fixed = p.fixed; factors = factors_of p.pieces }

abbrev pub part_in : Option Taking → ReadyPattern → Sum → Part
part_in option p right = record { option = option; pattern = factors_of p.pieces; fixed = p.fixed; right = right }

-- a list that is kept of a right side is its list within this limit
abbrev pub IsListOf : ℕ → Sum → Option (Vec Monomial Global) → Type 0
IsListOf max s kept = IfSome kept (λ list. list_of_sum max no_meanings s ≡ all_of list.items)

-- the pattern of a part as it is tried
abbrev pub kept_of : Part → ReadyPattern
kept_of p = record { pieces = pieces_of_factors p.pattern; fixed = p.fixed }
