-- What a module makes of the expressions that stand at its start. What it prints is told elsewhere.
use Rattle.std.specs.Prelude.{ℕ, Bool, nat_lt, if◌then◌else◌, List, [], ◌∷◌, ◌++◌, filter, fold, length, All, Option, Some, None, Result, Ok, Err}
use Rattle.std.specs.Ordering.{nat_cmp, match_ordering}
use Rattle.form_base.specs.declared.cause.Cause.{Cause}
use Rattle.form_base.specs.declared.cause.Cause.TheVariants.{Overflow, TermLimit}
use Rattle.form_base.specs.declared.settings.Settings.{Settings}
use Rattle.form_term.specs.declared.monomial.Monomial.{Monomial}
use Rattle.form_collect.specs.Collecting.{collected}
use Rattle.form_tree.specs.Building.{sum_of}
use Rattle.form_tree.specs.declared.tree.Piece.{Piece}
use Rattle.form_expand.specs.Expanding.{list_of_sum}
use Rattle.form_expand.specs.Listing.{Listing, followed}
use Rattle.form_expand.specs.declared.stored.Stored.{Stored}
use Rattle.form_expand.specs.Meanings.{Meanings, of_stored, terms_of}
use Rattle.form_check.specs.declared.checked.Checked.{Checked}
use Rattle.form_check.specs.declared.checked.Checked.TheVariants.{Drop, Skip, Local, Print}
use Rattle.form_check.specs.Program.{Module}
use Rattle.form_flow.specs.Making.{HasAllTrees, HasTree, compiled}
use Rattle.form_flow.specs.Statement.{Compiled}
use Rattle.form_flow.specs.Statements.{outputs}
use Rattle.form_module.specs.Works.{Work, is_left, works_of}

-- ---- what an expression comes to

-- the terms that the statements are carried out on: those of the right side, or those that the expression stands for
abbrev pub inputs_by : ℕ → Meanings → ℕ → Option (List Piece) → Listing
inputs_by max names expression (Some right) = list_of_sum max names (sum_of right)
inputs_by max names expression None = record { terms = terms_of names expression; end = None }

abbrev pub inputs : ℕ → Meanings → Work → Listing
inputs max names w = inputs_by max names w.expression w.right_side

-- each term in order becomes a list, and what ended them stands behind
unfoldable pub through_each : (Monomial → Listing) → List Monomial → Option Cause → Listing
through_each go [] end = record { terms = []; end = end }
through_each go (m ∷ ms) end = followed (go m) (through_each go ms end)

abbrev pub through : (Monomial → Listing) → Listing → Listing
through go l = through_each go l.terms l.end

-- the collected list, or Overflow where the coefficients of a term don't add up in range
abbrev pub or_overflow : Option (List Monomial) → Result (List Monomial) Cause
or_overflow None = Err Overflow
or_overflow (Some terms) = Ok terms

-- the refusal that ended a list of terms, else what it collects to
abbrev pub unless_ended : Option Cause → List Monomial → Result (List Monomial) Cause
unless_ended (Some cause) terms = Err cause
unless_ended None terms = or_overflow (collected terms)

abbrev pub collected_list : Listing → Result (List Monomial) Cause
collected_list l = unless_ended l.end l.terms

-- a result of more terms than may be is refused
abbrev pub within : ℕ → Result (List Monomial) Cause → Result (List Monomial) Cause
within most (Err cause) = Err cause
within most (Ok terms) = if nat_lt most (length terms) then Err TermLimit else Ok terms

-- What inputs in order come to by these statements, where a result has at most `most` terms: the first refusal of the
-- statements; else that which ended the inputs; else that of adding up equal terms; else that of too many terms; else the
-- collected list.
abbrev pub result_of : ℕ → Compiled → Listing → Result (List Monomial) Cause
result_of most statements l = within most (collected_list (through (outputs statements) l))

-- ---- what a module comes to

-- why a module is refused, and at which expression
pub record Refusal : Type 0 where
  pub cause : Cause
  pub expression : ℕ

-- a result before the others, where none of those is refused
abbrev pub before : Stored → Result (List Stored) Refusal → Result (List Stored) Refusal
before e (Ok rest) = Ok (e ∷ rest)
before e (Err refusal) = Err refusal

-- the refusal of an expression, or its terms before the other results
abbrev pub with_result : ℕ → Result (List Monomial) Cause → Result (List Stored) Refusal → Result (List Stored) Refusal
with_result expression (Err cause) rest = Err (record { cause = cause; expression = expression })
with_result expression (Ok terms) rest = before (record { expression = expression; terms = terms }) rest

-- The results of what is carried out, each by what names stand for at the module's start, or the first refusal.
abbrev pub results : Settings → Compiled → Meanings → List Work → Result (List Stored) Refusal
results settings statements names [] = Ok []
results settings statements names (w ∷ ws) =
    with_result w.expression (result_of settings.max_terms statements (inputs settings.max_expand names w)) (results settings statements names ws)

-- Expressions in the order of first definition in the text, which is that of their Ids, with one more: it takes the
-- place of the one that has its Id, where there is one.
abbrev pub with_expression : List Stored → Stored → List Stored
with_expression [] e = e ∷ []
with_expression (f ∷ fs) e =
    match_ordering (nat_cmp e.expression f.expression) (e ∷ f ∷ fs) (record { expression = f.expression; terms = e.terms } ∷ fs) (f ∷ with_expression fs e)

abbrev pub stays : List Checked → Stored → Bool
stays statements e = is_left statements e.expression

-- what stands after a module: what is neither dropped nor defined, and the results in their places, in the order of first
-- definition
abbrev pub standing_after : List Checked → List Stored → Result (List Stored) Refusal → Result (List Stored) Refusal
standing_after statements standing (Err refusal) = Err refusal
standing_after statements standing (Ok made) = Ok (fold with_expression [] (filter (stays statements) standing ++ made))

-- what stands after, by the statements made ready and by what names stand for
abbrev pub outcome_by : Settings → List Checked → Compiled → Meanings → Result (List Stored) Refusal
outcome_by settings statements ready names =
    standing_after statements names.stored (results settings ready names (works_of statements names.stored))

-- What a module makes of the expressions that stand at its start: those that stand at its end, or why it is refused.
abbrev pub module_outcome : Settings → Module → List Stored → Result (List Stored) Refusal
module_outcome settings m standing =
    outcome_by settings m.statements (compiled settings.max_expand settings.max_repeat m.actions) (of_stored standing)

-- ---- what the grammar gives

-- the right side of a definition is one of the grammar
abbrev pub HasRightSide : Checked → Type 0
HasRightSide (Drop which) = Unit {0}
HasRightSide (Skip which) = Unit {0}
HasRightSide (Local id right) = HasTree right
HasRightSide (Print which) = Unit {0}

-- every right side and every pattern of a module is one of the grammar
pub record HaveTrees (m : Module) : Type 0 where
  pub definitions : All HasRightSide m.statements
  pub actions : All HasAllTrees m.actions
