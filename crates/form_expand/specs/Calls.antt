-- Reading the arguments of a function.
use Rattle.std.specs.Prelude.{◌≡◌, ℕ, ◌≤◌, ◌<◌, Bool, false, List, [], ◌∷◌, length, All, Result, Ok, Err}
use Rattle.std.specs.List.Sorted.{IsStrictlySortedBy}
use Rattle.std.specs.Ordering.{on}
use Rattle.std.specs.Global.{Vec}
use Rattle.form_frac.specs.Fraction.{is_zero}
use Rattle.form_term.specs.declared.monomial.Monomial.{Monomial}
use Rattle.form_term.specs.declared.arguments.Arguments.{Arguments}
use Rattle.form_term.specs.Monomial.{summands_of}
use Rattle.form_term.specs.Term.{Argument, expression, order, pieces_of_arguments}
use Rattle.form_tree.specs.declared.tree.Piece.{Piece}
use Rattle.form_collect.specs.declared.collector.Collector.{Collector}
use Rattle.form_collect.specs.Collector.{IsCollectionOf}
use Rattle.form_expand.specs.declared.function.Read.{Read}
use Rattle.form_expand.specs.declared.function.Read.TheVariants.{Further, Refused}
use Rattle.form_expand.specs.declared.refusal.Refusal.{Refusal}
use Rattle.form_expand.specs.Meanings.{Meanings}
use Rattle.form_expand.specs.Listing.{Listing, refusal}
use Rattle.form_expand.specs.Reading.{Calling, in_function, in_sum, fresh, read_from}
use Rattle.form_expand.specs.Readers.{list_of_calling}
use Rattle.form_expand.specs.Singles.{argument_of}
use Rattle.form_expand.specs.Walks.{all_of}

-- a function with these arguments so far
abbrev pub called : ℕ → ℕ → Bool → List Argument → Calling
called max f is_commuting args = record { max = max; function = f; is_commuting = is_commuting; arguments = Ok args }

-- These arguments were read, which leaves these pieces.
pub record IsFurther (max : ℕ) (all : Meanings) (list : Listing) (f : ℕ) (is_commuting : Bool) (new : Arguments) (rest : List Piece) : Type 0 where
  pub now : List Argument
  pub written : new ≡ pieces_of_arguments now
  pub read : list ≡ list_of_calling all (called max f is_commuting now) rest

abbrev pub Leads : ℕ → Meanings → Listing → ℕ → Bool → Read → Type 0
Leads max all list f is_commuting (Further new rest) = IsFurther max all list f is_commuting new rest.now
Leads max all list f is_commuting (Refused r) = list ≡ refusal r.cause

-- whatever the function and its arguments before are
abbrev pub ReadsArgument : ℕ → Meanings → List Piece → Arguments → Read → Type 0
ReadsArgument max all ps old read = (f : ℕ) (is_commuting : Bool) (args : List Argument) → old ≡ pieces_of_arguments args → Leads max all (list_of_calling all (called max f is_commuting args) ps) f is_commuting read

-- the same where an argument that is an expression was begun
abbrev pub ReadsExpression : ℕ → Meanings → List Piece → Arguments → Read → Type 0
ReadsExpression max all ps old read = (f : ℕ) (is_commuting : Bool) (args : List Argument) → old ≡ pieces_of_arguments args
    → Leads max all (read_from all (record { top = in_sum (fresh max); outer = in_function (called max f is_commuting args) ∷ [] }) ps) f is_commuting read

-- fewer pieces are left, where there were some
abbrev pub is_shorter : List Piece → Read → Type 0
is_shorter ps (Further new rest) = 0 < length ps → length rest.now < length ps
is_shorter ps (Refused r) = Unit {0}

abbrev pub is_no_longer : List Piece → Read → Type 0
is_no_longer ps (Further new rest) = length rest.now ≤ length ps
is_no_longer ps (Refused r) = Unit {0}

-- what is collected of a list
pub record AreCollected (terms : List Monomial) (l : Listing) : Type 0 where
  pub argument : argument_of l ≡ Ok (expression (summands_of terms))
  pub rising : IsStrictlySortedBy (on (λ m. m.term) order) terms
  pub present : All (λ m. is_zero m.coefficient ≡ false) terms

abbrev pub IsCollected : Result (Vec Monomial) Refusal → Listing → Type 0
IsCollected (Ok terms) l = AreCollected terms.items l
IsCollected (Err r) l = argument_of l ≡ Err r.cause

-- the same, whatever list a collector stands for
abbrev pub IsCollectedFrom : Result (Vec Monomial) Refusal → Collector → Type 0
IsCollectedFrom found c = (list : List Monomial) → IsCollectionOf c list → IsCollected found (all_of list)
