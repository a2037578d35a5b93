-- Expressions that come out of a module as they stand.
use Rattle.std.specs.Prelude.{◌≡◌, ℕ, true, Bool, List, Option, None, Ok}
use Rattle.std.specs.declared.cmp.Ordering.{Ordering}
use Rattle.std.specs.List.Sorted.{IsStrictlySortedBy}
use Rattle.std.specs.Ordering.{nat_cmp}
use Rattle.form_term.specs.declared.monomial.Monomial.{Monomial}
use Rattle.form_collect.specs.Collecting.{collected}
use Rattle.form_expand.specs.declared.stored.Stored.{Stored}
use Rattle.form_expand.specs.Listing.{single}
use Rattle.form_expand.specs.Meanings.{Meanings, terms_of}
use Rattle.form_flow.specs.Statement.{Compiled}
use Rattle.form_flow.specs.Statements.{outputs}
use Rattle.form_module.specs.Module.{or_overflow, within}

abbrev pub id_order : Stored → Stored → Ordering
id_order e f = nat_cmp e.expression f.expression

-- each Id is above those before it
abbrev pub Ascend : List Stored → Type 0
Ascend all = IsStrictlySortedBy id_order all

-- the statements leave each term as it is, and each expression stands once, in order
pub record AreAtRest (statements : Compiled) (standing : List Stored) : Type 0 where
  pub leave : (m : Monomial) → outputs statements m ≡ single m
  pub ascend : Ascend standing

-- terms that are the result of themselves, where a result has at most so many
abbrev pub AreSettled : ℕ → List Monomial → Type 0
AreSettled most terms = within most (or_overflow (collected terms)) ≡ Ok terms

-- what is carried out is an expression on its own terms, and these are settled, where all is at rest
pub record IsAlike (is_at_rest : Bool) (most : ℕ) (names : Meanings) (expression : ℕ) (place : Option ℕ) : Type 0 where
  pub at_rest : is_at_rest ≡ true
  pub own : place ≡ None
  pub settled : AreSettled most (terms_of names expression)
