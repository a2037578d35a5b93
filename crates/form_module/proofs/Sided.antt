-- Right sides that are joined.
use Rattle.std.proofs.Common.{◌≡◌, ℕ, List, Option, Some, None, Result, Ok, sym, subst, ap, ◌∙◌}
use Rattle.form_base.specs.declared.cause.Cause.{Cause}
use Rattle.form_term.specs.declared.monomial.Monomial.{Monomial}
use Rattle.form_tree.specs.Tree.{Sum, pieces_of_sum}
use Rattle.form_tree.specs.declared.tree.Piece.{Piece}
use Rattle.form_expand.specs.Expanding.{list_of_sum}
use Rattle.form_expand.specs.Listing.{Listing, single}
use Rattle.form_expand.specs.Meanings.{Meanings}
use Rattle.form_flow.specs.Statement.{Compiled}
use Rattle.form_flow.specs.Statements.{outputs}
use Rattle.form_sides.specs.Collected.{HasTerms}
use Rattle.form_module.specs.Inputs.{IsTreeOf, inputs_of}
use Rattle.form_module.specs.Module.{collected_list, result_of, through, within}
use Rattle.form_module.specs.Summed.{ComesTo, GivesIfAny}
use Rattle.form_module.specs.declared.result_error.ResultError.{ResultError}
use Rattle.form_module.proofs.Collected.{as_they_are, to_the_end}

-- an answer of what terms come to, where a list comes to these
pub of_terms : (most : ℕ) (meant : Result (List Monomial) Cause) (terms : List Monomial) (r : Result (Option (List Monomial)) ResultError) → meant ≡ Ok terms → GivesIfAny r (within most (Ok terms)) → GivesIfAny r (within most meant)
of_terms most meant terms r is given = subst (λ (m : Result (List Monomial) Cause). GivesIfAny r (within most m)) (sym is) given

-- what a list collects to, where each term is left as it is
pub left_so : (c : Compiled) (l : Listing) → ((m : Monomial) → outputs c m ≡ single m) → (terms : List Monomial) → HasTerms l terms → ComesTo c l terms
left_so c l leaves terms list = ap (λ (k : Listing). collected_list k) (sym (as_they_are (outputs c) leaves l)) ∙ to_the_end l (Some terms) list.0 list.1

-- an answer of what a definition's right side comes to
pub of_side : (most max : ℕ) (c : Compiled) (names : Meanings) (right : List Piece) (terms : List Monomial) (r : Result (Option (List Monomial)) ResultError)
    → ((s : Sum) → right ≡ pieces_of_sum s → ComesTo c (list_of_sum max names s) terms) → GivesIfAny r (within most (Ok terms))
    → (expression : ℕ) (tree : Option Sum) → IsTreeOf (Some right) tree → GivesIfAny r (result_of most c (inputs_of max names expression tree))
of_side most max c names right terms r comes given expression None is = absurd is
of_side most max c names right terms r comes given expression (Some s) is = of_terms most (collected_list (through (outputs c) (list_of_sum max names s))) terms r (comes s is) given
