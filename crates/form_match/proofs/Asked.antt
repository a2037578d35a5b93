-- What is asked of a wildcard for an argument, and what that leads to.
use Rattle.std.proofs.Common.{◌≡◌, ℕ, Bool, true, false, if◌then◌else◌, List, [], ◌∷◌, length, drop, Option, Some, None, refl, sym, ap, subst, ◌∙◌}
use Rattle.std.specs.Prelude.{Result, Ok, Err, IfOk}
use Rattle.std.specs.Option.{unwrap_or}
use Rattle.std.proofs.Math.Seq.{drop-append_seam}
use Rattle.form_term.specs.declared.index.Index.{Index}
use Rattle.form_term.specs.declared.piece.Piece.{Piece}
use Rattle.form_term.specs.Term as terms
use Rattle.form_term.specs.Term.{pieces_of_argument}
use Rattle.form_term.specs.Arguments.{arguments_of}
use Rattle.form_tree.specs.declared.pattern.IndexName.TheVariants as an_index
use Rattle.form_tree.specs.declared.pattern.Name.{Name}
use Rattle.form_tree.specs.declared.pattern.Sort.TheVariants as sorts
use Rattle.form_tree.specs.declared.pattern.PatternPiece.{PatternPiece}
use Rattle.form_bindings.specs.Learning.{Tells}
use Rattle.form_bindings.specs.Values.{Binding}
use Rattle.form_match.specs.Leading.{IsPlain, LeadsTo, once_taken}
use Rattle.form_match.specs.Learning.{learnt_of}
use Rattle.form_match.specs.Matching.{asked_expression, asked_index, asked_vector}
use Rattle.form_match.specs.Parts.{HasFirst, any_asked, begins_sum, index_alone, vector_alone}
use Rattle.form_match.specs.States.{Open, arguments, state, moves}
use Rattle.form_match.proofs.Cutting.{no_arguments}
use Rattle.form_match.proofs.Unfit.{none_taken}

-- ---- the kinds of argument

module _ (n : Name) (ps : List Piece) (a : terms.Argument) (is : ps ≡ pieces_of_argument a) where
  pub any_sum : begins_sum ps ≡ true → any_asked sorts.Expression n a ≡ asked_expression n ps
  any_sum begins = by a is (sym (ap begins_sum is) ∙ begins)
    where
      by : (b : terms.Argument) → ps ≡ pieces_of_argument b → begins_sum (pieces_of_argument b) ≡ true → any_asked sorts.Expression n b ≡ asked_expression n ps
      by (terms.index i) at e = cc
      by (terms.vector v) at e = cc
      by (terms.expression ss) at e = ap (asked_expression n) (sym at)

  pub no_sum : begins_sum ps ≡ false → any_asked sorts.Expression n a ≡ None
  no_sum begins = by a (sym (ap begins_sum is) ∙ begins)
    where
      by : (b : terms.Argument) → begins_sum (pieces_of_argument b) ≡ false → any_asked sorts.Expression n b ≡ None
      by (terms.index i) e = refl
      by (terms.vector v) e = refl
      by (terms.expression ss) e = cc

  pub any_index : (i : Index) → index_alone ps ≡ Some i → any_asked sorts.Index n a ≡ asked_index (an_index.Name n) i
  any_index i alone = by a (sym (ap index_alone is) ∙ alone)
    where
      by : (b : terms.Argument) → index_alone (pieces_of_argument b) ≡ Some i → any_asked sorts.Index n b ≡ asked_index (an_index.Name n) i
      by (terms.index j) e = ap (λ (o : Option Index). asked_index (an_index.Name n) (unwrap_or o j)) e
      by (terms.vector v) e = cc
      by (terms.expression ss) e = cc

  pub no_index : index_alone ps ≡ None → any_asked sorts.Index n a ≡ None
  no_index alone = by a (sym (ap index_alone is) ∙ alone)
    where
      by : (b : terms.Argument) → index_alone (pieces_of_argument b) ≡ None → any_asked sorts.Index n b ≡ None
      by (terms.index j) e = cc
      by (terms.vector v) e = refl
      by (terms.expression ss) e = refl

  pub any_vector : (v : ℕ) → vector_alone ps ≡ Some v → any_asked sorts.Vector n a ≡ asked_vector n v
  any_vector v alone = by a (sym (ap vector_alone is) ∙ alone)
    where
      by : (b : terms.Argument) → vector_alone (pieces_of_argument b) ≡ Some v → any_asked sorts.Vector n b ≡ asked_vector n v
      by (terms.index j) e = cc
      by (terms.vector w) e = ap (λ (o : Option ℕ). asked_vector n (unwrap_or o w)) e
      by (terms.expression ss) e = cc

  pub no_vector : vector_alone ps ≡ None → any_asked sorts.Vector n a ≡ None
  no_vector alone = by a (sym (ap vector_alone is) ∙ alone)
    where
      by : (b : terms.Argument) → vector_alone (pieces_of_argument b) ≡ None → any_asked sorts.Vector n b ≡ None
      by (terms.index j) e = refl
      by (terms.vector w) e = cc
      by (terms.expression ss) e = refl

-- what a kind of argument asks is what is told of it
pub told_as : (b : Bool) (old new : List Binding) (asks other : Option (List Binding)) → asks ≡ other → Tells b (learnt_of old other) new → Tells b (learnt_of old asks) new
told_as b old new asks other is told = subst (λ (o : Option (List Binding)). Tells b (learnt_of old o) new) (sym is) told

pub not_told : (old new : List Binding) (asks : Option (List Binding)) → asks ≡ None → Tells false (learnt_of old asks) new
not_told old new asks is = ap (learnt_of old) is

pub told_all : {E : Type 0} (r : Result Bool E) (old new : List Binding) (asks other : Option (List Binding)) → asks ≡ other → IfOk r (λ b. Tells b (learnt_of old other) new) → IfOk r (λ b. Tells b (learnt_of old asks) new)
told_all (Ok b) old new asks other is told = told_as b old new asks other is told
told_all (Err e) old new asks other is told = tt

-- ---- what an argument leads to

-- a piece that takes one argument takes the first one, or nothing
module _ (table : List (Option (List Piece))) (p : PatternPiece) (ps : List Piece) (os : List Open) (old : List Binding) where
  pub first_taken : (front behind : List Piece) (new : List Binding) (b : Bool) (n : Option ℕ) (first : HasFirst ps front behind)
      → LeadsTo b (moves table p (arguments (first.first ∷ first.args) ∷ os) old) (arguments first.args ∷ os) new → n ≡ (if b then Some (length front) else None)
      → moves table p (arguments (arguments_of ps) ∷ os) old ≡ once_taken ps os new n
  first_taken front behind new b n first leads is =
      ap (λ (xs : List terms.Argument). moves table p (arguments xs ∷ os) old) first.read ∙ by b leads ∙ ap (once_taken ps os new) (sym is)
    where
      by : (t : Bool) → LeadsTo t (moves table p (arguments (first.first ∷ first.args) ∷ os) old) (arguments first.args ∷ os) new
          → moves table p (arguments (first.first ∷ first.args) ∷ os) old ≡ once_taken ps os new (if t then Some (length front) else None)
      by true e =
          e ∙ ap (λ (xs : List terms.Argument). state (arguments xs ∷ os) new ∷ [])
          (sym (ap arguments_of (ap (drop (length front)) first.parts ∙ drop-append_seam front behind) ∙ first.behind_is))
      by false e = e

  pub nothing_there : ps ≡ [] → IsPlain p → moves table p (arguments (arguments_of ps) ∷ os) old ≡ []
  nothing_there empty plain = ap (λ (xs : List terms.Argument). moves table p (arguments xs ∷ os) old) (ap arguments_of empty ∙ no_arguments) ∙ none_taken table os old p plain
