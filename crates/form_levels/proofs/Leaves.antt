-- Statements that are no blocks on joined terms.
use Rattle.std.proofs.Common.{◌≡◌, Bool, true, false, if◌then◌else◌, List, [], ◌∷◌, Some, None, refl, sym, ap, subst, ◌∙◌}
use Rattle.std.specs.List.{AllByRecursion}
use Rattle.form_ast.specs.declared.statement.Side.{Side}
use Rattle.form_ast.specs.declared.statement.Side.TheVariants.{Left, Right}
use Rattle.form_term.specs.Term.{Term}
use Rattle.form_term.specs.declared.monomial.Monomial.{Monomial}
use Rattle.form_tree.specs.Tree as tree
use Rattle.form_expand.specs.Expanding.{list_of_sum}
use Rattle.form_expand.specs.Listing.{Listing, pairs, single}
use Rattle.form_expand.specs.Meanings.{no_meanings}
use Rattle.form_expand.specs.Walks.{all_of}
use Rattle.form_gathered.specs.Joined.{IsJoined}
use Rattle.form_gathered.specs.declared.joined.JoinedTerm.{JoinedTerm}
use Rattle.form_joined.specs.Goes.{Goes}
use Rattle.form_joined.specs.Products.{HasList, singles}
use Rattle.form_joined.proofs.Weighed.{WeightLaws}
use Rattle.form_flow.specs.declared.compiled.ReadyLeaf.TheVariants.{Rewrite, Multiply, Discard}
use Rattle.form_flow.specs.Outcome.{gone, made, unchanged}
use Rattle.form_flow.specs.Ready.{Part}
use Rattle.form_flow.specs.Rewriting.{list_of_rest, rest_of, rewritten}
use Rattle.form_flow.specs.Statement.{Limits}
use Rattle.form_flow.specs.Statements.{leaf, multiplied, or_unchanged}
use Rattle.form_levels.specs.Runs.{Runs}
use Rattle.form_levels.specs.Sides.{paired_from}
use Rattle.form_levels.proofs.Rows.{goes_left, goes_right}
use Rattle.form_levels.proofs.Running.{runs_same, runs_unchanged}
use Rattle.form_levels.proofs.Terms.{runs_by, runs_gone, runs_made}

module _ (at : Limits) where
  -- what is left of a term by an `id` with its `also`s, and whether one of them matched
  rewritten_by : (ps : List Part) (m : Monomial) (truth : Bool) → (rest_of at.terms ps m.term).has_matched ≡ truth
      → leaf at (Rewrite ps) m ≡ or_unchanged m (if truth then Some (list_of_rest at.terms m (rest_of at.terms ps m.term)) else None)
  unfolding leaf rewritten
  rewritten_by ps m truth e = ap (λ (b : Bool). or_unchanged m (if b then Some (list_of_rest at.terms m (rest_of at.terms ps m.term)) else None)) e

  -- terms of which none matches
  pub untouched_run : (ps : List Part) (js : List JoinedTerm) → AllByRecursion (λ j. (rest_of at.terms ps j.term).has_matched ≡ false) js → Runs (leaf at (Rewrite ps)) js js []
  untouched_run ps js never =
      runs_by (leaf at (Rewrite ps)) unchanged (λ t. (rest_of at.terms ps t).has_matched ≡ false) js js [] never (λ m e. rewritten_by ps m false e) (runs_unchanged js)

  -- one that matches, by what is made of what is left of it
  pub rewritten_run : (ps : List Part) (j : JoinedTerm) (ks : List JoinedTerm) → (rest_of at.terms ps j.term).has_matched ≡ true
      → Goes (λ m. list_of_rest at.terms m (rest_of at.terms ps j.term)) (j ∷ []) ks → Runs (leaf at (Rewrite ps)) (j ∷ []) [] ks
  rewritten_run ps j ks matched g =
      runs_by (leaf at (Rewrite ps)) (λ m. made (list_of_rest at.terms m (rest_of at.terms ps j.term))) (λ t. t ≡ j.term) (j ∷ []) [] ks (refl, tt)
      (λ m e. rewritten_by ps m true (ap (λ (t : Term). (rest_of at.terms ps t).has_matched) e ∙ matched) ∙ ap (λ (t : Term). made (list_of_rest at.terms m (rest_of at.terms ps t))) e)
      (runs_made (λ m. list_of_rest at.terms m (rest_of at.terms ps j.term)) (j ∷ []) ks g)

  pub multiplied_run : (side : Side) (s : tree.Sum) (js ks : List JoinedTerm) → Goes (multiplied at.terms side s) js ks → Runs (leaf at (Multiply side s)) js [] ks
  unfolding leaf
  multiplied_run side s js ks g = runs_same (λ m. made (multiplied at.terms side s m)) (leaf at (Multiply side s)) js [] ks (λ m. refl) (runs_made (multiplied at.terms side s) js ks g)

  -- a right side that is a fixed list, behind them or before them
  pub list_beside_run : (laws : WeightLaws) (side : Side) (s : tree.Sum) (list : List Monomial) (js ks : List JoinedTerm)
      → list_of_sum at.terms no_meanings s ≡ all_of list → IsJoined 1 (singles list) (λ k. list) → paired_from side js (singles list) ≡ Some ks → Runs (leaf at (Multiply side s)) js [] ks
  list_beside_run laws Right s list js ks same alone e =
      let l = list_of_sum at.terms no_meanings s in
      let whole : HasList l (singles list) = subst (λ (k : Listing). HasList k (singles list)) (sym same) (refl, alone) in
      multiplied_run Right s js ks (goes_right laws js (singles list) ks l whole e)
  list_beside_run laws Left s list js ks same alone e =
      multiplied_run Left s js ks (subst (λ (l : Listing). Goes (λ m. pairs l (single m)) js ks) (sym same) (goes_left laws js ks list alone e))

  pub discarded_run : (js : List JoinedTerm) → Runs (leaf at Discard) js [] []
  unfolding leaf
  discarded_run js = runs_same (λ m. gone) (leaf at Discard) js [] [] (λ m. refl) (runs_gone js)
