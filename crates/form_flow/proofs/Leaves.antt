-- What each statement that is no block makes of a term.
use Rattle.std.proofs.Common.{◌≡◌, ℕ, List, ap, sym}
use Rattle.form_ast.specs.declared.statement.Side.{Side}
use Rattle.form_term.specs.declared.monomial.Monomial.{Monomial}
use Rattle.form_tree.specs.Tree as tree
use Rattle.form_flow.specs.declared.compiled.ReadyLeaf.{ReadyLeaf}
use Rattle.form_flow.specs.declared.compiled.ReadyLeaf.TheVariants.{Rewrite, Multiply, Sum, SumOver, Discard}
use Rattle.form_flow.specs.Indices.{dummies_put}
use Rattle.form_flow.specs.Outcome.{gone, made}
use Rattle.form_flow.specs.Ready.{Part}
use Rattle.form_flow.specs.Rewriting.{rewritten}
use Rattle.form_flow.specs.Statement.{Limits}
use Rattle.form_flow.specs.Statements.{leaf, multiplied, or_unchanged, summed_over}

module _ (at : Limits) (l : ReadyLeaf) where
  pub of_rewrite : (ps : List Part) (m : Monomial) → l ≡ Rewrite ps → or_unchanged m (rewritten at.terms ps m) ≡ leaf at l m
  unfolding leaf
  of_rewrite ps m is = ap (λ (k : ReadyLeaf). leaf at k m) (sym is)

  pub of_multiply : (side : Side) (s : tree.Sum) (m : Monomial) → l ≡ Multiply side s → made (multiplied at.terms side s m) ≡ leaf at l m
  unfolding leaf
  of_multiply side s m is = ap (λ (k : ReadyLeaf). leaf at k m) (sym is)

  pub of_sum : (is : List ℕ) (m : Monomial) → l ≡ Sum is → made (dummies_put is m) ≡ leaf at l m
  unfolding leaf
  of_sum indices m is = ap (λ (k : ReadyLeaf). leaf at k m) (sym is)

  pub of_sum_over : (i : ℕ) (ns : List ℕ) (m : Monomial) → l ≡ SumOver i ns → made (summed_over i ns m) ≡ leaf at l m
  unfolding leaf
  of_sum_over i ns m is = ap (λ (k : ReadyLeaf). leaf at k m) (sym is)

  pub of_discard : (m : Monomial) → l ≡ Discard → gone ≡ leaf at l m
  unfolding leaf
  of_discard m is = ap (λ (k : ReadyLeaf). leaf at k m) (sym is)
