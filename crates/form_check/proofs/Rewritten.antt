-- An `id`, an `also` and a `multiply`, step by step.
use Rattle.std.proofs.Common.{◌≡◌, ℕ, Bool, false, List, Result, Ok, sym, ap, subst, ◌∙◌}
use Rattle.form_names.specs.Names.{Entry}
use Rattle.form_ast.specs.declared.expr.Piece.{Piece}
use Rattle.form_ast.specs.declared.statement.Rewrite.{Rewrite}
use Rattle.form_tree.specs.declared.tree.Tree.{Tree}
use Rattle.form_tree.specs.Patterns.{Pieces}
use Rattle.form_check.specs.declared.checked.Rewriting.{Rewriting}
use Rattle.form_check.specs.Acting.{rewriting}
use Rattle.form_pattern.specs.Pattern.{known_of, pattern_checked}
use Rattle.form_right_side.specs.Refusal.{Refusal, IsRefused, Gives, ◌>>=◌}
use Rattle.form_right_side.specs.RightSide.{Known, none_stands, nothing_known, right_side}
use Rattle.form_right_side.specs.declared.error.CheckError.{CheckError}
use Rattle.form_right_side.proofs.Loops.{IsRefused-before}

-- ---- a `multiply`

pub where-none-stands : (r : Result Tree CheckError) (names : List Entry) (standing : ℕ → Bool) (known : Known) (right : List Piece) → ((e : ℕ) → standing e ≡ false) → known ≡ nothing_known
    → Gives (λ tree. tree) r (right_side names standing known right) → Gives (λ tree. tree) r (right_side names none_stands nothing_known right)
where-none-stands r names standing known right none nothing given =
    let same : standing ≡ none_stands = λ j e. none e j in
    subst (λ (k : Known). Gives (λ tree. tree) r (right_side names none_stands k right)) nothing
    (subst (λ (s : ℕ → Bool). Gives (λ tree. tree) r (right_side names s known right)) same given)

-- ---- an `id` or an `also`

module _ (names : List Entry) (r : Rewrite) where
  abbrev last : Pieces → Tree → Result Rewriting Refusal
  last p t = Ok (record { option = r.option; pattern = p; right = t })

  abbrev later : Pieces → Result Rewriting Refusal
  later p = right_side names none_stands (known_of names r.pattern) r.right >>= last p

  pub pattern-refused : (e : CheckError) → IsRefused e (pattern_checked names r.pattern) → IsRefused e (rewriting names r)
  pattern-refused e is = IsRefused-before e (pattern_checked names r.pattern) later is

  module _ (known : Known) (p : Pieces) (same : known ≡ known_of names r.pattern) (made : pattern_checked names r.pattern ≡ Ok p) where
    pub right-refused : (e : CheckError) → IsRefused e (right_side names none_stands known r.right) → IsRefused e (rewriting names r)
    right-refused e is =
        subst (IsRefused e) (sym (ap (λ (x : Result Pieces Refusal). x >>= later) made))
        (IsRefused-before e (right_side names none_stands (known_of names r.pattern) r.right) (last p) (subst (λ (k : Known). IsRefused e (right_side names none_stands k r.right)) same is))

    pub rewriting-Ok : (t : Tree) → right_side names none_stands known r.right ≡ Ok t → rewriting names r ≡ last p t
    rewriting-Ok t given =
        ap (λ (x : Result Pieces Refusal). x >>= later) made
        ∙ ap (λ (x : Result Tree Refusal). x >>= last p) (ap (λ (k : Known). right_side names none_stands k r.right) (sym same) ∙ given)
