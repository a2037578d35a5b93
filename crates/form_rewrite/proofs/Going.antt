-- Matches one after the other.
use Rattle.std.proofs.Common.{◌≡◌, ℕ, zero, suc, ◌+◌, ◌-◌, ◌<◌, ◌≤◌, List, Option, ap, ◌∙◌, subst, arith}
use Rattle.form_term.specs.declared.piece.Piece.{Piece}
use Rattle.form_tree.specs.Pattern.{Factors}
use Rattle.form_rewrite.specs.Goes.{goes_on}
use Rattle.form_rewrite.specs.Taking.{and_more}
use Rattle.form_rewrite.specs.declared.taken.Taken.{Taken}
use Rattle.form_rewrite.specs.declared.take.More.{More}
use Rattle.form_rewrite.specs.declared.take.More.TheVariants.{Done, Another}

one_less : (most made : ℕ) → made < most → suc (most - (made + 1)) ≡ most - made
one_less most made h = omega arith

module _ (table : List (Option (List Piece))) (fs : Factors) (most made : ℕ) (x y : Taken) where
  step : (more : More) → made < most → ((n : ℕ) → goes_on n table fs more ≡ and_more (suc n) table fs x)
      → and_more (most - made) table fs x ≡ y → goes_on (most - (made + 1)) table fs more ≡ y
  step more within h w = h (most - (made + 1)) ∙ ap (λ n. and_more n table fs x) (one_less most made within) ∙ w

  -- none more
  pub done : (more : More) (all : Taken) → made < most → more ≡ Done all → ((n : ℕ) → goes_on n table fs more ≡ and_more (suc n) table fs x)
      → and_more (most - made) table fs x ≡ y → all ≡ y
  done more all within is h w = subst (λ (m : More). goes_on (most - (made + 1)) table fs m ≡ y) is (step more within h w)

  -- one more
  pub one_more : (more : More) (next : Taken) → made < most → more ≡ Another next → ((n : ℕ) → goes_on n table fs more ≡ and_more (suc n) table fs x)
      → and_more (most - made) table fs x ≡ y → and_more (most - (made + 1)) table fs next ≡ y
  one_more more next within is h w = subst (λ (m : More). goes_on (most - (made + 1)) table fs m ≡ y) is (step more within h w)

  -- so many as there may be
  pub ended : most ≤ made → and_more (most - made) table fs x ≡ y → x ≡ y
  unfolding and_more
  ended past w = let none : most - made ≡ zero = omega arith in subst (λ (n : ℕ). and_more n table fs x ≡ y) none w
