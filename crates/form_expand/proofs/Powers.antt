-- The power of a list of one term.
use Rattle.std.proofs.Common.{◌≡◌, ℕ, ◌-◌, ◌≤◌, sym, ap, ◌∙◌, arith}
use Rattle.std.specs.Prelude.{Option, Result}
use Rattle.form_term.specs.declared.monomial.Monomial.{Monomial}
use Rattle.form_expand.specs.declared.error.ExpandError.{ExpandError}
use Rattle.form_expand.specs.declared.whole.Whole.{Whole}
use Rattle.form_expand.specs.Kept.{listing, rest_at}
use Rattle.form_expand.specs.Listing.{Listing, single, before, limited, powers}
use Rattle.form_expand.specs.Next.{IsMade, ListsMade}
use Rattle.form_expand.specs.Often.{often}
use Rattle.form_expand.specs.Singles.{of_product}
use Rattle.form_expand.specs.Walks.{IsAlone}
use Rattle.form_expand.proofs.Places.{spent, whole_here}
use Rattle.form_expand.proofs.Repeating.{listed_made, powers_often}
use Rattle.form_expand.proofs.Rows.{product_limited}

-- the list with this first term that has no other
alone_list : (max : ℕ) (w : Whole) (m : Monomial) → IsAlone max w → rest_at 0 (listing w) ≡ before m (rest_at 1 (listing w)) → listing w ≡ single m
alone_list max w m alone first = whole_here (listing w) ∙ first ∙ ap (before m) (spent (listing w) 1 alone.done (omega (arith, alone.alone)))

-- the product of so many of its term is its power
pub power_made : (max : ℕ) (w : Whole) (front m : Monomial) (made : Result (Option Monomial) ExpandError) (list : Listing) (k : ℕ) → IsAlone max w → rest_at 0 (listing w) ≡ before m (rest_at 1 (listing w))
    → front ≡ m → 1 ≤ k → IsMade made (often front m (k - 1)) → ListsMade made list → limited max list ≡ powers max (listing w) k
power_made max w front m made list k alone first same some is lists =
    ap (limited max) (listed_made made (often front m (k - 1)) list is lists)
    ∙ product_limited max alone.some (often front m (k - 1))
    ∙ ap (λ (x : Monomial). of_product (often x m (k - 1))) same
    ∙ sym (powers_often max alone.some m k some)
    ∙ ap (λ (l : Listing). powers max l k) (sym (alone_list max w m alone first))
