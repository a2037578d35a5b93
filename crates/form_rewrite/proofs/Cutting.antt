-- Cuts, one after the other.
use Rattle.std.proofs.Common.{◌≡◌, ℕ, ◌+◌, ◌<◌, ◌≤◌, List, [], ◌∷◌, ◌++◌, drop, get_or, length, map, ap, sym, ◌∙◌, append_assoc}
use Rattle.std.specs.List.{enumerate_from}
use Rattle.std.proofs.lemmas.List.{drop_more, drop_all, append-nil}
use Rattle.form_rewrite.specs.declared.taken.Cut.{Cut}
use Rattle.form_rewrite.specs.declared.taken.Origin.TheVariants.{Given}
use Rattle.form_rewrite.specs.Taking.{cut_at}

-- the cuts that were given, from a place on
unfoldable pub given_from : ℕ → List ℕ → List Cut
given_from k places = map (λ e. cut_at e.1 (Given e.0)) (enumerate_from k places)

pub given_more : (made : List Cut) (k : ℕ) (places : List ℕ) (i : ℕ) → i < length places
    → (made ++ cut_at (get_or places i 0) (Given k) ∷ []) ++ given_from (k + 1) (drop (i + 1) places) ≡ made ++ given_from k (drop i places)
unfolding given_from
given_more made k places i within =
    append_assoc made (cut_at (get_or places i 0) (Given k) ∷ []) (given_from (k + 1) (drop (i + 1) places))
    ∙ sym (ap (λ x. made ++ given_from k x) (drop_more places i 0 within))

pub given_all : (made : List Cut) (k : ℕ) (places : List ℕ) (i : ℕ) → length places ≤ i → made ++ given_from k (drop i places) ≡ made
unfolding given_from
given_all made k places i past = ap (λ x. made ++ given_from k x) (drop_all i places past) ∙ append-nil made
