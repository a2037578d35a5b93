-- So many matches are enough.
use Rattle.std.proofs.Common.{◌≡◌, ℕ, zero, suc, ◌+◌, ◌<◌, Bool, true, false, cond, List, Option, Some, None, IfSome, map, refl, arith}
use Rattle.form_term.specs.declared.piece.Piece.{Piece}
use Rattle.form_term.specs.Term.{Term, IsTerm}
use Rattle.form_tree.specs.Pattern.{Factors}
use Rattle.form_match.specs.declared.matching.Match.{Match}
use Rattle.form_match.specs.declared.uses.Use.{Use}
use Rattle.form_match.specs.Fits.{Fits}
use Rattle.form_match.specs.Left.{left_of}
use Rattle.form_match.specs.Matching.{first_of}
use Rattle.form_rewrite.specs.Ended.{IsEnded}
use Rattle.form_rewrite.specs.Taking.{and_match, and_more, and_more_by, is_idle, weight}
use Rattle.form_rewrite.specs.declared.taken.Taken.{Taken}
use Rattle.form_rewrite.proofs.Lighter.{lighter}

-- one match more, or none
alike_by : (go went : Taken → Taken) (x : Taken) (o : Option Match) → ((m : Match) → o ≡ Some m → is_idle m ≡ false → go (and_match x m) ≡ went (and_match x m))
    → and_more_by go x o ≡ and_more_by went x o
alike_by go went x None h = refl
alike_by go went x (Some m) h = by (is_idle m) refl
  where
    by : (b : Bool) → is_idle m ≡ b → cond b x (go (and_match x m)) ≡ cond b x (went (and_match x m))
    by true e = refl
    by false e = h m refl e

holds_by : (P : Taken → Type 0) (go : Taken → Taken) (x : Taken) (o : Option Match) → (IfSome o (λ m. is_idle m ≡ true) → P x)
    → ((m : Match) → o ≡ Some m → is_idle m ≡ false → P (go (and_match x m))) → P (and_more_by go x o)
holds_by P go x None here more = here tt
holds_by P go x (Some m) here more = by (is_idle m) refl
  where
    by : (b : Bool) → is_idle m ≡ b → P (cond b x (go (and_match x m)))
    by true e = here e
    by false e = more m refl e

module _ (fits : (table : List (Option (List Piece))) (fs : Factors) (t : Term) (cuts : List ℕ) (is_exact : Bool) (m : Match)
    → IsTerm t → first_of table fs t cuts is_exact ≡ Some m → Fits m.takes t)
    (lawful : (us : List Use) (t : Term) → IsTerm t → Fits us t → IsTerm (left_of t us)) (table : List (Option (List Piece))) (fs : Factors) where
  alike : (n k : ℕ) (x : Taken) → IsTerm x.left → weight x.left < n → weight x.left < k → and_more n table fs x ≡ and_more k table fs x
  unfolding and_more
  alike zero k x h below within = absurd (omega arith)
  alike (suc n) zero x h below within = absurd (omega arith)
  alike (suc n) (suc k) x h below within =
      alike_by (λ y. and_more n table fs y) (λ y. and_more k table fs y) x (first_of table fs x.left (map (λ c. c.place) x.cuts) false)
      (λ m e active.
      let f = fits table fs x.left (map (λ c. c.place) x.cuts) false m h e in
      let less = lighter m x.left h f active in
      alike n k (and_match x m) (lawful m.takes x.left h f) (omega (arith, less, below)) (omega (arith, less, within)))

  pub same : (x : Taken) (n : ℕ) → IsTerm x.left → weight x.left < n → and_more n table fs x ≡ and_more (weight x.left + 1) table fs x
  same x n h below = alike n (weight x.left + 1) x h below (omega arith)

  ends : (n : ℕ) (x : Taken) → IsTerm x.left → weight x.left < n → IsEnded table fs (and_more n table fs x)
  unfolding and_more
  ends zero x h below = absurd (omega arith)
  ends (suc n) x h below =
      holds_by (IsEnded table fs) (λ y. and_more n table fs y) x (first_of table fs x.left (map (λ c. c.place) x.cuts) false) (λ g. g)
      (λ m e active.
      let f = fits table fs x.left (map (λ c. c.place) x.cuts) false m h e in
      let less = lighter m x.left h f active in
      ends n (and_match x m) (lawful m.takes x.left h f) (omega (arith, less, below)))

  pub ended : (x : Taken) → IsTerm x.left → IsEnded table fs (and_more (weight x.left + 1) table fs x)
  ended x h = ends (weight x.left + 1) x h (omega arith)
