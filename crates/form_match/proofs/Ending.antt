-- The search ends: the ways that are left fall with each turn.
use Rattle.std.proofs.Common.{◌≡◌, ℕ, zero, suc, ◌+◌, ◌-◌, ◌*◌, ◌^◌, ◌<◌, ◌≤◌, List, [], ◌∷◌, ◌++◌, Option, Some, None, refl, sym, ap, subst, ◌∙◌, arith, mul-le-mul_right}
use Rattle.std.specs.Prelude.{IfSome}
use Rattle.form_match.specs.declared.trail.Choice.{Choice}
use Rattle.form_match.specs.declared.trail.Standing.{Standing}
use Rattle.form_match.specs.declared.trail.Trail.{Trail}
use Rattle.form_match.specs.Places.{Ground}
use Rattle.form_match.specs.Running.{IsRetreat, all_ways, ways_from, ways_left}

some_ways : (n : ℕ) → 0 < all_ways n
unfolding all_ways
some_ways zero = omega arith
some_ways (suc n) = let h = some_ways n in omega (arith, h)

more_ways : (m k : ℕ) → all_ways m ≤ all_ways (m + k)
unfolding all_ways
more_ways m zero = let same : m + 0 ≡ m = omega arith in subst (λ (n : ℕ). all_ways m ≤ all_ways n) (sym same) (omega arith)
more_ways m (suc k) =
    let rest = more_ways m k in
    let next : m + suc k ≡ suc (m + k) = omega arith in
    subst (λ (n : ℕ). all_ways m ≤ all_ways n) (sym next) (omega (arith, rest))

one_more_way : (n : ℕ) → all_ways (suc n) ≡ (2 ^ 64 + 2) * all_ways n
unfolding all_ways
one_more_way n = refl

-- some ways are left from any place on
pub some_from : (count : ℕ) (at : Standing) → 0 < ways_from count at
unfolding ways_from
some_from count at =
    let least : 1 * all_ways (count - at.piece) ≤ suc (2 ^ 64 - at.candidate) * all_ways (count - at.piece) = mul-le-mul_right (all_ways (count - at.piece)) (omega arith) in
    omega (arith, least, some_ways (count - at.piece))

module _ (count : ℕ) (at next : Standing) (further : at.piece < next.piece) (before : at.piece < count) where
  -- a later piece has fewer ways than one way of this one
  fewer : ways_from count next < all_ways (count - at.piece)
  unfolding ways_from
  fewer =
      let n = count - next.piece in
      let most : suc (2 ^ 64 - next.candidate) * all_ways n ≤ (2 ^ 64 + 1) * all_ways n = mul-le-mul_right (all_ways n) (omega arith) in
      let rest : count - at.piece ≡ suc (n + (count - at.piece - suc n)) = omega (arith, further, before) in
      let more = more_ways (suc n) (count - at.piece - suc n) in
      let same : suc n + (count - at.piece - suc n) ≡ count - at.piece = omega (arith, further, before) in
      let within : all_ways (suc n) ≤ all_ways (count - at.piece) = subst (λ (k : ℕ). all_ways (suc n) ≤ all_ways k) same more in
      omega (arith, most, some_ways n, one_more_way n, within)

  pub further_on : ways_from count next < ways_from count at
  unfolding ways_from
  further_on =
      let least : 1 * all_ways (count - at.piece) ≤ suc (2 ^ 64 - at.candidate) * all_ways (count - at.piece) = mul-le-mul_right (all_ways (count - at.piece)) (omega arith) in
      omega (arith, least, fewer)

  -- a later candidate is left
  pub further_keeping : (c : ℕ) → at.candidate < c → c < 2 ^ 64 → ways_from count (record at { candidate = c }) + ways_from count next < ways_from count at
  unfolding ways_from
  further_keeping c later small =
      let w = all_ways (count - at.piece) in
      let one : suc (2 ^ 64 - c) * w + w ≤ suc (2 ^ 64 - at.candidate) * w = keeping w in
      omega (arith, one, fewer)
    where
      keeping : (w : ℕ) → suc (2 ^ 64 - c) * w + w ≤ suc (2 ^ 64 - at.candidate) * w
      keeping w =
          let most : suc (suc (2 ^ 64 - c)) * w ≤ suc (2 ^ 64 - at.candidate) * w = mul-le-mul_right w (omega (arith, later, small)) in
          omega (arith, most)

-- a choice is left alone
pub keeping_alone : (count : ℕ) (at : Standing) (c : ℕ) → at.candidate < c → c < 2 ^ 64 → ways_from count (record at { candidate = c }) < ways_from count at
unfolding ways_from
keeping_alone count at c later small =
    let w = all_ways (count - at.piece) in
    let most : suc (suc (2 ^ 64 - c)) * w ≤ suc (2 ^ 64 - at.candidate) * w = mul-le-mul_right w (omega (arith, later, small)) in
    omega (arith, most, some_ways (count - at.piece))

pub ways_push : (count : ℕ) (choices : List Choice) (c : Choice) → ways_left count (choices ++ c ∷ []) ≡ ways_left count choices + ways_from count c.at
ways_push count [] c = omega arith
ways_push count (d ∷ choices) c = let rest = ways_push count choices c in omega (arith, rest)

-- the last choice is taken, and there were fewer ways before
fewer_back : (count ways : ℕ) (g h : Ground) (old new : Trail) (at : Standing) → IsRetreat (Some at) g h old new → ways_left count old.choices.items < ways → ways_from count at + ways_left count new.choices.items < ways
fewer_back count ways g h old new at back less =
    let pushed = ap (ways_left count) back.2.0 ∙ ways_push count new.choices.items back.0 in
    let here : ways_from count at ≡ ways_from count back.0.at = ap (ways_from count) back.1 in
    omega (arith, pushed, here, less)

pub fewer_turn : (count ways : ℕ) (g h : Ground) (old new : Trail) (r : Option Standing) → IsRetreat r g h old new → ways_left count old.choices.items < ways → IfSome r (λ n. ways_from count n + ways_left count new.choices.items < ways)
fewer_turn count ways g h old new None back less = tt
fewer_turn count ways g h old new (Some at) back less = fewer_back count ways g h old new at back less
