-- A loop over parts that operators join, and a parenthesis, step by step.
use Rattle.std.proofs.Common.{◌≡◌, ℕ, suc, ◌+◌, ◌-◌, ◌<◌, List, length, drop, Option, Some, None, ap, arith}
use Rattle.std.specs.Prelude.{option_and_then}
use Rattle.std.proofs.lemmas.List.{at_drop_more}
use Rattle.form_calc.specs.Reading.{if_read, chained, closed, within}

-- one turn
pub one_turn : {V O : Type 0} (operator : List ℕ → Option (O × List ℕ)) (apply : O → V → V → V) (part : List ℕ → Option (V × List ℕ)) (turns : List ℕ) (i : ℕ) (v : V) (text : List ℕ) → i < length turns
    → chained operator apply part (drop i turns) v text ≡ if_read (operator text) (Some (v, text)) (λ o. option_and_then (λ p. chained operator apply part (drop (i + 1) turns) (apply o.0 v p.0) p.1) (part o.1))
unfolding chained
one_turn operator apply part turns i v text l = at_drop_more (λ ts. chained operator apply part ts v text) turns i 0 l

pub within_none : {V : Type 0} (whole : (List ℕ → Option (V × List ℕ)) → List ℕ → Option (V × List ℕ)) (n : ℕ) (text : List ℕ) → n ≡ 0 → within whole n text ≡ None
unfolding within
within_none whole n text e = ap (λ k. within whole k text) e

pub within_next : {V : Type 0} (whole : (List ℕ → Option (V × List ℕ)) → List ℕ → Option (V × List ℕ)) (n : ℕ) (text : List ℕ) → 0 < n → within whole n text ≡ closed (whole (within whole (n - 1)) text)
unfolding within
within_next whole n text h =
    let e : n ≡ suc (n - 1) = omega arith in
    ap (λ k. within whole k text) e
