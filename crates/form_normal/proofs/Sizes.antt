-- Sizes that are counted up to the largest number.
use Rattle.std.proofs.Common.{◌≡◌, ◌+◌, ◌≤◌, ℕ, List, [], ◌∷◌, map, min, ap, sym, ◌∙◌, arith}
use Rattle.std.specs.Prelude.{sum}
use Rattle.form_term.specs.Term.{Call, size_of_call}
use Rattle.form_normal.proofs.Order.{sum_first}

clipped : (m a b c : ℕ) → min (min (a + b) m + c) m ≡ min (a + (b + c)) m
clipped m a b c = omega arith

-- what is counted with one function more, and what is left then
pub counted : (m count n : ℕ) (rest : List Call) (call : Call) (others : List Call) → rest ≡ call ∷ others → min (count + sum (map size_of_call rest)) m ≡ n
    → min (min (count + size_of_call call) m + sum (map size_of_call others)) m ≡ n
counted m count n rest call others is h =
    clipped m count (size_of_call call) (sum (map size_of_call others))
    ∙ ap (λ (l : ℕ). min (count + l) m) (sym (sum_first (size_of_call call) (map size_of_call others)))
    ∙ ap (λ (cs : List Call). min (count + sum (map size_of_call cs)) m) (sym is)
    ∙ h

-- where no function is left
pub all_counted : (m count n : ℕ) (rest : List Call) → rest ≡ [] → count ≤ m → min (count + sum (map size_of_call rest)) m ≡ n → count ≡ n
all_counted m count n rest is fits h =
    let all : count ≡ min (count + 0) m = omega arith in
    all ∙ ap (λ (cs : List Call). min (count + sum (map size_of_call cs)) m) (sym is) ∙ h
