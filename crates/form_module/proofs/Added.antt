-- A set of expressions with one more.
use Rattle.std.proofs.Common.{◌≡◌, ◌<◌, ◌+◌, ℕ, Bool, true, false, ◌||◌, cond, List, length, get_or, take, refl, sym, ap, ◌∙◌}
use Rattle.std.specs.List.{list_any}
use Rattle.std.proofs.lemmas.List.Folds.{list_any_more}

pub with_one : (all here there after : Bool) → after ≡ cond here true there → (all || after) ≡ ((all || there) || here)
with_one all here there after e = ap (λ x. all || x) e ∙ by all here there
  where
    by : (all here there : Bool) → (all || cond here true there) ≡ ((all || there) || here)
    by true here there = refl
    by false true true = refl
    by false true false = refl
    by false false true = refl
    by false false false = refl

-- with what a further statement means
pub any_more : {X : Type 0} (p : X → Bool) (xs : List X) (i : ℕ) (x : X) (before after : Bool) → i < length xs → x ≡ get_or xs i x → before ≡ list_any p (take i xs) → after ≡ (before || p x) → after ≡ list_any p (take (i + 1) xs)
any_more p xs i x before after within is so_far e =
    e ∙ ap (λ b. b || p x) so_far ∙ ap (λ y. list_any p (take i xs) || p y) is ∙ sym (list_any_more p xs i x within)
