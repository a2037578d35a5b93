-- Joined terms, and the lists that they stand for.
use Rattle.std.specs.Prelude.{◌≡◌, ◌<◌, ◌≤◌, ℕ, zero, suc, List, [], ◌++◌, map, flat_map, filter, length, sum_by, take, drop, not, ◌⊎◌}
use Rattle.std.specs.List.{AllByRecursion, IsDistinct}
use Rattle.std.specs.List.Sorted.{IsPermutation}
use Rattle.std.specs.Ordering.{eq_by_cmp}
use Rattle.form_frac.specs.Fraction.{Fraction, is_zero}
use Rattle.form_frac.specs.Weight.{IsWeight, IsSum, of}
use Rattle.form_term.specs.Term.{Term, order}
use Rattle.form_term.specs.declared.monomial.Monomial.{Monomial}
use Rattle.form_gathered.specs.declared.joined.JoinedTerm.{JoinedTerm}

-- a joined term with its sum as a coefficient
abbrev pub item_of : JoinedTerm → Monomial
item_of j = record { coefficient = j.sum; term = j.term }

-- one term alone
abbrev pub single : Monomial → JoinedTerm
single m = record { term = m.term; sum = m.coefficient; weight = of m.coefficient; count = 1 }

-- the same that counts one
abbrev pub counting_one : JoinedTerm → JoinedTerm
counting_one j = record { term = j.term; sum = j.sum; weight = j.weight; count = 1 }

-- how many terms joined ones stand for in a list, at most
abbrev pub counted : List JoinedTerm → ℕ
counted js = sum_by (λ j. j.count) js

-- a term with these coefficients
abbrev pub members : Term → List Fraction → List Monomial
members t cs = map (λ c. record { coefficient = c; term = t }) cs

-- the first so many lists, one behind the other
abbrev pub in_row : {A : Type 0} → ℕ → (ℕ → List A) → List A
in_row zero lists = []
in_row (suc n) lists = in_row n lists ++ lists n

-- each term of a list as a list of its own
abbrev pub alone : List Monomial → ℕ → List Monomial
alone list k = take 1 (drop k list)

-- What a joined term stands for: of each list the coefficients that stand at it there.
pub record Share : Type 0 where
  pub joined : JoinedTerm
  pub parts : ℕ → List Fraction

abbrev pub share_members : ℕ → Share → List Monomial
share_members k s = members s.joined.term (s.parts k)

-- of so many lists they have its sum and its weight in all, which is in range
pub record HasSum (n : ℕ) (s : Share) : Type 0 where
  pub in_range : IsWeight s.joined.weight
  pub total : IsSum s.joined.weight s.joined.sum (in_row n s.parts)

-- and in none of the lists they are more than it counts
pub record IsShare (n : ℕ) (s : Share) : Type 0 where
  pub sum : HasSum n s
  pub few : (k : ℕ) → k < n → length (s.parts k) ≤ s.joined.count

-- Joined terms stand for so many lists by shares of this kind: the terms of each list, in some order, are those that they
-- stand for in it.
pub record StandFor (kind : Share → Type 0) (n : ℕ) (js : List JoinedTerm) (lists : ℕ → List Monomial) : Type 0 where
  pub shares : List Share
  pub joined : map (λ s. s.joined) shares ≡ js
  pub each : AllByRecursion kind shares
  pub whole : (k : ℕ) → k < n → IsPermutation (flat_map (share_members k) shares) (lists k)

-- Joined terms stand for so many lists.
abbrev pub IsJoined : ℕ → List JoinedTerm → (ℕ → List Monomial) → Type 0
IsJoined n = StandFor (IsShare n) n

-- They have the sums of a list, however many of its terms each stands for.
abbrev pub HaveSums : List JoinedTerm → List Monomial → Type 0
HaveSums js list = StandFor (HasSum 1) 1 js (λ _. list)

-- whatever lists the first stand for, the others stand for them too
abbrev pub Stand : List JoinedTerm → List JoinedTerm → Type 0
Stand js ks = (n : ℕ) (lists : ℕ → List Monomial) → IsJoined n js lists → IsJoined n ks lists

-- of no list the first and the second have something both
abbrev pub NeverBoth : ℕ → (ℕ → List Monomial) → (ℕ → List Monomial) → Type 0
NeverBoth n a b = (k : ℕ) → k < n → (a k ≡ []) ⊎ (b k ≡ [])

-- no term stands twice
abbrev pub AreApart : List JoinedTerm → Type 0
AreApart js = IsDistinct (λ j k. eq_by_cmp order j.term k.term) js

-- those whose sum isn't 0, as terms with coefficients
abbrev pub present : List JoinedTerm → List Monomial
present js = map item_of (filter (λ j. not (is_zero j.sum)) js)
