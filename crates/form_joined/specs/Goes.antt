-- What terms become that joined ones stand for.
use Rattle.std.specs.Prelude.{◌≡◌, ◌<◌, ℕ, List, flat_map, None}
use Rattle.std.specs.List.{AllByRecursion}
use Rattle.form_term.specs.declared.monomial.Monomial.{Monomial}
use Rattle.form_gathered.specs.Joined.{IsJoined}
use Rattle.form_gathered.specs.declared.joined.JoinedTerm.{JoinedTerm}
use Rattle.form_expand.specs.Listing.{Listing}

abbrev pub each_on : (Monomial → Listing) → List Monomial → List Monomial
each_on go list = flat_map (λ m. (go m).terms) list

-- Whatever lists the first stand for, none of their terms is refused on this way, and the others stand for what becomes of each list.
pub record Goes (go : Monomial → Listing) (js ks : List JoinedTerm) : Type 0 where
  pub ended : (n : ℕ) (lists : ℕ → List Monomial) → IsJoined n js lists → (k : ℕ) → k < n → AllByRecursion (λ m. (go m).end ≡ None) (lists k)
  pub made : (n : ℕ) (lists : ℕ → List Monomial) → IsJoined n js lists → IsJoined n ks (λ k. each_on go (lists k))
