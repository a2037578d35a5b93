-- Products and powers of lists, joined.
use Rattle.std.specs.Prelude.{◌≡◌, ℕ, List, Some}
use Rattle.form_expand.specs.Listing.{Listing, limited, pairs, powers}
use Rattle.form_gathered.specs.Joined.{Stand}
use Rattle.form_gathered.specs.declared.joined.JoinedTerm.{JoinedTerm}
use Rattle.form_joined.specs.Adding.{behind}
use Rattle.form_joined.specs.Products.{HasList, paired}

-- whatever lists the first have, these have the list that is made of them: the same one, the pairs of two, a power
abbrev pub HaveWithin : ℕ → List JoinedTerm → List JoinedTerm → Type 0
HaveWithin max js all = (l : Listing) → HasList l js → HasList (limited max l) all

abbrev pub HavePairs : ℕ → List JoinedTerm → List JoinedTerm → List JoinedTerm → Type 0
HavePairs max js ks all = (a b : Listing) → HasList a js → HasList b ks → HasList (limited max (pairs a b)) all

abbrev pub HavePower : ℕ → List JoinedTerm → ℕ → List JoinedTerm → Type 0
HavePower max js n all = (l : Listing) → HasList l js → HasList (powers max l n) all

-- whatever each of the first times each of the second stands for, these stand for it too
pub record ArePaired (js ks all : List JoinedTerm) : Type 0 where
  pub made : List JoinedTerm
  pub is : paired js ks ≡ Some made
  pub stand : Stand made all

-- the same where some of the first are left
pub record ArePairedSoFar (js left ks all : List JoinedTerm) : Type 0 where
  pub made : List JoinedTerm
  pub is : paired js ks ≡ behind made (paired left ks)
  pub stand : Stand made all
