-- What statements make of the terms that joined ones stand for.
use Rattle.std.specs.Prelude.{◌<◌, ℕ, Bool, true, false, not, List, map, flat_map, filter}
use Rattle.std.specs.List.{AllByRecursion}
use Rattle.form_term.specs.declared.monomial.Monomial.{Monomial}
use Rattle.form_gathered.specs.Joined.{IsJoined}
use Rattle.form_gathered.specs.declared.joined.JoinedTerm.{JoinedTerm}
use Rattle.form_flow.specs.Outcome.{Output, Ended, done, refused, Outcome}

-- whether something acted on an output's way, or whether nothing did
abbrev pub has_mark : Bool → Output → Bool
has_mark true o = o.acted
has_mark false o = not o.acted

-- the terms of the outputs on whose way something acted, or nothing
abbrev pub items_with : Bool → List Output → List Monomial
items_with acted os = map (λ o. o.item) (filter (has_mark acted) os)

-- of a list of terms, each in its turn
abbrev pub each_with : Bool → (Monomial → Outcome) → List Monomial → List Monomial
each_with acted go list = flat_map (λ m. items_with acted (go m).outputs) list

-- those of all outputs, and of a list of terms, each in its turn
abbrev pub items : List Output → List Monomial
items os = map (λ o. o.item) os

abbrev pub each_output : (Monomial → Outcome) → List Monomial → List Monomial
each_output go list = flat_map (λ m. items (go m).outputs) list

abbrev pub IsDone : Ended → Type 0
IsDone (done acted) = Unit {0}
IsDone (refused cause) = ⊥

-- a term isn't refused
abbrev pub IsFine : (Monomial → Outcome) → Monomial → Type 0
IsFine go m = IsDone (go m).end

-- Whatever lists the first stand for, none of their terms is refused; the others stand for the outputs on whose way nothing
-- acted, and for those on whose way something did.
pub record Runs (go : Monomial → Outcome) (js ks ls : List JoinedTerm) : Type 0 where
  pub done : (n : ℕ) (lists : ℕ → List Monomial) → IsJoined n js lists → (k : ℕ) → k < n → AllByRecursion (IsFine go) (lists k)
  pub idle : (n : ℕ) (lists : ℕ → List Monomial) → IsJoined n js lists → IsJoined n ks (λ k. each_with false go (lists k))
  pub acted : (n : ℕ) (lists : ℕ → List Monomial) → IsJoined n js lists → IsJoined n ls (λ k. each_with true go (lists k))

-- The same where it isn't asked on whose way something acted: the others stand for all outputs.
pub record Comes (go : Monomial → Outcome) (js ks : List JoinedTerm) : Type 0 where
  pub done : (n : ℕ) (lists : ℕ → List Monomial) → IsJoined n js lists → (k : ℕ) → k < n → AllByRecursion (IsFine go) (lists k)
  pub made : (n : ℕ) (lists : ℕ → List Monomial) → IsJoined n js lists → IsJoined n ks (λ k. each_output go (lists k))
