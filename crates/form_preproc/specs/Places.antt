-- How variables are kept: each name has a place, at which its stack is.
use Rattle.std.specs.Prelude.{◌≡◌, ℕ, ◌<◌, List, [], map, length, drop, slice_index_or, Option, Some, None, Result, Ok, Err, ⊤, if◌then◌else◌, ◌==◌, sum_by, String}
use Rattle.std.specs.Str.{bytes_eq}
use Rattle.std.specs.declared.alloc.AllocError.{AllocError}
use Rattle.std.specs.Global.{Global}
use Rattle.std.specs.HashMap.{HashMap, get_by_text}
use Rattle.std.specs.declared.hash.FoldHasher.{FoldHasher}
use Rattle.std.specs.declared.hash.BuildHasherDefault.{BuildHasherDefault}
use Rattle.form_calc.specs.Stack.{oldest}
use Rattle.form_preproc.specs.Journal.{height_before}
use Rattle.form_preproc.specs.Variables.{Kept}
use Rattle.form_preproc.specs.declared.journal.Change.{Change}

abbrev pub Places : Type 0
Places = HashMap (String Global) ℕ (BuildHasherDefault FoldHasher)

abbrev pub stack_at : List (List (List ℕ)) → Option ℕ → List (List ℕ)
stack_at stacks None = []
stack_at stacks (Some place) = slice_index_or stacks place []

-- how many values were at a place before these changes
abbrev pub height_at : List Change → List (List (List ℕ)) → Option ℕ → ℕ
height_at changes stacks None = 0
height_at changes stacks (Some place) = height_before changes place (length (slice_index_or stacks place []))

-- since each mark, the changes tell the heights when a call began
abbrev pub kept : Places → List (List (List ℕ)) → List Change → List ℕ → Kept
kept places stacks changes marks = record {
  values = λ name. stack_at stacks (get_by_text places name);
  calls = map (λ mark name. height_at (drop mark changes) stacks (get_by_text places name)) marks;
}

-- each place is one of a stack, and of one name
pub record ArePlaces (places : Places) (stacks : List (List (List ℕ))) : Type 0 where
  pub within : (name : List ℕ) (place : ℕ) → get_by_text places name ≡ Some place → place < length stacks
  pub distinct : (name other : List ℕ) (place : ℕ) → get_by_text places name ≡ Some place → get_by_text places other ≡ Some place → name ≡ other

-- how many values there are in all
abbrev pub number_of_values : List (List (List ℕ)) → ℕ
number_of_values stacks = sum_by length stacks

-- each stack was cut to at most its height before these changes
pub record AreCut (changes : List Change) (old new : List (List (List ℕ))) : Type 0 where
  pub same : length new ≡ length old
  pub each : (place : ℕ) → place < length old
      → slice_index_or new place [] ≡ oldest (height_before changes place (length (slice_index_or old place []))) (slice_index_or old place [])

-- one stack was cut to at most this height
pub record IsCut (place height : ℕ) (old new : List (List (List ℕ))) : Type 0 where
  pub same : length new ≡ length old
  pub each : (p : ℕ) → p < length old → slice_index_or new p [] ≡ (if place == p then oldest height (slice_index_or old p []) else slice_index_or old p [])

-- no value is left
pub record AreEmpty (old new : List (List (List ℕ))) : Type 0 where
  pub same : length new ≡ length old
  pub each : (place : ℕ) → slice_index_or new place [] ≡ []

-- a name was given a place, or memory ran out
abbrev pub IsPut : Places → Places → List ℕ → ℕ → Result ⊤ AllocError → Type 0
IsPut old new name place (Ok done) = (other : List ℕ) → get_by_text new other ≡ (if bytes_eq name other then Some place else get_by_text old other)
IsPut old new name place (Err error) = (other : List ℕ) → get_by_text new other ≡ get_by_text old other
