-- The runs of a store, by number. A run that was removed has neither length nor bytes.
use Rattle.std.specs.Prelude.{◌≡◌, ℕ, ◌-◌, List, [], ◌++◌, Option, Some, None, map, length, take, drop, min, slice_get, slice_set, IsSome, unwrap_or, option_map, All}

-- the bytes of each run
abbrev pub Contents : Type 0
Contents = List (Option (List ℕ))

-- the lengths of runs that have these bytes
abbrev pub lengths_in : Contents → List (Option ℕ)
lengths_in runs = map (option_map length) runs

-- a run that was made and not removed
abbrev pub IsLive : List (Option ℕ) → ℕ → Type 0
IsLive lengths run = IsSome (unwrap_or (slice_get lengths run) None)

-- the length of a run
abbrev pub length_of : List (Option ℕ) → ℕ → ℕ
length_of lengths run = unwrap_or (unwrap_or (slice_get lengths run) None) 0

-- the bytes of a run
abbrev pub bytes_of : Contents → ℕ → List ℕ
bytes_of runs run = unwrap_or (unwrap_or (slice_get runs run) None) []

-- the runs with these bytes at one's end
abbrev pub Appended : ℕ → List ℕ → Contents → Contents
Appended run bytes runs = slice_set runs run (Some (bytes_of runs run ++ bytes))

-- no run but this one has changed, and it is live still
pub record KeepsOthers (old : List (Option ℕ)) (old_contents : Option Contents) (run : ℕ) (new : List (Option ℕ)) (new_contents : Option Contents) : Type 0 where
  pub lengths : (n : ℕ) × (new ≡ slice_set old run (Some n))
  pub contents : (bytes : List ℕ) × (new_contents ≡ option_map (λ runs. slice_set runs run (Some bytes)) old_contents)

-- the first n bytes of out are those that stand in the run from `at` on, as many as fit
abbrev pub IsRead : Contents → ℕ → ℕ → ℕ → List ℕ → Type 0
IsRead runs run at n out = (n ≡ min (length out) (length (bytes_of runs run) - at)) × (take n out ≡ take n (drop at (bytes_of runs run)))

-- each run that was made is removed
abbrev pub HasNoLiveRun : List (Option ℕ) → Type 0
HasNoLiveRun lengths = All (λ length. length ≡ None) lengths
