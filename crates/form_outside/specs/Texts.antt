-- The texts of a library.
use Rattle.std.specs.Prelude.{◌≡◌, ◌≤◌, ◌<◌, ℕ, List, length, Option, Some, None, Result, Ok, Err, Vec, IsSomeAnd}
use Rattle.std.specs.FinMap as map
use Rattle.std.specs.Ordering.{nat_cmp}
use Rattle.std.specs.Cmp.Lexicographic.{slice_cmp}
use Rattle.form_outside.specs.declared.library.LibraryErr.{LibraryErr}
use Rattle.form_outside.specs.declared.library.LibraryErr.TheVariants.{TooLong, Failed, Memory}

-- a finite map from names to bytes
abbrev pub Texts : Type 0
Texts = map.FinMap (slice_cmp nat_cmp) (List ℕ)

-- the bytes under a name
abbrev pub text_of : Texts → List ℕ → Option (List ℕ)
text_of texts name = map.get texts name

-- What a library that tells its texts answers where this stands under the name asked for: none exactly where
-- nothing does, `TooLong` exactly where it is longer than max. It may fail, or run out of memory.
abbrev pub IsFetched : {A : Type 0} → Option (List ℕ) → ℕ → Result (Option (Vec ℕ A)) LibraryErr → Type 0
IsFetched text max (Ok None) = text ≡ None
IsFetched text max (Ok (Some bytes)) = (text ≡ Some bytes.items) × (length bytes.items ≤ max)
IsFetched text max (Err TooLong) = IsSomeAnd text (λ bytes. max < length bytes)
IsFetched text max (Err Failed) = Unit {0}
IsFetched text max (Err Memory) = Unit {0}
