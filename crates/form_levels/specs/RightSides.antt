-- Lists of right sides that are there as a whole.
use Rattle.std.specs.Prelude.{◌≡◌, Option, Result, IfOk, IfSome}
use Rattle.std.specs.declared.alloc.AllocError.{AllocError}
use Rattle.form_expand.specs.declared.whole.Whole.{Whole}
use Rattle.form_expand.specs.Kept.{listing}
use Rattle.form_expand.specs.Listing.{Listing}
use Rattle.form_expand.specs.Walks.{all_of}

-- a list that isn't refused is there as a whole, where it is told
abbrev pub IsWhole : Listing → Result (Option Whole) AllocError → Type 0
IsWhole l made = IfOk made (λ some. IfSome some (λ list. l ≡ all_of (listing list).terms))
