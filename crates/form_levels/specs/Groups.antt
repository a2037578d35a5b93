-- What is left of a term while several parts take from it, where its word isn't cut.
use Rattle.std.specs.Prelude.{◌≡◌, List, [], flat_map, replicate, Option, Result, IfOk, IfSome}
use Rattle.std.specs.declared.alloc.AllocError.{AllocError}
use Rattle.form_expand.specs.Kept.{listing}
use Rattle.form_expand.specs.Listing.{Listing}
use Rattle.form_expand.specs.Walks.{all_of}
use Rattle.form_flow.specs.Rewriting.{Rest}
use Rattle.form_levels.specs.declared.groups.Remaining.{Remaining}
use Rattle.form_levels.specs.declared.groups.Repeated.{Repeated}

-- a list, so many times
abbrev pub repeated : Repeated → List Listing
repeated one = replicate one.times (all_of (listing one.list).terms)

-- the lists that stand behind what is left
abbrev pub lists_behind : List Repeated → List Listing
lists_behind all = flat_map repeated all

abbrev pub rest_in : Remaining → Rest
rest_in r = record { left = r.left; cuts = []; behind = lists_behind r.behind.items; has_matched = r.has_matched }

-- this is left, where it is told
abbrev pub IsRest : Rest → Result (Option Remaining) AllocError → Type 0
IsRest x made = IfOk made (λ some. IfSome some (λ rest. rest_in rest ≡ x))
