-- Runs of lists in a row.
use Rattle.std.specs.Prelude.{ℕ, List, [], ◌∷◌, flat_map, replicate}
use Rattle.form_expand.specs.declared.row.Run.{Run}
use Rattle.form_expand.specs.declared.row.Run.TheVariants as runs
use Rattle.form_expand.specs.Listing.{Listing, limited}
use Rattle.form_expand.specs.Parts.{part_list}
use Rattle.form_expand.specs.Walks.{all_of}

-- A list, or one within the limit so many times.
abbrev pub run_lists : ℕ → Run → List Listing
run_lists max (runs.Once part) = part_list max part ∷ []
run_lists max (runs.Often terms times) = replicate times (limited max (all_of terms.now))

-- the lists of such runs
abbrev pub lists_of : ℕ → List Run → List Listing
lists_of max rs = flat_map (run_lists max) rs
