-- The lists of a row.
use Rattle.std.specs.Prelude.{ℕ}
use Rattle.form_expand.specs.declared.row.Part.{Part}
use Rattle.form_expand.specs.declared.row.Part.TheVariants.{Tree, List, Word}
use Rattle.form_expand.specs.Kept.{listing}
use Rattle.form_expand.specs.Listing.{Listing, single, limited}
use Rattle.form_expand.specs.Reading.{list_of_pieces}
use Rattle.form_expand.specs.Singles.{once}

-- A sum, a list within the limit, or a term.
abbrev pub part_list : ℕ → Part → Listing
part_list max (Tree pieces names) = list_of_pieces max names.now pieces.now
part_list max (List whole) = limited max (listing whole)
part_list max (Word term) = single (once term)
