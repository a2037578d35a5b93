-- Lists of a product, and what is left of them. One that is made anew has a limit of its own.
use Rattle.std.specs.Prelude.{ℕ}
use Rattle.form_expand.specs.declared.list.List.{List}
use Rattle.form_expand.specs.declared.list.List.TheVariants.{Whole, Unlimited, Again}
use Rattle.form_expand.specs.Kept.{listing}
use Rattle.form_expand.specs.Listing.{Listing}
use Rattle.form_expand.specs.Walks.{walk_whole, walk_left, all_left}

abbrev pub list_whole : ℕ → List → Listing
list_whole max (Whole walk) = walk_whole max walk
list_whole max (Unlimited walk) = listing walk.whole
list_whole max (Again again) = again.value.whole

abbrev pub list_left : ℕ → List → Listing
list_left max (Whole walk) = walk_left max walk
list_left max (Unlimited walk) = all_left walk
list_left max (Again again) = again.value.left
