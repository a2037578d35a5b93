use Rattle.std.proofs.Common.{◌≡◌, length}
use Rattle.form_expand.specs.Listing.{followed}
use Rattle.form_expand.specs.Walks.{all_of}
use Rattle.form_expand.proofs.fixed.short_list.Given as goal

-- the terms so far, and what is left of the list
abbrev pub invariant-loop-made : goal.invariant-loop-made
invariant-loop-made l = record {
  whole : followed (all_of l.terms.items) l.list ≡ l.fn.list;
  long : length l.terms.items ≡ l._made;
}
