use Rattle.std.proofs.Common.{◌≡◌, List, ◌++◌, replicate}
use Rattle.form_term.specs.Term.{Term}
use Rattle.form_expand.specs.Listing.{Listing}
use Rattle.form_expand.specs.Walks.{all_of}
use Rattle.form_gathered.specs.declared.joined.JoinedTerm.{JoinedTerm}
use Rattle.form_levels.specs.Rows.{AreFronts}
use Rattle.form_levels.proofs.fronts.Fronts.times_often.Given as goal

-- the list stands behind them as often as it was put there
abbrev pub invariant-loop-made : goal.invariant-loop-made
invariant-loop-made l = record {
  limit : l.fronts.limit ≡ l.fn.self.limit;
  fronts : (t : Term) (lists : List Listing) (j : JoinedTerm) → AreFronts t lists j l.fn.self → AreFronts t (lists ++ replicate l._made (all_of l.list)) j l.fronts;
}
