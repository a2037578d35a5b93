-- Nothing stands for the empty list.
use Rattle.std.proofs.Common.{[]}
use Rattle.std.proofs.lemmas.List.Elements.{All-nil}
use Rattle.std.proofs.lemmas.List.Sorted.{IsPermutation-refl}
use Rattle.form_collect.specs.Collecting.{terms_of}
use Rattle.form_collect.specs.Collector.{IsCollectionOf}
use Rattle.form_collect.proofs.Sums.{IsTotal}
use Rattle.form_collect.proofs.collector.Collector.new.Goals as goal

pub returns : goal.returns
unfolding IsCollectionOf terms_of
returns c = rw c.new.ensures.empty (record { terms = IsPermutation-refl []; totals = All-nil (IsTotal []) })
