use Rattle.std.proofs.Common.{◌≡◌, ℕ, ◌++◌, map}
use Rattle.std.specs.Vec.Iter.{into_iter_items}
use Rattle.form_expand.specs.Parts.{part_list}
use Rattle.form_flow.specs.Rests.{cut_list}
use Rattle.form_flow.specs.Rewriting.{from_cuts}
use Rattle.form_flow.proofs.between.with_words.Given as goal

abbrev pub invariant-loop-one : goal.invariant-loop-one
invariant-loop-one l = (max : ℕ) →
    map (part_list max) l.lists.items ++ from_cuts l.term.others.word l.start (map (cut_list max) (into_iter_items l.one-iterator))
    ≡ from_cuts l.term.others.word l.fn.start (map (cut_list max) l.fn.between.items)
