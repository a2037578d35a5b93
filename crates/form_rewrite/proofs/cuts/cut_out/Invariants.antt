use Rattle.std.proofs.Common.{◌≡◌, ◌++◌, ◌∷◌, map, take}
use Rattle.form_rewrite.specs.Taking.{cut_at, moved}
use Rattle.form_rewrite.proofs.cuts.cut_out.Given as goal

abbrev pub invariant-loop-cut : goal.invariant-loop-cut
invariant-loop-cut l = l.made.items ≡ take l.first l.cuts ++ cut_at l.start l.fn.origin ∷ map (moved l.length) (take l.cut-index l.behind)
