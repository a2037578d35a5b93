use Rattle.std.proofs.Common.{◌≡◌, fold, take}
use Rattle.form_rewrite.specs.Taking.{cuts_by_use}
use Rattle.form_rewrite.proofs.cuts.cuts_by.Given as goal

abbrev pub invariant-loop-one : goal.invariant-loop-one
invariant-loop-one l = l.cuts.items ≡ fold (cuts_by_use l.origin) l.fn.cuts.items (take l.one-index l.takes)
