use Rattle.std.proofs.Common.{◌≡◌, drop}
use Rattle.form_expand.specs.Often.{dot_in}
use Rattle.form_expand.proofs.repeated.dot_in.Given as goal

-- none of those before was of the pair
abbrev pub invariant-loop-dot : goal.invariant-loop-dot
invariant-loop-dot l = dot_in (drop l.dot-index l.dots) l.left l.right ≡ dot_in l.dots l.left l.right
