use Rattle.std.proofs.Common.{◌≡◌, ◌++◌, length}
use Rattle.form_pattern.specs.Pattern.{wildcards_of}
use Rattle.form_pattern.proofs.knowing.wildcards_of.Given as goal

-- those so far, and those of what is left
abbrev pub invariant-loop-rest : goal.invariant-loop-rest
invariant-loop-rest l = wildcards_of l.names l.list ≡ l.wildcards.items ++ wildcards_of l.names l.rest

abbrev pub decreases-loop-rest : goal.decreases-loop-rest
decreases-loop-rest l = length l.rest
