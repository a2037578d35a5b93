use Rattle.std.proofs.Common.{◌+◌}
use Rattle.form_ast.proofs.Lower.{pattern_alone}
use Rattle.form_check.proofs.condition.Patterns.value.Goals as goal

pub count-requires : goal.count-requires
count-requires c =
    let written = rw c.in-Count.is at c.requires in
    rw c.as_slice.ensures written.1.2

pub take_match-requires : goal.take_match-requires
take_match-requires c =
    let written = rw c.in-Match.is at c.requires in
    rw c.as_slice-in-Match.ensures (pattern_alone (written.0 + 1) _ written.1.1)
