use Rattle.std.proofs.Common.{◌≡◌, ℕ, suc, ◌+◌, subst, arith}
use Rattle.form_match.specs.Parts.{IsFront}
use Rattle.form_match.proofs.Cutting.{more_left, next_front, none_left}
use Rattle.form_match.proofs.arguments.one_more.Goals as goal

pub returns-then-len-pieces : goal.returns-then-len-pieces
returns-then-len-pieces c = λ count front.
    let ps = c.args.pieces.now in
    let more = more_left ps c.requires.lawful count c.args.len front c.if-len-pieces.true in
    let next : suc count ≡ count + 1 = omega arith in
    (more, subst (λ (k : ℕ). IsFront ps k (c.args.len + c.part_len.result)) next (next_front ps c.requires.lawful count c.args.len c.part_len.result front more c.part_len.ensures.argument))

pub returns-else-len-pieces : goal.returns-else-len-pieces
returns-else-len-pieces c = λ count front. none_left c.args.pieces.now c.requires.lawful count c.args.len front c.if-len-pieces.false
