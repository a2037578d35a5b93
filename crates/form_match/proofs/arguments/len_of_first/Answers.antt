use Rattle.std.proofs.Common.{◌≡◌, ℕ, suc, ◌+◌, ◌<◌, length, subst, arith}
use Rattle.form_term.specs.Arguments.{arguments_of}
use Rattle.form_match.specs.Parts.{IsFront}
use Rattle.form_match.proofs.Cutting.{cut_front, next_front}
use Rattle.form_match.proofs.arguments.len_of_first.Goals as goal

pub loop-argument-preserved : goal.loop-argument-preserved
loop-argument-preserved c =
    let ps = c.args.pieces.now in
    let k = c.loop-argument._argument in
    let more : k < length (arguments_of ps) = omega (arith, c.loop-argument-test.true, c.requires.within) in
    let next : suc k ≡ k + 1 = omega arith in
    let front = subst (λ (n : ℕ). IsFront ps n (c.loop-argument.len + c.part_len-len.result)) next
    (next_front ps c.requires.lawful k c.loop-argument.len c.part_len-len.result c.loop-argument.invariant.front more c.part_len-len.ensures.argument) in
    record { front = front; inside = (cut_front ps c.requires.lawful (k + 1) (c.loop-argument.len + c.part_len-len.result) front).inside }
