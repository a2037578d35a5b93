use Rattle.std.proofs.Common.{length, take, true≢false, sym, ◌∙◌, refl, arith}
use Rattle.form_term.specs.Arguments.{arguments_of}
use Rattle.form_match.proofs.Cutting.{value_first, value_front}
use Rattle.form_match.proofs.Fields.{is_reflexive, same_is}
use Rattle.form_match.proofs.arguments.front_len.Goals as goal
use Rattle.form_match.proofs.arguments.front_len.Goals.{else-len-pieces-via-then-len-pieces+else-is_same, else-len-pieces-via-else-len-pieces}

pub returns-then-is_same : goal.returns-then-is_same
returns-then-is_same c =
    let value = c.args.value.now in
    let is = same_is value (take (length value) c.args.pieces.now) (sym c.is_same.ensures ∙ c.if-is_same.true) in
    (is, (length (arguments_of value), value_front c.args.pieces.now value (length value) c.requires.lawful c.requires.lawful_value refl is))

pub returns-else-len-pieces : goal.returns-else-len-pieces
returns-else-len-pieces c = λ count within is.
    let value = c.args.value.now in
    let first = value_first c.args.pieces.now value count c.requires.lawful within is in
    elim c.else-len-pieces.branch [
      | else-len-pieces-via-then-len-pieces+else-is_same w ↦ true≢false (sym (is_reflexive value (take (length value) c.args.pieces.now) first.1) ∙ sym w.is_same.ensures ∙ w.if-is_same.false)
      | else-len-pieces-via-else-len-pieces w ↦ let within = first.0 in absurd (omega (arith, within, w.if-len-pieces.false))
    ]
