use Rattle.std.proofs.Common.{◌≡◌, length, ap, ◌∙◌, arith}
use Rattle.form_term.specs.Arguments.{arguments_of}
use Rattle.form_match.proofs.Cutting.{no_arguments}
use Rattle.form_match.proofs.arguments.argument_count.Goals as goal

pub returns : goal.returns
returns c =
    let none : length (arguments_of c.loop-part.rest.now) ≡ 0 = ap (λ ps. length (arguments_of ps)) c.in_default.ensures ∙ ap length no_arguments in
    omega (arith, none, c.loop-part.invariant.counted)
