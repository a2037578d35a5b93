use Rattle.std.proofs.Common.{◌≤◌, ◌-◌, ◌+◌, ℕ, List, length, take, drop, arith, eqb}
use Rattle.std.specs.Char.{is_ascii_alphanumeric}
use Rattle.std.proofs.lemmas.List.{length-take, length-drop}
use Rattle.form_lexer.proofs.Fronts.{front_within}
use Rattle.form_lexer.proofs.shape.word.Goals as goal

pub slice_bounds-underscored-end : goal.slice_bounds-underscored-end
slice_bounds-underscored-end c =
    let text : List ℕ = c.args.text.now in
    let letters : ℕ = c.letters-letters.result in
    let rest : List ℕ = take (length text - letters) (drop letters text) in
    let within : letters ≤ length text = rw c.letters-letters.ensures (front_within is_ascii_alphanumeric text) in
    let rest_within : c.underscores.result ≤ length rest = rw c.underscores.ensures (front_within (λ d. eqb d 95) rest) in
    omega (arith, within, rest_within, length-take (length text - letters) (drop letters text), length-drop letters text, length-take (letters + c.underscores.result) text)
