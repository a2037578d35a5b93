use Rattle.std.proofs.Common.{◌≡◌, Some, sym, ◌∙◌, FitsSigned, w64, rules}
use Rattle.std.proofs.lemmas.Int.{to_z-of_z}
use Rattle.form_match.specs.Taken.{dot_part}
use Rattle.form_match.proofs.Portions.{apart_is, looked_at, looked_through, dot_first}
use Rattle.form_match.proofs.taken.dot_taken.Goals as goal

pub returns-in-Some : goal.returns-in-Some
returns-in-Some c =
    let us = c.args.takes.now in
    let fits : FitsSigned w64 c.in-Some.power = search rules in
    let found : Some c.in-Some.power ≡ dot_part c.args.place c.one-item.result = sym c.in-Some.is ∙ c.part_of_dot.ensures in
    to_z-of_z w64 c.in-Some.power fits
    ∙ sym (dot_first c.args.place us (apart_is c.requires) ∙ c.loop-one.invariant
    ∙ looked_at (dot_part c.args.place) us c.loop-one.one-index c.one-item.result (Some c.in-Some.power) c.loop-one-test.true c.one-item.is found)

pub returns : goal.returns
returns c =
    let us = c.args.takes.now in
    sym (dot_first c.args.place us (apart_is c.requires) ∙ c.loop-one.invariant ∙ looked_through (dot_part c.args.place) us c.loop-one.one-index c.loop-one-test.false)
