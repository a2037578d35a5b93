use Rattle.std.proofs.Common.{◌≡◌, Some, sym, ◌∙◌, FitsSigned, w64, rules}
use Rattle.std.proofs.lemmas.Int.{to_z-of_z}
use Rattle.form_match.specs.Taken.{symbol_part}
use Rattle.form_match.proofs.Portions.{apart_is, looked_at, looked_through, symbol_first}
use Rattle.form_match.proofs.taken.symbol_taken.Goals as goal

pub returns-in-Some : goal.returns-in-Some
returns-in-Some c =
    let us = c.args.takes.now in
    let fits : FitsSigned w64 c.in-Some.power = search rules in
    let found : Some c.in-Some.power ≡ symbol_part c.args.symbol c.one-item.result = sym c.in-Some.is ∙ c.part_of_symbol.ensures in
    to_z-of_z w64 c.in-Some.power fits
    ∙ sym (symbol_first c.args.symbol us (apart_is c.requires) ∙ c.loop-one.invariant
    ∙ looked_at (symbol_part c.args.symbol) us c.loop-one.one-index c.one-item.result (Some c.in-Some.power) c.loop-one-test.true c.one-item.is found)

pub returns : goal.returns
returns c =
    let us = c.args.takes.now in
    sym (symbol_first c.args.symbol us (apart_is c.requires) ∙ c.loop-one.invariant ∙ looked_through (symbol_part c.args.symbol) us c.loop-one.one-index c.loop-one-test.false)
