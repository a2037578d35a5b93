use Rattle.std.proofs.Common.{◌≡◌, []}
use Rattle.form_stmts.specs.declared.elements.Place.TheVariants.{Start}
use Rattle.form_stmts.specs.Elements.{elements_from}
use Rattle.form_stmts.specs.Reading.{terminals}
use Rattle.form_stmts.proofs.elements.elements_to_end.Given as goal

abbrev pub invariant-loop-token : goal.invariant-loop-token
invariant-loop-token l = elements_from l.place l.names.items l.numbers.items (terminals l.token-iterator) ≡ elements_from Start [] [] (terminals l.fn.tokens)
