use Rattle.std.proofs.Common.{◌≡◌, []}
use Rattle.form_stmts.specs.declared.indices.Indexing.TheVariants.{Nothing}
use Rattle.form_stmts.specs.Indices.{indices_from}
use Rattle.form_stmts.specs.Reading.{terminals}
use Rattle.form_stmts.proofs.indices.indices_to_end.Given as goal

abbrev pub invariant-loop-token : goal.invariant-loop-token
invariant-loop-token l = indices_from l.last l.indices.items (terminals l.token-iterator) ≡ indices_from Nothing [] (terminals l.fn.tokens)
