use Rattle.std.proofs.Common.{◌≡◌, []}
use Rattle.form_stmts.specs.declared.names.Last.TheVariants.{Nothing}
use Rattle.form_stmts.specs.Reading.{names_from, terminals}
use Rattle.form_stmts.proofs.names.names_to_end.Given as goal

abbrev pub invariant-loop-token : goal.invariant-loop-token
invariant-loop-token l = names_from l.may_be_none l.last l.names.items (terminals l.token-iterator) ≡ names_from l.may_be_none Nothing [] (terminals l.fn.tokens)
