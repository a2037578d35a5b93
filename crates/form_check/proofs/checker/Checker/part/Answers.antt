use Rattle.std.proofs.Common.{[]}
use Rattle.std.proofs.lemmas.List.Elements.{All-head}
use Rattle.form_ast.specs.Lawful.{IsLawfulStatement}
use Rattle.form_ast.specs.Written.{outer_written}
use Rattle.form_check.proofs.checker.Checker.part.Goals as goal

pub outer-requires-clause-lawful : goal.outer-requires-clause-lawful
outer-requires-clause-lawful c = All-head IsLawfulStatement (outer_written c.in-Outer.statement) [] (rw c.in-Outer.is at c.requires.lawful)

pub act-requires-clause-lawful : goal.act-requires-clause-lawful
act-requires-clause-lawful c = rw c.in-Action.is at c.requires.lawful
