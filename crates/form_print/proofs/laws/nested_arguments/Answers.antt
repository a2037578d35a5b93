use Rattle.form_print.proofs.Nested.{arguments_lawful, arguments_nest, function_nests}
use Rattle.form_print.proofs.laws.nested_arguments.Goals as goal

pub returns-clause-arguments : goal.returns-clause-arguments
returns-clause-arguments c = arguments_nest

pub returns-clause-functions : goal.returns-clause-functions
returns-clause-functions c = function_nests

pub returns-clause-every : goal.returns-clause-every
returns-clause-every c = arguments_lawful
