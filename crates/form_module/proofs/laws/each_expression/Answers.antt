use Rattle.form_module.proofs.Becoming.{after_ascends, each_becomes, stands_then}
use Rattle.form_module.proofs.laws.each_expression.Goals as goal

pub returns-clause-becomes : goal.returns-clause-becomes
returns-clause-becomes c = each_becomes

pub returns-clause-order : goal.returns-clause-order
returns-clause-order c = after_ascends

pub returns-clause-standing : goal.returns-clause-standing
returns-clause-standing c = stands_then
