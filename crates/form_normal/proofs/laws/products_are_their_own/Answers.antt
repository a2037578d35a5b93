use Rattle.form_normal.proofs.Alone.{each_lawful, product_is_term, product_is_own}
use Rattle.form_normal.proofs.laws.products_are_their_own.Goals as goal

pub returns-clause-each : goal.returns-clause-each
returns-clause-each c = each_lawful

pub returns-clause-lawful : goal.returns-clause-lawful
returns-clause-lawful c = product_is_term

pub returns-clause-own : goal.returns-clause-own
returns-clause-own c = product_is_own
