use Rattle.form_term.specs.Term.{component_order, call_order}
use Rattle.form_term.specs.TermLaws.{component_order_total, call_order_total}
use Rattle.form_normal.proofs.Order.{in_order_rises, in_order_permuted}
use Rattle.form_normal.proofs.laws.lists_in_order.Goals as goal

pub returns-clause-functions_rise : goal.returns-clause-functions_rise
returns-clause-functions_rise c = in_order_rises call_order call_order_total

pub returns-clause-functions : goal.returns-clause-functions
returns-clause-functions c = in_order_permuted call_order

pub returns-clause-components_rise : goal.returns-clause-components_rise
returns-clause-components_rise c = in_order_rises component_order component_order_total

pub returns-clause-components : goal.returns-clause-components
returns-clause-components c = in_order_permuted component_order
