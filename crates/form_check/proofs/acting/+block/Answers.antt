use Rattle.std.proofs.Common.{All, rules, subst, sym}
use Rattle.std.proofs.lemmas.Result.{err_from_is_err_and}
use Rattle.form_base.specs.declared.block.Action.{the_lemmas}
use Rattle.form_ast.proofs.Holding.{lawful_choose, lawful_repeat, lawful_within}
use Rattle.form_ast.specs.Lawful.{IsLawfulAction, IsLawfulBranch, IsLawfulCondition}
use Rattle.form_check.proofs.Lawfulness.{leaf_lawful}
use Rattle.form_check.proofs.Trees.{branches_refused, choose_made, functions_refused, inner_refused, last_refused, plain_made, plain_refused, repeat_made, repeat_refused, within_made}
use Rattle.form_check.proofs.acting.+block.Goals as goal

-- ---- no block

pub action-leaf-requires : goal.action-leaf-requires
action-leaf-requires t c = leaf_lawful c.in-Plain.alone (subst IsLawfulAction c.in-Plain.is c.requires)

pub action-returns-in_err-made-in-Plain : goal.action-returns-in_err-made-in-Plain
action-returns-in_err-made-in-Plain t c =
    let e = err_from_is_err_and c.from_residual.result c.from_residual.ensures.1 in
    rw (e.1, e.2) (plain_refused c.args.names.now c.args.written.now c.in-Plain.alone c.in-Plain.is c.in_err-made-in-Plain.field-0.0 c.in_err-made-in-Plain.ensures)

pub action-returns-in_ok-made-in-Plain : goal.action-returns-in_ok-made-in-Plain
action-returns-in_ok-made-in-Plain t c = plain_made c.args.names.now c.args.written.now c.in-Plain.alone c.in-Plain.is c.in_ok-made-in-Plain.made c.in_ok-made-in-Plain.ensures

-- ---- a `repeat`

pub action-block-requires : goal.action-block-requires
action-block-requires t c = (search (rules, the_lemmas), lawful_repeat c.in-Repeat.inner (subst IsLawfulAction c.in-Repeat.is c.requires))

pub action-returns-in_err-made-in-Repeat : goal.action-returns-in_err-made-in-Repeat
action-returns-in_err-made-in-Repeat t c =
    let e = err_from_is_err_and c.from_residual-in_err-made-in-Repeat.result c.from_residual-in_err-made-in-Repeat.ensures.1 in
    rw (e.1, e.2) (repeat_refused c.args.names.now c.args.written.now c.in-Repeat.inner c.in-Repeat.is c.in_err-made-in-Repeat.field-0.0 c.in_err-made-in-Repeat.ensures)

pub action-returns-in_ok-made-in-Repeat : goal.action-returns-in_ok-made-in-Repeat
action-returns-in_ok-made-in-Repeat t c = repeat_made c.args.names.now c.args.written.now c.in-Repeat.inner c.in-Repeat.is c.in_ok-made-in-Repeat.made c.in_ok-made-in-Repeat.ensures

-- ---- an `if`

pub action-branches-requires : goal.action-branches-requires
action-branches-requires t c = (search (rules, the_lemmas), (lawful_choose c.in-Choose.choices c.in-Choose.last (subst IsLawfulAction c.in-Choose.is c.requires)).0)

pub action-last_block-requires : goal.action-last_block-requires
action-last_block-requires t c = (search (rules, the_lemmas), (lawful_choose c.in-Choose.choices c.in-Choose.last (subst IsLawfulAction c.in-Choose.is c.requires)).1)

pub action-returns-in_err-made-in-Choose : goal.action-returns-in_err-made-in-Choose
action-returns-in_err-made-in-Choose t c =
    let e = err_from_is_err_and c.from_residual-in_err-made-in-Choose.result c.from_residual-in_err-made-in-Choose.ensures.1 in
    rw (e.1, e.2) (branches_refused c.args.names.now c.args.written.now c.in-Choose.choices c.in-Choose.last c.in-Choose.is c.in_err-made-in-Choose.field-0.0 c.in_err-made-in-Choose.ensures)

pub action-returns-in_err-otherwise-in-Choose : goal.action-returns-in_err-otherwise-in-Choose
action-returns-in_err-otherwise-in-Choose t c =
    let e = err_from_is_err_and c.from_residual-in_err-otherwise-in-Choose.result c.from_residual-in_err-otherwise-in-Choose.ensures.1 in
    rw (e.1, e.2) (last_refused c.args.names.now c.args.written.now c.in-Choose.choices c.in-Choose.last c.in-Choose.is c.in_ok-made-in-Choose.made c.in_ok-made-in-Choose.ensures c.in_err-otherwise-in-Choose.field-0.0 c.in_err-otherwise-in-Choose.ensures)

pub action-returns-in_ok-otherwise-in-Choose : goal.action-returns-in_ok-otherwise-in-Choose
action-returns-in_ok-otherwise-in-Choose t c =
    choose_made c.args.names.now c.args.written.now c.in-Choose.choices c.in-Choose.last c.in-Choose.is c.in_ok-made-in-Choose.made c.in_ok-made-in-Choose.ensures c.in_ok-otherwise-in-Choose.otherwise c.in_ok-otherwise-in-Choose.ensures

-- ---- an `argument`

pub action-block-requires-in-Within : goal.action-block-requires-in-Within
action-block-requires-in-Within t c = (search (rules, the_lemmas), lawful_within c.in-Within.functions c.in-Within.inner (subst IsLawfulAction c.in-Within.is c.requires))

pub action-returns-in_err-taken-in-Within : goal.action-returns-in_err-taken-in-Within
action-returns-in_err-taken-in-Within t c =
    let e = err_from_is_err_and c.from_residual-in_err-taken-in-Within.result c.from_residual-in_err-taken-in-Within.ensures.1 in
    let refused = rw c.as_slice.ensures at c.in_err-taken-in-Within.ensures in
    rw (e.1, e.2) (functions_refused c.args.names.now c.args.written.now c.in-Within.functions c.in-Within.inner c.in-Within.is c.in_err-taken-in-Within.field-0.0 refused)

pub action-returns-in_err-made-in-Within : goal.action-returns-in_err-made-in-Within
action-returns-in_err-made-in-Within t c =
    let e = err_from_is_err_and c.from_residual-in_err-made-in-Within.result c.from_residual-in_err-made-in-Within.ensures.1 in
    let taken = rw c.as_slice.ensures at c.in_ok-taken-in-Within.ensures in
    rw (e.1, e.2) (inner_refused c.args.names.now c.args.written.now c.in-Within.functions c.in-Within.inner c.in-Within.is c.in_ok-taken-in-Within.taken taken c.in_err-made-in-Within.field-0.0 c.in_err-made-in-Within.ensures)

pub action-returns-in_ok-made-in-Within : goal.action-returns-in_ok-made-in-Within
action-returns-in_ok-made-in-Within t c =
    let taken = rw c.as_slice.ensures at c.in_ok-taken-in-Within.ensures in
    within_made c.args.names.now c.args.written.now c.in-Within.functions c.in-Within.inner c.in-Within.is c.in_ok-taken-in-Within.taken taken c.in_ok-made-in-Within.made c.in_ok-made-in-Within.ensures

-- ---- branches

pub branches-condition-requires : goal.branches-condition-requires
branches-condition-requires t c =
    let all = subst (All IsLawfulBranch) (sym c.as_slice-one-items.ensures) c.requires in
    let here = subst IsLawfulBranch (sym c.one-item.is) (all c.loop-one.one-index c.one-item.result c.loop-one-test.true) in
    subst IsLawfulCondition (sym c.as_slice.ensures) here.0
