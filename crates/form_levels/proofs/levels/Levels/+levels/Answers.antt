use Rattle.std.proofs.Common.{List, map, option_map, length, refl, sym, ap, subst, ◌∙◌, arith}
use Rattle.std.proofs.lemmas.List.{take_all}
use Rattle.form_flow.specs.Statement.{Chosen, Statement}
use Rattle.form_flow.specs.Statements.{action, branch_by, first_branch, leaf, run}
use Rattle.form_flow.specs.Outcome.{turns}
use Rattle.form_flow.specs.Ways.{acts_of}
use Rattle.form_flow.proofs.Acting.{of_choose, of_plain, of_repeat}
use Rattle.form_levels.specs.Heaps.{limits_of}
use Rattle.form_levels.specs.Runs.{Runs}
use Rattle.form_levels.proofs.Chosen.{BranchesInto, all_branches_into, branch_into, last_into}
use Rattle.form_levels.proofs.Heaps.{both_into}
use Rattle.form_levels.proofs.Stepping.{all_begun, block_by, block_size, empty_items, first_turn, last_one, made_same, no_block, no_last, none_left, one_more, one_turn, some_last, turns_begun, turns_ended, turns_over}
use Rattle.form_levels.proofs.levels.Levels.+levels.Goals as goal

-- ---- a block

pub block-all-requires : goal.block-all-requires
block-all-requires t c =
    let e = block_size c.args.block.now c.as_slice.result.now c.in-Some.others.now c.in-Some.last.now c.as_slice.ensures c.in-Some.ensures.cases.0 in
    (omega (arith, e, c.decreases), tt)

pub block-act_on_both-requires : goal.block-act_on_both-requires
block-act_on_both-requires t c =
    let e = block_size c.args.block.now c.as_slice.result.now c.in-Some.others.now c.in-Some.last.now c.as_slice.ensures c.in-Some.ensures.cases.0 in
    (omega (arith, e, c.decreases), tt)

pub block-returns-in_default : goal.block-returns-in_default
block-returns-in_default t c =
    no_block (limits_of c.args.self.now) c.args.block.now c.args.terms.items c.args.acted.now (ap length (sym c.as_slice.ensures) ∙ c.in_default.ensures.cases)

pub block-returns : goal.block-returns
block-returns t c =
    last_one (limits_of c.args.self.now) c.args.block.now c.as_slice.result.now c.in-Some.others.now c.in-Some.last.now c.args.terms.items c.args.acted.now c.act_on_both.new.acted
    c.in-Some-2.level c.act_on_both.result c.as_slice.ensures c.in-Some.ensures.cases.0 (rw c.in-Some-2.is at c.in_ok-level.ensures) c.act_on_both.ensures

-- ---- statements in a row

pub all-loop-action-init : goal.all-loop-action-init
all-loop-action-init t c = all_begun (limits_of c.args.self.now) c.args.terms.items c.new.result.items c.new.ensures.items

pub all-loop-action-preserved : goal.all-loop-action-preserved
all-loop-action-preserved t c =
    one_more (limits_of c.args.self.now) c.args.block.now c.loop-action.action-index c.action-item.result c.args.terms.items c.in-Some.idle.items c.new-heap.result c.act_on_both.new.acted c.in_ok-acted.acted.items
    c.loop-action.level c.loop-action-test.true c.action-item.is c.loop-action.invariant c.new-heap.ensures (rw c.in-Some.is at c.in_ok-idle.ensures) c.in_ok-acted.ensures

pub all-returns : goal.all-returns
all-returns t c =
    subst (λ (ss : List Statement). Runs (run (limits_of c.args.self.now) ss) c.args.terms.items c.loop-action.level.idle.items c.loop-action.level.acted.items)
    (take_all c.loop-action.action-index c.args.block.now c.loop-action-test.false) c.loop-action.invariant

-- ---- a statement on a level

pub act_on_both-returns : goal.act_on_both-returns
act_on_both-returns t c =
    both_into (action (limits_of c.args.self.now) c.args.action.now) c.args.level c.in-Some.idle.items c.in-Some-2.untouched.items c.args.acted.now c.act.new.acted c.act-2.new.acted c.put_untouched.new.self
    (rw c.in-Some.is at c.in_ok-idle.ensures) (rw c.in-Some-2.is at c.in_ok-untouched.ensures) (rw c.if-not-branch.false at c.in_ok-put_untouched.ensures)

-- ---- a statement

pub act-returns-then-is_empty : goal.act-returns-then-is_empty
act-returns-then-is_empty t c =
    none_left (action (limits_of c.args.self.now) c.args.action.now) c.args.terms.items c.args.acted.now (empty_items c.args.terms c.is_empty.result c.is_empty.ensures c.if-is_empty.true)

pub act-returns-in-Plain : goal.act-returns-in-Plain
act-returns-in-Plain t c =
    let at = limits_of c.args.self.now in
    made_same (leaf at c.in-Plain.leaf) (action at c.args.action.now) c.args.terms.items c.args.acted.now c.leaf.new.acted c.leaf.result
    (λ m. sym (ap (λ (s : Statement). action at s m) c.in-Plain.is ∙ of_plain at c.in-Plain.leaf m)) c.leaf.ensures

pub act-returns-in-Repeat : goal.act-returns-in-Repeat
act-returns-in-Repeat t c =
    let at = limits_of c.args.self.now in
    made_same (turns at.turns (run at c.in-Repeat.block)) (action at c.args.action.now) c.args.terms.items c.args.acted.now c.repeat.new.acted c.repeat.result
    (λ m. sym (ap (λ (s : Statement). action at s m) c.in-Repeat.is ∙ of_repeat at c.in-Repeat.block m)) c.repeat.ensures

pub act-returns-in-Choose : goal.act-returns-in-Choose
act-returns-in-Choose t c =
    let at = limits_of c.args.self.now in
    let act = action at in
    made_same (first_branch (map (branch_by act) c.as_slice.result.now) (option_map (acts_of act) c.in-Choose.last)) (act c.args.action.now) c.args.terms.items c.args.acted.now c.choose.new.acted c.choose.result
    (λ m. sym (ap (λ (s : Statement). act s m) c.in-Choose.is ∙ of_choose at c.in-Choose.branches c.in-Choose.last m
    ∙ ap (λ (bs : List Chosen). first_branch (map (branch_by act) bs) (option_map (acts_of act) c.in-Choose.last) m) (sym c.as_slice.ensures)))
    (c.choose.ensures act refl)

-- ---- a `repeat`

pub repeat-returns : goal.repeat-returns
repeat-returns t c =
    let at = limits_of c.args.self.now in
    first_turn c.turns-turns.result at.turns (run at c.args.block.now) c.args.terms.items c.in-Some.idle.items c.new-next.result c.block.new.acted c.in_ok-next.next.items c.args.acted.now c.turns.new.acted
    c.turns-turns.ensures (omega arith) c.new-next.ensures (rw c.in-Some.is at c.in_ok-idle.ensures) c.in_ok-next.ensures (rw c.if-not-branch.false at c.in_ok-turns.ensures)

pub turns-loop-begun-init : goal.turns-loop-begun-init
turns-loop-begun-init t c = turns_begun c.args.most (run (limits_of c.args.self.now) c.args.block.now) c.args.terms.items c.args.acted.now

pub turns-returns-then-is_empty : goal.turns-returns-then-is_empty
turns-returns-then-is_empty t c =
    turns_ended c.args.most (run (limits_of c.args.self.now) c.args.block.now) c.args.terms.items c.args.acted.now c.loop-begun._begun c.loop-begun.terms.items c.loop-begun.acted
    (empty_items c.loop-begun.terms c.is_empty.result c.is_empty.ensures c.if-is_empty.true) c.loop-begun.invariant

pub turns-loop-begun-preserved : goal.turns-loop-begun-preserved
turns-loop-begun-preserved t c =
    one_turn c.args.most (run (limits_of c.args.self.now) c.args.block.now) c.args.terms.items c.args.acted.now c.loop-begun._begun c.loop-begun.terms.items c.in-Some.leaving.items c.new-next.result c.block.new.acted
    c.in_ok-terms.terms.items c.loop-begun.acted c.put.new.self c.loop-begun-test.true c.new-next.ensures (rw c.in-Some.is at c.in_ok-leaving.ensures) c.in_ok-terms.ensures
    (rw c.if-not-branch.false at c.in_ok-put.ensures) c.loop-begun.invariant

pub turns-returns : goal.turns-returns
turns-returns t c =
    turns_over c.args.most (run (limits_of c.args.self.now) c.args.block.now) c.args.terms.items c.args.acted.now c.loop-begun._begun c.loop-begun.terms c.loop-begun.acted c.is_empty-2.result c.is_empty-2.ensures c.loop-begun.invariant

-- ---- an `if`

pub choose-loop-branch-init : goal.choose-loop-branch-init
choose-loop-branch-init t c = λ act is.
    subst (λ l. BranchesInto act c.args.branches.now c.args.last.now c.args.terms.items c.args.acted.now 0 c.args.terms.items l c.args.acted.now) (sym c.new-idle.ensures.items)
    (all_branches_into act c.args.branches.now c.args.last.now c.args.terms.items c.args.acted.now)

pub choose-loop-branch-preserved : goal.choose-loop-branch-preserved
choose-loop-branch-preserved t c = λ act is.
    let b = c.branch-item.result in
    let p = c.in_ok-taken.field-0 in
    branch_into act c.args.branches.now c.args.last.now c.args.terms.items c.args.acted.now c.loop-branch.branch-index b c.loop-branch.rest.items c.loop-branch.idle.items c.loop-branch.acted c.in-Some.more.items c.block.new.acted
    c.in_ok-idle.idle.items p c.loop-branch-test.true c.branch-item.is (sym c.asks_coefficient.ensures ∙ c.if-asks_coefficient.false) c.in_ok-taken.ensures
    (block_by (limits_of c.args.self.now) act b.block p.taken.items c.in-Some.more.items c.loop-branch.acted c.block.new.acted is (rw c.in-Some.is at c.in_ok-more.ensures)) c.in_ok-idle.ensures (c.loop-branch.invariant act is)

pub choose-returns : goal.choose-returns
choose-returns t c = λ act is.
    last_into act c.args.branches.now c.args.last.now c.args.terms.items c.args.acted.now c.loop-branch.branch-index c.loop-branch.rest.items c.loop-branch.idle.items c.loop-branch.acted c.in-Some-2.more.items c.otherwise.new.acted
    c.in_ok-behind.field-0.items c.loop-branch-test.false (rw c.in-Some-2.is at (c.in_ok-more-2.ensures act is)) c.in_ok-behind.ensures (c.loop-branch.invariant act is)

pub otherwise-returns-in-Some : goal.otherwise-returns-in-Some
otherwise-returns-in-Some t c = λ act is.
    some_last (limits_of c.args.self.now) act c.args.last.now c.in-Some.block c.args.terms.items c.args.acted.now c.block.new.acted c.block.result is c.in-Some.is c.block.ensures

pub otherwise-returns-in-None : goal.otherwise-returns-in-None
otherwise-returns-in-None t c = λ act is. no_last act c.args.last.now c.args.terms.items c.args.acted.now c.in-None.is
