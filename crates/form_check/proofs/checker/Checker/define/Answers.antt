use Rattle.std.proofs.Common.{◌≡◌, ◌∙◌, sym, false, Ok}
use Rattle.std.proofs.lemmas.Result.{err_from_is_err_and}
use Rattle.form_names.specs.Names.{lookup}
use Rattle.form_check.specs.Checker.{state_of}
use Rattle.form_check.specs.Checking.{is_defined_again, with_statement}
use Rattle.form_right_side.specs.Marks.{stands_in}
use Rattle.form_check.specs.Standing.{stands}
use Rattle.form_right_side.specs.RightSide.{right_side}
use Rattle.form_right_side.specs.Refusal.{IsRefused}
use Rattle.form_check.specs.declared.checked.Checked.TheVariants.{Local}
use Rattle.form_check.proofs.Defining.{definition-Ok, definition-refused, Gives-kept}
use Rattle.form_check.proofs.checker.Checker.define.Goals as goal

pub returns-in_err-tree-clause-checked : goal.returns-in_err-tree-clause-checked
returns-in_err-tree-clause-checked c =
    let state = state_of c.args.self.now in
    let spelled = c.args.spelled.now in
    let new : is_defined_again state (lookup state.names spelled.name) ≡ false = rw (← c.as_str.ensures) (sym c.has_defined.ensures ∙ c.if-has_defined.false) in
    let same : stands_in c.args.self.now.standing ≡ stands state.earlier = λ j e. c.requires.consistent.marks.standing e j in
    let refuses : IsRefused c.in_err-tree.field-0.0 (right_side c.declare.new.names (stands state.earlier) c.nothing-known.result c.args.right) = rw (← same) c.in_err-tree.ensures in
    let p = err_from_is_err_and c.from_residual-in_err-tree.result c.from_residual-in_err-tree.ensures.1 in
    rw (p.1, p.2) (definition-refused state spelled c.args.right c.in_ok-id.id c.declare.new.names new c.in_ok-id.ensures.declared c.nothing-known.result c.nothing-known.ensures c.in_err-tree.field-0.0 refuses)

pub returns-clause-checked : goal.returns-clause-checked
returns-clause-checked c =
    let state = state_of c.args.self.now in
    let spelled = c.args.spelled.now in
    let new : is_defined_again state (lookup state.names spelled.name) ≡ false = rw (← c.as_str.ensures) (sym c.has_defined.ensures ∙ c.if-has_defined.false) in
    let same : stands_in c.args.self.now.standing ≡ stands state.earlier = λ j e. c.requires.consistent.marks.standing e j in
    let gives : right_side c.declare.new.names (stands state.earlier) c.nothing-known.result c.args.right ≡ Ok c.in_ok-tree.tree = rw (← same) c.in_ok-tree.ensures in
    let all = definition-Ok state spelled c.args.right c.in_ok-id.id c.declare.new.names new c.in_ok-id.ensures.declared c.nothing-known.result c.nothing-known.ensures c.in_ok-tree.tree gives in
    Gives-kept c.keep.result (state_of c.keep.new.self) (with_statement (record state { names = c.declare.new.names }) (Local c.in_ok-id.id c.in_ok-tree.tree)) _ all c.keep.ensures.kept c.keep.ensures.memory
