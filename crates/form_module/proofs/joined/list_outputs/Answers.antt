use Rattle.std.proofs.Common.{◌≡◌, ◌≤◌, ◌++◌, ◌∙◌, true, List, length, sym, arith}
use Rattle.std.proofs.lemmas.Bool.{eqb-true, eqb-false}
use Rattle.std.proofs.lemmas.Nat.{div_below, le-div}
use Rattle.std.proofs.lemmas.List.{nil_from_length, take-append-drop}
use Rattle.form_term.specs.declared.monomial.Monomial.{Monomial}
use Rattle.form_gathered.specs.Joined.{HaveSums}
use Rattle.form_module.proofs.Batched.{all_done, batch_done, none_done}
use Rattle.form_module.proofs.joined.list_outputs.Goals as goal

pub loop-left-init : goal.loop-left-init
loop-left-init c = (omega arith, λ all has. none_done c.args.statements.now all c.args.list.now c.new-table.result has c.new-table.ensures)

pub split_at-requires : goal.split_at-requires
split_at-requires c = omega (arith, c.min-size.ensures)

pub loop-left-preserved-in-Some : goal.loop-left-preserved-in-Some
loop-left-preserved-in-Some c = (
  c.loop-left.invariant.0,
  λ all has.
      let left = c.loop-left.left.now in
      let batch = c.split_at.result.0.now in
      let behind = c.split_at.result.1.now in
      let whole : batch ++ behind ≡ left = rw (c.split_at.ensures.front, c.split_at.ensures.back) (take-append-drop c.min-size.result left) in
      let is_added : c.in_ok-add_joined-in-Some.field-0 ≡ true = c.if-not-branch.false in
      batch_done c.args.statements.now all left batch behind c.loop-left.table c.in-Some.outputs.items c.add_joined.new.table whole
      (λ (part : List Monomial) (sums : HaveSums batch part). let made = c.in_ok-outputs.ensures part sums in rw c.in-Some.is at made)
      (rw is_added at c.in_ok-add_joined-in-Some.ensures) (c.loop-left.invariant.1 all has),
)

pub loop-left-smaller-in-Some : goal.loop-left-smaller-in-Some
loop-left-smaller-in-Some c =
    let some = eqb-false (length c.loop-left.left.now) 0 (sym c.is_empty.ensures ∙ c.loop-left-test.true) in
    omega (arith, some, c.loop-left.invariant.0, c.split_at.ensures.back_len, c.min.ensures, c.min-size.ensures, c.size.ensures)

pub loop-left-preserved : goal.loop-left-preserved
loop-left-preserved c =
    let size = c.min-size.result in
    let some = eqb-false (length c.loop-left.left.now) 0 (sym c.is_empty.ensures ∙ c.loop-left-test.true) in
    let several : 2 ≤ size = omega (arith, some, c.loop-left.invariant.0, c.min.ensures, c.min-size.ensures, c.size.ensures, c.if-size-eq1.false) in
    (omega (arith, le-div 1 size 2 (omega arith) (omega (arith, several))), c.loop-left.invariant.1)

pub loop-left-smaller : goal.loop-left-smaller
loop-left-smaller c =
    let size = c.min-size.result in
    let some = eqb-false (length c.loop-left.left.now) 0 (sym c.is_empty.ensures ∙ c.loop-left-test.true) in
    let less = div_below size 2 size (omega arith) (omega (arith, some, c.loop-left.invariant.0, c.min.ensures, c.min-size.ensures, c.size.ensures)) in
    omega (arith, less, c.min.ensures, c.min-size.ensures)

pub returns : goal.returns
returns c = λ all has.
    let left = c.loop-left.left.now in
    all_done c.args.statements.now all left c.loop-left.table (nil_from_length left (eqb-true (length left) 0 (sym c.is_empty.ensures ∙ c.loop-left-test.false))) (c.loop-left.invariant.1 all has)
