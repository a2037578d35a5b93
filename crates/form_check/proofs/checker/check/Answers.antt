use Rattle.std.proofs.Common.{◌≡◌, ◌∙◌, [], ◌∷◌, Ok, ap, subst, arith, length, All}
use Rattle.std.proofs.lemmas.List.{nil_from_length}
use Rattle.std.proofs.lemmas.List.Elements.{All-head, All-rest}
use Rattle.std.specs.Vec.Iter.{into_iter_items}
use Rattle.form_ast.proofs.Holding.{lawful_parts}
use Rattle.form_ast.specs.Lawful.{IsLawfulModule}
use Rattle.form_check.specs.Checker.{state_of}
use Rattle.form_check.specs.Checking.{start, module_checked}
use Rattle.form_right_side.specs.Refusal.{each}
use Rattle.form_right_side.proofs.Loops.{each-first}
use Rattle.form_check.proofs.Sound.{sound}
use Rattle.form_check.proofs.checker.check.Goals as goal

pub module-requires-clause-lawful : goal.module-requires-clause-lawful
module-requires-clause-lawful c =
    let left = into_iter_items c.loop-module.module-iterator in
    let rest = into_iter_items c.next.new.self in
    let next : left ≡ c.in-Some.module ∷ rest = c.in-Some.ensures.steps.0 in
    lawful_parts c.in-Some.module (All-head IsLawfulModule c.in-Some.module rest (subst (All IsLawfulModule) next c.loop-module.invariant.lawful))

pub loop-module-preserved : goal.loop-module-preserved
loop-module-preserved c =
    let left = into_iter_items c.loop-module.module-iterator in
    let rest = into_iter_items c.next.new.self in
    let next : left ≡ c.in-Some.module ∷ rest = c.in-Some.ensures.steps.0 in
    record {
      consistent = c.in_ok-module.ensures.consistent;
      lawful = All-rest IsLawfulModule c.in-Some.module rest left next c.loop-module.invariant.lawful;
      current = omega (arith, c.in_ok-module.ensures.current, c.loop-module.invariant.current, ap length next);
      checked = each-first module_checked (state_of c.loop-module.checker) (state_of c.module.new.self) c.in-Some.module rest left (each module_checked start c.args.modules.items) next c.loop-module.invariant.checked c.in_ok-module.ensures.checked;
    }

pub returns-clause-sound : goal.returns-clause-sound
returns-clause-sound c =
    let modules = c.args.modules.items in
    let state = state_of c.loop-module.checker in
    let left = into_iter_items c.loop-module.module-iterator in
    let none : left ≡ [] = nil_from_length left (omega (arith, c.in-None.ensures.steps)) in
    let all : each module_checked start modules ≡ Ok state = c.loop-module.invariant.checked ∙ ap (each module_checked state) none in
    rw c.new.ensures (sound c.one_tree.ensures.found modules state c.requires all)
