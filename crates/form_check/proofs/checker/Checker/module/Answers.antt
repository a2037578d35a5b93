use Rattle.std.proofs.Common.{◌≡◌, ◌∙◌, ◌∷◌}
use Rattle.std.proofs.lemmas.List.Elements.{All-rest}
use Rattle.std.specs.Vec.Iter.{into_iter_items}
use Rattle.form_ast.specs.Lawful.{IsLawfulPart}
use Rattle.form_check.specs.Checker.{state_of}
use Rattle.form_check.specs.Checking.{part}
use Rattle.form_right_side.specs.Refusal.{each}
use Rattle.form_right_side.proofs.Loops.{each-first}
use Rattle.form_check.proofs.checker.Checker.module.Goals as goal

pub loop-placed-preserved : goal.loop-placed-preserved
loop-placed-preserved c =
    let left = into_iter_items c.loop-placed.placed-iterator in
    let rest = into_iter_items c.next.new.self in
    let next : left ≡ c.in-Some.placed ∷ rest = c.in-Some.ensures.steps.0 in
    record {
      consistent = c.in_ok-part.ensures.consistent;
      lawful = All-rest IsLawfulPart c.in-Some.placed rest left next c.loop-placed.invariant.lawful;
      current = c.in_ok-part.ensures.current ∙ c.loop-placed.invariant.current;
      checked = each-first part (state_of c.loop-placed.self) (state_of c.part.new.self) c.in-Some.placed rest left (each part (state_of c.args.self.now) c.args.written) next c.loop-placed.invariant.checked c.in_ok-part.ensures.checked;
    }
