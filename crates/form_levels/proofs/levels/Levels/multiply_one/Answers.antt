use Rattle.std.proofs.Common.{◌≡◌, Some, [], ◌∷◌, rules}
use Rattle.std.proofs.lemmas.Bool.{OnTrue_at, OnTrue_from}
use Rattle.form_flow.specs.declared.compiled.ReadyLeaf.TheVariants.{Multiply}
use Rattle.form_flow.specs.Statements.{leaf}
use Rattle.form_joined.specs.Products.{singles}
use Rattle.form_joined.proofs.Weighed.{WeightLaws}
use Rattle.form_levels.specs.Heaps.{RunsInto, limits_of}
use Rattle.form_levels.specs.Sides.{paired_from}
use Rattle.form_levels.proofs.Heaps.{into_of}
use Rattle.form_levels.proofs.Leaves.{list_beside_run}
use Rattle.form_levels.proofs.levels.Levels.multiply_one.Goals as goal

pub returns : goal.returns
returns c = λ s same.
    let laws : WeightLaws = record { moved = c.weights.ensures.moved; paired = c.weights.ensures.paired; each = c.weights.ensures.each; negated = c.weights.ensures.negated } in
    let at = limits_of c.args.self.now in
    let side = c.args.side in
    let go = leaf at (Multiply side s) in
    let term = c.args.term ∷ [] in
    let made = c.in-Some.made.items in
    let heap = c.args.acted.now in
    let new = c.put_made.new.self in
    let product : paired_from side term (singles c.args.list.now) ≡ Some made = search rules in
    OnTrue_from c.in_ok-put_made.field-0 (RunsInto go term [] heap new)
    (λ e. into_of go term [] made heap new (list_beside_run at laws side s c.args.list.now term made same c.joined_singles.ensures product) (OnTrue_at e c.in_ok-put_made.ensures))
