use Rattle.std.proofs.Common.{◌≡◌, ◌∷◌, refl}
use Rattle.std.specs.Vec.Iter.{into_iter_items}
use Rattle.form_flow.proofs.Inserting.{next_list}
use Rattle.form_flow.proofs.between.next_earlier.Goals as goal

pub returns : goal.returns
returns c = λ max taken all so_far.
    let next : into_iter_items c.args.earlier.now ≡ c.in-Some.one ∷ into_iter_items c.next.new.self = c.in-Some.ensures.items in
    next_list max all taken taken (into_iter_items c.args.earlier.now) (into_iter_items c.next.new.self) c.in-Some.one refl next so_far
