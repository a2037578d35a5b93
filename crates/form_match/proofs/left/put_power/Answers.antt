use Rattle.std.proofs.Common.{◌+◌, ◌∷◌, ◌++◌, [], Bool, cond, take, drop, ap, ◌∙◌, sym}
use Rattle.form_match.proofs.Backwards.{put_at}
use Rattle.form_match.proofs.left.put_power.Goals as goal

pub returns-then-is_present : goal.returns-then-is_present
returns-then-is_present c =
    let ps = c.args.left.now.items in
    let k = c.args.place in
    put_at ps k c.args.power c.requires
    ∙ ap (λ (b : Bool). take k ps ++ (cond b (c.args.power ∷ []) [] ++ drop (k + 1) ps)) (sym c.if-is_present.true ∙ c.is_present.ensures)

pub returns-else-is_present : goal.returns-else-is_present
returns-else-is_present c =
    let ps = c.args.left.now.items in
    let k = c.args.place in
    c.remove.ensures.by_index.2
    ∙ ap (λ (b : Bool). take k ps ++ (cond b (c.args.power ∷ []) [] ++ drop (k + 1) ps)) (sym c.if-is_present.false ∙ c.is_present.ensures)
