use Rattle.std.proofs.Common.{◌≡◌, [], eqb-true, vec_len, sym, ◌∙◌, arith}
use Rattle.std.proofs.lemmas.List.{nil_from_length}
use Rattle.form_expand.proofs.Leveled.{none_wait, product_begins}
use Rattle.form_expand.proofs.product.Product.behind.Goals as goal

pub returns-then-is_empty : goal.returns-then-is_empty
returns-then-is_empty c = λ max some.
    let levels = c.in_ok-levels.levels in
    let none : levels.items ≡ [] = nil_from_length levels.items (omega (arith, levels.ok.0, eqb-true (vec_len levels) 0 (sym c.is_empty.ensures ∙ c.if-is_empty.true))) in
    none_wait max c.args.front c.args.lists.items levels.items none c.requires (c.in_ok-levels.ensures max)

pub returns : goal.returns
returns c = λ max some.
    rw c.open.ensures.place (product_begins max c.args.front c.args.lists.items c.in_ok-levels.levels.items c.open.new.self.levels.items some (c.in_ok-levels.ensures max) c.open.ensures.begun)
