use Rattle.std.proofs.Common.{◌≡◌, Some, [], ◌∷◌, ◌++◌, rules}
use Rattle.std.proofs.lemmas.Bool.{OnTrue_at, OnTrue_from}
use Rattle.form_joined.specs.Adding.{behind, joined_of}
use Rattle.form_joined.specs.Products.{singles, times_each}
use Rattle.form_joined.proofs.Added.{of_parts}
use Rattle.form_joined.proofs.products.add_singles.Goals as goal

pub returns : goal.returns
returns c =
    let parts : c.args.list.now ≡ c.in-Some.others.now ++ c.in-Some.last.now ∷ [] = search rules in
    OnTrue_from c.in_ok-add_row.field-0 (behind c.args.made.now.items (times_each c.args.front (singles c.args.list.now)) ≡ Some c.add_row.new.made.items)
    (λ e. of_parts c.args.made.now.items c.add_row.new.made.items c.args.front (joined_of c.factor_of.result) c.args.list.now c.in-Some.others.now c.in-Some.last.now c.factor_of.ensures parts (OnTrue_at e c.in_ok-add_row.ensures))
