use Rattle.std.proofs.Common.{not, ap, ◌∙◌, rules}
use Rattle.std.specs.List.{filter}
use Rattle.std.proofs.lemmas.List.Elements.{filter_from_retain}
use Rattle.form_term.specs.declared.index.Delta.{Delta}
use Rattle.form_term.specs.TermLaws.{deltas_equal}
use Rattle.form_normal.specs.Product.{is_one}
use Rattle.form_normal.proofs.anew.open_in_order.Goals as goal

pub sorted-all-requires : goal.sorted-all-requires
sorted-all-requires c = deltas_equal

pub returns : goal.returns
returns c = filter_from_retain _ (λ (d : Delta). not (is_one d)) (λ p x b q k. search rules) _ c.sorted-all.result.items c.retain.new.self.items c.retain.ensures.filtered ∙ ap (filter (λ (d : Delta). not (is_one d))) c.sorted-all.ensures
