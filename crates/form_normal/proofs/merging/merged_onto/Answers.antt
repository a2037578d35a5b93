use Rattle.std.proofs.Common.{length, eqb-true, sym, ◌∙◌}
use Rattle.std.proofs.lemmas.List.{nil_from_length}
use Rattle.form_normal.proofs.Powers.{none_merged}
use Rattle.form_normal.proofs.merging.merged_onto.Goals as goal

pub returns-then-is_empty : goal.returns-then-is_empty
returns-then-is_empty c =
    let none = nil_from_length c.args.more.now (eqb-true (length c.args.more.now) 0 (sym c.is_empty.ensures ∙ c.if-is_empty.true)) in
    none_merged c.args.powers.items c.args.more.now c.requires.left.rising c.requires.left.present none
