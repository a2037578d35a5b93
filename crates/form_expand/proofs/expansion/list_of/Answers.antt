use Rattle.std.proofs.Common.{◌≡◌, sym, ◌∙◌}
use Rattle.std.proofs.lemmas.Result.{IfOk-weaker}
use Rattle.form_expand.specs.Kept.{listing}
use Rattle.form_expand.specs.Reading.{list_of_pieces}
use Rattle.form_expand.proofs.expansion.list_of.Goals as goal

pub returns-in-Some : goal.returns-in-Some
returns-in-Some c = sym (rw c.in-Some.is at c.in_ok-whole.ensures)

pub returns : goal.returns
returns c =
    let list = list_of_pieces c.args.limit c.args.names.now c.args.pieces.now in
    IfOk-weaker c.drained.result _ (λ whole. listing whole ≡ list)
    (λ whole made. made ∙ (rw (c.new.ensures.limit, c.new.ensures.names) at c.new-stream.ensures.pieces))
    c.drained.ensures
