use Rattle.std.proofs.Common.{◌≡◌, None, sym, ◌∙◌, rules}
use Rattle.std.proofs.lemmas.Result.{IfOk-weaker}
use Rattle.form_expand.specs.Kept.{listing}
use Rattle.form_expand.specs.Singles.{list_of_call}
use Rattle.form_sides.specs.Arguments.{HasPowers}
use Rattle.form_sides.proofs.OnePiece.{done_list}
use Rattle.form_sides.proofs.Arguing.{called_of}
use Rattle.form_sides.proofs.Pairing.{singles_have}
use Rattle.form_sides.proofs.sums.called.Goals as goal

pub returns : goal.returns
returns c =
    let max = c.args.limit in
    let list = list_of_call c.args.is_commuting c.args.call in
    let whole = listing c.in_ok-whole.whole in
    let js = c.in_ok-singles_of.field-0.items in
    let done : whole.end ≡ None = search rules in
    let has = singles_have c.terms.result.now list js (search rules) (sym c.in_ok-whole.ensures ∙ done_list whole c.terms.result.now done c.terms.ensures) c.joined_singles.ensures in
    IfOk-weaker c.powered.result _ (HasPowers max list c.args.power c.args.rest.now) (called_of max c.args.power c.args.rest.now list js has) c.powered.ensures
