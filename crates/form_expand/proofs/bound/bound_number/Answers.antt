use Rattle.std.proofs.Common.{◌≡◌, [], ◌∷◌, w32, to_z, sym, ap, ◌∙◌}
use Rattle.std.proofs.lemmas.Int.{to_z-of_z}
use Rattle.std.specs.Prelude.{pos, Some, option_map}
use Rattle.form_normal.specs.Product.{number_alone}
use Rattle.form_expand.specs.Meanings.{terms_at, terms_bound}
use Rattle.form_expand.proofs.LiteralCalls.{wild_number}
use Rattle.form_expand.proofs.bound.bound_number.Goals as goal

pub returns : goal.returns
returns c =
    let all = c.args.names.now in
    let number = c.in-Some-number_in.number in
    let once : c.args.power ≡ pos 1 = sym (to_z-of_z w32 c.args.power c.ranges.power) ∙ ap (to_z w32) c.if-power-ne1.false in
    let bound : terms_bound all c.args.symbol ≡ Some (number_alone number ∷ []) = ap (option_map terms_at) (sym c.in-Some.ensures.found) ∙ ap Some c.in-Some-number_in.ensures.terms in
    (wild_number all c.args.symbol c.args.is_over c.args.power number c.if-is_over.false once bound, c.in-Some-number_in.ensures.lowest)
