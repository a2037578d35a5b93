use Rattle.std.proofs.Common.{◌≡◌, ◌∙◌, ◌++◌, ◌∷◌, [], ap, SFits, to_z-of_z, rules}
use Rattle.std.specs.Int.{w128}
use Rattle.std.specs.Fmt.{signed_decimal}
use Rattle.std.proofs.lemmas.Result.{err_from_is_err_and}
use Rattle.form_preproc.proofs.Calculations.{goes_on_known, goes_on_kept, stops_unknown}
use Rattle.form_preproc.proofs.braces.append_closed.Goals as goal

pub returns-in_err-number-in-Some : goal.returns-in_err-number-in-Some
returns-in_err-number-in-Some c = λ rest.
    let p = err_from_is_err_and c.from_residual.result c.from_residual.ensures.1 in
    rw (p.1, p.2) (stops_unknown c.args.done.now c.args.done.now c.args.before.now c.in-Some.outside.now c.in-Some.inside.now rest c.in_err-number-in-Some.field-0.0 c.requires c.in-Some.ensures c.in_err-number-in-Some.ensures)

pub returns-in_ok-append_number-in-Some : goal.returns-in_ok-append_number-in-Some
returns-in_ok-append_number-in-Some c = λ rest.
    let n : SFits w128 c.in_ok-number-in-Some.number = search rules in
    let made : c.append_number.new.text ≡ c.append.new.self ++ signed_decimal c.in_ok-number-in-Some.number = rw (to_z-of_z n) at c.in_ok-append_number-in-Some.ensures in
    goes_on_known _ c.args.done.now c.append_number.new.text c.args.before.now c.in-Some.outside.now c.in-Some.inside.now rest c.in_ok-number-in-Some.number c.requires c.in-Some.ensures c.in_ok-number-in-Some.ensures
    (made ∙ ap (λ t. t ++ signed_decimal c.in_ok-number-in-Some.number) c.in_ok-append-in-Some.ensures)

pub returns-in_ok-push-in-None : goal.returns-in_ok-push-in-None
returns-in_ok-push-in-None c = λ rest.
    goes_on_kept _ c.args.done.now c.push.new.self c.args.before.now rest c.in-None.ensures (c.in_ok-push-in-None.ensures ∙ ap (λ t. t ++ 125 ∷ []) c.in_ok-append-in-None.ensures)
