use Rattle.std.proofs.Common.{◌≡◌, true, ℤ, SFits, to_z-of_z, rules, sym, subst, ◌∙◌}
use Rattle.std.specs.Int.{w32, w128}
use Rattle.form_expand.specs.Often.{is_kept, reached}
use Rattle.form_expand.proofs.Raising.{kept_parts}
use Rattle.form_expand.proofs.repeated.kept.Goals as goal

pub as_exponent-requires : goal.as_exponent-requires
as_exponent-requires c =
    let e : SFits w32 c.args.exponent = search rules in
    let n : SFits w128 c.in_ok-end.end = search rules in
    let kept = sym c.is_kept.ensures ∙ c.if-not-is_kept.false in
    rw (to_z-of_z n) (kept_parts c.args.exponent c.in_ok-end.end (rw (to_z-of_z e, to_z-of_z n) at kept)).0.1

pub returns : goal.returns
returns c =
    let e : SFits w32 c.args.exponent = search rules in
    let s : SFits w32 c.args.step = search rules in
    let n : SFits w128 c.in_ok-end.end = search rules in
    let r : SFits w32 c.as_exponent.result = search rules in
    let is : c.in_ok-end.end ≡ reached c.args.exponent c.args.step c.args.count = rw (to_z-of_z e, to_z-of_z s) at c.in_ok-end.ensures in
    let kept : is_kept c.args.exponent c.in_ok-end.end ≡ true = rw (to_z-of_z e, to_z-of_z n) at (sym c.is_kept.ensures ∙ c.if-not-is_kept.false) in
    (to_z-of_z r ∙ (rw (to_z-of_z n) at c.as_exponent.ensures) ∙ is, subst (λ (end : ℤ). is_kept c.args.exponent end ≡ true) is kept)
