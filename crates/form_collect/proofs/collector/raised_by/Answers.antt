use Rattle.std.proofs.Common.{◌≡◌, Option, sym, ap, ◌∙◌, rules}
use Rattle.std.specs.Option.{ok_or}
use Rattle.form_frac.specs.Fraction.{Fraction, add}
use Rattle.form_frac.specs.declared.frac_error.FracError.TheVariants.{Overflow}
use Rattle.form_collect.proofs.Zero.{zero_add}
use Rattle.form_collect.proofs.collector.raised_by.Goals as goal

pub returns-then-eq : goal.returns-then-eq
returns-then-eq c =
    let same : c.args.sum ≡ c.zero.result = search rules in
    let all = ap (λ (f : Fraction). add f c.args.coefficient) (same ∙ c.zero.ensures) ∙ zero_add c.args.coefficient c.requires in
    sym (ap (λ (o : Option Fraction). ok_or o Overflow) all)
