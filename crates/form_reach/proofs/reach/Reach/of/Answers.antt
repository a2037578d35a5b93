use Rattle.std.proofs.Common.{◌≡◌, max, rules, arith, le_trans, nat_abs}
use Rattle.std.specs.Prelude.{sum_by}
use Rattle.form_term.specs.declared.power.Power.{Power}
use Rattle.form_term.specs.declared.power.DotPower.{DotPower}
use Rattle.form_reach.proofs.Reaching.{dots_sum, exponent_under}
use Rattle.form_reach.proofs.reach.Reach.of.Goals as goal

pub returns : goal.returns
returns c =
    let powers : c.in_ok-powers.powers ≡ sum_by (λ (p : Power). nat_abs p.exponent) c.args.term.now.symbols = search rules in
    let dots : c.in_ok-dots.dots ≡ sum_by (λ (d : DotPower). nat_abs d.exponent) c.args.term.now.others.dots = search rules in
    let all : c.max.result ≡ max c.in_ok-powers.powers c.in_ok-dots.dots = search rules in
    λ coefficient under. record {
      lawful = search rules;
      symbols = λ symbol. let one = exponent_under c.args.term.now.symbols symbol in omega (arith, one, powers, all);
      dots = let one = dots_sum c.args.term.now.others.dots in omega (arith, one, dots, all);
      small = search rules;
      coefficient = under;
    }
