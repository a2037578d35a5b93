use Rattle.std.proofs.Common.{◌≡◌, ℕ, List, subst, arith, rules}
use Rattle.form_gathered.specs.declared.joined.JoinedTerm.{JoinedTerm}
use Rattle.form_sides.specs.Products.{HavePairs, HavePower}
use Rattle.form_sides.proofs.Pairing.{first_power, next_power}
use Rattle.form_sides.proofs.products.several.Goals as goal

pub loop-made-init : goal.loop-made-init
loop-made-init c = record {
  some = omega arith;
  list = first_power c.args.limit c.args.list.items c.in_ok-front.front.items (search rules) c.requires.few;
}

pub loop-made-preserved : goal.loop-made-preserved
loop-made-preserved c =
    let fronts = c.loop-made.front.items in
    let made : HavePairs c.args.limit fronts c.args.list.items c.in-Some.more.items =
    subst (λ (js : List JoinedTerm). HavePairs c.args.limit fronts js c.in-Some.more.items) (search rules) (rw c.in-Some.is at c.in_ok-more.ensures) in
    record {
      some = omega (arith, c.loop-made.invariant.some);
      list = next_power c.args.limit c.loop-made._made c.args.list.items fronts c.in-Some.more.items c.loop-made.invariant.some c.loop-made.invariant.list made;
    }

pub returns : goal.returns
returns c =
    let all : c.loop-made._made ≡ c.args.power = omega (arith, c.loop-made-test.false, c.loop-made.auto._made-end, c.requires.some) in
    subst (λ (n : ℕ). HavePower c.args.limit c.args.list.items n c.loop-made.front.items) all c.loop-made.invariant.list
