use Rattle.std.proofs.Common.{◌≡◌, ◌+◌, ◌-◌, ◌<◌, drop, length, sym, ◌∙◌, arith}
use Rattle.form_match.specs.Left.{powers_left}
use Rattle.form_match.proofs.Backwards.{seen}
use Rattle.form_match.proofs.Remaining.{powers_back}
use Rattle.form_match.proofs.Staying.{powers_stay}
use Rattle.form_match.proofs.left.powers_left.Goals as goal

pub returns-then-not-takes_symbol : goal.returns-then-not-takes_symbol
returns-then-not-takes_symbol c =
    sym (powers_stay c.args.takes.now c.args.powers.items (sym c.takes_symbol.ensures ∙ c.if-not-takes_symbol.true) c.requires.present)

pub lowered_power-lowered-requires-clause-fits : goal.lowered_power-lowered-requires-clause-fits
lowered_power-lowered-requires-clause-fits c =
    let ps = c.args.powers.items in
    let m = c.loop-place.place in
    let one : m ≡ (m - 1) + 1 = omega (arith, c.loop-place-test.true) in
    let within : m - 1 < length ps = omega (arith, one, c.loop-place.invariant.within) in
    c.requires.fits (m - 1) c.index.result.now within
    (c.index.ensures ∙ seen ps c.loop-place.left.items (powers_left c.args.takes.now (drop m ps)) m (m - 1) one within c.loop-place.invariant.made c.index.result.now)

pub loop-place-preserved : goal.loop-place-preserved
loop-place-preserved c =
    let ps = c.args.powers.items in
    let m = c.loop-place.place in
    let one : m ≡ (m - 1) + 1 = omega (arith, c.loop-place-test.true) in
    let within : m - 1 < length ps = omega (arith, one, c.loop-place.invariant.within) in
    record {
      within = omega (arith, within);
      made = powers_back c.args.takes.now ps c.loop-place.left.items c.put_power.new.left.items m (m - 1) c.index.result.now c.lowered_power-lowered.result one within c.loop-place.invariant.made
          c.index.ensures c.lowered_power-lowered.ensures c.put_power.ensures;
    }
