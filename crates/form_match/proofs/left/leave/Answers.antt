use Rattle.std.proofs.Common.{◌≡◌, ◌+◌, ◌-◌, ◌<◌, drop, length, rules, sym, ◌∙◌, arith}
use Rattle.std.specs.Vec.{vec_len}
use Rattle.form_match.specs.Taken.{takes_thing}
use Rattle.form_match.proofs.Backwards.{lies_within}
use Rattle.form_match.proofs.Remaining.{kept_back, untaken_from}
use Rattle.form_match.proofs.left.leave.Goals as goal

pub remove-requires : goal.remove-requires
remove-requires g c =
    let cs = c.args.things.now.items in
    let m = c.loop-place.place in
    let one : m ≡ (m - 1) + 1 = omega (arith, c.loop-place-test.true) in
    let within : m - 1 < length cs = omega (arith, one, c.loop-place.invariant.within) in
    let all : vec_len c.loop-place.things ≡ length c.loop-place.things.items = search rules in
    let there = lies_within cs c.loop-place.things.items (untaken_from m (takes_thing c.args.of) c.args.takes.now (drop m cs)) m (m - 1) one within c.loop-place.invariant.made in
    omega (arith, all, there)

pub loop-place-preserved : goal.loop-place-preserved
loop-place-preserved g c =
    let cs = c.args.things.now.items in
    let m = c.loop-place.place in
    let one : m ≡ (m - 1) + 1 = omega (arith, c.loop-place-test.true) in
    let within : m - 1 < length cs = omega (arith, one, c.loop-place.invariant.within) in
    record {
      within = omega (arith, within);
      made = kept_back (takes_thing c.args.of) c.args.takes.now cs c.loop-place.things.items m (m - 1) one within c.loop-place.invariant.made (sym c.if-is_taken.false ∙ c.is_taken.ensures);
    }
