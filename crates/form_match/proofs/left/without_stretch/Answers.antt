use Rattle.std.proofs.Common.{◌≡◌, ℕ, ◌≤◌, ◌<◌, ◌+◌, ◌++◌, length, take, drop, rules, ap, ◌∙◌, arith}
use Rattle.std.specs.Vec.{vec_len}
use Rattle.form_match.proofs.Shortened.{all_gone, none_gone, one_gone}
use Rattle.form_match.proofs.left.without_stretch.Goals as goal

pub loop-gone-init : goal.loop-gone-init
loop-gone-init c = (omega arith, none_gone c.args.word.items c.args.start)

pub returns-then-length-start : goal.returns-then-length-start
returns-then-length-start c =
    let left = c.loop-gone.left.items in
    let all : vec_len c.loop-gone.left ≡ length left = search rules in
    let short : length left ≤ c.args.start = omega (arith, all, c.if-length-start.true) in
    all_gone c.args.word.items c.args.start c.loop-gone.gone left c.loop-gone.invariant.1 short c.args.count c.loop-gone.invariant.0

pub loop-gone-preserved : goal.loop-gone-preserved
loop-gone-preserved c =
    let left = c.loop-gone.left.items in
    let all : vec_len c.loop-gone.left ≡ length left = search rules in
    let there : c.args.start < length left = omega (arith, all, c.if-length-start.false) in (
      omega (arith, c.loop-gone-test.true),
      one_gone c.args.word.items c.args.start c.loop-gone.gone left c.loop-gone.invariant.1 there c.remove.new.self.items c.remove.ensures.by_index.2,
    )

pub returns : goal.returns
returns c =
    let w = c.args.word.items in
    let same : c.loop-gone.gone ≡ c.args.count = omega (arith, c.loop-gone-test.false, c.loop-gone.invariant.0) in
    c.loop-gone.invariant.1 ∙ ap (λ (k : ℕ). take c.args.start w ++ drop (c.args.start + k) w) same
