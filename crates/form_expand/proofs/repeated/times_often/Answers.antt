use Rattle.std.proofs.Common.{◌≡◌, ◌<◌, ap, sym, ◌∙◌, arith}
use Rattle.form_expand.specs.Often.{often}
use Rattle.form_expand.proofs.Repeating.{often_none, often_unmade}
use Rattle.form_expand.proofs.repeated.times_often.Goals as goal

pub loop-left-preserved : goal.loop-left-preserved
loop-left-preserved c =
    let t = c.args.term.now in
    let more : (often c.loop-left.front t c.loop-left.left ≡ often c.in-Ok-Made.made t c.in-Ok-Made.rest) × (c.in-Ok-Made.rest < c.loop-left.left) = rw c.in-Ok-Made.field-0-is at c.in-Ok-Made.ensures in
    sym more.0 ∙ c.loop-left.invariant

pub loop-left-smaller : goal.loop-left-smaller
loop-left-smaller c =
    let t = c.args.term.now in
    let more : (often c.loop-left.front t c.loop-left.left ≡ often c.in-Ok-Made.made t c.in-Ok-Made.rest) × (c.in-Ok-Made.rest < c.loop-left.left) = rw c.in-Ok-Made.field-0-is at c.in-Ok-Made.ensures in
    more.1

pub returns-in-Ok-Nothing : goal.returns-in-Ok-Nothing
returns-in-Ok-Nothing c = sym c.loop-left.invariant ∙ (rw c.in-Ok-Nothing.field-0-is at c.in-Ok-Nothing.ensures)

pub returns-in-Err : goal.returns-in-Err
returns-in-Err c =
    let t = c.args.term.now in
    often_unmade c.loop-left.front t c.loop-left.left c.in-Err.error (often c.args.front t c.args.times) c.in-Err.ensures c.loop-left.invariant

pub returns : goal.returns
returns c =
    let t = c.args.term.now in
    let none : c.loop-left.left ≡ 0 = omega (arith, c.loop-left-test.false) in
    sym c.loop-left.invariant ∙ ap (often c.loop-left.front t) none ∙ often_none c.loop-left.front t
