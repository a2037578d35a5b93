use Rattle.std.proofs.Common.{arith, sym, ◌∙◌}
use Rattle.form_collect.specs.Keys.{key_of}
use Rattle.form_collect.proofs.Digits.{key_begun, next_fits, next_absent, next_there, key_whole}
use Rattle.form_collect.proofs.sorting.key_of.Goals.{then-digit-ne-ZERO, else-digit-ne-ZERO}
use Rattle.form_collect.proofs.sorting.key_of.Goals as goal

pub loop-left-init : goal.loop-left-init
loop-left-init c =
    let first = c.args.first in
    let begun = key_begun first c.args.term.now (omega (arith, c.ranges)) c.requires c.powers-rest.ensures.lawful.present in
    rw (c.from-symbol.ensures, c.powers-rest.ensures.powers, c.first_digit-key.ensures) begun

pub with_digit-key-requires : goal.with_digit-key-requires
with_digit-key-requires c =
    let l = c.loop-left in
    rw c.digit_at-digit.ensures (next_fits (key_of c.args.first c.args.term.now) l.left l.symbol l.rest.now l.is_open l.key (omega (arith, c.loop-left-test.true)) l.invariant)

pub loop-left-preserved : goal.loop-left-preserved
loop-left-preserved c =
    let l = c.loop-left in
    elim c.if-digit-ne-ZERO.branch [
      | then-digit-ne-ZERO w ↦ rw (w.rest-is, w.is_open-is, w.is_told_too-is_open.ensures, w.behind-rest.ensures, c.with_digit-key.ensures, c.digit_at-digit.ensures)
          (next_there (key_of c.args.first c.args.term.now) l.left l.symbol l.rest.now l.is_open l.key (omega (arith, c.loop-left-test.true)) l.invariant (λ e. w.if-digit-ne-ZERO.true (c.digit_at-digit.ensures ∙ e)))
      | else-digit-ne-ZERO w ↦ rw (w.rest-is, w.is_open-is, c.with_digit-key.ensures, c.digit_at-digit.ensures)
          (next_absent (key_of c.args.first c.args.term.now) l.left l.symbol l.rest.now l.is_open l.key (omega (arith, c.loop-left-test.true)) l.invariant (sym c.digit_at-digit.ensures ∙ w.if-digit-ne-ZERO.false))
    ]

pub returns : goal.returns
returns c =
    let l = c.loop-left in
    key_whole (key_of c.args.first c.args.term.now) l.left l.symbol l.rest.now l.is_open l.key (omega (arith, c.loop-left-test.false)) l.invariant
