use Rattle.std.proofs.Common.{length, eqb-true, sym, ◌∙◌, arith}
use Rattle.std.proofs.lemmas.List.{nil_from_length}
use Rattle.form_expand.proofs.LiteralSums.{single_read, several_read}
use Rattle.form_expand.proofs.literal_sum.literal_list.Goals as goal

pub returns-then-is_empty : goal.returns-then-is_empty
returns-then-is_empty c =
    let rest = c.in-Some.rest.now in
    single_read c.args.limit c.args.names.now c.args.pieces.now rest c.in-Some.literal c.into_term-first.result (omega (arith, c.if-limit-eq0.false))
    (nil_from_length rest (eqb-true (length rest) 0 (sym c.is_empty.ensures ∙ c.if-is_empty.true))) (rw c.in-Some.is at c.in_ok-literal.ensures) c.into_term-first.ensures
    ∙ sym c.single.ensures

pub returns : goal.returns
returns c =
    several_read c.args.limit c.args.names.now c.list_behind.result c.args.pieces.now c.in-Some.rest.now c.in-Some.literal c.into_term-first.result (rw c.in-Some.is at c.in_ok-literal.ensures) c.into_term-first.ensures c.list_behind.ensures
