use Rattle.std.proofs.Common.{◌∷◌, ap, ◌∙◌, arith}
use Rattle.form_match.proofs.Onward.{candidate_here, ending_less, ending_on, len_within, none_less, none_on, place_small, rest_lawful, underway_as}
use Rattle.form_match.proofs.arguments.arguments.Goals as goal

pub argument_len-requires : goal.argument_len-requires
argument_len-requires c =
    let u = c.loop-piece.invariant in
    record {
      lawful = rest_lawful u;
      candidate = candidate_here u c.in-Some.piece.now c.in-Some.behind.now c.in-Some.ensures.cases.0;
      no_end = c.in_default-piece.not-EndOfArguments;
      no_product = c.in_default-piece.not-Product;
    }

pub end_of_arguments-requires-clause-place : goal.end_of_arguments-requires-clause-place
end_of_arguments-requires-clause-place c = place_small c.loop-piece.invariant

pub returns-in-EndOfArguments-clause-goes_on : goal.returns-in-EndOfArguments-clause-goes_on
returns-in-EndOfArguments-clause-goes_on c =
    ending_on c.loop-piece.invariant c.in-Some.behind.now (c.in-Some.ensures.cases.0 ∙ ap (λ p. p ∷ c.in-Some.behind.now) c.in-EndOfArguments.is) c.end_of_arguments.result c.end_of_arguments.ensures

pub returns-in-EndOfArguments-clause-less : goal.returns-in-EndOfArguments-clause-less
returns-in-EndOfArguments-clause-less c =
    ending_less c.loop-piece.invariant c.in-Some.behind.now (c.in-Some.ensures.cases.0 ∙ ap (λ p. p ∷ c.in-Some.behind.now) c.in-EndOfArguments.is) c.end_of_arguments.result c.end_of_arguments.ensures

pub returns-in_default-taken : goal.returns-in_default-taken
returns-in_default-taken c =
    let u = c.loop-piece.invariant in
    let taken = rw c.in_default-taken.is at c.in_ok-taken-in_default-piece.ensures in
    let is = c.in-Some.ensures.cases.0 in
    record {
      goes_on = none_on u c.in-Some.piece.now c.in-Some.behind.now is c.argument_len.new.trail taken;
      less = none_less u c.in-Some.piece.now c.in-Some.behind.now is c.argument_len.new.trail taken;
    }

pub without-left-requires : goal.without-left-requires
without-left-requires c =
    let u = c.loop-piece.invariant in
    let within = len_within u c.in-Some.piece.now c.in-Some.behind.now c.in-Some.ensures.cases.0 c.argument_len.new.trail c.in-Some-taken.len (rw c.in-Some-taken.is at c.in_ok-taken-in_default-piece.ensures) in
    omega (arith, within, u.small)

pub split_at-requires : goal.split_at-requires
split_at-requires c =
    let u = c.loop-piece.invariant in
    len_within u c.in-Some.piece.now c.in-Some.behind.now c.in-Some.ensures.cases.0 c.argument_len.new.trail c.in-Some-taken.len (rw c.in-Some-taken.is at c.in_ok-taken-in_default-piece.ensures)

pub loop-piece-preserved : goal.loop-piece-preserved
loop-piece-preserved c =
    underway_as c.loop-piece.invariant c.in-Some.piece.now c.in-Some.behind.now c.in-Some.ensures.cases.0 c.argument_len.new.trail c.in-Some-taken.len
    (rw c.in-Some-taken.is at c.in_ok-taken-in_default-piece.ensures) c.without-left.result c.ahead-now.result c.split_at.result.1.now c.without-left.ensures c.ahead-now.ensures c.split_at.ensures.back
