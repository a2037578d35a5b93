use Rattle.std.proofs.Common.{◌≡◌, ◌+◌, ◌-◌, [], ◌∷◌, ◌++◌, length, drop, get_or, suc, eqb-true, refl, sym, ap, subst, ◌∙◌, arith, rules, true≢false}
use Rattle.std.proofs.lemmas.List.{get_or_read, nil_from_length}
use Rattle.std.proofs.lemmas.Result.{err_from_is_err_and}
use Rattle.std.specs.Prelude.{Option, Some, None, Ok, Err, IfOk, map, option_to_list, replicate, vec_len}
use Rattle.form_term.specs.declared.monomial.Monomial.{Monomial}
use Rattle.form_term.specs.Term.{index, vector, pieces_of_argument}
use Rattle.form_expand.specs.Calls.{called}
use Rattle.form_expand.specs.Factors.{IsShortPower, factor_lists}
use Rattle.form_expand.specs.Inner.{Inner}
use Rattle.form_expand.specs.Kept.{listing}
use Rattle.form_expand.specs.Left.{times_by}
use Rattle.form_expand.specs.Bound.{powered, powered_by, with_power}
use Rattle.form_expand.specs.Listing.{Listing, nothing, single, refusal, limited, followed, powers, signed}
use Rattle.form_expand.specs.Lists.{list_whole}
use Rattle.form_expand.specs.Pieces.{listed_alone}
use Rattle.form_expand.specs.Products.{IsTaken, level_left, level_of, product_left}
use Rattle.form_expand.specs.Readers.{list_of_calling}
use Rattle.form_expand.specs.Reading.{in_sum, in_function, fresh, calling, list_of_pieces}
use Rattle.form_expand.specs.Singles.{argument_of}
use Rattle.form_expand.specs.Streams.{stream_left, stream_before}
use Rattle.form_expand.specs.declared.stream.Stream.{Stream}
use Rattle.form_expand.specs.declared.walk.Walk.{Walk}
use Rattle.form_expand.proofs.Behind.{limited_pieces, read_none}
use Rattle.form_expand.proofs.Called.{some_from, list_called, index_read, vector_read, field_read, opens, none_opened, none_argued, argument_passed, argument_begun, expression_ended, expression_read, expression_refused, none_taken, one_taken, collected_all, refused_argument, one_called, one_refused}
use Rattle.form_expand.proofs.Draining.{drained_none, drained_more, drained_done, drained_refused}
use Rattle.form_expand.proofs.Leveled.{changed_length, changed_set, closed_less, opened_less, product_closed, product_gives, product_opened, product_past, product_unmade}
use Rattle.form_expand.proofs.Parenthesized.{ends_within, read_unended, read_ended, drop_next}
use Rattle.form_expand.proofs.Factored.{copies_more, same_then}
use Rattle.form_expand.proofs.Filling.{front_alone, gone_power, power_none, power_once, powers_row, put_alone, put_as, put_at, put_begun, put_first, put_same, short_whole, some_short}
use Rattle.form_expand.proofs.ReadFactors.{begins_some, function_put, function_read, function_unended, nothing_read, piece_kept, piece_put, piece_sum, product_read, read_next, signed_none, sum_alone, sum_put, sum_unended}
use Rattle.form_expand.proofs.Rows.{none_powered}
use Rattle.form_expand.proofs.Streamed.{stream_front, stream_past, stream_read, gives_from, gives_err_from, stream_ungiven, stream_on, stream_done}
use Rattle.form_expand.proofs.Taking.{gives_times_err, gives_unmade, lessens_given, times_by_end, times_by_made, times_by_zero, takes_one_to, takes_over, takes_none, takes_ungiven}
use Rattle.form_expand.proofs.+taking.Goals as goal

pub product::Level::take-returns-in_err-term : goal.product::Level::take-returns-in_err-term
product::Level::take-returns-in_err-term t c =
    let l = c.args.self.now in
    let old = level_of c.args.limit l in
    let new = level_of c.args.limit (record { list = c.next_times.new.self; left = c.next_times.new.left; count = l.count }) in
    let p = err_from_is_err_and c.from_residual.result c.from_residual.ensures.1 in
    rw (p.1, p.2) (record { next = takes_ungiven c.args.limit old new (c.in_err-term.field-0.0) new.opened c.in_err-term.ensures.next; fewer = tt; whole = tt })

pub product::Level::take-returns-in_default : goal.product::Level::take-returns-in_default
product::Level::take-returns-in_default t c =
    let l = c.args.self.now in
    let old = level_of c.args.limit l in
    let new = level_of c.args.limit (record { list = c.next_times.new.self; left = c.next_times.new.left; count = l.count }) in
    let gave = rw c.in_default.is at c.in_ok-term.ensures.next in
    record { next = takes_none c.args.limit old new gave.0 refl c.in_ok-term.ensures.whole; fewer = tt; whole = c.in_ok-term.ensures.whole }

pub product::Level::take-returns-then-self-limit : goal.product::Level::take-returns-then-self-limit
product::Level::take-returns-then-self-limit t c =
    let l = c.args.self.now in
    let old = level_of c.args.limit l in
    let new = level_of c.args.limit (record { list = c.next_times.new.self; left = c.next_times.new.left; count = l.count }) in
    let gave = rw c.in-Some.is at c.in_ok-term.ensures.next in
    record { next = takes_over c.args.limit old c.in-Some.term new.opened new (omega (arith, c.if-self-limit.true)) gave; fewer = tt; whole = tt }

pub product::Level::take-returns : goal.product::Level::take-returns
product::Level::take-returns t c =
    let l = c.args.self.now in
    let old = level_of c.args.limit l in
    let new = level_of c.args.limit (record { list = c.next_times.new.self; left = c.next_times.new.left; count = l.count + 1 }) in
    let gave = rw c.in-Some.is at c.in_ok-term.ensures.next in
    record {
      next = takes_one_to c.args.limit old c.in-Some.term new (omega (arith, c.if-self-limit.false)) gave refl c.in_ok-term.ensures.whole;
      fewer = lessens_given (Ok (Some c.in-Some.term)) (level_left c.args.limit l) ((level_of c.args.limit (record { list = c.next_times.new.self; left = c.next_times.new.left; count = l.count })).opened) gave;
      whole = c.in_ok-term.ensures.whole;
    }

pub product::Product::take-returns-clause-taken : goal.product::Product::take-returns-clause-taken
product::Product::take-returns-clause-taken t c =
    let levels = c.args.self.now.levels.items in
    let place = c.args.self.now.place in
    let level = c.index_mut.result.now in
    let read : level ≡ get_or levels place level = get_or_read levels place level c.requires c.index_mut.ensures.value level in
    changed_set (IsTaken c.args.limit c.take.result) place levels level c.take.new.self c.requires read c.take.ensures

pub product::Product::next-returns-in_err-made : goal.product::Product::next-returns-in_err-made
product::Product::next-returns-in_err-made t c =
    let product = c.levels.self in
    let p = err_from_is_err_and c.from_residual.result c.from_residual.ensures.1 in
    rw (p.1, p.2) (product_unmade c.args.limit (c.in_err-made.field-0.0) product.place product.levels.items c.take.new.self.levels.items (product_left c.args.limit c.args.self.now) (product_left c.args.limit c.take.new.self) c.in_err-made.ensures.taken c.levels.invariant)

pub product::Product::next-levels-preserved-in_default : goal.product::Product::next-levels-preserved-in_default
product::Product::next-levels-preserved-in_default t c =
    let product = c.levels.self in
    let taken = rw c.in_default.is at c.in_ok-made.ensures.taken in
    product_closed c.args.limit product.place c.close.new.self.place product.levels.items c.take.new.self.levels.items c.close.new.self.levels.items taken (rw c.take.ensures.place at c.close.ensures) ∙ c.levels.invariant

pub product::Product::next-levels-smaller-in_default : goal.product::Product::next-levels-smaller-in_default
product::Product::next-levels-smaller-in_default t c =
    let product = c.levels.self in
    let taken = rw c.in_default.is at c.in_ok-made.ensures.taken in
    closed_less c.args.limit product.place c.close.new.self.place product.levels.items c.take.new.self.levels.items c.close.new.self.levels.items taken (rw c.take.ensures.place at c.close.ensures)

pub product::Product::next-open-requires : goal.product::Product::next-open-requires
product::Product::next-open-requires t c =
    let product = c.levels.self in
    let long = changed_length (IsTaken c.args.limit c.take.result) product.place product.levels.items c.take.new.self.levels.items c.take.ensures.taken in
    omega (arith, long, c.take.ensures.place, product.levels.ok.0, c.take.new.self.levels.ok.0, c.levels-test.true, c.if-self-len.false)

pub product::Product::next-levels-preserved : goal.product::Product::next-levels-preserved
product::Product::next-levels-preserved t c =
    let product = c.levels.self in
    let taken = rw c.in-Some.is at c.in_ok-made.ensures.taken in
    let at : c.take.new.self.place + 1 ≡ suc product.place = omega (arith, c.take.ensures.place) in
    rw c.open.ensures.place (product_opened c.args.limit c.in-Some.made product.place (c.take.new.self.place + 1) product.levels.items c.take.new.self.levels.items c.open.new.self.levels.items taken at c.open.ensures.begun) ∙ c.levels.invariant

pub product::Product::next-levels-smaller : goal.product::Product::next-levels-smaller
product::Product::next-levels-smaller t c =
    let product = c.levels.self in
    let taken = rw c.in-Some.is at c.in_ok-made.ensures.taken in
    let at : c.take.new.self.place + 1 ≡ suc product.place = omega (arith, c.take.ensures.place) in
    rw c.open.ensures.place (opened_less c.args.limit c.in-Some.made product.place (c.take.new.self.place + 1) product.levels.items c.take.new.self.levels.items c.open.new.self.levels.items taken at c.open.ensures.begun)

pub product::Product::next-returns-then-self-len : goal.product::Product::next-returns-then-self-len
product::Product::next-returns-then-self-len t c =
    let product = c.levels.self in
    let taken = rw c.in-Some.is at c.in_ok-made.ensures.taken in
    let long = changed_length (IsTaken c.args.limit c.take.result) product.place product.levels.items c.take.new.self.levels.items c.take.ensures.taken in
    let last : suc product.place ≡ length product.levels.items = omega (arith, long, c.take.ensures.place, c.take.new.self.levels.ok.0, c.if-self-len.true) in
    rw c.take.ensures.place (sym c.levels.invariant ∙ product_gives c.args.limit c.in-Some.made product.place product.levels.items c.take.new.self.levels.items nothing taken last)

pub product::Product::next-returns : goal.product::Product::next-returns
product::Product::next-returns t c =
    let product = c.levels.self in
    let none = product_past c.args.limit product.place product.levels.items nothing (omega (arith, product.levels.ok.0, c.levels-test.false)) in
    (sym c.levels.invariant ∙ none, none)

pub again::Again::next_times-returns-in_err-term-clause-next : goal.again::Again::next_times-returns-in_err-term-clause-next
again::Again::next_times-returns-in_err-term-clause-next t c =
    let s = c.turns.self-inside.stream in
    let left = c.args.left.now in
    let e = err_from_is_err_and c.from_residual.result c.from_residual.ensures.1 in
    let start = ap (λ (i : Inner). times_by left i.left) (sym c.self.view_is) ∙ sym c.turns.invariant.left in
    rw (e.1, e.2) (gives_err_from (c.in_err-term.field-0.0) (times_by left c.args.self.now.left) (times_by left (stream_left s)) (stream_left c.next.new.self) _ start
    (gives_times_err left (c.in_err-term.field-0.0) (stream_left s) (stream_left c.next.new.self) (stream_left c.next.new.self) c.in_err-term.ensures.next))

pub again::Again::next_times-returns-in_default-2-clause-next : goal.again::Again::next_times-returns-in_default-2-clause-next
again::Again::next_times-returns-in_default-2-clause-next t c =
    let left = c.args.left.now in
    let start = ap (λ (i : Inner). times_by left i.left) (sym c.self.view_is) ∙ sym c.turns.invariant.left in
    let gave = rw c.in_default-2.is at c.in_ok-term.ensures.next in
    (start ∙ ap (times_by left) gave.0 ∙ times_by_end left None, ap (times_by left) gave.1 ∙ times_by_end left None)

pub again::Again::next_times-returns-in_err-made-clause-next : goal.again::Again::next_times-returns-in_err-made-clause-next
again::Again::next_times-returns-in_err-made-clause-next t c =
    let s = c.turns.self-inside.stream in
    let left = c.args.left.now in
    let start = ap (λ (i : Inner). times_by left i.left) (sym c.self.view_is) ∙ sym c.turns.invariant.left in
    let gave = rw c.in-Some-2.is at c.in_ok-term.ensures.next in
    let e = err_from_is_err_and c.from_residual-in_err-made.result c.from_residual-in_err-made.ensures.1 in
    rw (e.1, e.2) (gives_err_from (c.in_err-made.field-0.0) (times_by left c.args.self.now.left) (times_by left (stream_left s)) (stream_left s) _ start
    (gives_unmade left c.in-Some-2.term (stream_left s) (stream_left c.next.new.self) (c.in_err-made.field-0.0) (stream_left s) gave c.in_err-made.ensures))

pub again::Again::next_times-returns-in-Some-3-clause-next : goal.again::Again::next_times-returns-in-Some-3-clause-next
again::Again::next_times-returns-in-Some-3-clause-next t c =
    let s = c.turns.self-inside.stream in
    let left = c.args.left.now in
    let start = ap (λ (i : Inner). times_by left i.left) (sym c.self.view_is) ∙ sym c.turns.invariant.left in
    let gave = rw c.in-Some-2.is at c.in_ok-term.ensures.next in
    start ∙ times_by_made left c.in-Some-2.term c.in-Some-3.made (stream_left s) (stream_left c.next.new.self) gave (rw c.in-Some-3.is at c.in_ok-made.ensures)

pub again::Again::next_times-turns-preserved : goal.again::Again::next_times-turns-preserved
again::Again::next_times-turns-preserved t c =
    let s = c.turns.self-inside.stream in
    let gave = rw c.in-Some-2.is at c.in_ok-term.ensures.next in
    record {
      left = sym (times_by_zero c.args.left.now c.in-Some-2.term (stream_left s) (stream_left c.next.new.self) gave (rw c.in_default-3.is at c.in_ok-made.ensures)) ∙ c.turns.invariant.left;
      whole = c.in_ok-term.ensures.whole ∙ c.turns.invariant.whole;
    }

pub again::Again::whole_within-loop-made-init : goal.again::Again::whole_within-loop-made-init
again::Again::whole_within-loop-made-init t c = record { left = drained_none c.new-terms.result.items c.args.self.now.left c.new-terms.ensures.items; whole = refl }

pub again::Again::whole_within-loop-made-preserved : goal.again::Again::whole_within-loop-made-preserved
again::Again::whole_within-loop-made-preserved t c =
    let gave = rw c.in-Ok-Some.field-0-is at c.in-Ok-Some.ensures.next in
    record {
      left = drained_more c.loop-made.terms.items c.loop-made.self.left c.args.self.now.left c.loop-made.invariant.left c.push.new.self.items c.in-Ok-Some.term c.next_times.new.self.left gave c.in_ok-push-in-Ok-Some.ensures.items;
      whole = c.in-Ok-Some.ensures.whole ∙ c.loop-made.invariant.whole;
    }

pub again::Again::whole_within-returns-in-Ok-None-clause-list : goal.again::Again::whole_within-returns-in-Ok-None-clause-list
again::Again::whole_within-returns-in-Ok-None-clause-list t c =
    let gave = rw c.in-Ok-None.field-0-is at c.in-Ok-None.ensures.next in
    drained_done c.loop-made.terms.items c.loop-made.self.left c.args.self.now.left c.loop-made.invariant.left (listing c.made.result) gave.0 c.made.ensures

pub again::Again::whole_within-returns-in-Err-Refused-clause-list : goal.again::Again::whole_within-returns-in-Err-Refused-clause-list
again::Again::whole_within-returns-in-Err-Refused-clause-list t c =
    let gave = rw c.in-Err-Refused.field-0-is at c.in-Err-Refused.ensures.next in
    drained_refused c.loop-made.terms.items c.loop-made.self.left c.args.self.now.left c.loop-made.invariant.left (listing c.refused_behind.result) c.in-Err-Refused.cause gave (rw c.in-Err-Refused.field-0-is at c.refused_behind.ensures)

pub again::list_again-returns-in-Some : goal.again::list_again-returns-in-Some
again::list_again-returns-in-Some t c =
    let max = c.args.scope.limit in
    let pieces = list_of_pieces max c.args.scope.names.now c.args.pieces.now in
    let found = rw c.in-Some.is at c.in_ok-whole.ensures.list in
    ap (λ (w : Walk). limited max (listing w.whole)) c.new.ensures
    ∙ ap (limited max) (found ∙ c.new-again.ensures.left ∙ c.new-again.ensures.whole)
    ∙ limited_pieces max c.args.scope.names.now c.args.pieces.now

pub stream::Stream::next-returns-in_err-term-clause-next : goal.stream::Stream::next-returns-in_err-term-clause-next
unfolding stream_left
stream::Stream::next-returns-in_err-term-clause-next t c =
    let s = c.turns.self in
    let rest = list_of_pieces s.scope.limit s.scope.names.now s.rest.now in
    let e = err_from_is_err_and c.from_residual.result c.from_residual.ensures.1 in
    let old = product_left s.scope.limit s.product in
    let new = product_left s.scope.limit c.next.new.self in
    rw (e.1, e.2)
    (gives_from (Err (c.in_err-term.field-0.0)) _ (stream_left s) _ (sym c.turns.invariant.left)
    (stream_ungiven s.scope.limit s.given s.is_minus rest (c.in_err-term.field-0.0) old new _ c.in_err-term.ensures))

pub stream::Stream::next-returns-in-Some-clause-next : goal.stream::Stream::next-returns-in-Some-clause-next
unfolding stream_left stream_before
stream::Stream::next-returns-in-Some-clause-next t c =
    let s = c.turns.self in
    let rest = list_of_pieces s.scope.limit s.scope.names.now s.rest.now in
    let gave = rw c.in-Some.is at c.in_ok-term.ensures in
    gives_from c.give.result _ _ _ (sym c.turns.invariant.left ∙ ap (λ l. limited (s.scope.limit - s.given) (followed (signed s.is_minus l) rest)) gave) c.give.ensures.next

pub stream::Stream::next-returns-then-is_empty-clause-next : goal.stream::Stream::next-returns-then-is_empty-clause-next
unfolding stream_left
stream::Stream::next-returns-then-is_empty-clause-next t c =
    let s = c.turns.self in
    let gave = rw c.in_default.is at c.in_ok-term.ensures in
    let none = nil_from_length s.rest.now (eqb-true (length s.rest.now) 0 (sym c.is_empty.ensures ∙ c.if-is_empty.true)) in (
      sym c.turns.invariant.left ∙ stream_done s.scope.limit s.given s.is_minus s.scope.names.now s.rest.now (product_left s.scope.limit s.product) gave.0 none,
      stream_done s.scope.limit s.given s.is_minus s.scope.names.now s.rest.now (product_left s.scope.limit c.next.new.self) gave.1 none,
    )

pub stream::Stream::next-turns-preserved : goal.stream::Stream::next-turns-preserved
unfolding stream_left
stream::Stream::next-turns-preserved t c =
    let s = c.turns.self in
    let rest = list_of_pieces s.scope.limit s.scope.names.now s.rest.now in
    let gave = rw c.in_default.is at c.in_ok-term.ensures in
    let same = c.in_ok-term-2.ensures.none (ap Ok c.in_default-2.is) in
    record {
      left = c.in_ok-term-3.ensures.list (ap Ok c.in_default-3.is)
          ∙ ap stream_left same
          ∙ stream_on s.scope.limit s.given s.is_minus rest (product_left s.scope.limit c.next.new.self) gave.1
          ∙ sym (stream_on s.scope.limit s.given s.is_minus rest (product_left s.scope.limit s.product) gave.0)
          ∙ c.turns.invariant.left;
      whole = c.read.ensures.whole ∙ c.read_term.ensures.whole ∙ c.turns.invariant.whole;
    }

pub stream::Stream::next-turns-smaller : goal.stream::Stream::next-turns-smaller
stream::Stream::next-turns-smaller t c =
    let same = ap (λ (s : Stream). length s.rest.now) (c.in_ok-term-2.ensures.none (ap Ok c.in_default-2.is)) in
    omega (arith, same, c.in_ok-term-3.ensures.shorter (ap Ok c.in_default-3.is))

pub stream::Stream::next-returns-in-Some-2-clause-next : goal.stream::Stream::next-returns-in-Some-2-clause-next
unfolding stream_left
stream::Stream::next-returns-in-Some-2-clause-next t c =
    let s = c.turns.self in
    let rest = list_of_pieces s.scope.limit s.scope.names.now s.rest.now in
    let gave = rw c.in_default.is at c.in_ok-term.ensures in
    let found = rw c.in-Some-2.is at c.in_ok-term-2.ensures.found in
    gives_from c.give-in-Some-2.result _ _ _
    (sym (found
    ∙ stream_on s.scope.limit s.given s.is_minus rest (product_left s.scope.limit c.next.new.self) gave.1
    ∙ sym (stream_on s.scope.limit s.given s.is_minus rest (product_left s.scope.limit s.product) gave.0)
    ∙ c.turns.invariant.left)) c.give-in-Some-2.ensures.next

pub stream::Stream::next-returns-in-Some-3-clause-next : goal.stream::Stream::next-returns-in-Some-3-clause-next
unfolding stream_left
stream::Stream::next-returns-in-Some-3-clause-next t c =
    let s = c.turns.self in
    let rest = list_of_pieces s.scope.limit s.scope.names.now s.rest.now in
    let gave = rw c.in_default.is at c.in_ok-term.ensures in
    let found = rw c.in-Some-3.is at c.in_ok-term-3.ensures.term in
    gives_from c.give-in-Some-3.result _ _ _
    (sym (found
    ∙ ap stream_left (c.in_ok-term-2.ensures.none (ap Ok c.in_default-2.is))
    ∙ stream_on s.scope.limit s.given s.is_minus rest (product_left s.scope.limit c.next.new.self) gave.1
    ∙ sym (stream_on s.scope.limit s.given s.is_minus rest (product_left s.scope.limit s.product) gave.0)
    ∙ c.turns.invariant.left)) c.give-in-Some-3.ensures.next

pub function::function_list-loop-rest-init : goal.function::function_list-loop-rest-init
function::function_list-loop-rest-init t c = record { now = []; written = c.new-arguments.ensures; read = refl }

pub function::function_list-loop-rest-smaller : goal.function::function_list-loop-rest-smaller
function::function_list-loop-rest-smaller t c =
    let rest = c.loop-rest.rest.now in
    let shorter = rw c.in-Further.is at c.in_ok-read.ensures.shorter in
    shorter (some_from c.is_empty.result rest c.is_empty.ensures c.loop-rest-test.true)

pub function::function_list-loop-rest-preserved : goal.function::function_list-loop-rest-preserved
function::function_list-loop-rest-preserved t c =
    let inv = c.loop-rest.invariant in
    let here = rw c.in-Further.is at (c.in_ok-read.ensures.read c.args.function c.args.is_commuting inv.now inv.written) in
    record { now = here.now; written = here.written; read = inv.read ∙ here.read }

pub function::function_list-returns-in-Refused-clause-list : goal.function::function_list-returns-in-Refused-clause-list
function::function_list-returns-in-Refused-clause-list t c =
    let inv = c.loop-rest.invariant in
    let here = rw c.in-Refused.is at (c.in_ok-read.ensures.read c.args.function c.args.is_commuting inv.now inv.written) in
    c.refused.ensures ∙ ap refusal c.into_cause.ensures ∙ sym here ∙ sym inv.read

pub function::function_list-returns-clause-list : goal.function::function_list-returns-clause-list
function::function_list-returns-clause-list t c =
    let inv = c.loop-rest.invariant in
    let none = nil_from_length c.loop-rest.rest.now (eqb-true (length c.loop-rest.rest.now) 0 (sym c.is_empty.ensures ∙ c.loop-rest-test.false)) in
    list_called c.args.scope.names.now c.args.scope.limit c.args.function c.args.is_commuting c.loop-rest.arguments c.in_ok-into_call.field-0 c.loop-rest.rest.now listing c.call_list.result
    (list_of_calling c.args.scope.names.now (calling c.args.scope.limit c.args.function c.args.is_commuting) c.args.pieces.now) inv c.in_ok-into_call.ensures none c.call_list.ensures

pub function::function_list-returns-in-Refused-clause-one : goal.function::function_list-returns-in-Refused-clause-one
function::function_list-returns-in-Refused-clause-one t c = one_refused (listing c.refused.result) c.into_cause.result c.refused.ensures

pub function::function_list-returns-clause-one : goal.function::function_list-returns-clause-one
function::function_list-returns-clause-one t c = one_called listing c.args.is_commuting c.in_ok-into_call.field-0 c.call_list.result c.call_list.ensures

pub function::read_argument-returns-in_default-clause-read : goal.function::read_argument-returns-in_default-clause-read
function::read_argument-returns-in_default-clause-read t c = λ f k args e. record { now = args; written = e; read = refl }

pub function::read_argument-returns-in_ok-with_index-in-Index-clause-read : goal.function::read_argument-returns-in_ok-with_index-in-Index-clause-read
function::read_argument-returns-in_ok-with_index-in-Index-clause-read t c = λ f k args e.
    index_read c.args.scope.limit c.args.scope.names.now f k c.args.arguments c.in_ok-with_index-in-Index.field-0 args e c.in-Index.index c.args.pieces.now c.in-Some.more.now (c.in-Some.ensures.cases.0 ∙ ap (λ p. p ∷ c.in-Some.more.now) c.in-Index.is) (c.in_ok-with_index-in-Index.ensures ∙ ap (λ i. c.args.arguments ++ pieces_of_argument (index i)) c.index.ensures)

pub function::read_argument-returns-in_ok-with_vector-in-Vector-clause-read : goal.function::read_argument-returns-in_ok-with_vector-in-Vector-clause-read
function::read_argument-returns-in_ok-with_vector-in-Vector-clause-read t c = λ f k args e.
    vector_read c.args.scope.limit c.args.scope.names.now f k c.args.arguments c.in_ok-with_vector-in-Vector.field-0 args e c.in-Vector.vector c.args.pieces.now c.in-Some.more.now (c.in-Some.ensures.cases.0 ∙ ap (λ p. p ∷ c.in-Some.more.now) c.in-Vector.is) (c.in_ok-with_vector-in-Vector.ensures ∙ ap (λ v. c.args.arguments ++ pieces_of_argument (vector v)) c.vector.ensures)

pub function::read_argument-returns-in_ok-with_pieces-in-Field-clause-read : goal.function::read_argument-returns-in_ok-with_pieces-in-Field-clause-read
function::read_argument-returns-in_ok-with_pieces-in-Field-clause-read t c = λ f k args e.
    field_read c.args.scope.limit c.args.scope.names.now f k c.args.arguments c.in_ok-with_pieces-in-Field.field-0 args e c.in-Field.field c.args.pieces.now c.in-Some.more.now (c.in-Some.ensures.cases.0 ∙ ap (λ p. p ∷ c.in-Some.more.now) c.in-Field.is) (c.in_ok-with_pieces-in-Field.ensures ∙ ap (λ ps. c.args.arguments ++ ps) c.field.ensures.pieces)

pub function::read_expression-returns-in_default-clause-read : goal.function::read_expression-returns-in_default-clause-read
function::read_expression-returns-in_default-clause-read t c = λ f k args e.
    let all = c.args.scope.names.now in
    let max = c.args.scope.limit in
    record {
      now = args;
      written = e;
      read = read_unended all (in_function (called max f k args)) 0 (in_sum (fresh max)) [] c.args.pieces.now (sym c.closing.ensures ∙ c.in_default.is)
          ∙ sym (read_none all (record { top = in_function (called max f k args); outer = [] }));
    }

pub function::collected-turns-init : goal.function::collected-turns-init
function::collected-turns-init t c = none_taken c.new-collector.result (stream_left c.args.list.now) c.new-collector.ensures

pub function::collected-turns-preserved : goal.function::collected-turns-preserved
function::collected-turns-preserved t c =
    let inv = c.turns.invariant in
    one_taken c.turns.collector c.add.new.self (stream_left c.args.list.now) (stream_left c.turns.list) (stream_left c.next.new.self) c.in-Ok-Some.term inv (c.in_ok-add-in-Ok-Some.ensures.ok inv.done inv.stands) (rw c.in-Ok-Some.field-0-is at c.in-Ok-Some.ensures.next)

pub function::collected-turns-smaller : goal.function::collected-turns-smaller
function::collected-turns-smaller t c =
    let gave = rw c.in-Ok-Some.field-0-is at c.in-Ok-Some.ensures.next in
    let long = ap (λ (l : Listing). length l.terms) gave in
    omega (arith, long)

pub function::read_argument-returns-in-Argument-clause-read : goal.function::read_argument-returns-in-Argument-clause-read
function::read_argument-returns-in-Argument-clause-read t c =
    argument_begun c.args.scope.limit c.args.scope.names.now c.in-Some.piece.now c.args.pieces.now c.in-Some.more.now c.args.arguments c.read_expression.result c.in-Some.ensures.cases.0 (ap opens c.in-Argument.is) c.read_expression.ensures.read

pub function::read_argument-returns-in-Open-clause-read : goal.function::read_argument-returns-in-Open-clause-read
function::read_argument-returns-in-Open-clause-read t c =
    argument_begun c.args.scope.limit c.args.scope.names.now c.in-Some.piece.now c.args.pieces.now c.in-Some.more.now c.args.arguments c.read_expression-in-Open.result c.in-Some.ensures.cases.0 (ap opens c.in-Open.is) c.read_expression-in-Open.ensures.read

pub function::read_argument-returns-in-Function-clause-read : goal.function::read_argument-returns-in-Function-clause-read
function::read_argument-returns-in-Function-clause-read t c =
    argument_begun c.args.scope.limit c.args.scope.names.now c.in-Some.piece.now c.args.pieces.now c.in-Some.more.now c.args.arguments c.read_expression-in-Function.result c.in-Some.ensures.cases.0 (ap opens c.in-Function.is) c.read_expression-in-Function.ensures.read

pub function::read_expression-returns-in-Ok-clause-read : goal.function::read_expression-returns-in-Ok-clause-read
function::read_expression-returns-in-Ok-clause-read t c = λ f k args e.
    let same : c.deref.result.now ≡ c.in-Ok.terms.items = search rules in
    let max = c.args.scope.limit in
    let all = c.args.scope.names.now in
    let within = c.split_at.result.0.now in
    let whole : stream_left c.new-list.result ≡ list_of_pieces max all within = c.new-list.ensures.pieces in
    let collected = rw c.in-Ok.is at c.in_ok-terms.ensures in
    expression_read max all f k c.args.arguments c.in_ok-with_expression-in-Ok.field-0 args e _ (list_of_pieces max all within) c.in-Ok.terms.items c.split_at-2.result.1.now
    (expression_ended max all f k args c.args.pieces.now within c.split_at-2.result.1.now c.in-Some.len _ (sym c.closing.ensures ∙ c.in-Some.is) c.split_at.ensures.front (c.split_at-2.ensures.back ∙ ap (drop 1) c.split_at.ensures.back ∙ drop_next c.in-Some.len c.args.pieces.now))
    (ap argument_of (sym whole) ∙ collected.argument) (rw same at c.in_ok-with_expression-in-Ok.ensures)

pub function::read_expression-returns-clause-read : goal.function::read_expression-returns-clause-read
function::read_expression-returns-clause-read t c = λ f k args e.
    let max = c.args.scope.limit in
    let all = c.args.scope.names.now in
    let within = c.split_at.result.0.now in
    let whole : stream_left c.new-list.result ≡ list_of_pieces max all within = c.new-list.ensures.pieces in
    let collected = rw c.in-Err.is at c.in_ok-terms.ensures in
    expression_refused max all f k c.args.arguments c.args.arguments args e _ (list_of_pieces max all within) c.in-Err.refusal.cause c.split_at-2.result.1.now
    (expression_ended max all f k args c.args.pieces.now within c.split_at-2.result.1.now c.in-Some.len _ (sym c.closing.ensures ∙ c.in-Some.is) c.split_at.ensures.front (c.split_at-2.ensures.back ∙ ap (drop 1) c.split_at.ensures.back ∙ drop_next c.in-Some.len c.args.pieces.now))
    (ap argument_of (sym whole) ∙ collected)

pub function::collected-returns-in-Ok-None : goal.function::collected-returns-in-Ok-None
function::collected-returns-in-Ok-None t c =
    let gave = rw c.in-Ok-None.field-0-is at c.in-Ok-None.ensures.next in
    collected_all c.turns.collector (stream_left c.args.list.now) (stream_left c.turns.list) c.turns.invariant c.terms_of.result gave.0 c.terms_of.ensures

pub function::collected-returns-in-Err-Refused : goal.function::collected-returns-in-Err-Refused
function::collected-returns-in-Err-Refused t c =
    let inv = c.turns.invariant in
    rw c.in-Err-Refused.field-0-is (refused_argument inv.done (stream_left c.args.list.now) (stream_left c.turns.list) c.in-Err-Refused.cause inv.taken (rw c.in-Err-Refused.field-0-is at c.in-Err-Refused.ensures.next))

pub function::read_argument-returns-in_default-piece : goal.function::read_argument-returns-in_default-piece
function::read_argument-returns-in_default-piece t c =
    let all = c.args.scope.names.now in
    let max = c.args.scope.limit in
    let piece = c.in-Some.piece.now in
    let more = c.in-Some.more.now in
    let shut = none_opened piece c.in_default-piece.not-Function c.in_default-piece.not-Argument c.in_default-piece.not-Open in
    let other = none_argued piece c.in_default-piece.not-Index c.in_default-piece.not-Vector c.in_default-piece.not-Field in
    record {
      read = λ f k args e. record {
        now = args;
        written = e;
        read = ap (list_of_calling all (called max f k args)) c.in-Some.ensures.cases.0 ∙ argument_passed all (called max f k args) piece more shut other;
      };
      shorter = λ some. omega (arith, c.in-Some.ensures.cases.1);
    }

pub function::read_expression-split_at-requires : goal.function::read_expression-split_at-requires
function::read_expression-split_at-requires t c =
    let max = c.args.scope.limit in
    let h = read_ended c.args.scope.names.now (in_sum (fresh max)) 0 (in_sum (fresh max)) [] c.args.pieces.now c.in-Some.len _ (sym c.closing.ensures ∙ c.in-Some.is) in
    omega (arith, h.within)

pub function::read_expression-split_at-requires-2 : goal.function::read_expression-split_at-requires-2
function::read_expression-split_at-requires-2 t c =
    let max = c.args.scope.limit in
    let h = read_ended c.args.scope.names.now (in_sum (fresh max)) 0 (in_sum (fresh max)) [] c.args.pieces.now c.in-Some.len _ (sym c.closing.ensures ∙ c.in-Some.is) in
    omega (arith, h.within, c.split_at.ensures.back_len)

-- ---- powers

pub power::put_power-returns-then-power-eq1 : goal.power::put_power-returns-then-power-eq1
power::put_power-returns-then-power-eq1 t c =
    let max = c.args.scope.limit in
    let list = listing c.args.whole in
    put_same c.put_whole.result max (factor_lists max c.args.factors.now) (factor_lists max c.put_whole.new.self) (limited max list) (powers max list c.args.power) (power_once max list c.args.power c.if-power-eq1.true) c.put_whole.ensures

pub power::put_power-returns-then-is_empty : goal.power::put_power-returns-then-is_empty
power::put_power-returns-then-is_empty t c =
    let max = c.args.scope.limit in
    let list = listing c.args.whole in
    let none = sym c.terms.ensures ∙ nil_from_length c.terms.result.now (eqb-true (length c.terms.result.now) 0 (sym c.is_empty.ensures ∙ c.if-is_empty.true)) in
    put_same c.put_whole-then-is_empty.result max (factor_lists max c.args.factors.now) (factor_lists max c.put_whole-then-is_empty.new.self) (limited max list) (powers max list c.args.power) (none_powered max list.terms list.end c.args.power (omega arith) none) c.put_whole-then-is_empty.ensures

pub power::put_power-put_copies-requires-clause-none : goal.power::put_power-put_copies-requires-clause-none
power::put_power-put_copies-requires-clause-none t c = λ max. (c.is_none.ensures max).0 c.if-is_none.true

pub power::put_power-returns-then-is_none : goal.power::put_power-returns-then-is_none
power::put_power-returns-then-is_none t c =
    let max = c.args.scope.limit in
    put_first c.put_copies.result max (factor_lists max c.args.factors.now) (factor_lists max c.put_copies.new.factors) (powers max (listing c.args.whole) c.args.power) ((c.is_none.ensures max).0 c.if-is_none.true) c.put_copies.ensures

pub power::put_power-returns : goal.power::put_power-returns
power::put_power-returns t c =
    let max = c.args.scope.limit in
    let all = c.args.scope.names.now in
    let list = listing c.args.whole in
    let own = c.split_at.result.0.now in
    let factors = factor_lists max c.args.factors.now in
    put_same c.put_list.result max factors (factor_lists max c.put_list.new.factors) (list_of_pieces max all own) (powers max list c.args.power)
    (piece_sum max all c.args.pieces.now own list c.args.power factors c.requires.piece c.split_at.ensures.front c.requires.sign (λ none. true≢false (sym ((c.is_none.ensures max).1 none) ∙ c.if-is_none.false))) c.put_list.ensures

pub power::put_list-returns-then-is_at_front : goal.power::put_list-returns-then-is_at_front
power::put_list-returns-then-is_at_front t c =
    let max = c.args.scope.limit in
    put_at c.put.result max (λ n. factor_lists n c.args.factors.now) (λ n. factor_lists n c.put.new.self) (λ n. list_whole n c.in_ok-list_once.field-0) (list_of_pieces max c.args.scope.names.now c.args.pieces.now) c.in_ok-list_once.ensures c.put.ensures

pub power::put_list-returns : goal.power::put_list-returns
power::put_list-returns t c =
    let max = c.args.scope.limit in
    put_at c.put-2.result max (λ n. factor_lists n c.args.factors.now) (λ n. factor_lists n c.put-2.new.self) (λ n. list_whole n c.in_ok-list_again.field-0) (list_of_pieces max c.args.scope.names.now c.args.pieces.now)
    (rw (c.within.ensures.limit, c.within.ensures.names) at c.in_ok-list_again.ensures) c.put-2.ensures

pub power::put_sums-loop-made-init : goal.power::put_sums-loop-made-init
power::put_sums-loop-made-init t c =
    let max = c.args.scope.limit in
    put_begun max (factor_lists max c.args.factors.now) (factor_lists max c.put.new.self) (list_whole max c.args.list) (list_of_pieces max c.args.scope.names.now c.args.within.now) (c.requires.none max) c.requires.list (c.in_ok-put.ensures max)

pub power::put_sums-loop-made-preserved : goal.power::put_sums-loop-made-preserved
power::put_sums-loop-made-preserved t c =
    let max = c.args.scope.limit in
    let list = list_of_pieces max c.args.scope.names.now c.args.within.now in
    let now = factor_lists max c.loop-made.factors in
    let new = factor_lists max c.put-in-loop-made.new.self in
    copies_more max [] now list c.loop-made._made c.loop-made.invariant new (put_as max now new (list_whole max c.in_ok-list.list) list (rw (c.within.ensures.limit, c.within.ensures.names) at c.in_ok-list.ensures) (c.in_ok-put-2.ensures max))

pub power::put_sums-returns : goal.power::put_sums-returns
power::put_sums-returns t c =
    let max = c.args.scope.limit in
    let list = list_of_pieces max c.args.scope.names.now c.args.within.now in
    let all : c.loop-made._made ≡ c.args.times = omega (arith, c.requires.some, c.loop-made.auto._made-end, c.loop-made-test.false) in
    same_then max (powers max list c.args.times ∷ []) (replicate c.args.times list) (factor_lists max c.loop-made.factors) (powers_row max list c.args.times c.requires.some) (rw all at c.loop-made.invariant)

pub power::put_whole_sum-returns-then-is_empty : goal.power::put_whole_sum-returns-then-is_empty
power::put_whole_sum-returns-then-is_empty t c =
    let max = c.args.scope.limit in
    let list = list_of_pieces max c.args.scope.names.now c.args.within.now in
    let whole = listing c.args.whole in
    let none = sym c.terms.ensures ∙ nil_from_length c.terms.result.now (eqb-true (length c.terms.result.now) 0 (sym c.is_empty.ensures ∙ c.if-is_empty.true)) in
    put_alone c.put_whole.result max (factor_lists max c.args.factors.now) (factor_lists max c.put_whole.new.self) (limited max whole) (powers max list c.args.power) (c.requires.none max) (gone_power max whole list c.args.power c.requires.some none c.requires.list) c.put_whole.ensures

pub power::put_whole_sum-returns-in-Some : goal.power::put_whole_sum-returns-in-Some
power::put_whole_sum-returns-in-Some t c =
    let max = c.args.scope.limit in
    let list = list_of_pieces max c.args.scope.names.now c.args.within.now in
    let made = rw c.in-Some.is at c.in_ok-made.ensures.list in
    let short = some_short c.in_ok-made.field-0 c.in-Some.made (IsShortPower max c.args.whole c.args.power) c.in-Some.is (rw c.from.ensures at c.in_ok-made.ensures.short) in
    put_alone c.put_whole-in-Some.result max (factor_lists max c.args.factors.now) (factor_lists max c.put_whole-in-Some.new.self) (limited max (listing c.in-Some.made)) (powers max list c.args.power) (c.requires.none max)
    (rw c.from.ensures at made ∙ short_whole max c.args.whole list c.args.power c.requires.some short c.requires.list) c.put_whole-in-Some.ensures

pub power::put_sum-returns-then-power-eq0 : goal.power::put_sum-returns-then-power-eq0
power::put_sum-returns-then-power-eq0 t c =
    let max = c.args.scope.limit in
    let list = list_of_pieces max c.args.scope.names.now c.args.within.now in
    put_same c.put_whole.result max (factor_lists max c.args.factors.now) (factor_lists max c.put_whole.new.self) (limited max (listing c.single.result)) (powers max list c.args.power)
    (ap (limited max) (c.single.ensures ∙ ap single c.unit.ensures) ∙ power_none max list c.args.power c.if-power-eq0.true) c.put_whole.ensures

pub power::put_sum-returns-then-power-eq1 : goal.power::put_sum-returns-then-power-eq1
power::put_sum-returns-then-power-eq1 t c =
    let max = c.args.scope.limit in
    let all = c.args.scope.names.now in
    let list = list_of_pieces max all c.args.within.now in
    put_same c.put_list.result max (factor_lists max c.args.factors.now) (factor_lists max c.put_list.new.factors) list (powers max list c.args.power) (sym (limited_pieces max all c.args.within.now) ∙ power_once max list c.args.power c.if-power-eq1.true) c.put_list.ensures

pub power::put_sum-returns-then-not-is_none : goal.power::put_sum-returns-then-not-is_none
power::put_sum-returns-then-not-is_none t c =
    let max = c.args.scope.limit in
    let all = c.args.scope.names.now in
    put_same c.put_list-then-not-is_none.result max (factor_lists max c.args.factors.now) (factor_lists max c.put_list-then-not-is_none.new.factors) (list_of_pieces max all c.args.own.now) (powers max (list_of_pieces max all c.args.within.now) c.args.power)
    (c.requires (λ none. true≢false (sym ((c.is_none.ensures max).1 none) ∙ c.if-not-is_none.true))) c.put_list-then-not-is_none.ensures

pub power::put_sum-put_whole_sum-requires : goal.power::put_sum-put_whole_sum-requires
power::put_sum-put_whole_sum-requires t c = (
  omega (arith, c.decreases),
  (λ max. (c.is_none.ensures max).0 c.if-not-is_none.false, (omega (arith, c.if-power-eq0.false), rw (c.within.ensures.limit, c.within.ensures.names, c.in-Whole.is) at c.in_ok-list.ensures)),
)

pub power::put_sum-put_sums-requires : goal.power::put_sum-put_sums-requires
power::put_sum-put_sums-requires t c = (
  omega (arith, c.decreases),
  (λ max. (c.is_none.ensures max).0 c.if-not-is_none.false, (omega (arith, c.if-power-eq0.false), rw (c.within.ensures.limit, c.within.ensures.names) at c.in_ok-list.ensures)),
)

pub power::put_sum-returns-in-Whole : goal.power::put_sum-returns-in-Whole
power::put_sum-returns-in-Whole t c =
    let max = c.args.scope.limit in
    let list = list_of_pieces max c.args.scope.names.now c.args.within.now in
    put_first c.put_whole_sum.result max (factor_lists max c.args.factors.now) (factor_lists max c.put_whole_sum.new.factors) (powers max list c.args.power) ((c.is_none.ensures max).0 c.if-not-is_none.false) c.put_whole_sum.ensures

pub power::put_sum-returns-in_default : goal.power::put_sum-returns-in_default
power::put_sum-returns-in_default t c =
    let max = c.args.scope.limit in
    let list = list_of_pieces max c.args.scope.names.now c.args.within.now in
    put_first c.put_sums.result max (factor_lists max c.args.factors.now) (factor_lists max c.put_sums.new.factors) (powers max list c.args.power) ((c.is_none.ensures max).0 c.if-not-is_none.false) c.put_sums.ensures

pub power::put_ended-put_sum-requires : goal.power::put_ended-put_sum-requires
power::put_ended-put_sum-requires t c = (
  omega (arith, c.decreases),
  λ later.
      let max = c.args.scope.limit in
      let all = c.args.scope.names.now in
      c.requires later ∙ ap (λ o. powered max (with_power (list_of_pieces max all c.args.within.now) o)) (sym c.in_ok-power.ensures ∙ c.in-Some.is),
)

pub power::put_ended-returns-in-Some : goal.power::put_ended-returns-in-Some
power::put_ended-returns-in-Some t c =
    let max = c.args.scope.limit in
    let all = c.args.scope.names.now in
    let list = list_of_pieces max all c.args.within.now in
    put_same c.put_sum.result max (factor_lists max c.args.factors.now) (factor_lists max c.put_sum.new.factors) (powers max list c.in-Some.power) (powered max (powered_by all c.args.end list))
    (ap (λ o. powered max (with_power list o)) (sym c.in-Some.is ∙ c.in_ok-power.ensures)) c.put_sum.ensures

pub power::put_ended-returns-in-None : goal.power::put_ended-returns-in-None
unfolding powers
power::put_ended-returns-in-None t c =
    let max = c.args.scope.limit in
    let all = c.args.scope.names.now in
    let list = list_of_pieces max all c.args.within.now in
    put_same c.put_whole.result max (factor_lists max c.args.factors.now) (factor_lists max c.put_whole.new.self) (limited max (listing c.refused.result)) (powered max (powered_by all c.args.end list))
    (ap (limited max) c.refused.ensures ∙ ap (λ o. powered max (with_power list o)) (sym c.in-None.is ∙ c.in_ok-power.ensures)) c.put_whole.ensures

-- ---- the reader

pub reader::function_power-returns-in_ok-list-in-Some : goal.reader::function_power-returns-in_ok-list-in-Some
reader::function_power-returns-in_ok-list-in-Some t c =
    let max = c.args.scope.limit in
    let all = c.args.scope.names.now in
    let list = list_of_calling all (calling max c.args.function c.args.is_commuting) c.args.pieces.now in
    subst (λ (x : Listing). IfOk c.call_power.result (λ made. limited max (listing made) ≡ x))
    (ap (λ (l : Listing). powers max l c.in-Some.power) c.in_ok-list-in-Some.ensures.list ∙ ap (λ o. powered max (with_power list o)) (sym c.in-Some.is ∙ c.in_ok-power.ensures)) c.call_power.ensures

pub reader::function_power-returns-in-None : goal.reader::function_power-returns-in-None
unfolding powers
reader::function_power-returns-in-None t c =
    let max = c.args.scope.limit in
    let all = c.args.scope.names.now in
    let list = list_of_calling all (calling max c.args.function c.args.is_commuting) c.args.pieces.now in
    ap (limited max) c.refused.ensures ∙ ap (λ o. powered max (with_power list o)) (sym c.in-None.is ∙ c.in_ok-power.ensures)

pub reader::read_function-returns-in_default-clause-read : goal.reader::read_function-returns-in_default-clause-read
reader::read_function-returns-in_default-clause-read t c =
    function_unended c.args.scope.limit c.args.scope.names.now c.args.function c.args.is_commuting c.args.pieces.now (factor_lists c.args.scope.limit c.args.factors.now) (sym c.closing.ensures ∙ c.in_default.is)

pub reader::read_function-split_at-requires : goal.reader::read_function-split_at-requires
reader::read_function-split_at-requires t c = omega (arith, ends_within c.args.scope.names.now c.args.pieces.now c.in-Some.len c.in-Some.end (sym c.closing.ensures ∙ c.in-Some.is))

pub reader::read_function-split_at-requires-2 : goal.reader::read_function-split_at-requires-2
reader::read_function-split_at-requires-2 t c = omega (arith, ends_within c.args.scope.names.now c.args.pieces.now c.in-Some.len c.in-Some.end (sym c.closing.ensures ∙ c.in-Some.is), c.split_at.ensures.back_len)

pub reader::read_function-returns-clause-read : goal.reader::read_function-returns-clause-read
reader::read_function-returns-clause-read t c =
    let max = c.args.scope.limit in
    let all = c.args.scope.names.now in
    let ps = c.args.pieces.now in
    let len = c.in-Some.len in
    let within = c.split_at.result.0.now in
    let old = factor_lists max c.args.factors.now in
    let new = factor_lists max c.put_whole.new.self in
    let list = powered max (powered_by all c.in-Some.end (list_of_calling all (calling max c.args.function c.args.is_commuting) within)) in
    function_put max all c.args.function c.args.is_commuting ps within c.split_at-2.result.1.now len c.in-Some.end old new (sym c.closing.ensures ∙ c.in-Some.is) c.split_at.ensures.front
    (c.split_at-2.ensures.back ∙ ap (drop 1) c.split_at.ensures.back ∙ drop_next len ps)
    (put_as max old new (limited max (listing c.in_ok-whole.whole)) list c.in_ok-whole.ensures c.in_ok-put_whole.ensures)

pub reader::read_parenthesis-returns-in_default-clause-read : goal.reader::read_parenthesis-returns-in_default-clause-read
reader::read_parenthesis-returns-in_default-clause-read t c =
    sum_unended c.args.scope.limit c.args.scope.names.now c.args.pieces.now c.split_at.result.1.now (factor_lists c.args.scope.limit c.args.factors.now) c.requires.begins c.split_at.ensures.back (sym c.closing.ensures ∙ c.in_default.is)

pub reader::read_parenthesis-split_at-requires-2 : goal.reader::read_parenthesis-split_at-requires-2
reader::read_parenthesis-split_at-requires-2 t c = omega (arith, ends_within c.args.scope.names.now c.split_at.result.1.now c.in-Some.len c.in-Some.end (sym c.closing.ensures ∙ c.in-Some.is))

pub reader::read_parenthesis-split_at-requires-3 : goal.reader::read_parenthesis-split_at-requires-3
reader::read_parenthesis-split_at-requires-3 t c = omega (arith, ends_within c.args.scope.names.now c.split_at.result.1.now c.in-Some.len c.in-Some.end (sym c.closing.ensures ∙ c.in-Some.is), c.split_at-2.ensures.back_len)

pub reader::read_parenthesis-put_ended-requires : goal.reader::read_parenthesis-put_ended-requires
reader::read_parenthesis-put_ended-requires t c = (
  omega (arith, c.decreases),
  λ later.
      let max = c.args.scope.limit in
      let all = c.args.scope.names.now in
      let behind = c.split_at.result.1.now in
      let inside = ends_within all behind c.in-Some.len c.in-Some.end (sym c.closing.ensures ∙ c.in-Some.is) in
      sum_alone max all c.args.pieces.now behind c.split_at-2.result.0.now c.in-Some.len c.in-Some.end c.requires.begins c.split_at.ensures.back (sym c.closing.ensures ∙ c.in-Some.is) c.split_at-2.ensures.front
      c.split_at-4.result.0.now (length c.args.pieces.now - length c.split_at-3.result.1.now) (factor_lists max c.args.factors.now) c.split_at-4.ensures.front
      (omega (arith, inside, begins_some max all c.args.pieces.now c.requires.begins, c.split_at.ensures.back_len, c.split_at-2.ensures.back_len, c.split_at-3.ensures.back_len)) c.requires.sign later,
)

pub reader::read_parenthesis-returns-clause-read : goal.reader::read_parenthesis-returns-clause-read
reader::read_parenthesis-returns-clause-read t c =
    let max = c.args.scope.limit in
    let all = c.args.scope.names.now in
    let behind = c.split_at.result.1.now in
    let len = c.in-Some.len in
    sum_put max all c.args.pieces.now behind c.split_at-2.result.0.now len c.in-Some.end c.requires.begins c.split_at.ensures.back (sym c.closing.ensures ∙ c.in-Some.is) c.split_at-2.ensures.front
    c.split_at-3.result.1.now (factor_lists max c.args.factors.now) (factor_lists max c.put_ended.new.factors) (c.split_at-3.ensures.back ∙ ap (drop 1) c.split_at-2.ensures.back ∙ drop_next len behind) c.in_ok-put_ended.ensures

pub reader::read_factor-returns-in-Function-clause-read : goal.reader::read_factor-returns-in-Function-clause-read
reader::read_factor-returns-in-Function-clause-read t c =
    let max = c.args.scope.limit in
    function_read c.read_function.result max c.args.scope.names.now c.args.pieces.now c.in-Some.piece.now c.in-Some.more.now c.in-Function.link c.in-Function.function c.function.result c.in-Function.is_commuting (factor_lists max c.args.factors.now) (factor_lists max c.read_function.new.factors) c.in-Some.ensures.cases.0 c.in-Function.is c.function.ensures c.read_function.ensures.read

pub reader::read_factor-returns-in_default-2 : goal.reader::read_factor-returns-in_default-2
reader::read_factor-returns-in_default-2 t c =
    let max = c.args.scope.limit in
    let piece = c.in-Some.piece.now in
    let none = sym c.in_ok-whole-in_default-piece.ensures ∙ ap listed_alone c.in_default-2.is in
    let shut = none_opened piece c.in_default-piece.not-Function c.in_default-piece.not-Argument c.in_default-piece.not-Open in
    record {
      read = piece_kept max c.args.scope.names.now c.args.pieces.now piece c.in-Some.more.now (factor_lists max c.args.factors.now) c.in-Some.ensures.cases.0 none shut;
      shorter = λ some. omega (arith, c.in-Some.ensures.cases.1);
    }

pub reader::read_factor-returns-in_ok-put_power-in_default-piece : goal.reader::read_factor-returns-in_ok-put_power-in_default-piece
reader::read_factor-returns-in_ok-put_power-in_default-piece t c =
    let max = c.args.scope.limit in
    let found = sym c.in_ok-whole-in_default-piece.ensures ∙ ap listed_alone c.in-Some-2.is in
    record {
      read = piece_put max c.args.scope.names.now c.args.pieces.now c.in-Some.piece.now c.in-Some.more.now (listing c.in-Some-2.whole) c.in-Some-2.power (factor_lists max c.args.factors.now) (factor_lists max c.put_power.new.factors)
          c.in-Some.ensures.cases.0 found c.in_ok-put_power-in_default-piece.ensures;
      shorter = λ some. omega (arith, c.in-Some.ensures.cases.1);
    }

pub reader::read_on-loop-piece-preserved : goal.reader::read_on-loop-piece-preserved
reader::read_on-loop-piece-preserved t c =
    let max = c.args.scope.limit in
    let all = c.args.scope.names.now in
    let here = c.loop-piece.rest.now in
    record {
      read = λ m.
          c.loop-piece.invariant.read m
          ∙ read_next max all m here c.in-Some.piece.now c.in-Some._more.now (factor_lists max c.loop-piece.factors) (factor_lists max c.read_factor.new.factors) c.in_ok-rest.rest.now c.in-Some.ensures.cases.0 (sym c.begins.ensures ∙ c.if-begins.false) c.in_ok-rest.ensures.read;
      shorter = omega (arith, c.in_ok-rest.ensures.shorter, c.in-Some.ensures.cases.1, c.loop-piece.invariant.shorter);
    }

pub reader::read_product-returns-in_default-clause-read : goal.reader::read_product-returns-in_default-clause-read
reader::read_product-returns-in_default-clause-read t c =
    let max = c.args.scope.limit in
    nothing_read max c.args.scope.names.now c.args.pieces.now (factor_lists max c.none-factors.result) (nil_from_length c.args.pieces.now c.in_default.ensures.cases) (c.none-factors.ensures max)

pub reader::read_product-read_factor-requires : goal.reader::read_product-read_factor-requires
reader::read_product-read_factor-requires t c = (omega (arith, c.decreases), signed_none c.args.pieces.now (factor_lists c.args.scope.limit c.none-factors.result) (c.none-factors.ensures c.args.scope.limit))

pub reader::read_product-returns-clause-read : goal.reader::read_product-returns-clause-read
reader::read_product-returns-clause-read t c =
    let max = c.args.scope.limit in
    let all = c.args.scope.names.now in
    rw c.is_subtracted-is_minus.ensures
    (product_read max all c.args.pieces.now c.in-Some.first.now c.in-Some._more.now (factor_lists max c.none-factors.result) (factor_lists max c.read_factor.new.factors) (factor_lists max c.read_on.new.factors) c.in_ok-rest.rest.now c.in_ok-rest-2.rest.now
    c.in-Some.ensures.cases.0 (c.none-factors.ensures max) c.in_ok-rest.ensures.read c.in_ok-rest-2.ensures.read)

-- ---- a product of a sum

pub stream::Stream::read-returns-then-is_empty-clause-term : goal.stream::Stream::read-returns-then-is_empty-clause-term
unfolding stream_left stream_before
stream::Stream::read-returns-then-is_empty-clause-term t c =
    let s = c.args.self.now in
    let max = s.scope.limit in
    let summand = c.in_ok-summand.summand in
    let lists = summand.factors.lists in
    let none = nil_from_length lists.items (omega (arith, lists.ok.0, eqb-true (vec_len lists) 0 (sym c.is_empty.ensures ∙ c.if-is_empty.true))) in
    rw c.take.ensures.value
    (stream_front max s.given s.scope.names.now s.rest.now c.in_ok-summand.rest.now summand.is_minus s.is_minus summand.factors.front (factor_lists max summand.factors) (product_left max s.product) c.in_ok-summand.ensures.read
    (front_alone max summand.factors none) c.requires.done)

pub stream::Stream::read-returns-then-is_empty-clause-list : goal.stream::Stream::read-returns-then-is_empty-clause-list
unfolding stream_left
stream::Stream::read-returns-then-is_empty-clause-list t c = λ e.
    let s = c.args.self.now in
    let max = s.scope.limit in
    let summand = c.in_ok-summand.summand in
    let lists = summand.factors.lists in
    let none = nil_from_length lists.items (omega (arith, lists.ok.0, eqb-true (vec_len lists) 0 (sym c.is_empty.ensures ∙ c.if-is_empty.true))) in
    let gone : c.take.result ≡ None = cc in
    stream_past max s.given s.scope.names.now s.rest.now c.in_ok-summand.rest.now summand.is_minus s.is_minus (factor_lists max summand.factors) (product_left max s.product) c.in_ok-summand.ensures.read
    (front_alone max summand.factors none ∙ ap (λ (o : Option Monomial). map single (option_to_list o)) (sym c.take.ensures.value ∙ gone)) c.requires.done

pub stream::Stream::read-returns-clause-list : goal.stream::Stream::read-returns-clause-list
unfolding stream_left
stream::Stream::read-returns-clause-list t c = λ e.
    let s = c.args.self.now in
    let max = s.scope.limit in
    let summand = c.in_ok-summand.summand in
    stream_read max s.given s.scope.names.now s.rest.now c.in_ok-summand.rest.now summand.is_minus s.is_minus (factor_lists max summand.factors) (product_left max s.product) (product_left max c.in_ok-self.field-0)
    c.in_ok-summand.ensures.read c.requires.done c.in_ok-self.ensures
