use Rattle.std.proofs.Common.{◌≡◌, ℕ, false, ◌+◌, List, [], ◌∷◌, ◌++◌, drop, map, Result, Ok, Err, sym, ap, ◌∙◌, subst, arith}
use Rattle.std.specs.Prelude.{All, sum}
use Rattle.std.specs.Global.{Vec}
use Rattle.std.specs.List.{sum_by}
use Rattle.std.specs.List.Sorted.{IsStrictlySortedBy}
use Rattle.std.specs.Ordering.{on}
use Rattle.std.proofs.lemmas.List.Elements.{All-append, All-cons, All-nil}
use Rattle.form_base.specs.declared.cause.Cause.{Cause}
use Rattle.form_expand.proofs.Called.{none_taken}
use Rattle.form_expand.specs.Calls.{AreCollected}
use Rattle.form_frac.specs.Fraction.{is_zero}
use Rattle.form_term.proofs.ReadBack.{call_arguments, read_back}
use Rattle.form_term.specs.Arguments.{arguments_of, first_summands}
use Rattle.form_term.specs.Calls.{call}
use Rattle.form_term.specs.declared.index.Index.{Index}
use Rattle.form_term.specs.declared.monomial.Monomial.{Monomial}
use Rattle.form_term.specs.declared.piece.Piece.{Piece}
use Rattle.form_term.specs.Monomial.{as_monomial, summands_of}
use Rattle.form_term.specs.Pieces.{size_of_pieces}
use Rattle.form_term.specs.Term.{Argument, AreArguments, Call, IsCall, index, expression, pieces_of_argument, order, size_of_call}
use Rattle.form_flow.specs.Indices.{become, each_made, listed, renamed, renamed_argument, renamed_call}
use Rattle.form_flow.specs.Made.{Collects, IsGiven, and_pieces}
use Rattle.form_flow.specs.Sizes.{weight}
use Rattle.form_flow.proofs.Firsts.{argument_next, argument_refused, behind, behind_none, call_made, call_refused, first_lawful, first_smaller, made_all, made_next, made_refused, none_written, rest_shorter, rest_smaller, still_refused, written}
use Rattle.form_flow.proofs.Renewed.{Calls, all_collected, calls_made, factors_made, functions_refused, index_put, listed_end, listed_next, made_taken, sum_is, sum_put, sum_refused, term_refused, vector_put, word_refused}
use Rattle.form_flow.proofs.Sizes.{first_is_small, one_call, one_term}
use Rattle.form_flow.proofs.renaming.+renaming.Goals as goal

abbrev size_of_all : List Call → ℕ
size_of_all cs = sum (map size_of_call cs)

-- ---- a term

pub renamed-renamed_calls-requires : goal.renamed-renamed_calls-requires
renamed-renamed_calls-requires t c = (omega (arith, ap size_of_all c.functions.ensures, c.decreases), tt)

pub renamed-returns-in-Err : goal.renamed-returns-in-Err
renamed-returns-in-Err t c = λ n small.
    let by = become c.args.renamings.now in
    functions_refused by n c.args.item.now c.in-Err.error small (subst (Calls by (Err c.in-Err.error)) c.functions.ensures c.in-Err.ensures.made)

pub renamed-renamed_calls-requires-2 : goal.renamed-renamed_calls-requires-2
renamed-renamed_calls-requires-2 t c = (omega (arith, ap size_of_all c.word.ensures, c.decreases), tt)

pub renamed-returns-in-Err-renamed_calls : goal.renamed-returns-in-Err-renamed_calls
renamed-returns-in-Err-renamed_calls t c = λ n small.
    let by = become c.args.renamings.now in
    word_refused by n c.args.item.now c.in-Ok.functions c.in-Err-renamed_calls.error small (subst (Calls by (Ok c.in-Ok.functions)) c.functions.ensures c.in-Ok.ensures.made)
    (subst (Calls by (Err c.in-Err-renamed_calls.error)) c.word.ensures c.in-Err-renamed_calls.ensures.made)

pub renamed-returns : goal.renamed-returns
renamed-returns t c = λ n small.
    let by = become c.args.renamings.now in
    factors_made by n c.args.item.now c.in-Ok.functions c.in-Ok-renamed_calls.word c.with_factors.result small (subst (Calls by (Ok c.in-Ok.functions)) c.functions.ensures c.in-Ok.ensures.made)
    (subst (Calls by (Ok c.in-Ok-renamed_calls.word)) c.word.ensures c.in-Ok-renamed_calls.ensures.made) c.with_factors.ensures

-- ---- functions

pub renamed_calls-loop-call-init : goal.renamed_calls-loop-call-init
renamed_calls-loop-call-init t c =
    let by = become c.args.renamings.now in
    let none = sym c.in_ok-list.ensures.items in (
      λ n small. behind_none (calls_made by n c.args.calls.now) ∙ ap (λ (xs : List Call). behind xs (calls_made by n c.args.calls.now)) none,
      subst (All IsCall) none (All-nil IsCall),
    )

pub renamed_calls-renamed_call-requires : goal.renamed_calls-renamed_call-requires
renamed_calls-renamed_call-requires t c =
    (omega (arith, one_call c.args.calls.now c.loop-call.call-index c.call-item.result c.call-item.is c.loop-call-test.true, c.decreases), tt)

pub renamed_calls-returns-in-Err-clause-made : goal.renamed_calls-returns-in-Err-clause-made
renamed_calls-returns-in-Err-clause-made t c = λ n small.
    let by = become c.args.renamings.now in
    let f = renamed_call by (renamed n by) in
    let cs = c.args.calls.now in
    let i = c.loop-call.call-index in
    let here = c.call-item.result in
    still_refused (λ (x : Call). x) (λ (list : Vec Call). list.items) c.in-Err.error (f here) (each_made f cs)
    (λ cause e. made_refused f cs c.loop-call.list.items i (each_made f cs) (c.loop-call.invariant.0 n small) here cause c.loop-call-test.true c.call-item.is e)
    (c.in-Err.ensures.made n (omega (arith, small, one_call cs i here c.call-item.is c.loop-call-test.true)))

pub renamed_calls-loop-call-preserved : goal.renamed_calls-loop-call-preserved
renamed_calls-loop-call-preserved t c =
    let by = become c.args.renamings.now in
    let cs = c.args.calls.now in
    let i = c.loop-call.call-index in
    let here = c.call-item.result in
    let put = sym c.in_ok-push-in-Ok.ensures.items in (
      λ n small.
          let f = renamed_call by (renamed n by) in
          made_next f cs c.loop-call.list.items i (each_made f cs) (c.loop-call.invariant.0 n small) here c.in-Ok.made c.loop-call-test.true c.call-item.is
          (c.in-Ok.ensures.made n (omega (arith, small, one_call cs i here c.call-item.is c.loop-call-test.true)))
          ∙ ap (λ (xs : List Call). behind xs (each_made f (drop (i + 1) cs))) put,
      subst (All IsCall) put (All-append IsCall c.loop-call.list.items (c.in-Ok.made ∷ []) c.loop-call.invariant.1 (All-cons IsCall c.in-Ok.made [] c.in-Ok.ensures.lawful (All-nil IsCall))),
    )

pub renamed_calls-returns-clause-made : goal.renamed_calls-returns-clause-made
renamed_calls-returns-clause-made t c = λ n small.
    let by = become c.args.renamings.now in
    let f = renamed_call by (renamed n by) in
    let cs = c.args.calls.now in
    made_all f cs c.loop-call.list.items c.loop-call.call-index (each_made f cs) (c.loop-call.invariant.0 n small) c.loop-call-test.false

-- ---- a function

pub renamed_call-loop-part-init : goal.renamed_call-loop-part-init
renamed_call-loop-part-init t c =
    let by = become c.args.renamings.now in
    let own = c.pieces-rest.ensures.pieces in
    record {
      so_far = λ n small.
          let made : List Piece → Result (List Piece) Cause = λ (ps : List Piece). written (each_made (renamed_argument by (renamed n by)) (arguments_of ps)) in
          behind_none (made c.args.call.now.pieces) ∙ ap (λ (ps : List Piece). behind [] (made ps)) (sym own) ∙ ap (λ (xs : List Piece). behind xs (made c.pieces-rest.result.now)) (sym c.new-arguments.ensures);
      lawful = subst AreArguments (sym own) (call_arguments c.args.call.now c.pieces-rest.ensures.lawful);
      smaller = omega (arith, ap size_of_pieces own);
    }

pub renamed_call-with_argument-requires : goal.renamed_call-with_argument-requires
renamed_call-with_argument-requires t c =
    let h = c.in-Some.ensures in
    (omega (arith, first_smaller c.loop-part.rest.now c.in-Some.part.now c.in-Some.behind.now h, c.loop-part.invariant.smaller, c.decreases), h.front_lawful)

pub renamed_call-returns-in-Err-clause-made : goal.renamed_call-returns-in-Err-clause-made
renamed_call-returns-in-Err-clause-made t c = λ n small.
    let by = become c.args.renamings.now in
    let make = renamed_argument by (renamed n by) in
    let h = c.in-Some.ensures in
    let rest = c.loop-part.rest.now in
    let part = c.in-Some.part.now in
    let more = c.in-Some.behind.now in
    still_refused (λ (x : List Piece). x) (λ (x : Call). x) c.in-Err.error (and_pieces c.loop-part.arguments (make h.first)) (renamed_call by (renamed n by) c.args.call.now)
    (λ cause e. call_refused (each_made make (arguments_of c.args.call.now.pieces)) c.args.call.now.function cause (c.loop-part.invariant.so_far n small ∙ argument_refused make rest part more h c.loop-part.arguments cause e))
    (c.in-Err.ensures n (omega (arith, small, first_smaller rest part more h, c.loop-part.invariant.smaller)) h.first h.front_is (first_lawful rest part more h c.loop-part.invariant.lawful))

pub renamed_call-loop-part-smaller : goal.renamed_call-loop-part-smaller
renamed_call-loop-part-smaller t c = rest_shorter c.loop-part.rest.now c.in-Some.part.now c.in-Some.behind.now c.in-Some.ensures

pub renamed_call-loop-part-preserved : goal.renamed_call-loop-part-preserved
renamed_call-loop-part-preserved t c =
    let by = become c.args.renamings.now in
    let h = c.in-Some.ensures in
    let rest = c.loop-part.rest.now in
    let part = c.in-Some.part.now in
    let more = c.in-Some.behind.now in
    record {
      so_far = λ n small.
          let make = renamed_argument by (renamed n by) in
          c.loop-part.invariant.so_far n small
          ∙ argument_next make rest part more h c.loop-part.arguments c.in-Ok.more
          (c.in-Ok.ensures n (omega (arith, small, first_smaller rest part more h, c.loop-part.invariant.smaller)) h.first h.front_is (first_lawful rest part more h c.loop-part.invariant.lawful));
      lawful = h.behind_lawful;
      smaller = omega (arith, rest_smaller rest part more h, c.loop-part.invariant.smaller);
    }

pub renamed_call-returns-clause-made : goal.renamed_call-returns-clause-made
renamed_call-returns-clause-made t c = λ n small.
    let by = become c.args.renamings.now in
    let make = renamed_argument by (renamed n by) in
    let ps = c.args.call.now.pieces in
    let done = c.loop-part.arguments in
    call_made (each_made make (arguments_of ps)) c.args.call.now.function done (none_written make ps c.loop-part.rest.now done c.in_default.ensures (c.loop-part.invariant.so_far n small))
    ∙ ap (λ (f : ℕ). Ok (call f done)) (sym c.function.ensures)
    ∙ ap Ok (sym c.in_ok-made.ensures)

-- ---- an argument

pub with_argument-with_sum-requires : goal.with_argument-with_sum-requires
with_argument-with_sum-requires t c = (omega (arith, c.decreases), c.requires)

pub with_argument-returns-then-begins_sum : goal.with_argument-returns-then-begins_sum
with_argument-returns-then-begins_sum t c = λ n small a is lawful.
    let by = become c.args.renamings.now in
    subst (λ (r : Result Argument Cause). IsGiven (λ (x : List Piece). x) c.with_sum.result (and_pieces c.args.arguments r)) (sum_is by (renamed n by) c.args.part.now a lawful is (sym c.begins_sum.ensures ∙ c.if-begins_sum.true)) (c.with_sum.ensures n small)

pub with_argument-returns-in_ok-with_index-in-Some : goal.with_argument-returns-in_ok-with_index-in-Some
with_argument-returns-in_ok-with_index-in-Some t c = λ n small a is lawful.
    let by = become c.args.renamings.now in
    index_put by (renamed n by) c.args.arguments c.in_ok-with_index-in-Some.field-0 c.args.part.now a is c.in-Some.index (sym c.index_alone.ensures ∙ c.in-Some.is)
    (c.in_ok-with_index-in-Some.ensures ∙ ap (λ (i : Index). c.args.arguments ++ pieces_of_argument (index i)) c.renamed_index.ensures)

pub with_argument-returns-in_ok-with_pieces-in-None : goal.with_argument-returns-in_ok-with_pieces-in-None
with_argument-returns-in_ok-with_pieces-in-None t c = λ n small a is lawful.
    let by = become c.args.renamings.now in
    vector_put by (renamed n by) c.args.arguments c.in_ok-with_pieces-in-None.field-0 c.args.part.now a is (sym c.index_alone.ensures ∙ c.in-None.is) (sym c.begins_sum.ensures ∙ c.if-begins_sum.false) c.in_ok-with_pieces-in-None.ensures

pub with_sum-renamed_terms-requires : goal.with_sum-renamed_terms-requires
with_sum-renamed_terms-requires t c =
    let ps = c.args.part.now in
    let terms : c.deref.result.now ≡ map as_monomial (first_summands (arguments_of ps)) = c.deref.ensures.value ∙ c.in_ok-terms.ensures.first in
    (omega (arith, ap (sum_by weight) terms, first_is_small (arguments_of ps) ps (read_back ps c.requires).0, c.decreases), tt)

pub with_sum-with_expression-requires-clause-rising : goal.with_sum-with_expression-requires-clause-rising
with_sum-with_expression-requires-clause-rising t c =
    let all = c.in-Ok.ensures (sum_by weight c.deref.result.now) (omega arith) in
    subst (IsStrictlySortedBy (on (λ (m : Monomial). m.term) order)) (sym c.deref-in-Ok.ensures.value) all.rising

pub with_sum-with_expression-requires-clause-present : goal.with_sum-with_expression-requires-clause-present
with_sum-with_expression-requires-clause-present t c =
    let all = c.in-Ok.ensures (sum_by weight c.deref.result.now) (omega arith) in
    subst (All (λ (m : Monomial). is_zero m.coefficient ≡ false)) (sym c.deref-in-Ok.ensures.value) all.present

pub with_sum-returns-in_ok-with_expression-in-Ok : goal.with_sum-returns-in_ok-with_expression-in-Ok
with_sum-returns-in_ok-with_expression-in-Ok t c = λ n small.
    let make = renamed n (become c.args.renamings.now) in
    let ps = c.args.part.now in
    let own = map as_monomial (first_summands (arguments_of ps)) in
    let terms : c.deref.result.now ≡ own = c.deref.ensures.value ∙ c.in_ok-terms.ensures.first in
    let given = c.in-Ok.ensures n (omega (arith, small, ap (sum_by weight) terms, first_is_small (arguments_of ps) ps (read_back ps c.requires).0)) in
    sum_put c.args.arguments c.in_ok-with_expression-in-Ok.field-0 c.in-Ok.made.items (listed make own)
    (subst (λ (ms : List Monomial). AreCollected c.in-Ok.made.items (listed make ms)) terms given)
    (c.in_ok-with_expression-in-Ok.ensures ∙ ap (λ (ms : List Monomial). c.args.arguments ++ pieces_of_argument (expression (summands_of ms))) c.deref-in-Ok.ensures.value)

pub with_sum-returns-in-Err : goal.with_sum-returns-in-Err
with_sum-returns-in-Err t c = λ n small.
    let make = renamed n (become c.args.renamings.now) in
    let ps = c.args.part.now in
    let own = map as_monomial (first_summands (arguments_of ps)) in
    let terms : c.deref.result.now ≡ own = c.deref.ensures.value ∙ c.in_ok-terms.ensures.first in
    let given = c.in-Err.ensures n (omega (arith, small, ap (sum_by weight) terms, first_is_small (arguments_of ps) ps (read_back ps c.requires).0)) in
    sum_refused (λ (x : List Piece). x) c.args.arguments c.in-Err.error (listed make own) (subst (λ (ms : List Monomial). Collects (Err c.in-Err.error) (listed make ms)) terms given)

-- ---- the terms of an argument

pub renamed_terms-loop-term-init : goal.renamed_terms-loop-term-init
renamed_terms-loop-term-init t c = λ n small. none_taken c.new-collector.result (listed (renamed n (become c.args.renamings.now)) c.args.terms.now) c.new-collector.ensures

pub renamed_terms-renamed-requires : goal.renamed_terms-renamed-requires
renamed_terms-renamed-requires t c =
    (omega (arith, one_term c.args.terms.now c.loop-term.term-index c.term-item.result c.term-item.is c.loop-term-test.true, c.decreases), tt)

pub renamed_terms-returns-in-Err : goal.renamed_terms-returns-in-Err
renamed_terms-returns-in-Err t c = λ n small.
    let make = renamed n (become c.args.renamings.now) in
    let ms = c.args.terms.now in
    let i = c.loop-term.term-index in
    let m = c.term-item.result in
    term_refused c.loop-term.collector (listed make ms) (listed make (drop i ms)) (c.loop-term.invariant n small) (listed make (drop (i + 1) ms)) (make m) c.in-Err.error
    (listed_next make ms i m c.loop-term-test.true c.term-item.is)
    (c.in-Err.ensures n (omega (arith, small, one_term ms i m c.term-item.is c.loop-term-test.true)))

pub renamed_terms-loop-term-preserved : goal.renamed_terms-loop-term-preserved
renamed_terms-loop-term-preserved t c = λ n small.
    let make = renamed n (become c.args.renamings.now) in
    let ms = c.args.terms.now in
    let i = c.loop-term.term-index in
    let m = c.term-item.result in
    let h = c.loop-term.invariant n small in
    made_taken c.loop-term.collector (listed make ms) (listed make (drop i ms)) h c.add_made.new.collector (listed make (drop (i + 1) ms)) (make m) c.in-Ok.made
    (listed_next make ms i m c.loop-term-test.true c.term-item.is)
    (c.in-Ok.ensures n (omega (arith, small, one_term ms i m c.term-item.is c.loop-term-test.true)))
    (c.in_ok-add_made-in-Ok.ensures h.done h.stands)

pub renamed_terms-returns : goal.renamed_terms-returns
renamed_terms-returns t c = λ n small.
    let make = renamed n (become c.args.renamings.now) in
    let ms = c.args.terms.now in
    let i = c.loop-term.term-index in
    all_collected c.loop-term.collector (listed make ms) (listed make (drop i ms)) (c.loop-term.invariant n small) c.terms_of.result (listed_end make ms i c.loop-term-test.false) c.terms_of.ensures
