use Rattle.std.proofs.Common.{◌++◌, string_bytes, sym, ap, ◌∙◌, arith, append-nil}
use Rattle.form_print.specs.Joined.{is_first_behind, starred}
use Rattle.form_print.specs.Printing.{function_texts}
use Rattle.form_print.proofs.Joined.{empty, first_by_one, followed_first, next_function, one_function}
use Rattle.form_print.proofs.call.push_functions.Goals as goal

pub loop-function-preserved-then-is_followed : goal.loop-function-preserved-then-is_followed
loop-function-preserved-then-is_followed c =
    let names = c.args.names.now in
    let first = c.loop-function.first in
    let times = c.loop-function.times in
    let text = string_bytes c.loop-function.text in
    let follows = sym c.is_followed.ensures ∙ c.if-is_followed.true in (
      ap (λ fs. text ++ starred first fs) (sym (next_function names times c.in-Some.function.now c.in-Some.later.now follows))
          ∙ ap (λ r. text ++ starred first (function_texts names times r)) (sym c.in-Some.ensures.cases.0)
          ∙ c.loop-function.invariant.0,
      followed_first c.in-Some.function.now c.in-Some.later.now first follows
          ∙ ap (is_first_behind first) (sym c.in-Some.ensures.cases.0)
          ∙ c.loop-function.invariant.1,
      omega (arith, c.loop-function.invariant.2, c.in-Some.ensures.cases.1),
    )

pub loop-function-preserved : goal.loop-function-preserved
loop-function-preserved c =
    let names = c.args.names.now in
    let first = c.loop-function.first in
    let times = c.loop-function.times in
    let text = string_bytes c.loop-function.text in (
      one_function names times c.in-Some.function.now c.in-Some.later.now text _ _ _ first (sym c.is_followed.ensures ∙ c.if-is_followed.false)
          c.in_ok-push_star.ensures c.in_ok-push.ensures c.in_ok-push_times.ensures
          ∙ ap (λ r. text ++ starred first (function_texts names times r)) (sym c.in-Some.ensures.cases.0)
          ∙ c.loop-function.invariant.0,
      first_by_one c.in-Some.later.now
          ∙ ap (is_first_behind first) (sym c.in-Some.ensures.cases.0)
          ∙ c.loop-function.invariant.1,
      omega (arith, c.loop-function.invariant.2, c.in-Some.ensures.cases.1),
    )

pub returns-clause-put : goal.returns-clause-put
returns-clause-put c =
    let text = string_bytes c.loop-function.text in
    sym (append-nil text)
    ∙ ap (λ r. text ++ starred c.loop-function.first (function_texts c.args.names.now c.loop-function.times r)) (sym (empty c.loop-function.rest.now c.in_default.ensures.cases))
    ∙ c.loop-function.invariant.0

pub returns-clause-first : goal.returns-clause-first
returns-clause-first c =
    ap (is_first_behind c.loop-function.first) (sym (empty c.loop-function.rest.now c.in_default.ensures.cases))
    ∙ c.loop-function.invariant.1
