use Rattle.std.proofs.Common.{◌+◌, ◌++◌, string_bytes, sym, ap, ◌∙◌, arith, append-nil, lt-ltb, le-ltb}
use Rattle.form_print.specs.Arguments.{is_repeated, text_behind}
use Rattle.form_print.proofs.Passing.{nothing_left, over_function, over_one, piece_put}
use Rattle.form_print.proofs.arguments.push_arguments.Goals as goal

pub loop-piece-preserved-then-passed-gt0 : goal.loop-piece-preserved-then-passed-gt0
loop-piece-preserved-then-passed-gt0 c =
    let names = c.args.names.now in
    let before = c.loop-piece.before in
    let passed = c.loop-piece.passed in
    let times = c.loop-piece.times in
    let opened = c.loop-piece.opened.items in
    let text = string_bytes c.loop-piece.text in (
      ap (λ r. text ++ r) (sym (over_one names before passed times opened c.in-Some.piece.now c.in-Some.later.now (lt-ltb 0 passed c.if-passed-gt0.true)))
          ∙ ap (λ r. text ++ text_behind names before passed times opened r) (sym c.in-Some.ensures.cases.0)
          ∙ c.loop-piece.invariant.0,
      omega (arith, c.loop-piece.invariant.1, c.in-Some.ensures.cases.1),
    )

pub loop-piece-preserved-then-is_repeated : goal.loop-piece-preserved-then-is_repeated
loop-piece-preserved-then-is_repeated c =
    let names = c.args.names.now in
    let before = c.loop-piece.before in
    let passed = c.loop-piece.passed in
    let times = c.loop-piece.times in
    let opened = c.loop-piece.opened.items in
    let text = string_bytes c.loop-piece.text in (
      ap (λ n. text ++ text_behind names before n (times + 1) opened c.in-Some.later.now) c.length_of_arguments-passed.ensures.length
          ∙ ap (λ r. text ++ r) (sym (over_function names before passed times opened c.in-Some.piece.now c.in-Some.later.now (le-ltb 0 passed c.if-passed-gt0.false)
          (ap is_repeated (sym c.in-Some.ensures.cases.0) ∙ sym c.is_repeated.ensures ∙ c.if-is_repeated.true)))
          ∙ ap (λ r. text ++ text_behind names before passed times opened r) (sym c.in-Some.ensures.cases.0)
          ∙ c.loop-piece.invariant.0,
      omega (arith, c.loop-piece.invariant.1, c.in-Some.ensures.cases.1),
    )

pub loop-piece-preserved : goal.loop-piece-preserved
loop-piece-preserved c =
    let names = c.args.names.now in
    let before = c.loop-piece.before in
    let passed = c.loop-piece.passed in
    let times = c.loop-piece.times in
    let opened = c.loop-piece.opened.items in
    let text = string_bytes c.loop-piece.text in (
      piece_put names before passed times opened c.in-Some.piece.now c.in-Some.later.now text (string_bytes c.push_piece.new.text) c.deref.result.now c.put_open.new.opened.items
          (le-ltb 0 passed c.if-passed-gt0.false) (omega (arith, c.if-passed-gt0.false))
          (ap is_repeated (sym c.in-Some.ensures.cases.0) ∙ sym c.is_repeated.ensures ∙ c.if-is_repeated.false)
          c.deref.ensures.value c.in_ok-push_piece.ensures c.in_ok-put_open.ensures
          ∙ ap (λ r. text ++ text_behind names before passed times opened r) (sym c.in-Some.ensures.cases.0)
          ∙ c.loop-piece.invariant.0,
      omega (arith, c.loop-piece.invariant.1, c.in-Some.ensures.cases.1),
    )

pub returns : goal.returns
returns c =
    let text = string_bytes c.loop-piece.text in
    sym (append-nil text)
    ∙ ap (λ r. text ++ r) (sym (nothing_left c.args.names.now c.loop-piece.before c.loop-piece.passed c.loop-piece.times c.loop-piece.opened.items c.loop-piece.rest.now c.in_default.ensures.cases))
    ∙ c.loop-piece.invariant.0
