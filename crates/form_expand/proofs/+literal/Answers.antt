use Rattle.std.proofs.Common.{◌≡◌, [], ◌∷◌, ◌++◌, length, drop, SFits, w32, eqb-true, sym, ap, subst, ◌∙◌, arith, rules}
use Rattle.std.proofs.lemmas.Int.{to_z-of_z}
use Rattle.std.specs.Prelude.{Ok}
use Rattle.std.proofs.lemmas.List.{nil_from_length}
use Rattle.form_term.specs.Term.{index, vector, pieces_of_argument}
use Rattle.form_expand.specs.Listing.{limited, followed}
use Rattle.form_expand.specs.Literals.{IsTimes}
use Rattle.form_expand.specs.Numbers.{number_list, symbol_list}
use Rattle.form_expand.specs.Pieces.{list_of_piece}
use Rattle.form_expand.specs.Reading.{list_of_pieces}
use Rattle.form_expand.specs.Singles.{list_of_call}
use Rattle.form_expand.specs.Walks.{all_of}
use Rattle.form_expand.proofs.Called.{index_read, vector_read, field_read, expression_ended, expression_read}
use Rattle.form_expand.proofs.LiteralCalls.{none_argued, one_argued, all_argued, argument_read, sum_argued, collected_kept}
use Rattle.form_expand.proofs.Literals.{IsReadTo, first_taken, next_taken, literal_read, taken_behind, taken_wild, call_taken_from, within_taken}
use Rattle.form_expand.proofs.LiteralSums.{sum_more, sum_done, sum_alone}
use Rattle.form_expand.proofs.Parenthesized.{ends_here, ends_empty, ends_within, drop_next}
use Rattle.form_expand.proofs.+literal.Goals as goal

pub literal::read_literal-loop-piece-init : goal.literal::read_literal-loop-piece-init
literal::read_literal-loop-piece-init t c =
    let max = c.args.limit in
    let all = c.args.names.now in
    let ps = c.args.pieces.now in
    let front = c.take.new.front in
    let rest = c.in-Some-2.rest.now in
    let taken = rw c.in-Some-2.is at c.in_ok-rest.ensures in
    subst (λ b. IsReadTo max all ps b front rest) (sym c.is_subtracted-is_minus.ensures)
    (first_taken max all ps c.in-Some.first.now c.in-Some.more.now c.unit-term.result front rest c.in-Some.ensures.cases.0 c.unit-term.ensures taken)

pub literal::read_literal-returns-then-begins : goal.literal::read_literal-returns-then-begins
literal::read_literal-returns-then-begins t c =
    let rest = c.loop-piece.rest.now in
    literal_read c.args.limit c.args.names.now c.args.pieces.now c.is_subtracted-is_minus.result c.loop-piece.term rest c.loop-piece.invariant
    (ends_here rest c.in-Some-split_first.piece.now c.in-Some-split_first.more.now c.in-Some-split_first.ensures.cases.0 (sym c.begins.ensures ∙ c.if-begins.true))

pub literal::read_literal-loop-piece-smaller : goal.literal::read_literal-loop-piece-smaller
literal::read_literal-loop-piece-smaller t c =
    let taken = rw c.in-Some-3.is at c.in_ok-behind.ensures in
    omega (arith, taken.shorter, c.in-Some-split_first.ensures.cases.1)

pub literal::read_literal-loop-piece-preserved : goal.literal::read_literal-loop-piece-preserved
literal::read_literal-loop-piece-preserved t c =
    let taken = rw c.in-Some-3.is at c.in_ok-behind.ensures in
    next_taken c.args.limit c.args.names.now c.args.pieces.now c.is_subtracted-is_minus.result c.in-Some-split_first.piece.now c.in-Some-split_first.more.now c.loop-piece.term c.take-in-Some-split_first.new.front c.loop-piece.rest.now c.in-Some-3.behind.now
    c.in-Some-split_first.ensures.cases.0 (sym c.begins.ensures ∙ c.if-begins.false) c.loop-piece.invariant taken

pub literal::read_literal-returns : goal.literal::read_literal-returns
literal::read_literal-returns t c =
    let rest = c.loop-piece.rest.now in
    literal_read c.args.limit c.args.names.now c.args.pieces.now c.is_subtracted-is_minus.result c.loop-piece.term rest c.loop-piece.invariant (ends_empty rest c.in_default-split_first.ensures.cases)

pub literal::take-returns-in_ok-take_number-in-Number : goal.literal::take-returns-in_ok-take_number-in-Number
literal::take-returns-in_ok-take_number-in-Number t c =
    let all = c.args.names.now in
    let fits : SFits w32 c.in-Number.power = search rules in
    let times = rw (c.get.ensures, to_z-of_z w32 c.in-Number.power fits) at c.in_ok-take_number-in-Number.ensures in
    taken_behind c.args.limit all c.behind.result c.in_ok-take_number-in-Number.field-0 c.args.piece.now (number_list c.in-Number.value c.in-Number.power) c.args.more.now c.args.front.now c.take_number.new.front c.behind.ensures
    (ap (list_of_piece all) c.in-Number.is) (λ e. times (ap Ok e))

pub literal::take-returns-in_ok-take_symbol-in-Symbol : goal.literal::take-returns-in_ok-take_symbol-in-Symbol
literal::take-returns-in_ok-take_symbol-in-Symbol t c =
    let all = c.args.names.now in
    let fits : SFits w32 c.in-Symbol.power = search rules in
    let times = rw (to_z-of_z w32 c.in-Symbol.power fits) at c.in_ok-take_symbol-in-Symbol.ensures in
    taken_behind c.args.limit all c.behind-in-Symbol.result c.in_ok-take_symbol-in-Symbol.field-0 c.args.piece.now (symbol_list c.in-Symbol.symbol c.in-Symbol.power) c.args.more.now c.args.front.now c.take_symbol.new.front c.behind-in-Symbol.ensures
    (ap (list_of_piece all) c.in-Symbol.is) (λ e. times (ap Ok e))

pub literal::take-returns-in-Function : goal.literal::take-returns-in-Function
literal::take-returns-in-Function t c =
    call_taken_from c.args.limit c.args.names.now c.take_function.result c.args.piece.now c.in-Function.link c.in-Function.function c.function-function.result c.in-Function.is_commuting c.args.more.now c.args.front.now c.take_function.new.front
    c.in-Function.is c.function-function.ensures c.take_function.ensures

-- a wildcard that stands for a number
pub literal::take-returns-in_ok-take_wild-in-Wild : goal.literal::take-returns-in_ok-take_wild-in-Wild
literal::take-returns-in_ok-take_wild-in-Wild t c =
    let fits : SFits w32 c.in-Wild.power = search rules in
    let one = rw (to_z-of_z w32 c.in-Wild.power fits) at c.in_ok-take_wild-in-Wild.ensures.one in
    let times = rw (to_z-of_z w32 c.in-Wild.power fits) at c.in_ok-take_wild-in-Wild.ensures.times in
    taken_wild c.args.limit c.args.names.now c.behind-in-Wild.result c.in_ok-take_wild-in-Wild.field-0 c.args.piece.now c.in-Wild.link c.in-Wild.symbol c.in-Wild.is_over c.in-Wild.power c.args.more.now c.args.front.now c.take_wild.new.front
    c.in-Wild.is c.behind-in-Wild.ensures (λ e. one (ap Ok e)) (λ e. times (ap Ok e))

pub literal::take_function-split_at-requires : goal.literal::take_function-split_at-requires
literal::take_function-split_at-requires t c =
    let closes = c.in-Some.ensures in
    omega (arith, ends_within c.args.names.now c.args.pieces.now c.in-Some.len _ closes)

pub literal::take_function-split_at-requires-2 : goal.literal::take_function-split_at-requires-2
literal::take_function-split_at-requires-2 t c =
    let closes = c.in-Some.ensures in
    omega (arith, ends_within c.args.names.now c.args.pieces.now c.in-Some.len _ closes, c.split_at.ensures.back_len)

pub literal::take_function-returns : goal.literal::take_function-returns
literal::take_function-returns t c =
    let closes = c.in-Some.ensures in
    let argued = rw c.in-Some-2.is at c.in_ok-arguments.ensures in
    let ps = c.args.pieces.now in
    let len = c.in-Some.len in
    let times = subst (λ k. IsTimes (list_of_call c.args.is_commuting k) c.args.front.now c.take_call.new.front) c.in_ok-call.ensures (c.in_ok-take_call.ensures (ap Ok c.if-not-branch.false)) in
    within_taken c.args.limit c.args.names.now c.args.function c.args.is_commuting c.in-Some-2.arguments ps c.split_at.result.0.now c.split_at-2.result.1.now len c.args.front.now c.take_call.new.front closes c.split_at.ensures.front
    (c.split_at-2.ensures.back ∙ ap (drop 1) c.split_at.ensures.back ∙ drop_next len ps) argued times (omega (arith, c.split_at.ensures.back_len, c.split_at-2.ensures.back_len))

pub literal_arguments::literal_arguments-loop-rest-init : goal.literal_arguments::literal_arguments-loop-rest-init
literal_arguments::literal_arguments-loop-rest-init t c = none_argued c.args.limit c.args.names.now c.args.pieces.now c.in_ok-arguments.arguments c.in_ok-arguments.ensures

pub literal_arguments::literal_arguments-loop-rest-smaller : goal.literal_arguments::literal_arguments-loop-rest-smaller
literal_arguments::literal_arguments-loop-rest-smaller t c = (rw c.in-Some.is at c.in_ok-read.ensures).shorter

pub literal_arguments::literal_arguments-loop-rest-preserved : goal.literal_arguments::literal_arguments-loop-rest-preserved
literal_arguments::literal_arguments-loop-rest-preserved t c =
    let read = rw c.in-Some.is at c.in_ok-read.ensures in
    one_argued c.args.limit c.args.names.now c.args.pieces.now c.loop-rest.arguments c.in-Some.read c.loop-rest.rest.now c.in-Some.behind.now c.loop-rest.invariant read

pub literal_arguments::literal_arguments-returns : goal.literal_arguments::literal_arguments-returns
literal_arguments::literal_arguments-returns t c =
    let rest = c.loop-rest.rest.now in
    let none = nil_from_length rest (eqb-true (length rest) 0 (sym c.is_empty.ensures ∙ c.loop-rest-test.false)) in
    all_argued c.args.limit c.args.names.now c.args.pieces.now c.loop-rest.arguments rest none c.loop-rest.invariant

pub literal_arguments::read_one-returns-in_ok-with_index-in-Index : goal.literal_arguments::read_one-returns-in_ok-with_index-in-Index
literal_arguments::read_one-returns-in_ok-with_index-in-Index t c = record {
  further = λ f k args e.
      index_read c.args.limit c.args.names.now f k c.args.arguments c.in_ok-with_index-in-Index.field-0 args e c.in-Index.index c.args.pieces.now c.in-Some.more.now (c.in-Some.ensures.cases.0 ∙ ap (λ p. p ∷ c.in-Some.more.now) c.in-Index.is) (c.in_ok-with_index-in-Index.ensures ∙ ap (λ i. c.args.arguments ++ pieces_of_argument (index i)) c.index.ensures);
  shorter = omega (arith, c.in-Some.ensures.cases.1);
}

pub literal_arguments::read_one-returns-in_ok-with_vector-in-Vector : goal.literal_arguments::read_one-returns-in_ok-with_vector-in-Vector
literal_arguments::read_one-returns-in_ok-with_vector-in-Vector t c = record {
  further = λ f k args e.
      vector_read c.args.limit c.args.names.now f k c.args.arguments c.in_ok-with_vector-in-Vector.field-0 args e c.in-Vector.vector c.args.pieces.now c.in-Some.more.now (c.in-Some.ensures.cases.0 ∙ ap (λ p. p ∷ c.in-Some.more.now) c.in-Vector.is) (c.in_ok-with_vector-in-Vector.ensures ∙ ap (λ v. c.args.arguments ++ pieces_of_argument (vector v)) c.vector.ensures);
  shorter = omega (arith, c.in-Some.ensures.cases.1);
}

pub literal_arguments::read_one-returns-in_ok-with_pieces-in-Field : goal.literal_arguments::read_one-returns-in_ok-with_pieces-in-Field
literal_arguments::read_one-returns-in_ok-with_pieces-in-Field t c = record {
  further = λ f k args e.
      field_read c.args.limit c.args.names.now f k c.args.arguments c.in_ok-with_pieces-in-Field.field-0 args e c.in-Field.field c.args.pieces.now c.in-Some.more.now (c.in-Some.ensures.cases.0 ∙ ap (λ p. p ∷ c.in-Some.more.now) c.in-Field.is) (c.in_ok-with_pieces-in-Field.ensures ∙ ap (λ ps. c.args.arguments ++ ps) c.field.ensures.pieces);
  shorter = omega (arith, c.in-Some.ensures.cases.1);
}

-- an argument of one piece
pub literal_arguments::read_one-returns-in_ok-with_lone-in-Some-lone_argument : goal.literal_arguments::read_one-returns-in_ok-with_lone-in-Some-lone_argument
literal_arguments::read_one-returns-in_ok-with_lone-in-Some-lone_argument t c =
    let new = c.in_ok-with_lone-in-Some-lone_argument.field-0 in
    argument_read c.args.limit c.args.names.now c.args.pieces.now c.in-Some.piece.now c.in-Some.more.now c.args.arguments new c.in-Some-lone_argument.rest.now c.in-Some.ensures.cases.0 c.in-Argument.is
    (c.in-Some-lone_argument.ensures.read c.args.arguments new c.in_ok-with_lone-in-Some-lone_argument.ensures)

pub literal_arguments::read_one-returns-in-None : goal.literal_arguments::read_one-returns-in-None
literal_arguments::read_one-returns-in-None t c =
    sum_argued c.args.limit c.args.names.now c.read_sum.result c.args.pieces.now c.in-Some.piece.now c.in-Some.more.now c.args.arguments c.in-Some.ensures.cases.0 c.in-Argument.is c.read_sum.ensures

pub literal_arguments::few_collected-returns : goal.literal_arguments::few_collected-returns
literal_arguments::few_collected-returns t c =
    collected_kept c.in_ok-collected.collected c.in-Some-2.terms.items (list_of_pieces c.args.limit c.args.names.now c.args.pieces.now) (rw c.in-Some-2.is at c.in_ok-terms.ensures) c.collected_lists.ensures.rising c.collected_lists.ensures.present c.in_ok-collected.ensures.some

pub literal_arguments::read_sum-split_at-requires : goal.literal_arguments::read_sum-split_at-requires
literal_arguments::read_sum-split_at-requires t c =
    omega (arith, ends_within c.args.names.now c.args.pieces.now c.in-Some.len _ (sym c.closing.ensures ∙ c.in-Some.is))

pub literal_arguments::read_sum-split_at-requires-2 : goal.literal_arguments::read_sum-split_at-requires-2
literal_arguments::read_sum-split_at-requires-2 t c =
    omega (arith, ends_within c.args.names.now c.args.pieces.now c.in-Some.len _ (sym c.closing.ensures ∙ c.in-Some.is), c.split_at.ensures.back_len)

pub literal_arguments::read_sum-returns : goal.literal_arguments::read_sum-returns
literal_arguments::read_sum-returns t c =
    let same : c.deref.result.now ≡ c.in-Some-2.terms.items = search rules in
    let max = c.args.limit in
    let all = c.args.names.now in
    let within = c.split_at.result.0.now in
    let rest = c.split_at-2.result.1.now in
    let collected = rw c.in-Some-2.is at c.in_ok-terms.ensures in
    record {
      further = λ f k args e.
          expression_read max all f k c.args.arguments c.in_ok-with_expression.field-0 args e _ (list_of_pieces max all within) c.in-Some-2.terms.items rest
          (expression_ended max all f k args c.args.pieces.now within rest c.in-Some.len _ (sym c.closing.ensures ∙ c.in-Some.is) c.split_at.ensures.front (c.split_at-2.ensures.back ∙ ap (drop 1) c.split_at.ensures.back ∙ drop_next c.in-Some.len c.args.pieces.now))
          collected.argument (rw same at c.in_ok-with_expression.ensures);
      shorter = omega (arith, c.split_at.ensures.back_len, c.split_at-2.ensures.back_len);
    }

pub literal_arguments::few_terms-returns : goal.literal_arguments::few_terms-returns
literal_arguments::few_terms-returns t c = sum_alone c.args.limit c.args.names.now c.literal_terms.result c.args.pieces.now c.new.result.items c.new.ensures.items c.literal_terms.ensures

pub literal_sum::literal_terms-loop-rest-smaller : goal.literal_sum::literal_terms-loop-rest-smaller
literal_sum::literal_terms-loop-rest-smaller t c = (rw c.in-Some.is at c.in_ok-literal.ensures).shorter

pub literal_sum::literal_terms-loop-rest-preserved : goal.literal_sum::literal_terms-loop-rest-preserved
literal_sum::literal_terms-loop-rest-preserved t c =
    let max = c.args.limit in
    let all = c.args.names.now in
    let made = c.loop-rest.made.items in
    let literal = rw c.in-Some.is at c.in_ok-literal.ensures in
    sum_more max all (limited max (followed (all_of c.args.terms.items) (list_of_pieces max all c.args.pieces.now))) made c.push.new.self.items c.loop-rest.rest.now c.in-Some.behind.now c.in-Some.literal literal.list c.loop-rest.invariant
    (◌∙◌ {b = made ++ c.into_term.result ∷ []} c.in_ok-push.ensures.items (ap (λ m. made ++ m ∷ []) c.into_term.ensures))

pub literal_sum::literal_terms-returns : goal.literal_sum::literal_terms-returns
literal_sum::literal_terms-returns t c =
    let rest = c.loop-rest.rest.now in
    let max = c.args.limit in
    let all = c.args.names.now in
    sum_done max all (limited max (followed (all_of c.args.terms.items) (list_of_pieces max all c.args.pieces.now))) rest c.loop-rest.made.items
    (nil_from_length rest (eqb-true (length rest) 0 (sym c.is_empty.ensures ∙ c.loop-rest-test.false)))
    (omega (arith, c.loop-rest.made.ok.0, c.len.ensures, c.if-len-limit.false)) c.loop-rest.invariant
