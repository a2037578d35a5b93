use Rattle.std.proofs.Common.{◌≡◌, ◌+◌, ◌<◌, List, [], ◌∷◌, ◌++◌, length, refl, take, drop, eqb-true, false, sym, ap, subst, ◌∙◌, arith, rules}
use Rattle.std.specs.Prelude.{All}
use Rattle.std.specs.List.Sorted.{IsStrictlySortedBy}
use Rattle.std.specs.Ordering.{on}
use Rattle.std.proofs.lemmas.Bool.{OnTrue_at}
use Rattle.std.proofs.lemmas.List.{nil_from_length}
use Rattle.std.proofs.lemmas.Result.{IfOk-weaker}
use Rattle.form_frac.specs.Fraction.{is_zero}
use Rattle.form_term.specs.declared.monomial.Monomial.{Monomial}
use Rattle.form_term.specs.Term.{index, order, vector, pieces_of_argument}
use Rattle.form_expand.specs.Left.{row}
use Rattle.form_expand.specs.Reading.{begins, begins_product, list_of_pieces}
use Rattle.form_expand.specs.Singles.{list_of_call}
use Rattle.form_expand.proofs.Called.{expression_ended, expression_read, index_read, vector_read}
use Rattle.form_expand.proofs.Parenthesized.{drop_next, ends_here, ends_empty}
use Rattle.form_gathered.specs.declared.joined.JoinedTerm.{JoinedTerm}
use Rattle.form_joined.specs.Products.{HasList}
use Rattle.form_sides.specs.Arguments.{AreArgued, ReadsArgument, ReadsFunction, argues_shorter}
use Rattle.form_sides.specs.Collected.{HasTerms}
use Rattle.form_sides.specs.Parts.{ReadsParenthesis, ReadsPart, is_no_longer, is_shorter}
use Rattle.form_sides.specs.Products.{HavePairs}
use Rattle.form_sides.proofs.Arguing.{all_argued, argued_shorter, argument_begun, argument_has, call_read, called_shorter, function_read}
use Rattle.form_sides.proofs.Pairing.{table_collected}
use Rattle.form_sides.proofs.Reading.{ended_within, front_first, front_more, open_read, parenthesis_read, part_more, part_none, powered_shorter, shorter_behind, sum_read}
use Rattle.form_sides.proofs.sums.+sides.Goals as goal

-- ---- sums

pub sum-loop-rest-init : goal.sum-loop-rest-init
sum-loop-rest-init t c = part_none c.args.limit c.args.names.now c.args.pieces.now c.new-made.result.items c.new-made.ensures.items

pub sum-loop-rest-smaller : goal.sum-loop-rest-smaller
sum-loop-rest-smaller t c = rw c.in-Further.is at c.in_ok-list.ensures.shorter

pub sum-loop-rest-preserved : goal.sum-loop-rest-preserved
sum-loop-rest-preserved t c =
    part_more c.args.limit c.args.names.now c.args.pieces.now c.loop-rest.rest.now c.in-Further.behind.now c.loop-rest.made.items c.in-Further.list.items c.append.new.self.items
    c.in_ok-append-in-Further.ensures.items c.loop-rest.invariant (rw c.in-Further.is at c.in_ok-list.ensures.read)

pub sum-returns : goal.sum-returns
sum-returns t c =
    let none = eqb-true (length c.loop-rest.rest.now) 0 (sym c.is_empty.ensures ∙ c.loop-rest-test.false) in
    sum_read c.args.limit c.args.names.now c.args.pieces.now c.loop-rest.rest.now c.loop-rest.made.items c.together_within.result none c.loop-rest.invariant c.together_within.ensures

pub terms_of-returns : goal.terms_of-returns
terms_of-returns t c =
    table_collected c.in-Some.list.items c.new-table.result c.add_each.new.table (list_of_pieces c.args.limit c.args.names.now c.args.pieces.now) c.in_ok-into_terms.field-0 c.new-table.ensures
    (rw c.in-Some.is at c.in_ok-list.ensures) (OnTrue_at c.if-not-branch.false c.in_ok-add_each.ensures) c.joined_lists.ensures.sums c.in_ok-into_terms.ensures

-- ---- products

pub product-returns-in_ok-read-in-Further-clause-read : goal.product-returns-in_ok-read-in-Further-clause-read
product-returns-in_ok-read-in-Further-clause-read t c =
    let max = c.args.limit in
    let all = c.args.names.now in
    let piece = c.in-Some.piece.now in
    let more = c.in-Some.more.now in
    let minus = c.in-Some-link_of.ensures.1 in
    let first = front_first max all piece more c.in-Further.rest.now c.in-Further.front.items (rw c.in-Further.is at c.in_ok-front.ensures.read) in
    let front = c.in_ok-read-in-Further.ensures.read piece more first in
    IfOk-weaker c.signed.result _ (ReadsPart max all c.args.pieces.now) (λ new s. rw c.in-Some.ensures.cases.0 (s max all piece more minus front)) c.signed.ensures.read

pub product-returns-in_ok-read-in-Further-clause-shorter : goal.product-returns-in_ok-read-in-Further-clause-shorter
product-returns-in_ok-read-in-Further-clause-shorter t c =
    let rest = c.in-Further.rest.now in
    let less : length rest < length c.args.pieces.now = omega (arith, rw c.in-Further.is at c.in_ok-front.ensures.shorter, c.in-Some.ensures.cases.1) in
    IfOk-weaker c.signed.result _ (is_shorter c.args.pieces.now) (λ new h. shorter_behind c.args.pieces.now rest less new h) (c.signed.ensures.shorter rest c.in_ok-read-in-Further.ensures.shorter)

-- ---- further factors

pub further-loop-piece-init : goal.further-loop-piece-init
further-loop-piece-init t c = record { front = λ piece more h. h; shorter = omega arith }

pub further-loop-piece-smaller : goal.further-loop-piece-smaller
further-loop-piece-smaller t c = omega (arith, rw c.in-Further.is at c.in_ok-list.ensures.shorter, c.in-Some.ensures.cases.1)

pub further-loop-piece-preserved : goal.further-loop-piece-preserved
further-loop-piece-preserved t c =
    let max = c.args.limit in
    let all = c.args.names.now in
    let next = c.in-Some.piece.now in
    let behind = c.in-Some.more.now in
    let fronts = c.loop-piece.front.items in
    let ls = c.in-Some-2.all.items in
    let further : begins_product next ≡ false = c.in-Some-link_of.ensures.0 ∙ ap begins c.in-Times.is in
    let factor = rw c.in-Further.is at c.in_ok-list.ensures.read in
    let pairs : HavePairs max fronts c.in-Further.list.items ls = subst (λ (ks : List JoinedTerm). HavePairs max fronts ks ls) (search rules) (rw c.in-Some-2.is at c.in_ok-all-in-Further.ensures) in
    record {
      front = λ piece more h.
          let front = c.loop-piece.invariant.front piece more h in
          front_more max all piece next more c.loop-piece.rest.now behind c.in-Further.behind.now fronts c.in-Further.list.items ls c.in-Some.ensures.cases.0 further front factor
          (pairs (row max (front.first ∷ front.later)) factor.list front.has factor.has);
      shorter = omega (arith, rw c.in-Further.is at c.in_ok-list.ensures.shorter, c.in-Some.ensures.cases.1, c.loop-piece.invariant.shorter);
    }

pub further-returns-in-Plus-clause-read : goal.further-returns-in-Plus-clause-read
further-returns-in-Plus-clause-read t c = λ piece more h. (
  c.loop-piece.invariant.front piece more h,
  ends_here c.loop-piece.rest.now c.in-Some.piece.now c.in-Some.more.now c.in-Some.ensures.cases.0 (c.in-Some-link_of.ensures.0 ∙ ap begins c.in-Plus.is),
)

pub further-returns-in-Minus-clause-read : goal.further-returns-in-Minus-clause-read
further-returns-in-Minus-clause-read t c = λ piece more h. (
  c.loop-piece.invariant.front piece more h,
  ends_here c.loop-piece.rest.now c.in-Some.piece.now c.in-Some.more.now c.in-Some.ensures.cases.0 (c.in-Some-link_of.ensures.0 ∙ ap begins c.in-Minus.is),
)

pub further-returns-clause-read : goal.further-returns-clause-read
further-returns-clause-read t c = λ piece more h. (c.loop-piece.invariant.front piece more h, ends_empty c.loop-piece.rest.now c.in_default.ensures.cases)

-- ---- factors

pub factor-returns-in-Open-clause-read : goal.factor-returns-in-Open-clause-read
factor-returns-in-Open-clause-read t c =
    let max = c.args.limit in
    let all = c.args.names.now in
    rw c.in-Open.is (IfOk-weaker c.parenthesis.result _ _ (open_read max all c.in-Open.link c.args.more.now) c.parenthesis.ensures.read)

pub factor-returns-in-Function-clause-read : goal.factor-returns-in-Function-clause-read
factor-returns-in-Function-clause-read t c =
    let max = c.args.limit in
    let all = c.args.names.now in
    rw c.in-Function.is
    (IfOk-weaker c.read_call.result _ _ (call_read max all c.in-Function.link c.in-Function.function c.in-Function.is_commuting c.args.more.now) (rw c.function.ensures at c.read_call.ensures.read))

-- ---- sums in parentheses

pub parenthesis-split_at-requires : goal.parenthesis-split_at-requires
parenthesis-split_at-requires t c =
    let h = ended_within c.args.names.now c.args.pieces.now c.in-Some-closing.len c.in-Some-closing.power c.in-Some-closing.ensures in
    omega (arith, h)

pub parenthesis-split_at-requires-2 : goal.parenthesis-split_at-requires-2
parenthesis-split_at-requires-2 t c =
    let h = ended_within c.args.names.now c.args.pieces.now c.in-Some-closing.len c.in-Some-closing.power c.in-Some-closing.ensures in
    omega (arith, h, c.split_at.ensures.back_len)

pub parenthesis-returns-in-Some-2-clause-read : goal.parenthesis-returns-in-Some-2-clause-read
parenthesis-returns-in-Some-2-clause-read t c =
    let max = c.args.limit in
    let all = c.args.names.now in
    let ps = c.args.pieces.now in
    let len = c.in-Some-closing.len in
    let power = c.in-Some-closing.power in
    let js = c.in-Some-2.list.items in
    let sum : HasList (list_of_pieces max all (take len ps)) js = rw c.split_at.ensures.front at (rw c.in-Some-2.is at c.in_ok-list.ensures) in
    let behind : c.split_at-2.result.1.now ≡ drop (len + 1) ps = c.split_at-2.ensures.back ∙ ap (drop 1) c.split_at.ensures.back ∙ drop_next len ps in
    IfOk-weaker c.powered.result _ (ReadsParenthesis max all ps) (parenthesis_read max all ps len power js c.in-Some-closing.ensures sum) (rw behind at c.powered.ensures)

pub parenthesis-returns-in-Some-2-clause-shorter : goal.parenthesis-returns-in-Some-2-clause-shorter
parenthesis-returns-in-Some-2-clause-shorter t c =
    let rest = c.split_at-2.result.1.now in
    IfOk-weaker c.powered.result _ (is_no_longer c.args.pieces.now)
    (powered_shorter c.args.limit c.in-Some-closing.power c.in-Some-2.list.items rest c.args.pieces.now (omega (arith, c.split_at.ensures.back_len, c.split_at-2.ensures.back_len))) c.powered.ensures

-- ---- functions

pub read_call-split_at-requires : goal.read_call-split_at-requires
read_call-split_at-requires t c =
    let h = ended_within c.args.names.now c.args.pieces.now c.in-Some-closing.len c.in-Some-closing.power c.in-Some-closing.ensures in
    omega (arith, h)

pub read_call-split_at-requires-2 : goal.read_call-split_at-requires-2
read_call-split_at-requires-2 t c =
    let h = ended_within c.args.names.now c.args.pieces.now c.in-Some-closing.len c.in-Some-closing.power c.in-Some-closing.ensures in
    omega (arith, h, c.split_at.ensures.back_len)

pub read_call-returns-clause-read : goal.read_call-returns-clause-read
read_call-returns-clause-read t c =
    let max = c.args.limit in
    let all = c.args.names.now in
    let ps = c.args.pieces.now in
    let len = c.in-Some-closing.len in
    let power = c.in-Some-closing.power in
    let args = c.in-Some-2.all in
    let argued : AreArgued max all (take len ps) args = rw c.split_at.ensures.front at (rw c.in-Some-2.is at c.in_ok-all.ensures) in
    let behind : c.split_at-2.result.1.now ≡ drop (len + 1) ps = c.split_at-2.ensures.back ∙ ap (drop 1) c.split_at.ensures.back ∙ drop_next len ps in
    IfOk-weaker c.called.result _ (ReadsFunction max all c.args.function c.args.is_commuting ps)
    (function_read max all c.args.function c.args.is_commuting ps len power args c.in_ok-into_call.field-0 c.in-Some-closing.ensures argued c.in_ok-into_call.ensures) (rw behind at c.called.ensures)

pub read_call-returns-clause-shorter : goal.read_call-returns-clause-shorter
read_call-returns-clause-shorter t c =
    let rest = c.split_at-2.result.1.now in
    IfOk-weaker c.called.result _ (is_no_longer c.args.pieces.now)
    (called_shorter c.args.limit c.in-Some-closing.power (list_of_call c.args.is_commuting c.in_ok-into_call.field-0) rest c.args.pieces.now (omega (arith, c.split_at.ensures.back_len, c.split_at-2.ensures.back_len))) c.called.ensures

-- ---- arguments

pub arguments-loop-rest-init : goal.arguments-loop-rest-init
arguments-loop-rest-init t c = λ f k. record { now = []; written = c.new-all.ensures; read = refl }

pub arguments-loop-rest-smaller : goal.arguments-loop-rest-smaller
arguments-loop-rest-smaller t c = rw c.in-Further.is at c.in_ok-more.ensures.shorter

pub arguments-loop-rest-preserved : goal.arguments-loop-rest-preserved
arguments-loop-rest-preserved t c = λ f k.
    let inv = c.loop-rest.invariant f k in
    let here = (rw c.in-Further.is at c.in_ok-more.ensures.read) f k inv.now inv.written in
    record { now = here.now; written = here.written; read = inv.read ∙ here.read }

pub arguments-returns : goal.arguments-returns
arguments-returns t c =
    let none = nil_from_length c.loop-rest.rest.now (eqb-true (length c.loop-rest.rest.now) 0 (sym c.is_empty.ensures ∙ c.loop-rest-test.false)) in
    all_argued c.args.limit c.args.names.now c.args.pieces.now c.loop-rest.rest.now c.loop-rest.all none c.loop-rest.invariant

pub argument-returns-in_ok-with_index-in-Index-clause-read : goal.argument-returns-in_ok-with_index-in-Index-clause-read
argument-returns-in_ok-with_index-in-Index-clause-read t c = λ f k args e.
    index_read c.args.limit c.args.names.now f k c.args.all c.in_ok-with_index-in-Index.field-0 args e c.in-Index.index c.args.pieces.now c.in-Some.more.now
    (c.in-Some.ensures.cases.0 ∙ ap (λ p. p ∷ c.in-Some.more.now) c.in-Index.is) (c.in_ok-with_index-in-Index.ensures ∙ ap (λ i. c.args.all ++ pieces_of_argument (index i)) c.index.ensures)

pub argument-returns-in_ok-with_vector-in-Vector-clause-read : goal.argument-returns-in_ok-with_vector-in-Vector-clause-read
argument-returns-in_ok-with_vector-in-Vector-clause-read t c = λ f k args e.
    vector_read c.args.limit c.args.names.now f k c.args.all c.in_ok-with_vector-in-Vector.field-0 args e c.in-Vector.vector c.args.pieces.now c.in-Some.more.now
    (c.in-Some.ensures.cases.0 ∙ ap (λ p. p ∷ c.in-Some.more.now) c.in-Vector.is) (c.in_ok-with_vector-in-Vector.ensures ∙ ap (λ v. c.args.all ++ pieces_of_argument (vector v)) c.vector.ensures)

pub argument-returns-in-Argument-clause-read : goal.argument-returns-in-Argument-clause-read
argument-returns-in-Argument-clause-read t c =
    let more = c.in-Some.more.now in
    IfOk-weaker c.expression.result _ (ReadsArgument c.args.limit c.args.names.now c.args.pieces.now c.args.all)
    (argument_begun c.args.limit c.args.names.now c.args.pieces.now more c.args.all (c.in-Some.ensures.cases.0 ∙ ap (λ p. p ∷ more) c.in-Argument.is)) c.expression.ensures.read

pub argument-returns-in-Argument-clause-shorter : goal.argument-returns-in-Argument-clause-shorter
argument-returns-in-Argument-clause-shorter t c =
    IfOk-weaker c.expression.result _ (argues_shorter c.args.pieces.now) (argued_shorter c.args.pieces.now c.in-Some.more.now (omega (arith, c.in-Some.ensures.cases.1))) c.expression.ensures.shorter

-- ---- arguments that are expressions

pub expression-split_at-requires : goal.expression-split_at-requires
expression-split_at-requires t c =
    let h = ended_within c.args.names.now c.args.pieces.now c.in-Some.len _ c.in-Some.ensures in
    omega (arith, h)

pub expression-split_at-requires-2 : goal.expression-split_at-requires-2
expression-split_at-requires-2 t c =
    let h = ended_within c.args.names.now c.args.pieces.now c.in-Some.len _ c.in-Some.ensures in
    omega (arith, h, c.split_at.ensures.back_len)

pub expression-with_expression-requires : goal.expression-with_expression-requires
expression-with_expression-requires t c =
    let terms = c.in-Some-2.terms in
    let list = (list_of_pieces c.args.limit c.args.names.now c.split_at.result.0.now).terms in
    let has : HasTerms (list_of_pieces c.args.limit c.args.names.now c.split_at.result.0.now) terms = rw c.in-Some-2.is at c.in_ok-terms.ensures in
    record {
      rising = subst (IsStrictlySortedBy (on (λ m. m.term) order)) (sym c.as_slice.ensures) (c.collected_lists.ensures.rising list terms has.1);
      present = subst (All (λ (m : Monomial). is_zero m.coefficient ≡ false)) (sym c.as_slice.ensures) (c.collected_lists.ensures.present list terms has.1);
    }

pub expression-returns-clause-read : goal.expression-returns-clause-read
expression-returns-clause-read t c = λ f k args e.
    let max = c.args.limit in
    let all = c.args.names.now in
    let terms = c.in-Some-2.terms in
    let within = c.split_at.result.0.now in
    let rest = c.split_at-2.result.1.now in
    let list = list_of_pieces max all within in
    let has : HasTerms list terms = rw c.in-Some-2.is at c.in_ok-terms.ensures in
    let behind : rest ≡ drop (c.in-Some.len + 1) c.args.pieces.now = c.split_at-2.ensures.back ∙ ap (drop 1) c.split_at.ensures.back ∙ drop_next c.in-Some.len c.args.pieces.now in
    expression_read max all f k c.args.all c.in_ok-with_expression.field-0 args e _ list terms rest
    (expression_ended max all f k args c.args.pieces.now within rest c.in-Some.len _ c.in-Some.ensures c.split_at.ensures.front behind)
    (argument_has list terms has.0 has.1) (rw c.as_slice.ensures at c.in_ok-with_expression.ensures)
