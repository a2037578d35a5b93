use Rattle.std.proofs.Common.{◌≡◌, ℕ, ◌+◌, ◌^◌, ◌<◌, true, false, List, ap, sym, subst, ◌∙◌, ◌∷◌, arith, rules}
use Rattle.std.specs.Prelude.{slice_get}
use Rattle.form_term.specs.Term.{Call}
use Rattle.form_tree.specs.declared.pattern.PatternPiece.TheVariants as pieces
use Rattle.form_bindings.specs.Learning.{Tells}
use Rattle.form_match.specs.Learning.{learnt_of}
use Rattle.form_match.specs.Matching.{asked_function}
use Rattle.form_match.specs.declared.trail.Standing.{Standing}
use Rattle.form_match.proofs.InWords.{before_end, before_last, ended_less, ends_less, ends_on, fails_less, further_less, gone_on, inside_on, over_way, there_is, there_is_none, unlike_on}
use Rattle.form_match.proofs.Onward.{way_begins}
use Rattle.form_match.proofs.in_words.in_word.Goals as goal

pub loop-piece-init : goal.loop-piece-init
loop-piece-init c = record { framed = c.requires.framed; way = way_begins c.requires.stands }

pub end_of_word-requires : goal.end_of_word-requires
end_of_word-requires c = let before = before_end c.loop-piece.invariant.framed c.loop-piece.invariant.way c.in-Some.piece.now c.in-Some.behind.now c.in-Some.ensures.cases.0 in omega (arith, before, c.requires.stands.room)

pub returns-in_default-piece : goal.returns-in_default-piece
returns-in_default-piece c = record {
  goes_on = ends_on c.loop-piece.invariant.framed c.loop-piece.invariant.way c.in-Some.piece.now c.in-Some.behind.now c.in-Some.ensures.cases.0 c.in_default-piece.not-Call c.end_of_word.result c.end_of_word.ensures;
  less = ends_less c.loop-piece.invariant.framed c.loop-piece.invariant.way c.in-Some.piece.now c.in-Some.behind.now c.in-Some.ensures.cases.0 c.end_of_word.result c.end_of_word.ensures;
}

pub returns-in_default-get-clause-goes_on : goal.returns-in_default-get-clause-goes_on
returns-in_default-get-clause-goes_on c =
    gone_on c.loop-piece.invariant.framed c.loop-piece.invariant.way c.in-Some.piece.now c.in-Some.behind.now c.in-Some.ensures.cases.0 c.in-Call.name c.in-Call.is
    (ap (λ (cs : List Call). slice_get cs c.loop-piece.place) (sym (c.word-word.ensures ∙ ap (λ t. t.others.word) c.term.ensures)) ∙ there_is_none c.word-word.result.now c.loop-piece.place c.in_default-get.ensures.lookup.3)

pub returns-in_default-get-clause-less : goal.returns-in_default-get-clause-less
returns-in_default-get-clause-less c = fails_less c.loop-piece.invariant.framed c.loop-piece.invariant.way c.in-Some.piece.now c.in-Some.behind.now c.in-Some.ensures.cases.0

pub returns-then-not-branch-clause-goes_on : goal.returns-then-not-branch-clause-goes_on
returns-then-not-branch-clause-goes_on c =
    unlike_on c.loop-piece.invariant.framed c.loop-piece.invariant.way c.in-Some.piece.now c.in-Some.behind.now c.in-Some.ensures.cases.0 c.in-Call.name c.in-Call.is c.in-Some-get.call.now
    (ap (λ (cs : List Call). slice_get cs c.loop-piece.place) (sym (c.word-word.ensures ∙ ap (λ t. t.others.word) c.term.ensures)) ∙ there_is c.word-word.result.now c.loop-piece.place c.in-Some-get.call.now c.in-Some-get.ensures.lookup.3.0 c.in-Some-get.ensures.lookup.1)
    c.ask_function.new.bindings c.ask_function.ensures.kept
    (subst (λ (f : ℕ). Tells false (learnt_of c.loop-piece.trail.bindings (asked_function c.in-Call.name f)) c.ask_function.new.bindings) c.function.ensures (rw c.if-not-branch.true at c.in_ok-ask_function.ensures.told))

pub returns-then-not-branch-clause-less : goal.returns-then-not-branch-clause-less
returns-then-not-branch-clause-less c = fails_less c.loop-piece.invariant.framed c.loop-piece.invariant.way c.in-Some.piece.now c.in-Some.behind.now c.in-Some.ensures.cases.0

pub ahead-requires : goal.ahead-requires
ahead-requires c = let before = before_end c.loop-piece.invariant.framed c.loop-piece.invariant.way c.in-Some.piece.now c.in-Some.behind.now c.in-Some.ensures.cases.0 in omega (arith, before, c.requires.stands.room)

pub returns-in_default-without_arguments-clause-goes_on : goal.returns-in_default-without_arguments-clause-goes_on
returns-in_default-without_arguments-clause-goes_on c =
    let small : c.loop-piece.place + 1 < 2 ^ 64 = search rules in
    inside_on c.loop-piece.invariant.framed c.loop-piece.invariant.way c.in-Some.piece.now c.in-Some.behind.now c.in-Some.ensures.cases.0 c.in-Call.name c.in-Call.is c.in-Some-get.call.now
    (ap (λ (cs : List Call). slice_get cs c.loop-piece.place) (sym (c.word-word.ensures ∙ ap (λ t. t.others.word) c.term.ensures)) ∙ there_is c.word-word.result.now c.loop-piece.place c.in-Some-get.call.now c.in-Some-get.ensures.lookup.3.0 c.in-Some-get.ensures.lookup.1)
    c.ask_function.new.bindings c.ask_function.ensures.kept
    (subst (λ (f : ℕ). Tells true (learnt_of c.loop-piece.trail.bindings (asked_function c.in-Call.name f)) c.ask_function.new.bindings) c.function.ensures (rw c.if-not-branch.false at c.in_ok-ask_function.ensures.told))
    c.lawful_arguments.ensures small c.ahead.result c.of_word.result c.ahead.ensures c.of_word.ensures

pub returns-in_default-without_arguments-clause-less : goal.returns-in_default-without_arguments-clause-less
returns-in_default-without_arguments-clause-less c =
    let further : c.ahead.result.piece ≡ c.loop-piece.now.piece + 1 = ap (λ (s : Standing). s.piece) c.ahead.ensures in
    further_less c.loop-piece.invariant.framed c.loop-piece.invariant.way c.in-Some.piece.now c.in-Some.behind.now c.ahead.result c.in-Some.ensures.cases.0 (omega (arith, further))

pub ahead-now-requires : goal.ahead-now-requires
ahead-now-requires c =
    let before = before_last c.loop-piece.invariant.framed c.loop-piece.invariant.way c.in-Some.piece.now pieces.EndOfArguments c.in-Some-without_arguments.later.now
    (c.in-Some.ensures.cases.0 ∙ ap (λ l. c.in-Some.piece.now ∷ l) c.in-Some-without_arguments.ensures.1) in
    omega (arith, before, c.requires.stands.room)

pub loop-piece-preserved : goal.loop-piece-preserved
loop-piece-preserved c =
    let small : c.loop-piece.place + 1 < 2 ^ 64 = search rules in
    record {
      framed = ap (λ (s : Standing). s.frame) c.ahead-now.ensures;
      way =
          over_way c.loop-piece.invariant.framed c.loop-piece.invariant.way c.in-Some.piece.now c.in-Some.behind.now c.in-Some.ensures.cases.0 c.in-Call.name c.in-Call.is c.in-Some-get.call.now
          (ap (λ (cs : List Call). slice_get cs c.loop-piece.place) (sym (c.word-word.ensures ∙ ap (λ t. t.others.word) c.term.ensures)) ∙ there_is c.word-word.result.now c.loop-piece.place c.in-Some-get.call.now c.in-Some-get.ensures.lookup.3.0 c.in-Some-get.ensures.lookup.1)
          c.ask_function.new.bindings c.ask_function.ensures.kept
          (subst (λ (f : ℕ). Tells true (learnt_of c.loop-piece.trail.bindings (asked_function c.in-Call.name f)) c.ask_function.new.bindings) c.function.ensures (rw c.if-not-branch.false at c.in_ok-ask_function.ensures.told))
          c.lawful_arguments.ensures small c.ahead-now.result c.in-Some-without_arguments.later.now c.ahead-now.ensures c.in-Some-without_arguments.ensures.0 c.in-Some-without_arguments.ensures.1;
    }

pub returns-clause-goes_on : goal.returns-clause-goes_on
returns-clause-goes_on c = λ table. (c.loop-piece.invariant.way table).goes_on

pub returns-clause-less : goal.returns-clause-less
returns-clause-less c = ended_less c.loop-piece.invariant.framed c.loop-piece.invariant.way c.requires.stands.some c.in_default.ensures.cases
