-- The entries stand for the list, and their monomials in the order of terms are what is collected.
use Rattle.std.proofs.Common.{[], sym, ◌∙◌, append-nil}
use Rattle.std.specs.List.Sorted.{IsPermutation}
use Rattle.form_collect.proofs.Stands.{totals_from, overflow_from}
use Rattle.form_collect.proofs.Ordered.{monomials_of, monomials_less, monomials_more, monomials_made, collected_from_sorted}
use Rattle.form_collect.proofs.collector.Collector.into_terms.Goals as goal

pub returns-then-self-clause-overflow : goal.returns-then-self-clause-overflow
returns-then-self-clause-overflow c = λ e list h. rw (← append-nil list) (overflow_from c.args.self list c.if-self.true h [])

pub loop-term-preserved-then-is_zero : goal.loop-term-preserved-then-is_zero
loop-term-preserved-then-is_zero c =
    let zero = sym c.is_zero.ensures ∙ c.if-is_zero.true in
    rw (← monomials_less c.in-Some.term c.in-Some.coefficient c.next.new.self zero, ← c.in-Some.ensures.steps) c.loop-term.invariant

pub loop-term-preserved : goal.loop-term-preserved
loop-term-preserved c =
    let some = sym c.is_zero.ensures ∙ c.if-is_zero.false in
    rw (c.in_ok-push.ensures.items, monomials_more c.loop-term.terms.items c.in-Some.term c.in-Some.coefficient c.next.new.self some, ← c.in-Some.ensures.steps) c.loop-term.invariant

pub returns-clause-ok : goal.returns-clause-ok
returns-clause-ok c = λ list h.
    let es = c.args.self.sums.entries in
    let ms = c.in_ok-sorted.field-0 in
    let made = sym c.loop-term.invariant ∙ monomials_made c.loop-term.terms.items c.loop-term.term-iterator c.in-None.ensures.steps.0 in
    let moved : IsPermutation (monomials_of es) ms = rw made c.in_ok-sorted.ensures.moved in
    collected_from_sorted es list ms c.into_iter-term-iterator.ensures.into_iter_gives.4 (totals_from c.args.self list c.if-self.false h) moved c.in_ok-sorted.ensures.rising
