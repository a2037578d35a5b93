-- The entries in the order of terms, without those of sum 0, are what is collected.
use Rattle.std.proofs.Common.{List, sym, subst, ◌∙◌}
use Rattle.form_term.specs.declared.monomial.Monomial.{Monomial}
use Rattle.form_collect.specs.Keys.{AreSorted}
use Rattle.form_gathered.specs.Joined.{AreApart, present}
use Rattle.form_gathered.proofs.Gathered.{collected_joined}
use Rattle.form_gathered.proofs.Tables.{present_less, present_more, present_made, entries_apart}
use Rattle.form_gathered.proofs.joined.Joined.into_terms.Goals as goal

pub loop-term-preserved-then-is_zero : goal.loop-term-preserved-then-is_zero
loop-term-preserved-then-is_zero c =
    present_less c.loop-term.terms.items (present c.args.self) c.loop-term.term-iterator (c.in-Some.term, c.in-Some.tally) c.next.new.self c.in-Some.ensures.steps c.loop-term.invariant
    (sym c.is_zero.ensures ∙ c.if-is_zero.true)

pub loop-term-preserved : goal.loop-term-preserved
loop-term-preserved c =
    present_more c.loop-term.terms.items (present c.args.self) c.loop-term.term-iterator (c.in-Some.term, c.in-Some.tally) c.next.new.self c.in-Some.ensures.steps c.loop-term.invariant
    c.push.new.self.items c.in_ok-push.ensures.items (sym c.is_zero.ensures ∙ c.if-is_zero.false)

pub returns : goal.returns
returns c = λ list h.
    let js = c.args.self in
    let made = present_made c.loop-term.terms.items (present js) c.loop-term.term-iterator c.in-None.ensures.steps.0 c.loop-term.invariant in
    let apart = subst AreApart c.self.view_is (entries_apart c.self.inside.shares.entries c.into_iter-term-iterator.ensures.into_iter_gives.4) in
    collected_joined js list c.in_ok-sorted.field-0 apart h (subst (λ (ms : List Monomial). AreSorted ms c.in_ok-sorted.field-0) made c.in_ok-sorted.ensures)
