use Rattle.std.proofs.Common.{List, Some, None, refl, sym, ap, subst, ◌∙◌}
use Rattle.form_tree.specs.declared.pattern.PatternPiece.{PatternPiece}
use Rattle.form_match.specs.declared.matching.Match.{Match}
use Rattle.form_match.specs.Factors.{IsFirstCandidate}
use Rattle.form_match.specs.Matching.{Host, outer}
use Rattle.form_match.specs.Parts.{table_of}
use Rattle.form_match.specs.Places.{Ground, ground_of}
use Rattle.form_match.specs.States.{first_found, reach, start}
use Rattle.form_match.proofs.Beginning.{begins, never_begins}
use Rattle.form_match.proofs.Found.{found_fitting, reached_is}
use Rattle.form_match.proofs.matching.first_of.Goals as goal

pub returns-in_default-clause-first : goal.returns-in_default-clause-first
returns-in_default-clause-first c = λ fs is.
    let table = c.args.pattern.now.fixed in
    let none : IsFirstCandidate None (outer c.args.term.now c.args.cuts.now c.args.is_exact) c.pieces.result.now = subst (λ (h : Host). IsFirstCandidate None h c.pieces.result.now) c.outer.ensures c.in_default.ensures in
    sym (never_begins table (outer c.args.term.now c.args.cuts.now c.args.is_exact) c.pieces.result.now none)
    ∙ reached_is c.args.term.now c.args.cuts.now c.args.is_exact table table fs c.pieces.result.now refl (c.pieces.ensures ∙ is)

pub run-requires : goal.run-requires
run-requires c =
    let first : IsFirstCandidate (Some c.in-Some.first) (outer c.args.term.now c.args.cuts.now c.args.is_exact) c.pieces-2.result.now
    = subst (λ (h : Host). IsFirstCandidate (Some c.in-Some.first) h c.pieces-2.result.now) c.outer.ensures
    (subst (λ (ps : List PatternPiece). IsFirstCandidate (Some c.in-Some.first) c.outer.result ps) (c.pieces.ensures ∙ sym c.pieces-2.ensures) c.in-Some.ensures) in
    begins (table_of c.fixed.result.now) c.pieces-2.result.now (outer c.args.term.now c.args.cuts.now c.args.is_exact) c.in-Some.first first (ground_of c.new-search.result.terms)
    c.new-search.result.trail.takes.items c.new-search.result.trail.bindings c.new-search.result.trail.choices.items
    c.new-search.ensures.terms c.new-search.ensures.takes c.new-search.ensures.bindings c.new-search.ensures.choices

pub returns-then-not-branch-clause-first : goal.returns-then-not-branch-clause-first
returns-then-not-branch-clause-first c = λ fs is.
    let table = table_of c.fixed.result.now in
    sym (rw c.if-not-branch.true at c.in_ok-run.ensures)
    ∙ ap (λ (g : Ground). first_found (reach table c.pieces-2.result.now (start g.outer))) c.new-search.ensures.terms
    ∙ reached_is c.args.term.now c.args.cuts.now c.args.is_exact c.args.pattern.now.fixed table fs c.pieces-2.result.now c.fixed.ensures (c.pieces-2.ensures ∙ is)

pub returns-clause-first : goal.returns-clause-first
returns-clause-first c = λ fs is.
    let table = table_of c.fixed.result.now in
    ap (λ (m : Match). Some m) c.in_ok-found.ensures
    ∙ sym (rw c.if-not-branch.false at c.in_ok-run.ensures)
    ∙ ap (λ (g : Ground). first_found (reach table c.pieces-2.result.now (start g.outer))) c.new-search.ensures.terms
    ∙ reached_is c.args.term.now c.args.cuts.now c.args.is_exact c.args.pattern.now.fixed table fs c.pieces-2.result.now c.fixed.ensures (c.pieces-2.ensures ∙ is)

pub returns-clause-fits : goal.returns-clause-fits
returns-clause-fits c =
    let table = table_of c.fixed.result.now in
    found_fitting c.args.term.now c.args.cuts.now c.args.is_exact table c.pieces-2.result.now (Some c.in_ok-found.found) c.term_laws.ensures
    (ap (λ (m : Match). Some m) c.in_ok-found.ensures
    ∙ sym (rw c.if-not-branch.false at c.in_ok-run.ensures)
    ∙ ap (λ (g : Ground). first_found (reach table c.pieces-2.result.now (start g.outer))) c.new-search.ensures.terms)
