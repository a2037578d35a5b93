use Rattle.std.proofs.Common.{◌+◌, Option, length, subst}
use Rattle.form_match.specs.declared.trail.Standing.{Standing}
use Rattle.form_match.specs.Parts.{table_of}
use Rattle.form_match.specs.Places.{ground_of}
use Rattle.form_match.specs.Running.{GoesOn, ways_from, ways_left}
use Rattle.form_match.proofs.Ending.{fewer_turn}
use Rattle.form_match.proofs.Running.{found_back}
use Rattle.form_match.proofs.search.Search.turn.Goals as goal

pub returns-in-None-clause-goes_on : goal.returns-in-None-clause-goes_on
returns-in-None-clause-goes_on c = λ ps found here r.
    let table = table_of c.args.fixed.now in
    let old = c.advance.new.self in
    found_back table ps found (ground_of old.terms) (ground_of c.retreat.new.self.terms) old.trail c.retreat.new.self.trail c.retreat.result c.retreat.ensures
    (subst (λ (o : Option Standing). GoesOn o table ps found (ground_of old.terms) old.trail.takes.items old.trail.bindings old.trail.choices.items) c.in-None.is (c.in_ok-ahead.ensures.goes_on ps found here r))

pub returns-in-None-clause-less : goal.returns-in-None-clause-less
returns-in-None-clause-less c =
    let count = c.args.at.now.piece + length c.args.pieces.now in
    fewer_turn count (ways_from count c.args.at.now + ways_left count c.args.self.now.trail.choices.items) (ground_of c.advance.new.self.terms) (ground_of c.retreat.new.self.terms)
    c.advance.new.self.trail c.retreat.new.self.trail c.retreat.result c.retreat.ensures (rw c.in-None.is at c.in_ok-ahead.ensures.less)
