use Rattle.std.proofs.Common.{◌-◌, Option, length, drop, sym, subst, arith}
use Rattle.std.proofs.lemmas.List.{drop_all, length-drop, take_all}
use Rattle.form_match.specs.declared.trail.Standing.{Standing}
use Rattle.form_match.specs.Parts.{table_of}
use Rattle.form_match.specs.Places.{ground_of}
use Rattle.form_match.specs.Running.{IsOn}
use Rattle.form_match.specs.States.{first_found, reach, start}
use Rattle.form_match.proofs.Running.{found_all}
use Rattle.form_match.proofs.search.Search.run.Goals as goal

pub returns-in_default : goal.returns-in_default
returns-in_default c =
    let table = table_of c.args.fixed.now in
    let found = first_found (reach table c.args.pieces.now (start (ground_of c.args.self.now.terms).outer)) in
    let new = c.turn.new.self in
    subst (λ (o : Option Standing). IsOn o table c.args.pieces.now found (ground_of new.terms) new.trail.takes.items new.trail.bindings new.trail.choices.items) c.in_default.is
    (c.in_ok-turn.ensures.goes_on c.args.pieces.now found (sym (take_all (length c.args.pieces.now - c.loop-at.at.piece) (drop c.loop-at.at.piece c.args.pieces.now) (omega (arith, length-drop c.loop-at.at.piece c.args.pieces.now)))) c.loop-at.invariant)

pub loop-at-preserved : goal.loop-at-preserved
loop-at-preserved c =
    let table = table_of c.args.fixed.now in
    let found = first_found (reach table c.args.pieces.now (start (ground_of c.args.self.now.terms).outer)) in
    let new = c.turn.new.self in
    subst (λ (o : Option Standing). IsOn o table c.args.pieces.now found (ground_of new.terms) new.trail.takes.items new.trail.bindings new.trail.choices.items) c.in-Some.is
    (c.in_ok-turn.ensures.goes_on c.args.pieces.now found (sym (take_all (length c.args.pieces.now - c.loop-at.at.piece) (drop c.loop-at.at.piece c.args.pieces.now) (omega (arith, length-drop c.loop-at.at.piece c.args.pieces.now)))) c.loop-at.invariant)

pub returns : goal.returns
returns c =
    let table = table_of c.args.fixed.now in
    let found = first_found (reach table c.args.pieces.now (start (ground_of c.args.self.now.terms).outer)) in
    let search = c.loop-at.self in
    found_all table c.args.pieces.now found (ground_of search.terms) search.trail.takes.items search.trail.bindings search.trail.choices.items c.loop-at.at c.loop-at.invariant
    (drop_all c.loop-at.at.piece c.args.pieces.now c.loop-at-test.false)
