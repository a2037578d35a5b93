use Rattle.std.proofs.Common.{◌≡◌, ◌∷◌, [], List, map, sym, ap, subst, ◌∙◌}
use Rattle.form_ast.specs.declared.statement.Placed.{Placed}
use Rattle.form_grammar.specs.Reading.{Excludes}
use Rattle.form_grammar.specs.Terminal.{terminal_of}
use Rattle.form_grammar.specs.declared.terminal.Terminal.{Terminal}
use Rattle.form_stmts.specs.Reading.{terminals}
use Rattle.form_stmts.specs.Statement.{IsFront, ReadsSo}
use Rattle.form_stmts.proofs.Lined.{HasComeTo, last_read, line_read, none_read, nothing_left, shorter_front}
use Rattle.form_stmts.proofs.Taking.{none_left, some_left}
use Rattle.form_stmts.proofs.statement.read_statement.Goals as goal

pub returns-in-Err-clause-none : goal.returns-in-Err-clause-none
returns-in-Err-clause-none c =
    let rest = terminals c.loop-first.rest in
    let split : rest ≡ terminal_of c.in-Some.first ∷ terminals c.next.new.self = ap (map terminal_of) c.in-Some.ensures.items in
    none_read (map terminal_of c.args.tokens.items) rest c.loop-first.lines.items c.in-Err.error c.loop-first.invariant
    (subst (λ (t : List Terminal). Excludes c.in-Err.error (ReadsSo t)) (sym split) c.in-Err.ensures.none)

pub returns-then-len-eq0-clause-found : goal.returns-then-len-eq0-clause-found
returns-then-len-eq0-clause-found c =
    let rest = terminals c.loop-first.rest in
    let split : rest ≡ terminal_of c.in-Some.first ∷ terminals c.next.new.self = ap (map terminal_of) c.in-Some.ensures.items in
    let none : terminals c.take_front.new.rest ≡ [] = none_left c.take_front.new.rest (sym c.len.ensures ∙ c.if-len-eq0.true) in
    let front : IsFront c.in-Ok.placed rest [] = subst (λ (t : List Terminal). IsFront c.in-Ok.placed t []) (sym split) (subst (IsFront c.in-Ok.placed (terminal_of c.in-Some.first ∷ terminals c.next.new.self)) none c.in-Ok.ensures.found) in
    rw c.new.ensures (last_read (map terminal_of c.args.tokens.items) rest c.loop-first.lines.items c.in-Ok.placed c.loop-first.invariant front)

pub loop-first-smaller : goal.loop-first-smaller
loop-first-smaller c =
    let rest = terminals c.loop-first.rest in
    let split : rest ≡ terminal_of c.in-Some.first ∷ terminals c.next.new.self = ap (map terminal_of) c.in-Some.ensures.items in
    let front : IsFront c.in-Ok.placed rest (terminals c.take_front.new.rest) = subst (λ (t : List Terminal). IsFront c.in-Ok.placed t (terminals c.take_front.new.rest)) (sym split) c.in-Ok.ensures.found in
    shorter_front (record { front = c.one_front.ensures.front; front_or_none = c.one_front.ensures.front_or_none; one = c.one_front.ensures.one; some_or_none = c.one_front.ensures.some_or_none })
    rest c.in-Ok.placed (terminals c.take_front.new.rest) (some_left c.take_front.new.rest (λ e. c.if-len-eq0.false (c.len.ensures ∙ e))) front

pub loop-first-preserved : goal.loop-first-preserved
loop-first-preserved c =
    let rest = terminals c.loop-first.rest in
    let split : rest ≡ terminal_of c.in-Some.first ∷ terminals c.next.new.self = ap (map terminal_of) c.in-Some.ensures.items in
    let front : IsFront c.in-Ok.placed rest (terminals c.take_front.new.rest) = subst (λ (t : List Terminal). IsFront c.in-Ok.placed t (terminals c.take_front.new.rest)) (sym split) c.in-Ok.ensures.found in
    subst (λ (ls : List Placed). HasComeTo (map terminal_of c.args.tokens.items) ls (terminals c.take_front.new.rest)) (sym c.in_ok-push.ensures.items)
    (line_read (record { front = c.one_front.ensures.front; front_or_none = c.one_front.ensures.front_or_none; one = c.one_front.ensures.one; some_or_none = c.one_front.ensures.some_or_none })
    (map terminal_of c.args.tokens.items) rest (terminals c.take_front.new.rest) c.loop-first.lines.items c.in-Ok.placed
    (some_left c.take_front.new.rest (λ e. c.if-len-eq0.false (c.len.ensures ∙ e))) c.loop-first.invariant front)

pub returns-clause-none : goal.returns-clause-none
returns-clause-none c =
    let none : terminals c.loop-first.rest ≡ [] = none_left c.loop-first.rest c.in_default.ensures.cases.0 in
    nothing_left (map terminal_of c.args.tokens.items) c.loop-first.lines.items (subst (HasComeTo (map terminal_of c.args.tokens.items) c.loop-first.lines.items) none c.loop-first.invariant)
