use Rattle.std.proofs.Common.{◌≡◌, ◌-◌, ◌<◌, ◌≤◌, length, set, subst, refl, arith}
use Rattle.form_ast.specs.Joined.{joined}
use Rattle.form_grammar.specs.Reading.{Gives, Reading, changed_reading, reading_of}
use Rattle.form_grammar.proofs.Raised.{before, none_changes, change_answers_behind}
use Rattle.form_grammar.proofs.reader.Reader.change.Goals as goal

pub returns-then-not-branch : goal.returns-then-not-branch
returns-then-not-branch c =
    let r = reading_of c.args.self.now in
    let few : length r.pieces ≤ c.args.behind = subst (λ (q : Reading). length q.pieces ≤ c.args.behind) c.in_ok-reaches.ensures.same (c.in_ok-reaches.ensures.missing c.if-not-branch.true) in
    none_changes r c.args.change c.args.behind (length r.pieces) refl few

pub returns : goal.returns
returns c =
    let s = c.reaches.new.self in
    let r : Reading = record { pieces = s.pieces.items; opened = s.opened; expected = s.expected } in
    let some : c.args.behind < length r.pieces = c.in_ok-reaches.ensures.found c.if-not-branch.false in
    let count : c.len-count.result ≡ length r.pieces = omega (arith, c.len-count.ensures, s.pieces.ok.0) in
    subst (λ (q : Reading). Gives (λ _. before (joined s.parts.items) (record { pieces = set r.pieces (c.len-count.result - 1 - c.args.behind) c.change_piece.new.piece; opened = r.opened; expected = r.expected })) c.change_piece.result (changed_reading c.args.behind c.args.change q))
    c.in_ok-reaches.ensures.same
    (change_answers_behind (joined s.parts.items) r c.args.change c.args.behind c.len-count.result count c.index_mut.result.now (omega (arith, count, some)) c.index_mut.ensures.value c.change_piece.result c.change_piece.new.piece c.change_piece.ensures)
