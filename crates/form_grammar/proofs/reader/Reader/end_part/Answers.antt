use Rattle.std.proofs.Common.{◌≡◌, List, [], ◌∷◌, ◌++◌, ap, ◌∙◌}
use Rattle.std.proofs.lemmas.List.{append-nil}
use Rattle.form_ast.specs.declared.expr.Piece.{Piece}
use Rattle.form_ast.specs.Joined.{joined}
use Rattle.form_grammar.proofs.Ended.{last_part}
use Rattle.form_grammar.proofs.reader.Reader.end_part.Goals as goal

pub returns-in_ok-push-clause-same : goal.returns-in_ok-push-clause-same
returns-in_ok-push-clause-same c =
    let s = c.args.self.now in
    let part : c.from_vec.result ≡ s.pieces.items = rw c.replace-pieces.ensures.value at c.from_vec.ensures in
    let ended : joined c.push.new.self.items ≡ joined s.parts.items ++ s.pieces.items = ap joined c.in_ok-push.ensures.items ∙ ap (λ p. joined (s.parts.items ++ p ∷ [])) part ∙ last_part s.parts.items s.pieces.items in
    let none : c.replace-pieces.new.dest.items ≡ [] = rw c.replace-pieces.ensures.after c.in_ok-next.ensures.items in
    let all : joined c.push.new.self.items ++ c.replace-pieces.new.dest.items ≡ joined s.parts.items ++ s.pieces.items = ap (λ ps. joined c.push.new.self.items ++ ps) none ∙ append-nil (joined c.push.new.self.items) ∙ ended in
    ap (λ (ps : List Piece). record { pieces = ps; opened = s.opened; expected = s.expected }) all
