-- Parts that are ended.
use Rattle.std.proofs.Common.{◌≡◌, List, [], ◌∷◌, ◌++◌, sym, ap, ◌∙◌, append_assoc}
use Rattle.std.proofs.lemmas.List.{append-nil}
use Rattle.form_ast.specs.declared.expr.Piece.{Piece}
use Rattle.form_ast.specs.Joined.{joined}

pub last_part : (parts : List (List Piece)) (part : List Piece) → joined (parts ++ part ∷ []) ≡ joined parts ++ part
last_part [] part = append-nil part
last_part (p ∷ parts) part = ap (λ ps. p ++ ps) (last_part parts part) ∙ sym (append_assoc p (joined parts) part)
