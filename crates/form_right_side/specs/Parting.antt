-- Where the pieces of a right side are parted, so that what is before is gone through without what is behind.
use Rattle.std.specs.Prelude.{ℕ, ◌+◌, ◌-◌, Bool, true, false, List, [], ◌∷◌}
use Rattle.form_ast.specs.declared.expr.Link.{Link}
use Rattle.form_ast.specs.declared.expr.Link.TheVariants as links
use Rattle.form_ast.specs.declared.expr.Piece.{Piece}
use Rattle.form_ast.specs.declared.expr.Piece.TheVariants as written

-- how many calls are open behind pieces before which so many are
unfoldable pub open_behind : ℕ → List Piece → ℕ
open_behind opened [] = opened
open_behind opened (written.Call link n ∷ rest) = open_behind (opened + 1) rest
open_behind opened (written.EndOfCall ∷ rest) = open_behind (opened - 1) rest
open_behind opened (_ ∷ rest) = open_behind opened rest

-- a further term begins with such a link
abbrev pub is_sign : Link → Bool
is_sign links.First = false
is_sign links.Plus = true
is_sign links.Minus = true
is_sign links.Times = false
is_sign links.Over = false

abbrev pub begins_term : List Piece → Bool
begins_term (written.Number link n ∷ rest) = is_sign link
begins_term (written.Name link n ∷ rest) = is_sign link
begins_term (written.Dot link n ∷ rest) = is_sign link
begins_term (written.Delta link spot ∷ rest) = is_sign link
begins_term (written.Call link n ∷ rest) = is_sign link
begins_term (written.Open link ∷ rest) = is_sign link
begins_term _ = false
