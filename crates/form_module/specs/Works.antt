-- What a module carries out: its definitions, and the expressions that stand and go through its statements.
use Rattle.std.specs.Prelude.{ℕ, Bool, false, not, ◌&&◌, if◌then◌else◌, List, [], ◌∷◌, fold, Option, Some, None}
use Rattle.std.specs.List.{list_any}
use Rattle.std.specs.Ordering.{nat_cmp, match_ordering}
use Rattle.form_tree.specs.declared.tree.Piece.{Piece}
use Rattle.form_expand.specs.declared.stored.Stored.{Stored}
use Rattle.form_check.specs.declared.checked.Checked.{Checked}
use Rattle.form_check.specs.declared.checked.Checked.TheVariants.{Drop, Skip, Local, Print}
use Rattle.form_check.specs.Standing.{means, defines, drops}

abbrev pub is_skip : ℕ → Checked → Bool
is_skip expression (Drop which) = false
is_skip expression (Skip which) = means which expression
is_skip expression (Local id right) = false
is_skip expression (Print which) = false

abbrev pub skips : List Checked → ℕ → Bool
skips statements expression = list_any (is_skip expression) statements

-- the module neither drops an expression nor defines it anew
abbrev pub is_left : List Checked → ℕ → Bool
is_left statements expression = not (drops statements expression) && not (defines statements expression)

-- an expression that stands goes through the module's statements, unless it is dropped, defined anew or skipped
abbrev pub goes_through : List Checked → ℕ → Bool
goes_through statements expression = is_left statements expression && not (skips statements expression)

-- an expression and its right side; none where it is carried out by the terms that it stands for
pub record Work : Type 0 where
  pub expression : ℕ
  pub right_side : Option (List Piece)

-- In the order of first definition in the text, which is that of Ids; a later work of an expression replaces the earlier one.
abbrev pub with_work : List Work → Work → List Work
with_work [] w = w ∷ []
with_work (v ∷ vs) w =
    match_ordering (nat_cmp w.expression v.expression) (w ∷ v ∷ vs) (record { expression = v.expression; right_side = w.right_side } ∷ vs) (v ∷ with_work vs w)

-- with an expression that stands, where it goes through the statements
abbrev pub and_standing : List Checked → List Work → Stored → List Work
and_standing statements ws e =
    if goes_through statements e.expression then with_work ws (record { expression = e.expression; right_side = None }) else ws

-- with what a further statement defines, where it is a definition
abbrev pub and_definition : List Work → Checked → List Work
and_definition ws (Drop which) = ws
and_definition ws (Skip which) = ws
and_definition ws (Local id right) = with_work ws (record { expression = id; right_side = Some right })
and_definition ws (Print which) = ws

-- What is carried out, in order: what goes through, and the definitions.
abbrev pub works_of : List Checked → List Stored → List Work
works_of statements standing = fold and_definition (fold (and_standing statements) [] standing) statements
