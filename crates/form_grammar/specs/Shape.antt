-- Whether pieces are those of a pattern, judged from their front to their end, piece by piece. That this is what Patterns
-- says of their tree is proved.
use Rattle.std.specs.Prelude.{ℕ, Bool, true, false, ◌||◌, if◌then◌else◌, List, [], ◌∷◌, ◌++◌, Option, Some, None, option_map, option_and_then}
use Rattle.form_ast.specs.declared.expr.Link as links
use Rattle.form_ast.specs.declared.expr.Link.TheVariants as by_link
use Rattle.form_ast.specs.declared.expr.Piece.{Piece}
use Rattle.form_ast.specs.declared.expr.Piece.TheVariants as pieces
use Rattle.form_ast.specs.declared.weight.Key.{Key}
use Rattle.form_ast.specs.declared.weight.Key.TheVariants.{Alone, Dotted}
use Rattle.form_ast.specs.declared.weight.Weight.{Weight}
use Rattle.form_ast.specs.declared.weight.Weight.TheVariants.{Keyed, Lone, Free}
use Rattle.form_ast.specs.Patterns.{text_of, is_minus, are_balanced}
use Rattle.form_grammar.specs.declared.weights.WeightChange.{WeightChange}
use Rattle.form_grammar.specs.declared.weights.WeightChange.TheVariants as changes
use Rattle.form_grammar.specs.declared.shape.Level.{Level}
use Rattle.form_grammar.specs.declared.shape.Shape.{Shape}

-- a level in which nothing stands yet
abbrev pub empty : Level
empty = record { has_begun = false; has_wildcard = false; weights = Some [] }

-- a factor that stands so may be one of a pattern
abbrev pub fits : links.Link → Bool
fits by_link.First = true
fits by_link.Times = true
fits _ = false

abbrev pub with_weight : Option Weight → Option (List Weight) → Option (List Weight)
with_weight (Some w) (Some ws) = Some (ws ++ w ∷ [])
with_weight _ _ = None

abbrev pub weights_with : links.Link → Option Weight → Option (List Weight) → Option (List Weight)
weights_with link w ws = if fits link then with_weight w ws else None

-- a further factor, which weighs so where it may be one of a pattern
abbrev pub added : links.Link → Option Weight → Level → Level
added link w l = record { has_begun = true; has_wildcard = l.has_wildcard; weights = weights_with link w l.weights }

-- the last name of a key is a wildcard
abbrev pub marked_key : Key → Key
marked_key (Alone text m) = Alone text true
marked_key (Dotted p m q n) = Dotted p m q true

-- a weight as what stands behind its factor's first piece changes it
abbrev pub changed : WeightChange → Weight → Option Weight
changed (changes.Size below size) (Keyed key b s) = Some (Keyed key below size)
changed (changes.Size below size) (Lone s) = Some (Lone size)
changed (changes.Size below size) (Free text) = Some (Free text)
changed changes.Free (Keyed (Alone text m) b s) = Some (Free text)
changed changes.Free _ = None
changed changes.Mark (Keyed key b s) = Some (Keyed (marked_key key) b s)
changed changes.Mark (Lone s) = Some (Lone s)
changed changes.Mark (Free text) = Some (Free text)
changed (changes.Second q) (Keyed (Alone text m) b s) = Some (Keyed (Dotted text m q false) b s)
changed (changes.Second q) _ = None

-- the last weight is changed
unfoldable pub with_last : WeightChange → List Weight → Option (List Weight)
with_last c [] = None
with_last c (w ∷ []) = option_map (λ v. v ∷ []) (changed c w)
with_last c (w ∷ v ∷ ws) = option_map (λ rest. w ∷ rest) (with_last c (v ∷ ws))

abbrev pub last_changed : WeightChange → Level → Level
last_changed c l = record { has_begun = l.has_begun; has_wildcard = l.has_wildcard; weights = option_and_then (with_last c) l.weights }

abbrev pub with_wildcard : Level → Level
with_wildcard l = record { has_begun = l.has_begun; has_wildcard = true; weights = l.weights }

-- the factors of a level are those of a pattern
abbrev pub are_factors : Option (List Weight) → Bool
are_factors None = false
are_factors (Some ws) = are_balanced ws

-- an argument is a pattern, or has no wildcard
abbrev pub is_argument : Level → Bool
is_argument l = if l.has_wildcard then are_factors l.weights else true

-- what is around a level, where this ends
abbrev pub absorbed : Level → Level → Level
absorbed inner outer = record {
  has_begun = outer.has_begun;
  has_wildcard = outer.has_wildcard || inner.has_wildcard;
  weights = if is_argument inner then outer.weights else None;
}

abbrev pub closed : List Level → Level → Shape
closed [] inner = record { around = []; inner = inner }
closed (outer ∷ around) inner = record { around = around; inner = absorbed inner outer }

abbrev pub parted : List Level → Level → Shape
parted [] inner = record { around = []; inner = inner }
parted (outer ∷ around) inner = record { around = absorbed inner outer ∷ around; inner = empty }

-- the name before the innermost level is a wildcard, or a field stands in it
abbrev pub with_outer_wildcard : List Level → List Level
with_outer_wildcard [] = []
with_outer_wildcard (outer ∷ around) = with_wildcard outer ∷ around

-- a field stands in the innermost level
abbrev pub field_in : Shape → Shape
field_in s = record { around = with_outer_wildcard s.around; inner = s.inner }

abbrev pub marked : Shape → Shape
marked s =
    if s.inner.has_begun then record { around = s.around; inner = with_wildcard (last_changed changes.Mark s.inner) }
    else field_in s

abbrev pub inner_changed : WeightChange → Shape → Shape
inner_changed c s = record { around = s.around; inner = last_changed c s.inner }

abbrev pub factor_added : links.Link → Option Weight → Shape → Shape
factor_added link w s = record { around = s.around; inner = added link w s.inner }

abbrev pub level_opened : links.Link → Option Weight → Shape → Shape
level_opened link w s = record { around = added link w s.inner ∷ s.around; inner = empty }

-- what a name alone weighs
abbrev pub name_weight : List ℕ → Option Weight
name_weight text = Some (Keyed (Alone text false) false 1)

-- one piece further
abbrev pub step : Shape → Piece → Shape
step s (pieces.Number link n) = factor_added link None s
step s (pieces.Name link n) = factor_added link (name_weight (text_of n)) s
step s (pieces.Dot link n) = factor_added link (name_weight (text_of n)) s
step s (pieces.EndOfDot n) = inner_changed (changes.Second (text_of n)) s
step s (pieces.Delta link spot) = factor_added link (Some (Lone 1)) s
step s (pieces.EntryName n) = s
step s (pieces.EntryNumber n) = s
step s pieces.EndOfDelta = s
step s (pieces.Call link n) = level_opened link (Some (Lone 1)) s
step s pieces.Comma = parted s.around s.inner
step s pieces.EndOfCall = closed s.around s.inner
step s (pieces.Open link) = level_opened link None s
step s pieces.Close = closed s.around s.inner
step s (pieces.Raised is_parenthesized sign n) = inner_changed (changes.Size (is_minus sign) n.value) s
step s (pieces.RaisedByName sign n) = inner_changed changes.Free s
step s (pieces.Marked r) = marked s
step s (pieces.Field n) = field_in s

abbrev pub begun : Shape
begun = record { around = []; inner = empty }

-- the pieces go on to a pattern
unfoldable pub judged : Shape → List Piece → Bool
judged s [] = are_factors s.inner.weights
judged s (p ∷ rest) = judged (step s p) rest
