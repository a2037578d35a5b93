-- Reading a right side or a pattern from its front to its end, terminal by terminal. That this reads what Grammar says is
-- proved.
use Rattle.std.specs.Prelude.{◌≡◌, ℕ, ◌==◌, length, List, [], ◌∷◌, ◌++◌, Bool, true, false, Option, Some, None, option_map, option_and_then, if◌then◌else◌, nat_lt, Result, Ok, Err}
use Rattle.form_ast.specs.declared.expr.Link as links
use Rattle.form_ast.specs.declared.expr.Link.TheVariants as by_link
use Rattle.form_ast.specs.declared.expr.Spelled.{Spelled}
use Rattle.form_ast.specs.declared.expr.SignedNumber.{SignedNumber}
use Rattle.form_ast.specs.declared.expr.Restriction.{Restriction}
use Rattle.form_ast.specs.declared.expr.Restriction.TheVariants as restrictions
use Rattle.form_ast.specs.declared.expr.Piece.{Piece}
use Rattle.form_ast.specs.declared.expr.Piece.TheVariants as piece
use Rattle.form_ast.specs.declared.setting.Setting.{Setting}
use Rattle.form_ast.specs.Joined.{joined}
use Rattle.form_ast.specs.Lawful.{most_open}
use Rattle.form_grammar.specs.declared.error.ReadError.{ReadError}
use Rattle.form_grammar.specs.declared.error.ReadError.TheVariants.{BadSyntax, Memory}
use Rattle.form_grammar.specs.declared.terminal.Terminal.{Terminal}
use Rattle.form_grammar.specs.declared.effect.Expected.{Expected}
use Rattle.form_grammar.specs.declared.effect.Expected.TheVariants.{Factor, Argument, FurtherArgument, Operator, Vector}
use Rattle.form_grammar.specs.declared.effect.Last.TheVariants as last
use Rattle.form_grammar.specs.declared.effect.Effect.{Effect}
use Rattle.form_grammar.specs.declared.effect.Effect.TheVariants.{Waits, Adds, Changes, Opens, Encloses, Calls, Closes, Parts, Dots, Fails}
use Rattle.form_grammar.specs.declared.brackets.Bracket.{Bracket}
use Rattle.form_grammar.specs.declared.brackets.Bracket.TheVariants.{Parenthesis, Arguments}
use Rattle.form_grammar.specs.declared.effect.Change.{Change}
use Rattle.form_grammar.specs.declared.effect.Change.TheVariants as changes
use Rattle.form_grammar.specs.declared.reader.Reader.{Reader}
use Rattle.form_grammar.specs.Effect.{effect_of, may_end}

-- What a function returned, seen by view, is what reading gives, unless memory ran out.
abbrev pub IsUnread : {Y : Type 0} → ReadError → Option Y → Type 0
IsUnread Memory read = Unit {0}
IsUnread BadSyntax read = read ≡ None

abbrev pub Gives : {X Y : Type 0} → (X → Y) → Result X ReadError → Option Y → Type 0
Gives view (Ok x) read = read ≡ Some (view x)
Gives view (Err e) read = IsUnread e read

-- what BadSyntax says: nothing is so
abbrev pub Excludes : {X : Type 0} → ReadError → (X → Type 0) → Type 0
Excludes Memory P = Unit {0}
Excludes {X} BadSyntax P = (x : X) → P x → ⊥

-- a right side while it is read: its pieces, the parentheses that are open, the innermost first, and what may come next
pub record Reading : Type 0 where
  pub pieces : List Piece
  pub opened : List Bracket
  pub expected : Expected

abbrev pub reading_of : Reader → Reading
reading_of r = record { pieces = joined r.parts.items ++ r.pieces.items; opened = r.opened; expected = r.expected }

abbrev pub begun : Reading
begun = record { pieces = []; opened = []; expected = Factor by_link.First }

abbrev pub unless_over : links.Link → Piece → Option Piece
unless_over by_link.Over y = None
unless_over _ y = Some y

-- a further element
abbrev pub with_name : Spelled → Restriction → Option Restriction
with_name n restrictions.Any = Some (restrictions.Names (n ∷ []))
with_name n (restrictions.Names ns) = Some (restrictions.Names (ns ++ n ∷ []))
with_name n _ = None

abbrev pub with_number : SignedNumber → Restriction → Option Restriction
with_number n restrictions.Any = Some (restrictions.Numbers (n ∷ []))
with_number n (restrictions.Numbers ns) = Some (restrictions.Numbers (ns ++ n ∷ []))
with_number n _ = None

abbrev pub with_set : Spelled → Restriction → Option Restriction
with_set n restrictions.Any = Some (restrictions.Set n)
with_set n _ = None

-- what restricts a wildcard, where the piece is its mark
abbrev pub restriction_in : Piece → Option Restriction
restriction_in (piece.Marked r) = Some r
restriction_in _ = None

abbrev pub marked : Option Restriction → Option Piece
marked r = option_map (λ r. piece.Marked r) r

-- the piece as what follows changes it: a name with arguments doesn't stand behind `/`
abbrev pub changed : Change → Piece → Option Piece
changed changes.Dot (piece.Name link n) = Some (piece.Dot link n)
changed changes.Dot _ = None
changed changes.Call (piece.Name link n) = unless_over link (piece.Call link n)
changed changes.Call _ = None
changed (changes.Set n) p = marked (option_and_then (with_set n) (restriction_in p))
changed (changes.Name n) p = marked (option_and_then (with_name n) (restriction_in p))
changed (changes.Number n) p = marked (option_and_then (with_number n) (restriction_in p))

-- the pieces, the one changed that has so many behind it
unfoldable pub with_change : ℕ → Change → List Piece → Option (List Piece)
with_change behind c [] = None
with_change behind c (x ∷ rest) =
    if length rest == behind then option_map (λ y. y ∷ rest) (changed c x) else option_map (λ pieces. x ∷ pieces) (with_change behind c rest)

abbrev pub changed_reading : ℕ → Change → Reading → Option Reading
changed_reading behind c r = option_map (λ pieces. record { pieces = pieces; opened = r.opened; expected = r.expected }) (with_change behind c r.pieces)

-- a name has its mark behind it, where it has one
abbrev pub behind_name : Bool → ℕ
behind_name is_marked = if is_marked then 1 else 0

-- a further parenthesis may be open
abbrev pub room_for : Reading → Bool
room_for r = nat_lt (length r.opened) most_open

-- the innermost parenthesis holds arguments
abbrev pub are_arguments : List Bracket → Bool
are_arguments (Arguments ∷ around) = true
are_arguments _ = false

-- what ends what is open
abbrev pub end_of : Bracket → Piece
end_of Parenthesis = piece.Close
end_of Arguments = piece.EndOfCall

abbrev pub closed : List Piece → List Bracket → Option Reading
closed pieces [] = None
closed pieces (b ∷ around) = Some (record { pieces = pieces ++ end_of b ∷ []; opened = around; expected = Operator last.Enclosed })

abbrev pub applied : Reading → Effect → Option Reading
applied r (Waits expected) = Some (record { pieces = r.pieces; opened = r.opened; expected = expected })
applied r (Adds p expected) = Some (record { pieces = r.pieces ++ p ∷ []; opened = r.opened; expected = expected })
applied r (Opens link) =
    if room_for r then Some (record { pieces = r.pieces ++ piece.Open link ∷ []; opened = Parenthesis ∷ r.opened; expected = Factor by_link.First }) else None
applied r (Encloses expected) =
    if room_for r then Some (record { pieces = r.pieces; opened = r.opened; expected = expected }) else None
applied r (Changes c expected) = option_map (λ n. record { pieces = n.pieces; opened = n.opened; expected = expected }) (changed_reading 0 c r)
applied r (Calls is_marked) =
    if room_for r then option_map (λ n. record { pieces = n.pieces; opened = Arguments ∷ n.opened; expected = Argument }) (changed_reading (behind_name is_marked) changes.Call r) else None
applied r Closes = closed r.pieces r.opened
applied r Parts =
    if are_arguments r.opened then Some (record { pieces = r.pieces ++ piece.Comma ∷ []; opened = r.opened; expected = FurtherArgument }) else None
applied r (Dots is_marked) = option_map (λ n. record { pieces = n.pieces; opened = n.opened; expected = Vector }) (changed_reading (behind_name is_marked) changes.Dot r)
applied r Fails = None

-- one terminal further
abbrev pub step : Setting → Reading → Terminal → Option Reading
step setting r terminal = applied r (effect_of setting r.expected terminal)

abbrev pub all_closed : List Bracket → List Piece → Option (List Piece)
all_closed [] pieces = Some pieces
all_closed (b ∷ around) pieces = None

-- the pieces, where all is closed and a factor stands last
abbrev pub finished : Reading → Option (List Piece)
finished r = if may_end r.expected then all_closed r.opened r.pieces else None

-- the pieces that reading goes on to
unfoldable pub run : Setting → Reading → List Terminal → Option (List Piece)
run setting r [] = finished r
run setting r (terminal ∷ rest) = option_and_then (λ next. run setting next rest) (step setting r terminal)
