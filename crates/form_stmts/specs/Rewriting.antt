-- What stands in an `id` or an `also`: a comma or none, an option or none, with a comma behind it or none, a pattern, `=`
-- and a right side.
use Rattle.std.specs.Prelude.{ℕ, List, [], ◌∷◌, ◌++◌, codes, Bool, true, false, Option, Some, None, if◌then◌else◌}
use Rattle.form_base.specs.declared.taking.Taking.{Taking}
use Rattle.form_base.specs.declared.taking.Taking.TheVariants.{Once, Only, Multi, Many}
use Rattle.form_grammar.specs.declared.terminal.Terminal.{Terminal}
use Rattle.form_grammar.specs.declared.terminal.Terminal.TheVariants.{Name, Imaginary, Delta, Comma, Equals}
use Rattle.form_stmts.specs.Keyword.{is_one_of}

-- the option that a word is, in any case of letters
abbrev pub option_word : List ℕ → Option Taking
option_word name =
    if is_one_of name (codes "once" ∷ []) then Some Once
    else if is_one_of name (codes "only" ∷ []) then Some Only
    else if is_one_of name (codes "multi" ∷ []) then Some Multi
    else if is_one_of name (codes "many" ∷ []) then Some Many
    else None

abbrev pub word_option : Terminal → Option Taking
word_option (Name n) = option_word n.name
word_option _ = None

abbrev pub is_comma : Terminal → Bool
is_comma Comma = true
is_comma _ = false

-- a name, a name of the language or a comma: such a word is an option only before one of these
abbrev pub may_follow_option : Terminal → Bool
may_follow_option (Name n) = true
may_follow_option (Imaginary spot) = true
may_follow_option (Delta spot) = true
may_follow_option Comma = true
may_follow_option _ = false

-- without a comma at the front, where one stands there
abbrev pub behind_comma : List Terminal → List Terminal
behind_comma [] = []
behind_comma (terminal ∷ rest) = if is_comma terminal then rest else terminal ∷ rest

-- the option at the front
abbrev pub option_at : List Terminal → Option Taking
option_at (word ∷ next ∷ rest) = if may_follow_option next then word_option word else None
option_at _ = None

-- what follows an option at the front, and a comma behind it
abbrev pub behind_word : Option Taking → List Terminal → List Terminal
behind_word None terminals = terminals
behind_word (Some option) [] = []
behind_word (Some option) (word ∷ rest) = behind_comma rest

-- the option of an `id`, by what stands before its `=`, and its pattern
abbrev pub option_of : List Terminal → Option Taking
option_of left = option_at (behind_comma left)

abbrev pub pattern_of : List Terminal → List Terminal
pattern_of left = behind_word (option_of left) (behind_comma left)

abbrev pub is_equals : Terminal → Bool
is_equals Equals = true
is_equals _ = false

-- with this before the left side
abbrev pub with_left : List Terminal → Option (List Terminal × List Terminal) → Option (List Terminal × List Terminal)
with_left front None = None
with_left front (Some sides) = Some (front ++ sides.0, sides.1)

-- what stands before the first `=`, and what stands behind it: no pattern has a `=`
unfoldable pub sides : List Terminal → Option (List Terminal × List Terminal)
sides [] = None
sides (terminal ∷ rest) = if is_equals terminal then Some ([], rest) else with_left (terminal ∷ []) (sides rest)
