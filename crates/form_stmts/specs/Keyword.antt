-- The words that statements begin with.
use Rattle.std.specs.Prelude.{ℕ, List, [], ◌∷◌, codes, Bool, Option, Some, None, if◌then◌else◌}
use Rattle.std.specs.List.{list_any}
use Rattle.std.specs.Option.{option_or}
use Rattle.std.specs.Str.{str_eq_ignore_ascii_case}
use Rattle.form_ast.specs.declared.statement.Declared.{Declared}
use Rattle.form_ast.specs.declared.statement.Declared.TheVariants.{Symbols, Vectors, Functions, CFunctions}
use Rattle.form_stmts.specs.declared.keyword.Keyword.{Keyword}
use Rattle.form_stmts.specs.declared.keyword.Keyword.TheVariants.{Names, Indices, Dimension, Switch, Set, Drop, Skip, Local, Id, Also, Multiply, Sum, Discard, Repeat, EndRepeat, If, ElseIf, Else, EndIf, Argument, EndArgument, Print}

-- the name is one of these words, in any case of letters
abbrev pub is_one_of : List ℕ → List (List ℕ) → Bool
is_one_of name words = list_any (λ word. str_eq_ignore_ascii_case name word) words

abbrev pub declared_by : List ℕ → Option Declared
declared_by name =
    if is_one_of name (codes "symbols" ∷ codes "symbol" ∷ codes "s" ∷ []) then Some Symbols
    else if is_one_of name (codes "vectors" ∷ codes "vector" ∷ codes "v" ∷ []) then Some Vectors
    else if is_one_of name (codes "functions" ∷ codes "function" ∷ codes "f" ∷ []) then Some Functions
    else if is_one_of name (codes "cfunctions" ∷ codes "cfunction" ∷ codes "cf" ∷ []) then Some CFunctions
    else None

abbrev pub setting_keyword : List ℕ → Option Keyword
setting_keyword name =
    if is_one_of name (codes "indices" ∷ codes "index" ∷ codes "i" ∷ []) then Some Indices
    else if is_one_of name (codes "dimension" ∷ []) then Some Dimension
    else if is_one_of name (codes "set" ∷ []) then Some Set
    else if is_one_of name (codes "on" ∷ codes "off" ∷ []) then Some Switch
    else None

abbrev pub expression_keyword : List ℕ → Option Keyword
expression_keyword name =
    if is_one_of name (codes "drop" ∷ []) then Some Drop
    else if is_one_of name (codes "skip" ∷ []) then Some Skip
    else if is_one_of name (codes "local" ∷ codes "l" ∷ []) then Some Local
    else if is_one_of name (codes "id" ∷ []) then Some Id
    else if is_one_of name (codes "also" ∷ []) then Some Also
    else if is_one_of name (codes "print" ∷ []) then Some Print
    else None

abbrev pub term_keyword : List ℕ → Option Keyword
term_keyword name =
    if is_one_of name (codes "multiply" ∷ []) then Some Multiply
    else if is_one_of name (codes "sum" ∷ []) then Some Sum
    else if is_one_of name (codes "discard" ∷ []) then Some Discard
    else None

abbrev pub block_keyword : List ℕ → Option Keyword
block_keyword name =
    if is_one_of name (codes "repeat" ∷ []) then Some Repeat
    else if is_one_of name (codes "endrepeat" ∷ []) then Some EndRepeat
    else if is_one_of name (codes "if" ∷ []) then Some If
    else if is_one_of name (codes "elseif" ∷ []) then Some ElseIf
    else if is_one_of name (codes "else" ∷ []) then Some Else
    else if is_one_of name (codes "endif" ∷ []) then Some EndIf
    else if is_one_of name (codes "argument" ∷ []) then Some Argument
    else if is_one_of name (codes "endargument" ∷ []) then Some EndArgument
    else None

abbrev pub other_keyword : List ℕ → Option Keyword
other_keyword name = option_or (option_or (option_or (setting_keyword name) (expression_keyword name)) (term_keyword name)) (block_keyword name)

abbrev pub or_other : Option Declared → List ℕ → Option Keyword
or_other None name = other_keyword name
or_other (Some declared) name = Some (Names declared)

unfoldable pub keyword_of : List ℕ → Option Keyword
keyword_of name = or_other (declared_by name) name
