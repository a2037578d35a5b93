-- What is read of tokens that are there, where it is also what its setting asks for.
use Rattle.std.specs.Prelude.{ℕ, List, Bool, if◌then◌else◌, Option, Some, None, option_and_then, is_some}
use Rattle.std.specs.List.{list_all}
use Rattle.form_ast.specs.declared.expr.Piece.{Piece}
use Rattle.form_ast.specs.declared.setting.Setting.TheVariants.{Right, Pattern}
use Rattle.form_ast.specs.Patterns.{is_known_piece}
use Rattle.form_grammar.specs.declared.terminal.Terminal.{Terminal}
use Rattle.form_grammar.specs.Depth.{opened_by}
use Rattle.form_grammar.specs.Reading.{begun, run}
use Rattle.form_grammar.specs.Shape as shape

abbrev pub where_so : (List Piece → Bool) → List Piece → Option (List Piece)
where_so test pieces = if test pieces then Some pieces else None

-- a right side whose powers by a name and fields its pattern has
abbrev pub run_right : List Piece → List Terminal → Option (List Piece)
run_right pattern terminals = option_and_then (where_so (list_all (is_known_piece pattern))) (run Right begun terminals)

-- a pattern
abbrev pub run_pattern : List Terminal → Option (List Piece)
run_pattern terminals = option_and_then (where_so (shape.judged shape.begun)) (run Pattern begun terminals)

-- no more parentheses are open anywhere in the pieces than may be, where so many are open around them
abbrev pub fit_within : ℕ → List Piece → Bool
fit_within opened pieces = is_some (opened_by opened pieces)

-- a pattern that stands where so many parentheses are open
unfoldable pub run_pattern_within : ℕ → List Terminal → Option (List Piece)
run_pattern_within opened terminals = option_and_then (where_so (fit_within opened)) (run_pattern terminals)
