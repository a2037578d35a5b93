-- Reading declarations of indices, dimensions and what is switched.
use Rattle.std.specs.Prelude.{Bool, false, List, [], ◌∷◌, ◌++◌, codes, Option, Some, None, option_and_then, if◌then◌else◌}
use Rattle.form_ast.specs.declared.expr.Spelled.{Spelled}
use Rattle.form_ast.specs.declared.index_list.Dimension as dimensions
use Rattle.form_ast.specs.declared.index_list.Dimension.TheVariants as dimension
use Rattle.form_ast.specs.declared.index_list.SpelledIndex.{SpelledIndex}
use Rattle.form_ast.specs.declared.statement.Statement.{Statement}
use Rattle.form_ast.specs.declared.statement.Statement.TheVariants.{Statistics}
use Rattle.form_grammar.specs.declared.terminal.Terminal.{Terminal}
use Rattle.form_grammar.specs.declared.terminal.Terminal.TheVariants as by_terminal
use Rattle.form_stmts.specs.declared.indices.Indexing.{Indexing}
use Rattle.form_stmts.specs.declared.indices.Indexing.TheVariants.{Nothing, Name, Equals, Dimension}
use Rattle.form_stmts.specs.declared.indices.Step.{Step}
use Rattle.form_stmts.specs.Keyword.{is_one_of}

abbrev pub index : Spelled → Option dimensions.Dimension → SpelledIndex
index name d = record { name = name; dimension = d }

-- the index that is complete where indices end so
abbrev pub last_index : Indexing → Option SpelledIndex
last_index (Name name) = Some (index name None)
last_index _ = None

abbrev pub goes_on : Indexing → Option SpelledIndex → Option Step
goes_on next complete = Some (record { next = next; complete = complete })

-- one terminal further, where it may stand there
abbrev pub index_step : Indexing → Terminal → Option Step
index_step Nothing (by_terminal.Name name) = goes_on (Name name) None
index_step (Name name) (by_terminal.Name further) = goes_on (Name further) (Some (index name None))
index_step (Name name) by_terminal.Comma = goes_on Nothing (Some (index name None))
index_step (Name name) by_terminal.Equals = goes_on (Equals name) None
index_step (Equals name) (by_terminal.Number n) = goes_on Dimension (Some (index name (Some (dimension.Number n))))
index_step (Equals name) (by_terminal.Name d) = goes_on Dimension (Some (index name (Some (dimension.Name d))))
index_step Dimension (by_terminal.Name name) = goes_on (Name name) None
index_step Dimension by_terminal.Comma = goes_on Nothing None
index_step _ _ = None

-- the indices, where they may end so
abbrev pub ended : Indexing → List SpelledIndex → Option (List SpelledIndex)
ended Nothing indices = None
ended (Name name) indices = Some (indices ++ index name None ∷ [])
ended (Equals name) indices = None
ended Dimension indices = Some indices

-- with an index that is complete
abbrev pub with_complete : List SpelledIndex → Option SpelledIndex → List SpelledIndex
with_complete indices None = indices
with_complete indices (Some i) = indices ++ i ∷ []

-- the indices that reading goes on to, behind those that are read
unfoldable pub indices_from : Indexing → List SpelledIndex → List Terminal → Option (List SpelledIndex)
indices_from last indices [] = ended last indices
indices_from last indices (terminal ∷ rest) =
    option_and_then (λ step. indices_from step.next (with_complete indices step.complete) rest) (index_step last terminal)

-- the only terminal
abbrev pub only : List Terminal → Option Terminal
only [] = None
only (terminal ∷ []) = Some terminal
only (terminal ∷ _ ∷ _) = None

abbrev pub dimension_from : Option Terminal → Option dimensions.Dimension
dimension_from (Some (by_terminal.Number n)) = Some (dimension.Number n)
dimension_from (Some (by_terminal.Name name)) = Some (dimension.Name name)
dimension_from _ = None

abbrev pub is_statistics : Terminal → Bool
is_statistics (by_terminal.Name word) = is_one_of word.name (codes "statistics" ∷ [])
is_statistics _ = false

abbrev pub switch_from : Option Terminal → Option Statement
switch_from (Some terminal) = if is_statistics terminal then Some Statistics else None
switch_from None = None
