-- What an `id` makes of a joined term.
use Rattle.std.specs.Prelude.{List, [], ◌∷◌}
use Rattle.form_flow.specs.declared.compiled.ReadyLeaf.TheVariants.{Rewrite}
use Rattle.form_flow.specs.Ready.{Part}
use Rattle.form_flow.specs.Statement.{Limits}
use Rattle.form_flow.specs.Statements.{leaf}
use Rattle.form_gathered.specs.declared.joined.JoinedTerm.{JoinedTerm}
use Rattle.form_levels.specs.Runs.{Runs}
use Rattle.form_levels.specs.declared.rewriting.Rewritten.{Rewritten}
use Rattle.form_levels.specs.declared.rewriting.Rewritten.TheVariants.{Untouched, Acted, Unknown}

-- what an `id` with its `also`s makes of a joined term, where it is told
abbrev pub IsRewritten : Limits → List Part → JoinedTerm → Rewritten → Type 0
IsRewritten at ps j (Untouched left) = Runs (leaf at (Rewrite ps)) (j ∷ []) (left ∷ []) []
IsRewritten at ps j (Acted made) = Runs (leaf at (Rewrite ps)) (j ∷ []) [] made.items
IsRewritten at ps j Unknown = Unit {0}
