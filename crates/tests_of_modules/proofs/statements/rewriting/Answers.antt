use Rattle.std.proofs.Common.{List, pos, ap, sym, subst, All, ◌∙◌, rules}
use Rattle.std.proofs.lemmas.List.Elements.{All-nil}
use Rattle.form_tree.specs.declared.pattern.Name.TheVariants.{Itself}
use Rattle.form_tree.specs.declared.tree.Piece.{Piece}
use Rattle.form_tree.specs.Pattern as patterns
use Rattle.form_tree.specs.Patterns.{Pieces}
use Rattle.form_flow.specs.Making.{HasArgument}
use Rattle.tests_of_modules.proofs.statements.rewriting.Goals as goal

pub returns : goal.returns
returns c = (
  (
    (patterns.more (patterns.symbol (Itself 0) (pos 1)) patterns.none, search rules),
    subst (λ (lists : List (List Piece)). All HasArgument lists) (sym (ap (λ (p : Pieces). p.fixed) c.from_parts.ensures ∙ c.new-none.ensures.items)) (All-nil HasArgument),
  ),
  (c.requires.0, search rules),
)
