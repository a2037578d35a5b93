-- What a path stands for.
use Rattle.std.specs.Prelude.{◌≡◌, Bool, false, List, [], ◌∷◌, map, Option, Some, None, option_map, reverse}
use Rattle.form_base.specs.declared.cause.Cause.TheVariants.{RepeatBudget}
use Rattle.form_term.specs.declared.monomial.Monomial.{Monomial}
use Rattle.form_flow.specs.declared.path.Layer.{Layer}
use Rattle.form_flow.specs.declared.path.Path.{Path}
use Rattle.form_flow.specs.declared.path.Left.{Left}
use Rattle.form_flow.specs.declared.path.Left.TheVariants.{Inside, Outside, Exhausted}
use Rattle.form_flow.specs.Outcome.{Outcome, bind, refusal, unchanged}
use Rattle.form_flow.specs.Ways.{Acting, Way, acts_of, finish, out}
use Rattle.form_flow.specs.Statement.{Statement}
use denote.Ref.{Bor}

abbrev pub way : Acting → Layer → Way
way act l = record {
  rest = acts_of act l.rest.now;
  body = option_map (λ b. acts_of act b.now) l.body;
  left = l.left;
  has_acted = l.has_acted;
  acted_before = l.acted_before;
}

-- the blocks around the innermost one, the next of them first
abbrev pub outer_layers : Option Layer → List Layer → List Layer
outer_layers None ls = []
outer_layers (Some l) ls = l ∷ reverse ls

-- the blocks that are open, the innermost first
abbrev pub ways : Acting → Path → List Way
ways act p = way act p.here ∷ map (way act) (outer_layers p.outer p.around.items)

-- the next statement of a block, and the block behind it; or its end
abbrev pub Splits : Acting → Layer → Option (Bor Statement × Layer) → Type 0
Splits act l None = l.rest.now ≡ []
Splits act l (Some (a, behind)) = way act l ≡ record (way act behind) { rest = act a.now ∷ (way act behind).rest }

-- the next statement of a path, and the path behind it; or the end of its innermost block
abbrev pub IsNext : Acting → Option (Bor Statement) → Path → Path → Type 0
IsNext act None old new = (old.here.rest.now ≡ []) × (new ≡ old)
IsNext act (Some a) old new = (m : Monomial) → finish (ways act old) false m ≡ bind (out (ways act new)) (act a.now m)

-- a block that isn't repeated, or one in which nothing acted in this turn
abbrev pub unchanged_by : Option (Bor (List Statement)) → Bool → Type 0
unchanged_by None acted = Unit {0}
unchanged_by (Some b) acted = acted ≡ false

abbrev pub IsUnchanged : Layer → Type 0
IsUnchanged l = unchanged_by l.body l.has_acted

-- what a term came to at the end of a block, and what it comes to further on
abbrev pub Leaves : Left → Outcome → Outcome → Monomial → Type 0
Leaves Inside old new m = old ≡ new
Leaves Outside old new m = old ≡ unchanged m
Leaves Exhausted old new m = old ≡ refusal RepeatBudget
