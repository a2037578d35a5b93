-- What the statements of a module make of a term.
use Rattle.std.specs.Prelude.{ℕ, Bool, if◌then◌else◌, List, [], ◌∷◌, map, Option, Some, None}
use denote.Ref.{Bor}
use Rattle.form_ast.specs.declared.statement.Side.{Side}
use Rattle.form_base.specs.declared.block.Action.TheFolds.{fold-Action}
use Rattle.form_base.specs.declared.block.Action.TheOpen.{Action-F}
use Rattle.form_base.specs.declared.block.Branch.{Branch}
use Rattle.form_check.specs.declared.checked.Picked.{Picked}
use Rattle.form_cond.specs.Condition.{holds}
use Rattle.form_expand.specs.Expanding.{list_of_sum}
use Rattle.form_expand.specs.Listing.{Listing, followed, limited, nothing}
use Rattle.form_expand.specs.Meanings.{no_meanings}
use Rattle.form_term.specs.declared.monomial.Monomial.{Monomial}
use Rattle.form_tree.specs.Tree as tree
use Rattle.form_flow.specs.declared.compiled.ReadyLeaf.{ReadyLeaf}
use Rattle.form_flow.specs.declared.compiled.ReadyLeaf.TheVariants.{Rewrite, Multiply, Sum, SumOver, Discard}
use Rattle.form_flow.specs.Arguments.{in_arguments}
use Rattle.form_flow.specs.Indices.{dummies_put, number_put}
use Rattle.form_flow.specs.Multiplying.{multiplied_by}
use Rattle.form_flow.specs.Outcome.{Outcome, gone, listing_of, made, turns, unchanged}
use Rattle.form_flow.specs.Ready.{Choice}
use Rattle.form_flow.specs.Rewriting.{rewritten}
use Rattle.form_flow.specs.Statement.{Chosen, Compiled, Limits, Statement}
use Rattle.form_flow.specs.Ways.{run_each}

-- ---- statements that are no blocks

-- a term times a right side, or that times the term
abbrev pub multiplied : ℕ → Side → tree.Sum → Monomial → Listing
multiplied max side s m = multiplied_by side (list_of_sum max no_meanings s) m

-- an index takes each of these values, one after the other
unfoldable pub summed_over : ℕ → List ℕ → Monomial → Listing
summed_over i [] m = nothing
summed_over i (n ∷ ns) m = followed (number_put i n m) (summed_over i ns m)

abbrev pub or_unchanged : Monomial → Option Listing → Outcome
or_unchanged m None = unchanged m
or_unchanged m (Some l) = made l

-- An `id` with its `also`s, a `multiply`, a `sum` of indices that become dummies, a `sum` of an index over numbers, a `discard`.
unfoldable pub leaf : Limits → ReadyLeaf → Monomial → Outcome
leaf at (Rewrite ps) m = or_unchanged m (rewritten at.terms ps m)
leaf at (Multiply side s) m = made (multiplied at.terms side s m)
leaf at (Sum is) m = made (dummies_put is m)
leaf at (SumOver i ns) m = made (summed_over i ns m)
leaf at Discard m = gone

-- ---- blocks

abbrev pub is_so : Choice → Monomial → Bool
is_so q m = holds q.patterns q.condition m.coefficient m.term

-- The first branch whose condition holds of the term is taken, else the last block, where there is one.
abbrev pub first_branch : List (Branch Choice (List (Monomial → Outcome))) → Option (List (Monomial → Outcome)) → Monomial → Outcome
first_branch [] None m = unchanged m
first_branch [] (Some b) m = run_each b m
first_branch (b ∷ bs) last m = if is_so b.condition m then run_each b.block m else first_branch bs last m

-- a statement, by what the statements of its blocks make of a term
abbrev pub one : Limits → Action-F ReadyLeaf Choice (List Picked) (Monomial → Outcome) → Monomial → Outcome
one at (Action-F.Plain l) m = leaf at l m
one at (Action-F.Repeat acts) m = turns at.turns (run_each acts) m
one at (Action-F.Choose bs last) m = first_branch bs last m
one at (Action-F.Within picks acts) m = in_arguments at.terms picks (run_each acts) m

-- What a statement makes of a term.
abbrev pub action : Limits → Statement → Monomial → Outcome
action at = fold-Action ReadyLeaf Choice (List Picked) (Monomial → Outcome) (one at)

-- What a block makes of a term, depth first.
abbrev pub run : Limits → List Statement → Monomial → Outcome
run at statements = run_each (map (action at) statements)

-- The outputs of one input term: at most so many, and ExpandLimit where more would come.
unfoldable pub outputs : Compiled → Monomial → Listing
outputs c m = limited c.limits.terms (listing_of (run c.limits c.statements m))

-- ---- a block that is taken

-- a branch by what its statements make of a term
abbrev pub branch_by : (Statement → Monomial → Outcome) → Chosen → Branch Choice (List (Monomial → Outcome))
branch_by act b = record { condition = b.condition; block = map act b.block }

-- the block that is taken, where there is one
abbrev pub taken : (Statement → Monomial → Outcome) → Option (Bor (List Statement)) → Monomial → Outcome
taken act None m = unchanged m
taken act (Some b) m = run_each (map act b.now) m
