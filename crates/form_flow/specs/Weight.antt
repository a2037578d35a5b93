-- How far statements may go on: of a term that comes to them as many as two to their weight may go on their way at most.
use Rattle.std.specs.Prelude.{◌≡◌, ℕ, suc, ◌+◌, ◌*◌, List, [], ◌∷◌, length, map, sum_by, Option, Some, None}
use denote.Ref.{Bor}
use Rattle.form_base.specs.declared.block.Action.TheFolds.{fold-Action}
use Rattle.form_base.specs.declared.block.Action.TheOpen.{Action-F}
use Rattle.form_base.specs.declared.block.Branch.{Branch}
use Rattle.form_check.specs.declared.checked.Picked.{Picked}
use Rattle.form_expand.specs.Expanding.{list_of_sum}
use Rattle.form_expand.specs.Meanings.{no_meanings}
use Rattle.form_flow.specs.declared.compiled.ReadyLeaf.{ReadyLeaf}
use Rattle.form_flow.specs.declared.compiled.ReadyLeaf.TheVariants.{Rewrite, Multiply, Sum, SumOver, Discard}
use Rattle.form_flow.specs.declared.path.Layer.{Layer}
use Rattle.form_flow.specs.declared.path.Path.{Path}
use Rattle.form_flow.specs.Paths.{outer_layers}
use Rattle.form_flow.specs.Ready.{Choice}
use Rattle.form_flow.specs.Statement.{Limits, Statement}

-- so many terms come of one at most, by a statement that is no block
abbrev pub most_made : Limits → ReadyLeaf → ℕ
most_made at (Rewrite ps) = suc at.terms
most_made at (Multiply side s) = length (list_of_sum at.terms no_meanings s).terms
most_made at (Sum is) = 1
most_made at (SumOver i ns) = length ns
most_made at Discard = 0

-- statements by what each weighs
abbrev pub total : List ℕ → ℕ
total [] = 0
total (n ∷ ns) = suc n + total ns

abbrev pub last_total : Option (List ℕ) → ℕ
last_total None = 0
last_total (Some ns) = total ns

abbrev pub branch_total : Branch Choice (List ℕ) → ℕ
branch_total b = total b.block

abbrev pub one_weight : Limits → Action-F ReadyLeaf Choice (List Picked) ℕ → ℕ
one_weight at (Action-F.Plain l) = most_made at l
one_weight at (Action-F.Repeat b) = at.turns * suc (total b)
one_weight at (Action-F.Choose bs last) = suc (sum_by branch_total bs + last_total last)
one_weight at (Action-F.Within picks b) = suc (suc (total b))

abbrev pub weight_of : Limits → Statement → ℕ
weight_of at = fold-Action ReadyLeaf Choice (List Picked) ℕ (one_weight at)

abbrev pub block_weight : Limits → List Statement → ℕ
block_weight at statements = total (map (weight_of at) statements)

-- the turns that may begin yet
abbrev pub turns_weight : Limits → Option (Bor (List Statement)) → ℕ → ℕ
turns_weight at None left = 0
turns_weight at (Some b) left = left * suc (block_weight at b.now)

abbrev pub layer_weight : Limits → Layer → ℕ
layer_weight at l = suc (block_weight at l.rest.now + turns_weight at l.body l.left)

abbrev pub path_weight : Limits → Path → ℕ
path_weight at p = layer_weight at p.here + sum_by (layer_weight at) (outer_layers p.outer p.around.items)

-- the next statement was passed
abbrev pub Weighs : Limits → Option (Bor Statement) → (old new : ℕ) → Type 0
Weighs at None old new = Unit {0}
Weighs at (Some a) old new = old ≡ suc (weight_of at a.now) + new

abbrev pub Weighs_less : Limits → Option (Bor Statement × Layer) → ℕ → Type 0
Weighs_less at None old = Unit {0}
Weighs_less at (Some (a, behind)) old = old ≡ suc (weight_of at a.now) + layer_weight at behind

-- branches that a term may take
abbrev pub branch_weight : Limits → Branch Choice (List Statement) → ℕ
branch_weight at b = block_weight at b.block

abbrev pub last_weight : Limits → Option (List Statement) → ℕ
last_weight at None = 0
last_weight at (Some b) = block_weight at b

abbrev pub branches_weight : Limits → List (Branch Choice (List Statement)) → Option (List Statement) → ℕ
branches_weight at bs last = sum_by (branch_weight at) bs + last_weight at last

abbrev pub taken_weight : Limits → Option (Bor (List Statement)) → ℕ
taken_weight at None = 0
taken_weight at (Some b) = block_weight at b.now
