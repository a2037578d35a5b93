-- What stands in a tree of statements, in the order of the text.
use Rattle.std.specs.Prelude.{List, [], ◌∷◌, ◌++◌, Option, Some, None}
use Rattle.std.specs.List.{flat_map}
use Rattle.form_base.specs.declared.block.Action.{Action}
use Rattle.form_base.specs.declared.block.Action.TheFolds.{fold-Action}
use Rattle.form_base.specs.declared.block.Action.TheOpen.{Action-F}
use Rattle.form_base.specs.declared.block.Branch.{Branch}

-- ---- lists behind one another

abbrev pub in_row : {X : Type 0} → List (List X) → List X
in_row rows = flat_map (λ row. row) rows

abbrev pub in_last : {X : Type 0} → Option (List (List X)) → List X
in_last None = []
in_last (Some rows) = in_row rows

-- ---- statements that are no blocks

abbrev pub leaves_in : {L C F : Type 0} → Action-F L C F (List L) → List L
leaves_in (Action-F.Plain l) = l ∷ []
leaves_in (Action-F.Repeat b) = in_row b
leaves_in (Action-F.Choose bs last) = flat_map (λ b. in_row b.block) bs ++ in_last last
leaves_in (Action-F.Within fs b) = in_row b

abbrev pub leaves_of : {L C F : Type 0} → Action L C F → List L
leaves_of {L} {C} {F} = fold-Action L C F (List L) leaves_in

-- ---- conditions

abbrev pub conditions_in : {L C F : Type 0} → Action-F L C F (List C) → List C
conditions_in (Action-F.Plain l) = []
conditions_in (Action-F.Repeat b) = in_row b
conditions_in (Action-F.Choose bs last) = flat_map (λ b. b.condition ∷ in_row b.block) bs ++ in_last last
conditions_in (Action-F.Within fs b) = in_row b

abbrev pub conditions_of : {L C F : Type 0} → Action L C F → List C
conditions_of {L} {C} {F} = fold-Action L C F (List C) conditions_in

-- ---- choices of functions

abbrev pub choices_in : {L C F : Type 0} → Action-F L C F (List F) → List F
choices_in (Action-F.Plain l) = []
choices_in (Action-F.Repeat b) = in_row b
choices_in (Action-F.Choose bs last) = flat_map (λ b. in_row b.block) bs ++ in_last last
choices_in (Action-F.Within fs b) = fs ∷ in_row b

abbrev pub choices_of : {L C F : Type 0} → Action L C F → List F
choices_of {L} {C} {F} = fold-Action L C F (List F) choices_in
