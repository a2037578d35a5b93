-- Induction on a tree of statements.
use Rattle.std.proofs.Common.{List, [], ◌∷◌, map, Option, Some, None, All, sym, subst}
use Rattle.std.specs.Prelude.{IfSome}
use Rattle.std.proofs.lemmas.List.Elements.{All-nil, All-cons}
use Rattle.form_base.specs.declared.block.Action.{Action}
use Rattle.form_base.specs.declared.block.Action.TheFolds.{ind-Action, map-Action}
use Rattle.form_base.specs.declared.block.Action.TheOpen.{Action-F}
use Rattle.form_base.specs.declared.block.Action.TheVariants as acting
use Rattle.form_base.specs.declared.block.Action.TheVariants.{rolls-Plain, rolls-Repeat, rolls-Choose, rolls-Within}
use Rattle.form_base.specs.declared.block.Action.TheViews.{roll-Action}
use Rattle.form_base.specs.declared.block.Branch.{Branch}

module _ {L C F : Type 0} (P : Action L C F → Type 0) where
  abbrev pub InAll : List (Action L C F) → Type 0
  InAll b = All P b

  abbrev pub InBranch : Branch C (List (Action L C F)) → Type 0
  InBranch b = InAll b.block

  -- a statement with what is shown of it
  abbrev Shown : Type 0
  Shown = (a : Action L C F) × P a

  abbrev statement : Shown → Action L C F
  statement s = s.0

  abbrev branch : Branch C (List Shown) → Branch C (List (Action L C F))
  branch b = record { condition = b.condition; block = map statement b.block }

  shown : (b : List Shown) → InAll (map statement b)
  shown [] = All-nil P
  shown (s ∷ b) = All-cons P s.0 (map statement b) s.1 (shown b)

  shown_branches : (bs : List (Branch C (List Shown))) → All InBranch (map branch bs)
  shown_branches [] = All-nil InBranch
  shown_branches (b ∷ bs) = All-cons InBranch (branch b) (map branch bs) (shown b.block) (shown_branches bs)

  module _ (plain : (l : L) → P (acting.Plain l)) (repeats : (b : List (Action L C F)) → InAll b → P (acting.Repeat b))
      (chooses : (bs : List (Branch C (List (Action L C F)))) (last : Option (List (Action L C F))) → All InBranch bs → IfSome last InAll → P (acting.Choose bs last))
      (within : (f : F) (b : List (Action L C F)) → InAll b → P (acting.Within f b)) where
    by_step : (y : Action-F L C F Shown) → P (roll-Action L C F (map-Action L C F Shown (Action L C F) statement y))
    by_step (Action-F.Plain l) = subst P (sym (rolls-Plain l)) (plain l)
    by_step (Action-F.Repeat b) = subst P (sym (rolls-Repeat (map statement b))) (repeats (map statement b) (shown b))
    by_step (Action-F.Choose bs None) = subst P (sym (rolls-Choose (map branch bs) None)) (chooses (map branch bs) None (shown_branches bs) tt)
    by_step (Action-F.Choose bs (Some b)) =
        subst P (sym (rolls-Choose (map branch bs) (Some (map statement b)))) (chooses (map branch bs) (Some (map statement b)) (shown_branches bs) (shown b))
    by_step (Action-F.Within f b) = subst P (sym (rolls-Within f (map statement b))) (within f (map statement b) (shown b))

    pub by_tree : (a : Action L C F) → P a
    by_tree = ind-Action L C F P (λ x y is. subst (λ (z : Action-F L C F (Action L C F)). P (roll-Action L C F z)) is (by_step y))
