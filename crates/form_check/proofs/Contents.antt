-- What holds of all that stands in a tree of statements.
use Rattle.std.proofs.Common.{◌≡◌, List, [], ◌∷◌, ◌++◌, map, Option, Some, None, option_map, All, sym, subst, rules}
use Rattle.std.specs.Prelude.{IfSome}
use Rattle.std.specs.List.{flat_map}
use Rattle.std.proofs.lemmas.List.Elements.{All-nil, All-cons, All-head, All-tail, All-append}
use Rattle.form_base.specs.declared.block.Action.{Action, the_lemmas}
use Rattle.form_base.specs.declared.block.Action.TheVariants as acting
use Rattle.form_base.specs.declared.block.Branch.{Branch}
use Rattle.form_base.specs.Statements.{choices_of, conditions_of, in_last, in_row, leaves_of}

-- ---- what each statement has

-- a branch, with what each statement of its block has
abbrev branch_rows : {L C F X : Type 0} → (Action L C F → List X) → Branch C (List (Action L C F)) → Branch C (List (List X))
branch_rows f b = record { condition = b.condition; block = map f b.block }

module _ (L C F : Type 0) where
  leaves_plain : (l : L) → leaves_of {L = L} {C = C} {F = F} (acting.Plain l) ≡ l ∷ []
  leaves_plain l = search (rules, the_lemmas)

  leaves_repeat : (b : List (Action L C F)) → leaves_of (acting.Repeat b) ≡ in_row (map leaves_of b)
  leaves_repeat b = search (rules, the_lemmas)

  leaves_choose : (bs : List (Branch C (List (Action L C F)))) (last : Option (List (Action L C F)))
      → leaves_of (acting.Choose bs last) ≡ flat_map (λ b. in_row b.block) (map (branch_rows leaves_of) bs) ++ in_last (option_map (map leaves_of) last)
  leaves_choose bs last = search (rules, the_lemmas)

  leaves_within : (fs : F) (b : List (Action L C F)) → leaves_of (acting.Within fs b) ≡ in_row (map leaves_of b)
  leaves_within fs b = search (rules, the_lemmas)

  conditions_plain : (l : L) → conditions_of {L = L} {C = C} {F = F} (acting.Plain l) ≡ []
  conditions_plain l = search (rules, the_lemmas)

  conditions_repeat : (b : List (Action L C F)) → conditions_of (acting.Repeat b) ≡ in_row (map conditions_of b)
  conditions_repeat b = search (rules, the_lemmas)

  conditions_choose : (bs : List (Branch C (List (Action L C F)))) (last : Option (List (Action L C F)))
      → conditions_of (acting.Choose bs last) ≡ flat_map (λ b. b.condition ∷ in_row b.block) (map (branch_rows conditions_of) bs) ++ in_last (option_map (map conditions_of) last)
  conditions_choose bs last = search (rules, the_lemmas)

  conditions_within : (fs : F) (b : List (Action L C F)) → conditions_of (acting.Within fs b) ≡ in_row (map conditions_of b)
  conditions_within fs b = search (rules, the_lemmas)

  choices_plain : (l : L) → choices_of {L = L} {C = C} {F = F} (acting.Plain l) ≡ []
  choices_plain l = search (rules, the_lemmas)

  choices_repeat : (b : List (Action L C F)) → choices_of (acting.Repeat b) ≡ in_row (map choices_of b)
  choices_repeat b = search (rules, the_lemmas)

  choices_choose : (bs : List (Branch C (List (Action L C F)))) (last : Option (List (Action L C F)))
      → choices_of (acting.Choose bs last) ≡ flat_map (λ b. in_row b.block) (map (branch_rows choices_of) bs) ++ in_last (option_map (map choices_of) last)
  choices_choose bs last = search (rules, the_lemmas)

  choices_within : (fs : F) (b : List (Action L C F)) → choices_of (acting.Within fs b) ≡ fs ∷ in_row (map choices_of b)
  choices_within fs b = search (rules, the_lemmas)

-- ---- lists behind one another

module _ {A X : Type 0} (P : X → Type 0) (f : A → List X) where
  all_in_row : (b : List A) → All (λ a. All P (f a)) b → All P (in_row (map f b))
  all_in_row [] h = All-nil P
  all_in_row (a ∷ b) h =
      All-append P (f a) (in_row (map f b)) (All-head (λ x. All P (f x)) a b h) (all_in_row b (All-tail (λ x. All P (f x)) a b h))

-- ---- a tree

-- all leaves, all conditions and all choices of functions are so
pub record Holds {L C F : Type 0} (P : L → Type 0) (Q : C → Type 0) (R : F → Type 0) (a : Action L C F) : Type 0 where
  pub leaves : All P (leaves_of a)
  pub conditions : All Q (conditions_of a)
  pub choices : All R (choices_of a)

module _ {L C F : Type 0} (P : L → Type 0) (Q : C → Type 0) (R : F → Type 0) where
  abbrev pub HoldsIn : List (Action L C F) → Type 0
  HoldsIn b = All (Holds P Q R) b

  abbrev pub HoldsOf : Branch C (List (Action L C F)) → Type 0
  HoldsOf b = Q b.condition × HoldsIn b.block

  row_leaves : (b : List (Action L C F)) → HoldsIn b → All P (in_row (map leaves_of b))
  row_leaves b h = all_in_row P leaves_of b (λ i d below. (h i d below).leaves)

  row_conditions : (b : List (Action L C F)) → HoldsIn b → All Q (in_row (map conditions_of b))
  row_conditions b h = all_in_row Q conditions_of b (λ i d below. (h i d below).conditions)

  row_choices : (b : List (Action L C F)) → HoldsIn b → All R (in_row (map choices_of b))
  row_choices b h = all_in_row R choices_of b (λ i d below. (h i d below).choices)

  pub holds_plain : (l : L) → P l → Holds P Q R (acting.Plain l)
  holds_plain l h = record {
    leaves = subst (All P) (sym (leaves_plain L C F l)) (All-cons P l [] h (All-nil P));
    conditions = subst (All Q) (sym (conditions_plain L C F l)) (All-nil Q);
    choices = subst (All R) (sym (choices_plain L C F l)) (All-nil R);
  }

  pub holds_repeat : (b : List (Action L C F)) → HoldsIn b → Holds P Q R (acting.Repeat b)
  holds_repeat b h = record {
    leaves = subst (All P) (sym (leaves_repeat L C F b)) (row_leaves b h);
    conditions = subst (All Q) (sym (conditions_repeat L C F b)) (row_conditions b h);
    choices = subst (All R) (sym (choices_repeat L C F b)) (row_choices b h);
  }

  pub holds_within : (fs : F) (b : List (Action L C F)) → R fs → HoldsIn b → Holds P Q R (acting.Within fs b)
  holds_within fs b r h = record {
    leaves = subst (All P) (sym (leaves_within L C F fs b)) (row_leaves b h);
    conditions = subst (All Q) (sym (conditions_within L C F fs b)) (row_conditions b h);
    choices = subst (All R) (sym (choices_within L C F fs b)) (All-cons R fs (in_row (map choices_of b)) r (row_choices b h));
  }

  branch_leaves : (bs : List (Branch C (List (Action L C F)))) → All HoldsOf bs → All P (flat_map (λ b. in_row b.block) (map (branch_rows leaves_of) bs))
  branch_leaves [] h = All-nil P
  branch_leaves (b ∷ bs) h =
      let rest = flat_map (λ b. in_row b.block) (map (branch_rows leaves_of) bs) in
      All-append P (in_row (map leaves_of b.block)) rest (row_leaves b.block (All-head HoldsOf b bs h).1) (branch_leaves bs (All-tail HoldsOf b bs h))

  branch_conditions : (bs : List (Branch C (List (Action L C F)))) → All HoldsOf bs → All Q (flat_map (λ b. b.condition ∷ in_row b.block) (map (branch_rows conditions_of) bs))
  branch_conditions [] h = All-nil Q
  branch_conditions (b ∷ bs) h =
      let rest = flat_map (λ b. b.condition ∷ in_row b.block) (map (branch_rows conditions_of) bs) in
      let here = All-head HoldsOf b bs h in
      All-append Q (b.condition ∷ in_row (map conditions_of b.block)) rest
      (All-cons Q b.condition (in_row (map conditions_of b.block)) here.0 (row_conditions b.block here.1))
      (branch_conditions bs (All-tail HoldsOf b bs h))

  branch_choices : (bs : List (Branch C (List (Action L C F)))) → All HoldsOf bs → All R (flat_map (λ b. in_row b.block) (map (branch_rows choices_of) bs))
  branch_choices [] h = All-nil R
  branch_choices (b ∷ bs) h =
      let rest = flat_map (λ b. in_row b.block) (map (branch_rows choices_of) bs) in
      All-append R (in_row (map choices_of b.block)) rest (row_choices b.block (All-head HoldsOf b bs h).1) (branch_choices bs (All-tail HoldsOf b bs h))

  last_leaves : (last : Option (List (Action L C F))) → IfSome last HoldsIn → All P (in_last (option_map (map leaves_of) last))
  last_leaves None h = All-nil P
  last_leaves (Some b) h = row_leaves b h

  last_conditions : (last : Option (List (Action L C F))) → IfSome last HoldsIn → All Q (in_last (option_map (map conditions_of) last))
  last_conditions None h = All-nil Q
  last_conditions (Some b) h = row_conditions b h

  last_choices : (last : Option (List (Action L C F))) → IfSome last HoldsIn → All R (in_last (option_map (map choices_of) last))
  last_choices None h = All-nil R
  last_choices (Some b) h = row_choices b h

  pub holds_choose : (bs : List (Branch C (List (Action L C F)))) (last : Option (List (Action L C F))) → All HoldsOf bs → IfSome last HoldsIn → Holds P Q R (acting.Choose bs last)
  holds_choose bs last h k = record {
    leaves = subst (All P) (sym (leaves_choose L C F bs last))
        (All-append P (flat_map (λ b. in_row b.block) (map (branch_rows leaves_of) bs)) (in_last (option_map (map leaves_of) last)) (branch_leaves bs h) (last_leaves last k));
    conditions = subst (All Q) (sym (conditions_choose L C F bs last))
        (All-append Q (flat_map (λ b. b.condition ∷ in_row b.block) (map (branch_rows conditions_of) bs)) (in_last (option_map (map conditions_of) last)) (branch_conditions bs h) (last_conditions last k));
    choices = subst (All R) (sym (choices_choose L C F bs last))
        (All-append R (flat_map (λ b. in_row b.block) (map (branch_rows choices_of) bs)) (in_last (option_map (map choices_of) last)) (branch_choices bs h) (last_choices last k));
  }
