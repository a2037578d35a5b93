-- What comes of each statement that is carried out on terms, by those of its blocks.
use Rattle.std.proofs.Common.{◌≡◌, List, [], ◌∷◌, map, Option, Some, None, option_map, Result, Ok, refl, sym, ap, subst, ◌∙◌, rules}
use Rattle.form_base.specs.declared.block.Action.{the_lemmas}
use Rattle.form_base.specs.declared.block.Action.TheVariants as acting
use Rattle.form_base.specs.declared.block.Branch.{Branch}
use Rattle.form_names.specs.Names.{Entry}
use Rattle.form_ast.specs.Conditions.{Condition}
use Rattle.form_ast.specs.Written.{WrittenAction, WrittenBranch}
use Rattle.form_ast.specs.declared.module.WrittenLeaf.{WrittenLeaf}
use Rattle.form_ast.specs.declared.picked.Picked as written
use Rattle.form_check.specs.declared.checked.CheckedLeaf.{CheckedLeaf}
use Rattle.form_check.specs.declared.checked.Picked.{Picked}
use Rattle.form_check.specs.Acting.{action, all, block, branch, branch_with, last_block, last_with, leaf}
use Rattle.form_check.specs.Carried.{picked}
use Rattle.form_check.specs.Program.{CheckedBranch, CheckedStatement}
use Rattle.form_right_side.specs.Refusal.{Refusal, IsRefused, ◌>>=◌, listed}
use Rattle.form_right_side.specs.declared.error.CheckError.{CheckError}
use Rattle.form_right_side.proofs.Binding.{bind-same}
use Rattle.form_right_side.proofs.Loops.{IsRefused-before}

-- ---- lists of what each gives

listed_mapped : {X Y Z : Type 0} (give : Y → Result Z Refusal) (f : X → Y) (xs : List X) → listed give (map f xs) ≡ listed (λ x. give (f x)) xs
listed_mapped {Z = Z} give f [] = refl
listed_mapped {Z = Z} give f (x ∷ xs) =
    bind-same (give (f x)) (λ z. listed give (map f xs) >>= (λ zs. Ok (z ∷ zs))) (λ z. listed (λ x. give (f x)) xs >>= (λ zs. Ok (z ∷ zs)))
    (λ z. ap (λ (r : Result (List Z) Refusal). r >>= (λ zs. Ok (z ∷ zs))) (listed_mapped give f xs))

listed_alike : {X Z : Type 0} (give other : X → Result Z Refusal) → ((x : X) → give x ≡ other x) → (xs : List X) → listed give xs ≡ listed other xs
listed_alike {Z = Z} give other same [] = refl
listed_alike {Z = Z} give other same (x ∷ xs) =
    ap (λ (r : Result Z Refusal). r >>= (λ z. listed give xs >>= (λ zs. Ok (z ∷ zs)))) (same x)
    ∙ bind-same (other x) (λ z. listed give xs >>= (λ zs. Ok (z ∷ zs))) (λ z. listed other xs >>= (λ zs. Ok (z ∷ zs)))
    (λ z. ap (λ (r : Result (List Z) Refusal). r >>= (λ zs. Ok (z ∷ zs))) (listed_alike give other same xs))

-- ---- each variant

abbrev Made : Type 0
Made = Result CheckedStatement Refusal

module _ (names : List Entry) where
  -- a branch, with what comes of each statement of its block
  abbrev branch_rows : WrittenBranch → Branch Condition (List Made)
  branch_rows b = record { condition = b.condition; block = map (action names) b.block }

  abbrev branch_by : Branch Condition (List Made) → Result CheckedBranch Refusal
  branch_by b = branch_with names b.condition (all b.block)

  all_made : (b : List WrittenAction) → all (map (action names) b) ≡ block names b
  all_made b = listed_mapped (λ one. one) (action names) b

  pub action_plain : (l : WrittenLeaf) → action names (acting.Plain l) ≡ (leaf names l >>= (λ made. Ok (acting.Plain made)))
  unfolding action
  action_plain l = search (rules, the_lemmas)

  repeat_rows : (b : List WrittenAction) → action names (acting.Repeat b) ≡ (all (map (action names) b) >>= (λ made. Ok (acting.Repeat made)))
  unfolding action
  repeat_rows b = search (rules, the_lemmas)

  pub action_repeat : (b : List WrittenAction) → action names (acting.Repeat b) ≡ (block names b >>= (λ made. Ok (acting.Repeat made)))
  action_repeat b = repeat_rows b ∙ ap (λ (r : Result (List CheckedStatement) Refusal). r >>= (λ made. Ok (acting.Repeat made))) (all_made b)

  within_rows : (fs : List written.Picked) (b : List WrittenAction)
      → action names (acting.Within fs b) ≡ (listed (picked names) fs >>= (λ taken. all (map (action names) b) >>= (λ made. Ok (acting.Within taken made))))
  unfolding action
  within_rows fs b = search (rules, the_lemmas)

  pub action_within : (fs : List written.Picked) (b : List WrittenAction)
      → action names (acting.Within fs b) ≡ (listed (picked names) fs >>= (λ taken. block names b >>= (λ made. Ok (acting.Within taken made))))
  action_within fs b =
      within_rows fs b
      ∙ ap (λ (r : Result (List CheckedStatement) Refusal). listed (picked names) fs >>= (λ taken. r >>= (λ made. Ok (acting.Within taken made)))) (all_made b)

  branches_made : (bs : List WrittenBranch) → listed branch_by (map branch_rows bs) ≡ listed (branch names) bs
  branches_made bs =
      listed_mapped branch_by branch_rows bs
      ∙ listed_alike (λ b. branch_by (branch_rows b)) (branch names) (λ b. ap (branch_with names b.condition) (all_made b.block)) bs

  last_made : (last : Option (List WrittenAction)) → last_with (option_map all (option_map (map (action names)) last)) ≡ last_block names last
  last_made None = refl
  last_made (Some b) = ap (λ (r : Result (List CheckedStatement) Refusal). last_with (Some r)) (all_made b)

  choose_rows : (bs : List WrittenBranch) (last : Option (List WrittenAction))
      → action names (acting.Choose bs last)
      ≡ (listed branch_by (map branch_rows bs) >>= (λ made. last_with (option_map all (option_map (map (action names)) last)) >>= (λ otherwise. Ok (acting.Choose made otherwise))))
  unfolding action
  choose_rows bs last = search (rules, the_lemmas)

  pub action_choose : (bs : List WrittenBranch) (last : Option (List WrittenAction))
      → action names (acting.Choose bs last) ≡ (listed (branch names) bs >>= (λ made. last_block names last >>= (λ otherwise. Ok (acting.Choose made otherwise))))
  action_choose bs last =
      choose_rows bs last
      ∙ ap (λ (r : Result (List CheckedBranch) Refusal). r >>= (λ made. last_with (option_map all (option_map (map (action names)) last)) >>= (λ otherwise. Ok (acting.Choose made otherwise)))) (branches_made bs)
      ∙ ap (λ (r : Result (Option (List CheckedStatement)) Refusal). listed (branch names) bs >>= (λ made. r >>= (λ otherwise. Ok (acting.Choose made otherwise)))) (last_made last)

-- ---- what a function answers of each

module _ (names : List Entry) (a : WrittenAction) where
  abbrev IsRefusedWith : CheckError → Type 0
  IsRefusedWith error = IsRefused error (action names a)

  by_equation : (error : CheckError) (r : Made) → action names a ≡ r → IsRefused error r → IsRefusedWith error
  by_equation error r is h = subst (λ (x : Made). IsRefused error x) (sym is) h

  module _ (l : WrittenLeaf) (is : a ≡ acting.Plain l) where
    plain_is : action names a ≡ (leaf names l >>= (λ made. Ok (acting.Plain made)))
    plain_is = ap (action names) is ∙ action_plain names l

    pub plain_refused : (error : CheckError) → IsRefused error (leaf names l) → IsRefusedWith error
    plain_refused error h = by_equation error (leaf names l >>= (λ made. Ok (acting.Plain made))) plain_is (IsRefused-before error (leaf names l) (λ made. Ok (acting.Plain made)) h)

    pub plain_made : (made : CheckedLeaf) → leaf names l ≡ Ok made → action names a ≡ Ok (acting.Plain made)
    plain_made made h = plain_is ∙ ap (λ (r : Result CheckedLeaf Refusal). r >>= (λ made. Ok (acting.Plain made))) h

  module _ (b : List WrittenAction) (is : a ≡ acting.Repeat b) where
    repeat_is : action names a ≡ (block names b >>= (λ made. Ok (acting.Repeat made)))
    repeat_is = ap (action names) is ∙ action_repeat names b

    pub repeat_refused : (error : CheckError) → IsRefused error (block names b) → IsRefusedWith error
    repeat_refused error h = by_equation error (block names b >>= (λ made. Ok (acting.Repeat made))) repeat_is (IsRefused-before error (block names b) (λ made. Ok (acting.Repeat made)) h)

    pub repeat_made : (made : List CheckedStatement) → block names b ≡ Ok made → action names a ≡ Ok (acting.Repeat made)
    repeat_made made h = repeat_is ∙ ap (λ (r : Result (List CheckedStatement) Refusal). r >>= (λ made. Ok (acting.Repeat made))) h

  module _ (bs : List WrittenBranch) (last : Option (List WrittenAction)) (is : a ≡ acting.Choose bs last) where
    abbrev behind_branches : List CheckedBranch → Made
    behind_branches made = last_block names last >>= (λ otherwise. Ok (acting.Choose made otherwise))

    choose_is : action names a ≡ (listed (branch names) bs >>= behind_branches)
    choose_is = ap (action names) is ∙ action_choose names bs last

    pub branches_refused : (error : CheckError) → IsRefused error (listed (branch names) bs) → IsRefusedWith error
    branches_refused error h = by_equation error (listed (branch names) bs >>= behind_branches) choose_is (IsRefused-before error (listed (branch names) bs) behind_branches h)

    module _ (made : List CheckedBranch) (gives : listed (branch names) bs ≡ Ok made) where
      last_is : action names a ≡ behind_branches made
      last_is = choose_is ∙ ap (λ (r : Result (List CheckedBranch) Refusal). r >>= behind_branches) gives

      pub last_refused : (error : CheckError) → IsRefused error (last_block names last) → IsRefusedWith error
      last_refused error h = by_equation error (behind_branches made) last_is (IsRefused-before error (last_block names last) (λ otherwise. Ok (acting.Choose made otherwise)) h)

      pub choose_made : (otherwise : Option (List CheckedStatement)) → last_block names last ≡ Ok otherwise → action names a ≡ Ok (acting.Choose made otherwise)
      choose_made otherwise h = last_is ∙ ap (λ (r : Result (Option (List CheckedStatement)) Refusal). r >>= (λ otherwise. Ok (acting.Choose made otherwise))) h

  module _ (fs : List written.Picked) (b : List WrittenAction) (is : a ≡ acting.Within fs b) where
    abbrev behind_functions : List Picked → Made
    behind_functions taken = block names b >>= (λ made. Ok (acting.Within taken made))

    within_is : action names a ≡ (listed (picked names) fs >>= behind_functions)
    within_is = ap (action names) is ∙ action_within names fs b

    pub functions_refused : (error : CheckError) → IsRefused error (listed (picked names) fs) → IsRefusedWith error
    functions_refused error h = by_equation error (listed (picked names) fs >>= behind_functions) within_is (IsRefused-before error (listed (picked names) fs) behind_functions h)

    module _ (taken : List Picked) (gives : listed (picked names) fs ≡ Ok taken) where
      inner_is : action names a ≡ behind_functions taken
      inner_is = within_is ∙ ap (λ (r : Result (List Picked) Refusal). r >>= behind_functions) gives

      pub inner_refused : (error : CheckError) → IsRefused error (block names b) → IsRefusedWith error
      inner_refused error h = by_equation error (behind_functions taken) inner_is (IsRefused-before error (block names b) (λ made. Ok (acting.Within taken made)) h)

      pub within_made : (made : List CheckedStatement) → block names b ≡ Ok made → action names a ≡ Ok (acting.Within taken made)
      within_made made h = inner_is ∙ ap (λ (r : Result (List CheckedStatement) Refusal). r >>= (λ made. Ok (acting.Within taken made))) h
