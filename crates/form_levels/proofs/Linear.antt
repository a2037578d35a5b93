-- Statements that don't ask for the coefficient make of c times a term what they make of the term, with c times its coefficients.
use Rattle.std.proofs.Common.{◌≡◌, ℕ, suc, Bool, true, false, if◌then◌else◌, List, [], ◌∷◌, ◌++◌, map, Option, Some, None, IfSome, option_map, Result, Ok, Err, inl, refl, sym, subst, ◌∙◌}
use Rattle.std.specs.Prelude.{All, pos}
use Rattle.std.specs.List.{AllByRecursion, flat_map}
use Rattle.std.proofs.lemmas.List.Elements.{All-head, All-tail}
use Rattle.form_ast.specs.declared.statement.Side.{Side}
use Rattle.form_ast.specs.declared.statement.Side.TheVariants as sides
use Rattle.form_base.specs.declared.block.Action.TheVariants as acting
use Rattle.form_base.specs.declared.block.Branch.{Branch}
use Rattle.form_base.specs.declared.cause.Cause.{Cause}
use Rattle.form_base.specs.declared.cause.Cause.TheVariants.{Overflow}
use Rattle.form_base.specs.Statements.{in_last, in_row}
use Rattle.form_check.specs.declared.checked.Picked.{Picked}
use Rattle.form_check.proofs.Induction.{InAll, InBranch, by_tree}
use Rattle.form_frac.specs.Fraction.{Fraction, IsLowest, whole}
use Rattle.form_frac.proofs.Reduced.{product_one, product_swap}
use Rattle.form_term.specs.declared.index.Index.{Index}
use Rattle.form_term.specs.declared.index.Index.TheVariants as indices
use Rattle.form_term.specs.declared.monomial.Monomial.{Monomial}
use Rattle.form_term.specs.Term.{Call, Term, size}
use Rattle.form_term.proofs.Each.{at_back, each_map, flat_each, in_front, map_each}
use Rattle.form_normal.specs.Product.{product}
use Rattle.form_expand.specs.Expanding.{list_of_sum}
use Rattle.form_expand.specs.Listing.{Listing, limited}
use Rattle.form_expand.specs.Meanings.{no_meanings}
use Rattle.form_expand.specs.Singles.{of_product}
use Rattle.form_flow.specs.declared.compiled.ReadyLeaf.{ReadyLeaf}
use Rattle.form_flow.specs.declared.compiled.ReadyLeaf.TheVariants.{Rewrite, Multiply, Sum, SumOver, Discard}
use Rattle.form_flow.specs.Arguments.{Progress, so_far, ends, and_word, anew, calls_behind, in_arguments, with_functions}
use Rattle.form_flow.specs.Indices.{become, dummies, dummies_put, each_made, indices_in, number_put, put, renamed, renamed_call, with_calls, with_factors}
use Rattle.form_flow.specs.Multiplying.{multiplied_by}
use Rattle.form_flow.specs.Outcome.{Outcome, Output, cause_of, listing_of, refused, turns}
use Rattle.form_flow.specs.Ready.{Choice, Part}
use Rattle.form_flow.specs.Rewriting.{Rest, behind_first, list_of_rest, rest_of, rewritten, to_first_cut}
use Rattle.form_flow.specs.Statement.{Chosen, Compiled, Limits, Statement}
use Rattle.form_flow.specs.Statements.{action, branch_by, first_branch, leaf, multiplied, or_unchanged, outputs, run, summed_over}
use Rattle.form_flow.proofs.Acting.{of_plain, of_repeat, of_choose, of_within}
use Rattle.form_levels.specs.Linear.{Agree, AgreeListing, AreLinear, IsIndifferent, IsLinear, conditions_on_term, scaled, scaled_list, scaled_outcome, scaled_output}
use Rattle.form_levels.proofs.Agreeing.{IsScaled, IsScaledList, changed_agree, each_becomes}
use Rattle.form_levels.proofs.OnTerms.{branch_conditions, conditions_choose, conditions_repeat}
use Rattle.form_levels.proofs.ScaledLists.{alone_scaled, before_list_scaled, behind_list_scaled, followed_scaled, limited_scaled, row_scaled}
use Rattle.form_levels.proofs.Scaling.{BranchScales, Scales, branches_scale, made_scaled, row_scales, turns_scale}

abbrev AreIndifferent : List Choice → Type 0
AreIndifferent qs = AllByRecursion IsIndifferent qs

module _ (c : Fraction) where
  -- ---- statements that are no blocks

  list_of_rest_scaled : (max : ℕ) (m : Monomial) (r : Rest) → IsScaledList c (list_of_rest max m r) (list_of_rest max (scaled c m) r)
  list_of_rest_scaled max m r = row_scaled c max (record { coefficient = m.coefficient; term = to_first_cut r.left r.cuts }) (behind_first r.left.others.word r.cuts ++ r.behind)

  rewritten_scaled : (max : ℕ) (ps : List Part) (m : Monomial) → IsScaled c (or_unchanged m (rewritten max ps m)) (or_unchanged (scaled c m) (rewritten max ps (scaled c m)))
  unfolding rewritten
  rewritten_scaled max ps m = by (rest_of max ps m.term).has_matched
    where
      by : (matched : Bool) → IsScaled c (or_unchanged m (if matched then Some (list_of_rest max m (rest_of max ps m.term)) else None))
          (or_unchanged (scaled c m) (if matched then Some (list_of_rest max (scaled c m) (rest_of max ps m.term)) else None))
      by true =
          made_scaled c true (list_of_rest max m (rest_of max ps m.term)) (list_of_rest max (scaled c m) (rest_of max ps m.term)) (list_of_rest_scaled max m (rest_of max ps m.term))
      by false = (refl, inl refl)

  multiplied_scaled : (side : Side) (l : Listing) (m : Monomial) → IsScaledList c (multiplied_by side l m) (multiplied_by side l (scaled c m))
  multiplied_scaled sides.Right l m = behind_list_scaled c m l
  multiplied_scaled sides.Left l m = before_list_scaled c l.terms l.end m

  renamed_scaled : (n : ℕ) (by : Index → Index) (m : Monomial) → IsScaledList c (renamed (suc n) by m) (renamed (suc n) by (scaled c m))
  unfolding renamed
  renamed_scaled n by m = both (each_made (renamed_call by (renamed n by)) m.term.others.functions) (each_made (renamed_call by (renamed n by)) m.term.others.word)
    where
      both : (fs ws : Result (List Call) Cause) → IsScaledList c (with_calls by m fs ws) (with_calls by (scaled c m) fs ws)
      both (Err cause) ws = inl refl
      both (Ok fs) (Err cause) = inl refl
      both (Ok fs) (Ok ws) = alone_scaled c (record { coefficient = m.coefficient; term = with_factors by m.term fs ws })

  summed_scaled : (i : ℕ) (ns : List ℕ) (m : Monomial) → IsScaledList c (summed_over i ns m) (summed_over i ns (scaled c m))
  unfolding summed_over
  summed_scaled i [] m = inl refl
  summed_scaled i (n ∷ ns) m =
      followed_scaled c (number_put i n m) (number_put i n (scaled c m)) (summed_over i ns m) (summed_over i ns (scaled c m))
      (renamed_scaled (size m.term) (put i (indices.Fixed n)) m) (summed_scaled i ns m)

  leaf_scales : (at : Limits) (l : ReadyLeaf) → Scales c (leaf at l)
  unfolding leaf
  leaf_scales at (Rewrite ps) m = rewritten_scaled at.terms ps m
  leaf_scales at (Multiply side s) m =
      made_scaled c true (multiplied at.terms side s m) (multiplied at.terms side s (scaled c m)) (multiplied_scaled side (list_of_sum at.terms no_meanings s) m)
  leaf_scales at (Sum is) m = made_scaled c true (dummies_put is m) (dummies_put is (scaled c m)) (renamed_scaled (size m.term) (become (dummies is (indices_in m.term))) m)
  leaf_scales at (SumOver i ns) m = made_scaled c true (summed_over i ns m) (summed_over i ns (scaled c m)) (summed_scaled i ns m)
  leaf_scales at Discard m = inl refl

  -- ---- arguments

  anew_scaled : (m : Monomial) (fs : List Call) (p : Progress (List Call)) → IsScaled c (anew m fs p) (anew (scaled c m) fs p)
  anew_scaled m fs (ends cause) = inl refl
  anew_scaled m fs (so_far ws acted) =
      let n : Monomial = with_functions m fs ws in
      made_scaled c acted (of_product (product (n ∷ []))) (of_product (product (scaled c n ∷ []))) (alone_scaled c n)

  arguments_scale : (max : ℕ) (ps : List Picked) (go : Monomial → Outcome) → Scales c (in_arguments max ps go)
  unfolding in_arguments
  arguments_scale max ps go m = by (calls_behind max go ps false m.term.others.functions)
    where
      by : (p : Progress (List Call)) → IsScaled c (and_word max go ps m p) (and_word max go ps (scaled c m) p)
      by (ends cause) = inl refl
      by (so_far fs acted) = anew_scaled m fs (calls_behind max go ps acted m.term.others.word)

  -- ---- blocks

  module _ (at : Limits) where
    abbrev IsScaling : Statement → Type 0
    IsScaling a = AreIndifferent (conditions_on_term a) → Scales c (action at a)

    acts_scale : (b : List Statement) → All IsScaling b → AllByRecursion (λ a. AreIndifferent (conditions_on_term a)) b → AllByRecursion (Scales c) (map (action at) b)
    acts_scale [] h k = tt
    acts_scale (a ∷ b) h k = (All-head IsScaling a b h k.0, acts_scale b (All-tail IsScaling a b h) k.1)

    block_scales : (b : List Statement) → All IsScaling b → AreIndifferent (in_row (map conditions_on_term b)) → AllByRecursion (Scales c) (map (action at) b)
    block_scales b h k =
        acts_scale b h
        (map_each (λ (a : Statement). AreIndifferent (conditions_on_term a)) AreIndifferent conditions_on_term (λ a q. q) b
        (flat_each AreIndifferent IsIndifferent (λ (row : List Choice). row) (λ row q. q) (map conditions_on_term b) k))

    each_branch_scales : (bs : List Chosen) → All (InBranch IsScaling) bs → AreIndifferent (flat_map (λ b. b.condition ∷ in_row b.block) (map branch_conditions bs))
        → AllByRecursion (BranchScales c) (map (branch_by (action at)) bs)
    each_branch_scales [] h k = tt
    each_branch_scales (b ∷ bs) h k =
        let here = b.condition ∷ in_row (map conditions_on_term b.block) in
        let others = flat_map (λ (d : Branch Choice (List (List Choice))). d.condition ∷ in_row d.block) (map branch_conditions bs) in
        let asked = in_front IsIndifferent here others k in (
          (asked.0, block_scales b.block (All-head (InBranch IsScaling) b bs h) asked.1),
          each_branch_scales bs (All-tail (InBranch IsScaling) b bs h) (at_back IsIndifferent here others k),
        )

    last_scales : (last : Option (List Statement)) → IfSome last (InAll IsScaling) → AreIndifferent (in_last (option_map (map conditions_on_term) last)) → IfSome (option_map (map (action at)) last) (AllByRecursion (Scales c))
    last_scales None h k = tt
    last_scales (Some b) h k = block_scales b h k

    same_scales : (f go : Monomial → Outcome) → ((m : Monomial) → go m ≡ f m) → Scales c f → Scales c go
    same_scales f go same h = subst (Scales c) (λ j m. sym (same m) j) h

    plain_scales : (l : ReadyLeaf) → IsScaling (acting.Plain l)
    plain_scales l asked = same_scales (leaf at l) (action at (acting.Plain l)) (of_plain at l) (leaf_scales at l)

    repeat_scales : (b : List Statement) → InAll IsScaling b → IsScaling (acting.Repeat b)
    repeat_scales b h asked =
        same_scales (turns at.turns (run at b)) (action at (acting.Repeat b)) (of_repeat at b)
        (turns_scale c at.turns (run at b) (row_scales c (map (action at) b) (block_scales b h (subst AreIndifferent (conditions_repeat b) asked))))

    choose_scales : (bs : List Chosen) (last : Option (List Statement)) → All (InBranch IsScaling) bs → IfSome last (InAll IsScaling) → IsScaling (acting.Choose bs last)
    choose_scales bs last h k asked =
        let first = flat_map (λ (b : Branch Choice (List (List Choice))). b.condition ∷ in_row b.block) (map branch_conditions bs) in
        let later = in_last (option_map (map conditions_on_term) last) in
        let all = subst AreIndifferent (conditions_choose bs last) asked in
        let chosen = map (branch_by (action at)) bs in
        let otherwise = option_map (map (action at)) last in
        same_scales (first_branch chosen otherwise) (action at (acting.Choose bs last)) (of_choose at bs last)
        (branches_scale c chosen otherwise (each_branch_scales bs h (in_front IsIndifferent first later all)) (last_scales last k (at_back IsIndifferent first later all)))

    within_scales : (ps : List Picked) (b : List Statement) → InAll IsScaling b → IsScaling (acting.Within ps b)
    within_scales ps b h asked = same_scales (in_arguments at.terms ps (run at b)) (action at (acting.Within ps b)) (of_within at ps b) (arguments_scale at.terms ps (run at b))

    statement_scales : (a : Statement) → IsScaling a
    statement_scales = by_tree IsScaling plain_scales repeat_scales choose_scales within_scales

  -- ---- statements in a row

  run_scales : (at : Limits) (ss : List Statement) → AreLinear ss → Scales c (run at ss)
  run_scales at ss linear =
      row_scales c (map (action at) ss) (each_map IsLinear (Scales c) (action at) (statement_scales at) ss linear)

  pub run_linear : (at : Limits) (ss : List Statement) (m : Monomial) → AreLinear ss → Agree (scaled_outcome c (run at ss m)) (run at ss (scaled c m))
  run_linear at ss m linear =
      let o : Outcome = run at ss m in
      let p : Outcome = run at ss (scaled c m) in
      changed_agree (scaled_output c) (refused Overflow) o.outputs o.end p.outputs p.end (run_scales at ss linear m)

  pub run_linear_from_one : (at : Limits) (ss : List Statement) (t : Term) → AreLinear ss → IsLowest c
      → Agree (scaled_outcome c (run at ss (record { coefficient = whole (pos 1); term = t }))) (run at ss (record { coefficient = c; term = t }))
  run_linear_from_one at ss t linear lowest =
      let m : Monomial = record { coefficient = whole (pos 1); term = t } in
      subst (λ (x : Fraction). Agree (scaled_outcome c (run at ss m)) (run at ss (record { coefficient = x; term = t }))) (product_swap c (whole (pos 1)) ∙ product_one c lowest)
      (run_linear at ss m linear)

  pub outputs_linear : (k : Compiled) (m : Monomial) → AreLinear k.statements → AgreeListing (scaled_list c (outputs k m)) (outputs k (scaled c m))
  unfolding outputs
  outputs_linear k m linear =
      let o : Outcome = run k.limits k.statements m in
      let p : Outcome = run k.limits k.statements (scaled c m) in
      let l : Listing = limited k.limits.terms (listing_of o) in
      let n : Listing = limited k.limits.terms (listing_of p) in
      changed_agree (scaled c) (Some Overflow) l.terms l.end n.terms n.end
      (limited_scaled c k.limits.terms (listing_of o).terms (listing_of o).end (listing_of p).terms (listing_of p).end
      (each_becomes (scaled_output c) (refused Overflow) (scaled c) (Some Overflow) (λ (x : Output). x.item) cause_of (λ x. refl) refl o.outputs o.end p.outputs p.end
      (run_scales k.limits k.statements linear m)))
