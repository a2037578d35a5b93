-- The stacks at their places, seen as the values of names.
use Rattle.std.proofs.Common.{◌≡◌, ◌≢◌, ℕ, zero, suc, ◌+◌, ◌-◌, ◌<◌, ◌≤◌, Bool, true, false, cond, List, [], ◌∷◌, ◌++◌, length, map, take, drop, set, get_or, Option, Some, None, Result, Ok, Err, OnOk, OnErr, refl, sym, ap, subst, ◌∙◌, arith, eqb, get_or-set_same, get_or-set_other, length-append}
use Rattle.std.specs.declared.alloc.AllocError.{AllocError}
use Rattle.std.specs.Prelude.{⊤}
use Rattle.std.specs.Str.{bytes_eq}
use Rattle.std.specs.HashMap.{get_by_text}
use Rattle.std.proofs.Math.ListN.{length-set, get_or-append}
use Rattle.std.proofs.Math.Seq.{get_or-append_seam}
use Rattle.std.proofs.lemmas.List.{drop-drop, take-append-drop, length-drop}
use Rattle.std.proofs.lemmas.List.Sums.{sum_by-set, sum_by_push}
use Rattle.std.proofs.Math.Seq.{drop-length}
use Rattle.std.proofs.lemmas.Bool.{eqb-true, eq-eqb}
use Rattle.std.proofs.lemmas.Option.{same_Some}
use Rattle.std.proofs.lemmas.Slice.Eq.{bytes_eq-Decides}
use Rattle.form_calc.specs.Stack.{oldest}
use Rattle.form_preproc.specs.Bytes.{is_name}
use Rattle.form_preproc.specs.Journal.{height_before, AreMarks, AreBelow, AreNoted, TellTheSame}
use Rattle.form_preproc.specs.Variables.{Values, Heights, Kept, with_stack, all_cut, heights_of, first_heights, other_calls}
use Rattle.form_preproc.specs.Places.{Places, ArePlaces, AreCut, AreEmpty, IsPut, stack_at, height_at, kept, number_of_values}
use Rattle.form_preproc.specs.declared.journal.Change.{Change}
use Rattle.form_preproc.proofs.Changes.{before-append, before_nil, before_cut, below_drop, outer_marks}

abbrev Stacks : Type 0
Stacks = List (List (List ℕ))

-- ---- one stack is changed

at_same : (stacks : Stacks) (stack : List (List ℕ)) (place here : ℕ) → here ≡ place → place < length stacks → get_or (set stacks place stack) here [] ≡ stack
at_same stacks stack place here same lt = ap (λ i. get_or (set stacks place stack) i []) same ∙ get_or-set_same stacks place stack [] lt

set_at : (places : Places) (stacks : Stacks) → ArePlaces places stacks → (name : List ℕ) (place : ℕ) (stack : List (List ℕ)) → get_by_text places name ≡ Some place
    → (other : List ℕ) → stack_at (set stacks place stack) (get_by_text places other) ≡ cond (bytes_eq name other) stack (stack_at stacks (get_by_text places other))
set_at places stacks h name place stack found other = by_place (get_by_text places other) refl
  where
    same_name : (here : ℕ) → get_by_text places other ≡ Some here → (b : Bool) → bytes_eq name other ≡ b → get_or (set stacks place stack) here [] ≡ cond b stack (get_or stacks here [])
    same_name here is true e =
        let same : name ≡ other = (bytes_eq-Decides name other).0 e in
        let at : Some here ≡ Some place = sym is ∙ ap (get_by_text places) (sym same) ∙ found in
        at_same stacks stack place here (same_Some here place at) (h.within name place found)
    same_name here is false e =
        let apart : here ≢ place = λ q. (let again : get_by_text places other ≡ Some place = is ∙ ap Some q in
        let t : bytes_eq name other ≡ true = (bytes_eq-Decides name other).1 (h.distinct name other place found again) in
        let no_way : true ≡ false = sym t ∙ e in cc) in
        get_or-set_other stacks place here stack [] apart

    no_name : get_by_text places other ≡ None → (b : Bool) → bytes_eq name other ≡ b → [] ≡ cond b stack []
    no_name none true e =
        let same : name ≡ other = (bytes_eq-Decides name other).0 e in
        let no_way : Some place ≡ None = sym found ∙ ap (get_by_text places) same ∙ none in cc
    no_name none false e = refl

    by_place : (o : Option ℕ) → get_by_text places other ≡ o → stack_at (set stacks place stack) o ≡ cond (bytes_eq name other) stack (stack_at stacks o)
    by_place None none = no_name none (bytes_eq name other) refl
    by_place (Some here) is = same_name here is (bytes_eq name other) refl

-- ---- heights when calls began

-- the heights of a name when each open call began
abbrev heights_in : Places → Stacks → List Change → List ℕ → List Heights
heights_in places stacks changes marks = map (λ mark name. height_at (drop mark changes) stacks (get_by_text places name)) marks

-- where each mark tells the same of each name, the calls are the same
pub same_heights : (places more : Places) (old new : Stacks) (changes longer : List Change) (marks : List ℕ) (top : ℕ) → AreMarks top marks
    → ((m : ℕ) → m ≤ top → (name : List ℕ) → height_at (drop m longer) new (get_by_text more name) ≡ height_at (drop m changes) old (get_by_text places name))
    → heights_in more new longer marks ≡ heights_in places old changes marks
same_heights places more old new changes longer [] top h same = refl
same_heights places more old new changes longer (mark ∷ marks) top h same =
    let o = outer_marks top mark (mark ∷ marks) marks h refl in
    let first : ◌≡◌ {A = Heights} (λ name. height_at (drop mark longer) new (get_by_text more name)) (λ name. height_at (drop mark changes) old (get_by_text places name)) =
    λ j name. same mark o.0 name j in
    ap (λ (f : Heights). f ∷ heights_in more new longer marks) first
    ∙ ap (λ (others : List Heights). let here : Heights = λ name. height_at (drop mark changes) old (get_by_text places name) in here ∷ others)
    (same_heights places more old new changes longer marks mark o.1 (λ m le name. same m (omega (arith, le, o.0)) name))

-- the same where they are asked of the innermost mark
pub same_heights_first : (places : Places) (old new : Stacks) (changes longer : List Change) (marks : List ℕ) (size : ℕ) → AreMarks size marks
    → ((mark : ℕ) (others : List ℕ) → marks ≡ mark ∷ others → (m : ℕ) → m ≤ mark → (name : List ℕ) → height_at (drop m longer) new (get_by_text places name) ≡ height_at (drop m changes) old (get_by_text places name))
    → heights_in places new longer marks ≡ heights_in places old changes marks
same_heights_first places old new changes longer [] size h same = refl
same_heights_first places old new changes longer (mark ∷ marks) size h same =
    same_heights places places old new changes longer (mark ∷ marks) mark (λ i lt. by i lt) (same mark marks refl)
  where
    o : (mark ≤ size) × AreMarks mark marks
    o = outer_marks size mark (mark ∷ marks) marks h refl

    by : (i : ℕ) → i < length (mark ∷ marks) → get_or (mark ∷ marks) i 0 ≤ get_or (mark ∷ mark ∷ marks) i 0
    by zero lt = omega arith
    by (suc i) lt = o.1 i (omega (arith, lt))

-- ---- one stack is changed

-- a change that was noted tells the same heights
noted_height : (places : Places) (stacks : Stacks) (name : List ℕ) (place : ℕ) (stack : List (List ℕ)) (changes longer : List Change) (marks : List ℕ) (mark : ℕ) (others : List ℕ) → marks ≡ mark ∷ others
    → place < length stacks → AreNoted marks changes longer place (length (get_or stacks place [])) → (m : ℕ) → m ≤ mark
    → height_at (drop m longer) (set stacks place stack) (get_by_text places name) ≡ height_at (drop m changes) stacks (get_by_text places name)
noted_height places stacks name place stack changes longer marks mark others is within noted m le = by_place (get_by_text places name)
  where
    told : (p now : ℕ) → height_before (drop m longer) p now ≡ height_before (drop m changes) p (cond (eqb place p) (length (get_or stacks place [])) now)
    told = (subst (λ ms. AreNoted ms changes longer place (length (get_or stacks place []))) is noted) m le

    by_test : (p : ℕ) → (b : Bool) → eqb place p ≡ b → cond b (length (get_or stacks place [])) (length (get_or (set stacks place stack) p [])) ≡ length (get_or stacks p [])
    by_test p true e = ap (λ k. length (get_or stacks k [])) (eqb-true place p e)
    by_test p false e =
        let apart : p ≢ place = λ q. (let yes : eqb place p ≡ true = eq-eqb place p (sym q) in
        let no_way : true ≡ false = sym yes ∙ e in cc) in
        ap length (get_or-set_other stacks place p stack [] apart)

    by_place : (o : Option ℕ) → height_at (drop m longer) (set stacks place stack) o ≡ height_at (drop m changes) stacks o
    by_place None = refl
    by_place (Some p) = told p (length (get_or (set stacks place stack) p [])) ∙ ap (height_before (drop m changes) p) (by_test p (eqb place p) refl)

pub noted_heights : (places : Places) (stacks : Stacks) (place before : ℕ) (stack : List (List ℕ)) (changes begun noted longer : List Change) (marks same last : List ℕ) → AreMarks (length changes) marks
    → place < length stacks → AreNoted same begun noted place before → same ≡ marks → begun ≡ changes → before ≡ length (get_or stacks place []) → longer ≡ noted → last ≡ marks
    → heights_in places (set stacks place stack) longer last ≡ heights_in places stacks changes marks
noted_heights places stacks place before stack changes begun noted longer marks same last h within told marks_same is_begun is_before is_longer is_last =
    let n : AreNoted marks changes noted place (length (get_or stacks place [])) =
    subst (λ k. AreNoted marks changes noted place k) is_before (subst (λ xs. AreNoted marks xs noted place before) is_begun (subst (λ ms. AreNoted ms begun noted place before) marks_same told)) in
    ap (λ xs. heights_in places (set stacks place stack) xs last) is_longer ∙ ap (heights_in places (set stacks place stack) noted) is_last
    ∙ same_heights_first places stacks (set stacks place stack) changes noted marks (length changes) h (λ mark others is m le name. noted_height places stacks name place stack changes noted marks mark others is within n m le)

-- the values after one stack was changed
pub with_stack_at : (places : Places) (stacks : Stacks) → ArePlaces places stacks → (name : List ℕ) (place : ℕ) (stack : List (List ℕ)) → is_name name ≡ true → get_by_text places name ≡ Some place
    → ◌≡◌ {A = Values} (λ other. stack_at (set stacks place stack) (get_by_text places other)) (with_stack (λ other. stack_at stacks (get_by_text places other)) name stack)
with_stack_at places stacks h name place stack is found =
    let values : ◌≡◌ {A = Values} (λ other. stack_at (set stacks place stack) (get_by_text places other)) (λ other. cond (bytes_eq name other) stack (stack_at stacks (get_by_text places other))) =
    λ j other. set_at places stacks h name place stack found other j in
    rw is values

-- a place stays one
pub places_set : (places : Places) (stacks : Stacks) (place : ℕ) (stack : List (List ℕ)) → ArePlaces places stacks → ArePlaces places (set stacks place stack)
places_set places stacks place stack h = record {
  within = λ name here is. omega (arith, h.within name here is, length-set stacks place stack);
  distinct = h.distinct;
}

-- ---- what is read and written at the place of a name

pub name_at : (b : Bool) (o : Option ℕ) (place : ℕ) → Some place ≡ cond b o None → (b ≡ true) × (o ≡ Some place)
name_at true o place e = (refl, sym e)
name_at false o place e = absurd cc

-- the values are these and the calls are as they were
pub both_kept : (values more : Values) (calls same : List Heights) → values ≡ more → calls ≡ same → ◌≡◌ {A = Kept} (record { values = values; calls = calls }) (record { values = more; calls = same })
both_kept values more calls same v c = ap (λ (w : Values). let k : Kept = record { values = w; calls = calls } in k) v ∙ ap (λ (l : List Heights). let k : Kept = record { values = more; calls = l } in k) c

-- a stack that was changed so is the name's with the same change
pub changed_at : (places more : Places) (stacks new : Stacks) → ArePlaces places stacks → (name : List ℕ) (place : ℕ) (change : List (List ℕ) → List (List ℕ)) (written : List (List ℕ)) (calls same : List Heights)
    → Some place ≡ cond (is_name name) (get_by_text places name) None → more ≡ places → new ≡ set stacks place written → written ≡ change (get_or stacks place []) → calls ≡ same
    → ◌≡◌ {A = Kept} (record { values = λ other. stack_at new (get_by_text more other); calls = calls })
    (record { values = with_stack (λ other. stack_at stacks (get_by_text places other)) name (change (stack_at stacks (get_by_text places name))); calls = same })
changed_at places more stacks new h name place change written calls same found alike is writes kept_calls =
    let at = name_at (is_name name) (get_by_text places name) place found in
    let read : written ≡ change (stack_at stacks (get_by_text places name)) = writes ∙ ap (λ o. change (stack_at stacks o)) (sym at.1) in
    both_kept (λ other. stack_at new (get_by_text more other)) (with_stack (λ other. stack_at stacks (get_by_text places other)) name (change (stack_at stacks (get_by_text places name)))) calls same
    (ap (λ ps. let v : Values = λ other. stack_at new (get_by_text ps other) in v) alike ∙ ap (λ ss. let v : Values = λ other. stack_at ss (get_by_text places other) in v) is ∙ with_stack_at places stacks h name place written at.0 at.1
    ∙ ap (with_stack (λ other. stack_at stacks (get_by_text places other)) name) read) kept_calls

-- a stack that such a change leaves as it is
pub unchanged_at : (places : Places) (stacks : Stacks) → ArePlaces places stacks → (name : List ℕ) (place : ℕ) (change : List (List ℕ) → List (List ℕ)) (calls : List Heights)
    → Some place ≡ cond (is_name name) (get_by_text places name) None → get_or stacks place [] ≡ change (get_or stacks place [])
    → ◌≡◌ {A = Kept} (record { values = λ other. stack_at stacks (get_by_text places other); calls = calls })
    (record { values = with_stack (λ other. stack_at stacks (get_by_text places other)) name (change (stack_at stacks (get_by_text places name))); calls = calls })
unchanged_at places stacks h name place change calls found as_is =
    let at = name_at (is_name name) (get_by_text places name) place found in
    changed_at places places stacks stacks h name place change (get_or stacks place []) calls calls found refl (sym (set_as_is stacks place)) as_is refl
  where
    set_as_is : (xs : Stacks) (i : ℕ) → set xs i (get_or xs i []) ≡ xs
    set_as_is [] i = refl
    set_as_is (x ∷ xs) zero = refl
    set_as_is (x ∷ xs) (suc i) = ap (λ ys. x ∷ ys) (set_as_is xs i)

-- ---- cuts

pub oldest_but_one : (stack : List (List ℕ)) (height : ℕ) → height ≡ length stack → 0 < height → oldest (height - 1) stack ≡ drop 1 stack
oldest_but_one stack height is some = let one : length stack - (height - 1) ≡ 1 = omega (arith, is, some) in ap (λ k. drop k stack) one

pub none_to_take : (stack : List (List ℕ)) → length stack ≤ 0 → stack ≡ drop 1 stack
none_to_take [] none = refl
none_to_take (value ∷ stack) none = absurd (omega (arith, none))

pub none_to_cut : (stack : List (List ℕ)) (height : ℕ) → length stack ≤ height → stack ≡ oldest height stack
none_to_cut stack height le = let none : 0 ≡ length stack - height = omega (arith, le) in ap (λ k. drop k stack) none

pub at_most_one_more : {E : Type 0} (result : Result ⊤ E) (value : List ℕ) (read written : List (List ℕ)) → OnOk result (written ≡ value ∷ read) → OnErr result (written ≡ read) → length written ≤ length read + 1
at_most_one_more (Ok done) value read written is same = omega (arith, ap length is)
at_most_one_more (Err error) value read written is same = omega (arith, ap length same)

pub length-oldest : (height : ℕ) (stack : List (List ℕ)) → length (oldest height stack) ≡ length stack - (length stack - height)
length-oldest height stack = length-drop (length stack - height) stack

pub fewer_values : (stacks : Stacks) (place : ℕ) (written : List (List ℕ)) → place < length stacks → number_of_values (set stacks place written) + length (get_or stacks place []) ≡ number_of_values stacks + length written
fewer_values stacks place written lt = sum_by-set length stacks place written [] lt

-- ---- a name gets a place

new_value : (places more : Places) (stacks : Stacks) → ArePlaces places stacks → (name : List ℕ) → get_by_text places name ≡ None
    → ((other : List ℕ) → get_by_text more other ≡ cond (bytes_eq name other) (Some (length stacks)) (get_by_text places other))
    → (other : List ℕ) → stack_at (stacks ++ [] ∷ []) (get_by_text more other) ≡ stack_at stacks (get_by_text places other)
new_value places more stacks h name none is other = ap (stack_at (stacks ++ [] ∷ [])) (is other) ∙ by_test (bytes_eq name other) refl
  where
    old_place : (o : Option ℕ) → get_by_text places other ≡ o → stack_at (stacks ++ [] ∷ []) o ≡ stack_at stacks o
    old_place None e = refl
    old_place (Some place) e = get_or-append stacks ([] ∷ []) [] place (h.within other place e)

    by_test : (b : Bool) → bytes_eq name other ≡ b → stack_at (stacks ++ [] ∷ []) (cond b (Some (length stacks)) (get_by_text places other)) ≡ stack_at stacks (get_by_text places other)
    by_test true e =
        let same : name ≡ other = (bytes_eq-Decides name other).0 e in
        let absent : get_by_text places other ≡ None = ap (get_by_text places) (sym same) ∙ none in
        get_or-append_seam stacks [] [] [] ∙ ap (stack_at stacks) (sym absent)
    by_test false e = old_place (get_by_text places other) refl

new_height : (places more : Places) (stacks : Stacks) (changes : List Change) → ArePlaces places stacks → AreBelow (length stacks) changes → (name : List ℕ) → get_by_text places name ≡ None
    → ((other : List ℕ) → get_by_text more other ≡ cond (bytes_eq name other) (Some (length stacks)) (get_by_text places other))
    → (m : ℕ) (other : List ℕ) → height_at (drop m changes) (stacks ++ [] ∷ []) (get_by_text more other) ≡ height_at (drop m changes) stacks (get_by_text places other)
new_height places more stacks changes h below name none is m other = ap (height_at (drop m changes) (stacks ++ [] ∷ [])) (is other) ∙ by_test (bytes_eq name other) refl
  where
    old_place : (o : Option ℕ) → get_by_text places other ≡ o → height_at (drop m changes) (stacks ++ [] ∷ []) o ≡ height_at (drop m changes) stacks o
    old_place None e = refl
    old_place (Some place) e = ap (λ s. height_before (drop m changes) place (length s)) (get_or-append stacks ([] ∷ []) [] place (h.within other place e))

    by_test : (b : Bool) → bytes_eq name other ≡ b → height_at (drop m changes) (stacks ++ [] ∷ []) (cond b (Some (length stacks)) (get_by_text places other)) ≡ height_at (drop m changes) stacks (get_by_text places other)
    by_test true e =
        let same : name ≡ other = (bytes_eq-Decides name other).0 e in
        let absent : get_by_text places other ≡ None = ap (get_by_text places) (sym same) ∙ none in
        below_drop changes (length stacks) m (below (length stacks) (omega arith)) (length (get_or (stacks ++ [] ∷ []) (length stacks) []))
        ∙ ap length (get_or-append_seam stacks [] [] []) ∙ ap (height_at (drop m changes) stacks) (sym absent)
    by_test false e = old_place (get_by_text places other) refl

pub kept_with_place : (places more : Places) (stacks : Stacks) (changes : List Change) (marks : List ℕ) → ArePlaces places stacks → AreBelow (length stacks) changes → AreMarks (length changes) marks → (name : List ℕ) → get_by_text places name ≡ None
    → ((other : List ℕ) → get_by_text more other ≡ cond (bytes_eq name other) (Some (length stacks)) (get_by_text places other))
    → kept more (stacks ++ [] ∷ []) changes marks ≡ kept places stacks changes marks
kept_with_place places more stacks changes marks h below ordered name none is =
    let values : ◌≡◌ {A = Values} (λ other. stack_at (stacks ++ [] ∷ []) (get_by_text more other)) (λ other. stack_at stacks (get_by_text places other)) = λ j other. new_value places more stacks h name none is other j in
    both_kept (λ other. stack_at (stacks ++ [] ∷ []) (get_by_text more other)) (λ other. stack_at stacks (get_by_text places other))
    (heights_in more (stacks ++ [] ∷ []) changes marks) (heights_in places stacks changes marks) values
    (same_heights places more stacks (stacks ++ [] ∷ []) changes changes marks (length changes) ordered (λ m le other. new_height places more stacks changes h below name none is m other))

pub places_with : (places more : Places) (stacks : Stacks) → ArePlaces places stacks → (name : List ℕ) → get_by_text places name ≡ None
    → ((other : List ℕ) → get_by_text more other ≡ cond (bytes_eq name other) (Some (length stacks)) (get_by_text places other))
    → ArePlaces more (stacks ++ [] ∷ [])
places_with places more stacks h name none is = record {
  within = λ other place e. within_at other place (bytes_eq name other) refl (sym (is other) ∙ e);
  distinct = λ one other place e f. distinct_at one other place (bytes_eq name one) refl (bytes_eq name other) refl (sym (is one) ∙ e) (sym (is other) ∙ f);
}
  where
    longer : length (stacks ++ [] ∷ []) ≡ length stacks + 1
    longer = length-append stacks ([] ∷ [])

    within_at : (other : List ℕ) (place : ℕ) (b : Bool) → bytes_eq name other ≡ b → cond b (Some (length stacks)) (get_by_text places other) ≡ Some place → place < length (stacks ++ [] ∷ [])
    within_at other place true t e = omega (arith, longer, same_Some (length stacks) place e)
    within_at other place false t e = omega (arith, longer, h.within other place e)

    distinct_at : (one other : List ℕ) (place : ℕ) (b : Bool) → bytes_eq name one ≡ b → (d : Bool) → bytes_eq name other ≡ d → cond b (Some (length stacks)) (get_by_text places one) ≡ Some place
        → cond d (Some (length stacks)) (get_by_text places other) ≡ Some place → one ≡ other
    distinct_at one other place true t true u e f = sym ((bytes_eq-Decides name one).0 t) ∙ (bytes_eq-Decides name other).0 u
    distinct_at one other place true t false u e f = absurd (omega (arith, same_Some (length stacks) place e, h.within other place f))
    distinct_at one other place false t true u e f = absurd (omega (arith, same_Some (length stacks) place f, h.within one place e))
    distinct_at one other place false t false u e f = h.distinct one other place e f

pub below_longer : (stacks : Stacks) (changes : List Change) → AreBelow (length stacks) changes → AreBelow (length (stacks ++ [] ∷ [])) changes
below_longer stacks changes h = λ place le. h place (omega (arith, le, length-append stacks ([] ∷ [])))

pub values_longer : (stacks : Stacks) → number_of_values (stacks ++ [] ∷ []) ≡ number_of_values stacks
values_longer stacks = sum_by_push length stacks [] ∙ omega arith

-- ---- a call begins

pub begun_call : (places : Places) (stacks : Stacks) (changes : List Change) (marks calls : List ℕ) → calls ≡ length changes ∷ marks
    → kept places stacks changes calls ≡ record { values = (kept places stacks changes marks).values; calls = heights_of (kept places stacks changes marks).values ∷ (kept places stacks changes marks).calls }
begun_call places stacks changes marks calls is =
    let first : ◌≡◌ {A = Heights} (λ name. height_at (drop (length changes) changes) stacks (get_by_text places name)) (heights_of (kept places stacks changes marks).values) =
    λ j name. at (get_by_text places name) j in
    ap (kept places stacks changes) is
    ∙ ap (λ (f : Heights). let k : Kept = record { values = (kept places stacks changes marks).values; calls = f ∷ (kept places stacks changes marks).calls } in k) first
  where
    at : (o : Option ℕ) → height_at (drop (length changes) changes) stacks o ≡ length (stack_at stacks o)
    at None = refl
    at (Some place) = ap (λ xs. height_before xs place (length (get_or stacks place []))) (drop-length changes) ∙ before_nil place (length (get_or stacks place []))

-- ---- a call ends

cut_value : (changes : List Change) (old new : Stacks) → AreCut changes old new → (o : Option ℕ) → ((place : ℕ) → o ≡ Some place → place < length old) → stack_at new o ≡ oldest (height_at changes old o) (stack_at old o)
cut_value changes old new h None within = refl
cut_value changes old new h (Some place) within = h.each place (within place refl)

cut_height : (changes : List Change) (mark : ℕ) (old new : Stacks) → AreCut (drop mark changes) old new → (m : ℕ) → m ≤ mark → (o : Option ℕ) → ((place : ℕ) → o ≡ Some place → place < length old)
    → height_at (drop m changes) new o ≡ height_at (drop m changes) old o
cut_height changes mark old new h m le None within = refl
cut_height changes mark old new h m le (Some place) within =
    let parts : drop m changes ≡ take (mark - m) (drop m changes) ++ drop mark changes =
    sym (take-append-drop (mark - m) (drop m changes)) ∙ ap (λ xs. take (mark - m) (drop m changes) ++ xs) (drop-drop (mark - m) m changes ∙ ap (λ k. drop k changes) (omega (arith, le))) in
    let stack = get_or old place [] in
    let before = height_before (drop mark changes) place (length stack) in
    let size : length (get_or new place []) ≡ length stack - (length stack - before) = ap length (h.each place (within place refl)) ∙ length-drop (length stack - before) stack in
    ap (λ xs. height_before xs place (length (get_or new place []))) parts
    ∙ before-append (take (mark - m) (drop m changes)) (drop mark changes) place (length (get_or new place []))
    ∙ ap (height_before (take (mark - m) (drop m changes)) place) (before_cut (drop mark changes) place (length stack) (length (get_or new place [])) before refl size)
    ∙ sym (before-append (take (mark - m) (drop m changes)) (drop mark changes) place (length stack))
    ∙ sym (ap (λ xs. height_before xs place (length stack)) parts)

cut_heights : (places : Places) (old new : Stacks) (changes fewer : List Change) (mark : ℕ) (marks : List ℕ) → ArePlaces places old → AreMarks mark marks → AreCut (drop mark changes) old new → TellTheSame marks changes fewer
    → heights_in places new fewer marks ≡ heights_in places old changes marks
cut_heights places old new changes fewer mark marks h ordered cut told =
    same_heights_first places new new changes fewer marks mark ordered (λ outer others is m le name. by (get_by_text places name) m (subst (λ ms. TellTheSame ms changes fewer) is told m le))
    ∙ same_heights places places old new changes changes marks mark ordered (λ m le name. cut_height changes mark old new cut m le (get_by_text places name) (h.within name))
  where
    by : (o : Option ℕ) (m : ℕ) → ((p now : ℕ) → height_before (drop m fewer) p now ≡ height_before (drop m changes) p now) → height_at (drop m fewer) new o ≡ height_at (drop m changes) new o
    by None m t = refl
    by (Some place) m t = t place (length (get_or new place []))

pub ended_call : (places more : Places) (old new : Stacks) (changes before after : List Change) (mark : ℕ) (calls ended last : List ℕ) → calls ≡ mark ∷ ended → ArePlaces places old → AreMarks mark ended → more ≡ places → before ≡ changes
    → AreCut (drop mark before) old new → TellTheSame ended before after → last ≡ ended
    → kept more new after last ≡ record { values = all_cut (kept places old changes calls).values (first_heights (kept places old changes calls).calls); calls = other_calls (kept places old changes calls).calls }
ended_call places more old new changes before after mark calls ended last is h ordered alike unchanged cut told same =
    let at : AreCut (drop mark changes) old new = subst (λ xs. AreCut (drop mark xs) old new) unchanged cut in
    let tells : TellTheSame ended changes after = subst (λ xs. TellTheSame ended xs after) unchanged told in
    let values : ◌≡◌ {A = Values} (λ name. stack_at new (get_by_text places name)) (all_cut (kept places old changes (mark ∷ ended)).values (first_heights (kept places old changes (mark ∷ ended)).calls)) =
    λ j name. cut_value (drop mark changes) old new at (get_by_text places name) (h.within name) j in
    ap (λ ps. kept ps new after last) alike ∙ ap (kept places new after) same
    ∙ rw is (both_kept (λ name. stack_at new (get_by_text places name)) (all_cut (kept places old changes (mark ∷ ended)).values (first_heights (kept places old changes (mark ∷ ended)).calls))
    (heights_in places new after ended) (heights_in places old changes ended) values (cut_heights places old new changes after mark ended h ordered at tells))

-- where no call is open
pub ended_none : (places more : Places) (old new : Stacks) (changes after : List Change) (marks calls : List ℕ) → marks ≡ [] → calls ≡ [] → more ≡ places → AreEmpty old new
    → kept more new after calls ≡ record { values = all_cut (kept places old changes marks).values (first_heights (kept places old changes marks).calls); calls = other_calls (kept places old changes marks).calls }
ended_none places more old new changes after marks calls none too alike empty =
    let values : ◌≡◌ {A = Values} (λ name. stack_at new (get_by_text places name)) (all_cut (λ name. stack_at old (get_by_text places name)) (λ name. 0)) =
    λ j name. by (get_by_text places name) j in
    ap (λ ps. kept ps new after calls) alike ∙ rw (none, too) (ap (λ (v : Values). let k : Kept = record { values = v; calls = [] } in k) values)
  where
    by : (o : Option ℕ) → stack_at new o ≡ oldest 0 (stack_at old o)
    by None = refl
    by (Some place) = empty.each place ∙ sym (drop-length (get_or old place [])) ∙ ap (λ k. drop k (get_or old place [])) (omega arith)

pub below_same : (old new : Stacks) (changes : List Change) → length new ≡ length old → AreBelow (length old) changes → AreBelow (length new) changes
below_same old new changes same h = λ place le. h place (omega (arith, same, le))

-- ---- a name is given a place, or memory runs out

pub placed_after : (places more : Places) (stacks longer : Stacks) (name : List ℕ) (place : ℕ) (result : Result ⊤ AllocError) → ArePlaces places stacks → get_by_text places name ≡ None → longer ≡ stacks ++ [] ∷ []
    → place ≡ length stacks → IsPut places more name place result → ArePlaces more longer
placed_after places more stacks longer name place (Ok done) h none is at put =
    rw is (places_with places more stacks h name none (λ other. put other ∙ ap (λ n. cond (bytes_eq name other) (Some n) (get_by_text places other)) at))
placed_after places more stacks longer name place (Err error) h none is at put = rw is (record {
  within = λ other here e. omega (arith, length-append stacks ([] ∷ []), h.within other here (sym (put other) ∙ e));
  distinct = λ one other here e f. h.distinct one other here (sym (put one) ∙ e) (sym (put other) ∙ f);
})

pub kept_after : (places more : Places) (stacks longer : Stacks) (changes : List Change) (marks : List ℕ) (name : List ℕ) (place : ℕ) → ArePlaces places stacks → AreBelow (length stacks) changes → AreMarks (length changes) marks
    → get_by_text places name ≡ None → longer ≡ stacks ++ [] ∷ [] → place ≡ length stacks → IsPut places more name place (Ok tt) → kept more longer changes marks ≡ kept places stacks changes marks
kept_after places more stacks longer changes marks name place h below ordered none is at put =
    rw is (kept_with_place places more stacks changes marks h below ordered name none (λ other. put other ∙ ap (λ n. cond (bytes_eq name other) (Some n) (get_by_text places other)) at))

pub placed_name : (places : Places) (name given : List ℕ) (place : ℕ) → is_name name ≡ true → given ≡ name → get_by_text places given ≡ Some place → Some place ≡ cond (is_name name) (get_by_text places name) None
placed_name places name given place is same at = rw is (sym at ∙ ap (get_by_text places) same)
