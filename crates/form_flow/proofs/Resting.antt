-- What is left of a term while parts take from it.
use Rattle.std.proofs.Common.{◌≡◌, true≢false, ℕ, ◌+◌, ◌<◌, ◌≤◌, Bool, true, false, cond, List, [], ◌∷◌, Option, Some, None, Box, Global, fold, get_or, length, map, take, refl, sym, ap, subst, ◌∙◌}
use Rattle.std.proofs.lemmas.List.{take_all}
use Rattle.std.proofs.lemmas.List.Sums.{fold_more}
use Rattle.form_base.specs.declared.taking.Taking.{Taking}
use Rattle.form_term.specs.Term.{Term}
use Rattle.form_term.specs.declared.monomial.Monomial.{Monomial}
use Rattle.form_tree.specs.Pattern.{Factors, pieces_of_factors}
use Rattle.form_match.specs.Ready.{ReadyPattern}
use Rattle.form_bindings.specs.Values.{Binding}
use Rattle.form_rewrite.specs.declared.taken.Taken.{Taken}
use Rattle.form_rewrite.specs.Taking.{take_out, taken_so_far}
use Rattle.form_expand.specs.Left.{row}
use Rattle.form_expand.specs.Listing.{Listing, single}
use Rattle.form_expand.specs.Runs.{lists_of}
use Rattle.form_expand.specs.declared.row.Run.{Run}
use Rattle.form_flow.specs.Outcome.{made, unchanged}
use Rattle.form_flow.specs.Ready.{Part, kept_of}
use Rattle.form_flow.specs.Rests.{cut_list, rest_in}
use Rattle.form_flow.specs.Rewriting.{Rest, and_part, and_taken, list_of_rest, rest_of, rewritten, right_with, untouched}
use Rattle.form_flow.specs.Sources.{listed}
use Rattle.form_flow.specs.Statements.{or_unchanged}
use Rattle.form_flow.specs.declared.between.Inserted.{Inserted}
use Rattle.form_flow.specs.declared.effect.Source.TheVariants as source
use Rattle.form_flow.specs.declared.rest.Remaining.{Remaining}

-- what a part takes
pub part_takes : (max : ℕ) (r : Rest) (p : Part) (pattern : ReadyPattern) (option : Option Taking) (cuts : List ℕ) (x : Option Taken) → cuts ≡ map (λ c. c.0) r.cuts → pattern ≡ kept_of p → option ≡ p.option
    → ((fs : Factors) → pattern.pieces ≡ pieces_of_factors fs → x ≡ take_out pattern.fixed fs option r.left cuts)
    → and_taken max p.right r x ≡ and_part max r p
part_takes max r p pattern option cuts x cut is chosen taken =
    ap (and_taken max p.right r)
    (taken p.pattern (ap (λ (q : ReadyPattern). q.pieces) is)
    ∙ ap (λ (q : ReadyPattern). take_out q.fixed p.pattern option r.left cuts) is
    ∙ ap (λ (o : Option Taking). take_out p.fixed p.pattern o r.left cuts) chosen
    ∙ ap (take_out p.fixed p.pattern p.option r.left) cut)

-- once a part has matched, that stays
stays_matched : (max : ℕ) (r : Rest) (ps : List Part) → r.has_matched ≡ true → (fold (and_part max) r ps).has_matched ≡ true
stays_matched max r [] h = h
stays_matched max r (p ∷ ps) h =
    stays_matched max (and_part max r p) ps (one (take_out p.fixed p.pattern p.option r.left (map (λ c. c.0) r.cuts)))
  where
    one : (x : Option Taken) → (and_taken max p.right r x).has_matched ≡ true
    one None = h
    one (Some x) = refl

-- where none has matched nothing has changed
unmatched : (max : ℕ) (r : Rest) (ps : List Part) → (fold (and_part max) r ps).has_matched ≡ false → fold (and_part max) r ps ≡ r
unmatched max r [] h = refl
unmatched max r (p ∷ ps) h =
    by (take_out p.fixed p.pattern p.option r.left (map (λ c. c.0) r.cuts)) refl (λ s e. unmatched max s ps e)
  where
    by : (x : Option Taken) → take_out p.fixed p.pattern p.option r.left (map (λ c. c.0) r.cuts) ≡ x
        → ((s : Rest) → (fold (and_part max) s ps).has_matched ≡ false → fold (and_part max) s ps ≡ s) → fold (and_part max) (and_part max r p) ps ≡ r
    by None e later =
        let same : and_part max r p ≡ r = ap (and_taken max p.right r) e in
        ap (λ s. fold (and_part max) s ps) same ∙ later r (ap (λ s. (fold (and_part max) s ps).has_matched) (sym same) ∙ h)
    by (Some x) e later =
        let matched : (and_part max r p).has_matched ≡ true = ap (λ y. (and_taken max p.right r y).has_matched) e in
        let stays = stays_matched max (and_part max r p) ps matched in
        absurd (true≢false (sym stays ∙ h))

item_is : (m same : Monomial) → m.coefficient ≡ same.coefficient → m.term ≡ same.term → m ≡ same
item_is m same number term = λ i. record { coefficient = number i; term = term i }

-- a term as it was
pub stays_same : (max : ℕ) (ps : List Part) (m : Monomial) (r : Remaining) (same : Monomial) → rest_in r ≡ rest_of max ps m.term → r.has_matched ≡ false
    → m.coefficient ≡ same.coefficient → r.left ≡ same.term → or_unchanged m (rewritten max ps m) ≡ unchanged same
unfolding rewritten
stays_same max ps m r same is none number left =
    let test : (rest_of max ps m.term).has_matched ≡ false = ap (λ x. x.has_matched) (sym is) ∙ none in
    let kept : r.left ≡ m.term = ap (λ x. x.left) (is ∙ unmatched max (untouched m.term) ps test) in
    subst (λ (b : Bool). or_unchanged m (cond b (Some (list_of_rest max m (rest_of max ps m.term))) None) ≡ unchanged same)
    (sym test) (ap unchanged (item_is m same number (sym kept ∙ left)))

-- the row of what is left and what is put in
pub is_put : (max : ℕ) (ps : List Part) (m first : Monomial) (r : Remaining) (row : Box Listing Global) → r.limit ≡ max → rest_in r ≡ rest_of max ps m.term → r.has_matched ≡ true
    → m.coefficient ≡ first.coefficient → r.left ≡ first.term
    → row.value ≡ list_of_rest max first (record { left = first.term; cuts = map (cut_list max) r.between.items; behind = lists_of max r.behind.items; has_matched = true })
    → or_unchanged m (rewritten max ps m) ≡ made (listed (source.Row row))
unfolding rewritten listed
is_put max ps m first r row within is matched number left put =
    let test : (rest_of max ps m.term).has_matched ≡ true = ap (λ x. x.has_matched) (sym is) ∙ matched in
    let same : record { left = r.left; cuts = map (cut_list max) r.between.items; behind = lists_of max r.behind.items; has_matched = true } ≡ rest_of max ps m.term =
    ap (λ n. record { left = r.left; cuts = map (cut_list n) r.between.items; behind = lists_of n r.behind.items; has_matched = true }) (sym within)
    ∙ ap (λ b. record { left = r.left; cuts = map (cut_list r.limit) r.between.items; behind = lists_of r.limit r.behind.items; has_matched = b }) (sym matched)
    ∙ is in
    let whole : row.value ≡ list_of_rest max m (rest_of max ps m.term) =
    put
    ∙ ap (λ t. list_of_rest max first (record { left = t; cuts = map (cut_list max) r.between.items; behind = lists_of max r.behind.items; has_matched = true })) (sym left)
    ∙ ap (list_of_rest max first) same
    ∙ ap (λ c. list_of_rest max (record { coefficient = c; term = first.term }) (rest_of max ps m.term)) (sym number) in
    subst (λ (b : Bool). or_unchanged m (cond b (Some (list_of_rest max m (rest_of max ps m.term))) None) ≡ made row.value)
    (sym test) (ap made (sym whole))

-- a part alone that doesn't match
pub one_unmatched : (max : ℕ) (p : Part) (m same : Monomial) → untouched m.term ≡ and_part max (untouched m.term) p → m.coefficient ≡ same.coefficient → same.term ≡ m.term
    → or_unchanged m (rewritten max (p ∷ []) m) ≡ unchanged same
unfolding rewritten
one_unmatched max p m same is number left =
    subst (λ (r : Rest). or_unchanged m (cond r.has_matched (Some (list_of_rest max m r)) None) ≡ unchanged same) is (ap unchanged (item_is m same number (sym left)))

-- a part alone that matches once
pub one_matched : (max : ℕ) (p : Part) (m : Monomial) (left : Term) (bs : List Binding)
    → and_taken max p.right (untouched m.term) (Some (taken_so_far left [] (bs ∷ []) 1)) ≡ and_part max (untouched m.term) p
    → made (row max (single (record { coefficient = m.coefficient; term = left }) ∷ right_with max p.right bs ∷ [])) ≡ or_unchanged m (rewritten max (p ∷ []) m)
unfolding rewritten
one_matched max p m left bs is =
    ap (λ (r : Rest). or_unchanged m (cond r.has_matched (Some (list_of_rest max m r)) None)) is

-- what a match takes for the first
pub one_taken : (max : ℕ) (p : Part) (t : Term) (after : Remaining) (x : Taken) (cuts : List Inserted) (lists : List Run) → cuts ≡ [] → lists ≡ [] → after.limit ≡ max
    → rest_in after ≡ and_taken max p.right (record { left = x.left; cuts = map (cut_list max) cuts; behind = lists_of max lists; has_matched = false }) (Some x)
    → and_taken max p.right (untouched t) (Some x) ≡ and_part max (untouched t) p
    → rest_in after ≡ rest_of after.limit (p ∷ []) t
one_taken max p t after x cuts lists uncut none within is takes =
    is
    ∙ ap (λ cs. and_taken max p.right (record { left = x.left; cuts = map (cut_list max) cs; behind = lists_of max lists; has_matched = false }) (Some x)) uncut
    ∙ ap (λ ls. and_taken max p.right (record { left = x.left; cuts = []; behind = lists_of max ls; has_matched = false }) (Some x)) none
    ∙ takes
    ∙ ap (λ n. and_part n (untouched t) p) (sym within)

-- one part more
pub next_part : (max own : ℕ) (ps : List Part) (t : Term) (i : ℕ) (p : Part) (r next : Rest) → i < length ps → p ≡ get_or ps i p → own ≡ max → next ≡ and_part own r p
    → r ≡ fold (and_part max) (untouched t) (take i ps) → next ≡ fold (and_part max) (untouched t) (take (i + 1) ps)
next_part max own ps t i p r next within at same step so_far =
    step
    ∙ ap (λ n. and_part n r p) same
    ∙ ap (λ s. and_part max s p) so_far
    ∙ ap (and_part max (fold (and_part max) (untouched t) (take i ps))) at
    ∙ sym (fold_more (and_part max) (untouched t) ps i p within)

-- all parts
pub last_part : (max : ℕ) (ps all : List Part) (t : Term) (i : ℕ) (r : Rest) → ps ≡ all → length ps ≤ i → r ≡ fold (and_part max) (untouched t) (take i ps) → r ≡ rest_of max all t
last_part max ps all t i r same past so_far =
    so_far ∙ ap (fold (and_part max) (untouched t)) (take_all i ps past ∙ same)

-- the row of a pair
pub of_row : (row : Box Listing Global) (l : Listing) → row.value ≡ l → made l ≡ made (listed (source.Row row))
unfolding listed
of_row row l is = ap made (sym is)
