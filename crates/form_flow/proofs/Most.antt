-- How many terms come of one at most.
use Rattle.std.proofs.Common.{◌≡◌, ℕ, zero, suc, ◌+◌, ◌≤◌, Bool, true, false, if◌then◌else◌, List, [], ◌∷◌, ◌++◌, length, Option, Some, None, Result, Ok, Err, ap, ◌∙◌, arith}
use Rattle.std.proofs.lemmas.List.{length-append, length-map}
use Rattle.form_ast.specs.declared.statement.Side.{Side}
use Rattle.form_ast.specs.declared.statement.Side.TheVariants as sides
use Rattle.form_base.specs.declared.cause.Cause.{Cause}
use Rattle.form_check.specs.declared.checked.Picked.{Picked}
use Rattle.form_term.specs.declared.monomial.Monomial.{Monomial}
use Rattle.form_term.specs.declared.index.Index.{Index}
use Rattle.form_term.specs.declared.index.Index.TheVariants as indices
use Rattle.form_term.specs.Term.{Call, size}
use Rattle.form_normal.specs.Product.{product}
use Rattle.form_expand.specs.Expanding.{list_of_sum}
use Rattle.form_expand.specs.Left.{row, row_behind}
use Rattle.form_expand.specs.Listing.{Listing, followed, followed_at, limited, nothing, pairs, pairs_each, single, times}
use Rattle.form_expand.specs.Meanings.{no_meanings}
use Rattle.form_expand.specs.Singles.{of_product}
use Rattle.form_expand.proofs.Listings.{followed_last, limited_length, pairs_before, pairs_nothing}
use Rattle.form_expand.proofs.Rows.{times_length}
use Rattle.form_tree.specs.Tree as tree
use Rattle.form_flow.specs.declared.compiled.ReadyLeaf.{ReadyLeaf}
use Rattle.form_flow.specs.declared.compiled.ReadyLeaf.TheVariants.{Rewrite, Multiply, Sum, SumOver, Discard}
use Rattle.form_flow.specs.declared.effect.Effect.{Effect}
use Rattle.form_flow.specs.declared.effect.Effect.TheVariants as effect
use Rattle.form_flow.specs.Arguments.{Progress, and_word, anew, calls_behind, ends, in_arguments, so_far, with_functions}
use Rattle.form_flow.specs.Indices.{become, dummies, dummies_put, each_made, indices_in, number_put, put, renamed, renamed_call, with_calls, with_factors}
use Rattle.form_flow.specs.Nearing.{IsMost}
use Rattle.form_flow.specs.Outcome.{Outcome, made, output}
use Rattle.form_flow.specs.Ready.{Part}
use Rattle.form_flow.specs.Rewriting.{Rest, behind_first, list_of_rest, rest_of, rewritten, to_first_cut}
use Rattle.form_flow.specs.Sources.{HasEffect, listed}
use Rattle.form_flow.specs.Statement.{Limits}
use Rattle.form_flow.specs.Statements.{leaf, multiplied, or_unchanged, summed_over}
use Rattle.form_flow.specs.Weight.{most_made}

-- ---- lists

pub product_most : (r : Result (Option Monomial) Cause) → length (of_product r).terms ≤ 1
product_most (Ok (Some m)) = omega arith
product_most (Ok None) = omega arith
product_most (Err c) = omega arith

followed_most : (ms : List Monomial) (end : Option Cause) (l : Listing) → length (followed_at ms end l).terms ≤ length ms + length l.terms
unfolding followed_at
followed_most ms None l = omega (arith, length-append ms l.terms)
followed_most ms (Some c) l = omega arith

-- a row is limited
behind_most : (max : ℕ) (front : Listing) (ls : List Listing) → length front.terms ≤ max → length (row_behind max front ls).terms ≤ max
unfolding row_behind
behind_most max front [] within = within
behind_most max front (l ∷ ls) within = behind_most max (limited max (pairs front l)) ls (limited_length max (pairs front l))

row_most : (max : ℕ) (ls : List Listing) → length (row max ls).terms ≤ max
unfolding row
row_most max [] = omega arith
row_most max (l ∷ ls) = behind_most max (limited max l) ls (limited_length max l)

-- a term times a list
right_most : (m : Monomial) (l : Listing) → length (pairs (single m) l).terms ≤ length l.terms
right_most m l =
    let same : length (pairs (single m) l).terms ≡ length (times m l).terms =
    ap (λ (k : Listing). length k.terms) (pairs_before m nothing l ∙ ap (λ k. followed (times m l) k) (pairs_nothing l) ∙ followed_last (times m l)) in
    omega (arith, same, times_length m l.terms l.end)

-- a list times a term
left_most : (ms : List Monomial) (end : Option Cause) (m : Monomial) → length (pairs_each ms end (single m)).terms ≤ length ms
unfolding pairs_each
left_most [] end m = omega arith
left_most (r ∷ rs) end m =
    let one = times_length r (m ∷ []) None in
    let rest = left_most rs end m in
    let all = followed_most (times r (single m)).terms (times r (single m)).end (pairs_each rs end (single m)) in
    omega (arith, one, rest, all)

-- ---- terms made anew

with_calls_most : (by : Index → Index) (m : Monomial) (fs ws : Result (List Call) Cause) → length (with_calls by m fs ws).terms ≤ 1
with_calls_most by m (Err c) ws = omega arith
with_calls_most by m (Ok fs) (Err c) = omega arith
with_calls_most by m (Ok fs) (Ok ws) = product_most (product (record { coefficient = m.coefficient; term = with_factors by m.term fs ws } ∷ []))

renamed_most : (n : ℕ) (by : Index → Index) (m : Monomial) → length (renamed n by m).terms ≤ 1
unfolding renamed
renamed_most zero by m = omega arith
renamed_most (suc n) by m =
    with_calls_most by m (each_made (renamed_call by (renamed n by)) m.term.others.functions) (each_made (renamed_call by (renamed n by)) m.term.others.word)

number_most : (i n : ℕ) (m : Monomial) → length (number_put i n m).terms ≤ 1
number_most i n m = renamed_most (suc (size m.term)) (put i (indices.Fixed n)) m

dummies_most : (is : List ℕ) (m : Monomial) → length (dummies_put is m).terms ≤ 1
dummies_most is m = renamed_most (suc (size m.term)) (become (dummies is (indices_in m.term))) m

-- ---- statements that are no blocks

-- a list, where there is one
abbrev most_listed : ℕ → Option Listing → Type 0
most_listed n None = Unit {0}
most_listed n (Some l) = length l.terms ≤ n

rest_most : (max : ℕ) (m : Monomial) (r : Rest) → length (list_of_rest max m r).terms ≤ max
rest_most max m r =
    row_most max (single (record { coefficient = m.coefficient; term = to_first_cut r.left r.cuts }) ∷ behind_first r.left.others.word r.cuts ++ r.behind)

rewritten_most : (max : ℕ) (ps : List Part) (m : Monomial) → most_listed max (rewritten max ps m)
unfolding rewritten
rewritten_most max ps m = by (rest_of max ps m.term).has_matched where
  by : (b : Bool) → most_listed max (if b then Some (list_of_rest max m (rest_of max ps m.term)) else None)
  by true = rest_most max m (rest_of max ps m.term)
  by false = tt

or_unchanged_most : (n : ℕ) (m : Monomial) (l : Option Listing) → most_listed n l → length (or_unchanged m l).outputs ≤ suc n
or_unchanged_most n m None h = omega arith
or_unchanged_most n m (Some l) h = omega (arith, h, length-map l.terms (output true))

made_most : (l : Listing) (n : ℕ) → length l.terms ≤ n → length (made l).outputs ≤ n
made_most l n h = omega (arith, h, length-map l.terms (output true))

multiplied_most : (max : ℕ) (side : Side) (s : tree.Sum) (m : Monomial) → length (multiplied max side s m).terms ≤ length (list_of_sum max no_meanings s).terms
multiplied_most max sides.Right s m = right_most m (list_of_sum max no_meanings s)
multiplied_most max sides.Left s m = left_most (list_of_sum max no_meanings s).terms (list_of_sum max no_meanings s).end m

summed_most : (i : ℕ) (ns : List ℕ) (m : Monomial) → length (summed_over i ns m).terms ≤ length ns
unfolding summed_over
summed_most i [] m = omega arith
summed_most i (n ∷ ns) m =
    let one = number_most i n m in
    let rest = summed_most i ns m in
    let all = followed_most (number_put i n m).terms (number_put i n m).end (summed_over i ns m) in
    omega (arith, one, rest, all)

pub leaf_most : (at : Limits) (l : ReadyLeaf) (m : Monomial) → length (leaf at l m).outputs ≤ most_made at l
unfolding leaf
leaf_most at (Rewrite ps) m = or_unchanged_most at.terms m (rewritten at.terms ps m) (rewritten_most at.terms ps m)
leaf_most at (Multiply side s) m = made_most (multiplied at.terms side s m) (length (list_of_sum at.terms no_meanings s).terms) (multiplied_most at.terms side s m)
leaf_most at (Sum is) m = made_most (dummies_put is m) 1 (dummies_most is m)
leaf_most at (SumOver i ns) m = made_most (summed_over i ns m) (length ns) (summed_most i ns m)
leaf_most at Discard m = omega arith

-- ---- arguments

anew_most : (m : Monomial) (fs : List Call) (ws : Progress (List Call)) → length (anew m fs ws).outputs ≤ 1
anew_most m fs (ends c) = omega arith
anew_most m fs (so_far ws acted) =
    let one = product_most (product (with_functions m fs ws ∷ [])) in
    omega (arith, one, length-map (of_product (product (with_functions m fs ws ∷ []))).terms (output acted))

and_word_most : (max : ℕ) (go : Monomial → Outcome) (ps : List Picked) (m : Monomial) (fs : Progress (List Call)) → length (and_word max go ps m fs).outputs ≤ 1
and_word_most max go ps m (ends c) = omega arith
and_word_most max go ps m (so_far fs acted) = anew_most m fs (calls_behind max go ps acted m.term.others.word)

pub arguments_most : (max : ℕ) (ps : List Picked) (go : Monomial → Outcome) (m : Monomial) → length (in_arguments max ps go m).outputs ≤ 1
unfolding in_arguments
arguments_most max ps go m = and_word_most max go ps m (calls_behind max go ps false m.term.others.functions)

-- ---- what a statement did

pub effect_most : (e : Effect) (o : Outcome) (n : ℕ) → HasEffect (Ok e) o → length o.outputs ≤ n → IsMost e n
effect_most (effect.Source s) o n is less =
    let same = ap (λ (x : Outcome). length x.outputs) is in
    omega (arith, same, less, length-map (listed s).terms (output true))
effect_most e o n is less = tt
