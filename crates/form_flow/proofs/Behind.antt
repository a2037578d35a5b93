-- Right sides put in behind other lists.
use Rattle.std.proofs.Common.{◌≡◌, ℕ, ◌+◌, List, [], ◌∷◌, ◌++◌, Option, Result, IfOk, Vec, Global, flat_map, fold, replicate, sym, ap, subst, ◌∙◌, append_assoc, arith}
use Rattle.std.specs.declared.alloc.AllocError.{AllocError}
use Rattle.std.specs.Vec.Iter.{into_iter_items, into_iter_len}
use Rattle.std.specs.declared.vec.IntoIter.{IntoIter}
use Rattle.std.proofs.lemmas.List.{append-nil, nil_from_length, replicate_more}
use Rattle.std.proofs.lemmas.Grind.{flat_map-append}
use Rattle.form_tree.specs.Tree.{Sum}
use Rattle.form_bindings.specs.Values.{Binding}
use Rattle.form_expand.specs.declared.row.Part.{Part}
use Rattle.form_expand.specs.declared.row.Run.{Run}
use Rattle.form_expand.specs.declared.row.Run.TheVariants as runs
use Rattle.form_expand.specs.Expanding.{list_of_sum}
use Rattle.form_expand.specs.Listing.{Listing}
use Rattle.form_expand.specs.Meanings.{Meanings, bound_to}
use Rattle.form_expand.specs.Parts.{part_list}
use Rattle.form_expand.specs.Runs.{lists_of, run_lists}
use Rattle.form_flow.specs.Rests.{names_in}
use Rattle.form_flow.specs.Rewriting.{right_with}

-- one list more
pub one_behind : (max : ℕ) (rs now : List Run) (p : Part) (old : List Listing) (n : ℕ) (l : Listing)
    → lists_of max rs ≡ old ++ replicate n l → now ≡ rs ++ runs.Once p ∷ [] → part_list max p ≡ l → lists_of max now ≡ old ++ replicate (n + 1) l
one_behind max rs now p old n l so_far is same =
    ap (lists_of max) is
    ∙ flat_map-append (run_lists max) rs (runs.Once p ∷ [])
    ∙ ap (λ ls. ls ++ part_list max p ∷ []) so_far
    ∙ ap (λ x. (old ++ replicate n l) ++ x ∷ []) same
    ∙ append_assoc old (replicate n l) (l ∷ [])
    ∙ ap (λ ls. old ++ ls) (replicate_more n l)

-- a list so many times more
pub run_behind : (max : ℕ) (rs now : List Run) (r : Run) → now ≡ rs ++ r ∷ [] → lists_of max now ≡ lists_of max rs ++ run_lists max r
run_behind max rs now r is =
    ap (lists_of max) is ∙ flat_map-append (run_lists max) rs (r ∷ []) ∙ ap (λ ls. lists_of max rs ++ ls) (append-nil (run_lists max r))

-- the right side for one match more
abbrev pub and_behind : ℕ → Sum → ℕ → List Listing → List Binding → List Listing
and_behind max s times ls bs = ls ++ replicate times (right_with max s bs)

pub all_behind : (max : ℕ) (s : Sum) (times : ℕ) (ls : List Listing) (matches : List (List Binding))
    → fold (and_behind max s times) ls matches ≡ ls ++ flat_map (λ bs. replicate times (right_with max s bs)) matches
all_behind max s times ls [] = sym (append-nil ls)
all_behind max s times ls (bs ∷ matches) =
    all_behind max s times (ls ++ replicate times (right_with max s bs)) matches
    ∙ append_assoc ls (replicate times (right_with max s bs)) (flat_map (λ bs. replicate times (right_with max s bs)) matches)

-- what names stand for by a match
pub so_named : (max : ℕ) (s : Sum) (times : ℕ) (behind : List Run) (names : Option Meanings) (bs : List Binding) (r : Result (Vec Run Global) AllocError)
    → names_in names ≡ bound_to bs
    → IfOk r (λ lists. lists_of max lists.items ≡ lists_of max behind ++ replicate times (list_of_sum max (names_in names) s))
    → IfOk r (λ lists. lists_of max lists.items ≡ lists_of max behind ++ replicate times (right_with max s bs))
so_named max s times behind names bs r same h =
    subst (λ (ms : Meanings). IfOk r (λ lists. lists_of max lists.items ≡ lists_of max behind ++ replicate times (list_of_sum max ms s))) same h

pub nothing_left : {X Z : Type 0} (it : IntoIter X Z) → into_iter_len it ≡ 0 → into_iter_items it ≡ []
nothing_left it e = nil_from_length it.rest.items (omega arith)
