-- What a statement makes of a term, kind by kind, and what it weighs.
use Rattle.std.proofs.Common.{◌≡◌, ℕ, suc, ◌+◌, ◌*◌, ◌<◌, ◌≤◌, true, false, if◌then◌else◌, List, [], ◌∷◌, map, length, drop, get_or, sum_by, Option, Some, None, option_map, rules, refl, sym, ap, ◌∙◌, arith}
use Rattle.std.proofs.lemmas.List.{drop_all, drop_more}
use Rattle.std.proofs.lemmas.List.Sums.{get_or-le-sum_by, sum_by-cons}
use Rattle.form_base.specs.declared.block.Action.{the_lemmas}
use Rattle.form_base.specs.declared.block.Action.TheVariants as acting
use Rattle.form_base.specs.declared.block.Branch.{Branch}
use Rattle.form_base.specs.declared.cause.Cause.TheVariants.{RepeatBudget}
use Rattle.form_check.specs.declared.checked.Picked.{Picked}
use Rattle.form_term.specs.declared.monomial.Monomial.{Monomial}
use Rattle.form_flow.specs.declared.compiled.ReadyLeaf.{ReadyLeaf}
use Rattle.form_flow.specs.Arguments.{in_arguments}
use Rattle.form_flow.specs.Outcome.{Outcome, refusal, turns, unchanged}
use Rattle.form_flow.specs.Ready.{Choice}
use Rattle.form_flow.specs.Statement.{Chosen, Limits, Statement}
use Rattle.form_flow.specs.Statements.{action, branch_by, first_branch, is_so, leaf, run}
use Rattle.form_flow.specs.Ways.{Acting, acts_of, run_each}
use Rattle.form_flow.specs.Weight.{block_weight, branch_total, branch_weight, branches_weight, last_total, last_weight, most_made, weight_of}

pub of_plain : (at : Limits) (l : ReadyLeaf) (m : Monomial) → action at (acting.Plain l) m ≡ leaf at l m
of_plain at l m = search (rules, the_lemmas)

pub of_repeat : (at : Limits) (b : List Statement) (m : Monomial) → action at (acting.Repeat b) m ≡ turns at.turns (run at b) m
of_repeat at b m = search (rules, the_lemmas)

pub of_choose : (at : Limits) (bs : List Chosen) (last : Option (List Statement)) (m : Monomial)
    → action at (acting.Choose bs last) m ≡ first_branch (map (branch_by (action at)) bs) (option_map (map (action at)) last) m
of_choose at bs last m = search (rules, the_lemmas)

pub of_within : (at : Limits) (ps : List Picked) (b : List Statement) (m : Monomial) → action at (acting.Within ps b) m ≡ in_arguments at.terms ps (run at b) m
of_within at ps b m = search (rules, the_lemmas)

pub no_turn : (n : ℕ) (once : Monomial → Outcome) (m : Monomial) → n ≡ 0 → turns n once m ≡ refusal RepeatBudget
unfolding turns
no_turn n once m none = ap (λ k. turns k once m) none

-- ---- branches

-- the condition of this branch holds
pub branch_holds : (act : Acting) (bs : List Chosen) (i : ℕ) (b : Chosen) (last : Option (List (Monomial → Outcome))) (m : Monomial) → i < length bs → b ≡ get_or bs i b
    → is_so b.condition m ≡ true → first_branch (map (branch_by act) (drop i bs)) last m ≡ run_each (map act b.block) m
branch_holds act bs i b last m within read holds =
    ap (λ cs. first_branch (map (branch_by act) cs) last m) (drop_more bs i b within ∙ ap (λ c. c ∷ drop (i + 1) bs) (sym read))
    ∙ ap (λ truth. if truth then run_each (map act b.block) m else first_branch (map (branch_by act) (drop (i + 1) bs)) last m) holds

pub branch_fails : (act : Acting) (bs : List Chosen) (i : ℕ) (b : Chosen) (last : Option (List (Monomial → Outcome))) (m : Monomial) → i < length bs → b ≡ get_or bs i b
    → is_so b.condition m ≡ false → first_branch (map (branch_by act) (drop i bs)) last m ≡ first_branch (map (branch_by act) (drop (i + 1) bs)) last m
branch_fails act bs i b last m within read fails =
    ap (λ cs. first_branch (map (branch_by act) cs) last m) (drop_more bs i b within ∙ ap (λ c. c ∷ drop (i + 1) bs) (sym read))
    ∙ ap (λ truth. if truth then run_each (map act b.block) m else first_branch (map (branch_by act) (drop (i + 1) bs)) last m) fails

no_branch : (act : Acting) (bs : List Chosen) (i : ℕ) (last : Option (List (Monomial → Outcome))) (m : Monomial) → length bs ≤ i
    → first_branch (map (branch_by act) (drop i bs)) last m ≡ first_branch [] last m
no_branch act bs i last m past = ap (λ cs. first_branch (map (branch_by act) cs) last m) (drop_all i bs past)

pub last_branch : (act : Acting) (bs : List Chosen) (i : ℕ) (last : Option (List Statement)) (b : List Statement) (m : Monomial) → length bs ≤ i → last ≡ Some b
    → first_branch (map (branch_by act) (drop i bs)) (option_map (acts_of act) last) m ≡ run_each (map act b) m
last_branch act bs i last b m past is = no_branch act bs i (option_map (acts_of act) last) m past ∙ ap (λ l. first_branch [] (option_map (acts_of act) l) m) is

pub not_taken : (act : Acting) (bs : List Chosen) (i : ℕ) (last : Option (List Statement)) (m : Monomial) → length bs ≤ i → last ≡ None
    → first_branch (map (branch_by act) (drop i bs)) (option_map (acts_of act) last) m ≡ unchanged m
not_taken act bs i last m past is = no_branch act bs i (option_map (acts_of act) last) m past ∙ ap (λ l. first_branch [] (option_map (acts_of act) l) m) is

-- ---- weights

pub weight_of_plain : (at : Limits) (l : ReadyLeaf) → weight_of at (acting.Plain l) ≡ most_made at l
weight_of_plain at l = search (rules, the_lemmas)

pub weight_of_repeat : (at : Limits) (b : List Statement) → weight_of at (acting.Repeat b) ≡ at.turns * suc (block_weight at b)
weight_of_repeat at b = search (rules, the_lemmas)

pub weight_of_within : (at : Limits) (ps : List Picked) (b : List Statement) → weight_of at (acting.Within ps b) ≡ suc (suc (block_weight at b))
weight_of_within at ps b = search (rules, the_lemmas)

abbrev weigh : Limits → Chosen → Branch Choice (List ℕ)
weigh at b = record { condition = b.condition; block = map (weight_of at) b.block }

branches_alike : (at : Limits) (bs : List Chosen) → sum_by branch_total (map (weigh at) bs) ≡ sum_by (branch_weight at) bs
branches_alike at [] = refl
branches_alike at (b ∷ bs) =
    sum_by-cons branch_total (weigh at b) (map (weigh at) bs)
    ∙ ap (λ n. branch_weight at b + n) (branches_alike at bs)
    ∙ sym (sum_by-cons (branch_weight at) b bs)

last_alike : (at : Limits) (last : Option (List Statement)) → last_total (option_map (map (weight_of at)) last) ≡ last_weight at last
last_alike at None = refl
last_alike at (Some b) = refl

weight_by : (at : Limits) (bs : List Chosen) (last : Option (List Statement))
    → weight_of at (acting.Choose bs last) ≡ suc (sum_by branch_total (map (weigh at) bs) + last_total (option_map (map (weight_of at)) last))
weight_by at bs last = search (rules, the_lemmas)

pub weight_of_choose : (at : Limits) (bs : List Chosen) (last : Option (List Statement)) → weight_of at (acting.Choose bs last) ≡ suc (branches_weight at bs last)
weight_of_choose at bs last =
    weight_by at bs last
    ∙ ap (λ n. suc (n + last_total (option_map (map (weight_of at)) last))) (branches_alike at bs)
    ∙ ap (λ n. suc (sum_by (branch_weight at) bs + n)) (last_alike at last)

-- a branch weighs no more than all together
pub branch_weighs : (at : Limits) (bs : List Chosen) (i : ℕ) (b : Chosen) (last : Option (List Statement)) → i < length bs → b ≡ get_or bs i b → branch_weight at b ≤ branches_weight at bs last
branch_weighs at bs i b last within read =
    let one = get_or-le-sum_by (branch_weight at) bs i b within in
    let same = ap (branch_weight at) read in
    omega (arith, one, same)

pub last_weighs : (at : Limits) (bs : List Chosen) (last : Option (List Statement)) (b : List Statement) → last ≡ Some b → block_weight at b ≤ branches_weight at bs last
last_weighs at bs last b is = let same = ap (last_weight at) is in omega (arith, same)
