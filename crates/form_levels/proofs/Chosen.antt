-- Branches on joined terms, one after the other: what came of those that were taken stands behind what came before, or was put into
-- the heap.
use Rattle.std.proofs.Common.{◌≡◌, ℕ, ◌+◌, ◌<◌, ◌≤◌, false, List, [], ◌∷◌, ◌++◌, map, length, drop, get_or, Option, option_map, sym, ap, subst, ◌∙◌, append_assoc}
use Rattle.std.proofs.lemmas.List.{drop_all, drop_more}
use Rattle.form_term.specs.declared.monomial.Monomial.{Monomial}
use Rattle.form_gathered.specs.Joined.{Stand}
use Rattle.form_gathered.specs.declared.joined.JoinedTerm.{JoinedTerm}
use Rattle.form_flow.specs.Outcome.{Outcome}
use Rattle.form_flow.specs.Statement.{Chosen, Statement}
use Rattle.form_flow.specs.Statements.{branch_by, first_branch}
use Rattle.form_flow.specs.Ways.{Acting, acts_of, run_each}
use Rattle.form_levels.specs.Asks.{asks_coefficient}
use Rattle.form_levels.specs.Heaps.{RunsInto}
use Rattle.form_levels.specs.Parting.{IsParted}
use Rattle.form_levels.specs.Runs.{Runs}
use Rattle.form_levels.specs.declared.choosing.Parted.{Parted}
use Rattle.form_levels.proofs.Branching.{runs_parted}
use Rattle.form_levels.proofs.Running.{runs_of, runs_same}
use Rattle.form_levels.proofs.Standing.{stand_itself, stand_beside, stand_on, stand_same}

-- what is put into a heap in two steps
put_on : (old a mid b new : List JoinedTerm) → Stand (old ++ a) mid → Stand (mid ++ b) new → Stand (old ++ (a ++ b)) new
put_on old a mid b new s t =
    stand_on (old ++ (a ++ b)) ((old ++ a) ++ b) new (stand_same (old ++ (a ++ b)) ((old ++ a) ++ b) (sym (append_assoc old a b)))
    (stand_on ((old ++ a) ++ b) (mid ++ b) new (stand_beside (old ++ a) b mid b s (stand_itself b)) t)

module _ (act : Acting) (bs : List Chosen) (last : Option (List Statement)) (js old : List JoinedTerm) where
  abbrev branches : List Chosen → Monomial → Outcome
  branches cs = first_branch (map (branch_by act) cs) (option_map (acts_of act) last)

  -- the branches from this place on are left for these terms
  abbrev pub BranchesInto : ℕ → List JoinedTerm → List JoinedTerm → List JoinedTerm → Type 0
  BranchesInto i left idle mid = (x new : List JoinedTerm) → RunsInto (branches (drop i bs)) left x mid new → RunsInto (branches bs) js (idle ++ x) old new

  pub all_branches_into : BranchesInto 0 js [] old
  all_branches_into x new r = r

  -- of one more its block is carried out on those of which its condition holds
  pub branch_into : (i : ℕ) (b : Chosen) (left idle mid k mid2 idle2 : List JoinedTerm) (p : Parted) → i < length bs → b ≡ get_or bs i b → asks_coefficient b.condition.condition ≡ false
      → IsParted b.condition left p → RunsInto (run_each (map act b.block)) p.taken.items k mid mid2 → idle2 ≡ idle ++ k → BranchesInto i left idle mid
      → BranchesInto (i + 1) p.passed.items idle2 mid2
  branch_into i b left idle mid k mid2 idle2 p within read never parted r e before x new rest =
      let is : drop i bs ≡ b ∷ drop (i + 1) bs = drop_more bs i b within ∙ ap (λ c. c ∷ drop (i + 1) bs) (sym read) in
      let both = runs_parted (branch_by act b) (map (branch_by act) (drop (i + 1) bs)) (option_map (acts_of act) last) never p.taken.items p.passed.items k r.acted x rest.acted
      parted.taken parted.passed r.runs rest.runs in
      let all : Runs (branches (drop i bs)) left (k ++ x) (r.acted ++ rest.acted) = runs_of (branches (drop i bs)) (p.taken.items ++ p.passed.items) left (k ++ x) (r.acted ++ rest.acted) parted.all
      (subst (λ cs. Runs (branches cs) (p.taken.items ++ p.passed.items) (k ++ x) (r.acted ++ rest.acted)) (sym is) both) in
      subst (λ l. RunsInto (branches bs) js l old new) (sym (append_assoc idle k x) ∙ ap (λ l. l ++ x) (sym e))
      (before (k ++ x) new (record { acted = r.acted ++ rest.acted; runs = all; put = put_on mid r.acted mid2 rest.acted new r.put rest.put }))

  -- and behind all of them the last block, where there is one
  pub last_into : (i : ℕ) (left idle mid k new idle2 : List JoinedTerm) → length bs ≤ i → RunsInto (first_branch [] (option_map (acts_of act) last)) left k mid new → idle2 ≡ idle ++ k
      → BranchesInto i left idle mid → RunsInto (branches bs) js idle2 old new
  last_into i left idle mid k new idle2 beyond r e before =
      subst (λ l. RunsInto (branches bs) js l old new) (sym e)
      (before k new (record {
        acted = r.acted;
        runs = runs_same (first_branch [] (option_map (acts_of act) last)) (branches (drop i bs)) left k r.acted (λ m. sym (ap (λ cs. branches cs m) (drop_all i bs beyond))) r.runs;
        put = r.put;
      }))
