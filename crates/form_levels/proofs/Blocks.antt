-- Statements on joined terms, one after the other.
use Rattle.std.proofs.Common.{◌≡◌, Bool, List, [], ◌∷◌, ◌++◌, refl, sym, ap, ◌∙◌}
use Rattle.form_term.specs.declared.monomial.Monomial.{Monomial}
use Rattle.form_gathered.specs.Joined.{Stand}
use Rattle.form_gathered.specs.declared.joined.JoinedTerm.{JoinedTerm}
use Rattle.form_flow.specs.Outcome.{Output, output, Ended, Outcome, single, unchanged, then_at, and_then, each, onward, through}
use Rattle.form_flow.specs.Statement.{Limits, Statement}
use Rattle.form_flow.specs.Statements.{action, run}
use Rattle.form_flow.specs.Ways.{run_each}
use Rattle.form_flow.proofs.Binding.{outcome, or_false, or_nothing}
use Rattle.form_flow.proofs.Finishing.{bind_alike}
use Rattle.form_flow.proofs.Turning.{rows}
use Rattle.form_levels.specs.Runs.{Runs, Comes}
use Rattle.form_levels.proofs.Coming.{comes_same, comes_through, comes_unchanged}
use Rattle.form_levels.proofs.Running.{runs_same, runs_to, runs_through, runs_unchanged}
use Rattle.form_levels.proofs.Standing.{stand_itself}

-- ---- one statement alone

each_alone : (os : List Output) (e : Ended) → each single os e ≡ outcome os e
unfolding each then_at
each_alone [] e = refl
each_alone (o ∷ os) e = ap (and_then (single o)) (each_alone os e) ∙ ap (outcome (o ∷ os)) (or_nothing e)

one_alone : (act : Monomial → Outcome) (m : Monomial) → run_each (act ∷ []) m ≡ act m
unfolding run_each
one_alone act m =
    bind_alike (onward (run_each [])) single (λ o. ap (λ (b : Bool). single (output b o.item)) (or_false o.acted)) (act m)
    ∙ each_alone (act m).outputs (act m).end

module _ (at : Limits) where
  -- ---- one after the other

  pub no_statements : (js : List JoinedTerm) → Runs (run at []) js js []
  unfolding run_each
  no_statements js = runs_same unchanged (run at []) js js [] (λ m. refl) (runs_unchanged js)

  -- One statement more is carried out on what came of those before it, apart on the terms on whose way something acted and on
  -- the others; what comes of the first is marked whatever it did.
  pub statement_done : (front : List Statement) (s : Statement) (js i a i2 a2 x y marked : List JoinedTerm)
      → Runs (run at front) js i a → Runs (action at s) i i2 a2 → Runs (action at s) a x y → Stand (a2 ++ (x ++ y)) marked → Runs (run at (front ++ s ∷ [])) js i2 marked
  statement_done front s js i a i2 a2 x y marked r idles acted h =
      let one : (ks l k : List JoinedTerm) → Runs (action at s) ks l k → Runs (run at (s ∷ [])) ks l k = λ ks l k. runs_same (action at s) (run at (s ∷ [])) ks l k (λ m. sym (one_alone (action at s) m)) in
      runs_to (run at (front ++ s ∷ [])) js i2 (a2 ++ (x ++ y)) i2 marked (stand_itself i2) h
      (runs_same (λ m. through (run at (s ∷ [])) (run at front m)) (run at (front ++ s ∷ [])) js i2 (a2 ++ (x ++ y)) (λ m. sym (rows at front (s ∷ []) m))
      (runs_through (run at front) (run at (s ∷ [])) js i a i2 a2 x y r (one i i2 a2 idles) (one a x y acted)))

  -- where it isn't asked on whose way something acted
  pub nothing_comes : (js : List JoinedTerm) → Comes (run at []) js js
  unfolding run_each
  nothing_comes js = comes_same unchanged (run at []) js js (λ m. refl) (comes_unchanged js)

  pub statement_comes : (front : List Statement) (s : Statement) (js ks ls : List JoinedTerm) → Comes (run at front) js ks → Comes (action at s) ks ls → Comes (run at (front ++ s ∷ [])) js ls
  statement_comes front s js ks ls before one =
      comes_same (λ m. through (run at (s ∷ [])) (run at front m)) (run at (front ++ s ∷ [])) js ls (λ m. sym (rows at front (s ∷ []) m))
      (comes_through (run at front) (run at (s ∷ [])) js ks ls before (comes_same (action at s) (run at (s ∷ [])) ks ls (λ m. sym (one_alone (action at s) m)) one))
