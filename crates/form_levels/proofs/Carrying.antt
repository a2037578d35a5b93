-- Joined terms that are carried out one by one.
use Rattle.std.proofs.Common.{◌≡◌, List, [], ◌∷◌, ◌++◌, sym, ap, subst, ◌∙◌, append_assoc, append-nil}
use Rattle.form_term.specs.declared.monomial.Monomial.{Monomial}
use Rattle.form_flow.specs.Outcome.{Outcome}
use Rattle.form_gathered.specs.declared.joined.JoinedTerm.{JoinedTerm}
use Rattle.form_levels.specs.Heaps.{OneMore, RunsInto}
use Rattle.form_levels.specs.Runs.{Runs}
use Rattle.form_levels.proofs.Heaps.{none_put, into_of, into_beside}
use Rattle.form_levels.proofs.Running.{runs_none}

-- Of all of these some were carried out, and the rest is left.
pub record SoFar (go : Monomial → Outcome) (whole rest idle old new : List JoinedTerm) : Type 0 where
  pub begun : List JoinedTerm
  pub parts : whole ≡ begun ++ rest
  pub runs : RunsInto go begun idle old new

module _ (go : Monomial → Outcome) where
  -- nothing is left of them, and nothing came of them
  pub all_gone : (js idle heap : List JoinedTerm) → idle ≡ [] → Runs go js [] [] → RunsInto go js idle heap heap
  all_gone js idle heap e r = subst (λ l. RunsInto go js l heap heap) (sym e) (into_of go js [] [] heap heap r (none_put heap))

  pub none_so_far : (whole rest idle heap : List JoinedTerm) → rest ≡ whole → idle ≡ [] → SoFar go whole rest idle heap heap
  none_so_far whole rest idle heap e f = record { begun = []; parts = sym e; runs = all_gone [] idle heap f (runs_none go) }

  pub more_so_far : (whole rest next idle idle2 old heap heap2 : List JoinedTerm) (j : JoinedTerm) → rest ≡ j ∷ next → SoFar go whole rest idle old heap → OneMore go j idle heap idle2 heap2 → SoFar go whole next idle2 old heap2
  more_so_far whole rest next idle idle2 old heap heap2 j e s more = record {
    begun = s.begun ++ j ∷ [];
    parts = s.parts ∙ ap (λ l. s.begun ++ l) e ∙ sym (append_assoc s.begun (j ∷ []) next);
    runs = more s.begun old s.runs;
  }

  pub all_so_far : (whole rest idle old new : List JoinedTerm) → rest ≡ [] → SoFar go whole rest idle old new → RunsInto go whole idle old new
  all_so_far whole rest idle old new e s = subst (λ l. RunsInto go l idle old new) (sym (s.parts ∙ ap (λ l. s.begun ++ l) e ∙ append-nil s.begun)) s.runs

  -- one on which nothing acted
  pub idle_more : (j left : JoinedTerm) (idle idle2 heap : List JoinedTerm) → idle2 ≡ idle ++ left ∷ [] → Runs go (j ∷ []) (left ∷ []) [] → OneMore go j idle heap idle2 heap
  idle_more j left idle idle2 heap e r js old h =
      subst (λ l. RunsInto go (js ++ j ∷ []) l old heap) (sym e) (into_beside go js (j ∷ []) idle (left ∷ []) old heap heap h (into_of go (j ∷ []) (left ∷ []) [] heap heap r (none_put heap)))

  -- one of which nothing is left
  pub acted_more : (j : JoinedTerm) (idle heap heap2 : List JoinedTerm) → RunsInto go (j ∷ []) [] heap heap2 → OneMore go j idle heap idle heap2
  acted_more j idle heap heap2 r js old h = subst (λ l. RunsInto go (js ++ j ∷ []) l old heap2) (append-nil idle) (into_beside go js (j ∷ []) idle [] old heap heap2 h r)
