-- What statements make of joined terms, where those on which something acted are put into a heap.
use Rattle.std.proofs.Common.{◌≡◌, ℕ, suc, Bool, true, false, Result, Ok, Err, List, [], ◌∷◌, ◌++◌, sym, subst, append_assoc, append-nil}
use Rattle.std.specs.Prelude.{IfOk}
use Rattle.std.specs.Bool.{OnTrue}
use Rattle.std.specs.List.Sorted.{IsPermutation}
use Rattle.std.proofs.lemmas.List.Sorted.{IsPermutation-append_right, IsPermutation-append_comm}
use Rattle.form_term.specs.declared.monomial.Monomial.{Monomial}
use Rattle.form_gathered.specs.Joined.{Stand}
use Rattle.form_gathered.specs.declared.joined.JoinedTerm.{JoinedTerm}
use Rattle.form_flow.specs.Outcome.{Outcome, turns}
use Rattle.form_flow.specs.Statement.{Limits, Statement}
use Rattle.form_flow.specs.Statements.{action, run}
use Rattle.form_levels.specs.Runs.{Runs}
use Rattle.form_levels.specs.Heaps.{RunsInto, AllInto, BothInto}
use Rattle.form_levels.specs.declared.level.Level.{Level}
use Rattle.form_levels.proofs.Blocks.{statement_done}
use Rattle.form_levels.proofs.Running.{runs_none, runs_beside, runs_to, runs_turn}
use Rattle.form_levels.proofs.Standing.{stand_itself, stand_same, stand_on, stand_moved, stand_beside}

-- ---- putting

pub none_put : (h : List JoinedTerm) → Stand (h ++ []) h
none_put h = stand_same (h ++ []) h (append-nil h)

-- some, and then others
pub both_put : (old mid new js ks : List JoinedTerm) → Stand (old ++ js) mid → Stand (mid ++ ks) new → Stand (old ++ (js ++ ks)) new
both_put old mid new js ks f g =
    stand_on (old ++ (js ++ ks)) (mid ++ ks) new
    (stand_on (old ++ (js ++ ks)) ((old ++ js) ++ ks) (mid ++ ks) (stand_same (old ++ (js ++ ks)) ((old ++ js) ++ ks) (sym (append_assoc old js ks))) (stand_beside (old ++ js) ks mid ks f (stand_itself ks)))
    g

-- what is told of those that stand together is told of all of a heap
pub beside_put : {E : Type 0} (r : Result Bool E) (old table new apart js : List JoinedTerm) → table ++ apart ≡ old
    → IfOk r (λ all. OnTrue all (Stand (table ++ js) new)) → IfOk r (λ all. OnTrue all (Stand (old ++ js) (new ++ apart)))
beside_put (Ok true) old table new apart js e h =
    let behind : IsPermutation ((table ++ apart) ++ js) ((table ++ js) ++ apart) = rw (append_assoc table apart js, append_assoc table js apart) (IsPermutation-append_right table (apart ++ js) (js ++ apart) (IsPermutation-append_comm apart js)) in
    subst (λ l. Stand (l ++ js) (new ++ apart)) e
    (stand_on ((table ++ apart) ++ js) ((table ++ js) ++ apart) (new ++ apart) (stand_moved ((table ++ apart) ++ js) ((table ++ js) ++ apart) behind)
    (stand_beside (table ++ js) apart new apart h (stand_itself apart)))
beside_put (Ok false) old table new apart js e h = tt
beside_put (Err error) old table new apart js e h = tt

-- ---- what is made of them

pub into_none : (go : Monomial → Outcome) (h : List JoinedTerm) → RunsInto go [] [] h h
into_none go h = record { acted = []; runs = runs_none go; put = none_put h }

pub into_beside : (go : Monomial → Outcome) (js ks i x old mid new : List JoinedTerm) → RunsInto go js i old mid → RunsInto go ks x mid new → RunsInto go (js ++ ks) (i ++ x) old new
into_beside go js ks i x old mid new r s = record {
  acted = r.acted ++ s.acted;
  runs = runs_beside go js ks i r.acted x s.acted r.runs s.runs;
  put = both_put old mid new r.acted s.acted r.put s.put;
}

pub into_of : (go : Monomial → Outcome) (js i a old new : List JoinedTerm) → Runs go js i a → Stand (old ++ a) new → RunsInto go js i old new
into_of go js i a old new r h = record { acted = a; runs = r; put = h }

-- into a heap in which nothing was
pub into_fresh : (go : Monomial → Outcome) (js i new : List JoinedTerm) → RunsInto go js i [] new → Runs go js i new
into_fresh go js i new r = runs_to go js i r.acted i new (stand_itself i) r.put r.runs

-- ---- a statement on a level

pub both_into : (go : Monomial → Outcome) (l : Level) (ks left old mid1 mid2 new : List JoinedTerm)
    → RunsInto go l.idle.items ks old mid1 → RunsInto go l.acted.items left mid1 mid2 → Stand (mid2 ++ left) new → BothInto go l ks old new
both_into go l ks left old mid1 mid2 new r s h = record {
  first = r.acted;
  left = left;
  second = s.acted;
  idle = r.runs;
  acted = s.runs;
  put = both_put old mid1 new r.acted (left ++ s.acted) r.put
      (stand_on (mid1 ++ (left ++ s.acted)) (mid1 ++ (s.acted ++ left)) new
      (stand_moved (mid1 ++ (left ++ s.acted)) (mid1 ++ (s.acted ++ left)) (IsPermutation-append_right mid1 (left ++ s.acted) (s.acted ++ left) (IsPermutation-append_comm left s.acted)))
      (both_put mid1 mid2 new s.acted left s.put h));
}

pub statement_into : (at : Limits) (front : List Statement) (s : Statement) (js idle2 : List JoinedTerm) (l : Level) (old new : List JoinedTerm)
    → Runs (run at front) js l.idle.items l.acted.items → BothInto (action at s) l idle2 old new → RunsInto (run at (front ++ s ∷ [])) js idle2 old new
statement_into at front s js idle2 l old new r b =
    let marked = b.first ++ (b.left ++ b.second) in
    record {
      acted = marked;
      runs = statement_done at front s js l.idle.items l.acted.items idle2 b.first b.left b.second marked r b.idle b.acted (stand_itself marked);
      put = b.put;
    }

-- ---- turns

pub turns_none : (n : ℕ) (once : Monomial → Outcome) (h : List JoinedTerm) → AllInto (turns n once) [] h h
turns_none n once h = record { idle = []; acted = []; runs = runs_none (turns n once); put = none_put h }

-- what leaves after a turn is put at once
pub turn_into : (n : ℕ) (once : Monomial → Outcome) (js i going old mid new : List JoinedTerm)
    → Runs once js i going → Stand (old ++ i) mid → AllInto (turns n once) going mid new → AllInto (turns (suc n) once) js old new
turn_into n once js i going old mid new r h t = record {
  idle = i;
  acted = t.idle ++ t.acted;
  runs = runs_turn n once js i going t.idle t.acted r t.runs;
  put = both_put old mid new i (t.idle ++ t.acted) h t.put;
}

-- what leaves after the first one is left
pub first_turn_into : (n : ℕ) (once : Monomial → Outcome) (js i going old new : List JoinedTerm)
    → Runs once js i going → AllInto (turns n once) going old new → RunsInto (turns (suc n) once) js i old new
first_turn_into n once js i going old new r t = record { acted = t.idle ++ t.acted; runs = runs_turn n once js i going t.idle t.acted r t.runs; put = t.put }
