-- What one step does, by what was asked for.
use Rattle.std.proofs.Common.{◌≡◌, ◌⊎◌, inl, inr, eq-zero-or-pos, min, length, ◌≤◌, ◌<◌, ◌+◌, ◌-◌, ◌*◌, arith, ℕ, zero, suc, Bool, true, false, cond, List, [], ◌∷◌, drop, refl, sym, ap, ◌∙◌, subst, Option, Some, None, Result, Ok, Err, IfSome}
use Rattle.std.proofs.lemmas.List.{drop_all}
use Rattle.form_outside.specs.Texts.{Texts}
use Rattle.form_preproc.proofs.Continuing.{over_goes, over_ends, over_stops, over_enters, line_goes, line_ends, line_stops, line_enters}
use Rattle.form_preproc.specs.Block.{Line, key_in, is_closer, is_opening, to_end}
use Rattle.form_preproc.specs.Expansion.{Ending, goes, ends, stops, refused, too_long, Request, finished, inside, Does, requested, requested_at, behind, resumed, depth_in, is_over}
use Rattle.form_preproc.specs.Frames.{Running, running, depth_of, Continues}
use Rattle.form_preproc.specs.Machine.{state_of, calls_of, line_of, behind_place, lines_of, after_of, calls_behind, IsDone, AreKept, AreKeptOver, LeadsOver}
use Rattle.form_preproc.specs.Stepping.{IsStopped, IsStepped, IsFollowed, depth_inside, depth_now, left}
use Rattle.form_preproc.specs.Variables.{Heights, first_heights}
use Rattle.form_preproc.specs.declared.expander.Expander.{Expander}
use Rattle.form_preproc.specs.declared.expander.Step.{Step}
use Rattle.form_preproc.specs.declared.frame.Action.{Action}
use Rattle.form_preproc.specs.declared.frame.Action.TheVariants.{Goes, Ends, Enters}
use Rattle.form_preproc.specs.declared.frame.After.{After}
use Rattle.form_preproc.specs.declared.frame.After.TheVariants.{Branch, Included, Turn, Fetched, Called}
use Rattle.form_preproc.specs.declared.frame.Entry.{Entry}
use Rattle.form_preproc.specs.declared.frame.Frame.{Frame}
use Rattle.form_preproc.specs.declared.key.Key.{Key}
use Rattle.form_preproc.specs.declared.machine.Machine.{Machine}
use Rattle.form_preproc.specs.declared.source.Source.{Source}
use Rattle.form_preproc.specs.declared.source.SourceLine.{SourceLine}
use Rattle.form_preproc.specs.declared.stop.ExpandError.{ExpandError}
use Rattle.form_preproc.specs.declared.stop.ExpandError.TheVariants.{Stopped, Library}
use Rattle.form_preproc.specs.declared.stop.StopError.{StopError}
use Rattle.form_preproc.specs.declared.stop.StopError.TheVariants.{Refused, TooLong, Memory}

depth_same : (a : After) (hs : Heights) (d : ℕ) → depth_inside a d ≡ depth_in (after_of a hs) d
depth_same Branch hs d = refl
depth_same Included hs d = refl
depth_same (Turn t) hs d = refl
depth_same (Fetched f) hs d = refl
depth_same Called hs d = refl

depth_top : (fs : List Frame) (calls : List Heights) → depth_now fs ≡ depth_of (running fs calls)
depth_top [] calls = refl
depth_top (f ∷ fs) calls = refl

-- ---- what follows a line

dropped_one : {A : Type 0} (n : ℕ) (xs : List A) → drop 1 (drop n xs) ≡ drop (suc n) xs
dropped_one zero [] = refl
dropped_one zero (x ∷ xs) = refl
dropped_one (suc n) [] = refl
dropped_one (suc n) (x ∷ xs) = dropped_one n xs

-- a place past the last one is as good as any other
pub dropped_within : {A : Type 0} (n m last : ℕ) (xs : List A) → m ≡ min (n + 1) last → length xs ≤ last → drop m xs ≡ drop (n + 1) xs
dropped_within {A} n m last xs is few = at (eq-zero-or-pos (n + 1 - last))
  where
    at : (n + 1 - last ≡ 0) ⊎ (0 < n + 1 - last) → drop m xs ≡ drop (n + 1) xs
    at (inl below) = let same : m ≡ n + 1 = omega (arith, is, below) in ap (λ (k : ℕ). drop k xs) same
    at (inr past) = drop_all m xs (omega (arith, is, few, past)) ∙ sym (drop_all (n + 1) xs (omega (arith, few, past)))

pub behind_block : (line : Line) (rest lines : List Line) (close next : ℕ) → is_opening (key_in line) ≡ true → drop close lines ≡ to_end key_in 0 rest → next ≡ close + 1 → drop next lines ≡ behind line rest
behind_block line rest lines close next opens at_end more =
    let one : next ≡ suc close = omega arith in
    ap (λ (n : ℕ). drop n lines) one ∙ sym (dropped_one close lines) ∙ ap (λ (ls : List Line). drop 1 ls) at_end ∙ ap (λ (b : Bool). cond b (drop 1 (to_end key_in 0 rest)) rest) (sym opens)

-- ---- a line acts

module _ (texts : Texts) (entry : Entry) (depth : ℕ) (fs : List Frame) (m : Machine) (line : Line) (rest : List Line) (opens : is_closer (key_in line) ≡ false) (behinds : lines_of entry ≡ behind line rest) where
  abbrev pub Kept : Frame
  Kept = record { entry = entry; depth = depth }

  abbrev pub Acting : Running
  Acting = record { lines = line ∷ rest; after = after_of entry.after (first_heights (calls_of m)); depth = depth }

  abbrev pub Outside : List Running
  Outside = running fs (calls_behind entry.after (calls_of m))

  abbrev Others : Running
  Others = record { lines = behind line rest; after = after_of entry.after (first_heights (calls_of m)); depth = depth }

  abbrev Led : Request → Type 0
  Led q = (e : Ending) → Does texts depth q e → Does texts depth (requested texts depth (state_of m) line rest) e

  kept_running : (calls : List Heights) → calls ≡ calls_of m → running (Kept ∷ fs) calls ≡ Others ∷ Outside
  kept_running calls same =
      ap (λ (c : List Heights). running (Kept ∷ fs) c) same
      ∙ ap (λ (ls : List Line). let r : Running = record { lines = ls; after = after_of entry.after (first_heights (calls_of m)); depth = depth } in r ∷ Outside) behinds

  acted_goes : (n : Machine) → calls_of n ≡ calls_of m → Led (finished (goes (state_of n))) → (e : Ending) → Continues texts (running (Kept ∷ fs) (calls_of n)) (state_of n) e → Continues texts (Acting ∷ Outside) (state_of m) e
  acted_goes n same led e c =
      line_goes texts Acting Outside (state_of m) line rest refl opens (state_of n) e led (subst (λ (rs : List Running). Continues texts rs (state_of n) e) (kept_running (calls_of n) same) c)

  acted_enters : (n : Machine) (e : Entry) → calls_behind e.after (calls_of n) ≡ calls_of m → Led (inside (state_of n) (lines_of e) (after_of e.after (first_heights (calls_of n)))) → (last : Ending)
      → Continues texts (running (record { entry = e; depth = depth_inside e.after depth } ∷ Kept ∷ fs) (calls_of n)) (state_of n) last → Continues texts (Acting ∷ Outside) (state_of m) last
  acted_enters n e same led last c =
      let after = after_of e.after (first_heights (calls_of n)) in
      line_enters texts Acting Outside (state_of m) line rest refl opens (state_of n) (lines_of e) after last led
      (subst (λ (rs : List Running). Continues texts rs (state_of n) last)
      (ap (λ (d : ℕ). let r : Running = record { lines = lines_of e; after = after; depth = d } in r ∷ running (Kept ∷ fs) (calls_behind e.after (calls_of n))) (depth_same e.after (first_heights (calls_of n)) depth)
      ∙ ap (λ (rs : List Running). let r : Running = record { lines = lines_of e; after = after; depth = depth_in after depth } in r ∷ rs) (kept_running (calls_behind e.after (calls_of n)) same)) c)

  pub acted_step : (action : Action) (n : Machine) (result : Result Step ExpandError) (new : Expander) → LeadsOver texts depth (requested texts depth (state_of m) line rest) (Ok action) n → AreKeptOver (calls_of m) (Ok action) n
      → IsFollowed (record { machine = n; frames = Kept ∷ fs }) action result new → IsStepped texts (Acting ∷ Outside) (state_of m) result new
  acted_step Goes n result new led kept followed = rw (followed.0, followed.1) (λ e c. acted_goes n kept led e c)
  acted_step Ends n result new led kept followed = rw (followed.0, followed.1) (line_ends texts Acting Outside (state_of m) line rest refl opens (state_of n) led)
  acted_step (Enters e) n (Ok done) new led kept followed = rw (followed.0, followed.1) (λ last c. acted_enters n e kept led last c)
  acted_step (Enters e) n (Err error) new led kept followed = rw followed tt

  pub acted_stop : (error : ExpandError) (n : Machine) → LeadsOver texts depth (requested texts depth (state_of m) line rest) (Err error) n → IsStopped texts (Acting ∷ Outside) (state_of m) error
  acted_stop (Stopped (Refused cause file number)) n led = line_stops texts Acting Outside (state_of m) line rest refl opens (refused cause (record { file = file; line = number })) led
  acted_stop (Stopped (TooLong name)) n led = line_stops texts Acting Outside (state_of m) line rest refl opens (too_long name) led
  acted_stop (Stopped Memory) n led = tt
  acted_stop Library n led = tt

-- ---- the same where a library tells what it holds

abbrev Taken : Entry → ℕ → List Frame → Machine → Source → ℕ → SourceLine → List Running
Taken entry depth fs m source place line =
    record { lines = line_of source line ∷ behind_place source place; after = after_of entry.after (first_heights (calls_of m)); depth = depth } ∷ running fs (calls_behind entry.after (calls_of m))

abbrev Leading : ℕ → Machine → Source → ℕ → SourceLine → Key → Result Action ExpandError → Machine → Texts → Type 0
Leading depth m source place line key result n texts = LeadsOver texts depth (requested_at key texts depth (state_of m) (line_of source line) (behind_place source place)) result n

opened : (source : Source) (line : SourceLine) → is_closer line.key ≡ false → is_closer (key_in (line_of source line)) ≡ false
opened source line o = subst (λ (k : Key). is_closer k ≡ false) line.keyed o

pub acted_told : (told : Option Texts) (entry : Entry) (depth : ℕ) (fs frames : List Frame) (m : Machine) (source : Source) (place : ℕ) (line : SourceLine)
    → is_closer line.key ≡ false → lines_of entry ≡ behind (line_of source line) (behind_place source place)
    → (action : Action) (n : Machine) (result : Result Step ExpandError) (new : Expander)
    → IfSome told (Leading depth m source place line line.key (Ok action) n) → AreKeptOver (calls_of m) (Ok action) n
    → frames ≡ record { entry = entry; depth = depth } ∷ fs → IsFollowed (record { machine = n; frames = frames }) action result new
    → IfSome told (λ texts. IsStepped texts (Taken entry depth fs m source place line) (state_of m) result new)
acted_told None entry depth fs frames m source place line o behinds action n result new led kept pushed followed = tt
acted_told (Some texts) entry depth fs frames m source place line o behinds action n result new led kept pushed followed =
    acted_step texts entry depth fs m (line_of source line) (behind_place source place) (opened source line o) behinds action n result new
    (subst (λ (k : Key). Leading depth m source place line k (Ok action) n texts) line.keyed led) kept
    (subst (λ (xs : List Frame). IsFollowed (record { machine = n; frames = xs }) action result new) pushed followed)

pub stopped_told : (told : Option Texts) (entry : Entry) (depth : ℕ) (fs : List Frame) (m : Machine) (source : Source) (place : ℕ) (line : SourceLine)
    → is_closer line.key ≡ false → lines_of entry ≡ behind (line_of source line) (behind_place source place)
    → (error : ExpandError) (n : Machine) → IfSome told (Leading depth m source place line line.key (Err error) n)
    → IfSome told (λ texts. IsStopped texts (Taken entry depth fs m source place line) (state_of m) error)
stopped_told None entry depth fs m source place line o behinds error n led = tt
stopped_told (Some texts) entry depth fs m source place line o behinds error n led =
    acted_stop texts entry depth fs m (line_of source line) (behind_place source place) (opened source line o) behinds error n
    (subst (λ (k : Key). Leading depth m source place line k (Err error) n texts) line.keyed led)

-- ---- lines that are over

module _ (texts : Texts) (lines : List Line) (depth : ℕ) (o : is_over lines ≡ true) (after : After) (fs : List Frame) (m : Machine) where
  abbrev pub Ended : Running
  Ended = record { lines = lines; after = after_of after (first_heights (calls_of m)); depth = depth }

  abbrev pub Behind : List Running
  Behind = running fs (calls_behind after (calls_of m))

  led_by : (q : Request) → resumed Ended.after (state_of m) ≡ q → (e : Ending) → Does texts (depth_of Behind) q e → Does texts (depth_of Behind) (resumed Ended.after (state_of m)) e
  led_by q same = λ e h. subst (λ (r : Request). Does texts (depth_of Behind) r e) (sym same) h

  resumed_goes : (n : Machine) → calls_of n ≡ calls_behind after (calls_of m) → resumed Ended.after (state_of m) ≡ finished (goes (state_of n)) → (e : Ending) → Continues texts (running fs (calls_of n)) (state_of n) e → Continues texts (Ended ∷ Behind) (state_of m) e
  resumed_goes n kept same e c =
      over_goes texts Ended Behind (state_of m) o (state_of n) e (led_by (finished (goes (state_of n))) same) (subst (λ (calls : List Heights). Continues texts (running fs calls) (state_of n) e) kept c)

  resumed_enters : (n : Machine) (e : Entry) → calls_behind e.after (calls_of n) ≡ calls_behind after (calls_of m) → resumed Ended.after (state_of m) ≡ inside (state_of n) (lines_of e) (after_of e.after (first_heights (calls_of n))) → (last : Ending)
      → Continues texts (running (record { entry = e; depth = depth_inside e.after (depth_now fs) } ∷ fs) (calls_of n)) (state_of n) last → Continues texts (Ended ∷ Behind) (state_of m) last
  resumed_enters n e kept same last c =
      let next = after_of e.after (first_heights (calls_of n)) in
      over_enters texts Ended Behind (state_of m) o (state_of n) (lines_of e) next last (led_by (inside (state_of n) (lines_of e) next) same)
      (subst (λ (rs : List Running). Continues texts rs (state_of n) last)
      (ap (λ (d : ℕ). let r : Running = record { lines = lines_of e; after = next; depth = d } in r ∷ running fs (calls_behind e.after (calls_of n)))
      (depth_same e.after (first_heights (calls_of n)) (depth_now fs) ∙ ap (λ (d : ℕ). depth_in next d) (depth_top fs (calls_behind after (calls_of m))))
      ∙ ap (λ (calls : List Heights). let r : Running = record { lines = lines_of e; after = next; depth = depth_in next (depth_of Behind) } in r ∷ running fs calls) kept) c)

  pub resumed_step : (action : Action) (n : Machine) (result : Result Step ExpandError) (new : Expander) → IsDone (resumed Ended.after (state_of m)) (Ok action) n → AreKept (calls_behind after (calls_of m)) (Ok action) n
      → IsFollowed (record { machine = n; frames = fs }) action result new → IsStepped texts (Ended ∷ Behind) (state_of m) result new
  resumed_step Goes n result new done kept followed = rw (followed.0, followed.1) (λ e c. resumed_goes n kept done e c)
  resumed_step Ends n result new done kept followed = rw (followed.0, followed.1) (over_ends texts Ended Behind (state_of m) o (state_of n) (led_by (finished (ends (state_of n))) done))
  resumed_step (Enters e) n (Ok s) new done kept followed = rw (followed.0, followed.1) (λ last c. resumed_enters n e kept done last c)
  resumed_step (Enters e) n (Err error) new done kept followed = rw followed tt

  pub resumed_stop : (stop : StopError) (n : Machine) → IsDone (resumed Ended.after (state_of m)) (Err stop) n → IsStopped texts (Ended ∷ Behind) (state_of m) (Stopped stop)
  resumed_stop (Refused cause file number) n done =
      let stop = refused cause (record { file = file; line = number }) in
      over_stops texts Ended Behind (state_of m) o stop (led_by (finished (stops stop)) done)
  resumed_stop (TooLong name) n done = over_stops texts Ended Behind (state_of m) o (too_long name) (led_by (finished (stops (too_long name))) done)
  resumed_stop Memory n done = tt

-- ---- what is left to do

fewer : (most old new : ℕ) → old < new → new ≤ most → 3 * (most - new) + 2 < 3 * (most - old)
fewer most old new h few = omega arith
