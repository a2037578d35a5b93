-- Levels, as they are carried out: what is known behind each call.
use Rattle.std.proofs.Common.{◌≡◌, ℕ, suc, ◌+◌, ◌-◌, ◌<◌, ◌≤◌, ◌==◌, Bool, true, false, Result, Ok, Err, Option, Some, None, IfOk, IfSome, List, [], ◌∷◌, ◌++◌, map, length, take, get_or, option_map, max, refl, sym, ap, subst, ◌∙◌, arith}
use Rattle.std.specs.Bool.{OnTrue}
use Rattle.std.specs.Global.{Vec}
use Rattle.std.specs.Prelude.{vec_len}
use Rattle.std.specs.declared.alloc.AllocError.{AllocError}
use Rattle.std.proofs.lemmas.Bool.{eqb-true}
use Rattle.std.proofs.lemmas.List.{nil_from_length, take_all, take_more}
use Rattle.std.proofs.lemmas.List.Sorted.{IsPermutation-append_comm}
use Rattle.form_base.specs.declared.block.Action.TheShapes.{weighed-Action-Choose-1}
use Rattle.form_base.specs.declared.block.Action.TheViews.{size-Action}
use Rattle.form_check.specs.declared.checked.Picked.{Picked}
use Rattle.form_term.specs.declared.monomial.Monomial.{Monomial}
use Rattle.form_gathered.specs.Joined.{Stand}
use Rattle.form_gathered.specs.declared.joined.JoinedTerm.{JoinedTerm}
use Rattle.form_flow.specs.declared.compiled.ReadyLeaf.{ReadyLeaf}
use Rattle.form_flow.specs.Outcome.{Outcome, turns, unchanged}
use Rattle.form_flow.specs.Ready.{Choice}
use Rattle.form_flow.specs.Statement.{Limits, Statement}
use Rattle.form_flow.specs.Statements.{action, first_branch, run}
use Rattle.form_flow.specs.Ways.{Acting, acts_of, run_each}
use Rattle.form_levels.specs.Heaps.{AllInto, BothInto, RunsInto}
use Rattle.form_levels.specs.Runs.{Comes, Runs}
use Rattle.form_levels.specs.declared.level.Level.{Level}
use Rattle.form_levels.proofs.Blocks.{no_statements, nothing_comes, statement_comes, statement_done}
use Rattle.form_levels.proofs.Coming.{comes_of}
use Rattle.form_levels.proofs.Heaps.{first_turn_into, into_fresh, into_none, into_of, none_put, statement_into, turn_into, turns_none}
use Rattle.form_levels.proofs.Running.{runs_unchanged}
use Rattle.form_levels.proofs.Standing.{stand_beside, stand_itself, stand_moved, stand_on}
use denote.Param.Weighed.{most, most-append}

-- ---- how deep statements are

abbrev size : Statement → ℕ
size = size-Action ReadyLeaf Choice (List Picked)

-- what stands behind `else`
abbrev pub last_size : Option (List Statement) → ℕ
last_size last = (weighed-Action-Choose-1 ReadyLeaf Choice (List Picked)).weight Statement size last

-- the last statement of a block, and those before it
pub block_size : (b all front : List Statement) (s : Statement) → all ≡ b → all ≡ front ++ s ∷ [] → most size b ≡ max (most size front) (max (size s) 0)
block_size b all front s is parts = ap (most size) (sym is ∙ parts) ∙ most-append size front (s ∷ [])

-- ---- what is answered

-- it holds of what is answered, where anything is
abbrev pub Made : (List JoinedTerm → Type 0) → Result (Option (Vec JoinedTerm)) AllocError → Type 0
Made P r = IfOk r (λ made. IfSome made (λ idle. P idle.items))

pub made_weaker : (P Q : List JoinedTerm → Type 0) → ((ks : List JoinedTerm) → P ks → Q ks) → (r : Result (Option (Vec JoinedTerm)) AllocError) → Made P r → Made Q r
made_weaker P Q f (Ok (Some idle)) h = f idle.items h
made_weaker P Q f (Ok None) h = tt
made_weaker P Q f (Err error) h = tt

pub made_same : (f go : Monomial → Outcome) (js old new : List JoinedTerm) (r : Result (Option (Vec JoinedTerm)) AllocError) → ((m : Monomial) → f m ≡ go m)
    → Made (λ ks. RunsInto f js ks old new) r → Made (λ ks. RunsInto go js ks old new) r
made_same f go js old new r e h = subst (λ (by : Monomial → Outcome). Made (λ ks. RunsInto by js ks old new) r) (λ j m. e m j) h

-- an empty vector
pub empty_items : (v : Vec JoinedTerm) (b : Bool) → b ≡ (vec_len v == 0) → b ≡ true → v.items ≡ []
empty_items v b is told = nil_from_length v.items (omega (arith, v.ok.0, eqb-true (vec_len v) 0 (sym is ∙ told)))

-- ---- nothing is done

pub none_left : (go : Monomial → Outcome) (js h : List JoinedTerm) → js ≡ [] → RunsInto go js js h h
none_left go js h e = subst (λ l. RunsInto go l l h h) (sym e) (into_none go h)

module _ (at : Limits) where
  -- ---- statements in a row

  pub no_block : (b : List Statement) (js h : List JoinedTerm) → length b ≡ 0 → RunsInto (run at b) js js h h
  no_block b js h e = subst (λ (ss : List Statement). RunsInto (run at ss) js js h h) (sym (nil_from_length b e)) (into_of (run at []) js js [] h h (no_statements at js) (none_put h))

  pub all_begun : (js acted : List JoinedTerm) → acted ≡ [] → Runs (run at []) js js acted
  all_begun js acted e = subst (Runs (run at []) js js) (sym e) (no_statements at js)

  -- one statement more, with a heap of its own
  pub one_more : (b : List Statement) (i : ℕ) (s : Statement) (js ks heap new acted : List JoinedTerm) (l : Level) → i < length b → s ≡ get_or b i s → Runs (run at (take i b)) js l.idle.items l.acted.items
      → heap ≡ [] → BothInto (action at s) l ks heap new → acted ≡ new → Runs (run at (take (i + 1) b)) js ks acted
  one_more b i s js ks heap new acted l within read before none both e =
      let fresh = subst (λ h. BothInto (action at s) l ks h new) none both in
      let is : take (i + 1) b ≡ take i b ++ s ∷ [] = take_more b i s within ∙ ap (λ x. take i b ++ x ∷ []) (sym read) in
      subst (λ ss. Runs (run at ss) js ks acted) (sym is) (subst (Runs (run at (take i b ++ s ∷ [])) js ks) (sym e)
      (statement_done at (take i b) s js l.idle.items l.acted.items ks fresh.first fresh.left fresh.second new before fresh.idle fresh.acted fresh.put))

  -- the last statement, behind all others
  pub last_one : (b all front : List Statement) (s : Statement) (js old new : List JoinedTerm) (l : Level) (r : Result (Option (Vec JoinedTerm)) AllocError) → all ≡ b → all ≡ front ++ s ∷ []
      → Runs (run at front) js l.idle.items l.acted.items → Made (λ ks. BothInto (action at s) l ks old new) r → Made (λ ks. RunsInto (run at b) js ks old new) r
  last_one b all front s js old new l r is parts before =
      let whole : front ++ s ∷ [] ≡ b = sym parts ∙ is in
      made_weaker (λ ks. BothInto (action at s) l ks old new) (λ ks. RunsInto (run at b) js ks old new)
      (λ ks both. subst (λ (ss : List Statement). RunsInto (run at ss) js ks old new) whole (statement_into at front s js ks l old new before both)) r

  -- ---- a block that is taken

  pub block_by : (act : Acting) (b : List Statement) (js i old new : List JoinedTerm) → act ≡ action at → RunsInto (run at b) js i old new → RunsInto (run_each (map act b)) js i old new
  block_by act b js i old new is r = subst (λ (a : Acting). RunsInto (run_each (map a b)) js i old new) (sym is) r

  pub some_last : (act : Acting) (last : Option (List Statement)) (b : List Statement) (js old new : List JoinedTerm) (r : Result (Option (Vec JoinedTerm)) AllocError) → act ≡ action at → last ≡ Some b
      → Made (λ ks. RunsInto (run at b) js ks old new) r → Made (λ ks. RunsInto (first_branch [] (option_map (acts_of act) last)) js ks old new) r
  some_last act last b js old new r is some =
      made_weaker (λ ks. RunsInto (run at b) js ks old new) (λ ks. RunsInto (first_branch [] (option_map (acts_of act) last)) js ks old new)
      (λ ks h. subst (λ (o : Option (List Statement)). RunsInto (first_branch [] (option_map (acts_of act) o)) js ks old new) (sym some) (block_by act b js ks old new is h)) r

pub no_last : (act : Acting) (last : Option (List Statement)) (js h : List JoinedTerm) → last ≡ None → RunsInto (first_branch [] (option_map (acts_of act) last)) js js h h
no_last act last js h none = subst (λ (o : Option (List Statement)). RunsInto (first_branch [] (option_map (acts_of act) o)) js js h h) (sym none) (into_of unchanged js js [] h h (runs_unchanged js) (none_put h))

-- ---- turns

module _ (most : ℕ) (once : Monomial → Outcome) (js old : List JoinedTerm) where
  -- so many turns have begun, and the others are left for these terms
  abbrev pub TurnsInto : ℕ → List JoinedTerm → List JoinedTerm → Type 0
  TurnsInto begun left mid = (new : List JoinedTerm) → AllInto (turns (most - begun) once) left mid new → AllInto (turns most once) js old new

  pub turns_begun : TurnsInto 0 js old
  turns_begun new r = let e : most - 0 ≡ most = omega arith in subst (λ n. AllInto (turns n once) js old new) e r

  pub one_turn : (begun : ℕ) (left leaving heap next going mid mid2 : List JoinedTerm) → begun < most → heap ≡ [] → RunsInto once left leaving heap next → going ≡ next → Stand (mid ++ leaving) mid2
      → TurnsInto begun left mid → TurnsInto (begun + 1) going mid2
  one_turn begun left leaving heap next going mid mid2 within none r e put before new rest =
      let n = most - (begun + 1) in
      let is : suc n ≡ most - begun = omega arith in
      let ran : Runs once left leaving next = into_fresh once left leaving next (subst (λ h. RunsInto once left leaving h next) none r) in
      before new (subst (λ k. AllInto (turns k once) left mid new) is (turn_into n once left leaving going mid mid2 new (subst (Runs once left leaving) (sym e) ran) put rest))

  -- nothing is left
  pub turns_ended : (begun : ℕ) (left mid : List JoinedTerm) → left ≡ [] → TurnsInto begun left mid → AllInto (turns most once) js old mid
  turns_ended begun left mid e before = before mid (subst (λ l. AllInto (turns (most - begun) once) l mid mid) (sym e) (turns_none (most - begun) once mid))

  pub turns_over : (begun : ℕ) (left : Vec JoinedTerm) (mid : List JoinedTerm) (b : Bool) → b ≡ (vec_len left == 0) → TurnsInto begun left.items mid → OnTrue b (AllInto (turns most once) js old mid)
  turns_over begun left mid true is before = turns_ended begun left.items mid (empty_items left true is refl) before
  turns_over begun left mid false is before = tt

-- the first turn, and those that may follow
pub first_turn : (n m : ℕ) (once : Monomial → Outcome) (js idle heap next going old new : List JoinedTerm) → n ≡ m → 0 < n → heap ≡ [] → RunsInto once js idle heap next → going ≡ next
    → AllInto (turns (n - 1) once) going old new → RunsInto (turns m once) js idle old new
first_turn n m once js idle heap next going old new same some none r e rest =
    let is : suc (n - 1) ≡ m = omega arith in
    let ran : Runs once js idle next = into_fresh once js idle next (subst (λ h. RunsInto once js idle h next) none r) in
    subst (λ k. RunsInto (turns k once) js idle old new) is (first_turn_into (n - 1) once js idle going old new (subst (Runs once js idle) (sym e) ran) rest)

-- ---- where it isn't asked on whose way something acted

-- a statement, with a heap of its own, into which what nothing acted on is put as well
pub comes_into : (go : Monomial → Outcome) (js idle heap next put all : List JoinedTerm) → heap ≡ [] → RunsInto go js idle heap next → Stand (next ++ idle) put → all ≡ put → Comes go js all
comes_into go js idle heap next put all none r h e =
    let fresh = subst (λ x. RunsInto go js idle x next) none r in
    let a = fresh.acted in
    subst (Comes go js) (sym e)
    (comes_of go js idle a put fresh.runs
    (stand_on (idle ++ a) (next ++ idle) put
    (stand_on (idle ++ a) (a ++ idle) (next ++ idle) (stand_moved (idle ++ a) (a ++ idle) (IsPermutation-append_comm idle a)) (stand_beside a idle next idle fresh.put (stand_itself idle))) h))

module _ (at : Limits) (b : List Statement) (js : List JoinedTerm) where
  pub none_come : length b ≡ 0 → Comes (run at b) js js
  none_come e = subst (λ (ss : List Statement). Comes (run at ss) js js) (sym (nil_from_length b e)) (nothing_comes at js)

  pub one_come : (i : ℕ) (s : Statement) (ks ls : List JoinedTerm) → i < length b → s ≡ get_or b i s → Comes (run at (take i b)) js ks → Comes (action at s) ks ls → Comes (run at (take (i + 1) b)) js ls
  one_come i s ks ls within read before one =
      let is : take (i + 1) b ≡ take i b ++ s ∷ [] = take_more b i s within ∙ ap (λ x. take i b ++ x ∷ []) (sym read) in
      subst (λ (ss : List Statement). Comes (run at ss) js ls) (sym is) (statement_comes at (take i b) s js ks ls before one)

  -- behind all but the last one that too
  pub last_comes : (front : List Statement) (i : ℕ) (s : Statement) (ks : List JoinedTerm) (r : Result (Option (Vec JoinedTerm)) AllocError) → b ≡ front ++ s ∷ [] → length front ≤ i
      → Comes (run at (take i front)) js ks → Made (λ ls. Comes (action at s) ks ls) r → Made (λ ls. Comes (run at b) js ls) r
  last_comes front i s ks r parts beyond before =
      let is : take i front ++ s ∷ [] ≡ b = ap (λ (ss : List Statement). ss ++ s ∷ []) (take_all i front beyond) ∙ sym parts in
      made_weaker (λ ls. Comes (action at s) ks ls) (λ ls. Comes (run at b) js ls)
      (λ ls one. subst (λ (ss : List Statement). Comes (run at ss) js ls) is (statement_comes at (take i front) s js ks ls before one)) r
