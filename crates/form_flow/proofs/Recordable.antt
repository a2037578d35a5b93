-- What the statements of a module make of a term can be recorded.
use Rattle.std.proofs.Common.{◌≡◌, ℕ, zero, suc, ◌||◌, Bool, true, false, if◌then◌else◌, List, [], ◌∷◌, ◌++◌, map, Option, Some, None, IfSome, option_map, Result, Ok, Err, IfOk, sym, subst, rules}
use Rattle.std.specs.Prelude.{All}
use Rattle.std.specs.List.{AllByRecursion, flat_map}
use Rattle.std.proofs.lemmas.List.Elements.{All-head, All-tail, All-from_recursion}
use Rattle.form_ast.specs.declared.statement.Side.{Side}
use Rattle.form_ast.specs.declared.statement.Side.TheVariants as sides
use Rattle.form_base.specs.declared.block.Action.{the_lemmas}
use Rattle.form_base.specs.declared.block.Action.TheVariants as acting
use Rattle.form_base.specs.declared.block.Branch.{Branch}
use Rattle.form_base.specs.declared.cause.Cause.{Cause}
use Rattle.form_base.specs.Statements.{in_last, in_row, leaves_of}
use Rattle.form_check.specs.declared.checked.Picked.{Picked}
use Rattle.form_check.proofs.Induction.{InAll, InBranch, by_tree}
use Rattle.form_term.specs.declared.monomial.Monomial.{Monomial}
use Rattle.form_term.specs.Arguments.{arguments_of}
use Rattle.form_term.specs.Monomial.{as_monomial}
use Rattle.form_term.specs.Named.{Place, Places, function_place, word_place, IsCallNamed, IsSoundArgument, IsSummand}
use Rattle.form_term.specs.Term.{Call, Argument, index, vector, expression, IsCall}
use Rattle.form_term.proofs.Each.{each_append, each_map, each_weaker, flat_each, map_each, in_front, at_back}
use Rattle.form_term.proofs.Named.{sound_read}
use Rattle.form_term.proofs.ReadBack.{call_arguments}
use Rattle.form_normal.specs.Product.{product}
use Rattle.form_normal.specs.Recordable.{IsOwn, IsRecordable, IsFactor}
use Rattle.form_normal.proofs.Recordable.{product_is_recordable, product_of_summands}
use Rattle.form_expand.specs.Expanding.{list_of_sum}
use Rattle.form_expand.specs.Listing.{Listing, limited, single}
use Rattle.form_expand.specs.Meanings.{no_meanings}
use Rattle.form_expand.specs.Singles.{argument_of, of_product}
use Rattle.form_expand.specs.Sound.{AreSummands, AreRecordable}
use Rattle.form_expand.proofs.Listed.{in_limit, in_pairs, in_product}
use Rattle.form_expand.proofs.Meant.{expression_summands}
use Rattle.form_expand.proofs.Recording.{lists_of_summands}
use Rattle.form_expand.proofs.Singled.{AreSound, argument_sound, sound_call, named_call}
use Rattle.form_flow.specs.declared.compiled.ReadyLeaf.{ReadyLeaf}
use Rattle.form_flow.specs.declared.compiled.ReadyLeaf.TheVariants.{Rewrite, Multiply, Sum, SumOver, Discard}
use Rattle.form_flow.specs.Arguments.{is_picked, outcome_of_terms, Progress, so_far, ends, progress, argument_behind, before_far, and_far, numbered_behind, arguments_behind, call_far, call_behind, calls_behind, with_functions, anew, and_word, in_arguments}
use Rattle.form_flow.specs.Indices.{dummies_put}
use Rattle.form_flow.specs.Multiplying.{multiplied_by}
use Rattle.form_flow.specs.Outcome.{Outcome, Output, Ended, done, refused, output, acted_or_not, has_acted, then_at, each, bind, also_acted, behind, onward, next_turn, turns, unchanged, listing_of}
use Rattle.form_flow.specs.Ready.{Choice}
use Rattle.form_flow.specs.Rewriting.{rewritten}
use Rattle.form_flow.specs.Sound.{IsLeafPlaced, IsStatementPlaced, ArePlaced}
use Rattle.form_flow.specs.Statement.{Chosen, Compiled, Limits, Statement}
use Rattle.form_flow.specs.Statements.{summed_over, or_unchanged, leaf, is_so, first_branch, action, run, outputs, branch_by}
use Rattle.form_flow.specs.Ways.{run_each}
use Rattle.form_flow.proofs.Acting.{of_plain, of_repeat, of_choose, of_within}
use Rattle.form_flow.proofs.Factored.{with_lawful}
use Rattle.form_flow.proofs.Rewritten.{rewritten_recordable}
use Rattle.form_flow.proofs.Turned.{IsSoundCall, functions_sound, word_sound, dummies_recordable, summed_recordable}

-- ---- outcomes

module _ (P : Monomial → Type 0) where
  -- this holds of each output
  abbrev pub Gives : Outcome → Type 0
  Gives o = AllByRecursion (λ (x : Output). P x.item) o.outputs

  in_then : (os : List Output) (end : Ended) (b : Outcome) → AllByRecursion (λ (x : Output). P x.item) os → Gives b → Gives (then_at os end b)
  unfolding then_at
  in_then os (done acted) b h k = each_append (λ (x : Output). P x.item) os b.outputs h k
  in_then os (refused cause) b h k = h

  in_each : (go : Output → Outcome) (os : List Output) (end : Ended) → AllByRecursion (λ (x : Output). Gives (go x)) os → Gives (each go os end)
  unfolding each
  in_each go [] end h = tt
  in_each go (x ∷ os) end h = in_then (go x).outputs (go x).end (each go os end) h.0 (in_each go os end h.1)

  in_behind : (acted : Bool) (o : Outcome) → Gives o → Gives (behind acted o)
  in_behind acted o h = each_map (λ (x : Output). P x.item) (λ (x : Output). P x.item) (also_acted acted) (λ x k. k) o.outputs h

  in_made : (acted : Bool) (l : Listing) → AllByRecursion P l.terms → Gives (acted_or_not acted l)
  in_made acted l h = each_map P (λ (x : Output). P x.item) (output acted) (λ m k. k) l.terms h

  items_of : (o : Outcome) → Gives o → AllByRecursion P (listing_of o).terms
  items_of o h = each_map (λ (x : Output). P x.item) P (λ (x : Output). x.item) (λ x k. k) o.outputs h

module _ (names : Places) where
  -- what comes of a term of an expression: such a term, and its own product where the term is
  abbrev IsOutput : Monomial → Monomial → Type 0
  IsOutput m n = IsSummand names n × (IsOwn m → IsOwn n)

  from_recordable : (m n : Monomial) → IsRecordable names n → IsOutput m n
  from_recordable m n h = (h.summand, λ own. h.own)

  abbrev pub Keeps : (Monomial → Outcome) → Type 0
  Keeps go = (m : Monomial) → IsSummand names m → Gives (IsOutput m) (go m)

  made_keeps : (acted : Bool) (m : Monomial) (l : Listing) → AreRecordable names l → Gives (IsOutput m) (acted_or_not acted l)
  made_keeps acted m l h = in_made (IsOutput m) acted l (each_weaker (IsRecordable names) (IsOutput m) (from_recordable m) l.terms h)

  unchanged_keeps : (m : Monomial) → IsSummand names m → Gives (IsOutput m) (unchanged m)
  unchanged_keeps m h = ((h, λ own. own), tt)

  -- ---- one after another

  onward_keeps : (m : Monomial) (go : Monomial → Outcome) → Keeps go → (x : Output) → IsOutput m x.item → Gives (IsOutput m) (onward go x)
  onward_keeps m go keeps x h =
      in_behind (IsOutput m) x.acted (go x.item)
      (each_weaker (λ (y : Output). IsOutput x.item y.item) (λ (y : Output). IsOutput m y.item) (λ y k. (k.0, λ own. k.1 (h.1 own))) (go x.item).outputs (keeps x.item h.0))

  bind_keeps : (m : Monomial) (go : Output → Outcome) → ((x : Output) → IsOutput m x.item → Gives (IsOutput m) (go x)) → (o : Outcome) → Gives (IsOutput m) o → Gives (IsOutput m) (bind go o)
  bind_keeps m go keeps o h = in_each (IsOutput m) go o.outputs o.end (each_weaker (λ (x : Output). IsOutput m x.item) (λ (x : Output). Gives (IsOutput m) (go x)) keeps o.outputs h)

  run_keeps : (acts : List (Monomial → Outcome)) → AllByRecursion Keeps acts → (m : Monomial) → IsSummand names m → Gives (IsOutput m) (run_each acts m)
  unfolding run_each
  run_keeps [] h m k = unchanged_keeps m k
  run_keeps (act ∷ acts) h m k = bind_keeps m (onward (run_each acts)) (onward_keeps m (run_each acts) (λ n g. run_keeps acts h.1 n g)) (act m) (h.0 m k)

  next_keeps : (m : Monomial) (go : Monomial → Outcome) → Keeps go → (x : Output) → IsOutput m x.item → Gives (IsOutput m) (next_turn go x)
  next_keeps m go keeps x g = by x.acted
    where
      by : (b : Bool) → Gives (IsOutput m) (if b then onward go x else record { outputs = x ∷ []; end = done false })
      by true = onward_keeps m go keeps x g
      by false = (g, tt)

  turns_keep : (n : ℕ) (once : Monomial → Outcome) → Keeps once → (m : Monomial) → IsSummand names m → Gives (IsOutput m) (turns n once m)
  unfolding turns
  turns_keep zero once h m k = tt
  turns_keep (suc n) once h m k = bind_keeps m (next_turn (turns n once)) (next_keeps m (turns n once) (λ x g. turns_keep n once h x g)) (once m) (h m k)

  -- ---- statements that are no blocks

  multiplied_recordable : (side : Side) (l : Listing) (m : Monomial) → AreSummands names l → IsSummand names m → AreRecordable names (multiplied_by side l m)
  multiplied_recordable sides.Right l m h k = in_pairs (IsSummand names) (IsSummand names) (IsRecordable names) (product_of_summands names) (m ∷ []) None l (k, tt) h
  multiplied_recordable sides.Left l m h k = in_pairs (IsSummand names) (IsSummand names) (IsRecordable names) (product_of_summands names) l.terms l.end (single m) h (k, tt)

  leaf_keeps : (at : Limits) (l : ReadyLeaf) → IsLeafPlaced names l → (m : Monomial) → IsSummand names m → Gives (IsOutput m) (leaf at l m)
  unfolding leaf
  leaf_keeps at (Rewrite ps) placed m h = by (rewritten at.terms ps m) (rewritten_recordable names at.terms ps m placed h)
    where
      by : (o : Option Listing) → IfSome o (AreRecordable names) → Gives (IsOutput m) (or_unchanged m o)
      by None k = unchanged_keeps m h
      by (Some l) k = made_keeps true m l k
  leaf_keeps at (Multiply side s) placed m h =
      let l : Listing = list_of_sum at.terms no_meanings s in
      made_keeps true m (multiplied_by side l m) (multiplied_recordable side l m (lists_of_summands names at.terms no_meanings s (record { stored = tt; bindings = tt }) placed) h)
  leaf_keeps at (Sum is) placed m h = made_keeps true m (dummies_put is m) (dummies_recordable names is m h)
  leaf_keeps at (SumOver i ns) placed m h = made_keeps true m (summed_over i ns m) (summed_recordable names i ns m h)
  leaf_keeps at Discard placed m h = tt

  -- ---- arguments

  abbrev IfFar : {A : Type 0} → (A → Type 0) → Progress A → Type 0
  IfFar P (so_far x acted) = P x
  IfFar P (ends cause) = Unit {0}

  module _ (max : ℕ) (go : Monomial → Outcome) (keeps : Keeps go) (ps : List Picked) where
    terms_keep : (ms : List Monomial) → AllByRecursion (IsSummand names) ms → Gives (IsSummand names) (outcome_of_terms go ms)
    terms_keep [] h = tt
    terms_keep (m ∷ ms) h =
        in_then (IsSummand names) (go m).outputs (go m).end (outcome_of_terms go ms)
        (each_weaker (λ (x : Output). IsOutput m x.item) (λ (x : Output). IsSummand names x.item) (λ x k. k.0) (go m).outputs (keeps m h.0)) (terms_keep ms h.1)

    argument_kept : (acted : Bool) (a : Argument) → IsSoundArgument names a → IfFar (IsSoundArgument names) (argument_behind max go acted a)
    argument_kept acted (index i) h = h
    argument_kept acted (vector v) h = h
    argument_kept acted (expression ss) h =
        let o : Outcome = outcome_of_terms go (map as_monomial ss) in
        let l : Listing = limited max (listing_of o) in
        by (acted || has_acted o.end) (argument_of l)
        (argument_sound names l (in_limit (IsSummand names) max (listing_of o) (items_of (IsSummand names) o (terms_keep (map as_monomial ss) (expression_summands names ss h)))))
      where
        by : (b : Bool) (r : Result Argument Cause) → IfOk r (IsSoundArgument names) → IfFar (IsSoundArgument names) (progress b r)
        by b (Ok a) k = k
        by b (Err cause) k = tt

    numbered_kept : (f k : ℕ) (acted : Bool) (a : Argument) → IsSoundArgument names a → IfFar (IsSoundArgument names) (numbered_behind max go ps f k acted a)
    numbered_kept f k acted a h = by (is_picked ps f k)
      where
        by : (b : Bool) → IfFar (IsSoundArgument names) (if b then argument_behind max go acted a else so_far a acted)
        by true = argument_kept acted a h
        by false = h

    further_kept : {A : Type 0} (P : A → Type 0) (p : Progress A) (rest : Bool → Progress (List A)) → IfFar P p → ((b : Bool) → IfFar (AllByRecursion P) (rest b)) → IfFar (AllByRecursion P) (and_far p rest)
    further_kept P (ends cause) rest h k = tt
    further_kept {A} P (so_far x acted) rest h k = by (rest acted) (k acted)
      where
        by : (q : Progress (List A)) → IfFar (AllByRecursion P) q → IfFar (AllByRecursion P) (before_far x q)
        by (ends cause) g = tt
        by (so_far xs also) g = (h, g)

    arguments_kept : (f k : ℕ) (acted : Bool) (args : List Argument) → AreSound names args → IfFar (AreSound names) (arguments_behind max go ps f k acted args)
    arguments_kept f k acted [] h = tt
    arguments_kept f k acted (a ∷ args) h =
        further_kept (IsSoundArgument names) (numbered_behind max go ps f k acted a) (λ also. arguments_behind max go ps f (suc k) also args)
        (numbered_kept f k acted a h.0) (λ also. arguments_kept f (suc k) also args h.1)

    call_kept : (place : Place) (acted : Bool) (c : Call) → IsSoundCall names place c → IfFar (IsSoundCall names place) (call_behind max go ps acted c)
    call_kept place acted c h =
        by (arguments_behind max go ps c.function 1 acted (arguments_of c.pieces))
        (arguments_kept c.function 1 acted (arguments_of c.pieces) (sound_read names c.pieces (call_arguments c h.0, h.1.1)))
      where
        by : (p : Progress (List Argument)) → IfFar (AreSound names) p → IfFar (IsSoundCall names place) (call_far c.function p)
        by (ends cause) k = tt
        by (so_far args also) k = (sound_call names c.function args k, named_call names c.function args k place h.1.0)

    calls_kept : (place : Place) (acted : Bool) (cs : List Call) → AllByRecursion (IsSoundCall names place) cs → IfFar (AllByRecursion (IsSoundCall names place)) (calls_behind max go ps acted cs)
    calls_kept place acted [] h = tt
    calls_kept place acted (c ∷ cs) h =
        further_kept (IsSoundCall names place) (call_behind max go ps acted c) (λ also. calls_behind max go ps also cs)
        (call_kept place acted c h.0) (λ also. calls_kept place also cs h.1)

    module _ (m : Monomial) (h : IsSummand names m) where
      factor_kept : (fs ws : List Call) → AllByRecursion (IsSoundCall names function_place) fs → AllByRecursion (IsSoundCall names word_place) ws → IsFactor names (with_functions m fs ws)
      factor_kept fs ws f w =
          let functions = All-from_recursion IsCall fs (each_weaker (IsSoundCall names function_place) IsCall (λ c k. k.0) fs f) in
          let word = All-from_recursion IsCall ws (each_weaker (IsSoundCall names word_place) IsCall (λ c k. k.0) ws w) in
          record {
            named = record {
              symbols = h.named.symbols;
              dots = h.named.dots;
              components = h.named.components;
              deltas = h.named.deltas;
              functions = each_weaker (IsSoundCall names function_place) (IsCallNamed function_place names) (λ c k. k.1) fs f;
              word = each_weaker (IsSoundCall names word_place) (IsCallNamed word_place names) (λ c k. k.1) ws w;
            };
            each = with_lawful m.term.others m.term.symbols fs ws h.lawful functions word;
            lowest = h.lowest;
            present = h.present;
          }

      anew_keeps : (fs : List Call) → AllByRecursion (IsSoundCall names function_place) fs → (p : Progress (List Call)) → IfFar (AllByRecursion (IsSoundCall names word_place)) p → Gives (IsOutput m) (anew m fs p)
      anew_keeps fs f (ends cause) w = tt
      anew_keeps fs f (so_far ws acted) w =
          let n : Monomial = with_functions m fs ws in
          made_keeps acted m (of_product (product (n ∷ []))) (in_product (IsRecordable names) (product (n ∷ [])) (λ r e. product_is_recordable names (n ∷ []) r (factor_kept fs ws f w, tt) e))

      word_keeps : (p : Progress (List Call)) → IfFar (AllByRecursion (IsSoundCall names function_place)) p → Gives (IsOutput m) (and_word max go ps m p)
      word_keeps (ends cause) f = tt
      word_keeps (so_far fs acted) f = anew_keeps fs f (calls_behind max go ps acted m.term.others.word) (calls_kept word_place acted m.term.others.word (word_sound names m h))

    within_keeps : (m : Monomial) → IsSummand names m → Gives (IsOutput m) (in_arguments max ps go m)
    unfolding in_arguments
    within_keeps m h = word_keeps m h (calls_behind max go ps false m.term.others.functions) (calls_kept function_place false m.term.others.functions (functions_sound names m h))

  -- ---- blocks

  abbrev acts : Limits → List Statement → List (Monomial → Outcome)
  acts at b = map (action at) b

  branch_keeps : (at : Limits) (bs : List Chosen) (last : Option (List (Monomial → Outcome))) → AllByRecursion (λ (b : Chosen). AllByRecursion Keeps (acts at b.block)) bs → IfSome last (AllByRecursion Keeps)
      → (m : Monomial) → IsSummand names m → Gives (IsOutput m) (first_branch (map (branch_by (action at)) bs) last m)
  branch_keeps at [] None h k m g = unchanged_keeps m g
  branch_keeps at [] (Some b) h k m g = run_keeps b k m g
  branch_keeps at (b ∷ bs) last h k m g = by (is_so b.condition m) (branch_keeps at bs last h.1 k m g)
    where
      by : (t : Bool) → Gives (IsOutput m) (first_branch (map (branch_by (action at)) bs) last m) → Gives (IsOutput m) (if t then run_each (acts at b.block) m else first_branch (map (branch_by (action at)) bs) last m)
      by true rest = run_keeps (acts at b.block) h.0 m g
      by false rest = rest

  -- ---- a tree

  module _ (at : Limits) where
    abbrev IsKept : Statement → Type 0
    IsKept a = IsStatementPlaced names a → Keeps (action at a)

    leaves_plain : (l : ReadyLeaf) → leaves_of {L = ReadyLeaf} {C = Choice} {F = List Picked} (acting.Plain l) ≡ l ∷ []
    leaves_plain l = search (rules, the_lemmas)

    leaves_repeat : (b : List Statement) → leaves_of (acting.Repeat b) ≡ in_row (map leaves_of b)
    leaves_repeat b = search (rules, the_lemmas)

    leaves_within : (fs : List Picked) (b : List Statement) → leaves_of (acting.Within fs b) ≡ in_row (map leaves_of b)
    leaves_within fs b = search (rules, the_lemmas)

    abbrev branch_leaves : Chosen → Branch Choice (List (List ReadyLeaf))
    branch_leaves b = record { condition = b.condition; block = map leaves_of b.block }

    leaves_choose : (bs : List Chosen) (last : Option (List Statement))
        → leaves_of (acting.Choose bs last) ≡ flat_map (λ b. in_row b.block) (map branch_leaves bs) ++ in_last (option_map (map leaves_of) last)
    leaves_choose bs last = search (rules, the_lemmas)

    abbrev Placed : List ReadyLeaf → Type 0
    Placed ls = AllByRecursion (IsLeafPlaced names) ls

    row_placed : (b : List Statement) → Placed (in_row (map leaves_of b)) → ArePlaced names b
    row_placed b h = map_each (IsStatementPlaced names) Placed leaves_of (λ a k. k) b (flat_each Placed (IsLeafPlaced names) (λ (row : List ReadyLeaf). row) (λ row k. k) (map leaves_of b) h)

    block_kept : (b : List Statement) → All IsKept b → ArePlaced names b → AllByRecursion Keeps (acts at b)
    block_kept [] h k = tt
    block_kept (a ∷ b) h k = (All-head IsKept a b h k.0, block_kept b (All-tail IsKept a b h) k.1)

    branches_kept : (bs : List Chosen) → All (InBranch IsKept) bs → Placed (flat_map (λ b. in_row b.block) (map branch_leaves bs)) → AllByRecursion (λ (b : Chosen). AllByRecursion Keeps (acts at b.block)) bs
    branches_kept [] h k = tt
    branches_kept (b ∷ bs) h k =
        let rest = flat_map (λ (c : Branch Choice (List (List ReadyLeaf))). in_row c.block) (map branch_leaves bs) in (
          block_kept b.block (All-head (InBranch IsKept) b bs h) (row_placed b.block (in_front (IsLeafPlaced names) (in_row (map leaves_of b.block)) rest k)),
          branches_kept bs (All-tail (InBranch IsKept) b bs h) (at_back (IsLeafPlaced names) (in_row (map leaves_of b.block)) rest k),
        )

    last_kept : (last : Option (List Statement)) → IfSome last (InAll IsKept) → Placed (in_last (option_map (map leaves_of) last)) → IfSome (option_map (map (action at)) last) (AllByRecursion Keeps)
    last_kept None h k = tt
    last_kept (Some b) h k = block_kept b h (row_placed b k)

    plain_kept : (l : ReadyLeaf) → IsStatementPlaced names (acting.Plain l) → (m : Monomial) → IsSummand names m → Gives (IsOutput m) (action at (acting.Plain l) m)
    plain_kept l placed m h = subst (Gives (IsOutput m)) (sym (of_plain at l m)) (leaf_keeps at l (subst Placed (leaves_plain l) placed).0 m h)

    repeat_kept : (b : List Statement) → InAll IsKept b → IsStatementPlaced names (acting.Repeat b) → (m : Monomial) → IsSummand names m → Gives (IsOutput m) (action at (acting.Repeat b) m)
    repeat_kept b h placed m k =
        subst (Gives (IsOutput m)) (sym (of_repeat at b m))
        (turns_keep at.turns (run at b) (λ x g. run_keeps (acts at b) (block_kept b h (row_placed b (subst Placed (leaves_repeat b) placed))) x g) m k)

    choose_kept : (bs : List Chosen) (last : Option (List Statement)) → All (InBranch IsKept) bs → IfSome last (InAll IsKept)
        → IsStatementPlaced names (acting.Choose bs last) → (m : Monomial) → IsSummand names m → Gives (IsOutput m) (action at (acting.Choose bs last) m)
    choose_kept bs last h k placed m g =
        let first = flat_map (λ (c : Branch Choice (List (List ReadyLeaf))). in_row c.block) (map branch_leaves bs) in
        let later = in_last (option_map (map leaves_of) last) in
        let all = subst Placed (leaves_choose bs last) placed in
        subst (Gives (IsOutput m)) (sym (of_choose at bs last m))
        (branch_keeps at bs (option_map (map (action at)) last) (branches_kept bs h (in_front (IsLeafPlaced names) first later all)) (last_kept last k (at_back (IsLeafPlaced names) first later all)) m g)

    within_kept : (ps : List Picked) (b : List Statement) → InAll IsKept b → IsStatementPlaced names (acting.Within ps b) → (m : Monomial) → IsSummand names m → Gives (IsOutput m) (action at (acting.Within ps b) m)
    within_kept ps b h placed m k =
        subst (Gives (IsOutput m)) (sym (of_within at ps b m))
        (within_keeps at.terms (run at b) (λ x g. run_keeps (acts at b) (block_kept b h (row_placed b (subst Placed (leaves_within ps b) placed))) x g) ps m k)

    statement_kept : (a : Statement) → IsKept a
    statement_kept = by_tree IsKept plain_kept repeat_kept choose_kept within_kept

    statements_keep : (b : List Statement) → ArePlaced names b → AllByRecursion Keeps (acts at b)
    statements_keep [] h = tt
    statements_keep (a ∷ b) h = (statement_kept a h.0, statements_keep b h.1)

  pub run_summands : (at : Limits) (b : List Statement) (m : Monomial) → ArePlaced names b → IsSummand names m → AreSummands names (listing_of (run at b m))
  run_summands at b m placed h =
      let o : Outcome = run at b m in
      items_of (IsSummand names) o (each_weaker (λ (x : Output). IsOutput m x.item) (λ (x : Output). IsSummand names x.item) (λ x k. k.0) o.outputs (run_keeps (acts at b) (statements_keep at b placed) m h))

  pub run_recordable : (at : Limits) (b : List Statement) (m : Monomial) → ArePlaced names b → IsRecordable names m → AreRecordable names (listing_of (run at b m))
  run_recordable at b m placed h =
      let o : Outcome = run at b m in
      items_of (IsRecordable names) o
      (each_weaker (λ (x : Output). IsOutput m x.item) (λ (x : Output). IsRecordable names x.item) (λ x k. record { summand = k.0; own = k.1 h.own }) o.outputs
      (run_keeps (acts at b) (statements_keep at b placed) m h.summand))

  pub outputs_recordable : (c : Compiled) (m : Monomial) → ArePlaced names c.statements → IsRecordable names m → AreRecordable names (outputs c m)
  unfolding outputs
  outputs_recordable c m placed h = in_limit (IsRecordable names) c.limits.terms (listing_of (run c.limits c.statements m)) (run_recordable c.limits c.statements m placed h)
