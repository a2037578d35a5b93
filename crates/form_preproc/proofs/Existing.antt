-- Lines, and what is asked for, end in some way: each line and each turn that acts counts one, and only so many may act.
use Rattle.std.proofs.Common.{◌≡◌, ◌⊎◌, inl, inr, ℕ, zero, suc, ◌+◌, ◌-◌, ◌*◌, ◌<◌, ◌≤◌, arith, Bool, true, false, if◌then◌else◌, List, [], ◌∷◌, length, Option, Some, None, Result, Ok, Err, MatchBool, refl, sym, ap, ◌∙◌}
use Rattle.std.specs.Prelude.{nat_le, nat_lt, ◌==◌}
use Rattle.std.proofs.lemmas.Bool.Decides.{leb_tells}
use Rattle.form_base.specs.declared.cause.Cause.{Cause}
use Rattle.form_base.specs.declared.cause.Cause.TheVariants.{LineLimit, BadInstruction, UnknownProcedure, MissingText, CallDepth}
use Rattle.form_lines.specs.Program.{most_lines, after_blanks, begins_with_end}
use Rattle.form_outside.specs.Texts.{Texts, text_of}
use Rattle.form_preproc.specs.Block.{Line, key_in, is_closer, to_closer, taken_up}
use Rattle.form_preproc.specs.Bytes.{trimmed, is_name}
use Rattle.form_preproc.specs.Instruction.{definition, procedure_head, call_head, included_name, next_value}
use Rattle.form_preproc.specs.Key.{behind_key}
use Rattle.form_preproc.specs.Variables.{Heights, cut_back, all_cut, heights_of, height_of, pushed, uncovered}
use Rattle.form_preproc.specs.declared.instruction.Head.{Head}
use Rattle.form_preproc.specs.declared.key.Key.{Key}
use Rattle.form_preproc.specs.declared.key.Key.TheVariants.{Plain, Do, If, Ifdef, Ifndef, Procedure, Elseif, Else, Define, Redefine, Undefine, Call, Include, Sign, Unknown}
use Rattle.form_preproc.specs.declared.turns.Turns.{Turns}
use Rattle.form_preproc.specs.Expansion.{Place, Stored, State, Ending, goes, ends, stops, After, branch, included, turn, fetched, called, Request, finished, inside, tries, Acts, Does, tried, place_of, stopped, counted, given, formed, prepared, instructed, with_values, handing, handed_on, defined, redefined, storing, nothing_behind, procedure_of, reading, fetching_in, fitting, entering, calling_in, calling, including, turning_in, loop_of, choosing, truth_at, testing, trying_at, trying, alone_at, acting_at, acting, requested_at, requested, resumed, depth_in, behind, is_over, begun, Expansion, missing, refusal, concluded, refused, too_long, longest_text, AreExpanded, IsTextExpanded, IsExpanded}
use Rattle.form_preproc.specs.Frames.{Running, depth_of, Continues}
use Rattle.form_preproc.proofs.Continuing.{over_goes, over_ends, over_stops, over_enters, line_goes, line_ends, line_stops, line_enters}

-- ---- how much may still be done

-- three for each line that may still act
room : ℕ → ℕ
room acted = 3 * (most_lines - acted)

-- a call's text that has acted may still begin a body without a further count
abbrev weight_of : After → ℕ
weight_of (fetched place name arguments heights) = 2
weight_of _ = 1

abbrev weights : List Running → ℕ
weights [] = 0
weights (f ∷ fs) = weight_of f.after + weights fs

weighs : (after : After) → 1 ≤ weight_of after
weighs branch = omega arith
weighs included = omega arith
weighs (turn place name height turns body) = omega arith
weighs (fetched place name arguments heights) = omega arith
weighs (called heights) = omega arith

below_limit : (most acted : ℕ) → nat_le most acted ≡ false → acted < most
below_limit most acted e = by_cases (leb_tells most acted)
  where
    by_cases : ((nat_le most acted ≡ true) × (most ≤ acted)) ⊎ ((nat_le most acted ≡ false) × (acted < most)) → acted < most
    by_cases (inl t) = let no_way : true ≡ false = sym t.0 ∙ e in absurd cc
    by_cases (inr t) = t.1

falls_by : (most acted : ℕ) → acted < most → 3 * (most - suc acted) + 3 ≤ 3 * (most - acted)
falls_by most acted lt = omega arith

room_falls : (acted : ℕ) → nat_le most_lines acted ≡ false → room (suc acted) + 3 ≤ room acted
unfolding room
room_falls acted e = falls_by most_lines acted (below_limit most_lines acted e)

-- ---- what a request leads to

-- it is done with, or lines act, and less may be done then
abbrev IsLess : ℕ → Request → Type 0
IsLess budget (finished (goes s)) = room s.acted < budget
IsLess budget (finished (ends s)) = Unit {0}
IsLess budget (finished (stops stop)) = Unit {0}
IsLess budget (inside s lines after) = room s.acted + weight_of after < budget
IsLess budget (tries s lines) = ⊥

record Settles (texts : Texts) (depth budget : ℕ) (r : Request) : Type 0 where
  asked : Request
  led : (e : Ending) → Does texts depth asked e → Does texts depth r e
  less : IsLess budget asked

less_weaker : (a b : ℕ) → a ≤ b → (q : Request) → IsLess a q → IsLess b q
less_weaker a b le (finished (goes s)) h = omega arith
less_weaker a b le (finished (ends s)) h = tt
less_weaker a b le (finished (stops stop)) h = tt
less_weaker a b le (inside s lines after) h = omega arith
less_weaker a b le (tries s lines) h = absurd h

module _ (texts : Texts) (depth : ℕ) where
  itself : (budget : ℕ) (r : Request) → IsLess budget r → Settles texts depth budget r
  itself budget r h = record { asked = r; led = λ e d. d; less = h }

  weaker : (a b : ℕ) → a ≤ b → (r : Request) → Settles texts depth a r → Settles texts depth b r
  weaker a b le r h = record { asked = h.asked; led = h.led; less = less_weaker a b le h.asked h.less }

  counted_settles : (s : State) (place : Place) (rest : State → Request) → Settles texts depth (room (suc s.acted) + 3) (rest (record s { acted = suc s.acted })) → Settles texts depth (room s.acted) (counted s place rest)
  counted_settles s place rest h = by_count (nat_le most_lines s.acted) refl
    where
      by_count : (full : Bool) → nat_le most_lines s.acted ≡ full → Settles texts depth (room s.acted) (if full then stopped place LineLimit else rest (record s { acted = suc s.acted }))
      by_count true e = itself (room s.acted) (stopped place LineLimit) tt
      by_count false e = weaker (room (suc s.acted) + 3) (room s.acted) (room_falls s.acted e) (rest (record s { acted = suc s.acted })) h

  given_settles : {X : Type 0} (budget : ℕ) (place : Place) (r : Result X Cause) (rest : X → Request) → ((x : X) → Settles texts depth budget (rest x)) → Settles texts depth budget (given place r rest)
  given_settles budget place (Ok x) rest h = h x
  given_settles budget place (Err cause) rest h = itself budget (stopped place cause) tt

  formed_settles : {X : Type 0} (budget : ℕ) (place : Place) (r : Option X) (rest : X → Request) → ((x : X) → Settles texts depth budget (rest x)) → Settles texts depth budget (formed place r rest)
  formed_settles budget place (Some x) rest h = h x
  formed_settles budget place None rest h = itself budget (stopped place BadInstruction) tt

  either_settles : (budget : ℕ) (b : Bool) (r q : Request) → Settles texts depth budget r → Settles texts depth budget q → Settles texts depth budget (if b then r else q)
  either_settles budget true r q first second = first
  either_settles budget false r q first second = second

  stopped_settles : (budget : ℕ) (place : Place) (cause : Cause) → Settles texts depth budget (stopped place cause)
  stopped_settles budget place cause = itself budget (stopped place cause) tt

  goes_settles : (s : State) (more : ℕ) → Settles texts depth (room s.acted + suc more) (finished (goes s))
  goes_settles s more = itself (room s.acted + suc more) (finished (goes s)) (omega arith)

  -- ---- texts, calls

  reading_settles : (s : State) (name : List ℕ) (after : After) (read : Result (List Line) (Cause × ℕ)) → Settles texts depth (room s.acted + suc (weight_of after)) (reading s name after read)
  reading_settles s name after (Ok lines) = itself (room s.acted + suc (weight_of after)) (inside s lines after) (omega arith)
  reading_settles s name after (Err bad) = stopped_settles (room s.acted + suc (weight_of after)) (record { file = name; line = bad.1 }) bad.0

  fetching_settles : (found : Option (List ℕ)) (s : State) (name : List ℕ) (absent : Request) (after : After) → Settles texts depth (room s.acted + suc (weight_of after)) absent
      → Settles texts depth (room s.acted + suc (weight_of after)) (fetching_in found s name absent after)
  fetching_settles None s name absent after h = h
  fetching_settles (Some bytes) s name absent after h =
      either_settles (room s.acted + suc (weight_of after)) (nat_lt longest_text (length bytes)) (finished (stops (too_long name))) _
      (itself (room s.acted + suc (weight_of after)) (finished (stops (too_long name))) tt)
      (reading_settles _ name after (taken_up name (length s.texts) bytes))

  entering_settles : (s : State) (place : Place) (name : List ℕ) (arguments : List (List ℕ)) (heights : Heights) (stored : Option Stored) → Settles texts depth (room s.acted + 2) (entering s place name arguments heights stored)
  entering_settles s place name arguments heights None = stopped_settles (room s.acted + 2) place (UnknownProcedure name)
  entering_settles s place name arguments heights (Some p) =
      either_settles (room s.acted + 2) (length p.parameters == length (fitting p.parameters arguments)) _ _
      (itself (room s.acted + 2) _ (omega arith))
      (stopped_settles (room s.acted + 2) place _)

  calling_settles : (s : State) (place : Place) (head : Head) (stored : Option Stored) → Settles texts depth (room s.acted + 3) (calling_in texts s place head stored)
  calling_settles s place head (Some p) =
      weaker (room s.acted + 2) (room s.acted + 3) (omega arith) _ (entering_settles s place head.name head.parts (heights_of s.values) (Some p))
  calling_settles s place head None =
      fetching_settles (text_of texts _) s _ (stopped place (UnknownProcedure head.name)) (fetched place head.name head.parts (heights_of s.values)) (stopped_settles (room s.acted + 3) place (UnknownProcedure head.name))

  including_settles : (s : State) (place : Place) (name : List ℕ) → Settles texts depth (room s.acted + 3) (including texts depth s place name)
  including_settles s place name =
      either_settles (room s.acted + 3) _ (stopped place CallDepth) _ (stopped_settles (room s.acted + 3) place CallDepth)
      (weaker (room s.acted + 2) (room s.acted + 3) (omega arith) _ (fetching_settles (text_of texts name) s name (stopped place (MissingText name)) included (stopped_settles (room s.acted + 2) place (MissingText name))))

  -- ---- loops

  turning_settles : (s : State) (place : Place) (name : List ℕ) (body : List Line) (next : Option (List ℕ × Turns)) → Settles texts depth (room s.acted + 1) (turning_in s place name body next)
  turning_settles s place name body None = goes_settles s 0
  turning_settles s place name body (Some (value, more)) =
      weaker (room s.acted) (room s.acted + 1) (omega arith) _
      (counted_settles s place (λ s. inside (with_values s (pushed s.values name value)) body (turn place name (height_of s.values name) more body)) (itself (room (suc s.acted) + 3) _ (omega arith)))

  -- ---- branches

  -- where a block's further parts settle with less to do
  choosing_settles : (s : State) (rest : List Line) (holds : Bool) → ((lines : List Line) → Settles texts depth (room s.acted + 3) (tries s lines)) → Settles texts depth (room s.acted + 3) (choosing s rest holds)
  choosing_settles s rest true further = itself (room s.acted + 3) (inside s rest branch) (omega arith)
  choosing_settles s rest false further = further (to_closer key_in 0 rest)

  testing_settles : (s : State) (line : Line) (rest : List Line) → ((nat_le most_lines s.acted ≡ false) → (lines : List Line) → Settles texts depth (room (suc s.acted) + 3) (tries (record s { acted = suc s.acted }) lines))
      → Settles texts depth (room s.acted) (testing s line rest)
  testing_settles s line rest further = by_count (nat_le most_lines s.acted) refl
    where
      next : State
      next = record s { acted = suc s.acted }

      by_count : (full : Bool) → nat_le most_lines s.acted ≡ full
          → Settles texts depth (room s.acted) (if full then stopped (place_of line) LineLimit else given (place_of line) (truth_at (key_in line) s.values line.text) (choosing (record s { acted = suc s.acted }) rest))
      by_count true e = stopped_settles (room s.acted) (place_of line) LineLimit
      by_count false e =
          weaker (room (suc s.acted) + 3) (room s.acted) (room_falls s.acted e) _
          (given_settles (room (suc s.acted) + 3) (place_of line) (truth_at (key_in line) s.values line.text) (choosing (record s { acted = suc s.acted }) rest)
          (λ holds. choosing_settles (record s { acted = suc s.acted }) rest holds (further e)))

  tried_settles : (s : State) (lines : List Line) (budget : ℕ) → Settles texts depth budget (trying s lines) → Settles texts depth budget (tries s lines)
  tried_settles s lines budget h = record { asked = h.asked; led = λ e d. tried depth s lines e (h.led e d); less = h.less }

  trying_settles : (key : Key) (s : State) (line : Line) (rest : List Line) → Settles texts depth (room s.acted) (testing s line rest) → Settles texts depth (room s.acted + 3) (trying_at key s line rest)
  trying_settles Elseif s line rest h = weaker (room s.acted) (room s.acted + 3) (omega arith) (testing s line rest) h
  trying_settles Else s line rest h = itself (room s.acted + 3) (inside s rest branch) (omega arith)
  trying_settles _ s line rest h = goes_settles s 2

  tries_settles : (n : ℕ) (s : State) (lines : List Line) → room s.acted ≤ n → Settles texts depth (room s.acted + 3) (tries s lines)
  tries_settles n s [] le = tried_settles s [] (room s.acted + 3) (goes_settles s 2)
  tries_settles zero s (line ∷ rest) le =
      tried_settles s (line ∷ rest) (room s.acted + 3) (trying_settles (key_in line) s line rest (testing_settles s line rest (λ e lines. absurd (omega (arith, room_falls s.acted e)))))
  tries_settles (suc n) s (line ∷ rest) le =
      tried_settles s (line ∷ rest) (room s.acted + 3)
      (trying_settles (key_in line) s line rest (testing_settles s line rest (λ e lines. tries_settles n (record s { acted = suc s.acted }) lines (omega (arith, room_falls s.acted e)))))

  -- ---- a line acts

  handing_settles : (s : State) (text : List ℕ) → Settles texts depth (room s.acted + 3) (handing s text)
  handing_settles s text = either_settles (room s.acted + 3) (begins_with_end (after_blanks text)) (finished (ends s)) (finished (goes s)) (itself (room s.acted + 3) (finished (ends s)) tt) (goes_settles s 2)

  nothing_settles : (s : State) (place : Place) (text : List ℕ) → Settles texts depth (room s.acted + 3) (nothing_behind s place text)
  nothing_settles s place [] = goes_settles s 2
  nothing_settles s place (c ∷ cs) = stopped_settles (room s.acted + 3) place BadInstruction

  instructed_settles : (s : State) (line : Line) (rest : List ℕ → Request) → ((text : List ℕ) → Settles texts depth (room s.acted + 3) (rest text)) → Settles texts depth (room s.acted + 3) (instructed s line rest)
  instructed_settles s line rest h = given_settles (room s.acted + 3) (place_of line) (prepared s.values line.text) _ (λ text. h (behind_key (key_in line) text))

  alone_settles : (key : Key) (s : State) (line : Line) (rest : List Line) → Settles texts depth (room s.acted + 3) (alone_at key s line rest)
  alone_settles Plain s line rest = given_settles (room s.acted + 3) (place_of line) (prepared s.values line.text) (handed_on s line) (λ text. handing_settles _ text)
  alone_settles Sign s line rest = instructed_settles s line _ (λ text. nothing_settles s (place_of line) (trimmed text))
  alone_settles Define s line rest = instructed_settles s line _ (λ text. formed_settles (room s.acted + 3) (place_of line) (definition (trimmed text)) (defined s) (λ d. goes_settles _ 2))
  alone_settles Redefine s line rest = instructed_settles s line _ (λ text. formed_settles (room s.acted + 3) (place_of line) (definition (trimmed text)) (redefined s) (λ d. goes_settles _ 2))
  alone_settles Undefine s line rest =
      instructed_settles s line _ (λ text. either_settles (room s.acted + 3) (is_name (trimmed text)) _ _ (goes_settles (with_values s (uncovered s.values (trimmed text))) 2) (stopped_settles (room s.acted + 3) (place_of line) BadInstruction))
  alone_settles Procedure s line rest = instructed_settles s line _ (λ text. formed_settles (room s.acted + 3) (place_of line) (procedure_head (trimmed text)) (storing s rest) (λ head. goes_settles _ 2))
  alone_settles Do s line rest =
      given_settles (room s.acted + 3) (place_of line) (loop_of s.values line.text) _
      (λ loop. weaker (room s.acted + 1) (room s.acted + 3) (omega arith) _ (turning_settles s (place_of line) loop.name rest (next_value loop.turns)))
  alone_settles Unknown s line rest = instructed_settles s line _ (λ text. stopped_settles (room s.acted + 3) (place_of line) BadInstruction)
  alone_settles _ s line rest = goes_settles s 2

  acting_at_settles : (key : Key) (s : State) (line : Line) (rest : List Line) → Settles texts depth (room s.acted + 3) (acting_at key texts depth s line rest)
  acting_at_settles Call s line rest =
      instructed_settles s line _ (λ text. formed_settles (room s.acted + 3) (place_of line) (call_head (trimmed text)) (calling texts depth s (place_of line))
      (λ head. either_settles (room s.acted + 3) _ (stopped (place_of line) CallDepth) _ (stopped_settles (room s.acted + 3) (place_of line) CallDepth) (calling_settles s (place_of line) head (procedure_of s.procedures head.name))))
  acting_at_settles Include s line rest =
      instructed_settles s line _ (λ text. formed_settles (room s.acted + 3) (place_of line) (included_name text) (including texts depth s (place_of line)) (including_settles s (place_of line)))
  acting_at_settles key s line rest = alone_settles key s line rest

  acting_settles : (key : Key) (s : State) (line : Line) (rest : List Line) → Settles texts depth (room s.acted) (acting key texts depth s line rest)
  acting_settles key s line rest =
      counted_settles s (place_of line) (λ s. acting_at key texts depth s line rest) (acting_at_settles key (record s { acted = suc s.acted }) line rest)

  first_settles : (s : State) (line : Line) (rest : List Line) → Settles texts depth (room s.acted) (testing s line rest)
  first_settles s line rest = testing_settles s line rest (λ e lines. tries_settles (room (suc s.acted)) (record s { acted = suc s.acted }) lines (omega arith))

  requested_settles : (key : Key) (s : State) (line : Line) (rest : List Line) → Settles texts depth (room s.acted) (requested_at key texts depth s line rest)
  requested_settles If s line rest = first_settles s line rest
  requested_settles Ifdef s line rest = first_settles s line rest
  requested_settles Ifndef s line rest = first_settles s line rest
  requested_settles key s line rest = acting_settles key s line rest

  -- ---- what follows lines that have acted

  resumed_settles : (after : After) (s : State) → Settles texts depth (room s.acted + weight_of after) (resumed after s)
  resumed_settles branch s = goes_settles s 0
  resumed_settles included s = goes_settles s 0
  resumed_settles (turn place name height turns body) s = turning_settles (with_values s (cut_back s.values name height)) place name body (next_value turns)
  resumed_settles (fetched place name arguments heights) s = entering_settles s place name arguments heights (procedure_of s.procedures name)
  resumed_settles (called heights) s = goes_settles (with_values s (all_cut s.values heights)) 0

-- ---- frames end

abbrev Ends : Texts → List Running → State → Type 0
Ends texts frames s = (e : Ending) × Continues texts frames s e

module _ (texts : Texts) (f : Running) (fs : List Running) (s : State) (others : (frames : List Running) (next : State) → room next.acted + weights frames < room s.acted + weights (f ∷ fs) → Ends texts frames next) where
  over_end : is_over f.lines ≡ true → (q : Request) → ((e : Ending) → Does texts (depth_of fs) q e → Does texts (depth_of fs) (resumed f.after s) e) → IsLess (room s.acted + weight_of f.after) q → Ends texts (f ∷ fs) s
  over_end o (finished (goes next)) led less = let h = others fs next (omega arith) in (h.0, over_goes texts f fs s o next h.0 led h.1)
  over_end o (finished (ends next)) led less = (ends next, over_ends texts f fs s o next led)
  over_end o (finished (stops stop)) led less = (stops stop, over_stops texts f fs s o stop led)
  over_end o (inside next lines after) led less = let h = others (record { lines = lines; after = after; depth = depth_in after (depth_of fs) } ∷ fs) next (omega arith) in (h.0, over_enters texts f fs s o next lines after h.0 led h.1)
  over_end o (tries next lines) led less = absurd less

  abbrev Others : Line → List Line → Running
  Others line rest = record { lines = behind line rest; after = f.after; depth = f.depth }

  line_end : (line : Line) (rest : List Line) → f.lines ≡ line ∷ rest → is_closer (key_in line) ≡ false → (q : Request)
      → ((e : Ending) → Does texts f.depth q e → Does texts f.depth (requested texts f.depth s line rest) e) → IsLess (room s.acted) q → Ends texts (f ∷ fs) s
  line_end line rest at opens (finished (goes next)) led less = let h = others (Others line rest ∷ fs) next (omega arith) in (h.0, line_goes texts f fs s line rest at opens next h.0 led h.1)
  line_end line rest at opens (finished (ends next)) led less = (ends next, line_ends texts f fs s line rest at opens next led)
  line_end line rest at opens (finished (stops stop)) led less = (stops stop, line_stops texts f fs s line rest at opens stop led)
  line_end line rest at opens (inside next lines after) led less = let h = others (record { lines = lines; after = after; depth = depth_in after f.depth } ∷ Others line rest ∷ fs) next (omega arith) in (h.0, line_enters texts f fs s line rest at opens next lines after h.0 led h.1)
  line_end line rest at opens (tries next lines) led less = absurd less

  first_ends : Ends texts (f ∷ fs) s
  first_ends = by_lines f.lines refl
    where
      ends_over : is_over f.lines ≡ true → Ends texts (f ∷ fs) s
      ends_over o = let h = resumed_settles texts (depth_of fs) f.after s in over_end o h.asked h.led h.less

      by_key : (line : Line) (rest : List Line) → f.lines ≡ line ∷ rest → (closes : Bool) → is_closer (key_in line) ≡ closes → Ends texts (f ∷ fs) s
      by_key line rest at true e = ends_over (ap is_over at ∙ e)
      by_key line rest at false e = let h = requested_settles texts f.depth (key_in line) s line rest in line_end line rest at e h.asked h.led h.less

      by_lines : (lines : List Line) → f.lines ≡ lines → Ends texts (f ∷ fs) s
      by_lines [] at = ends_over (ap is_over at)
      by_lines (line ∷ rest) at = by_key line rest at (is_closer (key_in line)) refl

frames_end : (texts : Texts) (n : ℕ) (frames : List Running) (s : State) → room s.acted + weights frames ≤ n → Ends texts frames s
frames_end texts n [] s le = (goes s, refl)
frames_end texts zero (f ∷ fs) s le = absurd (omega (arith, weighs f.after))
frames_end texts (suc n) (f ∷ fs) s le = first_ends texts f fs s (λ frames next less. frames_end texts n frames next (omega arith))

-- ---- a file

-- lines of one frame end as the frame does
single_acts : (texts : Texts) (s : State) (lines : List Line) → Ends texts (record { lines = lines; after = branch; depth = 0 } ∷ []) s → (e : Ending) × Acts texts 0 s lines e
single_acts texts s lines h = (h.1.0, h.1.1)

lines_exist : (texts : Texts) (file bytes : List ℕ) (taken : Result (List Line) (Cause × ℕ)) → (x : Expansion) × AreExpanded texts file bytes taken x
lines_exist texts file bytes (Err bad) = (refusal (refused bad.0 (record { file = file; line = bad.1 })), refl)
lines_exist texts file bytes (Ok lines) =
    let h = single_acts texts (begun file) lines (frames_end texts (room 0 + 1) (record { lines = lines; after = branch; depth = 0 } ∷ []) (begun file) (omega arith)) in
    (concluded file bytes h.0, (h.0, h.1, refl))

long_exists : (long : Bool) (P : Expansion → Type 0) (z : Expansion) → (x : Expansion) × P x → (x : Expansion) × MatchBool long (x ≡ z) (P x)
long_exists true P z h = (z, refl)
long_exists false P z h = h

text_exists : (texts : Texts) (file : List ℕ) (found : Option (List ℕ)) → (x : Expansion) × IsTextExpanded texts file found x
text_exists texts file None = (missing, refl)
text_exists texts file (Some bytes) = long_exists (nat_lt longest_text (length bytes)) (AreExpanded texts file bytes (taken_up file 0 bytes)) (refusal (too_long file)) (lines_exist texts file bytes (taken_up file 0 bytes))

pub expanded_exists : (texts : Texts) (file : List ℕ) → (x : Expansion) × IsExpanded texts file x
expanded_exists texts file = text_exists texts file (text_of texts file)
