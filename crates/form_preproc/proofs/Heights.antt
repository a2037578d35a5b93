-- How many values variables have behind a call and behind a loop.
use Rattle.std.proofs.Common.{◌≡◌, ℕ, suc, ◌-◌, ◌≤◌, Bool, true, false, if◌then◌else◌, List, [], ◌∷◌, ◌++◌, length, Option, Some, None, Result, Ok, Err, refl, ap, ◌∙◌, subst, arith, le_refl, le_trans, length-append}
use Rattle.std.specs.Prelude.{◌==◌, nat_le, nat_lt, drop, codes}
use Rattle.std.specs.Str.{bytes_eq}
use Rattle.std.proofs.Math.Seq.{drop-append_seam}
use Rattle.std.proofs.lemmas.List.{length-drop}
use Rattle.std.proofs.lemmas.Slice.Eq.{bytes_eq-Decides}
use Rattle.form_base.specs.declared.cause.Cause.{Cause}
use Rattle.form_base.specs.declared.cause.Cause.TheVariants.{LineLimit, UnknownProcedure, WrongArguments, CallDepth}
use Rattle.form_outside.specs.Texts.{Texts, text_of}
use Rattle.form_calc.specs.Stack.{oldest}
use Rattle.form_lines.specs.Program.{most_lines}
use Rattle.form_preproc.specs.Block.{Line, taken_up}
use Rattle.form_preproc.specs.Bytes.{is_name}
use Rattle.form_preproc.specs.Expansion.{State, Ending, goes, ends, stops, Stored, Place, After, branch, included, turn, fetched, called, Request, finished, inside, tries, Does, done, tried, returned, left, refused, too_long, resumed, is_going, with_values, stopped, entering, with_arguments, fitting, procedure_of, calling, calling_in, fetching_in, reading, most_calls, longest_text, turning, turning_in}
use Rattle.form_preproc.specs.Instruction.{next_value}
use Rattle.form_preproc.specs.Variables.{Values, Heights, cut_back, all_cut, heights_of, height_of, pushed}
use Rattle.form_preproc.specs.declared.instruction.Head.{Head}
use Rattle.form_preproc.specs.declared.turns.Turns.{Turns}
use Rattle.form_preproc.proofs.Unique.{does_once}

-- ---- a stack that is cut

cut_height : (height : ℕ) (stack : List (List ℕ)) → length (oldest height stack) ≤ height
cut_height height stack = omega (arith, length-drop (length stack - height) stack)

-- what stood there before stays
pub oldest_stay : (new old : List (List ℕ)) → oldest (length old) (new ++ old) ≡ old
oldest_stay new old =
    let count : length (new ++ old) - length old ≡ length new = omega (arith, length-append new old) in
    ap (λ (n : ℕ). drop n (new ++ old)) count ∙ drop-append_seam new old

cut_name : (values : Values) (name : List ℕ) (height : ℕ) → height_of (cut_back values name height) name ≤ height
cut_name values name height = by (is_name name)
  where
    chosen : (same : Bool) → bytes_eq name name ≡ same → length (if same then oldest height (values name) else values name) ≤ height
    chosen true e = cut_height height (values name)
    chosen false e = let itself = (bytes_eq-Decides name name).1 refl in absurd cc

    by : (is : Bool) → (if is then length ((if is then (λ other. if bytes_eq name other then oldest height (values name) else values other) else values) name) else 0) ≤ height
    by true = chosen (bytes_eq name name) refl
    by false = omega arith

-- ---- what lines that act leave, by what follows them

abbrev AreWithin : Heights → Ending → Type 0
AreWithin heights (goes s) = (name : List ℕ) → heights_of s.values name ≤ heights name
AreWithin heights (ends s) = Unit {0}
AreWithin heights (stops stop) = Unit {0}

abbrev IsWithin : List ℕ → ℕ → Ending → Type 0
IsWithin name height (goes s) = height_of s.values name ≤ height
IsWithin name height (ends s) = Unit {0}
IsWithin name height (stops stop) = Unit {0}

lower : (name : List ℕ) (less height : ℕ) (e : Ending) → less ≤ height → IsWithin name less e → IsWithin name height e
lower name less height (goes s) le h = le_trans h le
lower name less height (ends s) le h = tt
lower name less height (stops stop) le h = tt

abbrev Leaves : After → Ending → Type 0
Leaves branch e = Unit {0}
Leaves included e = Unit {0}
Leaves (turn place name height turns body) e = IsWithin name height e
Leaves (fetched place name arguments heights) e = AreWithin heights e
Leaves (called heights) e = AreWithin heights e

abbrev IsLeft : Request → Ending → Type 0
IsLeft (finished x) e = Unit {0}
IsLeft (inside s lines after) e = Leaves after e
IsLeft (tries s lines) e = Unit {0}

module _ (texts : Texts) (depth : ℕ) where
  -- what is done with ends so
  ended : (x e : Ending) → Does texts depth (finished x) e → x ≡ e
  ended x e d = does_once texts depth (finished x) x (done depth x) e d

  turned : (s : State) (place : Place) (name : List ℕ) (body : List Line) (e : Ending) (next : Option (List ℕ × Turns)) → Does texts depth (turning_in s place name body next) e → IsLeft (turning_in s place name body next) e
      → IsWithin name (height_of s.values name) e
  turned s place name body e None d h = subst (IsWithin name (height_of s.values name)) (ended (goes s) e d) (le_refl (height_of s.values name))
  turned s place name body e (Some (value, more)) d h = by (nat_le most_lines s.acted) d h
    where
      by : (full : Bool)
          → Does texts depth (if full then stopped place LineLimit else inside (record s { acted = suc s.acted; values = pushed s.values name value }) body (turn place name (height_of s.values name) more body)) e
          → IsLeft (if full then stopped place LineLimit else inside (record s { acted = suc s.acted; values = pushed s.values name value }) body (turn place name (height_of s.values name) more body)) e
          → IsWithin name (height_of s.values name) e
      by true d h = subst (IsWithin name (height_of s.values name)) (ended (stops (refused LineLimit place)) e d) tt
      by false d h = h

  entered : (s : State) (place : Place) (name : List ℕ) (arguments : List (List ℕ)) (heights : Heights) (e : Ending) (stored : Option Stored)
      → Does texts depth (entering s place name arguments heights stored) e → IsLeft (entering s place name arguments heights stored) e → AreWithin heights e
  entered s place name arguments heights e None d h = subst (AreWithin heights) (ended (stops (refused (UnknownProcedure name) place)) e d) tt
  entered s place name arguments heights e (Some p) d h = by (length p.parameters == length (fitting p.parameters arguments)) d h
    where
      by : (fits : Bool)
          → Does texts depth (if fits then inside (with_values s (with_arguments s.values p.parameters (fitting p.parameters arguments))) p.body (called heights) else stopped place WrongArguments) e
          → IsLeft (if fits then inside (with_values s (with_arguments s.values p.parameters (fitting p.parameters arguments))) p.body (called heights) else stopped place WrongArguments) e
          → AreWithin heights e
      by true d h = h
      by false d h = subst (AreWithin heights) (ended (stops (refused WrongArguments place)) e d) tt

  resumed_leaves : (after : After) (next : State) (e : Ending) → Does texts depth (resumed after next) e → IsLeft (resumed after next) e → Leaves after e
  resumed_leaves branch next e d h = tt
  resumed_leaves included next e d h = tt
  resumed_leaves (turn place name height turns body) next e d h =
      let cut = with_values next (cut_back next.values name height) in
      lower name (height_of cut.values name) height e (cut_name next.values name height) (turned cut place name body e (next_value turns) d h)
  resumed_leaves (fetched place name arguments heights) next e d h = entered next place name arguments heights e (procedure_of next.procedures name) d h
  resumed_leaves (called heights) next e d h =
      subst (AreWithin heights) (ended (goes (with_values next (all_cut next.values heights))) e d) (λ name. cut_height (heights name) (next.values name))

broken_leaves : (after : After) (e : Ending) → is_going e ≡ false → Leaves after e
broken_leaves branch e g = tt
broken_leaves included e g = tt
broken_leaves (turn place name height turns body) (goes s) g = absurd cc
broken_leaves (turn place name height turns body) (ends s) g = tt
broken_leaves (turn place name height turns body) (stops stop) g = tt
broken_leaves (fetched place name arguments heights) (goes s) g = absurd cc
broken_leaves (fetched place name arguments heights) (ends s) g = tt
broken_leaves (fetched place name arguments heights) (stops stop) g = tt
broken_leaves (called heights) (goes s) g = absurd cc
broken_leaves (called heights) (ends s) g = tt
broken_leaves (called heights) (stops stop) g = tt

leaves : (texts : Texts) (depth : ℕ) (r : Request) (e : Ending) → Does texts depth r e → IsLeft r e
leaves texts depth r e (done _ _) = tt
leaves texts depth r e (tried _ s lines _ h) = tt
leaves texts depth r e (returned _ s lines after next _ h t) = resumed_leaves texts depth after next e t (leaves texts depth (resumed after next) e t)
leaves texts depth r e (left _ s lines after _ g h) = broken_leaves after e g

-- ---- behind a call, and behind a loop

module _ (texts : Texts) (depth : ℕ) (s after : State) (place : Place) where
  not_stopped : (cause : Cause) → Does texts depth (stopped place cause) (goes after) → ⊥
  not_stopped cause d = let same = ended texts depth (stops (refused cause place)) (goes after) d in cc

  module _ (head : Head) where
    abbrev Called : Request → Type 0
    Called r = Does texts depth r (goes after) → (name : List ℕ) → heights_of after.values name ≤ heights_of s.values name

    text_called : (file : List ℕ) (found : Option (List ℕ)) → Called (fetching_in found s file (stopped place (UnknownProcedure head.name)) (fetched place head.name head.parts (heights_of s.values)))
    text_called file None d = absurd (not_stopped (UnknownProcedure head.name) d)
    text_called file (Some bytes) d = by (nat_lt longest_text (length bytes)) (taken_up file (length s.texts) bytes) d
      where
        by : (long : Bool) (lines : Result (List Line) (Cause × ℕ))
            → Called (if long then finished (stops (too_long file)) else reading (record s { texts = s.texts ++ file ∷ [] }) file (fetched place head.name head.parts (heights_of s.values)) lines)
        by true lines d = let same = ended texts depth (stops (too_long file)) (goes after) d in absurd cc
        by false (Ok lines) d = leaves texts depth _ (goes after) d
        by false (Err refusal) d = let same = ended texts depth (stops (refused refusal.0 (record { file = file; line = refusal.1 }))) (goes after) d in absurd cc

    stored_called : (stored : Option Stored) → Called (calling_in texts s place head stored)
    stored_called (Some p) d = entered texts depth s place head.name head.parts (heights_of s.values) (goes after) (Some p) d (leaves texts depth _ (goes after) d)
    stored_called None d = let file = head.name ++ codes ".prc" in text_called file (text_of texts file) d

    pub heights_behind_call : Called (calling texts depth s place head)
    heights_behind_call d = by (nat_le most_calls depth) d
      where
        by : (deep : Bool) → Called (if deep then stopped place CallDepth else calling_in texts s place head (procedure_of s.procedures head.name))
        by true d = absurd (not_stopped CallDepth d)
        by false d = stored_called (procedure_of s.procedures head.name) d

  pub height_behind_loop : (name : List ℕ) (turns : Turns) (body : List Line) → Does texts depth (turning s place name turns body) (goes after) → height_of after.values name ≤ height_of s.values name
  height_behind_loop name turns body d = turned texts depth s place name body (goes after) (next_value turns) d (leaves texts depth (turning s place name turns body) (goes after) d)
