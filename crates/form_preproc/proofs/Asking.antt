-- What is asked for stays plain.
use Rattle.std.proofs.Common.{◌≡◌, ℕ, suc, cond, List, [], ◌∷◌, ◌++◌, length, drop, Option, Some, None, Result, Ok, Err, IfOk, IfSome, OnOk, sym, ap, ◌∙◌, subst}
use Rattle.std.specs.Prelude.{◌==◌, nat_le, All}
use Rattle.std.specs.List.{AllByRecursion}
use Rattle.std.specs.Str.{bytes_eq}
use Rattle.std.proofs.lemmas.List.Elements.{All-from_recursion}
use Rattle.form_base.specs.declared.cause.Cause.{Cause}
use Rattle.form_base.specs.declared.cause.Cause.TheVariants.{BadInstruction, LineLimit, WrongArguments}
use Rattle.form_calc.specs.Stack.{oldest}
use Rattle.form_lines.specs.Program.{most_lines, after_blanks, begins_with_end}
use Rattle.form_lines.specs.Text.{IsPlain}
use Rattle.form_preproc.proofs.Plain.{either, and_so, put_in_plain, calculated_plain, keyed_plain, trimmed_plain, all_dropped, definition_plain, without_empty_plain, call_plain, HeadIsPlain, looped_plain, next_plain, NextIsPlain, LoopIsPlain}
use Rattle.form_preproc.specs.Block.{Line, key_in}
use Rattle.form_preproc.specs.Braces.{calculated}
use Rattle.form_preproc.specs.Bytes.{trimmed, is_name}
use Rattle.form_preproc.specs.Expansion.{Place, Stored, State, Ending, goes, ends, stops, After, branch, included, turn, fetched, called, Request, finished, inside, tries, place_of, stopped, counted, given, formed, prepared, instructed, with_values, handing, handed_on, defined, redefined, undefined, storing, nothing_behind, procedure_of, with_arguments, fitting, entering, turning, turning_in, loop_of, alone_at, resumed, begun}
use Rattle.form_preproc.specs.Instruction.{definition, procedure_head, call_head, looped, next_value}
use Rattle.form_preproc.specs.Key.{behind_key}
use Rattle.form_preproc.specs.Machine.{state_of, calls_of, lines_of, after_of, IsDone}
use Rattle.form_preproc.specs.PlainTexts.{ArePlain}
use Rattle.form_preproc.specs.Plainness.{HandedArePlain, ValuesArePlain, MachineIsPlain, AfterIsPlain, IsPlainAction, FramesArePlain, ExpanderIsPlain}
use Rattle.form_preproc.specs.Putting.{put_in}
use Rattle.form_preproc.specs.Stepping.{IsFollowed}
use Rattle.form_preproc.specs.Variables.{Values, Heights, first_heights, with_stack, pushed, uncovered, cut_back, height_of}
use Rattle.form_preproc.specs.declared.expander.Expander.{Expander}
use Rattle.form_preproc.specs.declared.expander.Step.{Step}
use Rattle.form_preproc.specs.declared.frame.Action.{Action}
use Rattle.form_preproc.specs.declared.frame.Action.TheVariants.{Goes, Ends, Enters}
use Rattle.form_preproc.specs.declared.frame.After as frames
use Rattle.form_preproc.specs.declared.frame.After.TheVariants.{Branch, Included, Turn, Fetched, Called}
use Rattle.form_preproc.specs.declared.frame.Frame.{Frame}
use Rattle.form_preproc.specs.declared.handed.Handed.{Handed}
use Rattle.form_preproc.specs.declared.instruction.Head.{Head}
use Rattle.form_preproc.specs.declared.key.Key.{Key}
use Rattle.form_preproc.specs.declared.key.Key.TheVariants as key
use Rattle.form_preproc.specs.declared.machine.Machine.{Machine}
use Rattle.form_preproc.specs.declared.stop.ExpandError.{ExpandError}
use Rattle.form_preproc.specs.declared.stop.StopError.{StopError}
use Rattle.form_preproc.specs.declared.turns.Turns.{Turns}

abbrev pub StateIsPlain : State → Type 0
StateIsPlain s = ValuesArePlain s.values × HandedArePlain s.handed

abbrev FollowsPlainly : After → Type 0
FollowsPlainly branch = Unit {0}
FollowsPlainly included = Unit {0}
FollowsPlainly (turn place name height turns body) = ArePlain turns.texts
FollowsPlainly (fetched place name arguments heights) = ArePlain arguments
FollowsPlainly (called heights) = Unit {0}

abbrev EndsPlainly : Ending → Type 0
EndsPlainly (goes s) = StateIsPlain s
EndsPlainly (ends s) = StateIsPlain s
EndsPlainly (stops stop) = Unit {0}

abbrev pub RequestIsPlain : Request → Type 0
RequestIsPlain (finished e) = EndsPlainly e
RequestIsPlain (inside s lines after) = StateIsPlain s × FollowsPlainly after
RequestIsPlain (tries s lines) = StateIsPlain s

-- ---- requests

given_so : {X : Type 0} (P : X → Type 0) (place : Place) (r : Result X Cause) (f : X → Request) → IfOk r P → ((x : X) → P x → RequestIsPlain (f x)) → RequestIsPlain (given place r f)
given_so P place (Ok x) f p g = g x p
given_so P place (Err cause) f p g = tt

formed_so : {X : Type 0} (P : X → Type 0) (place : Place) (o : Option X) (f : X → Request) → IfSome o P → ((x : X) → P x → RequestIsPlain (f x)) → RequestIsPlain (formed place o f)
formed_so P place (Some x) f p g = g x p
formed_so P place None f p g = tt

formed_any : {X : Type 0} (place : Place) (o : Option X) (f : X → Request) → ((x : X) → RequestIsPlain (f x)) → RequestIsPlain (formed place o f)
formed_any place (Some x) f g = g x
formed_any place None f g = tt

counted_so : (s : State) (place : Place) (f : State → Request) → StateIsPlain s → ((n : State) → StateIsPlain n → RequestIsPlain (f n)) → RequestIsPlain (counted s place f)
counted_so s place f h g = either RequestIsPlain (nat_le most_lines s.acted) (stopped place LineLimit) (f (record s { acted = suc s.acted })) tt (g (record s { acted = suc s.acted }) h)

pub prepared_plain : (values : Values) (text : List ℕ) → ValuesArePlain values → IsPlain text → IfOk (prepared values text) IsPlain
prepared_plain values text v t = and_so IsPlain IsPlain (put_in values text) calculated (put_in_plain values text v t) (λ known k. calculated_plain known k)

instructed_so : (s : State) (line : Line) (f : List ℕ → Request) → StateIsPlain s → IsPlain line.text → ((text : List ℕ) → IsPlain text → RequestIsPlain (f text)) → RequestIsPlain (instructed s line f)
instructed_so s line f h t g =
    given_so IsPlain (place_of line) (prepared s.values line.text) (λ text. f (behind_key (key_in line) text)) (prepared_plain s.values line.text h.0 t) (λ text k. g (behind_key (key_in line) text) (keyed_plain (key_in line) text k))

-- ---- values

stack_plain : (values : Values) (name : List ℕ) (stack : List (List ℕ)) → ValuesArePlain values → ArePlain stack → ValuesArePlain (with_stack values name stack)
stack_plain values name stack v h =
    either ValuesArePlain (is_name name) (λ other. cond (bytes_eq name other) stack (values other)) values (λ other. either ArePlain (bytes_eq name other) stack (values other) h (v other)) v

pushed_plain : (values : Values) (name value : List ℕ) → ValuesArePlain values → IsPlain value → ValuesArePlain (pushed values name value)
pushed_plain values name value v p = stack_plain values name (value ∷ values name) v (p, v name)

uncovered_plain : (values : Values) (name : List ℕ) → ValuesArePlain values → ValuesArePlain (uncovered values name)
uncovered_plain values name v = stack_plain values name (drop 1 (values name)) v (all_dropped 1 (values name) (v name))

arguments_plain : (values : Values) (names arguments : List (List ℕ)) → ValuesArePlain values → ArePlain arguments → ValuesArePlain (with_arguments values names arguments)
unfolding with_arguments
arguments_plain values [] arguments v h = v
arguments_plain values (name ∷ names) [] v h = v
arguments_plain values (name ∷ names) (argument ∷ arguments) v h = arguments_plain (pushed values name argument) names arguments (pushed_plain values name argument v h.0) h.1

handed_last : (hs : List Handed) (h : Handed) → HandedArePlain hs → IsPlain h.text → HandedArePlain (hs ++ h ∷ [])
handed_last [] h hp p = (p, tt)
handed_last (x ∷ xs) h hp p = (hp.0, handed_last xs h hp.1 p)

-- ---- a line that asks for no text

handing_so : (s : State) (text : List ℕ) → StateIsPlain s → RequestIsPlain (handing s text)
handing_so s text h = either RequestIsPlain (begins_with_end (after_blanks text)) (finished (ends s)) (finished (goes s)) h h

handed_so : (s : State) (line : Line) (text : List ℕ) → StateIsPlain s → IsPlain text → RequestIsPlain (handed_on s line text)
handed_so s line text h t =
    let handed : Handed = record { spot = line.spot; text = text } in
    handing_so (record s { handed = s.handed ++ handed ∷ [] }) text (h.0, handed_last s.handed handed h.1 t)

nothing_so : (s : State) (place : Place) (text : List ℕ) → StateIsPlain s → RequestIsPlain (nothing_behind s place text)
nothing_so s place [] h = h
nothing_so s place (c ∷ cs) h = tt

abbrev SecondIsPlain : List ℕ × List ℕ → Type 0
SecondIsPlain x = IsPlain x.1

turning_in_so : (s : State) (place : Place) (name : List ℕ) (body : List Line) (o : Option (List ℕ × Turns)) → StateIsPlain s → IfSome o NextIsPlain → RequestIsPlain (turning_in s place name body o)
turning_in_so s place name body None h n = h
turning_in_so s place name body (Some x) h n =
    counted_so s place (λ m. inside (with_values m (pushed m.values name x.0)) body (turn place name (height_of m.values name) x.1 body)) h (λ m k. ((pushed_plain m.values name x.0 k.0 n.0, k.1), n.1))

turning_so : (s : State) (place : Place) (name : List ℕ) (turns : Turns) (body : List Line) → StateIsPlain s → ArePlain turns.texts → RequestIsPlain (turning s place name turns body)
turning_so s place name turns body h t = turning_in_so s place name body (next_value turns) h (next_plain turns t)

loop_plain : (values : Values) (text : List ℕ) → ValuesArePlain values → IsPlain text → IfOk (loop_of values text) LoopIsPlain
loop_plain values text v t =
    and_so IsPlain LoopIsPlain (put_in values text) (λ known. looped (trimmed (behind_key key.Do known))) (put_in_plain values text v t)
    (λ known k. looped_plain (trimmed (behind_key key.Do known)) (trimmed_plain (behind_key key.Do known) (keyed_plain key.Do known k)))

pub alone_plain : (k : Key) (s : State) (line : Line) (rest : List Line) → StateIsPlain s → IsPlain line.text → RequestIsPlain (alone_at k s line rest)
alone_plain key.Plain s line rest h t = given_so IsPlain (place_of line) (prepared s.values line.text) (handed_on s line) (prepared_plain s.values line.text h.0 t) (λ text p. handed_so s line text h p)
alone_plain key.Sign s line rest h t = instructed_so s line (λ text. nothing_behind s (place_of line) (trimmed text)) h t (λ text p. nothing_so s (place_of line) (trimmed text) h)
alone_plain key.Define s line rest h t =
    instructed_so s line (λ text. formed (place_of line) (definition (trimmed text)) (defined s)) h t
    (λ text p. formed_so SecondIsPlain (place_of line) (definition (trimmed text)) (defined s) (definition_plain (trimmed text) (trimmed_plain text p)) (λ d q. (pushed_plain s.values d.0 d.1 h.0 q, h.1)))
alone_plain key.Redefine s line rest h t =
    instructed_so s line (λ text. formed (place_of line) (definition (trimmed text)) (redefined s)) h t
    (λ text p. formed_so SecondIsPlain (place_of line) (definition (trimmed text)) (redefined s) (definition_plain (trimmed text) (trimmed_plain text p)) (λ d q. (pushed_plain (uncovered s.values d.0) d.0 d.1 (uncovered_plain s.values d.0 h.0) q, h.1)))
alone_plain key.Undefine s line rest h t =
    instructed_so s line (λ text. undefined s (place_of line) (trimmed text)) h t
    (λ text p. either RequestIsPlain (is_name (trimmed text)) (finished (goes (with_values s (uncovered s.values (trimmed text))))) (stopped (place_of line) BadInstruction) (uncovered_plain s.values (trimmed text) h.0, h.1) tt)
alone_plain key.Procedure s line rest h t =
    instructed_so s line (λ text. formed (place_of line) (procedure_head (trimmed text)) (storing s rest)) h t (λ text p. formed_any (place_of line) (procedure_head (trimmed text)) (storing s rest) (λ head. h))
alone_plain key.Do s line rest h t =
    given_so LoopIsPlain (place_of line) (loop_of s.values line.text) (λ loop. turning s (place_of line) loop.name loop.turns rest) (loop_plain s.values line.text h.0 t) (λ loop q. turning_so s (place_of line) loop.name loop.turns rest h q)
alone_plain key.Unknown s line rest h t = instructed_so s line (λ text. stopped (place_of line) BadInstruction) h t (λ text p. tt)
alone_plain _ s line rest h t = h

-- ---- what follows lines that have acted

fitting_plain : (parameters arguments : List (List ℕ)) → ArePlain arguments → ArePlain (fitting parameters arguments)
fitting_plain [] arguments h = without_empty_plain arguments h
fitting_plain (name ∷ names) arguments h = h

pub entering_plain : (s : State) (place : Place) (name : List ℕ) (arguments : List (List ℕ)) (heights : Heights) (o : Option Stored) → StateIsPlain s → ArePlain arguments → RequestIsPlain (entering s place name arguments heights o)
entering_plain s place name arguments heights None h a = tt
entering_plain s place name arguments heights (Some p) h a =
    let given = fitting p.parameters arguments in
    either RequestIsPlain (length p.parameters == length given) (inside (with_values s (with_arguments s.values p.parameters given)) p.body (called heights)) (stopped place WrongArguments)
    ((arguments_plain s.values p.parameters given h.0 (fitting_plain p.parameters arguments a), h.1), tt) tt

pub resumed_plain : (after : frames.After) (heights : Heights) (s : State) → AfterIsPlain after → StateIsPlain s → RequestIsPlain (resumed (after_of after heights) s)
resumed_plain Branch heights s a h = h
resumed_plain Included heights s a h = h
resumed_plain (Turn t) heights s a h =
    turning_so (with_values s (cut_back s.values t.name t.height)) _ t.name t.turns _ (stack_plain s.values t.name (oldest t.height (s.values t.name)) h.0 (all_dropped _ (s.values t.name) (h.0 t.name)), h.1) a
resumed_plain (Fetched f) heights s a h = entering_plain s _ f.name f.arguments heights (procedure_of s.procedures f.name) h a
resumed_plain Called heights s a h = ((λ name. all_dropped _ (s.values name) (h.0 name)), h.1)

-- ---- what is done then

follows_so : (after : frames.After) (heights : Heights) → FollowsPlainly (after_of after heights) → AfterIsPlain after
follows_so Branch heights h = tt
follows_so Included heights h = tt
follows_so (Turn t) heights h = h
follows_so (Fetched f) heights h = h
follows_so Called heights h = tt

pub done_plain : (r : Request) (result : Result Action StopError) (m : Machine) → RequestIsPlain r → IsDone r result m → IsPlainAction result m
done_plain r (Ok Goes) m h d = subst RequestIsPlain d h
done_plain r (Ok Ends) m h d = subst RequestIsPlain d h
done_plain r (Ok (Enters e)) m h d =
    let asked : RequestIsPlain (inside (state_of m) (lines_of e) (after_of e.after (first_heights (calls_of m)))) = subst RequestIsPlain d h in
    (asked.0, follows_so e.after (first_heights (calls_of m)) asked.1)
done_plain r (Err error) m h d = tt

-- the arguments of a call that a plain line writes
pub called_plain : (values : Values) (text known : List ℕ) (k : Key) (head : Head) → ValuesArePlain values → IsPlain text → prepared values text ≡ Ok known → call_head (trimmed (behind_key k known)) ≡ Some head → ArePlain head.parts
called_plain values text known k head v t is_known is_call =
    let p : IsPlain known = subst (λ (r : Result (List ℕ) Cause). IfOk r IsPlain) is_known (prepared_plain values text v t) in
    subst (λ (o : Option Head). IfSome o HeadIsPlain) is_call (call_plain (trimmed (behind_key k known)) (trimmed_plain (behind_key k known) (keyed_plain k known p)))

-- nothing is kept yet
pub begun_plain : (m : Machine) (file : List ℕ) → state_of m ≡ begun file → MachineIsPlain m
begun_plain m file e = subst StateIsPlain (sym e) ((λ name. tt), tt)

pub one_plain : (fs rest : List Frame) (f : Frame) → fs ≡ f ∷ rest → rest ≡ [] → AfterIsPlain f.entry.after → FramesArePlain fs
one_plain fs rest f pushed none h = subst FramesArePlain (sym (pushed ∙ ap (λ (xs : List Frame). f ∷ xs) none)) (h, tt)

-- what is entered is put before frames
pub followed_plain : (old new : Expander) (action : Action) (result : Result Step ExpandError) → IsFollowed old action result new → IsPlainAction {E = StopError} (Ok action) old.machine → FramesArePlain old.frames → OnOk result (ExpanderIsPlain new)
followed_plain old new Goes result followed p fs = rw (followed.0, followed.1) (p, fs)
followed_plain old new Ends result followed p fs = rw (followed.0, followed.1) (p, fs)
followed_plain old new (Enters e) (Ok done) followed p fs = rw followed.1 (p.0, (p.1, fs))
followed_plain old new (Enters e) (Err error) followed p fs = tt

by_recursion : (hs : List Handed) → HandedArePlain hs → AllByRecursion (λ (x : Handed). IsPlain x.text) hs
by_recursion [] h = tt
by_recursion (x ∷ xs) h = (h.0, by_recursion xs h.1)

pub all_handed : (hs : List Handed) → HandedArePlain hs → All (λ h. IsPlain h.text) hs
all_handed hs h = All-from_recursion (λ (x : Handed). IsPlain x.text) hs (by_recursion hs h)
