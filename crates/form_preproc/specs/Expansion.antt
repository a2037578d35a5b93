-- What the lines of texts come to: the lines that are handed on, or why that stops.
--
-- Lines act in order. What a line or a block asks for is a request: it is done with at once, or other lines act first,
-- as those of a branch, of a loop's turn, of an included text, of a procedure's text or of its body, and then something
-- more is asked for.
use Rattle.std.specs.Prelude.{◌≡◌, ◌⊎◌, ℕ, zero, suc, ◌==◌, nat_le, nat_lt, Bool, true, false, not, if◌then◌else◌, List, [], ◌∷◌, ◌++◌, length, drop, codes, Option, Some, None, is_some, Result, Ok, Err, MatchBool}
use Rattle.std.specs.Str.{bytes_eq}
use Rattle.form_base.specs.declared.cause.Cause.{Cause}
use Rattle.form_base.specs.declared.cause.Cause.TheVariants.{BadInstruction, CalcRange, LineLimit, UnknownProcedure, MissingText, WrongArguments, CallDepth, NoEnd}
use Rattle.form_lines.specs.Program.{most_lines, after_blanks, begins_with_end, last_line}
use Rattle.form_outside.specs.Texts.{Texts, text_of}
use Rattle.form_calc.specs.Condition.{truth_of}
use Rattle.form_preproc.specs.Block.{Line, key_in, is_opening, is_closer, to_closer, to_end, taken_up}
use Rattle.form_preproc.specs.Braces.{calculated}
use Rattle.form_preproc.specs.Bytes.{trimmed, is_name}
use Rattle.form_preproc.specs.Instruction.{definition, procedure_head, call_head, without_empty, asked_name, included_name, looped, next_value, or_bad}
use Rattle.form_preproc.specs.Key.{behind_key}
use Rattle.form_preproc.specs.Putting.{and_then, put_in, unless_long}
use Rattle.form_preproc.specs.Variables.{Values, Heights, no_values, pushed, uncovered, cut_back, all_cut, heights_of, height_of, newest}
use Rattle.form_preproc.specs.declared.handed.Handed.{Handed}
use Rattle.form_preproc.specs.declared.instruction.Head.{Head}
use Rattle.form_preproc.specs.declared.key.Key.{Key}
use Rattle.form_preproc.specs.declared.key.Key.TheVariants.{Plain, Do, If, Ifdef, Ifndef, Procedure, Elseif, Else, Define, Redefine, Undefine, Call, Include, Sign, Unknown}
use Rattle.form_preproc.specs.declared.turns.Turns.{Turns}
use Rattle.form_preproc.specs.declared.turns.Looped.{Looped}

-- how many bytes a text may have, and how many calls and included texts may be open
abbrev pub longest_text : ℕ
longest_text = 16777216

abbrev pub most_calls : ℕ
most_calls = 64

-- where a refusal stands
pub record Place : Type 0 where
  pub file : List ℕ
  pub line : ℕ

-- why expansion stops: a refusal, or a text that is too long
pub data Stop : Type 0 where
  refused : Cause → Place → Stop
  too_long : List ℕ → Stop

-- a procedure that is stored: its parameters, and the lines from its first on
pub record Stored : Type 0 where
  pub parameters : List (List ℕ)
  pub body : List Line

-- What stands: the values of variables, the procedures, the names of the texts that were taken up, how many lines and turns acted, and what was handed on.
pub record State : Type 0 where
  pub values : Values
  pub procedures : List ℕ → Option Stored
  pub texts : List (List ℕ)
  pub acted : ℕ
  pub handed : List Handed

-- how lines end: all of them acted, one that ends the program was handed on, or they are refused
pub data Ending : Type 0 where
  goes : State → Ending
  ends : State → Ending
  stops : Stop → Ending

-- What follows lines that act: nothing behind a branch and an included text; a loop's next turn, for its variable with the
-- height that its stack had, the values that are left and the body; a call, once the text of its procedure has acted; the
-- end of a call, at which each stack is cut to its height before.
pub data After : Type 0 where
  branch : After
  included : After
  turn : Place → List ℕ → ℕ → Turns → List Line → After
  fetched : Place → List ℕ → List (List ℕ) → Heights → After
  called : Heights → After

-- what is asked for: nothing more, lines to act with what follows them, or the first branch of these parts that holds
pub data Request : Type 0 where
  finished : Ending → Request
  inside : State → List Line → After → Request
  tries : State → List Line → Request

abbrev pub place_of : Line → Place
place_of line = record { file = line.file; line = line.spot.line }

abbrev pub stopped : Place → Cause → Request
stopped place cause = finished (stops (refused cause place))

-- a line or a turn counts one, unless as many acted as may
abbrev pub counted : State → Place → (State → Request) → Request
counted s place rest = if nat_le most_lines s.acted then stopped place LineLimit else rest (record s { acted = suc s.acted })

abbrev pub given : {X : Type 0} → Place → Result X Cause → (X → Request) → Request
given place (Ok x) rest = rest x
given place (Err cause) rest = stopped place cause

abbrev pub formed : {X : Type 0} → Place → Option X → (X → Request) → Request
formed place (Some x) rest = rest x
formed place None rest = stopped place BadInstruction

-- variables are put in, and then braces are calculated
abbrev pub prepared : Values → List ℕ → Result (List ℕ) Cause
prepared values text = and_then (put_in values text) calculated

-- what stands behind the keyword then
abbrev pub instructed : State → Line → (List ℕ → Request) → Request
instructed s line rest = given (place_of line) (prepared s.values line.text) (λ text. rest (behind_key (key_in line) text))

abbrev pub with_values : State → Values → State
with_values s values = record s { values = values }

-- ---- a line is handed on

abbrev pub handing : State → List ℕ → Request
handing s text = if begins_with_end (after_blanks text) then finished (ends s) else finished (goes s)

abbrev pub handed_on : State → Line → List ℕ → Request
handed_on s line text = handing (record s { handed = s.handed ++ record { spot = line.spot; text = text } ∷ [] }) text

-- ---- variables and procedures

abbrev pub defined : State → List ℕ × List ℕ → Request
defined s d = finished (goes (with_values s (pushed s.values d.0 d.1)))

abbrev pub redefined : State → List ℕ × List ℕ → Request
redefined s d = finished (goes (with_values s (pushed (uncovered s.values d.0) d.0 d.1)))

abbrev pub undefined : State → Place → List ℕ → Request
undefined s place name = if is_name name then finished (goes (with_values s (uncovered s.values name))) else stopped place BadInstruction

abbrev pub with_procedure : (List ℕ → Option Stored) → List ℕ → Stored → List ℕ → Option Stored
with_procedure procedures name stored = if is_name name then (λ other. if bytes_eq name other then Some stored else procedures other) else procedures

-- the procedure of a name; what is no name has none
abbrev pub procedure_of : (List ℕ → Option Stored) → List ℕ → Option Stored
procedure_of procedures name = if is_name name then procedures name else None

abbrev pub storing : State → List Line → Head → Request
storing s body head = finished (goes (record s { procedures = with_procedure s.procedures head.name (record { parameters = head.parts; body = body }) }))

abbrev pub nothing_behind : State → Place → List ℕ → Request
nothing_behind s place [] = finished (goes s)
nothing_behind s place (c ∷ cs) = stopped place BadInstruction

-- ---- texts, calls

abbrev pub reading : State → List ℕ → After → Result (List Line) (Cause × ℕ) → Request
reading s name after (Ok lines) = inside s lines after
reading s name after (Err refusal) = stopped (record { file = name; line = refusal.1 }) refusal.0

-- a text is fetched and acts; this where there is none of that name
abbrev pub fetching_in : Option (List ℕ) → State → List ℕ → Request → After → Request
fetching_in None s name absent after = absent
fetching_in (Some bytes) s name absent after =
    if nat_lt longest_text (length bytes) then finished (stops (too_long name))
    else reading (record s { texts = s.texts ++ name ∷ [] }) name after (taken_up name (length s.texts) bytes)

abbrev pub fetching : Texts → State → List ℕ → Request → After → Request
fetching texts s name absent after = fetching_in (text_of texts name) s name absent after

-- parameters are defined, each with its argument
unfoldable pub with_arguments : Values → List (List ℕ) → List (List ℕ) → Values
with_arguments values (name ∷ names) (argument ∷ arguments) = with_arguments (pushed values name argument) names arguments
with_arguments values names arguments = values

-- empty parentheses are no argument of a procedure without parameters
abbrev pub fitting : List (List ℕ) → List (List ℕ) → List (List ℕ)
fitting [] arguments = without_empty arguments
fitting (name ∷ names) arguments = arguments

abbrev pub entering_with : State → Place → Stored → List (List ℕ) → Heights → Request
entering_with s place p arguments heights =
    if length p.parameters == length arguments then inside (with_values s (with_arguments s.values p.parameters arguments)) p.body (called heights)
    else stopped place WrongArguments

-- a stored procedure acts
abbrev pub entering : State → Place → List ℕ → List (List ℕ) → Heights → Option Stored → Request
entering s place name arguments heights None = stopped place (UnknownProcedure name)
entering s place name arguments heights (Some p) = entering_with s place p (fitting p.parameters arguments) heights

abbrev pub deeper : ℕ → Place → Request → Request
deeper depth place rest = if nat_le most_calls depth then stopped place CallDepth else rest

-- where a procedure isn't stored, its text acts first
abbrev pub calling_in : Texts → State → Place → Head → Option Stored → Request
calling_in texts s place head (Some p) = entering s place head.name head.parts (heights_of s.values) (Some p)
calling_in texts s place head None = fetching texts s (head.name ++ codes ".prc") (stopped place (UnknownProcedure head.name)) (fetched place head.name head.parts (heights_of s.values))

abbrev pub calling : Texts → ℕ → State → Place → Head → Request
calling texts depth s place head = deeper depth place (calling_in texts s place head (procedure_of s.procedures head.name))

abbrev pub including : Texts → ℕ → State → Place → List ℕ → Request
including texts depth s place name = deeper depth place (fetching texts s name (stopped place (MissingText name)) included)

-- ---- loops

abbrev pub turning_in : State → Place → List ℕ → List Line → Option (List ℕ × Turns) → Request
turning_in s place name body None = finished (goes s)
turning_in s place name body (Some (value, more)) =
    counted s place (λ s. inside (with_values s (pushed s.values name value)) body (turn place name (height_of s.values name) more body))

-- the next turn, if a value is left
abbrev pub turning : State → Place → List ℕ → Turns → List Line → Request
turning s place name turns body = turning_in s place name body (next_value turns)

-- a loop's variable and its values, with variables put in
abbrev pub loop_of : Values → List ℕ → Result Looped Cause
loop_of values text = and_then (put_in values text) (λ known. looped (trimmed (behind_key Do known)))

abbrev pub looping : State → Line → List Line → Request
looping s line body = given (place_of line) (loop_of s.values line.text) (λ loop. turning s (place_of line) loop.name loop.turns body)

-- ---- branches

abbrev pub choosing : State → List Line → Bool → Request
choosing s rest holds = if holds then inside s rest branch else tries s (to_closer key_in 0 rest)

abbrev pub judged : Option (Option Bool) → Result Bool Cause
judged None = Err BadInstruction
judged (Some None) = Err CalcRange
judged (Some (Some holds)) = Ok holds

abbrev pub condition_truth : Key → Values → List ℕ → Result Bool Cause
condition_truth key values text = and_then (prepared values text) (λ known. judged (truth_of (trimmed (behind_key key known))))

-- the name behind `#ifdef`: no variables are put in there
abbrev pub variable_asked : Key → List ℕ → Result (List ℕ) Cause
variable_asked key text = and_then (and_then (unless_long text) calculated) (λ known. or_bad (asked_name (trimmed (behind_key key known))))

-- whether the condition of a line holds, or its variable has a value, or hasn't
abbrev pub truth_at : Key → Values → List ℕ → Result Bool Cause
truth_at Ifdef values text = and_then (variable_asked Ifdef text) (λ name. Ok (is_some (newest values name)))
truth_at Ifndef values text = and_then (variable_asked Ifndef text) (λ name. Ok (not (is_some (newest values name))))
truth_at key values text = condition_truth key values text

-- The branch behind a line acts where it holds; else what follows that branch is tried.
abbrev pub testing : State → Line → List Line → Request
testing s line rest = counted s (place_of line) (λ s. given (place_of line) (truth_at (key_in line) s.values line.text) (choosing s rest))

abbrev pub trying_at : Key → State → Line → List Line → Request
trying_at Elseif s line rest = testing s line rest
trying_at Else s line rest = inside s rest branch
trying_at _ s line rest = finished (goes s)

-- the further part that begins with a line, or the end of its block
abbrev pub trying : State → List Line → Request
trying s [] = finished (goes s)
trying s (line ∷ rest) = trying_at (key_in line) s line rest

-- ---- a line acts

-- a line that asks for no text
abbrev pub alone_at : Key → State → Line → List Line → Request
alone_at Plain s line rest = given (place_of line) (prepared s.values line.text) (handed_on s line)
alone_at Sign s line rest = instructed s line (λ text. nothing_behind s (place_of line) (trimmed text))
alone_at Define s line rest = instructed s line (λ text. formed (place_of line) (definition (trimmed text)) (defined s))
alone_at Redefine s line rest = instructed s line (λ text. formed (place_of line) (definition (trimmed text)) (redefined s))
alone_at Undefine s line rest = instructed s line (λ text. undefined s (place_of line) (trimmed text))
alone_at Procedure s line rest = instructed s line (λ text. formed (place_of line) (procedure_head (trimmed text)) (storing s rest))
alone_at Do s line rest = looping s line rest
alone_at Unknown s line rest = instructed s line (λ text. stopped (place_of line) BadInstruction)
alone_at _ s line rest = finished (goes s)

abbrev pub acting_at : Key → Texts → ℕ → State → Line → List Line → Request
acting_at Call texts depth s line rest = instructed s line (λ text. formed (place_of line) (call_head (trimmed text)) (calling texts depth s (place_of line)))
acting_at Include texts depth s line rest = instructed s line (λ text. formed (place_of line) (included_name text) (including texts depth s (place_of line)))
acting_at key texts depth s line rest = alone_at key s line rest

-- each line that acts counts one
abbrev pub acting : Key → Texts → ℕ → State → Line → List Line → Request
acting key texts depth s line rest = counted s (place_of line) (λ s. acting_at key texts depth s line rest)

abbrev pub requested_at : Key → Texts → ℕ → State → Line → List Line → Request
requested_at If texts depth s line rest = testing s line rest
requested_at Ifdef texts depth s line rest = testing s line rest
requested_at Ifndef texts depth s line rest = testing s line rest
requested_at key texts depth s line rest = acting key texts depth s line rest

-- what a line, or the block that it begins, asks for; the rest stands behind it
abbrev pub requested : Texts → ℕ → State → Line → List Line → Request
requested texts depth s line rest = requested_at (key_in line) texts depth s line rest

-- what follows the line, or the block that it begins
abbrev pub behind : Line → List Line → List Line
behind line rest = if is_opening (key_in line) then drop 1 (to_end key_in 0 rest) else rest

-- what is asked for once lines have acted
abbrev pub resumed : After → State → Request
resumed branch s = finished (goes s)
resumed included s = finished (goes s)
resumed (turn place name height turns body) s = turning (with_values s (cut_back s.values name height)) place name turns body
resumed (fetched place name arguments heights) s = entering s place name arguments heights (procedure_of s.procedures name)
resumed (called heights) s = finished (goes (with_values s (all_cut s.values heights)))

-- an included text, a procedure's text and its body are one call deeper
abbrev pub depth_in : After → ℕ → ℕ
depth_in branch depth = depth
depth_in (turn place name height turns body) depth = depth
depth_in included depth = suc depth
depth_in (fetched place name arguments heights) depth = suc depth
depth_in (called heights) depth = suc depth

-- no line is left, or the block that the lines are in ends or goes on there
abbrev pub is_over : List Line → Bool
is_over [] = true
is_over (line ∷ rest) = is_closer (key_in line)

abbrev pub is_going : Ending → Bool
is_going (goes s) = true
is_going (ends s) = false
is_going (stops stop) = false

mutual
  -- From a state, with so many calls open, the lines end so: up to the end of their block they act in order, and the first that doesn't go on ends them all.
  pub data Acts (texts : Texts) : ℕ → State → List Line → Ending → Type 0 where
    over : (depth : ℕ) (s : State) (lines : List Line) → is_over lines ≡ true → Acts texts depth s lines (goes s)
    further : (depth : ℕ) (s : State) (line : Line) (rest : List Line) (next : State) (e : Ending) → is_closer (key_in line) ≡ false
        → Does texts depth (requested texts depth s line rest) (goes next) → Acts texts depth next (behind line rest) e → Acts texts depth s (line ∷ rest) e
    broken : (depth : ℕ) (s : State) (line : Line) (rest : List Line) (e : Ending) → is_closer (key_in line) ≡ false → is_going e ≡ false
        → Does texts depth (requested texts depth s line rest) e → Acts texts depth s (line ∷ rest) e

  -- With so many calls open, what is asked for ends so.
  pub data Does (texts : Texts) : ℕ → Request → Ending → Type 0 where
    done : (depth : ℕ) (e : Ending) → Does texts depth (finished e) e
    tried : (depth : ℕ) (s : State) (lines : List Line) (e : Ending) → Does texts depth (trying s lines) e → Does texts depth (tries s lines) e
    returned : (depth : ℕ) (s : State) (lines : List Line) (after : After) (next : State) (e : Ending) → Acts texts (depth_in after depth) s lines (goes next)
        → Does texts depth (resumed after next) e → Does texts depth (inside s lines after) e
    left : (depth : ℕ) (s : State) (lines : List Line) (after : After) (e : Ending) → is_going e ≡ false → Acts texts (depth_in after depth) s lines e
        → Does texts depth (inside s lines after) e

-- ---- a file

-- what a file comes to: its lines and the names of all texts in order, no file, or why that stops
pub data Expansion : Type 0 where
  expanded : List Handed → List (List ℕ) → Expansion
  missing : Expansion
  refusal : Stop → Expansion

-- nothing is defined, and the file is the one text
abbrev pub begun : List ℕ → State
begun file = record { values = no_values; procedures = λ name. None; texts = file ∷ []; acted = 0; handed = [] }

abbrev pub concluded : List ℕ → List ℕ → Ending → Expansion
concluded file bytes (goes s) = refusal (refused NoEnd (record { file = file; line = last_line bytes }))
concluded file bytes (ends s) = expanded s.handed s.texts
concluded file bytes (stops stop) = refusal stop

abbrev pub AreExpanded : Texts → List ℕ → List ℕ → Result (List Line) (Cause × ℕ) → Expansion → Type 0
AreExpanded texts file bytes (Err bad) x = x ≡ refusal (refused bad.0 (record { file = file; line = bad.1 }))
AreExpanded texts file bytes (Ok lines) x = (e : Ending) × Acts texts 0 (begun file) lines e × (x ≡ concluded file bytes e)

abbrev pub IsTextExpanded : Texts → List ℕ → Option (List ℕ) → Expansion → Type 0
IsTextExpanded texts file None x = x ≡ missing
IsTextExpanded texts file (Some bytes) x =
    MatchBool (nat_lt longest_text (length bytes)) (x ≡ refusal (too_long file)) (AreExpanded texts file bytes (taken_up file 0 bytes) x)

-- What the file of this name comes to.
abbrev pub IsExpanded : Texts → List ℕ → Expansion → Type 0
IsExpanded texts file x = IsTextExpanded texts file (text_of texts file) x
