-- A text whose length stops the preprocessor is longer than a text may be.
use Rattle.std.proofs.Common.{◌≡◌, ◌<◌, ℕ, suc, ◌==◌, Bool, true, false, cond, List, [], ◌∷◌, ◌++◌, length, codes, Option, Some, None, IsSomeAnd, MatchBool, Result, Ok, Err, nat_lt, nat_le, refl, sym, subst, arith}
use Rattle.std.proofs.lemmas.Bool.Decides.{nat_tests}
use Rattle.form_base.specs.declared.cause.Cause.{Cause}
use Rattle.form_base.specs.declared.cause.Cause.TheVariants.{BadInstruction, LineLimit, UnknownProcedure, MissingText, WrongArguments, CallDepth}
use Rattle.form_lines.specs.Program.{most_lines, after_blanks, begins_with_end}
use Rattle.form_outside.specs.Texts.{Texts, text_of}
use Rattle.form_preproc.specs.Block.{Line, key_in, taken_up}
use Rattle.form_preproc.specs.Bytes.{trimmed, is_name}
use Rattle.form_preproc.specs.Expansion.{most_calls, Place, Stored, State, Ending, goes, ends, stops, refused, too_long, After, branch, included, turn, fetched, called, Request, finished, inside, tries, Acts, over, further, broken, Does, done, tried, returned, left, place_of, given, formed, counted, stopped, prepared, instructed, with_values, handing, handed_on, defined, redefined, undefined, procedure_of, storing, nothing_behind, reading, fetching_in, fetching, with_arguments, fitting, entering, deeper, calling_in, calling, including, turning_in, turning, loop_of, looping, choosing, truth_at, testing, trying_at, trying, alone_at, acting_at, acting, requested_at, requested, behind, resumed, depth_in, begun, missing, refusal, concluded, AreExpanded, IsTextExpanded, IsExpanded, longest_text}
use Rattle.form_preproc.specs.Instruction.{definition, procedure_head, call_head, included_name, next_value}
use Rattle.form_preproc.specs.Key.{behind_key}
use Rattle.form_preproc.specs.Variables.{Heights, pushed, uncovered, cut_back, heights_of, height_of}
use Rattle.form_preproc.specs.declared.instruction.Head.{Head}
use Rattle.form_preproc.specs.declared.turns.Turns.{Turns}
use Rattle.form_preproc.specs.declared.key.Key.{Key}
use Rattle.form_preproc.specs.declared.key.Key.TheVariants as key

abbrev pub IsLong : Texts → List ℕ → Type 0
IsLong texts name = IsSomeAnd (text_of texts name) (λ text. longest_text < length text)

-- only a text that is too long stops what ends so for its length
abbrev IsRight : Texts → Ending → Type 0
IsRight texts (goes s) = Unit {0}
IsRight texts (ends s) = Unit {0}
IsRight texts (stops (refused cause place)) = Unit {0}
IsRight texts (stops (too_long name)) = IsLong texts name

abbrev AsksRight : Texts → Request → Type 0
AsksRight texts (finished e) = IsRight texts e
AsksRight texts (inside s lines after) = Unit {0}
AsksRight texts (tries s lines) = Unit {0}

longer : (n : ℕ) → nat_lt longest_text n ≡ true → longest_text < n
longer n e = grind (arith, nat_tests)

module _ (texts : Texts) where
  of_given : {X : Type 0} (place : Place) (r : Result X Cause) (rest : X → Request) → ((x : X) → AsksRight texts (rest x)) → AsksRight texts (given place r rest)
  of_given place (Ok x) rest h = h x
  of_given place (Err cause) rest h = tt

  of_formed : {X : Type 0} (place : Place) (o : Option X) (rest : X → Request) → ((x : X) → AsksRight texts (rest x)) → AsksRight texts (formed place o rest)
  of_formed place (Some x) rest h = h x
  of_formed place None rest h = tt

  of_instructed : (s : State) (line : Line) (rest : List ℕ → Request) → ((text : List ℕ) → AsksRight texts (rest text)) → AsksRight texts (instructed s line rest)
  of_instructed s line rest h = of_given (place_of line) (prepared s.values line.text) (λ text. rest (behind_key (key_in line) text)) (λ text. h (behind_key (key_in line) text))

  -- where a test decides between these
  either : (b : Bool) (p q : Request) → AsksRight texts p → AsksRight texts q → AsksRight texts (cond b p q)
  either true p q h k = h
  either false p q h k = k

  of_counted : (s : State) (place : Place) (rest : State → Request) → ((s : State) → AsksRight texts (rest s)) → AsksRight texts (counted s place rest)
  of_counted s place rest h =
      let more : State = record s { acted = suc s.acted } in
      either (nat_le most_lines s.acted) (stopped place LineLimit) (rest more) tt (h more)

  of_deeper : (depth : ℕ) (place : Place) (rest : Request) → AsksRight texts rest → AsksRight texts (deeper depth place rest)
  of_deeper depth place rest h = either (nat_le most_calls depth) (stopped place CallDepth) rest tt h

  of_handing : (s : State) (text : List ℕ) → AsksRight texts (handing s text)
  of_handing s text = either (begins_with_end (after_blanks text)) (finished (ends s)) (finished (goes s)) tt tt

  of_undefined : (s : State) (place : Place) (name : List ℕ) → AsksRight texts (undefined s place name)
  of_undefined s place name = either (is_name name) (finished (goes (with_values s (uncovered s.values name)))) (stopped place BadInstruction) tt tt

  of_choosing : (s : State) (rest : List Line) (holds : Bool) → AsksRight texts (choosing s rest holds)
  of_choosing s rest true = tt
  of_choosing s rest false = tt

  of_nothing : (s : State) (place : Place) (text : List ℕ) → AsksRight texts (nothing_behind s place text)
  of_nothing s place [] = tt
  of_nothing s place (c ∷ cs) = tt

  -- ---- texts, calls, loops

  of_reading : (s : State) (name : List ℕ) (after : After) (r : Result (List Line) (Cause × ℕ)) → AsksRight texts (reading s name after r)
  of_reading s name after (Ok lines) = tt
  of_reading s name after (Err bad) = tt

  of_length : (long : Bool) (name bytes : List ℕ) (rest : Request) → text_of texts name ≡ Some bytes → nat_lt longest_text (length bytes) ≡ long → AsksRight texts rest
      → AsksRight texts (cond long (finished (stops (too_long name))) rest)
  of_length true name bytes rest e long h = subst (λ (here : Option (List ℕ)). IsSomeAnd here (λ text. longest_text < length text)) (sym e) (longer (length bytes) long)
  of_length false name bytes rest e long h = h

  of_found : (here : Option (List ℕ)) (s : State) (name : List ℕ) (absent : Request) (after : After) → text_of texts name ≡ here → AsksRight texts absent → AsksRight texts (fetching_in here s name absent after)
  of_found None s name absent after e h = h
  of_found (Some bytes) s name absent after e h =
      let more : State = record s { texts = s.texts ++ name ∷ [] } in
      let taken = taken_up name (length s.texts) bytes in
      of_length (nat_lt longest_text (length bytes)) name bytes (reading more name after taken) e refl (of_reading more name after taken)

  of_fetching : (s : State) (name : List ℕ) (absent : Request) (after : After) → AsksRight texts absent → AsksRight texts (fetching texts s name absent after)
  of_fetching s name absent after h = of_found (text_of texts name) s name absent after refl h

  of_entering : (s : State) (place : Place) (name : List ℕ) (arguments : List (List ℕ)) (heights : Heights) (o : Option Stored) → AsksRight texts (entering s place name arguments heights o)
  of_entering s place name arguments heights None = tt
  of_entering s place name arguments heights (Some p) =
      let fit = fitting p.parameters arguments in
      either (length p.parameters == length fit) (inside (with_values s (with_arguments s.values p.parameters fit)) p.body (called heights)) (stopped place WrongArguments) tt tt

  of_calling_in : (s : State) (place : Place) (head : Head) (o : Option Stored) → AsksRight texts (calling_in texts s place head o)
  of_calling_in s place head (Some p) = of_entering s place head.name head.parts (heights_of s.values) (Some p)
  of_calling_in s place head None =
      of_fetching s (head.name ++ codes ".prc") (stopped place (UnknownProcedure head.name)) (fetched place head.name head.parts (heights_of s.values)) tt

  of_calling : (depth : ℕ) (s : State) (place : Place) (head : Head) → AsksRight texts (calling texts depth s place head)
  of_calling depth s place head =
      let known = procedure_of s.procedures head.name in
      of_deeper depth place (calling_in texts s place head known) (of_calling_in s place head known)

  of_including : (depth : ℕ) (s : State) (place : Place) (name : List ℕ) → AsksRight texts (including texts depth s place name)
  of_including depth s place name =
      let absent = stopped place (MissingText name) in
      of_deeper depth place (fetching texts s name absent included) (of_fetching s name absent included tt)

  of_turning : (s : State) (place : Place) (name : List ℕ) (body : List Line) (o : Option (List ℕ × Turns)) → AsksRight texts (turning_in s place name body o)
  of_turning s place name body None = tt
  of_turning s place name body (Some (value, more)) =
      of_counted s place (λ s. inside (with_values s (pushed s.values name value)) body (turn place name (height_of s.values name) more body)) (λ s. tt)

  of_looping : (s : State) (line : Line) (body : List Line) → AsksRight texts (looping s line body)
  of_looping s line body =
      of_given (place_of line) (loop_of s.values line.text) (λ loop. turning s (place_of line) loop.name loop.turns body) (λ loop. of_turning s (place_of line) loop.name body (next_value loop.turns))

  -- ---- branches

  of_testing : (s : State) (line : Line) (rest : List Line) → AsksRight texts (testing s line rest)
  of_testing s line rest =
      of_counted s (place_of line) (λ s. given (place_of line) (truth_at (key_in line) s.values line.text) (choosing s rest))
      (λ s. of_given (place_of line) (truth_at (key_in line) s.values line.text) (choosing s rest) (of_choosing s rest))

  of_trying_at : (k : Key) (s : State) (line : Line) (rest : List Line) → AsksRight texts (trying_at k s line rest)
  of_trying_at key.Elseif s line rest = of_testing s line rest
  of_trying_at key.Else s line rest = tt
  of_trying_at key.Plain s line rest = tt
  of_trying_at key.Do s line rest = tt
  of_trying_at key.If s line rest = tt
  of_trying_at key.Ifdef s line rest = tt
  of_trying_at key.Ifndef s line rest = tt
  of_trying_at key.Procedure s line rest = tt
  of_trying_at key.Enddo s line rest = tt
  of_trying_at key.Endif s line rest = tt
  of_trying_at key.Endprocedure s line rest = tt
  of_trying_at key.Define s line rest = tt
  of_trying_at key.Redefine s line rest = tt
  of_trying_at key.Undefine s line rest = tt
  of_trying_at key.Call s line rest = tt
  of_trying_at key.Include s line rest = tt
  of_trying_at key.Sign s line rest = tt
  of_trying_at key.Unknown s line rest = tt

  of_trying : (s : State) (lines : List Line) → AsksRight texts (trying s lines)
  of_trying s [] = tt
  of_trying s (line ∷ rest) = of_trying_at (key_in line) s line rest

  -- ---- a line

  of_alone : (k : Key) (s : State) (line : Line) (rest : List Line) → AsksRight texts (alone_at k s line rest)
  of_alone key.Plain s line rest =
      of_given (place_of line) (prepared s.values line.text) (handed_on s line) (λ text. of_handing (record s { handed = s.handed ++ record { spot = line.spot; text = text } ∷ [] }) text)
  of_alone key.Sign s line rest = of_instructed s line (λ text. nothing_behind s (place_of line) (trimmed text)) (λ text. of_nothing s (place_of line) (trimmed text))
  of_alone key.Define s line rest =
      of_instructed s line (λ text. formed (place_of line) (definition (trimmed text)) (defined s)) (λ text. of_formed (place_of line) (definition (trimmed text)) (defined s) (λ d. tt))
  of_alone key.Redefine s line rest =
      of_instructed s line (λ text. formed (place_of line) (definition (trimmed text)) (redefined s)) (λ text. of_formed (place_of line) (definition (trimmed text)) (redefined s) (λ d. tt))
  of_alone key.Undefine s line rest = of_instructed s line (λ text. undefined s (place_of line) (trimmed text)) (λ text. of_undefined s (place_of line) (trimmed text))
  of_alone key.Procedure s line rest =
      of_instructed s line (λ text. formed (place_of line) (procedure_head (trimmed text)) (storing s rest)) (λ text. of_formed (place_of line) (procedure_head (trimmed text)) (storing s rest) (λ head. tt))
  of_alone key.Do s line rest = of_looping s line rest
  of_alone key.Unknown s line rest = of_instructed s line (λ text. stopped (place_of line) BadInstruction) (λ text. tt)
  of_alone key.If s line rest = tt
  of_alone key.Ifdef s line rest = tt
  of_alone key.Ifndef s line rest = tt
  of_alone key.Elseif s line rest = tt
  of_alone key.Else s line rest = tt
  of_alone key.Enddo s line rest = tt
  of_alone key.Endif s line rest = tt
  of_alone key.Endprocedure s line rest = tt
  of_alone key.Call s line rest = tt
  of_alone key.Include s line rest = tt

  of_acting : (k : Key) (depth : ℕ) (s : State) (line : Line) (rest : List Line) → AsksRight texts (acting_at k texts depth s line rest)
  of_acting key.Call depth s line rest =
      of_instructed s line (λ text. formed (place_of line) (call_head (trimmed text)) (calling texts depth s (place_of line)))
      (λ text. of_formed (place_of line) (call_head (trimmed text)) (calling texts depth s (place_of line)) (of_calling depth s (place_of line)))
  of_acting key.Include depth s line rest =
      of_instructed s line (λ text. formed (place_of line) (included_name text) (including texts depth s (place_of line)))
      (λ text. of_formed (place_of line) (included_name text) (including texts depth s (place_of line)) (of_including depth s (place_of line)))
  of_acting key.Plain depth s line rest = of_alone key.Plain s line rest
  of_acting key.Sign depth s line rest = of_alone key.Sign s line rest
  of_acting key.Define depth s line rest = of_alone key.Define s line rest
  of_acting key.Redefine depth s line rest = of_alone key.Redefine s line rest
  of_acting key.Undefine depth s line rest = of_alone key.Undefine s line rest
  of_acting key.Procedure depth s line rest = of_alone key.Procedure s line rest
  of_acting key.Do depth s line rest = of_alone key.Do s line rest
  of_acting key.Unknown depth s line rest = of_alone key.Unknown s line rest
  of_acting key.If depth s line rest = tt
  of_acting key.Ifdef depth s line rest = tt
  of_acting key.Ifndef depth s line rest = tt
  of_acting key.Elseif depth s line rest = tt
  of_acting key.Else depth s line rest = tt
  of_acting key.Enddo depth s line rest = tt
  of_acting key.Endif depth s line rest = tt
  of_acting key.Endprocedure depth s line rest = tt

  of_line : (k : Key) (depth : ℕ) (s : State) (line : Line) (rest : List Line) → AsksRight texts (acting k texts depth s line rest)
  of_line k depth s line rest = of_counted s (place_of line) (λ s. acting_at k texts depth s line rest) (λ s. of_acting k depth s line rest)

  of_requested_at : (k : Key) (depth : ℕ) (s : State) (line : Line) (rest : List Line) → AsksRight texts (requested_at k texts depth s line rest)
  of_requested_at key.If depth s line rest = of_testing s line rest
  of_requested_at key.Ifdef depth s line rest = of_testing s line rest
  of_requested_at key.Ifndef depth s line rest = of_testing s line rest
  of_requested_at key.Plain depth s line rest = of_line key.Plain depth s line rest
  of_requested_at key.Do depth s line rest = of_line key.Do depth s line rest
  of_requested_at key.Procedure depth s line rest = of_line key.Procedure depth s line rest
  of_requested_at key.Elseif depth s line rest = of_line key.Elseif depth s line rest
  of_requested_at key.Else depth s line rest = of_line key.Else depth s line rest
  of_requested_at key.Enddo depth s line rest = of_line key.Enddo depth s line rest
  of_requested_at key.Endif depth s line rest = of_line key.Endif depth s line rest
  of_requested_at key.Endprocedure depth s line rest = of_line key.Endprocedure depth s line rest
  of_requested_at key.Define depth s line rest = of_line key.Define depth s line rest
  of_requested_at key.Redefine depth s line rest = of_line key.Redefine depth s line rest
  of_requested_at key.Undefine depth s line rest = of_line key.Undefine depth s line rest
  of_requested_at key.Call depth s line rest = of_line key.Call depth s line rest
  of_requested_at key.Include depth s line rest = of_line key.Include depth s line rest
  of_requested_at key.Sign depth s line rest = of_line key.Sign depth s line rest
  of_requested_at key.Unknown depth s line rest = of_line key.Unknown depth s line rest

  of_resumed : (after : After) (s : State) → AsksRight texts (resumed after s)
  of_resumed branch s = tt
  of_resumed included s = tt
  of_resumed (turn place name height turns body) s = of_turning (with_values s (cut_back s.values name height)) place name body (next_value turns)
  of_resumed (fetched place name arguments heights) s = of_entering s place name arguments heights (procedure_of s.procedures name)
  of_resumed (called heights) s = tt

  mutual
    of_acts : (depth : ℕ) (s : State) (lines : List Line) (e : Ending) → Acts texts depth s lines e → IsRight texts e
    of_acts depth s lines e (over _ _ _ o) = tt
    of_acts depth s lines e (further _ _ line rest next _ c h t) = of_acts depth next (behind line rest) e t
    of_acts depth s lines e (broken _ _ line rest _ c g h) = of_does depth (requested texts depth s line rest) e h (of_requested_at (key_in line) depth s line rest)

    of_does : (depth : ℕ) (r : Request) (e : Ending) → Does texts depth r e → AsksRight texts r → IsRight texts e
    of_does depth r e (done _ _) right = right
    of_does depth r e (tried _ s lines _ h) right = of_does depth (trying s lines) e h (of_trying s lines)
    of_does depth r e (returned _ s lines after next _ h t) right = of_does depth (resumed after next) e t (of_resumed after next)
    of_does depth r e (left _ s lines after _ g h) right = of_acts (depth_in after depth) s lines e h

  -- a name that stops all is that of a text that is too long
  of_conclusion : (file bytes name : List ℕ) (e : Ending) → IsRight texts e → refusal (too_long name) ≡ concluded file bytes e → IsLong texts name
  of_conclusion file bytes name (goes s) right e = absurd cc
  of_conclusion file bytes name (ends s) right e = absurd cc
  of_conclusion file bytes name (stops (refused cause place)) right e = absurd cc
  of_conclusion file bytes name (stops (too_long other)) right e = let same : other ≡ name = cc in subst (λ (n : List ℕ). IsLong texts n) same right

  of_lines : (file bytes name : List ℕ) (r : Result (List Line) (Cause × ℕ)) → AreExpanded texts file bytes r (refusal (too_long name)) → IsLong texts name
  of_lines file bytes name (Err bad) h = absurd cc
  of_lines file bytes name (Ok lines) h = of_conclusion file bytes name h.0 (of_acts 0 (begun file) lines h.0 h.1) h.2

  of_file_length : (long : Bool) (file bytes name : List ℕ) → text_of texts file ≡ Some bytes → nat_lt longest_text (length bytes) ≡ long
      → MatchBool long (refusal (too_long name) ≡ refusal (too_long file)) (AreExpanded texts file bytes (taken_up file 0 bytes) (refusal (too_long name))) → IsLong texts name
  of_file_length true file bytes name e long h =
      let same : file ≡ name = cc in
      subst (λ (n : List ℕ). IsLong texts n) same (subst (λ (here : Option (List ℕ)). IsSomeAnd here (λ text. longest_text < length text)) (sym e) (longer (length bytes) long))
  of_file_length false file bytes name e long h = of_lines file bytes name (taken_up file 0 bytes) h

  of_file : (file name : List ℕ) (here : Option (List ℕ)) → text_of texts file ≡ here → IsTextExpanded texts file here (refusal (too_long name)) → IsLong texts name
  of_file file name None e h = absurd cc
  of_file file name (Some bytes) e h = of_file_length (nat_lt longest_text (length bytes)) file bytes name e refl h

  pub is_long : (file name : List ℕ) → IsExpanded texts file (refusal (too_long name)) → IsLong texts name
  is_long file name h = of_file file name (text_of texts file) refl h

  -- ---- a file that is missing

  never_missing : (file bytes : List ℕ) (e : Ending) → missing ≡ concluded file bytes e → ⊥
  never_missing file bytes (goes s) e = cc
  never_missing file bytes (ends s) e = cc
  never_missing file bytes (stops stop) e = cc

  there : (long : Bool) (file bytes : List ℕ) (r : Result (List Line) (Cause × ℕ)) → MatchBool long (missing ≡ refusal (too_long file)) (AreExpanded texts file bytes r missing) → ⊥
  there true file bytes r h = cc
  there false file bytes (Err bad) h = cc
  there false file bytes (Ok lines) h = never_missing file bytes h.0 h.2

  of_missing : (file : List ℕ) (here : Option (List ℕ)) → IsTextExpanded texts file here missing → here ≡ None
  of_missing file None h = refl
  of_missing file (Some bytes) h = absurd (there (nat_lt longest_text (length bytes)) file bytes (taken_up file 0 bytes) h)

  pub is_missing : (file : List ℕ) → IsExpanded texts file missing → text_of texts file ≡ None
  is_missing file h = of_missing file (text_of texts file) h
