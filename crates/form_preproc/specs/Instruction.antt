-- What is written behind the keyword of an instruction.
use Rattle.std.specs.Prelude.{ℕ, ℤ, pos, int_lt, ◌==◌, ◌||◌, ◌&&◌, not, nat_le, Bool, true, false, if◌then◌else◌, List, [], ◌∷◌, length, take, drop, map, Option, Some, None, option_map, option_and_then, Result, Ok, Err}
use Rattle.std.specs.Fmt.{signed_decimal}
use Rattle.std.specs.List.{list_all, list_any, prefix_len}
use Rattle.form_base.specs.declared.cause.Cause.{Cause}
use Rattle.form_base.specs.declared.cause.Cause.TheVariants.{BadInstruction, CalcRange}
use Rattle.form_lines.specs.Program.{is_blank, after_blanks}
use Rattle.form_calc.specs.Number as number
use Rattle.form_preproc.specs.Bytes.{is_name, named, between, trimmed, is_sign, is_signed_number}
use Rattle.form_preproc.specs.Braces.{calculated}
use Rattle.form_preproc.specs.Parts.{parted}
use Rattle.form_preproc.specs.Putting.{and_then}
use Rattle.form_preproc.specs.declared.parts.Parting.TheVariants.{Arguments, Commas, CommasOrBars}
use Rattle.form_preproc.specs.declared.parts.Parting.{Parting}
use Rattle.form_preproc.specs.declared.instruction.Head.{Head}
use Rattle.form_preproc.specs.declared.turns.Turns.{Turns}
use Rattle.form_preproc.specs.declared.turns.Looped.{Looped}

-- what is written out of its form is no instruction
abbrev pub or_bad : {X : Type 0} → Option X → Result X Cause
or_bad None = Err BadInstruction
or_bad (Some x) = Ok x

-- ---- #define N "text": the text runs from the first to the last quote

abbrev pub defined_in : Option (List ℕ × List ℕ) → Option (List ℕ × List ℕ)
defined_in None = None
defined_in (Some (name, rest)) = option_map (λ value. (name, value)) (between 34 34 rest)

abbrev pub definition : List ℕ → Option (List ℕ × List ℕ)
definition text = defined_in (named text)

-- ---- #procedure P(A,B) and #call P(x,y)

abbrev pub parts_in : Parting → Option (List ℕ) → Option (List (List ℕ))
parts_in parting None = None
parts_in parting (Some inner) = parted parting inner

abbrev pub parts_behind : Parting → List ℕ → Option (List (List ℕ))
parts_behind parting [] = Some []
parts_behind parting (c ∷ cs) = parts_in parting (between 40 41 (c ∷ cs))

abbrev pub headed : Parting → Option (List ℕ × List ℕ) → Option Head
headed parting None = None
headed parting (Some (name, rest)) = option_map (λ parts. record { name = name; parts = parts }) (parts_behind parting rest)

-- a name and what stands in the parentheses behind it; nothing where there are none
abbrev pub head_of : Parting → List ℕ → Option Head
head_of parting text = headed parting (named text)

-- empty parentheses are no part at all
abbrev pub without_empty : List (List ℕ) → List (List ℕ)
without_empty ([] ∷ []) = []
without_empty parts = parts

abbrev pub are_names : Head → Option Head
are_names h = if list_all is_name (without_empty h.parts) then Some (record { name = h.name; parts = without_empty h.parts }) else None

-- a procedure's name and its parameters
abbrev pub procedure_head : List ℕ → Option Head
procedure_head text = option_and_then are_names (head_of Commas text)

-- the name of a procedure that is called, and the arguments
abbrev pub call_head : List ℕ → Option Head
call_head text = head_of Arguments text

-- ---- #ifdef N, with or without the quotes of N

abbrev pub name_or_none : List ℕ → Option (List ℕ)
name_or_none text = if is_name text then Some text else None

abbrev pub asked_in : List ℕ → Option (List ℕ) → Option (List ℕ)
asked_in text None = name_or_none text
asked_in text (Some inner) = name_or_none inner

abbrev pub asked_name : List ℕ → Option (List ℕ)
asked_name text = asked_in text (between 96 39 text)

-- ---- #include NAME

abbrev pub is_outside_quotes : ℕ → Bool
is_outside_quotes c = is_blank c || (c == 34)

-- a text that isn't empty, unless it is bad
abbrev pub unless_bad : Bool → List ℕ → Option (List ℕ)
unless_bad is_bad [] = None
unless_bad is_bad (c ∷ cs) = if is_bad then None else Some (c ∷ cs)

abbrev pub file_in : List ℕ → Option (List ℕ) → Option (List ℕ)
file_in text None = unless_bad (list_any is_outside_quotes text) text
file_in text (Some inner) = unless_bad (list_any (λ c. c == 34) inner) inner

abbrev pub file_name : List ℕ → Option (List ℕ)
file_name text = file_in text (between 34 34 text)

abbrev pub without_sign : List ℕ → List ℕ
without_sign [] = []
without_sign (c ∷ cs) = if is_sign c then cs else c ∷ cs

-- the name of a text, behind a sign that may follow the keyword directly
abbrev pub included_name : List ℕ → Option (List ℕ)
included_name text = file_name (trimmed (without_sign text))

-- ---- #do N=a,b,c and #do N={t1,t2}

-- what stands before the first `=` of a text, and what stands behind it and its blanks
abbrev pub before_equals : List ℕ → List ℕ
before_equals text = take (prefix_len (λ c. not (c == 61)) text) text

abbrev pub behind_equals : List ℕ → List ℕ
behind_equals text = after_blanks (drop 1 (drop (prefix_len (λ c. not (c == 61)) text) text))

abbrev pub is_brace : ℕ → Bool
is_brace c = (c == 123) || (c == 125)

abbrev pub without_brace : Option (List ℕ) → Option (List ℕ)
without_brace None = None
without_brace (Some inner) = if list_any is_brace inner then None else Some inner

-- what stands in braces, where a text is braces with no brace inside
abbrev pub listed : List ℕ → Option (List ℕ)
listed text = without_brace (between 123 125 text)

abbrev pub text_turns : List (List ℕ) → Turns
text_turns texts = record { texts = texts; is_counted = false; next = Some (pos 0); last = Some (pos 0); step = Some (pos 0) }

abbrev pub number_turns : Option ℤ → Option ℤ → Option ℤ → Turns
number_turns first last step = record { texts = []; is_counted = true; next = first; last = last; step = step }

abbrev pub looped_texts : List ℕ → Option (List (List ℕ)) → Result Looped Cause
looped_texts name None = Err BadInstruction
looped_texts name (Some texts) = Ok (record { name = name; turns = text_turns texts })

-- the numbers of a loop: each in range, and the step isn't 0
abbrev pub ranged : List ℕ → Option ℤ → Option ℤ → Option ℤ → Result Looped Cause
ranged name (Some first) (Some last) (Some step) = if number.is_zero step then Err BadInstruction else Ok (record { name = name; turns = number_turns (Some first) (Some last) (Some step) })
ranged name (Some first) (Some last) None = Err CalcRange
ranged name (Some first) None step = Err CalcRange
ranged name None last step = Err CalcRange

abbrev pub counted_parts : List ℕ → List (List ℕ) → Result Looped Cause
counted_parts name (first ∷ last ∷ []) =
    if is_signed_number first && is_signed_number last
    then ranged name (number.number_of first) (number.number_of last) (Some (pos 1)) else Err BadInstruction
counted_parts name (first ∷ last ∷ step ∷ []) =
    if is_signed_number first && (is_signed_number last && is_signed_number step)
    then ranged name (number.number_of first) (number.number_of last) (number.number_of step) else Err BadInstruction
counted_parts name _ = Err BadInstruction

-- a loop has a name
abbrev pub over_texts : List ℕ → List ℕ → Result Looped Cause
over_texts name inner = if is_name name then looped_texts name (parted CommasOrBars inner) else Err BadInstruction

abbrev pub over_numbers : List ℕ → List ℕ → Result Looped Cause
over_numbers name text = if is_name name then and_then (or_bad (parted Commas text)) (counted_parts name) else Err BadInstruction

abbrev pub looped_from : List ℕ → Option (List ℕ) → Result Looped Cause
looped_from text None = over_numbers (trimmed (before_equals text)) (behind_equals text)
looped_from text (Some inner) = over_texts (trimmed (before_equals text)) inner

abbrev pub looped_or : List ℕ → Option (List ℕ) → Result Looped Cause
looped_or text None = and_then (calculated text) (λ known. looped_from known (listed (behind_equals known)))
looped_or text (Some inner) = and_then (calculated (before_equals text)) (λ known. over_texts (trimmed known) inner)

-- A loop's variable and its values. Braces directly behind `=`, up to the last byte and with no brace inside, hold a list as it is
-- written; all others are calculated, and then such braces may stand there.
abbrev pub looped : List ℕ → Result Looped Cause
looped text = looped_or text (listed (behind_equals text))

-- ---- the values of a loop, one after another

abbrev pub is_past : Option ℤ → Option ℤ → Option ℤ → Bool
is_past (Some n) (Some last) (Some step) = if int_lt step (pos 0) then int_lt n last else int_lt last n
is_past (Some n) (Some last) None = true
is_past (Some n) None step = true
is_past None last step = true

abbrev pub decimal_of : Option ℤ → List ℕ
decimal_of None = []
decimal_of (Some n) = signed_decimal n

abbrev pub next_text : Turns → List (List ℕ) → Option (List ℕ × Turns)
next_text t [] = None
next_text t (text ∷ texts) = Some (text, record { texts = texts; is_counted = t.is_counted; next = t.next; last = t.last; step = t.step })

abbrev pub next_number : Turns → Option (List ℕ × Turns)
next_number t =
    if is_past t.next t.last t.step then None
    else Some (decimal_of t.next, record { texts = t.texts; is_counted = t.is_counted; next = number.plus t.next t.step; last = t.last; step = t.step })

-- The next value and what is left behind it; none where all were taken. A number out of range is past every last one.
abbrev pub next_value : Turns → Option (List ℕ × Turns)
next_value t = if t.is_counted then next_number t else next_text t t.texts
