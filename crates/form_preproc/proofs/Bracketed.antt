-- The arguments of a call are parted at commas that stand outside of brackets.
use Rattle.std.proofs.Common.{◌≡◌, ℕ, Bool, true, false, if◌then◌else◌, List, [], ◌∷◌, ◌++◌, length, Option, Some, None, refl, sym, ap, ◌∙◌, subst, arith, append_assoc, append-nil}
use Rattle.std.specs.Prelude.{◌==◌, ◌||◌, ◌&&◌, option_and_then, option_map}
use Rattle.std.proofs.lemmas.Bool.{eqb-true, eq-eqb}
use Rattle.form_preproc.specs.Brackets.{IsBracketed, nothing, plain, within, IsOnePart, no_more, outside, inside}
use Rattle.form_preproc.specs.Bytes.{trimmed}
use Rattle.form_preproc.specs.Parts.{is_separator, is_opening, is_closing, closing_of, with_byte, with_part, closed, step, end_of, read, parted}
use Rattle.form_preproc.specs.declared.parts.Parting.TheVariants.{Arguments}
use Rattle.form_preproc.specs.declared.parts.Parts.{Parts}

-- ---- a byte

abbrev choice : Parts → ℕ → Bool → Bool → Bool → Option Parts
choice p c opens closes parts =
    if opens then Some (with_byte p c (closing_of c ∷ p.closings))
    else if closes then closed p c p.closings
    else if parts then Some (with_part p)
    else Some (with_byte p c p.closings)

chosen : (p : Parts) (c : ℕ) (opens closes parts : Bool) → is_opening p.parting c ≡ opens → is_closing p.parting c ≡ closes → (is_separator p.parting c && (length p.closings == 0)) ≡ parts
    → step p c ≡ choice p c opens closes parts
chosen p c opens closes parts e f g = λ i. choice p c (e i) (f i) (g i)

one_read : (p q : Parts) (c : ℕ) (text : List ℕ) → step p c ≡ Some q → read p (c ∷ text) ≡ read q text
unfolding read
one_read p q c text e = ap (λ r. option_and_then (λ next. read next text) r) e

-- the bracket that closes another one
closing_closes : (c : ℕ) → (is_opening Arguments (closing_of c) ≡ false) × (is_closing Arguments (closing_of c) ≡ true)
closing_closes c = by (c == 40) (c == 91)
  where
    by : (round square : Bool) → (is_opening Arguments (if round then 41 else (if square then 93 else 125)) ≡ false) × (is_closing Arguments (if round then 41 else (if square then 93 else 125)) ≡ true)
    by true square = (refl, refl)
    by false true = (refl, refl)
    by false false = (refl, refl)

opens_nothing : (c : ℕ) → is_closing Arguments c ≡ true → is_opening Arguments c ≡ false
opens_nothing c e = by (c == 41) (c == 93) (c == 125) refl refl refl e
  where
    is : (d : ℕ) → (c == d) ≡ true → is_opening Arguments d ≡ false → is_opening Arguments c ≡ false
    is d e h = subst (λ (x : ℕ). is_opening Arguments x ≡ false) (sym (eqb-true c d e)) h

    by : (round square brace : Bool) → (c == 41) ≡ round → (c == 93) ≡ square → (c == 125) ≡ brace → (round || (square || brace)) ≡ true → is_opening Arguments c ≡ false
    by true square brace f g h e = is 41 f refl
    by false true brace f g h e = is 93 g refl
    by false false true f g h e = is 125 h refl
    by false false false f g h e = absurd cc

-- a comma in brackets parts nothing
parts_nothing : (b : Bool) (k : ℕ) (ks : List ℕ) → (b && (length (k ∷ ks) == 0)) ≡ false
parts_nothing b k ks = by b (length (k ∷ ks) == 0) refl
  where
    by : (b none : Bool) → (length (k ∷ ks) == 0) ≡ none → (b && none) ≡ false
    by b true e = absurd (omega (arith, eqb-true (length (k ∷ ks)) 0 e))
    by true false e = refl
    by false false e = refl

-- ---- texts

abbrev at : List ℕ → List (List ℕ) → List ℕ → Parts
at part parts closings = record { parting = Arguments; closings = closings; part = part; parts = parts }

opened : (part : List ℕ) (parts : List (List ℕ)) (ks : List ℕ) (c : ℕ) (text : List ℕ) → is_opening Arguments c ≡ true → read (at part parts ks) (c ∷ text) ≡ read (at (part ++ c ∷ []) parts (closing_of c ∷ ks)) text
opened part parts ks c text e =
    one_read (at part parts ks) (at (part ++ c ∷ []) parts (closing_of c ∷ ks)) c text
    (chosen (at part parts ks) c true (is_closing Arguments c) (is_separator Arguments c && (length ks == 0)) e refl refl)

ended : (part : List ℕ) (parts : List (List ℕ)) (ks : List ℕ) (c : ℕ) (text : List ℕ) → read (at part parts (closing_of c ∷ ks)) (closing_of c ∷ text) ≡ read (at (part ++ closing_of c ∷ []) parts ks) text
ended part parts ks c text =
    let p = at part parts (closing_of c ∷ ks) in
    let closes = closing_closes c in
    let itself : (closing_of c == closing_of c) ≡ true = eq-eqb (closing_of c) (closing_of c) refl in
    one_read p (at (part ++ closing_of c ∷ []) parts ks) (closing_of c) text
    (chosen p (closing_of c) false true (is_separator Arguments (closing_of c) && (length (closing_of c ∷ ks) == 0)) closes.0 closes.1 refl
    ∙ ap (λ (b : Bool). if b then Some (with_byte p (closing_of c) ks) else None) itself)

put : (part : List ℕ) (parts : List (List ℕ)) (ks : List ℕ) (c : ℕ) (text : List ℕ) → is_opening Arguments c ≡ false → is_closing Arguments c ≡ false → (is_separator Arguments c && (length ks == 0)) ≡ false
    → read (at part parts ks) (c ∷ text) ≡ read (at (part ++ c ∷ []) parts ks) text
put part parts ks c text e f g = one_read (at part parts ks) (at (part ++ c ∷ []) parts ks) c text (chosen (at part parts ks) c false false false e f g)

regrouped : (part : List ℕ) (c : ℕ) (held : List ℕ) (k : ℕ) (text : List ℕ) → (((part ++ c ∷ []) ++ held) ++ k ∷ []) ++ text ≡ part ++ (c ∷ (held ++ k ∷ text))
regrouped part c held k text = simp append_assoc

within_read : (text : List ℕ) → IsBracketed text → (part : List ℕ) (parts : List (List ℕ)) (k : ℕ) (ks rest : List ℕ) → read (at part parts (k ∷ ks)) (text ++ rest) ≡ read (at (part ++ text) parts (k ∷ ks)) rest
within_read _ nothing part parts k ks rest = ap (λ (t : List ℕ). read (at t parts (k ∷ ks)) rest) (sym (append-nil part))
within_read _ (plain c text e f h) part parts k ks rest =
    put part parts (k ∷ ks) c (text ++ rest) e f (parts_nothing (is_separator Arguments c) k ks)
    ∙ within_read text h (part ++ c ∷ []) parts k ks rest
    ∙ ap (λ (t : List ℕ). read (at t parts (k ∷ ks)) rest) (append_assoc part (c ∷ []) text)
within_read _ (within c held text e g h) part parts k ks rest =
    ap (λ (t : List ℕ). read (at part parts (k ∷ ks)) (c ∷ t)) (append_assoc held (closing_of c ∷ text) rest)
    ∙ opened part parts (k ∷ ks) c (held ++ closing_of c ∷ (text ++ rest)) e
    ∙ within_read held g (part ++ c ∷ []) parts (closing_of c) (k ∷ ks) (closing_of c ∷ (text ++ rest))
    ∙ ended ((part ++ c ∷ []) ++ held) parts (k ∷ ks) c (text ++ rest)
    ∙ within_read text h (((part ++ c ∷ []) ++ held) ++ closing_of c ∷ []) parts k ks rest
    ∙ ap (λ (t : List ℕ). read (at t parts (k ∷ ks)) rest) (regrouped part c held (closing_of c) text)

part_read : (text : List ℕ) → IsOnePart text → (part : List ℕ) (parts : List (List ℕ)) (rest : List ℕ) → read (at part parts []) (text ++ rest) ≡ read (at (part ++ text) parts []) rest
part_read _ no_more part parts rest = ap (λ (t : List ℕ). read (at t parts []) rest) (sym (append-nil part))
part_read _ (outside c text e f g h) part parts rest =
    put part parts [] c (text ++ rest) e f (ap (λ (b : Bool). b && true) g)
    ∙ part_read text h (part ++ c ∷ []) parts rest
    ∙ ap (λ (t : List ℕ). read (at t parts []) rest) (append_assoc part (c ∷ []) text)
part_read _ (inside c held text e g h) part parts rest =
    ap (λ (t : List ℕ). read (at part parts []) (c ∷ t)) (append_assoc held (closing_of c ∷ text) rest)
    ∙ opened part parts [] c (held ++ closing_of c ∷ (text ++ rest)) e
    ∙ within_read held g (part ++ c ∷ []) parts (closing_of c) [] (closing_of c ∷ (text ++ rest))
    ∙ ended ((part ++ c ∷ []) ++ held) parts [] c (text ++ rest)
    ∙ part_read text h (((part ++ c ∷ []) ++ held) ++ closing_of c ∷ []) parts rest
    ∙ ap (λ (t : List ℕ). read (at t parts []) rest) (regrouped part c held (closing_of c) text)

-- ---- a part before others

abbrev before : List ℕ → Parts → Parts
before q p = record { parting = p.parting; closings = p.closings; part = p.part; parts = q ∷ p.parts }

closed_before : (q : List ℕ) (p : Parts) (c : ℕ) (ks : List ℕ) → closed (before q p) c ks ≡ option_map (before q) (closed p c ks)
closed_before q p c [] = refl
closed_before q p c (k ∷ ks) = by (c == k)
  where
    by : (same : Bool) → (if same then Some (with_byte (before q p) c ks) else None) ≡ option_map (before q) (if same then Some (with_byte p c ks) else None)
    by true = refl
    by false = refl

step_before : (q : List ℕ) (p : Parts) (c : ℕ) → step (before q p) c ≡ option_map (before q) (step p c)
step_before q p c = by (is_opening p.parting c) (is_closing p.parting c) (is_separator p.parting c && (length p.closings == 0))
  where
    by : (opens closes parts : Bool) → choice (before q p) c opens closes parts ≡ option_map (before q) (choice p c opens closes parts)
    by true closes parts = refl
    by false true parts = closed_before q p c p.closings
    by false false true = refl
    by false false false = refl

read_before : (q : List ℕ) (p : Parts) (text : List ℕ) → read (before q p) text ≡ option_map (before q) (read p text)
unfolding read
read_before q p [] = refl
read_before q p (c ∷ text) = ap (λ r. option_and_then (λ next. read next text) r) (step_before q p c) ∙ by (λ next. read_before q next text) (step p c)
  where
    by : ((next : Parts) → read (before q next) text ≡ option_map (before q) (read next text))
        → (o : Option Parts) → option_and_then (λ next. read next text) (option_map (before q) o) ≡ option_map (before q) (option_and_then (λ next. read next text) o)
    by others None = refl
    by others (Some next) = others next

end_before : (q : List ℕ) (o : Option Parts) → option_and_then end_of (option_map (before q) o) ≡ option_map (λ parts. q ∷ parts) (option_and_then end_of o)
end_before q None = refl
end_before q (Some p) = by (length p.closings == 0)
  where
    by : (none : Bool) → (if none then Some (with_part (before q p)).parts else None) ≡ option_map (λ parts. q ∷ parts) (if none then Some (with_part p).parts else None)
    by true = refl
    by false = refl

-- ---- what is parted

from_part : (text rest : List ℕ) → IsOnePart text → parted Arguments (text ++ rest) ≡ option_and_then end_of (read (at text [] []) rest)
from_part text rest h = ap (λ r. option_and_then end_of r) (part_read text h [] [] rest)

all_read : (p : Parts) → read p [] ≡ Some p
unfolding read
all_read p = refl

pub last_argument : (text : List ℕ) → IsOnePart text → parted Arguments text ≡ Some (trimmed text ∷ [])
last_argument text h = ap (λ (t : List ℕ). parted Arguments t) (sym (append-nil text)) ∙ from_part text [] h ∙ ap (λ r. option_and_then end_of r) (all_read (at text [] []))

pub first_argument : (text rest : List ℕ) → IsOnePart text → parted Arguments (text ++ 44 ∷ rest) ≡ option_map (λ parts. trimmed text ∷ parts) (parted Arguments rest)
first_argument text rest h =
    from_part text (44 ∷ rest) h
    ∙ ap (λ r. option_and_then end_of r) (one_read (at text [] []) (before (trimmed text) (at [] [] [])) 44 rest refl ∙ read_before (trimmed text) (at [] [] []) rest)
    ∙ end_before (trimmed text) (read (at [] [] []) rest)

none_read : (part : List ℕ) (parts : List (List ℕ)) (c : ℕ) (text : List ℕ) → step (at part parts []) c ≡ None → read (at part parts []) (c ∷ text) ≡ None
unfolding read
none_read part parts c text e = ap (λ r. option_and_then (λ next. read next text) r) e

pub stray_closing : (text rest : List ℕ) (c : ℕ) → IsOnePart text → is_closing Arguments c ≡ true → parted Arguments (text ++ c ∷ rest) ≡ None
stray_closing text rest c h e =
    from_part text (c ∷ rest) h
    ∙ ap (λ r. option_and_then end_of r) (none_read text [] c rest (chosen (at text [] []) c false true (is_separator Arguments c && true) (opens_nothing c e) e refl))

pub left_open : (text held : List ℕ) (c : ℕ) → IsOnePart text → is_opening Arguments c ≡ true → IsBracketed held → parted Arguments (text ++ c ∷ held) ≡ None
left_open text held c h e g =
    from_part text (c ∷ held) h
    ∙ ap (λ r. option_and_then end_of r) (opened text [] [] c held e ∙ ap (λ (t : List ℕ). read (at (text ++ c ∷ []) [] (closing_of c ∷ [])) t) (sym (append-nil held)) ∙ within_read held g (text ++ c ∷ []) [] (closing_of c) [] [] ∙ all_read (at ((text ++ c ∷ []) ++ held) [] (closing_of c ∷ [])))
