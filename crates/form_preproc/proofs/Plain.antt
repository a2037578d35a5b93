-- Plain bytes stay plain: what is read from a plain line, with plain values put in, is plain.
use Rattle.std.proofs.Common.{◌≡◌, ◌+◌, ◌-◌, ◌*◌, ◌/◌, ◌%◌, ◌<◌, arith, ℕ, zero, suc, ℤ, pos, negsuc, Bool, true, false, cond, ◌&&◌, List, [], ◌∷◌, ◌++◌, length, take, drop, reverse, Option, Some, None, option_and_then, option_map, Result, Ok, Err, IfOk, IfSome, nat_lt, refl, sym, ap, ◌∙◌, subst}
use Rattle.std.specs.Prelude.{◌==◌, nat_le, not, slice_index}
use Rattle.std.specs.Fmt.{signed_decimal, decimal, digits, digits_onto, digit_glyph}
use Rattle.std.specs.List.{list_all, list_any, prefix_len, find}
use Rattle.std.specs.Char.{is_ascii_alphanumeric}
use Rattle.std.proofs.lemmas.List.Folds.{list_all-append}
use Rattle.std.proofs.lemmas.List.{reverse-append}
use Rattle.std.proofs.lemmas.Bool.Decides.{nat_tests}
use Rattle.form_base.specs.declared.cause.Cause.{Cause}
use Rattle.form_base.specs.declared.cause.Cause.TheVariants.{LineLimit, BadInstruction}
use Rattle.form_calc.specs.Calculation.{value_of}
use Rattle.form_calc.specs.Number as number
use Rattle.form_lines.specs.Program.{most_bytes, is_blank, after_blanks}
use Rattle.form_lines.specs.Text.{PhysicalLine, IsPlain, is_plain_byte, has_bad_byte, lines_but_commentary, kept_lines, unless_bad}
use Rattle.form_preproc.specs.Braces as braces
use Rattle.form_preproc.specs.Braces.{Braces}
use Rattle.form_preproc.specs.Bytes.{is_name, is_digit, is_signed_number, before_blanks, trimmed, named, between}
use Rattle.form_preproc.specs.Instruction.{defined_in, definition, parts_in, parts_behind, headed, head_of, call_head, without_empty, before_equals, behind_equals, without_brace, listed, looped_texts, ranged, counted_parts, over_texts, over_numbers, looped_from, looped_or, looped, or_bad, is_past, next_text, next_number, next_value, decimal_of, number_turns}
use Rattle.form_preproc.specs.Key.{key_length, behind_key}
use Rattle.form_preproc.specs.Parts as parts_of
use Rattle.form_preproc.specs.PlainTexts.{ArePlain, LinesArePlain}
use Rattle.form_preproc.specs.Plainness.{ValuesArePlain}
use Rattle.form_preproc.specs.Putting as putting
use Rattle.form_preproc.specs.Putting.{and_then, put_in}
use Rattle.form_preproc.specs.Variables.{Values, newest, first_of}
use Rattle.form_preproc.specs.declared.instruction.Head.{Head}
use Rattle.form_preproc.specs.declared.key.Key.{Key}
use Rattle.form_preproc.specs.declared.parts.Parting.{Parting}
use Rattle.form_preproc.specs.declared.parts.Parting.TheVariants.{Arguments, Commas, CommasOrBars}
use Rattle.form_preproc.specs.declared.parts.Parts.{Parts}
use Rattle.form_preproc.specs.declared.putting.Putting.{Putting}
use Rattle.form_preproc.specs.declared.turns.Looped.{Looped}
use Rattle.form_preproc.specs.declared.turns.Turns.{Turns}

-- ---- tests

split : (a b : Bool) → (a && b) ≡ true → (a ≡ true) × (b ≡ true)
split true true e = (refl, refl)
split true false e = absurd cc
split false true e = absurd cc
split false false e = absurd cc

join : (a b : Bool) → a ≡ true → b ≡ true → (a && b) ≡ true
join true true x y = refl
join true false x y = absurd cc
join false b x y = absurd cc

-- what is chosen by a test has what both have
pub either : {X : Type 0} (P : X → Type 0) (b : Bool) (x y : X) → P x → P y → P (cond b x y)
either P true x y p q = p
either P false x y p q = q

-- ---- lists of bytes

pub front : (c : ℕ) (cs : List ℕ) → IsPlain (c ∷ cs) → is_plain_byte c ≡ true
front c cs h = (split (is_plain_byte c) (list_all is_plain_byte cs) h).0

pub back : (c : ℕ) (cs : List ℕ) → IsPlain (c ∷ cs) → IsPlain cs
back c cs h = (split (is_plain_byte c) (list_all is_plain_byte cs) h).1

pub put_before : (c : ℕ) (cs : List ℕ) → is_plain_byte c ≡ true → IsPlain cs → IsPlain (c ∷ cs)
put_before c cs p h = join (is_plain_byte c) (list_all is_plain_byte cs) p h

pub appended : (xs ys : List ℕ) → IsPlain xs → IsPlain ys → IsPlain (xs ++ ys)
appended xs ys p q = list_all-append is_plain_byte xs ys ∙ join (list_all is_plain_byte xs) (list_all is_plain_byte ys) p q

pub dropped : (n : ℕ) (xs : List ℕ) → IsPlain xs → IsPlain (drop n xs)
dropped zero xs h = h
dropped (suc n) [] h = h
dropped (suc n) (x ∷ xs) h = dropped n xs (back x xs h)

pub taken : (n : ℕ) (xs : List ℕ) → IsPlain xs → IsPlain (take n xs)
taken zero xs h = refl
taken (suc n) [] h = refl
taken (suc n) (x ∷ xs) h = put_before x (take n xs) (front x xs h) (taken n xs (back x xs h))

pub reversed : (xs : List ℕ) → IsPlain xs → IsPlain (reverse xs)
reversed [] h = refl
reversed (x ∷ xs) h =
    subst (λ (ys : List ℕ). IsPlain ys) (sym (reverse-append (x ∷ []) xs)) (appended (reverse xs) (x ∷ []) (reversed xs (back x xs h)) (put_before x [] (front x xs h) refl))

pub behind_blanks : (xs : List ℕ) → IsPlain xs → IsPlain (after_blanks xs)
behind_blanks [] h = refl
behind_blanks (c ∷ cs) h = either IsPlain (is_blank c) (after_blanks cs) (c ∷ cs) (behind_blanks cs (back c cs h)) h

pub trimmed_plain : (xs : List ℕ) → IsPlain xs → IsPlain (trimmed xs)
trimmed_plain xs h = reversed (after_blanks (reverse (after_blanks xs))) (behind_blanks (reverse (after_blanks xs)) (reversed (after_blanks xs) (behind_blanks xs h)))

pub keyed_plain : (key : Key) (xs : List ℕ) → IsPlain xs → IsPlain (behind_key key xs)
keyed_plain key xs h = dropped (suc (key_length key)) (after_blanks xs) (behind_blanks xs h)

-- ---- lists of texts

pub with_last : (xs : List (List ℕ)) (x : List ℕ) → ArePlain xs → IsPlain x → ArePlain (xs ++ x ∷ [])
with_last [] x h p = (p, tt)
with_last (y ∷ ys) x h p = (h.0, with_last ys x h.1 p)

pub all_dropped : (n : ℕ) (xs : List (List ℕ)) → ArePlain xs → ArePlain (drop n xs)
all_dropped zero xs h = h
all_dropped (suc n) [] h = h
all_dropped (suc n) (x ∷ xs) h = all_dropped n xs h.1

first_plain : (xs : List (List ℕ)) → ArePlain xs → IfSome (first_of xs) IsPlain
first_plain [] h = tt
first_plain (x ∷ xs) h = h.0

newest_plain : (values : Values) (name : List ℕ) → ValuesArePlain values → IfSome (newest values name) IsPlain
newest_plain values name h = either (λ (o : Option (List ℕ)). IfSome o IsPlain) _ (first_of (values name)) None (first_plain (values name) (h name)) tt

-- ---- one step behind another

pub and_so : {X Y : Type 0} (P : X → Type 0) (Q : Y → Type 0) (r : Result X Cause) (f : X → Result Y Cause) → IfOk r P → ((x : X) → P x → IfOk (f x) Q) → IfOk (and_then r f) Q
and_so P Q (Ok x) f p g = g x p
and_so P Q (Err cause) f p g = tt

pub then_so : {X Y : Type 0} (P : X → Type 0) (Q : Y → Type 0) (o : Option X) (f : X → Option Y) → IfSome o P → ((x : X) → P x → IfSome (f x) Q) → IfSome (option_and_then f o) Q
then_so P Q (Some x) f p g = g x p
then_so P Q None f p g = tt

-- ---- variables are put in

abbrev PuttingIsPlain : Putting → Type 0
PuttingIsPlain p = ArePlain p.outer × IsPlain p.text

valued_plain : (name before : List ℕ) (outer : List (List ℕ)) (o : Option (List ℕ)) → IsPlain before → ArePlain outer → IfSome o IsPlain → IfOk (putting.valued name before outer o) PuttingIsPlain
valued_plain name before outer None p q h = tt
valued_plain name before outer (Some value) p q h = (q, appended before value p h)

closed_plain : (values : Values) (text : List ℕ) (outer : List (List ℕ)) → ValuesArePlain values → IsPlain text → ArePlain outer → IfOk (putting.closed values text outer) PuttingIsPlain
closed_plain values text [] v p q = (tt, appended text (39 ∷ []) p refl)
closed_plain values text (before ∷ outer) v p q = valued_plain text before outer (newest values text) q.0 q.1 (newest_plain values text v)

putting_step : (values : Values) (p : Putting) (byte : ℕ) → ValuesArePlain values → PuttingIsPlain p → is_plain_byte byte ≡ true → IfOk (putting.step values p byte) PuttingIsPlain
putting_step values p byte v h b =
    let ok = λ (r : Result Putting Cause). IfOk r PuttingIsPlain in
    either ok (byte == 96) _ _ ((h.1, h.0), refl) (either ok (byte == 39) _ _ (closed_plain values p.text p.outer v h.1 h.0) (h.0, appended p.text (byte ∷ []) h.1 (put_before byte [] b refl)))

putting_read : (values : Values) (p : Putting) (text : List ℕ) → ValuesArePlain values → PuttingIsPlain p → IsPlain text → IfOk (putting.read values p text) PuttingIsPlain
unfolding putting.read
putting_read values p [] v h t = h
putting_read values p (byte ∷ text) v h t =
    and_so PuttingIsPlain PuttingIsPlain (putting.step values p byte) (λ next. putting.read values next text) (putting_step values p byte v h (front byte text t)) (λ next q. putting_read values next text v q (back byte text t))

pub long_plain : (text : List ℕ) → IsPlain text → IfOk (putting.unless_long text) IsPlain
long_plain text h = either (λ (r : Result (List ℕ) Cause). IfOk r IsPlain) (nat_lt most_bytes (length text)) (Err LineLimit) (Ok text) tt h

end_plain : (text : List ℕ) (outer : List (List ℕ)) → IsPlain text → IfOk (putting.end_in text outer) IsPlain
end_plain text [] h = long_plain text h
end_plain text (before ∷ outer) h = tt

pub put_in_plain : (values : Values) (text : List ℕ) → ValuesArePlain values → IsPlain text → IfOk (put_in values text) IsPlain
put_in_plain values text v t = and_so PuttingIsPlain IsPlain (putting.read values putting.begun text) putting.end_of (putting_read values putting.begun text v (tt, refl) t) (λ p h. end_plain p.text p.outer h.1)

-- ---- numbers

glyph_plain : (d : ℕ) → d < 10 → is_plain_byte (digit_glyph false d) ≡ true
glyph_plain d h = grind (arith, nat_tests)

below_ten : (n : ℕ) → n % 10 < 10
below_ten n = omega arith

digits_plain : (k n : ℕ) (acc : List ℕ) → IsPlain acc → IsPlain (digits_onto k 10 false n acc)
digits_plain zero n acc h = h
digits_plain (suc k) n acc h =
    let more : IsPlain (digit_glyph false (n % 10) ∷ acc) = put_before (digit_glyph false (n % 10)) acc (glyph_plain (n % 10) (below_ten n)) h in
    either IsPlain (n / 10 == 0) _ _ more (digits_plain k (n / 10) (digit_glyph false (n % 10) ∷ acc) more)

decimal_plain : (n : ℕ) → IsPlain (decimal n)
unfolding digits
decimal_plain n = digits_plain 64 n [] refl

pub signed_plain : (z : ℤ) → IsPlain (signed_decimal z)
signed_plain (pos n) = decimal_plain n
signed_plain (negsuc n) = put_before 45 (decimal (suc n)) refl (decimal_plain (suc n))

-- ---- calculations

abbrev BracesArePlain : Braces → Type 0
BracesArePlain b = IsPlain b.done × IsPlain b.inside

all_done : (b : Braces) → BracesArePlain b → IsPlain (braces.end_of b)
all_done b h = either IsPlain b.is_open (b.done ++ 123 ∷ b.inside) b.done (appended b.done (123 ∷ b.inside) h.0 (put_before 123 b.inside refl h.1)) h.0

braces_valued : (text : List ℕ) (o : Option (Option ℤ)) → IsPlain text → IfOk (braces.valued text o) BracesArePlain
braces_valued text None h = tt
braces_valued text (Some None) h = tt
braces_valued text (Some (Some n)) h = (appended text (signed_decimal n) h (signed_plain n), refl)

braces_kept : (b : Braces) (byte : ℕ) → BracesArePlain b → is_plain_byte byte ≡ true → BracesArePlain (braces.kept b byte)
braces_kept b byte h p = (appended (braces.end_of b) (byte ∷ []) (all_done b h) (put_before byte [] p refl), refl)

braces_step : (b : Braces) (byte : ℕ) → BracesArePlain b → is_plain_byte byte ≡ true → IfOk (braces.step b byte) BracesArePlain
braces_step b byte h p =
    let ok = λ (r : Result Braces Cause). IfOk r BracesArePlain in
    let more : Braces = record { done = b.done; is_open = true; inside = b.inside ++ byte ∷ [] } in
    let rest : Result Braces Cause = cond (b.is_open && braces.is_calculable byte) (Ok more) (Ok (braces.kept b byte)) in
    let opens : BracesArePlain (braces.opened b) = (all_done b h, refl) in
    let grows : BracesArePlain more = (h.0, appended b.inside (byte ∷ []) h.1 (put_before byte [] p refl)) in
    either ok (byte == 123) (Ok (braces.opened b)) (cond (byte == 125) (braces.closed b) rest) opens
    (either ok (byte == 125) (braces.closed b) rest
    (either ok (b.is_open && list_any is_digit b.inside) (braces.valued b.done (value_of b.inside)) (Ok (braces.kept b 125)) (braces_valued b.done (value_of b.inside) h.0) (braces_kept b 125 h refl))
    (either ok (b.is_open && braces.is_calculable byte) (Ok more) (Ok (braces.kept b byte)) grows (braces_kept b byte h p)))

braces_read : (b : Braces) (text : List ℕ) → BracesArePlain b → IsPlain text → IfOk (braces.read b text) BracesArePlain
unfolding braces.read
braces_read b [] h t = h
braces_read b (byte ∷ text) h t =
    and_so BracesArePlain BracesArePlain (braces.step b byte) (λ next. braces.read next text) (braces_step b byte h (front byte text t)) (λ next q. braces_read next text q (back byte text t))

pub calculated_plain : (text : List ℕ) → IsPlain text → IfOk (braces.calculated text) IsPlain
calculated_plain text t = and_so BracesArePlain IsPlain (braces.read braces.begun text) (λ b. Ok (braces.end_of b)) (braces_read braces.begun text (refl, refl) t) (λ b h. all_done b h)

-- ---- what stands behind a keyword

abbrev SecondIsPlain : List ℕ × List ℕ → Type 0
SecondIsPlain x = IsPlain x.1

abbrev SomeSecond : Option (List ℕ × List ℕ) → Type 0
SomeSecond o = IfSome o SecondIsPlain

abbrev SomePlain : Option (List ℕ) → Type 0
SomePlain o = IfSome o IsPlain

named_plain : (text : List ℕ) → IsPlain text → SomeSecond (named text)
named_plain text h =
    let size : ℕ = prefix_len is_ascii_alphanumeric text in
    either SomeSecond (is_name (take size text)) (Some (take size text, after_blanks (drop size text))) None (behind_blanks (drop size text) (dropped size text h)) tt

between_plain : (opening closing : ℕ) (text : List ℕ) → IsPlain text → SomePlain (between opening closing text)
between_plain opening closing text h =
    either SomePlain (nat_le 2 (length text) && ((slice_index text 0 == opening) && (slice_index text (length text - 1) == closing))) (Some (take (length text - 2) (drop 1 text))) None
    (taken (length text - 2) (drop 1 text) (dropped 1 text h)) tt

second_of : (name : List ℕ) (o : Option (List ℕ)) → SomePlain o → SomeSecond (option_map (λ value. (name, value)) o)
second_of name None h = tt
second_of name (Some value) h = h

defined_plain : (o : Option (List ℕ × List ℕ)) → SomeSecond o → SomeSecond (defined_in o)
defined_plain None h = tt
defined_plain (Some d) h = second_of d.0 (between 34 34 d.1) (between_plain 34 34 d.1 h)

pub definition_plain : (text : List ℕ) → IsPlain text → SomeSecond (definition text)
definition_plain text h = defined_plain (named text) (named_plain text h)

-- ---- parts

abbrev PartsArePlain : Parts → Type 0
PartsArePlain p = IsPlain p.part × ArePlain p.parts

abbrev SomeParts : Option Parts → Type 0
SomeParts o = IfSome o PartsArePlain

abbrev SomeTexts : Option (List (List ℕ)) → Type 0
SomeTexts o = IfSome o ArePlain

byte_part : (p : Parts) (byte : ℕ) (closings : List ℕ) → PartsArePlain p → is_plain_byte byte ≡ true → PartsArePlain (parts_of.with_byte p byte closings)
byte_part p byte closings h b = (appended p.part (byte ∷ []) h.0 (put_before byte [] b refl), h.1)

end_part : (p : Parts) → PartsArePlain p → PartsArePlain (parts_of.with_part p)
end_part p h = (refl, with_last p.parts (trimmed p.part) h.1 (trimmed_plain p.part h.0))

closed_part : (p : Parts) (byte : ℕ) (closings : List ℕ) → PartsArePlain p → is_plain_byte byte ≡ true → SomeParts (parts_of.closed p byte closings)
closed_part p byte [] h b = tt
closed_part p byte (closing ∷ closings) h b = either SomeParts (byte == closing) _ None (byte_part p byte closings h b) tt

parts_step : (p : Parts) (byte : ℕ) → PartsArePlain p → is_plain_byte byte ≡ true → SomeParts (parts_of.step p byte)
parts_step p byte h b =
    let opened : Option Parts = Some (parts_of.with_byte p byte (parts_of.closing_of byte ∷ p.closings)) in
    let closes : Option Parts = parts_of.closed p byte p.closings in
    let last : Option Parts = cond (parts_of.is_separator p.parting byte && (length p.closings == 0)) (Some (parts_of.with_part p)) (Some (parts_of.with_byte p byte p.closings)) in
    either SomeParts (parts_of.is_opening p.parting byte) opened (cond (parts_of.is_closing p.parting byte) closes last) (byte_part p byte (parts_of.closing_of byte ∷ p.closings) h b)
    (either SomeParts (parts_of.is_closing p.parting byte) closes last (closed_part p byte p.closings h b)
    (either SomeParts (parts_of.is_separator p.parting byte && (length p.closings == 0)) (Some (parts_of.with_part p)) (Some (parts_of.with_byte p byte p.closings)) (end_part p h) (byte_part p byte p.closings h b)))

parts_read : (p : Parts) (text : List ℕ) → PartsArePlain p → IsPlain text → SomeParts (parts_of.read p text)
unfolding parts_of.read
parts_read p [] h t = h
parts_read p (byte ∷ text) h t =
    then_so PartsArePlain PartsArePlain (parts_of.step p byte) (λ next. parts_of.read next text) (parts_step p byte h (front byte text t)) (λ next q. parts_read next text q (back byte text t))

parted_plain : (parting : Parting) (text : List ℕ) → IsPlain text → SomeTexts (parts_of.parted parting text)
parted_plain parting text t =
    then_so PartsArePlain ArePlain (parts_of.read (parts_of.begun parting) text) parts_of.end_of (parts_read (parts_of.begun parting) text (refl, tt) t)
    (λ p h. either SomeTexts (length p.closings == 0) (Some (parts_of.with_part p).parts) None (end_part p h).1 tt)

parts_in_plain : (parting : Parting) (o : Option (List ℕ)) → SomePlain o → SomeTexts (parts_in parting o)
parts_in_plain parting None h = tt
parts_in_plain parting (Some inner) h = parted_plain parting inner h

parts_behind_plain : (parting : Parting) (rest : List ℕ) → IsPlain rest → SomeTexts (parts_behind parting rest)
parts_behind_plain parting [] h = tt
parts_behind_plain parting (c ∷ cs) h = parts_in_plain parting (between 40 41 (c ∷ cs)) (between_plain 40 41 (c ∷ cs) h)

abbrev pub HeadIsPlain : Head → Type 0
HeadIsPlain h = ArePlain h.parts

abbrev SomeHead : Option Head → Type 0
SomeHead o = IfSome o HeadIsPlain

with_name : (name : List ℕ) (o : Option (List (List ℕ))) → SomeTexts o → SomeHead (option_map (λ parts. record { name = name; parts = parts }) o)
with_name name None h = tt
with_name name (Some parts) h = h

headed_plain : (parting : Parting) (o : Option (List ℕ × List ℕ)) → SomeSecond o → SomeHead (headed parting o)
headed_plain parting None h = tt
headed_plain parting (Some d) h = with_name d.0 (parts_behind parting d.1) (parts_behind_plain parting d.1 h)

pub call_plain : (text : List ℕ) → IsPlain text → SomeHead (call_head text)
call_plain text h = headed_plain Arguments (named text) (named_plain text h)

pub without_empty_plain : (parts : List (List ℕ)) → ArePlain parts → ArePlain (without_empty parts)
without_empty_plain [] h = tt
without_empty_plain ([] ∷ []) h = tt
without_empty_plain ([] ∷ y ∷ ys) h = h
without_empty_plain ((c ∷ cs) ∷ ys) h = h

-- ---- loops

abbrev pub TurnsArePlain : Turns → Type 0
TurnsArePlain t = ArePlain t.texts

abbrev pub LoopIsPlain : Looped → Type 0
LoopIsPlain l = TurnsArePlain l.turns

abbrev OkLoop : Result Looped Cause → Type 0
OkLoop r = IfOk r LoopIsPlain

behind_equals_plain : (text : List ℕ) → IsPlain text → IsPlain (behind_equals text)
behind_equals_plain text h =
    let rest = drop (prefix_len (λ c. not (c == 61)) text) text in
    behind_blanks (drop 1 rest) (dropped 1 rest (dropped (prefix_len (λ c. not (c == 61)) text) text h))

before_equals_plain : (text : List ℕ) → IsPlain text → IsPlain (before_equals text)
before_equals_plain text h = taken (prefix_len (λ c. not (c == 61)) text) text h

without_brace_plain : (o : Option (List ℕ)) → SomePlain o → SomePlain (without_brace o)
without_brace_plain None h = tt
without_brace_plain (Some inner) h = either SomePlain _ None (Some inner) tt h

listed_plain : (text : List ℕ) → IsPlain text → SomePlain (listed text)
listed_plain text h = without_brace_plain (between 123 125 text) (between_plain 123 125 text h)

texts_plain : (name : List ℕ) (o : Option (List (List ℕ))) → SomeTexts o → OkLoop (looped_texts name o)
texts_plain name None h = tt
texts_plain name (Some texts) h = h

ranged_plain : (name : List ℕ) (first last step : Option ℤ) → OkLoop (ranged name first last step)
ranged_plain name (Some first) (Some last) (Some step) = either OkLoop (number.is_zero step) (Err BadInstruction) (Ok (record { name = name; turns = number_turns (Some first) (Some last) (Some step) })) tt tt
ranged_plain name (Some first) (Some last) None = tt
ranged_plain name (Some first) None step = tt
ranged_plain name None last step = tt

counted_plain : (name : List ℕ) (parts : List (List ℕ)) → OkLoop (counted_parts name parts)
counted_plain name [] = tt
counted_plain name (a ∷ []) = tt
counted_plain name (a ∷ b ∷ []) =
    either OkLoop (is_signed_number a && is_signed_number b) (ranged name (number.number_of a) (number.number_of b) (Some (pos 1))) (Err BadInstruction) (ranged_plain name (number.number_of a) (number.number_of b) (Some (pos 1))) tt
counted_plain name (a ∷ b ∷ c ∷ []) =
    either OkLoop (is_signed_number a && (is_signed_number b && is_signed_number c)) (ranged name (number.number_of a) (number.number_of b) (number.number_of c)) (Err BadInstruction)
    (ranged_plain name (number.number_of a) (number.number_of b) (number.number_of c)) tt
counted_plain name (a ∷ b ∷ c ∷ d ∷ ds) = tt

counted_so : (name : List ℕ) (o : Option (List (List ℕ))) → OkLoop (and_then (or_bad o) (counted_parts name))
counted_so name None = tt
counted_so name (Some parts) = counted_plain name parts

over_texts_plain : (name inner : List ℕ) → IsPlain inner → OkLoop (over_texts name inner)
over_texts_plain name inner h = either OkLoop (is_name name) (looped_texts name (parts_of.parted CommasOrBars inner)) (Err BadInstruction) (texts_plain name (parts_of.parted CommasOrBars inner) (parted_plain CommasOrBars inner h)) tt

over_numbers_plain : (name text : List ℕ) → OkLoop (over_numbers name text)
over_numbers_plain name text = either OkLoop (is_name name) (and_then (or_bad (parts_of.parted Commas text)) (counted_parts name)) (Err BadInstruction) (counted_so name (parts_of.parted Commas text)) tt

from_plain : (text : List ℕ) (o : Option (List ℕ)) → SomePlain o → OkLoop (looped_from text o)
from_plain text None h = over_numbers_plain (trimmed (before_equals text)) (behind_equals text)
from_plain text (Some inner) h = over_texts_plain (trimmed (before_equals text)) inner h

looped_or_plain : (text : List ℕ) (o : Option (List ℕ)) → IsPlain text → SomePlain o → OkLoop (looped_or text o)
looped_or_plain text None t h = and_so IsPlain LoopIsPlain (braces.calculated text) (λ known. looped_from known (listed (behind_equals known))) (calculated_plain text t)
    (λ known k. from_plain known (listed (behind_equals known)) (listed_plain (behind_equals known) (behind_equals_plain known k)))
looped_or_plain text (Some inner) t h = and_so IsPlain LoopIsPlain (braces.calculated (before_equals text)) (λ known. over_texts (trimmed known) inner) (calculated_plain (before_equals text) (before_equals_plain text t))
    (λ known k. over_texts_plain (trimmed known) inner h)

pub looped_plain : (text : List ℕ) → IsPlain text → IfOk (looped text) LoopIsPlain
looped_plain text t = looped_or_plain text (listed (behind_equals text)) t (listed_plain (behind_equals text) (behind_equals_plain text t))

abbrev pub NextIsPlain : List ℕ × Turns → Type 0
NextIsPlain x = IsPlain x.0 × TurnsArePlain x.1

decimal_of_plain : (o : Option ℤ) → IsPlain (decimal_of o)
decimal_of_plain None = refl
decimal_of_plain (Some n) = signed_plain n

next_text_plain : (t : Turns) (texts : List (List ℕ)) → ArePlain texts → IfSome (next_text t texts) NextIsPlain
next_text_plain t [] h = tt
next_text_plain t (text ∷ texts) h = h

pub next_plain : (t : Turns) → TurnsArePlain t → IfSome (next_value t) NextIsPlain
next_plain t h =
    let some = λ (o : Option (List ℕ × Turns)). IfSome o NextIsPlain in
    let more : Turns = record { texts = t.texts; is_counted = t.is_counted; next = number.plus t.next t.step; last = t.last; step = t.step } in
    let goes_on : NextIsPlain (decimal_of t.next, more) = (decimal_of_plain t.next, h) in
    either some t.is_counted (next_number t) (next_text t t.texts) (either some (is_past t.next t.last t.step) None (Some (decimal_of t.next, more)) tt goes_on) (next_text_plain t t.texts h)

-- ---- the lines of a text

none_bad : (b : Bool) (l : PhysicalLine) (rest : Option PhysicalLine) → list_all is_plain_byte l.text ≡ b → cond (has_bad_byte l) (Some l) rest ≡ None → (b ≡ true) × (rest ≡ None)
none_bad true l rest e h = (refl, subst (λ (b : Bool). cond (not b) (Some l) rest ≡ None) e h)
none_bad false l rest e h = let no_way : Some l ≡ None = subst (λ (b : Bool). cond (not b) (Some l) rest ≡ None) e h in absurd cc

without_bad : (ls : List PhysicalLine) → find has_bad_byte ls ≡ None → LinesArePlain ls
without_bad [] h = tt
without_bad (l ∷ ls) h =
    let both = none_bad (list_all is_plain_byte l.text) l (find has_bad_byte ls) refl h in
    (both.0, without_bad ls both.1)

unless_bad_plain : (o : Option PhysicalLine) (ls : List PhysicalLine) → find has_bad_byte ls ≡ o → IfOk (unless_bad o ls) LinesArePlain
unless_bad_plain None ls e = without_bad ls e
unless_bad_plain (Some l) ls e = tt

pub text_plain : (bytes : List ℕ) → IfOk (lines_but_commentary bytes) LinesArePlain
text_plain bytes = unless_bad_plain (find has_bad_byte (kept_lines bytes)) (kept_lines bytes) refl
