-- What putting in values does to a line, by where its quotes stand.
use Rattle.std.proofs.Common.{◌≡◌, ℕ, Bool, true, false, if◌then◌else◌, List, [], ◌∷◌, ◌++◌, Some, None, Result, Ok, Err, refl, sym, ap, ◌∙◌, append_assoc, append-nil}
use Rattle.std.specs.Prelude.{◌==◌, ◌||◌}
use Rattle.std.specs.List.{list_any}
use Rattle.std.proofs.lemmas.Bool.{or_from, or_parts, eqb-true}
use Rattle.form_base.specs.declared.cause.Cause.{Cause}
use Rattle.form_base.specs.declared.cause.Cause.TheVariants.{Unclosed, UnknownVar}
use Rattle.form_preproc.specs.Bytes.{HasNo}
use Rattle.form_preproc.specs.Putting.{and_then, unless_long, with_byte, with_text, AreNoQuotes, opened, valued, closed, step, end_of, begun, read, put_in}
use Rattle.form_preproc.specs.Variables.{Values, newest}
use Rattle.form_preproc.specs.declared.putting.Putting.{Putting}

-- what is read up to a place, within names that are open
abbrev at : List (List ℕ) → List ℕ → Putting
at outer text = record { outer = outer; text = text }

-- ---- texts one behind another

then_step : {X Y : Type 0} (r : Result X Cause) (f g : X → Result Y Cause) (k : Y → Result Y Cause) → ((x : X) → f x ≡ and_then (g x) k) → and_then r f ≡ and_then (and_then r g) k
then_step (Ok x) f g k h = h x
then_step (Err cause) f g k h = refl

read_append : (values : Values) (p : Putting) (xs ys : List ℕ) → read values p (xs ++ ys) ≡ and_then (read values p xs) (λ q. read values q ys)
unfolding read
read_append values p [] ys = refl
read_append values p (x ∷ xs) ys =
    then_step (step values p x) (λ q. read values q (xs ++ ys)) (λ q. read values q xs) (λ q. read values q ys) (λ q. read_append values q xs ys)

read_on : (values : Values) (p q : Putting) (xs ys : List ℕ) → read values p xs ≡ Ok q → read values p (xs ++ ys) ≡ read values q ys
read_on values p q xs ys h = read_append values p xs ys ∙ ap (λ r. and_then r (λ q. read values q ys)) h

one_more : (values : Values) (p q : Putting) (x : ℕ) (xs : List ℕ) → step values p x ≡ Ok q → read values p (x ∷ xs) ≡ read values q xs
unfolding read
one_more values p q x xs h = ap (λ r. and_then r (λ q. read values q xs)) h

-- ---- bytes that are no quotes, or not here

by_test : (a b : Bool) (u w : Putting) (v : Result Putting Cause) → b ≡ false → (if a then Ok u else (if b then v else Ok w)) ≡ Ok (if a then u else w)
by_test true b u w v e = refl
by_test false true u w v e = absurd cc
by_test false false u w v e = refl

not_closing : (values : Values) (p : Putting) (x : ℕ) → (x == 39) ≡ false → step values p x ≡ Ok (if x == 96 then opened p else with_byte p x)
not_closing values p x e = by_test (x == 96) (x == 39) (opened p) (with_byte p x) (closed values p.text p.outer) e

is_plain : (values : Values) (p : Putting) (x : ℕ) → (x == 96) ≡ false → (x == 39) ≡ false → step values p x ≡ Ok (with_byte p x)
is_plain values p x opens closes = not_closing values p x closes ∙ ap (λ (b : Bool). Ok (if b then opened p else with_byte p x)) opens

no_quotes : (xs : List ℕ) → HasNo 96 xs → HasNo 39 xs → AreNoQuotes xs
no_quotes [] opens closes = refl
no_quotes (x ∷ xs) opens closes =
    let o = or_parts (x == 96) (list_any (λ c. c == 96) xs) opens in
    let c = or_parts (x == 39) (list_any (λ c. c == 39) xs) closes in
    or_from ((x == 96) || (x == 39)) (list_any (λ c. (c == 96) || (c == 39)) xs) (or_from (x == 96) (x == 39) o.0 c.0) (no_quotes xs o.1 c.1)

pub read_plain : (values : Values) (p : Putting) (xs : List ℕ) → AreNoQuotes xs → read values p xs ≡ Ok (with_text p xs)
unfolding read
read_plain values p [] none = ap (λ t. Ok (at p.outer t)) (sym (append-nil p.text))
read_plain values p (x ∷ xs) none =
    let o = or_parts ((x == 96) || (x == 39)) (list_any (λ c. (c == 96) || (c == 39)) xs) none in
    let q = or_parts (x == 96) (x == 39) o.0 in
    one_more values p (with_byte p x) x xs (is_plain values p x q.0 q.1)
    ∙ read_plain values (with_byte p x) xs o.1
    ∙ ap (λ t. Ok (at p.outer t)) (append_assoc p.text (x ∷ []) xs)

pub read_over : (values : Values) (p : Putting) (xs ys : List ℕ) → AreNoQuotes xs → read values p (xs ++ ys) ≡ read values (with_text p xs) ys
read_over values p xs ys none = read_on values p (with_text p xs) xs ys (read_plain values p xs none)

-- outside names a closing quote is a byte like others
outside : (values : Values) (text : List ℕ) (x : ℕ) → (x == 96) ≡ false → (b : Bool) → (x == 39) ≡ b → step values (at [] text) x ≡ Ok (at [] (text ++ x ∷ []))
outside values text x opens true e =
    let is : x ≡ 39 = eqb-true x 39 e in
    ap (step values (at [] text)) is ∙ ap (λ c. Ok (at [] (text ++ c ∷ []))) (sym is)
outside values text x opens false e = is_plain values (at [] text) x opens e

reads_outside : (values : Values) (text xs : List ℕ) → HasNo 96 xs → read values (at [] text) xs ≡ Ok (at [] (text ++ xs))
unfolding read
reads_outside values text [] opens = ap (λ t. Ok (at [] t)) (sym (append-nil text))
reads_outside values text (x ∷ xs) opens =
    let o = or_parts (x == 96) (list_any (λ c. c == 96) xs) opens in
    one_more values (at [] text) (at [] (text ++ x ∷ [])) x xs (outside values text x o.0 (x == 39) refl)
    ∙ reads_outside values (text ++ x ∷ []) xs o.1
    ∙ ap (λ t. Ok (at [] t)) (append_assoc text (x ∷ []) xs)

-- without a closing quote names are only opened
abbrev Opens : Values → Putting → List ℕ → Type 0
Opens values p xs = (q : Putting) × (read values p xs ≡ Ok q)

reads_opening : (values : Values) (p : Putting) (xs : List ℕ) → HasNo 39 xs → Opens values p xs
unfolding read
reads_opening values p [] closes = (p, refl)
reads_opening values p (x ∷ xs) closes =
    let c = or_parts (x == 39) (list_any (λ c. c == 39) xs) closes in
    let next : Putting = if x == 96 then opened p else with_byte p x in
    let more = reads_opening values next xs c.1 in
    (more.0, one_more values p next x xs (not_closing values p x c.0) ∙ more.1)

abbrev Stays_open : Values → Putting → List ℕ → Type 0
Stays_open values p xs = (q : Putting) × (read values p xs ≡ Ok q) × (end_of q ≡ Err Unclosed)

stays_step : (values : Values) (p : Putting) (x : ℕ) (xs : List ℕ) → (x == 39) ≡ false → Stays_open values (opened p) xs → Stays_open values (with_byte p x) xs → Stays_open values p (x ∷ xs)
stays_step values p x xs closes quoted other = by_quote (x == 96) refl
  where
    after : (q : Putting) → step values p x ≡ Ok q → Stays_open values q xs → Stays_open values p (x ∷ xs)
    after q h more = (more.0, one_more values p q x xs h ∙ more.1, more.2)

    by_quote : (b : Bool) → (x == 96) ≡ b → Stays_open values p (x ∷ xs)
    by_quote true e = after (opened p) (not_closing values p x closes ∙ ap (λ (b : Bool). Ok (if b then opened p else with_byte p x)) e) quoted
    by_quote false e = after (with_byte p x) (not_closing values p x closes ∙ ap (λ (b : Bool). Ok (if b then opened p else with_byte p x)) e) other

stays_open : (values : Values) (before : List ℕ) (outer : List (List ℕ)) (text xs : List ℕ) → HasNo 39 xs → Stays_open values (at (before ∷ outer) text) xs
unfolding read
stays_open values before outer text [] closes = (at (before ∷ outer) text, refl, refl)
stays_open values before outer text (x ∷ xs) closes =
    let c = or_parts (x == 39) (list_any (λ c. c == 39) xs) closes in
    stays_step values (at (before ∷ outer) text) x xs c.0 (stays_open values text (before ∷ outer) [] xs c.1) (stays_open values before outer (text ++ x ∷ []) xs c.1)

-- ---- a name in quotes

reads_closing : (values : Values) (name before : List ℕ) (outer : List (List ℕ)) (rest : List ℕ)
    → read values (at (before ∷ outer) name) (39 ∷ rest) ≡ and_then (valued name before outer (newest values name)) (λ q. read values q rest)
unfolding read
reads_closing values name before outer rest = refl

pub read_name : (values : Values) (p : Putting) (name rest : List ℕ) → AreNoQuotes name
    → read values p (96 ∷ (name ++ (39 ∷ rest))) ≡ and_then (valued name p.text p.outer (newest values name)) (λ q. read values q rest)
read_name values p name rest none =
    one_more values p (opened p) 96 (name ++ (39 ∷ rest)) refl
    ∙ read_over values (opened p) name (39 ∷ rest) none
    ∙ reads_closing values name p.text p.outer rest

read_value : (values : Values) (p : Putting) (name value rest : List ℕ) → HasNo 96 name → HasNo 39 name → newest values name ≡ Some value
    → read values p (96 ∷ (name ++ (39 ∷ rest))) ≡ read values (at p.outer (p.text ++ value)) rest
read_value values p name value rest opens closes found =
    read_name values p name rest (no_quotes name opens closes) ∙ ap (λ o. and_then (valued name p.text p.outer o) (λ q. read values q rest)) found

-- ---- the laws

pub put_nothing : (values : Values) (text : List ℕ) → HasNo 96 text → put_in values text ≡ unless_long text
put_nothing values text opens = ap (λ r. and_then r end_of) (reads_outside values [] text opens)

same_rest : {X Y : Type 0} (r : Result X Cause) (f g : X → Result Y Cause) → ((x : X) → f x ≡ g x) → and_then r f ≡ and_then r g
same_rest (Ok x) f g h = h x
same_rest (Err cause) f g h = refl

pub put_value : (values : Values) (before name value rest : List ℕ) → HasNo 96 name → HasNo 39 name → newest values name ≡ Some value → HasNo 96 value → HasNo 39 value
    → put_in values (before ++ (96 ∷ (name ++ (39 ∷ rest)))) ≡ put_in values (before ++ (value ++ rest))
put_value values before name value rest opens closes found opened_there closed_there =
    let each : (p : Putting) → read values p (96 ∷ (name ++ (39 ∷ rest))) ≡ read values p (value ++ rest) =
    λ p. (read_value values p name value rest opens closes found ∙ sym (read_over values p value rest (no_quotes value opened_there closed_there))) in
    ap (λ r. and_then r end_of)
    (read_append values begun before (96 ∷ (name ++ (39 ∷ rest)))
    ∙ same_rest (read values begun before) (λ p. read values p (96 ∷ (name ++ (39 ∷ rest)))) (λ p. read values p (value ++ rest)) each
    ∙ sym (read_append values begun before (value ++ rest)))

pub put_once : (values : Values) (before name value rest : List ℕ) → HasNo 96 before → HasNo 96 name → HasNo 39 name → newest values name ≡ Some value → HasNo 96 rest
    → put_in values (before ++ (96 ∷ (name ++ (39 ∷ rest)))) ≡ unless_long (before ++ (value ++ rest))
put_once values before name value rest plain opens closes found plain_rest =
    ap (λ r. and_then r end_of)
    (read_on values begun (at [] before) before (96 ∷ (name ++ (39 ∷ rest))) (reads_outside values [] before plain)
    ∙ read_value values (at [] before) name value rest opens closes found
    ∙ reads_outside values (before ++ value) rest plain_rest)
    ∙ ap unless_long (append_assoc before value rest)

pub put_unknown : (values : Values) (before opening name rest : List ℕ) → HasNo 96 before → HasNo 39 opening → HasNo 96 name → HasNo 39 name → newest values name ≡ None
    → put_in values (before ++ (opening ++ (96 ∷ (name ++ (39 ∷ rest))))) ≡ Err (UnknownVar name)
put_unknown values before opening name rest plain still opens closes found =
    let o = reads_opening values (at [] before) opening still in
    ap (λ r. and_then r end_of)
    (read_on values begun (at [] before) before (opening ++ (96 ∷ (name ++ (39 ∷ rest)))) (reads_outside values [] before plain)
    ∙ read_on values (at [] before) o.0 opening (96 ∷ (name ++ (39 ∷ rest))) o.1
    ∙ read_name values o.0 name rest (no_quotes name opens closes)
    ∙ ap (λ f. and_then (valued name o.0.text o.0.outer f) (λ q. read values q rest)) found)

pub put_unclosed : (values : Values) (before opening : List ℕ) → HasNo 96 before → HasNo 39 opening → put_in values (before ++ (96 ∷ opening)) ≡ Err Unclosed
put_unclosed values before opening plain still =
    let o = stays_open values before [] [] opening still in
    ap (λ r. and_then r end_of)
    (read_on values begun (at [] before) before (96 ∷ opening) (reads_outside values [] before plain)
    ∙ one_more values (at [] before) (at (before ∷ []) []) 96 opening refl
    ∙ o.1)
    ∙ o.2
