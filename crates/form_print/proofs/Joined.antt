-- Factors that are put one after another.
use Rattle.std.proofs.Common.{◌≡◌, ℕ, ◌+◌, Bool, List, [], ◌∷◌, ◌++◌, map, if◌then◌else◌, true, false, length, refl, sym, ap, ◌∙◌, append_assoc, arith}
use Rattle.std.specs.Prelude.{flat_map, not, ◌&&◌, ◌||◌, OnOk, Result, Ok, Err}
use Rattle.std.specs.List.{join_with_byte}
use Rattle.std.proofs.lemmas.List.{append-nil}
use Rattle.form_frac.specs.Fraction.{Fraction, has_size_one}
use Rattle.form_names.specs.Names.{Entry}
use Rattle.form_term.specs.Term.{Call, Term, is_nil}
use Rattle.form_term.specs.declared.power.Power.{Power}
use Rattle.form_term.specs.declared.power.DotPower.{DotPower}
use Rattle.form_term.specs.declared.index.Component.{Component}
use Rattle.form_term.specs.declared.index.Delta.{Delta}
use Rattle.form_print.specs.Joined.{has_no_factors, is_first_behind, star, starred}
use Rattle.form_print.specs.Printing.{call_text, factor_texts, function_texts, imaginary_texts, is_followed, term_text, times_text, with_size}
use Rattle.form_print.specs.Texts.{component_text, delta_text, dot_text, factor_text, size_text}

-- the first text, and each later one behind the byte
pub join_with_byte-cons : (c : ℕ) (text : List ℕ) (texts : List (List ℕ)) → join_with_byte c (text ∷ texts) ≡ text ++ flat_map (λ later. c ∷ later) texts
join_with_byte-cons c text [] = sym (append-nil text)
join_with_byte-cons c text (next ∷ texts) = ap (λ rest. text ++ (c ∷ rest)) (join_with_byte-cons c next texts)

-- later factors, each behind `*`
pub behind_stars : (factors : List (List ℕ)) → flat_map (λ later. 42 ∷ later) factors ≡ starred false factors
behind_stars [] = refl
behind_stars (factor ∷ factors) = ap (λ rest. (42 ∷ factor) ++ rest) (behind_stars factors)

pub first_by_one : {A : Type 0} (xs : List A) → is_first_behind false xs ≡ false
first_by_one [] = refl
first_by_one (x ∷ xs) = refl

pub first_behind_map : {A B : Type 0} (f : A → B) (b : Bool) (xs : List A) → is_first_behind b (map f xs) ≡ is_first_behind b xs
first_behind_map f b [] = refl
first_behind_map f b (x ∷ xs) = refl

-- a function that is followed by the same one isn't the last
pub followed_first : (c : Call) (cs : List Call) (b : Bool) → is_followed c cs ≡ true → is_first_behind b cs ≡ false
followed_first c [] b e = cc
followed_first c (d ∷ ds) b e = refl

either : (b follows : Bool) (more : List (List ℕ)) (x : List ℕ) (last : List (List ℕ)) → (follows ≡ true → is_first_behind b more ≡ false) → is_first_behind b (if follows then more else x ∷ last) ≡ false
either b true more x last h = h refl
either b false more x last h = refl

pub first_behind_functions : (names : List Entry) (times : ℕ) (b : Bool) (cs : List Call) → is_first_behind b (function_texts names times cs) ≡ is_first_behind b cs
first_behind_functions names times b [] = refl
first_behind_functions names times b (c ∷ cs) =
    either b (is_followed c cs) (function_texts names (times + 1) cs) (call_text names c ++ times_text times) (function_texts names 1 cs)
    (λ e. first_behind_functions names (times + 1) b cs ∙ followed_first c cs b e)

-- the same bytes, as they are put and as they are written down
around : (old star call times rest : List ℕ) → (((old ++ star) ++ call) ++ times) ++ rest ≡ old ++ ((star ++ (call ++ times)) ++ rest)
around old star call times rest = simp append_assoc

pub starred-append : (b : Bool) (xs ys : List (List ℕ)) → starred b (xs ++ ys) ≡ starred b xs ++ starred (is_first_behind b xs) ys
starred-append b [] ys = refl
starred-append b (x ∷ xs) ys =
    ap (λ rest. (star b ++ x) ++ rest) (starred-append false xs ys ∙ ap (λ f. starred false xs ++ starred f ys) (first_by_one xs))
    ∙ sym (append_assoc (star b ++ x) (starred false xs) (starred false ys))

first-append : {A : Type 0} (b : Bool) (xs ys : List A) → is_first_behind b (xs ++ ys) ≡ is_first_behind (is_first_behind b xs) ys
first-append b [] ys = refl
first-append b (x ∷ xs) ys = sym (first_by_one ys)

-- What holds of a text, and of whether nothing stands there yet, behind some factors.
record Put (old new : List ℕ) (first later : Bool) (factors : List (List ℕ)) : Type 0 where
  pub text : new ≡ old ++ starred first factors
  pub is_first : later ≡ is_first_behind first factors

-- factors, and then further ones
and_then : (old mid new : List ℕ) (first between later : Bool) (xs ys : List (List ℕ)) → Put old mid first between xs → Put mid new between later ys → Put old new first later (xs ++ ys)
and_then old mid new first between later xs ys p q = record {
  text = q.text ∙ ap (λ x. x ++ starred between ys) p.text ∙ append_assoc old (starred first xs) (starred between ys) ∙ ap (λ f. old ++ (starred first xs ++ starred f ys)) p.is_first ∙ ap (λ x. old ++ x) (sym (starred-append first xs ys));
  is_first = q.is_first ∙ ap (λ f. is_first_behind f ys) p.is_first ∙ sym (first-append first xs ys);
}

-- factors of one kind, each by its text
put_map : {A : Type 0} (f : A → List ℕ) (old new : List ℕ) (first later : Bool) (xs : List A) → new ≡ old ++ starred first (map f xs) → later ≡ is_first_behind first xs → Put old new first later (map f xs)
put_map f old new first later xs text is_first = record { text = text; is_first = is_first ∙ sym (first_behind_map f first xs) }

put_functions : (names : List Entry) (old new : List ℕ) (first later : Bool) (cs : List Call) → new ≡ old ++ starred first (function_texts names 1 cs) → later ≡ is_first_behind first cs → Put old new first later (function_texts names 1 cs)
put_functions names old new first later cs text is_first = record { text = text; is_first = is_first ∙ sym (first_behind_functions names 1 first cs) }

-- the factors of a term, kind after kind
abbrev all_texts : List Entry → Bool → List Power → List DotPower → List Component → List Delta → List Call → List Call → List (List ℕ)
all_texts names i ss ds cs es fs ws =
    imaginary_texts i ++ map (factor_text names) ss ++ map (dot_text names) ds ++ map (component_text names) cs ++ map (delta_text names) es ++ function_texts names 1 fs ++ map (call_text names) ws

all_put : (names : List Entry) (t0 t1 t2 t3 t4 t5 t6 t7 : List ℕ) (f0 f1 f2 f3 f4 f5 f6 : Bool) (i : Bool) (ss : List Power) (ds : List DotPower) (cs : List Component) (es : List Delta) (fs ws : List Call) →
    t1 ≡ t0 ++ starred f0 (imaginary_texts i) → f1 ≡ is_first_behind f0 (imaginary_texts i) →
    t2 ≡ t1 ++ starred f1 (map (factor_text names) ss) → f2 ≡ is_first_behind f1 ss →
    t3 ≡ t2 ++ starred f2 (map (dot_text names) ds) → f3 ≡ is_first_behind f2 ds →
    t4 ≡ t3 ++ starred f3 (map (component_text names) cs) → f4 ≡ is_first_behind f3 cs →
    t5 ≡ t4 ++ starred f4 (map (delta_text names) es) → f5 ≡ is_first_behind f4 es →
    t6 ≡ t5 ++ starred f5 (function_texts names 1 fs) → f6 ≡ is_first_behind f5 fs →
    t7 ≡ t6 ++ starred f6 (map (call_text names) ws) →
    t7 ≡ t0 ++ starred f0 (all_texts names i ss ds cs es fs ws)
all_put names t0 t1 t2 t3 t4 t5 t6 t7 f0 f1 f2 f3 f4 f5 f6 i ss ds cs es fs ws p1 q1 p2 q2 p3 q3 p4 q4 p5 q5 p6 q6 p7 =
    let u1 : Put t0 t1 f0 f1 (imaginary_texts i) = record { text = p1; is_first = q1 } in
    let u2 = and_then t0 t1 t2 f0 f1 f2 (imaginary_texts i) (map (factor_text names) ss) u1 (put_map (factor_text names) t1 t2 f1 f2 ss p2 q2) in
    let u3 = and_then t0 t2 t3 f0 f2 f3 (imaginary_texts i ++ map (factor_text names) ss) (map (dot_text names) ds) u2 (put_map (dot_text names) t2 t3 f2 f3 ds p3 q3) in
    let u4 = and_then t0 t3 t4 f0 f3 f4 (imaginary_texts i ++ map (factor_text names) ss ++ map (dot_text names) ds) (map (component_text names) cs) u3 (put_map (component_text names) t3 t4 f3 f4 cs p4 q4) in
    let u5 = and_then t0 t4 t5 f0 f4 f5 (imaginary_texts i ++ map (factor_text names) ss ++ map (dot_text names) ds ++ map (component_text names) cs) (map (delta_text names) es) u4 (put_map (delta_text names) t4 t5 f4 f5 es p5 q5) in
    let u6 = and_then t0 t5 t6 f0 f5 f6 (imaginary_texts i ++ map (factor_text names) ss ++ map (dot_text names) ds ++ map (component_text names) cs ++ map (delta_text names) es) (function_texts names 1 fs) u5 (put_functions names t5 t6 f5 f6 fs p6 q6) in
    let u7 = and_then t0 t6 t7 f0 f6 (is_first_behind f6 ws) (imaginary_texts i ++ map (factor_text names) ss ++ map (dot_text names) ds ++ map (component_text names) cs ++ map (delta_text names) es ++ function_texts names 1 fs) (map (call_text names) ws) u6 (put_map (call_text names) t6 t7 f6 (is_first_behind f6 ws) ws p7 refl) in
    u7.text

-- the same, of a term's own lists
pub whole_term : (names : List Entry) (t : Term) (t0 t1 t2 t3 t4 t5 t6 t7 : List ℕ) (f0 f1 f2 f3 f4 f5 f6 : Bool) (i : Bool) (ss : List Power) (ds : List DotPower) (cs : List Component) (es : List Delta) (fs ws : List Call) →
    i ≡ t.others.is_imaginary → ss ≡ t.symbols → ds ≡ t.others.dots → cs ≡ t.others.components → es ≡ t.others.deltas → fs ≡ t.others.functions → ws ≡ t.others.word →
    t1 ≡ t0 ++ starred f0 (imaginary_texts i) → f1 ≡ is_first_behind f0 (imaginary_texts i) →
    t2 ≡ t1 ++ starred f1 (map (factor_text names) ss) → f2 ≡ is_first_behind f1 ss →
    t3 ≡ t2 ++ starred f2 (map (dot_text names) ds) → f3 ≡ is_first_behind f2 ds →
    t4 ≡ t3 ++ starred f3 (map (component_text names) cs) → f4 ≡ is_first_behind f3 cs →
    t5 ≡ t4 ++ starred f4 (map (delta_text names) es) → f5 ≡ is_first_behind f4 es →
    t6 ≡ t5 ++ starred f5 (function_texts names 1 fs) → f6 ≡ is_first_behind f5 fs →
    t7 ≡ t6 ++ starred f6 (map (call_text names) ws) →
    t7 ≡ t0 ++ starred f0 (factor_texts names t)
whole_term names t t0 t1 t2 t3 t4 t5 t6 t7 f0 f1 f2 f3 f4 f5 f6 i ss ds cs es fs ws ei es1 ed ec ee ef ew p1 q1 p2 q2 p3 q3 p4 q4 p5 q5 p6 q6 p7 =
    let o = t.others in
    all_put names t0 t1 t2 t3 t4 t5 t6 t7 f0 f1 f2 f3 f4 f5 f6 i ss ds cs es fs ws p1 q1 p2 q2 p3 q3 p4 q4 p5 q5 p6 q6 p7
    ∙ ap (λ x. t0 ++ starred f0 (all_texts names x ss ds cs es fs ws)) ei
    ∙ ap (λ x. t0 ++ starred f0 (all_texts names o.is_imaginary x ds cs es fs ws)) es1
    ∙ ap (λ x. t0 ++ starred f0 (all_texts names o.is_imaginary t.symbols x cs es fs ws)) ed
    ∙ ap (λ x. t0 ++ starred f0 (all_texts names o.is_imaginary t.symbols o.dots x es fs ws)) ec
    ∙ ap (λ x. t0 ++ starred f0 (all_texts names o.is_imaginary t.symbols o.dots o.components x fs ws)) ee
    ∙ ap (λ x. t0 ++ starred f0 (all_texts names o.is_imaginary t.symbols o.dots o.components o.deltas x ws)) ef
    ∙ ap (λ x. t0 ++ starred f0 (all_texts names o.is_imaginary t.symbols o.dots o.components o.deltas o.functions x)) ew

-- whether there are no factors
nil-append : {A : Type 0} (xs ys : List A) → is_nil (xs ++ ys) ≡ (is_nil xs && is_nil ys)
nil-append [] ys = refl
nil-append (x ∷ xs) ys = refl

nil_first : {A : Type 0} (xs : List A) → is_nil xs ≡ is_first_behind true xs
nil_first [] = refl
nil_first (x ∷ xs) = refl

functions_there : (names : List Entry) (c : Call) (cs : List Call) → is_nil (function_texts names 1 (c ∷ cs)) ≡ false
functions_there names c cs = nil_first (function_texts names 1 (c ∷ cs)) ∙ first_behind_functions names 1 true (c ∷ cs)

all_nil : (names : List Entry) (i : Bool) (ss : List Power) (ds : List DotPower) (cs : List Component) (es : List Delta) (fs ws : List Call) →
    is_nil (all_texts names i ss ds cs es fs ws) ≡ (is_nil ss && (not i && is_nil ds && is_nil cs && is_nil es && is_nil fs && is_nil ws))
all_nil names true [] ds cs es fs ws = refl
all_nil names true (s ∷ ss) ds cs es fs ws = refl
all_nil names false (s ∷ ss) ds cs es fs ws = refl
all_nil names false [] (d ∷ ds) cs es fs ws = refl
all_nil names false [] [] (c ∷ cs) es fs ws = refl
all_nil names false [] [] [] (e ∷ es) fs ws = refl
all_nil names false [] [] [] [] (f ∷ fs) ws = nil-append (function_texts names 1 (f ∷ fs)) (map (call_text names) ws) ∙ ap (λ b. b && is_nil (map (call_text names) ws)) (functions_there names f fs)
all_nil names false [] [] [] [] [] [] = refl
all_nil names false [] [] [] [] [] (w ∷ ws) = refl

no_factors : (names : List Entry) (t : Term) → is_nil (factor_texts names t) ≡ has_no_factors t
no_factors names t = all_nil names t.others.is_imaginary t.symbols t.others.dots t.others.components t.others.deltas t.others.functions t.others.word

not_one : (b one : Bool) → b ≡ false → (b || not one) ≡ true → one ≡ false
not_one true one e s = cc
not_one false true e s = cc
not_one false false e s = refl

is_one : (b one : Bool) → (b || not one) ≡ false → one ≡ true
is_one true one e = cc
is_one false true e = refl
is_one false false e = cc

sized : (c : Fraction) (fs : List (List ℕ)) (b : Bool) → is_nil fs ≡ b → (b || not (has_size_one c)) ≡ true → join_with_byte 42 (with_size c fs) ≡ size_text c ++ starred false fs
sized c [] b e shown = sym (append-nil (size_text c))
sized c (f ∷ fs) b e shown =
    ap (λ x. join_with_byte 42 (if x then f ∷ fs else size_text c ∷ f ∷ fs)) (not_one b (has_size_one c) (sym e) shown)
    ∙ join_with_byte-cons 42 (size_text c) (f ∷ fs) ∙ ap (λ x. size_text c ++ x) (behind_stars (f ∷ fs))

bare : (c : Fraction) (fs : List (List ℕ)) (b : Bool) → is_nil fs ≡ b → (b || not (has_size_one c)) ≡ false → join_with_byte 42 (with_size c fs) ≡ starred true fs
bare c [] true e hidden = cc
bare c [] false e hidden = cc
bare c (f ∷ fs) b e hidden =
    ap (λ x. join_with_byte 42 (if x then f ∷ fs else size_text c ∷ f ∷ fs)) (is_one b (has_size_one c) hidden)
    ∙ join_with_byte-cons 42 f fs ∙ ap (λ x. f ++ x) (behind_stars fs)

-- the piece of a term whose size is shown
pub shown_term : (names : List Entry) (c : Fraction) (t : Term) → (has_no_factors t || not (has_size_one c)) ≡ true → term_text names c t ≡ size_text c ++ starred false (factor_texts names t)
shown_term names c t shown = sized c (factor_texts names t) (has_no_factors t) (no_factors names t) shown

-- the piece of a term whose size is left out
pub bare_term : (names : List Entry) (c : Fraction) (t : Term) → (has_no_factors t || not (has_size_one c)) ≡ false → term_text names c t ≡ starred true (factor_texts names t)
bare_term names c t hidden = bare c (factor_texts names t) (has_no_factors t) (no_factors names t) hidden

-- a first part that is put, and then the others, where together they are the piece
pub put_in_parts : {A E : Type 0} (r : Result A E) (old mid new first later whole : List ℕ) → whole ≡ first ++ later → mid ≡ old ++ first → OnOk r (new ≡ mid ++ later) → OnOk r (new ≡ old ++ whole)
put_in_parts (Err e) old mid new first later whole parts put rest = tt
put_in_parts (Ok x) old mid new first later whole parts put rest =
    rest ∙ ap (λ y. y ++ later) put ∙ append_assoc old first later ∙ ap (λ y. old ++ y) (sym parts)

pub put_alike : {A E : Type 0} (r : Result A E) (old new part whole : List ℕ) → whole ≡ part → OnOk r (new ≡ old ++ part) → OnOk r (new ≡ old ++ whole)
put_alike (Err e) old new part whole same put = tt
put_alike (Ok x) old new part whole same put = put ∙ ap (λ y. old ++ y) (sym same)

-- one commuting function further
pub one_function : (names : List Entry) (times : ℕ) (c : Call) (cs : List Call) (old star_put call_put new : List ℕ) (first : Bool) → is_followed c cs ≡ false →
    star_put ≡ old ++ star first → call_put ≡ star_put ++ call_text names c → new ≡ call_put ++ times_text times →
    new ++ starred false (function_texts names 1 cs) ≡ old ++ starred first (function_texts names times (c ∷ cs))
one_function names times c cs old star_put call_put new first last p q r =
    ap (λ x. x ++ starred false (function_texts names 1 cs)) (r ∙ ap (λ x. x ++ times_text times) (q ∙ ap (λ x. x ++ call_text names c) p))
    ∙ around old (star first) (call_text names c) (times_text times) (starred false (function_texts names 1 cs))
    ∙ ap (λ b. old ++ starred first (if b then function_texts names (times + 1) cs else (call_text names c ++ times_text times) ∷ function_texts names 1 cs)) (sym last)

-- a function that is followed by the same one
pub next_function : (names : List Entry) (times : ℕ) (c : Call) (cs : List Call) → is_followed c cs ≡ true → function_texts names times (c ∷ cs) ≡ function_texts names (times + 1) cs
next_function names times c cs follows =
    ap (λ b. if b then function_texts names (times + 1) cs else (call_text names c ++ times_text times) ∷ function_texts names 1 cs) follows

pub empty : {A : Type 0} (xs : List A) → length xs ≡ 0 → xs ≡ []
empty [] e = refl
empty (x ∷ xs) e = absurd (omega arith)
