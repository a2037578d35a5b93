-- The factors of a term inside an argument: what is put of their pieces, up to the term's end.
use Rattle.std.proofs.Common.{◌≡◌, ℕ, suc, ◌+◌, ◌-◌, Bool, true, false, List, [], ◌∷◌, ◌++◌, length, map, take, get_or, if◌then◌else◌, refl, sym, ap, ◌∙◌, subst, append_assoc, append-nil, arith, length-append, lt-ltb}
use Rattle.std.specs.Prelude.{codes, flat_map}
use Rattle.std.specs.Int.{is_negative}
use Rattle.std.specs.List.{AllByRecursion}
use Rattle.std.proofs.Math.Seq.{take-append_seam, get_or-append_seam}
use Rattle.form_frac.specs.Fraction.{Fraction}
use Rattle.form_names.specs.Names.{Entry}
use Rattle.form_term.specs.Pieces.{piece_of_power, piece_of_dot}
use Rattle.form_term.specs.declared.power.Power.{Power}
use Rattle.form_term.specs.declared.power.DotPower.{DotPower}
use Rattle.form_term.specs.declared.index.Component.{Component}
use Rattle.form_term.specs.declared.index.Delta.{Delta}
use Rattle.form_term.specs.declared.piece.Piece.{Piece}
use Rattle.form_term.specs.declared.piece.Coefficient.{Coefficient}
use Rattle.form_term.specs.declared.piece.Piece.TheVariants as pieces
use Rattle.form_term.specs.Term.{Call, Term, pieces_of_call, pieces_of_term}
use Rattle.form_print.specs.Arguments.{arguments_text, before_argument, before_factor, closing_behind, coefficient_in, fraction_of, innermost, is_repeated, number_behind, opening, text_behind}
use Rattle.form_print.specs.Joined.{starred}
use Rattle.form_print.specs.Printing.{call_text, factor_texts, function_texts, imaginary_texts, in_parentheses, is_followed}
use Rattle.form_print.specs.Texts.{name_of, component_text, delta_text, dot_text, factor_text, times_text}
use Rattle.form_print.proofs.Balanced.{IsBalanced, call_length, call_passed}
use Rattle.form_print.proofs.Joined.{first_by_one, starred-append}
use Rattle.form_print.proofs.Passing.{nothing_left, one_piece, over_function, over_one}
use Rattle.form_print.proofs.Repeated.{IsOther, other_end, other_word, repeated}

-- the text of pieces behind such a one, none of which is passed over at first
abbrev pub onward : List Entry → Piece → List ℕ → List Piece → List ℕ
onward names before opened ps = text_behind names before 0 1 opened ps

-- What holds of a piece that is, or ends, a factor.
pub record IsFactor (p : Piece) : Type 0 where
  pub star : (c : Fraction) → before_factor p c ≡ codes "*"
  pub number : (c : Fraction) → number_behind p c ≡ []

-- What holds of a piece behind which arguments begin.
pub record Opens (p : Piece) : Type 0 where
  pub comma : before_argument p ≡ []
  pub close : closing_behind p ≡ []

-- the parentheses around arguments
abbrev pub open_of : List Piece → List ℕ
open_of [] = []
open_of (p ∷ ps) = codes "("

abbrev pub close_of : List Piece → List ℕ
close_of [] = []
close_of (p ∷ ps) = codes ")"

-- What is put of a function's arguments behind its name: their text, the same wherever they stand.
pub record PutInside (names : List Entry) (before : Piece) (opened : List ℕ) (ps rest : List Piece) : Type 0 where
  pub after : Piece
  pub put : onward names before opened (ps ++ rest) ≡ arguments_text names ps ++ onward names after opened rest
  pub close : closing_behind after ≡ close_of ps

-- What is shown of a function's arguments, level by level.
pub record IsPut (names : List Entry) (c : Call) : Type 0 where
  pub balanced : IsBalanced c.pieces
  pub inside : (before : Piece) → Opens before → (opened : List ℕ) (rest : List Piece) → PutInside names before opened c.pieces rest
  pub opens : (rest : List Piece) → opening ((c.pieces ++ pieces.EndOfArguments ∷ []) ++ rest) ≡ open_of c.pieces

-- factors behind such a piece, with a term's coefficient
abbrev pub put_behind : Piece → Fraction → List (List ℕ) → List ℕ
put_behind before k [] = []
put_behind before k (f ∷ fs) = before_factor before k ++ f ++ starred false fs

-- the piece that stands behind such factors
abbrev pub StandsBehind : Piece → List (List ℕ) → Piece → Type 0
StandsBehind before [] after = after ≡ before
StandsBehind before (f ∷ fs) after = IsFactor after

-- What is put of such pieces, where these factors are theirs.
pub record ArePut (names : List Entry) (before : Piece) (opened : List ℕ) (k : Fraction) (xs : List Piece) (fs : List (List ℕ)) (rest : List Piece) : Type 0 where
  pub after : Piece
  pub put : onward names before opened (xs ++ rest) ≡ put_behind before k fs ++ onward names after opened rest
  pub stands : StandsBehind before fs after

-- factors, and then further ones
behind_factor : (mid : Piece) (k : Fraction) (gs : List (List ℕ)) → IsFactor mid → put_behind mid k gs ≡ starred false gs
behind_factor mid k [] h = refl
behind_factor mid k (g ∷ gs) h = ap (λ x. x ++ g ++ starred false gs) (h.star k)

joined : (before mid : Piece) (k : Fraction) (fs gs : List (List ℕ)) → StandsBehind before fs mid → put_behind before k fs ++ put_behind mid k gs ≡ put_behind before k (fs ++ gs)
joined before mid k [] gs h = ap (λ p. put_behind p k gs) h
joined before mid k (f ∷ fs) gs h =
    ap (λ x. (before_factor before k ++ f ++ starred false fs) ++ x) (behind_factor mid k gs h)
    ∙ append_assoc (before_factor before k ++ f) (starred false fs) (starred false gs)
    ∙ ap (λ x. (before_factor before k ++ f) ++ x) (ap (λ b. starred false fs ++ starred b gs) (sym (first_by_one fs)) ∙ sym (starred-append false fs gs))

stands_further : (before mid after : Piece) (fs gs : List (List ℕ)) → StandsBehind before fs mid → StandsBehind mid gs after → StandsBehind before (fs ++ gs) after
stands_further before mid after [] gs h k = subst (λ p. StandsBehind p gs after) h k
stands_further before mid after (f ∷ fs) [] h k = subst IsFactor (sym k) h
stands_further before mid after (f ∷ fs) (g ∷ gs) h k = k

and_then : (names : List Entry) (before : Piece) (opened : List ℕ) (k : Fraction) (xs ys : List Piece) (fs gs : List (List ℕ)) (rest : List Piece) →
    ArePut names before opened k xs fs (ys ++ rest) → ((mid : Piece) → ArePut names mid opened k ys gs rest) → ArePut names before opened k (xs ++ ys) (fs ++ gs) rest
and_then names before opened k xs ys fs gs rest u next =
    let v = next u.after in
    record {
      after = v.after;
      put =
          ap (onward names before opened) (append_assoc xs ys rest)
          ∙ u.put
          ∙ ap (λ x. put_behind before k fs ++ x) v.put
          ∙ sym (append_assoc (put_behind before k fs) (put_behind u.after k gs) (onward names v.after opened rest))
          ∙ ap (λ x. x ++ onward names v.after opened rest) (joined before u.after k fs gs u.stands);
      stands = stands_further before u.after v.after fs gs u.stands v.stands;
    }

none_put : (names : List Entry) (before : Piece) (opened : List ℕ) (k : Fraction) (rest : List Piece) → ArePut names before opened k [] [] rest
none_put names before opened k rest = record { after = before; put = refl; stands = refl }

one_put : (names : List Entry) (before after : Piece) (opened : List ℕ) (k : Fraction) (xs : List Piece) (f : List ℕ) (rest : List Piece) → IsFactor after →
    onward names before opened (xs ++ rest) ≡ (before_factor before k ++ f) ++ onward names after opened rest → ArePut names before opened k xs (f ∷ []) rest
one_put names before after opened k xs f rest h e = record {
  after = after;
  put = e ∙ ap (λ x. x ++ onward names after opened rest) (sym (append-nil (before_factor before k ++ f)));
  stands = h;
}

-- ---- factors without arguments

-- What holds of the piece of a factor that has no arguments.
record IsSimple (names : List Entry) (p : Piece) (shown : List ℕ) : Type 0 where
  pub put : (before : Piece) (opened : List ℕ) (rest : List Piece) → onward names before opened (p ∷ rest) ≡ (before_factor before (coefficient_in 0 rest) ++ shown) ++ onward names p opened rest
  pub passed : (rest : List Piece) → coefficient_in 0 (p ∷ rest) ≡ coefficient_in 0 rest
  pub factor : IsFactor p

either : (names : List Entry) (b : Bool) (p q : Piece) (shown : List ℕ) → IsSimple names p shown → IsSimple names q shown → IsSimple names (if b then p else q) shown
either names true p q shown h k = h
either names false p q shown h k = k

a_power : (names : List Entry) (p : Power) → IsSimple names (piece_of_power p) (factor_text names p)
a_power names p =
    let negative : Piece = pieces.Negative p in
    let positive : Piece = pieces.Positive (record { 0 = p.symbol }) p.exponent in
    either names (is_negative p.exponent) negative positive (factor_text names p)
    (record { put = λ before opened rest. one_piece names before 0 1 opened negative rest refl refl; passed = λ rest. refl; factor = record { star = λ c. refl; number = λ c. refl } })
    (record { put = λ before opened rest. one_piece names before 0 1 opened positive rest refl refl; passed = λ rest. refl; factor = record { star = λ c. refl; number = λ c. refl } })

a_dot : (names : List Entry) (d : DotPower) → IsSimple names (piece_of_dot d) (dot_text names d)
a_dot names d =
    let negative : Piece = pieces.NegativeDot d in
    let positive : Piece = pieces.PositiveDot (record { 0 = d.left }) (record { 0 = d.right }) d.exponent in
    either names (is_negative d.exponent) negative positive (dot_text names d)
    (record { put = λ before opened rest. one_piece names before 0 1 opened negative rest refl refl; passed = λ rest. refl; factor = record { star = λ c. refl; number = λ c. refl } })
    (record { put = λ before opened rest. one_piece names before 0 1 opened positive rest refl refl; passed = λ rest. refl; factor = record { star = λ c. refl; number = λ c. refl } })

a_component : (names : List Entry) (c : Component) → IsSimple names (pieces.Component c) (component_text names c)
a_component names c = record { put = λ before opened rest. one_piece names before 0 1 opened (pieces.Component c) rest refl refl; passed = λ rest. refl; factor = record { star = λ c. refl; number = λ c. refl } }

a_delta : (names : List Entry) (d : Delta) → IsSimple names (pieces.Delta d) (delta_text names d)
a_delta names d = record { put = λ before opened rest. one_piece names before 0 1 opened (pieces.Delta d) rest refl refl; passed = λ rest. refl; factor = record { star = λ c. refl; number = λ c. refl } }

the_imaginary : (names : List Entry) → IsSimple names pieces.Imaginary (codes "i_")
the_imaginary names = record { put = λ before opened rest. one_piece names before 0 1 opened pieces.Imaginary rest refl refl; passed = λ rest. refl; factor = record { star = λ c. refl; number = λ c. refl } }

simple_put : (names : List Entry) (p : Piece) (shown : List ℕ) (before : Piece) (opened : List ℕ) (k : Fraction) (rest : List Piece) → IsSimple names p shown → coefficient_in 0 rest ≡ k → ArePut names before opened k (p ∷ []) (shown ∷ []) rest
simple_put names p shown before opened k rest h e =
    one_put names before p opened k (p ∷ []) shown rest h.factor
    (h.put before opened rest ∙ ap (λ c. (before_factor before c ++ shown) ++ onward names p opened rest) e)

imaginary_put : (names : List Entry) (b : Bool) (before : Piece) (opened : List ℕ) (k : Fraction) (rest : List Piece) → coefficient_in 0 rest ≡ k → ArePut names before opened k (if b then pieces.Imaginary ∷ [] else []) (imaginary_texts b) rest
imaginary_put names true before opened k rest e = simple_put names pieces.Imaginary (codes "i_") before opened k rest (the_imaginary names) e
imaginary_put names false before opened k rest e = none_put names before opened k rest

-- factors of one kind
listed_passed : {A : Type 0} (names : List Entry) (piece : A → Piece) (shown : A → List ℕ) → ((x : A) → IsSimple names (piece x) (shown x)) → (xs : List A) (rest : List Piece) → coefficient_in 0 (map piece xs ++ rest) ≡ coefficient_in 0 rest
listed_passed names piece shown h [] rest = refl
listed_passed names piece shown h (x ∷ xs) rest = (h x).passed (map piece xs ++ rest) ∙ listed_passed names piece shown h xs rest

listed_put : {A : Type 0} (names : List Entry) (piece : A → Piece) (shown : A → List ℕ) → ((x : A) → IsSimple names (piece x) (shown x)) → (xs : List A) (before : Piece) (opened : List ℕ) (k : Fraction) (rest : List Piece) → coefficient_in 0 rest ≡ k →
    ArePut names before opened k (map piece xs) (map shown xs) rest
listed_put names piece shown h [] before opened k rest e = none_put names before opened k rest
listed_put names piece shown h (x ∷ xs) before opened k rest e =
    and_then names before opened k (piece x ∷ []) (map piece xs) (shown x ∷ []) (map shown xs) rest
    (simple_put names (piece x) (shown x) before opened k (map piece xs ++ rest) (h x) (listed_passed names piece shown h xs rest ∙ e))
    (λ mid. listed_put names piece shown h xs mid opened k rest e)

-- ---- functions

-- the innermost open function, and those around it
last_opened : (opened : List ℕ) (times : ℕ) → innermost (opened ++ times ∷ []) ≡ times
last_opened opened times = ap (λ n. get_or (opened ++ times ∷ []) n 1) (before_last opened times) ∙ get_or-append_seam opened times [] 1
  where
    before_last : (xs : List ℕ) (x : ℕ) → length (xs ++ x ∷ []) - 1 ≡ length xs
    before_last xs x = omega (arith, length-append xs (x ∷ []))

still_opened : (opened : List ℕ) (times : ℕ) → take (length (opened ++ times ∷ []) - 1) (opened ++ times ∷ []) ≡ opened
still_opened opened times = ap (λ n. take n (opened ++ times ∷ [])) (before_last opened times) ∙ take-append_seam opened (times ∷ [])
  where
    before_last : (xs : List ℕ) (x : ℕ) → length (xs ++ x ∷ []) - 1 ≡ length xs
    before_last xs x = omega (arith, length-append xs (x ∷ []))

-- the end of a function's arguments
at_end : (names : List Entry) (before : Piece) (opened : List ℕ) (times : ℕ) (rest : List Piece) →
    onward names before (opened ++ times ∷ []) (pieces.EndOfArguments ∷ rest) ≡ (closing_behind before ++ times_text times) ++ onward names pieces.EndOfArguments opened rest
at_end names before opened times rest =
    one_piece names before 0 1 (opened ++ times ∷ []) pieces.EndOfArguments rest refl refl
    ∙ ap (λ n. (closing_behind before ++ times_text n) ++ onward names pieces.EndOfArguments (take (length (opened ++ times ∷ []) - 1) (opened ++ times ∷ [])) rest) (last_opened opened times)
    ∙ ap (λ o. (closing_behind before ++ times_text times) ++ onward names pieces.EndOfArguments o rest) (still_opened opened times)

-- all behind a function's name
in_call : (names : List Entry) (c : Call) (begin : Piece) (opened : List ℕ) (times : ℕ) (rest : List Piece) → IsPut names c → Opens begin →
    onward names begin (opened ++ times ∷ []) ((c.pieces ++ pieces.EndOfArguments ∷ []) ++ rest) ≡ ((arguments_text names c.pieces ++ close_of c.pieces) ++ times_text times) ++ onward names pieces.EndOfArguments opened rest
in_call names c begin opened times rest h opens =
    let inner = h.inside begin opens (opened ++ times ∷ []) (pieces.EndOfArguments ∷ rest) in
    ap (onward names begin (opened ++ times ∷ [])) (append_assoc c.pieces (pieces.EndOfArguments ∷ []) rest)
    ∙ inner.put
    ∙ ap (λ x. arguments_text names c.pieces ++ x) (at_end names inner.after opened times rest)
    ∙ ap (λ x. arguments_text names c.pieces ++ ((x ++ times_text times) ++ onward names pieces.EndOfArguments opened rest)) inner.close
    ∙ grouped (arguments_text names c.pieces) (close_of c.pieces) (times_text times) (onward names pieces.EndOfArguments opened rest)
  where
    grouped : (a b c d : List ℕ) → a ++ ((b ++ c) ++ d) ≡ ((a ++ b) ++ c) ++ d
    grouped a b c d = simp append_assoc

-- a name with its arguments in parentheses
in_place : (names : List Entry) (ps : List Piece) (front name times rest : List ℕ) →
    ((front ++ name) ++ open_of ps) ++ (((arguments_text names ps ++ close_of ps) ++ times) ++ rest) ≡ (front ++ ((name ++ in_parentheses names ps) ++ times)) ++ rest
in_place names [] front name times rest =
    ap (λ x. ((front ++ name) ++ []) ++ (((x ++ []) ++ times) ++ rest)) (nothing_left names (pieces.Function 0) 0 1 [] [] refl)
    ∙ bare front name times rest
  where
    bare : (a b c d : List ℕ) → ((a ++ b) ++ []) ++ (c ++ d) ≡ (a ++ ((b ++ []) ++ c)) ++ d
    bare a b c d = simp (append_assoc, append-nil)
in_place names (p ∷ ps) front name times rest = parted front name (arguments_text names (p ∷ ps)) times rest
  where
    parted : (a b c d e : List ℕ) → ((a ++ b) ++ codes "(") ++ (((c ++ codes ")") ++ d) ++ e) ≡ (a ++ ((b ++ ((codes "(" ++ c) ++ codes ")")) ++ d)) ++ e
    parted a b c d e = simp append_assoc

-- a function that is put
put_call : (names : List Entry) (c : Call) (before begin : Piece) (opened : List ℕ) (times : ℕ) (rest : List Piece) (k : Fraction) → IsPut names c → Opens begin → coefficient_in 0 rest ≡ k →
    (before_factor before (coefficient_in 1 ((c.pieces ++ pieces.EndOfArguments ∷ []) ++ rest)) ++ name_of names c.function ++ opening ((c.pieces ++ pieces.EndOfArguments ∷ []) ++ rest)) ++ onward names begin (opened ++ times ∷ []) ((c.pieces ++ pieces.EndOfArguments ∷ []) ++ rest)
    ≡ (before_factor before k ++ (call_text names c ++ times_text times)) ++ onward names pieces.EndOfArguments opened rest
put_call names c before begin opened times rest k h opens e =
    let ps : List Piece = (c.pieces ++ pieces.EndOfArguments ∷ []) ++ rest in
    ap (λ x. (before_factor before x ++ name_of names c.function ++ opening ps) ++ onward names begin (opened ++ times ∷ []) ps) (call_passed c.pieces rest h.balanced ∙ e)
    ∙ ap (λ x. (before_factor before k ++ name_of names c.function ++ x) ++ onward names begin (opened ++ times ∷ []) ps) (h.opens rest)
    ∙ ap (λ x. (before_factor before k ++ name_of names c.function ++ open_of c.pieces) ++ x) (in_call names c begin opened times rest h opens)
    ∙ in_place names c.pieces (before_factor before k) (name_of names c.function) (times_text times) (onward names pieces.EndOfArguments opened rest)

end_is_factor : IsFactor pieces.EndOfArguments
end_is_factor = record { star = λ c. refl; number = λ c. refl }

-- non-commuting functions
word_passed : (names : List Entry) (cs : List Call) (rest : List Piece) → AllByRecursion (IsPut names) cs → coefficient_in 0 (flat_map (pieces_of_call pieces.NonCommuting) cs ++ rest) ≡ coefficient_in 0 rest
word_passed names [] rest h = refl
word_passed names (c ∷ cs) rest h =
    ap (coefficient_in 0) (append_assoc (pieces_of_call pieces.NonCommuting c) (flat_map (pieces_of_call pieces.NonCommuting) cs) rest)
    ∙ call_passed c.pieces (flat_map (pieces_of_call pieces.NonCommuting) cs ++ rest) h.0.balanced
    ∙ word_passed names cs rest h.1

word_put : (names : List Entry) (cs : List Call) (before : Piece) (opened : List ℕ) (k : Fraction) (rest : List Piece) → AllByRecursion (IsPut names) cs → coefficient_in 0 rest ≡ k →
    ArePut names before opened k (flat_map (pieces_of_call pieces.NonCommuting) cs) (map (call_text names) cs) rest
word_put names [] before opened k rest h e = none_put names before opened k rest
word_put names (c ∷ cs) before opened k rest h e =
    let more : List Piece = flat_map (pieces_of_call pieces.NonCommuting) cs ++ rest in
    and_then names before opened k (pieces_of_call pieces.NonCommuting c) (flat_map (pieces_of_call pieces.NonCommuting) cs) (call_text names c ∷ []) (map (call_text names) cs) rest
    (one_put names before pieces.EndOfArguments opened k (pieces_of_call pieces.NonCommuting c) (call_text names c) more end_is_factor
    (one_piece names before 0 1 opened (pieces.NonCommuting c.function) ((c.pieces ++ pieces.EndOfArguments ∷ []) ++ more) refl refl
    ∙ put_call names c before (pieces.NonCommuting c.function) opened 1 more k h.0 (record { comma = refl; close = refl }) (word_passed names cs rest h.1 ∙ e)
    ∙ ap (λ x. (before_factor before k ++ x) ++ onward names pieces.EndOfArguments opened more) (append-nil (call_text names c))))
    (λ mid. word_put names cs mid opened k rest h.1 e)

-- commuting functions
functions_passed : (names : List Entry) (cs : List Call) (rest : List Piece) → AllByRecursion (IsPut names) cs → coefficient_in 0 (flat_map (pieces_of_call pieces.Function) cs ++ rest) ≡ coefficient_in 0 rest
functions_passed names [] rest h = refl
functions_passed names (c ∷ cs) rest h =
    ap (coefficient_in 0) (append_assoc (pieces_of_call pieces.Function c) (flat_map (pieces_of_call pieces.Function) cs) rest)
    ∙ call_passed c.pieces (flat_map (pieces_of_call pieces.Function) cs ++ rest) h.0.balanced
    ∙ functions_passed names cs rest h.1

all_balanced : (names : List Entry) (cs : List Call) → AllByRecursion (IsPut names) cs → AllByRecursion (λ c. IsBalanced c.pieces) cs
all_balanced names [] h = tt
all_balanced names (c ∷ cs) h = (h.0.balanced, all_balanced names cs h.1)

-- all of these is passed over
passing : (names : List Entry) (before : Piece) (times : ℕ) (opened : List ℕ) (xs more : List Piece) → text_behind names before (length xs) times opened (xs ++ more) ≡ text_behind names before 0 times opened more
passing names before times opened [] more = refl
passing names before times opened (x ∷ xs) more =
    over_one names before (suc (length xs)) times opened x (xs ++ more) (lt-ltb 0 (suc (length xs)) (omega arith))
    ∙ ap (λ n. text_behind names before n times opened (xs ++ more)) (one_less (length xs))
    ∙ passing names before times opened xs more
  where
    one_less : (n : ℕ) → suc n - 1 ≡ n
    one_less n = omega arith

-- a function that is followed by the same one
over_call : (names : List Entry) (c : Call) (before : Piece) (times : ℕ) (opened : List ℕ) (more : List Piece) → IsBalanced c.pieces → is_repeated (pieces_of_call pieces.Function c ++ more) ≡ true →
    text_behind names before 0 times opened (pieces_of_call pieces.Function c ++ more) ≡ text_behind names before 0 (times + 1) opened more
over_call names c before times opened more h again =
    let ps : List Piece = (c.pieces ++ pieces.EndOfArguments ∷ []) ++ more in
    over_function names before 0 times opened (pieces.Function c.function) ps refl again
    ∙ ap (λ n. text_behind names before n (times + 1) opened ps) (call_length c.pieces more h)
    ∙ passing names before (times + 1) opened (c.pieces ++ pieces.EndOfArguments ∷ []) more

-- the last one of equal ones
last_call : (names : List Entry) (c : Call) (before : Piece) (times : ℕ) (opened : List ℕ) (more : List Piece) (k : Fraction) → IsPut names c → coefficient_in 0 more ≡ k → is_repeated (pieces_of_call pieces.Function c ++ more) ≡ false →
    text_behind names before 0 times opened (pieces_of_call pieces.Function c ++ more) ≡ (before_factor before k ++ (call_text names c ++ times_text times)) ++ onward names pieces.EndOfArguments opened more
last_call names c before times opened more k h e other =
    one_piece names before 0 times opened (pieces.Function c.function) ((c.pieces ++ pieces.EndOfArguments ∷ []) ++ more) refl other
    ∙ put_call names c before (pieces.Function c.function) opened times more k h (record { comma = refl; close = refl }) e

-- one function further, by whether the same one follows
choose : (names : List Entry) (c : Call) (cs : List Call) (before : Piece) (times : ℕ) (opened : List ℕ) (rest : List Piece) (k : Fraction) → IsPut names c →
    coefficient_in 0 (flat_map (pieces_of_call pieces.Function) cs ++ rest) ≡ k →
    (b : Bool) → is_repeated (pieces_of_call pieces.Function c ++ (flat_map (pieces_of_call pieces.Function) cs ++ rest)) ≡ b →
    (b ≡ true → text_behind names before 0 (times + 1) opened (flat_map (pieces_of_call pieces.Function) cs ++ rest) ≡ put_behind before k (function_texts names (times + 1) cs) ++ onward names pieces.EndOfArguments opened rest) →
    (onward names pieces.EndOfArguments opened (flat_map (pieces_of_call pieces.Function) cs ++ rest) ≡ starred false (function_texts names 1 cs) ++ onward names pieces.EndOfArguments opened rest) →
    text_behind names before 0 times opened (pieces_of_call pieces.Function c ++ (flat_map (pieces_of_call pieces.Function) cs ++ rest))
    ≡ put_behind before k (if b then function_texts names (times + 1) cs else (call_text names c ++ times_text times) ∷ function_texts names 1 cs) ++ onward names pieces.EndOfArguments opened rest
choose names c cs before times opened rest k h e true again equal other =
    over_call names c before times opened (flat_map (pieces_of_call pieces.Function) cs ++ rest) h.balanced again ∙ equal refl
choose names c cs before times opened rest k h e false last equal other =
    last_call names c before times opened (flat_map (pieces_of_call pieces.Function) cs ++ rest) k h e last
    ∙ ap (λ x. (before_factor before k ++ (call_text names c ++ times_text times)) ++ x) other
    ∙ sym (append_assoc (before_factor before k ++ (call_text names c ++ times_text times)) (starred false (function_texts names 1 cs)) (onward names pieces.EndOfArguments opened rest))

functions_behind : (names : List Entry) (c : Call) (cs : List Call) (before : Piece) (times : ℕ) (opened : List ℕ) (rest : List Piece) (k : Fraction) → AllByRecursion (IsPut names) (c ∷ cs) → coefficient_in 0 rest ≡ k → IsOther rest →
    text_behind names before 0 times opened (flat_map (pieces_of_call pieces.Function) (c ∷ cs) ++ rest) ≡ put_behind before k (function_texts names times (c ∷ cs)) ++ onward names pieces.EndOfArguments opened rest
functions_behind names c [] before times opened rest k h e other =
    ap (text_behind names before 0 times opened) (append_assoc (pieces_of_call pieces.Function c) [] rest)
    ∙ choose names c [] before times opened rest k h.0 e false (repeated c [] rest h.0.balanced tt other) (λ no_more. cc) refl
functions_behind names c (d ∷ ds) before times opened rest k h e other =
    ap (text_behind names before 0 times opened) (append_assoc (pieces_of_call pieces.Function c) (flat_map (pieces_of_call pieces.Function) (d ∷ ds)) rest)
    ∙ choose names c (d ∷ ds) before times opened rest k h.0 (functions_passed names (d ∷ ds) rest h.1 ∙ e)
    (is_followed c (d ∷ ds)) (repeated c (d ∷ ds) rest h.0.balanced (all_balanced names (d ∷ ds) h.1) other)
    (λ same. functions_behind names d ds before (times + 1) opened rest k h.1 e other)
    (functions_behind names d ds pieces.EndOfArguments 1 opened rest k h.1 e other
    ∙ ap (λ x. x ++ onward names pieces.EndOfArguments opened rest) (behind_factor pieces.EndOfArguments k (function_texts names 1 (d ∷ ds)) end_is_factor))

some : (names : List Entry) (c : Call) (cs : List Call) (times : ℕ) (before after : Piece) → IsFactor after → StandsBehind before (function_texts names times (c ∷ cs)) after
some names c [] times before after h = h
some names c (d ∷ ds) times before after h = by_test (is_followed c (d ∷ ds)) (function_texts names (times + 1) (d ∷ ds)) (call_text names c ++ times_text times) (function_texts names 1 (d ∷ ds)) (some names d ds (times + 1) before after h)
  where
    by_test : (b : Bool) (more : List (List ℕ)) (x : List ℕ) (last : List (List ℕ)) → StandsBehind before more after → StandsBehind before (if b then more else x ∷ last) after
    by_test true more x last k = k
    by_test false more x last k = h

functions_put : (names : List Entry) (cs : List Call) (before : Piece) (opened : List ℕ) (k : Fraction) (rest : List Piece) → AllByRecursion (IsPut names) cs → coefficient_in 0 rest ≡ k → IsOther rest →
    ArePut names before opened k (flat_map (pieces_of_call pieces.Function) cs) (function_texts names 1 cs) rest
functions_put names [] before opened k rest h e other = none_put names before opened k rest
functions_put names (c ∷ cs) before opened k rest h e other = record {
  after = pieces.EndOfArguments;
  put = functions_behind names c cs before 1 opened rest k h e other;
  stands = some names c cs 1 before pieces.EndOfArguments end_is_factor;
}

-- what follows the commuting functions
other_behind : (word : List Call) (c : Coefficient) (rest : List Piece) → IsOther (flat_map (pieces_of_call pieces.NonCommuting) word ++ (pieces.EndOfTerm c ∷ rest))
other_behind [] c rest = other_end c rest
other_behind (w ∷ ws) c rest = other_word w.function (((w.pieces ++ pieces.EndOfArguments ∷ []) ++ flat_map (pieces_of_call pieces.NonCommuting) ws) ++ (pieces.EndOfTerm c ∷ rest))

-- ---- all factors of a term

pub term_put : (names : List Entry) (t : Term) (before : Piece) (opened : List ℕ) (c : Coefficient) (rest : List Piece) → AllByRecursion (IsPut names) t.others.functions → AllByRecursion (IsPut names) t.others.word →
    ArePut names before opened (fraction_of c) (pieces_of_term t) (factor_texts names t) (pieces.EndOfTerm c ∷ rest)
term_put names t before opened c rest in_functions in_word =
    let k : Fraction = fraction_of c in
    let imaginary : List Piece = if t.others.is_imaginary then pieces.Imaginary ∷ [] else [] in
    let symbols : List Piece = map piece_of_power t.symbols in
    let dots : List Piece = map piece_of_dot t.others.dots in
    let components : List Piece = map pieces.Component t.others.components in
    let deltas : List Piece = map pieces.Delta t.others.deltas in
    let functions : List Piece = flat_map (pieces_of_call pieces.Function) t.others.functions in
    let word : List Piece = flat_map (pieces_of_call pieces.NonCommuting) t.others.word in
    let behind_word : List Piece = pieces.EndOfTerm c ∷ rest in
    let behind_functions : List Piece = word ++ behind_word in
    let behind_deltas : List Piece = functions ++ behind_functions in
    let behind_components : List Piece = deltas ++ behind_deltas in
    let behind_dots : List Piece = components ++ behind_components in
    let behind_symbols : List Piece = dots ++ behind_dots in
    let behind_imaginary : List Piece = symbols ++ behind_symbols in
    let at_word : coefficient_in 0 behind_word ≡ k = refl in
    let at_functions : coefficient_in 0 behind_functions ≡ k = word_passed names t.others.word behind_word in_word ∙ at_word in
    let at_deltas : coefficient_in 0 behind_deltas ≡ k = functions_passed names t.others.functions behind_functions in_functions ∙ at_functions in
    let at_components : coefficient_in 0 behind_components ≡ k = listed_passed names pieces.Delta (delta_text names) (a_delta names) t.others.deltas behind_deltas ∙ at_deltas in
    let at_dots : coefficient_in 0 behind_dots ≡ k = listed_passed names pieces.Component (component_text names) (a_component names) t.others.components behind_components ∙ at_components in
    let at_symbols : coefficient_in 0 behind_symbols ≡ k = listed_passed names piece_of_dot (dot_text names) (a_dot names) t.others.dots behind_dots ∙ at_dots in
    let at_imaginary : coefficient_in 0 behind_imaginary ≡ k = listed_passed names piece_of_power (factor_text names) (a_power names) t.symbols behind_symbols ∙ at_symbols in
    let i_texts : List (List ℕ) = imaginary_texts t.others.is_imaginary in
    let s_texts : List (List ℕ) = map (factor_text names) t.symbols in
    let d_texts : List (List ℕ) = map (dot_text names) t.others.dots in
    let c_texts : List (List ℕ) = map (component_text names) t.others.components in
    let e_texts : List (List ℕ) = map (delta_text names) t.others.deltas in
    let f_texts : List (List ℕ) = function_texts names 1 t.others.functions in
    let w_texts : List (List ℕ) = map (call_text names) t.others.word in
    let one = imaginary_put names t.others.is_imaginary before opened k behind_imaginary at_imaginary in
    let two = and_then names before opened k imaginary symbols i_texts s_texts behind_symbols one (λ mid. listed_put names piece_of_power (factor_text names) (a_power names) t.symbols mid opened k behind_symbols at_symbols) in
    let three = and_then names before opened k (imaginary ++ symbols) dots (i_texts ++ s_texts) d_texts behind_dots two (λ mid. listed_put names piece_of_dot (dot_text names) (a_dot names) t.others.dots mid opened k behind_dots at_dots) in
    let four = and_then names before opened k (imaginary ++ symbols ++ dots) components (i_texts ++ s_texts ++ d_texts) c_texts behind_components three (λ mid. listed_put names pieces.Component (component_text names) (a_component names) t.others.components mid opened k behind_components at_components) in
    let five = and_then names before opened k (imaginary ++ symbols ++ dots ++ components) deltas (i_texts ++ s_texts ++ d_texts ++ c_texts) e_texts behind_deltas four (λ mid. listed_put names pieces.Delta (delta_text names) (a_delta names) t.others.deltas mid opened k behind_deltas at_deltas) in
    let six = and_then names before opened k (imaginary ++ symbols ++ dots ++ components ++ deltas) functions (i_texts ++ s_texts ++ d_texts ++ c_texts ++ e_texts) f_texts behind_functions five (λ mid. functions_put names t.others.functions mid opened k behind_functions in_functions at_functions (other_behind t.others.word c rest)) in
    and_then names before opened k (imaginary ++ symbols ++ dots ++ components ++ deltas ++ functions) word (i_texts ++ s_texts ++ d_texts ++ c_texts ++ e_texts ++ f_texts) w_texts behind_word six (λ mid. word_put names t.others.word mid opened k behind_word in_word at_word)
