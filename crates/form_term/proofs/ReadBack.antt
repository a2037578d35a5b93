-- Reading a function's arguments from their pieces gives the arguments that the pieces are those of.
use Rattle.std.proofs.Common.{◌≡◌, ℕ, zero, suc, ◌-◌, Bool, true, false, List, [], ◌∷◌, ◌++◌, map, length, take, length-append, if◌then◌else◌, refl, sym, ap, ◌∙◌, subst, append_assoc, append-nil, arith}
use Rattle.std.specs.Prelude.{All, flat_map}
use Rattle.std.specs.Int.{is_negative}
use Rattle.std.specs.List.{AllByRecursion}
use Rattle.std.proofs.lemmas.List.Elements.{recursion_from_All}
use Rattle.std.proofs.Math.Seq.{take-append_seam}
use Rattle.form_term.specs.declared.power.Power.{Power}
use Rattle.form_term.specs.declared.power.DotPower.{DotPower}
use Rattle.form_term.specs.declared.piece.Piece.{Piece}
use Rattle.form_term.specs.declared.index.Component.{Component}
use Rattle.form_term.specs.declared.index.Delta.{Delta}
use Rattle.form_term.specs.declared.piece.Piece.TheVariants as pieces
use Rattle.form_term.specs.Pieces.{piece_of_power, piece_of_dot}
use Rattle.form_term.specs.Term.{Argument, Call, Others, Summand, Term, index, vector, expression, one, AreArguments, IsArgumentOf, IsCall, IsCallTo, IsTerm, IsTermOf, pieces_of_argument, pieces_of_arguments, pieces_of_call, pieces_of_summand, pieces_of_term}
use Rattle.form_term.specs.Arguments.{level_behind, joined, parts_from, parts_of, before_last, summands_from, argument_in, arguments_of}
use Rattle.form_term.specs.Reading.{IsLawfulPart}
use Rattle.form_term.proofs.Nesting.{pieces_map, term_map}
use Rattle.form_term.proofs.Balanced.{is_alone, IsKept, in_call, in_summands}

-- ---- parts

-- these before the first of such parts
abbrev pub onto : List Piece → List (List Piece) → List (List Piece)
onto [] parts = parts
onto (x ∷ xs) parts = joined x 1 (onto xs parts)

onto_both : (xs ys : List Piece) (parts : List (List Piece)) → onto (xs ++ ys) parts ≡ onto xs (onto ys parts)
onto_both [] ys parts = refl
onto_both (x ∷ xs) ys parts = ap (joined x 1) (onto_both xs ys parts)

onto_first : (xs part : List Piece) (parts : List (List Piece)) → onto xs (part ∷ parts) ≡ (xs ++ part) ∷ parts
onto_first [] part parts = refl
onto_first (x ∷ xs) part parts = ap (joined x 1) (onto_first xs part parts)

pub level_same : (level : ℕ) (p : Piece) → is_alone p ≡ true → level_behind level p ≡ level
level_same level pieces.EndOfArguments e = cc
level_same level pieces.EndOfSum e = cc
level_same level (pieces.Negative p) e = refl
level_same level (pieces.NegativeDot d) e = refl
level_same level (pieces.EndOfTerm c) e = refl
level_same level (pieces.NonCommuting f) e = cc
level_same level (pieces.Function f) e = cc
level_same level (pieces.Delta d) e = refl
level_same level (pieces.Component c) e = refl
level_same level (pieces.PositiveDot p q x) e = refl
level_same level (pieces.Positive s x) e = refl
level_same level pieces.Imaginary e = refl
level_same level (pieces.Index i) e = refl
level_same level (pieces.Vector v) e = refl
level_same level pieces.Sum e = cc

-- What holds of pieces that end all that they begin, where they are inside a part: the part goes on with them.
abbrev pub GoOn : List Piece → Type 0
GoOn xs = (level : ℕ) (rest : List Piece) → parts_from (suc level) (xs ++ rest) ≡ onto xs (parts_from (suc level) rest)

go_on : IsKept GoOn
go_on = record {
  none = λ level rest. refl;
  both = λ xs ys p q level rest. ap (parts_from (suc level)) (append_assoc xs ys rest) ∙ p level (ys ++ rest) ∙ ap (onto xs) (q level rest) ∙ sym (onto_both xs ys (parts_from (suc level) rest));
  alone = λ p e level rest. inside (suc level) level p rest (level_same (suc level) p e);
  sum = λ xs h level rest. between level pieces.Sum pieces.EndOfSum xs rest h refl (down level);
  function = λ f xs h level rest. between level (pieces.Function f) pieces.EndOfArguments xs rest h refl (down level);
  non_commuting = λ f xs h level rest. between level (pieces.NonCommuting f) pieces.EndOfArguments xs rest h refl (down level);
}
  where
    down : (level : ℕ) → suc (suc level) - 1 ≡ suc level
    down level = omega arith

    same_part : (level : ℕ) (p : Piece) (parts : List (List Piece)) → joined p (suc level) parts ≡ joined p 1 parts
    same_part level p [] = refl
    same_part level p (part ∷ parts) = refl

    inside : (level next : ℕ) (p : Piece) (rest : List Piece) → level_behind level p ≡ suc next → parts_from level (p ∷ rest) ≡ joined p 1 (parts_from (suc next) rest)
    inside level next p rest e = ap (λ n. joined p n (parts_from n rest)) e ∙ same_part next p (parts_from (suc next) rest)

    between : (level : ℕ) (first last : Piece) (xs rest : List Piece) → GoOn xs → level_behind (suc level) first ≡ suc (suc level) → level_behind (suc (suc level)) last ≡ suc level
        → parts_from (suc level) ((first ∷ xs ++ last ∷ []) ++ rest) ≡ onto (first ∷ xs ++ last ∷ []) (parts_from (suc level) rest)
    between level first last xs rest h up down =
        inside (suc level) (suc level) first ((xs ++ last ∷ []) ++ rest) up
        ∙ ap (joined first 1) (ap (parts_from (suc (suc level))) (append_assoc xs (last ∷ []) rest) ∙ h (suc level) (last ∷ rest) ∙ ap (onto xs) (inside (suc (suc level)) level last rest down) ∙ sym (onto_both xs (last ∷ []) (parts_from (suc level) rest)))

-- a part from its beginning to its end
part_whole : (first last : Piece) (xs rest : List Piece) → GoOn xs → level_behind 0 first ≡ 1 → level_behind 1 last ≡ 0 → parts_from 0 ((first ∷ xs ++ last ∷ []) ++ rest) ≡ (first ∷ xs ++ last ∷ []) ∷ parts_from 0 rest
part_whole first last xs rest h up down =
    ap (λ n. joined first n (parts_from n ((xs ++ last ∷ []) ++ rest))) up
    ∙ ap (joined first 1) (ap (parts_from 1) (append_assoc xs (last ∷ []) rest) ∙ h 0 (last ∷ rest) ∙ ap (onto xs) (ap (λ n. joined last n (parts_from n rest)) down) ∙ onto_first xs (last ∷ []) (parts_from 0 rest))

-- the part that a function is
pub call_part : (c : Call) (rest : List Piece) → IsCall c → parts_from 0 (pieces_of_call pieces.Function c ++ rest) ≡ pieces_of_call pieces.Function c ∷ parts_from 0 rest
call_part c rest h = part_whole (pieces.Function c.function) pieces.EndOfArguments c.pieces rest (in_call GoOn go_on c h) refl refl

pub word_part : (c : Call) (rest : List Piece) → IsCall c → parts_from 0 (pieces_of_call pieces.NonCommuting c ++ rest) ≡ pieces_of_call pieces.NonCommuting c ∷ parts_from 0 rest
word_part c rest h = part_whole (pieces.NonCommuting c.function) pieces.EndOfArguments c.pieces rest (in_call GoOn go_on c h) refl refl

-- the part that an argument is
pub argument_part : (a : Argument) (rest : List Piece) → IsArgumentOf IsTerm a → parts_from 0 (pieces_of_argument a ++ rest) ≡ pieces_of_argument a ∷ parts_from 0 rest
argument_part (index i) rest h = refl
argument_part (vector v) rest h = refl
argument_part (expression ss) rest h = part_whole pieces.Sum pieces.EndOfSum (flat_map pieces_of_summand ss) rest (in_summands GoOn go_on ss h.terms) refl refl

-- ---- terms

abbrev pub end_of : Summand → Piece
end_of s = pieces.EndOfTerm (record { numerator = s.coefficient.numerator; denominator = s.coefficient.denominator })

before_end : (xs : List Piece) (p : Piece) → before_last (xs ++ p ∷ []) ≡ xs
before_end xs p =
    let e : length (xs ++ p ∷ []) - 1 ≡ length xs = omega (arith, length-append xs (p ∷ [])) in
    ap (λ n. take n (xs ++ p ∷ [])) e ∙ take-append_seam xs (p ∷ [])

-- What holds where reading these pieces makes the one factor list the other: what is behind them is read with that, and they are lawful parts.
record Adds (xs : List Piece) (t u : Term) : Type 0 where
  read : (rest : List Piece) → summands_from t (parts_from 0 (xs ++ rest)) ≡ summands_from u (parts_from 0 rest)
  lawful : (rest : List Piece) → AllByRecursion IsLawfulPart (parts_from 0 rest) → AllByRecursion IsLawfulPart (parts_from 0 (xs ++ rest))

none : (t : Term) → Adds [] t t
none t = record { read = λ rest. refl; lawful = λ rest h. h }

and_then : (xs ys : List Piece) (t u v : Term) → Adds xs t u → Adds ys u v → Adds (xs ++ ys) t v
and_then xs ys t u v h k = record {
  read = λ rest. ap (λ ps. summands_from t (parts_from 0 ps)) (append_assoc xs ys rest) ∙ h.read (ys ++ rest) ∙ k.read rest;
  lawful = λ rest all. subst (λ ps. AllByRecursion IsLawfulPart (parts_from 0 ps)) (sym (append_assoc xs ys rest)) (h.lawful (ys ++ rest) (k.lawful rest all));
}

-- a list of factors of one kind, put behind those that are there
module _ {A : Type 0} (with : List A → Term) where
  same : (xs : List A) → Adds [] (with xs) (with (xs ++ []))
  same xs = subst (λ zs. Adds [] (with xs) (with zs)) (sym (append-nil xs)) (none (with xs))

  listed : (piece : A → Piece) → ((xs : List A) (x : A) → Adds (piece x ∷ []) (with xs) (with (xs ++ x ∷ []))) → (xs ys : List A) → Adds (map piece ys) (with xs) (with (xs ++ ys))
  listed piece each xs [] = same xs
  listed piece each xs (y ∷ ys) =
      subst (λ zs. Adds (map piece (y ∷ ys)) (with xs) (with zs)) (append_assoc xs (y ∷ []) ys)
      (and_then (piece y ∷ []) (map piece ys) (with xs) (with (xs ++ y ∷ [])) (with ((xs ++ y ∷ []) ++ ys)) (each xs y) (listed piece each (xs ++ y ∷ []) ys))

  held : (P : A → Type 0) (pieces_of : A → List Piece) → ((xs : List A) (x : A) → P x → Adds (pieces_of x) (with xs) (with (xs ++ x ∷ []))) → (xs ys : List A) → AllByRecursion P ys → Adds (flat_map pieces_of ys) (with xs) (with (xs ++ ys))
  held P pieces_of each xs [] h = same xs
  held P pieces_of each xs (y ∷ ys) h =
      subst (λ zs. Adds (flat_map pieces_of (y ∷ ys)) (with xs) (with zs)) (append_assoc xs (y ∷ []) ys)
      (and_then (pieces_of y) (flat_map pieces_of ys) (with xs) (with (xs ++ y ∷ [])) (with ((xs ++ y ∷ []) ++ ys)) (each xs y h.0) (held P pieces_of each (xs ++ y ∷ []) ys h.1))

add_imaginary : (b : Bool) → Adds (if b then pieces.Imaginary ∷ [] else []) one (record { symbols = []; others = record one.others { is_imaginary = b } })
add_imaginary true = record { read = λ rest. refl; lawful = λ rest h. (tt, h) }
add_imaginary false = record { read = λ rest. refl; lawful = λ rest h. h }

add_power : (o : Others) (ps : List Power) (p : Power) → Adds (piece_of_power p ∷ []) (record { symbols = ps; others = o }) (record { symbols = ps ++ p ∷ []; others = o })
add_power o ps p = by (is_negative p.exponent)
  where
    by : (b : Bool) → Adds ((if b then pieces.Negative p else pieces.Positive (record { 0 = p.symbol }) p.exponent) ∷ []) (record { symbols = ps; others = o }) (record { symbols = ps ++ p ∷ []; others = o })
    by true = record { read = λ rest. refl; lawful = λ rest h. (tt, h) }
    by false = record { read = λ rest. refl; lawful = λ rest h. (tt, h) }

abbrev with_dots : List Power → Others → List DotPower → Term
with_dots ps o ds = record { symbols = ps; others = record o { dots = ds } }

add_dot : (ps : List Power) (o : Others) (ds : List DotPower) (d : DotPower) → Adds (piece_of_dot d ∷ []) (with_dots ps o ds) (with_dots ps o (ds ++ d ∷ []))
add_dot ps o ds d = by (is_negative d.exponent)
  where
    by : (b : Bool) → Adds ((if b then pieces.NegativeDot d else pieces.PositiveDot (record { 0 = d.left }) (record { 0 = d.right }) d.exponent) ∷ []) (with_dots ps o ds) (with_dots ps o (ds ++ d ∷ []))
    by true = record { read = λ rest. refl; lawful = λ rest h. (tt, h) }
    by false = record { read = λ rest. refl; lawful = λ rest h. (tt, h) }

abbrev with_components : List Power → Others → List Component → Term
with_components ps o cs = record { symbols = ps; others = record o { components = cs } }

add_component : (ps : List Power) (o : Others) (cs : List Component) (c : Component) → Adds (pieces.Component c ∷ []) (with_components ps o cs) (with_components ps o (cs ++ c ∷ []))
add_component ps o cs c = record { read = λ rest. refl; lawful = λ rest h. (tt, h) }

abbrev with_deltas : List Power → Others → List Delta → Term
with_deltas ps o ds = record { symbols = ps; others = record o { deltas = ds } }

add_delta : (ps : List Power) (o : Others) (ds : List Delta) (d : Delta) → Adds (pieces.Delta d ∷ []) (with_deltas ps o ds) (with_deltas ps o (ds ++ d ∷ []))
add_delta ps o ds d = record { read = λ rest. refl; lawful = λ rest h. (tt, h) }

abbrev call_by : Call → List Piece → Call
call_by c qs = record { function = c.function; pieces = qs }

abbrev with_functions : List Power → Others → List Call → Term
with_functions ps o cs = record { symbols = ps; others = record o { functions = cs } }

add_call : (ps : List Power) (o : Others) (cs : List Call) (c : Call) → IsCall c → Adds (pieces_of_call pieces.Function c) (with_functions ps o cs) (with_functions ps o (cs ++ c ∷ []))
add_call ps o cs c h = record {
  read = λ rest. ap (summands_from (with_functions ps o cs)) (call_part c rest h)
      ∙ ap (λ qs. summands_from (with_functions ps o (cs ++ call_by c qs ∷ [])) (parts_from 0 rest)) (before_end c.pieces pieces.EndOfArguments);
  lawful = λ rest all. subst (AllByRecursion IsLawfulPart) (sym (call_part c rest h)) (subst (λ qs. IsCall (call_by c qs)) (sym (before_end c.pieces pieces.EndOfArguments)) h, all);
}

abbrev with_word : List Power → Others → List Call → Term
with_word ps o cs = record { symbols = ps; others = record o { word = cs } }

add_letter : (ps : List Power) (o : Others) (cs : List Call) (c : Call) → IsCall c → Adds (pieces_of_call pieces.NonCommuting c) (with_word ps o cs) (with_word ps o (cs ++ c ∷ []))
add_letter ps o cs c h = record {
  read = λ rest. ap (summands_from (with_word ps o cs)) (word_part c rest h)
      ∙ ap (λ qs. summands_from (with_word ps o (cs ++ call_by c qs ∷ [])) (parts_from 0 rest)) (before_end c.pieces pieces.EndOfArguments);
  lawful = λ rest all. subst (AllByRecursion IsLawfulPart) (sym (word_part c rest h)) (subst (λ qs. IsCall (call_by c qs)) (sym (before_end c.pieces pieces.EndOfArguments)) h, all);
}

-- the factors of a term
add_term : (t : Term) → IsTerm t → Adds (pieces_of_term t) one t
add_term t h =
    let o : Others = t.others in
    let ps : List Power = t.symbols in
    let o1 : Others = record one.others { is_imaginary = o.is_imaginary } in
    let o2 : Others = record o1 { dots = o.dots } in
    let o3 : Others = record o2 { components = o.components } in
    let o4 : Others = record o3 { deltas = o.deltas } in
    let o5 : Others = record o4 { functions = o.functions } in
    let first : List Piece = if o.is_imaginary then pieces.Imaginary ∷ [] else [] in
    let second : List Piece = first ++ map piece_of_power ps in
    let third : List Piece = second ++ map piece_of_dot o.dots in
    let fourth : List Piece = third ++ map pieces.Component o.components in
    let fifth : List Piece = fourth ++ map pieces.Delta o.deltas in
    let sixth : List Piece = fifth ++ flat_map (pieces_of_call pieces.Function) o.functions in
    let a2 : Adds second one (record { symbols = ps; others = o1 }) = and_then first (map piece_of_power ps) one (record { symbols = []; others = o1 }) (record { symbols = ps; others = o1 }) (add_imaginary o.is_imaginary) (listed (λ qs. record { symbols = qs; others = o1 }) piece_of_power (add_power o1) [] ps) in
    let a3 : Adds third one (with_dots ps o1 o.dots) = and_then second (map piece_of_dot o.dots) one (with_dots ps o1 []) (with_dots ps o1 o.dots) a2 (listed (with_dots ps o1) piece_of_dot (add_dot ps o1) [] o.dots) in
    let a4 : Adds fourth one (with_components ps o2 o.components) = and_then third (map pieces.Component o.components) one (with_components ps o2 []) (with_components ps o2 o.components) a3 (listed (with_components ps o2) pieces.Component (add_component ps o2) [] o.components) in
    let a5 : Adds fifth one (with_deltas ps o3 o.deltas) = and_then fourth (map pieces.Delta o.deltas) one (with_deltas ps o3 []) (with_deltas ps o3 o.deltas) a4 (listed (with_deltas ps o3) pieces.Delta (add_delta ps o3) [] o.deltas) in
    let a6 : Adds sixth one (with_functions ps o4 o.functions) = and_then fifth (flat_map (pieces_of_call pieces.Function) o.functions) one (with_functions ps o4 []) (with_functions ps o4 o.functions) a5 (held (with_functions ps o4) IsCall (pieces_of_call pieces.Function) (add_call ps o4) [] o.functions (recursion_from_All IsCall o.functions h.others.functions)) in
    and_then sixth (flat_map (pieces_of_call pieces.NonCommuting) o.word) one (with_word ps o5 []) t a6 (held (with_word ps o5) IsCall (pieces_of_call pieces.NonCommuting) (add_letter ps o5) [] o.word (recursion_from_All IsCall o.word h.others.word))

-- the terms of an expression
pub summands_read : (ss : List Summand) → AllByRecursion (λ s. IsTerm s.term) ss → summands_from one (parts_from 0 (flat_map pieces_of_summand ss)) ≡ ss
summands_read [] h = refl
summands_read (s ∷ ss) h =
    let rest : List Piece = flat_map pieces_of_summand ss in
    ap (λ ps. summands_from one (parts_from 0 ps)) (append_assoc (pieces_of_term s.term) (end_of s ∷ []) rest)
    ∙ (add_term s.term h.0).read (end_of s ∷ rest)
    ∙ ap (λ (more : List Summand). s ∷ more) (summands_read ss h.1)

pub summands_parts : (ss : List Summand) → AllByRecursion (λ s. IsTerm s.term) ss → AllByRecursion IsLawfulPart (parts_from 0 (flat_map pieces_of_summand ss))
summands_parts [] h = tt
summands_parts (s ∷ ss) h =
    let rest : List Piece = flat_map pieces_of_summand ss in
    subst (λ ps. AllByRecursion IsLawfulPart (parts_from 0 ps)) (sym (append_assoc (pieces_of_term s.term) (end_of s ∷ []) rest))
    ((add_term s.term h.0).lawful (end_of s ∷ rest) (tt, summands_parts ss h.1))

-- ---- arguments

argument_read : (a : Argument) → IsArgumentOf IsTerm a → argument_in (pieces_of_argument a) ≡ a
unfolding parts_of
argument_read (index i) h = refl
argument_read (vector v) h = refl
argument_read (expression ss) h =
    ap expression (ap (λ ps. summands_from one (parts_from 0 ps)) (before_end (flat_map pieces_of_summand ss) pieces.EndOfSum) ∙ summands_read ss (recursion_from_All (λ (s : Summand). IsTerm s.term) ss h.terms))

each_read : (args : List Argument) → AllByRecursion (IsArgumentOf IsTerm) args → map argument_in (parts_from 0 (pieces_of_arguments args)) ≡ args
each_read [] h = refl
each_read (a ∷ args) h =
    ap (map argument_in) (argument_part a (pieces_of_arguments args) h.0)
    ∙ ap (λ (x : Argument). x ∷ map argument_in (parts_from 0 (pieces_of_arguments args))) (argument_read a h.0)
    ∙ ap (λ (xs : List Argument). a ∷ xs) (each_read args h.1)

-- Reading undoes writing.
pub reading : (args : List Argument) → All (IsArgumentOf IsTerm) args → arguments_of (pieces_of_arguments args) ≡ args
unfolding arguments_of parts_of
reading args h = each_read args (recursion_from_All (IsArgumentOf IsTerm) args h)

-- The pieces of a lawful function are those of lawful arguments.
pub call_arguments : (c : Call) → IsCall c → AreArguments c.pieces
call_arguments c h = by h.nesting h.nests
  where
    by : (n : ℕ) → IsCallTo n c → AreArguments c.pieces
    by zero k = pieces_map (λ t. ⊥) IsTerm (λ t no_term. absurd no_term) c.pieces k
    by (suc n) k = pieces_map (IsTermOf (IsCallTo n)) IsTerm (term_map (IsCallTo n) IsCall (λ d nests. record { nesting = n; nests = nests })) c.pieces k

-- Lawful pieces are those of the arguments that are read from them.
abbrev pub IsReadBack : List Piece → Type 0
IsReadBack ps = (ps ≡ pieces_of_arguments (arguments_of ps)) × All (IsArgumentOf IsTerm) (arguments_of ps)

pub read_back : (ps : List Piece) → AreArguments ps → IsReadBack ps
read_back ps h =
    let e : arguments_of ps ≡ h.arguments = ap arguments_of h.written ∙ reading h.arguments h.lawful in
    (h.written ∙ ap pieces_of_arguments (sym e), subst (λ args. All (IsArgumentOf IsTerm) args) (sym e) h.lawful)
