-- The pieces of a term have the names that stand in it.
use Rattle.std.proofs.Common.{◌≡◌, ℕ, ◌==◌, Bool, true, false, ◌||◌, List, [], ◌∷◌, ◌++◌, map, refl, ap, ◌∙◌, if◌then◌else◌}
use Rattle.std.specs.Prelude.{flat_map}
use Rattle.std.specs.Int.{is_negative}
use Rattle.std.specs.List.{list_any}
use Rattle.std.proofs.lemmas.List.Folds.{list_any-append}
use Rattle.form_term.specs.declared.power.Power.{Power}
use Rattle.form_term.specs.declared.power.DotPower.{DotPower}
use Rattle.form_term.specs.declared.piece.Piece.{Piece}
use Rattle.form_term.specs.declared.piece.Piece.TheVariants as pieces
use Rattle.form_term.specs.Pieces.{piece_of_power, piece_of_dot}
use Rattle.form_term.specs.Term.{Term, Call, Summand, Argument, index, vector, expression, call_of, pieces_of_call, pieces_of_term, pieces_of_summand, pieces_of_argument}
use Rattle.form_cond.specs.Occurring.{in_power, in_dot, in_component, in_delta, in_piece, in_call, in_argument, occurs}

or_none : (b : Bool) → (b || false) ≡ b
or_none true = refl
or_none false = refl

both : (a b c d : Bool) → a ≡ c → b ≡ d → (a || b) ≡ (c || d)
both a b c d e f = ap (λ x. x || b) e ∙ ap (λ x. c || x) f

any-map : {A B : Type 0} (p : B → Bool) (q : A → Bool) (f : A → B) → ((x : A) → p (f x) ≡ q x) → (xs : List A) → list_any p (map f xs) ≡ list_any q xs
any-map p q f same [] = refl
any-map p q f same (x ∷ xs) = both (p (f x)) (list_any p (map f xs)) (q x) (list_any q xs) (same x) (any-map p q f same xs)

pub any-flat_map : {A B : Type 0} (p : B → Bool) (q : A → Bool) (f : A → List B) → ((x : A) → list_any p (f x) ≡ q x) → (xs : List A) → list_any p (flat_map f xs) ≡ list_any q xs
any-flat_map p q f same [] = refl
any-flat_map p q f same (x ∷ xs) =
    list_any-append p (f x) (flat_map f xs)
    ∙ both (list_any p (f x)) (list_any p (flat_map f xs)) (q x) (list_any q xs) (same x) (any-flat_map p q f same xs)

-- a mark at the end has no name
ends : (n : ℕ) (ps : List Piece) (p : Piece) → in_piece n p ≡ false → list_any (in_piece n) (ps ++ p ∷ []) ≡ list_any (in_piece n) ps
ends n ps p e =
    list_any-append (in_piece n) ps (p ∷ [])
    ∙ ap (λ b. list_any (in_piece n) ps || (b || false)) e
    ∙ or_none (list_any (in_piece n) ps)

of_power : (n : ℕ) (p : Power) → in_piece n (piece_of_power p) ≡ in_power n p
of_power n p = by (is_negative p.exponent)
  where
    by : (b : Bool) → in_piece n (if b then pieces.Negative p else pieces.Positive (record { 0 = p.symbol }) p.exponent) ≡ in_power n p
    by true = refl
    by false = refl

of_dot : (n : ℕ) (d : DotPower) → in_piece n (piece_of_dot d) ≡ in_dot n d
of_dot n d = by (is_negative d.exponent)
  where
    by : (b : Bool) → in_piece n (if b then pieces.NegativeDot d else pieces.PositiveDot (record { 0 = d.left }) (record { 0 = d.right }) d.exponent) ≡ in_dot n d
    by true = refl
    by false = refl

of_imaginary : (n : ℕ) (b : Bool) → list_any (in_piece n) (if b then pieces.Imaginary ∷ [] else []) ≡ false
of_imaginary n true = refl
of_imaginary n false = refl

of_function : (n : ℕ) (c : Call) → list_any (in_piece n) (pieces_of_call pieces.Function c) ≡ in_call n c
of_function n c = ap (λ b. c.function == n || b) (ends n c.pieces pieces.EndOfArguments refl)

of_call : (n : ℕ) (c : Call) → list_any (in_piece n) (pieces_of_call pieces.NonCommuting c) ≡ in_call n c
of_call n c = ap (λ b. c.function == n || b) (ends n c.pieces pieces.EndOfArguments refl)

-- the pieces in front of others
in_front : (n : ℕ) (ps qs : List Piece) (a b : Bool) → list_any (in_piece n) ps ≡ a → list_any (in_piece n) qs ≡ b → list_any (in_piece n) (ps ++ qs) ≡ (a || b)
in_front n ps qs a b e f = list_any-append (in_piece n) ps qs ∙ both (list_any (in_piece n) ps) (list_any (in_piece n) qs) a b e f

-- A name stands in a term where one of its pieces has it.
pub of_term : (n : ℕ) (t : Term) → list_any (in_piece n) (pieces_of_term t) ≡ occurs n t
unfolding occurs
of_term n t =
    let o = t.others in
    let imaginary = if o.is_imaginary then pieces.Imaginary ∷ [] else [] in
    let symbols = map piece_of_power t.symbols in
    let dots = map piece_of_dot o.dots in
    let components = map pieces.Component o.components in
    let deltas = map pieces.Delta o.deltas in
    let functions = flat_map (pieces_of_call pieces.Function) o.functions in
    let word = flat_map (pieces_of_call pieces.NonCommuting) o.word in
    let a = list_any (in_power n) t.symbols in
    let b = list_any (in_dot n) o.dots in
    let c = list_any (in_component n) o.components in
    let d = list_any (in_delta n) o.deltas in
    let e = list_any (in_call n) o.functions in
    in_front n (imaginary ++ symbols ++ dots ++ components ++ deltas ++ functions) word (a || b || c || d || e) (list_any (in_call n) o.word)
    (in_front n (imaginary ++ symbols ++ dots ++ components ++ deltas) functions (a || b || c || d) e
    (in_front n (imaginary ++ symbols ++ dots ++ components) deltas (a || b || c) d
    (in_front n (imaginary ++ symbols ++ dots) components (a || b) c
    (in_front n (imaginary ++ symbols) dots a b
    (in_front n imaginary symbols false a (of_imaginary n o.is_imaginary) (any-map (in_piece n) (in_power n) piece_of_power (of_power n) t.symbols))
    (any-map (in_piece n) (in_dot n) piece_of_dot (of_dot n) o.dots))
    (any-map (in_piece n) (in_component n) pieces.Component (λ x. refl) o.components))
    (any-map (in_piece n) (in_delta n) pieces.Delta (λ x. refl) o.deltas))
    (any-flat_map (in_piece n) (in_call n) (pieces_of_call pieces.Function) (of_function n) o.functions))
    (any-flat_map (in_piece n) (in_call n) (pieces_of_call pieces.NonCommuting) (of_call n) o.word)

of_summand : (n : ℕ) (s : Summand) → list_any (in_piece n) (pieces_of_summand s) ≡ occurs n s.term
of_summand n s = ends n (pieces_of_term s.term) (pieces.EndOfTerm (record { numerator = s.coefficient.numerator; denominator = s.coefficient.denominator })) refl ∙ of_term n s.term

of_argument : (n : ℕ) (a : Argument) → list_any (in_piece n) (pieces_of_argument a) ≡ in_argument n a
of_argument n (index i) = or_none (in_piece n (pieces.Index i))
of_argument n (vector v) = or_none (in_piece n (pieces.Vector v))
of_argument n (expression ss) =
    ends n (flat_map pieces_of_summand ss) pieces.EndOfSum refl
    ∙ any-flat_map (in_piece n) (λ s. occurs n s.term) pieces_of_summand (of_summand n) ss

-- A name stands in a function where it is that itself, or stands in one of its arguments.
pub of_arguments : (n f : ℕ) (args : List Argument) → in_call n (call_of f args) ≡ ((f == n) || list_any (in_argument n) args)
of_arguments n f args = ap (λ b. f == n || b) (any-flat_map (in_piece n) (in_argument n) pieces_of_argument (of_argument n) args)
