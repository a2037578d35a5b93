-- Candidates by their numbers are those of the definitions.
use Rattle.std.proofs.Common.{◌≡◌, ℕ, suc, ℤ, ◌+◌, ◌-◌, ◌*◌, ◌/◌, ◌%◌, ◌<◌, ◌≤◌, ◌==◌, Bool, true, false, if◌then◌else◌, cond, List, [], ◌∷◌, ◌++◌, length, Option, Some, None, option_and_then, option_to_list, refl, sym, ap, ◌∙◌, append_assoc, arith, length-append}
use Rattle.std.specs.Prelude.{flat_map, filter, slice_get}
use Rattle.std.specs.List.{filter_map, cons_option, enumerate_from, range_with_len}
use Rattle.form_term.specs.declared.power.DotPower.{DotPower}
use Rattle.form_term.specs.declared.piece.Piece.{Piece}
use Rattle.form_tree.specs.declared.pattern.Name.{Name}
use Rattle.form_tree.specs.declared.pattern.IndexName.{IndexName}
use Rattle.form_tree.specs.declared.pattern.PatternPiece.TheVariants as pieces
use Rattle.form_match.specs.declared.uses.Use.{Use}
use Rattle.form_match.specs.declared.uses.Use.TheVariants as uses
use Rattle.form_match.specs.Asking.{whole_or_absent, dot_at, dot_choice, delta_at, delta_choice}
use Rattle.form_match.specs.Candidates.{candidates, trial, function_trial, stretch_trial, from_candidate}
use Rattle.form_match.specs.Matching.{Host, Choice, and_asked, asked_vector, fits, is_uncut, symbol_choice, whole_choice, absent_choice, dot_choices, component_choice, taking}
use Rattle.form_match.specs.States.{Open, State, factors, with_choice, with_function, with_stretch, moves}
use Rattle.form_bindings.specs.Values.{Binding}

-- ---- one after another

pub candidate_first : {A : Type 0} (trial : ℕ → Option A) (count c : ℕ) → c < count → from_candidate trial count c ≡ cons_option (trial c) (from_candidate trial count (c + 1))
candidate_first trial count c within =
    let more : count - c ≡ suc (count - (c + 1)) = omega arith in
    ap (λ (n : ℕ). filter_map trial (range_with_len c n)) more

pub candidate_last : {A : Type 0} (trial : ℕ → Option A) (count c : ℕ) → count ≤ c → from_candidate trial count c ≡ []
candidate_last trial count c past =
    let none : count - c ≡ 0 = omega arith in
    ap (λ (n : ℕ). filter_map trial (range_with_len c n)) none

pub candidates_all : {A : Type 0} (trial : ℕ → Option A) (count : ℕ) → from_candidate trial count 0 ≡ filter_map trial (range_with_len 0 count)
candidates_all trial count = let all : count - 0 ≡ count = omega arith in ap (λ (n : ℕ). filter_map trial (range_with_len 0 n)) all

-- ---- those of a list

get_here : {A : Type 0} (front : List A) (x : A) (xs : List A) → slice_get (front ++ x ∷ xs) (length front) ≡ Some x
get_here [] x xs = refl
get_here (y ∷ front) x xs = get_here front x xs

-- each element by its place
by_place : {A B : Type 0} (f : ℕ → Option A → Option B) (front xs : List A)
    → filter_map (λ c. f c (slice_get (front ++ xs) c)) (range_with_len (length front) (length xs)) ≡ filter_map (λ e. f e.0 (Some e.1)) (enumerate_from (length front) xs)
by_place f front [] = refl
by_place f front (x ∷ xs) =
    let next : length (front ++ x ∷ []) ≡ length front + 1 = length-append front (x ∷ []) in
    ap (λ (o : Option _). cons_option (f (length front) o) (filter_map (λ c. f c (slice_get (front ++ x ∷ xs) c)) (range_with_len (length front + 1) (length xs)))) (get_here front x xs)
    ∙ ap (cons_option (f (length front) (Some x)))
    (ap (λ (l : List _). filter_map (λ c. f c (slice_get l c)) (range_with_len (length front + 1) (length xs))) (sym (append_assoc front (x ∷ []) xs))
    ∙ ap (λ (n : ℕ). filter_map (λ c. f c (slice_get ((front ++ x ∷ []) ++ xs) c)) (range_with_len n (length xs))) (sym next)
    ∙ by_place f (front ++ x ∷ []) xs
    ∙ ap (λ (n : ℕ). filter_map (λ e. f e.0 (Some e.1)) (enumerate_from n xs)) next)

pub placed : {A B : Type 0} (f : ℕ → Option A → Option B) (xs : List A) → filter_map (λ c. f c (slice_get xs c)) (range_with_len 0 (length xs)) ≡ filter_map (λ e. f e.0 (Some e.1)) (enumerate_from 0 xs)
placed f xs = by_place f [] xs

-- the places may be forgotten
forget : {A B : Type 0} (f : A → Option B) (n : ℕ) (xs : List A) → filter_map (λ e. f e.1) (enumerate_from n xs) ≡ filter_map f xs
forget f n [] = refl
forget f n (x ∷ xs) = ap (cons_option (f x)) (forget f (n + 1) xs)

-- some of some
pub some_some : {A B C : Type 0} (g : B → Option C) (f : A → Option B) (xs : List A) → filter_map g (filter_map f xs) ≡ filter_map (λ x. option_and_then g (f x)) xs
some_some g f [] = refl
some_some g f (x ∷ xs) = by (f x) (some_some g f xs)
  where
    by : (o : Option _) → filter_map g (filter_map f xs) ≡ filter_map (λ y. option_and_then g (f y)) xs
        → filter_map g (cons_option o (filter_map f xs)) ≡ cons_option (option_and_then g o) (filter_map (λ y. option_and_then g (f y)) xs)
    by None rest = rest
    by (Some y) rest = ap (cons_option (g y)) rest

-- two candidates for each element: as it stands and swapped
halves : (m : ℕ) → ((m * 2) / 2 ≡ m) × ((m * 2 + 1) / 2 ≡ m)
halves m = (omega arith, omega arith)

parities : (m : ℕ) → (((m * 2) % 2 == 1) ≡ false) × (((m * 2 + 1) % 2 == 1) ≡ true)
parities m =
    let even : (m * 2) % 2 ≡ 0 = omega arith in
    let odd : (m * 2 + 1) % 2 ≡ 1 = omega arith in
    (ap (λ (n : ℕ). n == 1) even, ap (λ (n : ℕ). n == 1) odd)

both_by_place : {A B : Type 0} (f : ℕ → Bool → A → Option B) (front xs : List A)
    → filter_map (λ c. option_and_then (f (c / 2) (c % 2 == 1)) (slice_get (front ++ xs) (c / 2))) (range_with_len (length front * 2) (length xs * 2))
    ≡ flat_map (λ e. option_to_list (f e.0 false e.1) ++ option_to_list (f e.0 true e.1)) (enumerate_from (length front) xs)
both_by_place f front [] = refl
both_by_place {A} {B} f front (x ∷ xs) =
    let m = length front in
    let whole = front ++ x ∷ xs in
    let trial : ℕ → Option B = λ (c : ℕ). option_and_then (f (c / 2) (c % 2 == 1)) (slice_get whole (c / 2)) in
    let two : suc (length xs) * 2 ≡ suc (suc (length xs * 2)) = omega arith in
    let next : length (front ++ x ∷ []) * 2 ≡ m * 2 + 1 + 1 = omega (arith, length-append front (x ∷ [])) in
    let place : length (front ++ x ∷ []) ≡ m + 1 = length-append front (x ∷ []) in
    let first : trial (m * 2) ≡ f m false x =
    ap (λ (k : ℕ). option_and_then (f k ((m * 2) % 2 == 1)) (slice_get whole k)) (halves m).0
    ∙ ap (λ (b : Bool). option_and_then (f m b) (slice_get whole m)) (parities m).0
    ∙ ap (option_and_then (f m false)) (get_here front x xs) in
    let second : trial (m * 2 + 1) ≡ f m true x =
    ap (λ (k : ℕ). option_and_then (f k ((m * 2 + 1) % 2 == 1)) (slice_get whole k)) (halves m).1
    ∙ ap (λ (b : Bool). option_and_then (f m b) (slice_get whole m)) (parities m).1
    ∙ ap (option_and_then (f m true)) (get_here front x xs) in
    ap (λ (n : ℕ). filter_map trial (range_with_len (m * 2) n)) two
    ∙ ap (λ (o : Option B). cons_option o (cons_option (trial (m * 2 + 1)) (filter_map trial (range_with_len (m * 2 + 1 + 1) (length xs * 2))))) first
    ∙ ap (λ (o : Option B). cons_option (f m false x) (cons_option o (filter_map trial (range_with_len (m * 2 + 1 + 1) (length xs * 2))))) second
    ∙ ap (λ (l : List B). cons_option (f m false x) (cons_option (f m true x) l))
    (ap (λ (l : List A). filter_map (λ (c : ℕ). option_and_then (f (c / 2) (c % 2 == 1)) (slice_get l (c / 2))) (range_with_len (m * 2 + 1 + 1) (length xs * 2))) (sym (append_assoc front (x ∷ []) xs))
    ∙ ap (λ (n : ℕ). filter_map (λ (c : ℕ). option_and_then (f (c / 2) (c % 2 == 1)) (slice_get ((front ++ x ∷ []) ++ xs) (c / 2))) (range_with_len n (length xs * 2))) (sym next)
    ∙ both_by_place f (front ++ x ∷ []) xs
    ∙ ap (λ (n : ℕ). flat_map (λ e. option_to_list (f e.0 false e.1) ++ option_to_list (f e.0 true e.1)) (enumerate_from n xs)) place)
    ∙ two_first (f m false x) (f m true x) (flat_map (λ e. option_to_list (f e.0 false e.1) ++ option_to_list (f e.0 true e.1)) (enumerate_from (m + 1) xs))
  where
    two_first : (o p : Option B) (l : List B) → cons_option o (cons_option p l) ≡ (option_to_list o ++ option_to_list p) ++ l
    two_first None None l = refl
    two_first None (Some y) l = refl
    two_first (Some y) None l = refl
    two_first (Some y) (Some z) l = refl

pub both_placed : {A B : Type 0} (f : ℕ → Bool → A → Option B) (xs : List A)
    → filter_map (λ c. option_and_then (f (c / 2) (c % 2 == 1)) (slice_get xs (c / 2))) (range_with_len 0 (length xs * 2))
    ≡ flat_map (λ e. option_to_list (f e.0 false e.1) ++ option_to_list (f e.0 true e.1)) (enumerate_from 0 xs)
both_placed f xs = both_by_place f [] xs

-- those of a list, and one behind them
get_past : {A : Type 0} (front : List A) → slice_get (front ++ []) (length front) ≡ None
get_past [] = refl
get_past (y ∷ front) = get_past front

by_place_then : {A B : Type 0} (f : Option A → Option B) (front xs : List A)
    → filter_map (λ c. f (slice_get (front ++ xs) c)) (range_with_len (length front) (length xs + 1)) ≡ filter_map (λ x. f (Some x)) xs ++ option_to_list (f None)
by_place_then {A} {B} f front [] =
    let one : 0 + 1 ≡ 1 = omega arith in
    ap (λ (n : ℕ). filter_map (λ c. f (slice_get (front ++ []) c)) (range_with_len (length front) n)) one
    ∙ ap (λ (o : Option _). cons_option (f o) []) (get_past front) ∙ as_list (f None)
  where
    as_list : (o : Option B) → cons_option o [] ≡ option_to_list o
    as_list None = refl
    as_list (Some y) = refl
by_place_then {A} {B} f front (x ∷ xs) =
    let next : length (front ++ x ∷ []) ≡ length front + 1 = length-append front (x ∷ []) in
    let more : suc (length xs) + 1 ≡ suc (length xs + 1) = omega arith in
    ap (λ (n : ℕ). filter_map (λ c. f (slice_get (front ++ x ∷ xs) c)) (range_with_len (length front) n)) more
    ∙ ap (λ (o : Option _). cons_option (f o) (filter_map (λ c. f (slice_get (front ++ x ∷ xs) c)) (range_with_len (length front + 1) (length xs + 1)))) (get_here front x xs)
    ∙ ap (cons_option (f (Some x)))
    (ap (λ (l : List _). filter_map (λ c. f (slice_get l c)) (range_with_len (length front + 1) (length xs + 1))) (sym (append_assoc front (x ∷ []) xs))
    ∙ ap (λ (n : ℕ). filter_map (λ c. f (slice_get ((front ++ x ∷ []) ++ xs) c)) (range_with_len n (length xs + 1))) (sym next)
    ∙ by_place_then f (front ++ x ∷ []) xs)
    ∙ step (f (Some x)) (filter_map (λ y. f (Some y)) xs) (option_to_list (f None))
  where
    step : (o : Option B) (l r : List B) → cons_option o (l ++ r) ≡ cons_option o l ++ r
    step None l r = refl
    step (Some y) l r = refl

-- those that pass a test
some_passing : {A B : Type 0} (f : A → Option B) (p : A → Bool) (xs : List A) → filter_map f (filter p xs) ≡ filter_map (λ x. if p x then f x else None) xs
some_passing f p [] = refl
some_passing f p (x ∷ xs) = by (p x) (some_passing f p xs)
  where
    by : (b : Bool) → filter_map f (filter p xs) ≡ filter_map (λ y. if p y then f y else None) xs
        → filter_map f (cond b (x ∷ filter p xs) (filter p xs)) ≡ cons_option (if b then f x else None) (filter_map (λ y. if p y then f y else None) xs)
    by true rest = ap (cons_option (f x)) rest
    by false rest = rest

some_append : {A B : Type 0} (f : A → Option B) (xs ys : List A) → filter_map f (xs ++ ys) ≡ filter_map f xs ++ filter_map f ys
some_append {A} {B} f [] ys = refl
some_append {A} {B} f (x ∷ xs) ys = by (f x) (some_append f xs ys)
  where
    by : (o : Option B) → filter_map f (xs ++ ys) ≡ filter_map f xs ++ filter_map f ys → cons_option o (filter_map f (xs ++ ys)) ≡ cons_option o (filter_map f xs) ++ filter_map f ys
    by None rest = rest
    by (Some y) rest = ap (λ (l : List _). y ∷ l) rest

flat_alike : {A B : Type 0} (f g : A → List B) → ((x : A) → f x ≡ g x) → (xs : List A) → flat_map f xs ≡ flat_map g xs
flat_alike f g same [] = refl
flat_alike f g same (x ∷ xs) = ap (λ (l : List _). l ++ flat_map f xs) (same x) ∙ ap (λ (l : List _). g x ++ l) (flat_alike f g same xs)

-- ---- the candidates of each piece

module _ (table : List (Option (List Piece))) (h : Host) (us : List Use) (os : List Open) (bs : List Binding) where
  pub symbol_moves : (n : Name) (k : ℤ) → moves table (pieces.Symbol n k) (factors h us ∷ os) bs ≡ filter_map (trial h us os bs (pieces.Symbol n k)) (range_with_len 0 (candidates h (pieces.Symbol n k)))
  symbol_moves n k =
      some_some (with_choice h us os bs) (symbol_choice h.is_exact n k) h.term.symbols
      ∙ sym (forget (λ p. option_and_then (with_choice h us os bs) (symbol_choice h.is_exact n k p)) 0 h.term.symbols)
      ∙ sym (placed (λ c o. option_and_then (with_choice h us os bs) (option_and_then (λ p. symbol_choice h.is_exact n k p) o)) h.term.symbols)

  pub whole_moves : (n m : Name) → moves table (pieces.Whole n m) (factors h us ∷ os) bs ≡ filter_map (trial h us os bs (pieces.Whole n m)) (range_with_len 0 (candidates h (pieces.Whole n m)))
  whole_moves n m =
      some_append (with_choice h us os bs) (filter_map (whole_choice n m) h.term.symbols) (option_to_list (absent_choice h n m))
      ∙ ap (λ (l : List State). l ++ filter_map (with_choice h us os bs) (option_to_list (absent_choice h n m))) (some_some (with_choice h us os bs) (whole_choice n m) h.term.symbols)
      ∙ ap (λ (l : List State). filter_map (λ p. option_and_then (with_choice h us os bs) (whole_choice n m p)) h.term.symbols ++ l) (of_one (absent_choice h n m))
      ∙ sym (by_place_then (λ o. option_and_then (with_choice h us os bs) (whole_or_absent h n m o)) [] h.term.symbols)
    where
      of_one : (o : Option Choice) → filter_map (with_choice h us os bs) (option_to_list o) ≡ option_to_list (option_and_then (with_choice h us os bs) o)
      of_one None = refl
      of_one (Some c) = as_list (with_choice h us os bs c)
        where
          as_list : (o : Option State) → cons_option o [] ≡ option_to_list o
          as_list None = refl
          as_list (Some y) = refl

  pub dot_moves : (p q : Name) (k : ℤ) → moves table (pieces.Dot p q k) (factors h us ∷ os) bs ≡ filter_map (trial h us os bs (pieces.Dot p q k)) (range_with_len 0 (candidates h (pieces.Dot p q k)))
  dot_moves p q k =
      ap (filter_map (with_choice h us os bs))
      (flat_alike (dot_choices h.is_exact p q k) (λ e. option_to_list (dot_choice h.is_exact p q k e.0 e.1 false) ++ option_to_list (dot_choice h.is_exact p q k e.0 e.1 true)) turned (enumerate_from 0 h.term.others.dots)
      ∙ sym (both_placed (λ m b d. dot_choice h.is_exact p q k m d b) h.term.others.dots))
      ∙ some_some (with_choice h us os bs) (dot_at h p q k) (range_with_len 0 (length h.term.others.dots * 2))
    where
      by : (b : Bool) (x y : Option Choice) → (if b then option_to_list x ++ option_to_list y else []) ≡ option_to_list (if b then x else None) ++ option_to_list (if b then y else None)
      by true x y = refl
      by false x y = refl

      turned : (e : ℕ × DotPower) → dot_choices h.is_exact p q k e ≡ option_to_list (dot_choice h.is_exact p q k e.0 e.1 false) ++ option_to_list (dot_choice h.is_exact p q k e.0 e.1 true)
      turned e =
          by (fits h.is_exact e.1.exponent k) (taking (uses.Dot e.0 k) (and_asked (asked_vector p e.1.left) (asked_vector q e.1.right)))
          (taking (uses.Dot e.0 k) (and_asked (asked_vector p e.1.right) (asked_vector q e.1.left)))

  pub component_moves : (v : Name) (i : IndexName) → moves table (pieces.Component v i) (factors h us ∷ os) bs ≡ filter_map (trial h us os bs (pieces.Component v i)) (range_with_len 0 (candidates h (pieces.Component v i)))
  component_moves v i =
      some_some (with_choice h us os bs) (component_choice v i) (enumerate_from 0 h.term.others.components)
      ∙ sym (placed (λ c o. option_and_then (with_choice h us os bs) (option_and_then (λ d. component_choice v i (c, d)) o)) h.term.others.components)

  pub delta_moves : (i j : IndexName) → moves table (pieces.Delta i j) (factors h us ∷ os) bs ≡ filter_map (trial h us os bs (pieces.Delta i j)) (range_with_len 0 (candidates h (pieces.Delta i j)))
  delta_moves i j =
      ap (filter_map (with_choice h us os bs)) (sym (both_placed (λ m b d. delta_choice i j m d b) h.term.others.deltas))
      ∙ some_some (with_choice h us os bs) (delta_at h i j) (range_with_len 0 (length h.term.others.deltas * 2))

  pub function_moves : (n : Name) → moves table (pieces.Function n) (factors h us ∷ os) bs ≡ filter_map (function_trial n h us os bs) (range_with_len 0 (length h.term.others.functions))
  function_moves n = sym (placed (λ c o. option_and_then (λ call. with_function n h us os bs (c, call)) o) h.term.others.functions)

  pub stretch_moves : (n : ℕ) → moves table (pieces.Word n) (factors h us ∷ os) bs ≡ filter_map (stretch_trial n h us os bs) (range_with_len 0 (suc (length h.term.others.word) - n))
  stretch_moves n = some_passing (with_stretch n h us os bs) (is_uncut h.cuts n) (range_with_len 0 (suc (length h.term.others.word) - n))
