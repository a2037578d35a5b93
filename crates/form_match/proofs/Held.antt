-- What the pieces of a pattern take of a term fits it, wherever they lead.
use Rattle.std.proofs.Common.{◌≡◌, inl, inr, ℕ, zero, suc, ◌+◌, ◌-◌, ◌<◌, ◌≤◌, ◌==◌, Bool, true, false, not, ◌&&◌, ◌||◌, cond, if◌then◌else◌, ℤ, pos, List, [], ◌∷◌, ◌++◌, length, drop, Option, Some, None, IfSome, option_map, option_to_list, refl, sym, ap, subst, ◌∙◌, append_assoc, arith, length-append}
use Rattle.std.proofs.lemmas.Int.{ints}
use Rattle.std.proofs.lemmas.List.{get_or_default}
use Rattle.std.proofs.lemmas.Option.{same_Some}
use Rattle.std.proofs.lemmas.List.Elements.{All-nil, All-cons, All-append, recursion_from_All}
use Rattle.std.specs.Prelude.{filter, flat_map, nat_abs, slice_get, slice_index_or}
use Rattle.std.specs.List.{AllByRecursion, list_any, filter_map, cons_option, enumerate_from, range_with_len}
use Rattle.form_term.specs.declared.piece.Piece.{Piece}
use Rattle.form_term.specs.declared.power.Power.{Power}
use Rattle.form_term.specs.declared.power.DotPower.{DotPower}
use Rattle.form_term.specs.declared.index.Component.{Component}
use Rattle.form_term.specs.declared.index.Delta.{Delta}
use Rattle.form_term.specs.Term as terms
use Rattle.form_term.specs.Term.{Term, Call, IsTerm, exponent_of, pieces_of_argument}
use Rattle.form_term.specs.Arguments.{arguments_of}
use Rattle.form_tree.specs.declared.pattern.Name.{Name}
use Rattle.form_tree.specs.declared.pattern.Name.TheVariants.{Itself, Wild}
use Rattle.form_tree.specs.declared.pattern.IndexName.{IndexName}
use Rattle.form_tree.specs.declared.pattern.PatternPiece.{PatternPiece}
use Rattle.form_tree.specs.declared.pattern.PatternPiece.TheVariants as pieces
use Rattle.form_tree.specs.Pattern.{Factors, pieces_of_factors}
use Rattle.form_match.specs.declared.matching.Match.{Match}
use Rattle.form_match.specs.declared.uses.Use.{Use}
use Rattle.form_match.specs.declared.uses.Use.TheVariants as uses
use Rattle.form_match.specs.Fits.{Fits, FitsUse, FitsExponent}
use Rattle.form_match.specs.Learning.{learnt}
use Rattle.form_match.specs.Left.{left_of, is_one}
use Rattle.form_match.specs.Matching.{Host, Choice, inner, outer, clashes, are_apart, fits, taking, symbol_choice, whole_choice, absent_choice, dot_choices, component_choice, delta_choices, asked_symbol, asked_number, asked_vector, asked_index, asked_function, and_asked, is_uncut, starts, any_ways, is_fixed_argument, is_coefficient_one, field_asks, first_of}
use Rattle.form_match.specs.States.{Open, factors, arguments, calls, State, state, start, taken_in, first_found, match_at, binding_too, taking_too, asking_too, with_choice, with_function, with_stretch, with_call, with_field, with_product, behind_arguments, moves, reach}
use Rattle.form_bindings.specs.Values.{Binding}
use Rattle.form_match.proofs.Heads.{first_reached}
use Rattle.form_match.proofs.Portions.{both_true, both_false, not_true}
use Rattle.form_match.proofs.Remaining.{exponent_there}

-- what is the whole exponent is within it
exact_fits : (is_exact : Bool) (e k : ℤ) → fits is_exact e k ≡ true → fits false e k ≡ true
exact_fits false e k h = h
exact_fits true e k h = grind (arith, ints)

-- ---- lists

module _ {A B : Type 0} (P : A → Type 0) (Q : B → Type 0) where
  all_some : (f : A → Option B) → ((x : A) → P x → IfSome (f x) Q) → (xs : List A) → AllByRecursion P xs → AllByRecursion Q (filter_map f xs)
  all_some f holds [] h = tt
  all_some f holds (x ∷ xs) h = by (f x) (holds x h.0) (all_some f holds xs h.1)
    where
      by : (o : Option B) → IfSome o Q → AllByRecursion Q (filter_map f xs) → AllByRecursion Q (cons_option o (filter_map f xs))
      by None first rest = rest
      by (Some y) first rest = (first, rest)

both : {A : Type 0} (P : A → Type 0) (xs ys : List A) → AllByRecursion P xs → AllByRecursion P ys → AllByRecursion P (xs ++ ys)
both P [] ys h k = k
both P (x ∷ xs) ys h k = (h.0, both P xs ys h.1 k)

all_flat : {A B : Type 0} (P : A → Type 0) (Q : B → Type 0) (f : A → List B) → ((x : A) → P x → AllByRecursion Q (f x)) → (xs : List A) → AllByRecursion P xs → AllByRecursion Q (flat_map f xs)
all_flat P Q f holds [] h = tt
all_flat P Q f holds (x ∷ xs) h = both Q (f x) (flat_map f xs) (holds x h.0) (all_flat P Q f holds xs h.1)

one_held : {A : Type 0} (P : A → Type 0) (o : Option A) → IfSome o P → AllByRecursion P (option_to_list o)
one_held P None h = tt
one_held P (Some x) h = (h, tt)

where_held : {A : Type 0} (P : A → Type 0) (b : Bool) (x : A) → P x → AllByRecursion P (if b then x ∷ [] else [])
where_held P true x h = (h, tt)
where_held P false x h = tt

all_kept : {A : Type 0} (P : A → Type 0) (p : A → Bool) (xs : List A) → AllByRecursion P xs → AllByRecursion P (filter p xs)
all_kept P p [] h = tt
all_kept P p (x ∷ xs) h = by (p x) (all_kept P p xs h.1)
  where
    by : (b : Bool) → AllByRecursion P (filter p xs) → AllByRecursion P (cond b (x ∷ filter p xs) (filter p xs))
    by true rest = (h.0, rest)
    by false rest = rest

-- anything holds nothing
abbrev IsAny : {A : Type 0} → A → Type 0
IsAny x = Unit {0}

all_any : {A : Type 0} (xs : List A) → AllByRecursion (IsAny {A = A}) xs
all_any [] = tt
all_any (x ∷ xs) = (tt, all_any xs)

-- the elements of a list, each with its place
abbrev IsPlaced : {A : Type 0} → List A → ℕ × A → Type 0
IsPlaced xs e = (e.0 < length xs) × (slice_get xs e.0 ≡ Some e.1)

place_here : {A : Type 0} (front : List A) (x : A) (xs : List A) → IsPlaced (front ++ x ∷ xs) (length front, x)
place_here [] x xs = (omega arith, refl)
place_here (y ∷ front) x xs = let rest = place_here front x xs in (omega (arith, rest.0), rest.1)

placed_from : {A : Type 0} (front xs : List A) → AllByRecursion (IsPlaced (front ++ xs)) (enumerate_from (length front) xs)
placed_from front [] = tt
placed_from {A} front (x ∷ xs) =
    let long : length (front ++ x ∷ []) ≡ length front + 1 = length-append front (x ∷ []) in (
      place_here front x xs,
      subst (λ (n : ℕ). AllByRecursion (IsPlaced (front ++ x ∷ xs)) (enumerate_from n xs)) long
          (subst (λ (l : List A). AllByRecursion (IsPlaced l) (enumerate_from (length (front ++ x ∷ [])) xs)) (append_assoc front (x ∷ []) xs)
          (placed_from (front ++ x ∷ []) xs)),
    )

all_placed : {A : Type 0} (xs : List A) → AllByRecursion (IsPlaced xs) (enumerate_from 0 xs)
all_placed xs = placed_from [] xs

abbrev IsBelow : ℕ → ℕ → Type 0
IsBelow n k = k < n

all_below : (n k count : ℕ) → k + count ≤ n → AllByRecursion (IsBelow n) (range_with_len k count)
all_below n k zero h = tt
all_below n k (suc count) h = (omega (arith, h), all_below n (k + 1) count (omega (arith, h)))

-- ---- what is taken

abbrev IsHeld : Term → Open → Type 0
IsHeld t (factors h us) = (h.term ≡ t) × Fits us t
IsHeld t (arguments xs) = Unit {0}
IsHeld t (calls cs) = Unit {0}

-- around all else are the factors of the term, and what is taken of them fits it
abbrev AreHeld : Term → List Open → Type 0
AreHeld t [] = Unit {0}
AreHeld t (o ∷ []) = IsHeld t o
AreHeld t (o ∷ p ∷ os) = AreHeld t (p ∷ os)

nothing_taken : (t : Term) → Fits [] t
nothing_taken t = record { apart = refl; each = All-nil (FitsUse t) }

held_fits : (t : Term) (os : List Open) → AreHeld t os → Fits (taken_in os) t
held_fits t [] h = nothing_taken t
held_fits t (factors g us ∷ []) h = h.1
held_fits t (arguments xs ∷ []) h = nothing_taken t
held_fits t (calls cs ∷ []) h = nothing_taken t
held_fits t (o ∷ p ∷ os) h = held_fits t (p ∷ os) h

-- one more
any_last : (p : Use → Bool) (us : List Use) (u : Use) → list_any p us ≡ false → p u ≡ false → list_any p (us ++ u ∷ []) ≡ false
any_last p [] u none last = ap (λ (b : Bool). b || false) last
any_last p (v ∷ us) u none last =
    let parts = both_false (p v) (list_any p us) none in
    ap (λ (b : Bool). b || list_any p (us ++ u ∷ [])) parts.0 ∙ any_last p us u parts.1 last

apart_more : (us : List Use) (u : Use) → are_apart us ≡ true → list_any (λ v. clashes v u) us ≡ false → are_apart (us ++ u ∷ []) ≡ true
apart_more [] u h free = refl
apart_more (v ∷ us) u h free =
    let parts = both_true (not (list_any (clashes v) us)) (are_apart us) h in
    let others = both_false (clashes v u) (list_any (λ w. clashes w u) us) free in
    ap (λ (b : Bool). not b && are_apart (us ++ u ∷ [])) (any_last (clashes v) us u (not_true (list_any (clashes v) us) parts.0) others.0)
    ∙ apart_more us u parts.1 others.1

module _ (t : Term) (lawful : IsTerm t) where
  abbrev HoldsState : State → Type 0
  HoldsState s = AreHeld t s.opens

  with_use : (h : Host) (us : List Use) (os : List Open) (u : Use) → AreHeld t (factors h us ∷ os) → (IsTerm h.term → FitsUse h.term u) → list_any (λ v. clashes v u) us ≡ false
      → AreHeld t (factors h (us ++ u ∷ []) ∷ os)
  with_use h us (o ∷ os) u held fit free = held
  with_use h us [] u held fit free = (
    held.0,
    record {
      apart = apart_more us u held.1.apart free;
      each = All-append (FitsUse t) us (u ∷ []) held.1.each
          (All-cons (FitsUse t) u [] (subst (λ (s : Term). FitsUse s u) held.0 (fit (subst IsTerm (sym held.0) lawful))) (All-nil (FitsUse t)));
    },
  )

  where_free : (us : List Use) (u : Use) (o : Option State) → (list_any (λ v. clashes v u) us ≡ false → IfSome o HoldsState) → IfSome (taking_too us u o) HoldsState
  where_free us u o holds = by (list_any (λ v. clashes v u) us) refl
    where
      by : (b : Bool) → list_any (λ v. clashes v u) us ≡ b → IfSome (if b then None else o) HoldsState
      by true e = tt
      by false e = holds e

  bound_held : (os : List Open) (bs asks : List Binding) → AreHeld t os → IfSome (binding_too os bs asks) HoldsState
  bound_held os bs asks h = by (learnt bs asks)
    where
      by : (o : Option (List Binding)) → IfSome (option_map (state os) o) HoldsState
      by None = tt
      by (Some made) = h

  asked_held : (os : List Open) (bs : List Binding) (o : Option (List Binding)) → AreHeld t os → IfSome (asking_too os bs o) HoldsState
  asked_held os bs None h = tt
  asked_held os bs (Some asks) h = bound_held os bs asks h

  -- what a choice takes can be taken
  abbrev FitsChoice : Host → Choice → Type 0
  FitsChoice h c = IsTerm h.term → FitsUse h.term c.takes

  choice_held : (h : Host) (us : List Use) (os : List Open) (bs : List Binding) → AreHeld t (factors h us ∷ os) → (c : Choice) → FitsChoice h c → IfSome (with_choice h us os bs c) HoldsState
  choice_held h us os bs held c fit =
      where_free us c.takes (binding_too (factors h (us ++ c.takes ∷ []) ∷ os) bs c.asks)
      (λ free. bound_held (factors h (us ++ c.takes ∷ []) ∷ os) bs c.asks (with_use h us os c.takes held fit free))

  taken_so : (h : Host) (u : Use) (asks : Option (List Binding)) → (IsTerm h.term → FitsUse h.term u) → IfSome (taking u asks) (FitsChoice h)
  taken_so h u None fit = tt
  taken_so h u (Some bs) fit = fit

  -- the powers of a term are its exponents
  abbrev IsPowerOf : Host → Power → Type 0
  IsPowerOf h p = IsTerm h.term → exponent_of h.term p.symbol ≡ p.exponent

  all_powers : (h : Host) → AllByRecursion (IsPowerOf h) h.term.symbols
  all_powers h =
      recursion_from_All (IsPowerOf h) h.term.symbols
      (λ k d within is_term.
      exponent_there 0 h.term.symbols k (slice_index_or h.term.symbols k d) is_term.rising within
      (get_or_default h.term.symbols k d (slice_index_or h.term.symbols k d) within))

  whole_fits : (e : ℤ) → FitsExponent e e
  whole_fits e = grind (arith, ints)

  symbol_fits : (h : Host) (n : Name) (k : ℤ) (p : Power) → IsPowerOf h p → IfSome (symbol_choice h.is_exact n k p) (FitsChoice h)
  symbol_fits h n k p is = by (fits h.is_exact p.exponent k) refl
    where
      by : (b : Bool) → fits h.is_exact p.exponent k ≡ b → IfSome (if b then taking (uses.Symbol p.symbol k) (asked_symbol n p.symbol) else None) (FitsChoice h)
      by false e = tt
      by true e =
          taken_so h (uses.Symbol p.symbol k) (asked_symbol n p.symbol)
          (λ is_term. inr (ap (λ (x : ℤ). fits false x k) (is is_term) ∙ exact_fits h.is_exact p.exponent k e))

  whole_symbol_fits : (h : Host) (n m : Name) (p : Power) → IsPowerOf h p → IfSome (whole_choice n m p) (FitsChoice h)
  whole_symbol_fits h n m p is =
      taken_so h (uses.Symbol p.symbol p.exponent) (and_asked (asked_symbol n p.symbol) (asked_number m p.exponent))
      (λ is_term. subst (λ (x : ℤ). FitsExponent x p.exponent) (sym (is is_term)) (whole_fits p.exponent))

  absent_fits : (h : Host) (n m : Name) → IfSome (absent_choice h n m) (FitsChoice h)
  absent_fits h (Wild w sets) m = tt
  absent_fits h (Itself s) m = by (h.is_inner || not (nat_abs (exponent_of h.term s) == 0))
    where
      by : (b : Bool) → IfSome (if b then None else taking (uses.Symbol s (pos 0)) (asked_number m (pos 0))) (FitsChoice h)
      by true = tt
      by false = taken_so h (uses.Symbol s (pos 0)) (asked_number m (pos 0)) (λ is_term. inl refl)

  dot_fits : (h : Host) (p q : Name) (k : ℤ) (e : ℕ × DotPower) → IsPlaced h.term.others.dots e → AllByRecursion (FitsChoice h) (dot_choices h.is_exact p q k e)
  dot_fits h p q k e is = by (fits h.is_exact e.1.exponent k) refl
    where
      there : fits h.is_exact e.1.exponent k ≡ true → IsTerm h.term → FitsUse h.term (uses.Dot e.0 k)
      there at is_term =
          (is.0, subst (λ (o : Option DotPower). IfSome o (λ d. fits false d.exponent k ≡ true)) (sym is.1) (exact_fits h.is_exact e.1.exponent k at))

      by : (b : Bool) → fits h.is_exact e.1.exponent k ≡ b
          → AllByRecursion (FitsChoice h)
          (if b
          then option_to_list (taking (uses.Dot e.0 k) (and_asked (asked_vector p e.1.left) (asked_vector q e.1.right)))
          ++ option_to_list (taking (uses.Dot e.0 k) (and_asked (asked_vector p e.1.right) (asked_vector q e.1.left)))
          else [])
      by false at = tt
      by true at =
          both (FitsChoice h) (option_to_list (taking (uses.Dot e.0 k) (and_asked (asked_vector p e.1.left) (asked_vector q e.1.right))))
          (option_to_list (taking (uses.Dot e.0 k) (and_asked (asked_vector p e.1.right) (asked_vector q e.1.left))))
          (one_held (FitsChoice h) (taking (uses.Dot e.0 k) (and_asked (asked_vector p e.1.left) (asked_vector q e.1.right)))
          (taken_so h (uses.Dot e.0 k) (and_asked (asked_vector p e.1.left) (asked_vector q e.1.right)) (there at)))
          (one_held (FitsChoice h) (taking (uses.Dot e.0 k) (and_asked (asked_vector p e.1.right) (asked_vector q e.1.left)))
          (taken_so h (uses.Dot e.0 k) (and_asked (asked_vector p e.1.right) (asked_vector q e.1.left)) (there at)))

  component_fits : (h : Host) (v : Name) (i : IndexName) (e : ℕ × Component) → IsPlaced h.term.others.components e → IfSome (component_choice v i e) (FitsChoice h)
  component_fits h v i e is = taken_so h (uses.Component e.0) (and_asked (asked_vector v e.1.vector) (asked_index i e.1.index)) (λ is_term. is.0)

  delta_fits : (h : Host) (i j : IndexName) (e : ℕ × Delta) → IsPlaced h.term.others.deltas e → AllByRecursion (FitsChoice h) (delta_choices i j e)
  delta_fits h i j e is =
      both (FitsChoice h) (option_to_list (taking (uses.Delta e.0) (and_asked (asked_index i e.1.first) (asked_index j e.1.second))))
      (option_to_list (taking (uses.Delta e.0) (and_asked (asked_index i e.1.second) (asked_index j e.1.first))))
      (one_held (FitsChoice h) (taking (uses.Delta e.0) (and_asked (asked_index i e.1.first) (asked_index j e.1.second)))
      (taken_so h (uses.Delta e.0) (and_asked (asked_index i e.1.first) (asked_index j e.1.second)) (λ is_term. is.0)))
      (one_held (FitsChoice h) (taking (uses.Delta e.0) (and_asked (asked_index i e.1.second) (asked_index j e.1.first)))
      (taken_so h (uses.Delta e.0) (and_asked (asked_index i e.1.second) (asked_index j e.1.first)) (λ is_term. is.0)))

  -- ---- what each piece makes

  arguments_on : (xs ys : List terms.Argument) (os : List Open) → AreHeld t (arguments xs ∷ os) → AreHeld t (arguments ys ∷ os)
  arguments_on xs ys [] h = tt
  arguments_on xs ys (o ∷ os) h = h

  calls_on : (cs ds : List Call) (os : List Open) → AreHeld t (calls cs ∷ os) → AreHeld t (calls ds ∷ os)
  calls_on cs ds [] h = tt
  calls_on cs ds (o ∷ os) h = h

  function_held : (n : Name) (h : Host) (us : List Use) (os : List Open) (bs : List Binding) → AreHeld t (factors h us ∷ os) → (e : ℕ × Call) → IsPlaced h.term.others.functions e
      → IfSome (with_function n h us os bs e) HoldsState
  function_held n h us os bs held e is =
      let u = uses.Function e.0 in
      where_free us u (asking_too (arguments (arguments_of e.1.pieces) ∷ factors h (us ++ u ∷ []) ∷ os) bs (asked_function n e.1.function))
      (λ free. asked_held (arguments (arguments_of e.1.pieces) ∷ factors h (us ++ u ∷ []) ∷ os) bs (asked_function n e.1.function) (with_use h us os u held (λ is_term. is.0) free))

  abbrev HasRoom : ℕ → Host → ℕ → Type 0
  HasRoom n h first = first + n ≤ length h.term.others.word

  all_rooms : (n : ℕ) (h : Host) → AllByRecursion (HasRoom n h) (starts h n)
  all_rooms n h =
      all_kept (HasRoom n h) (is_uncut h.cuts n) (range_with_len 0 (suc (length h.term.others.word) - n))
      (each (range_with_len 0 (suc (length h.term.others.word) - n)) (all_below (suc (length h.term.others.word) - n) 0 (suc (length h.term.others.word) - n) (omega arith)))
    where
      each : (xs : List ℕ) → AllByRecursion (IsBelow (suc (length h.term.others.word) - n)) xs → AllByRecursion (HasRoom n h) xs
      each [] below = tt
      each (x ∷ xs) below = (omega (arith, below.0), each xs below.1)

  stretch_held : (n : ℕ) (h : Host) (us : List Use) (os : List Open) (bs : List Binding) → AreHeld t (factors h us ∷ os) → (first : ℕ) → HasRoom n h first
      → IfSome (with_stretch n h us os bs first) HoldsState
  stretch_held n h us os bs held first room =
      let u = uses.Stretch first n in
      where_free us u (Some (state (calls (drop first h.term.others.word) ∷ factors h (us ++ u ∷ []) ∷ os) bs)) (λ free. with_use h us os u held (λ is_term. room) free)

  call_held : (n : Name) (cs : List Call) (os : List Open) (bs : List Binding) → AreHeld t (calls cs ∷ os) → IfSome (with_call n cs os bs) HoldsState
  call_held n [] os bs h = tt
  call_held n (c ∷ cs) os bs h = asked_held (arguments (arguments_of c.pieces) ∷ calls (c ∷ cs) ∷ os) bs (asked_function n c.function) h

  around_held : (xs : List terms.Argument) (os : List Open) (bs : List Binding) → AreHeld t (arguments xs ∷ os) → AllByRecursion HoldsState (behind_arguments xs os bs)
  around_held [] [] bs h = tt
  around_held [] (factors g us ∷ os) bs h = (h, tt)
  around_held [] (arguments xs ∷ os) bs h = tt
  around_held [] (calls cs ∷ os) bs h = (calls_on cs (drop 1 cs) os h, tt)
  around_held (x ∷ xs) os bs h = tt

  product_held : (xs : List terms.Argument) (os : List Open) (bs : List Binding) → AreHeld t (arguments xs ∷ os) → AllByRecursion HoldsState (with_product xs os bs)
  product_held [] os bs h = tt
  product_held (terms.index i ∷ xs) os bs h = tt
  product_held (terms.vector v ∷ xs) os bs h = tt
  product_held (terms.expression [] ∷ xs) os bs h = tt
  product_held (terms.expression (s ∷ r ∷ ss) ∷ xs) os bs h = tt
  product_held (terms.expression (s ∷ []) ∷ xs) os bs h =
      where_held HoldsState (is_coefficient_one s.coefficient) (state (factors (inner s.term) [] ∷ arguments (terms.expression (s ∷ []) ∷ xs) ∷ os) bs) h

  moves_held : (table : List (Option (List Piece))) (p : PatternPiece) (os : List Open) (bs : List Binding) → AreHeld t os → AllByRecursion HoldsState (moves table p os bs)
  moves_held table (pieces.Symbol n k) (factors g us ∷ os) bs h =
      all_some (FitsChoice g) HoldsState (with_choice g us os bs) (choice_held g us os bs h) (filter_map (symbol_choice g.is_exact n k) g.term.symbols)
      (all_some (IsPowerOf g) (FitsChoice g) (symbol_choice g.is_exact n k) (symbol_fits g n k) g.term.symbols (all_powers g))
  moves_held table (pieces.Symbol n k) (arguments xs ∷ os) bs h = tt
  moves_held table (pieces.Symbol n k) (calls cs ∷ os) bs h = tt
  moves_held table (pieces.Symbol n k) [] bs h = tt
  moves_held table (pieces.Whole n m) (factors g us ∷ os) bs h =
      all_some (FitsChoice g) HoldsState (with_choice g us os bs) (choice_held g us os bs h) (filter_map (whole_choice n m) g.term.symbols ++ option_to_list (absent_choice g n m))
      (both (FitsChoice g) (filter_map (whole_choice n m) g.term.symbols) (option_to_list (absent_choice g n m))
      (all_some (IsPowerOf g) (FitsChoice g) (whole_choice n m) (whole_symbol_fits g n m) g.term.symbols (all_powers g))
      (one_held (FitsChoice g) (absent_choice g n m) (absent_fits g n m)))
  moves_held table (pieces.Whole n m) (arguments xs ∷ os) bs h = tt
  moves_held table (pieces.Whole n m) (calls cs ∷ os) bs h = tt
  moves_held table (pieces.Whole n m) [] bs h = tt
  moves_held table (pieces.Dot p q k) (factors g us ∷ os) bs h =
      all_some (FitsChoice g) HoldsState (with_choice g us os bs) (choice_held g us os bs h) (flat_map (dot_choices g.is_exact p q k) (enumerate_from 0 g.term.others.dots))
      (all_flat (IsPlaced g.term.others.dots) (FitsChoice g) (dot_choices g.is_exact p q k) (dot_fits g p q k) (enumerate_from 0 g.term.others.dots) (all_placed g.term.others.dots))
  moves_held table (pieces.Dot p q k) (arguments xs ∷ os) bs h = tt
  moves_held table (pieces.Dot p q k) (calls cs ∷ os) bs h = tt
  moves_held table (pieces.Dot p q k) [] bs h = tt
  moves_held table (pieces.Component v i) (factors g us ∷ os) bs h =
      all_some (FitsChoice g) HoldsState (with_choice g us os bs) (choice_held g us os bs h) (filter_map (component_choice v i) (enumerate_from 0 g.term.others.components))
      (all_some (IsPlaced g.term.others.components) (FitsChoice g) (component_choice v i) (component_fits g v i) (enumerate_from 0 g.term.others.components) (all_placed g.term.others.components))
  moves_held table (pieces.Component v i) (arguments xs ∷ os) bs h = tt
  moves_held table (pieces.Component v i) (calls cs ∷ os) bs h = tt
  moves_held table (pieces.Component v i) [] bs h = tt
  moves_held table (pieces.Delta i j) (factors g us ∷ os) bs h =
      all_some (FitsChoice g) HoldsState (with_choice g us os bs) (choice_held g us os bs h) (flat_map (delta_choices i j) (enumerate_from 0 g.term.others.deltas))
      (all_flat (IsPlaced g.term.others.deltas) (FitsChoice g) (delta_choices i j) (delta_fits g i j) (enumerate_from 0 g.term.others.deltas) (all_placed g.term.others.deltas))
  moves_held table (pieces.Delta i j) (arguments xs ∷ os) bs h = tt
  moves_held table (pieces.Delta i j) (calls cs ∷ os) bs h = tt
  moves_held table (pieces.Delta i j) [] bs h = tt
  moves_held table (pieces.Function n) (factors g us ∷ os) bs h =
      all_some (IsPlaced g.term.others.functions) HoldsState (with_function n g us os bs) (function_held n g us os bs h) (enumerate_from 0 g.term.others.functions) (all_placed g.term.others.functions)
  moves_held table (pieces.Function n) (arguments xs ∷ os) bs h = tt
  moves_held table (pieces.Function n) (calls cs ∷ os) bs h = tt
  moves_held table (pieces.Function n) [] bs h = tt
  moves_held table (pieces.Word n) (factors g us ∷ os) bs h = all_some (HasRoom n g) HoldsState (with_stretch n g us os bs) (stretch_held n g us os bs h) (starts g n) (all_rooms n g)
  moves_held table (pieces.Word n) (arguments xs ∷ os) bs h = tt
  moves_held table (pieces.Word n) (calls cs ∷ os) bs h = tt
  moves_held table (pieces.Word n) [] bs h = tt
  moves_held table (pieces.Call n) (calls cs ∷ os) bs h = one_held HoldsState (with_call n cs os bs) (call_held n cs os bs h)
  moves_held table (pieces.Call n) (factors g us ∷ os) bs h = tt
  moves_held table (pieces.Call n) (arguments xs ∷ os) bs h = tt
  moves_held table (pieces.Call n) [] bs h = tt
  moves_held table pieces.EndOfArguments (arguments xs ∷ os) bs h = around_held xs os bs h
  moves_held table pieces.EndOfArguments (factors g us ∷ os) bs h = tt
  moves_held table pieces.EndOfArguments (calls cs ∷ os) bs h = tt
  moves_held table pieces.EndOfArguments [] bs h = tt
  moves_held table pieces.EndOfWord (calls cs ∷ factors g us ∷ os) bs h = (h, tt)
  moves_held table pieces.EndOfWord (calls cs ∷ arguments xs ∷ os) bs h = tt
  moves_held table pieces.EndOfWord (calls cs ∷ calls ds ∷ os) bs h = tt
  moves_held table pieces.EndOfWord (calls cs ∷ []) bs h = tt
  moves_held table pieces.EndOfWord (factors g us ∷ os) bs h = tt
  moves_held table pieces.EndOfWord (arguments xs ∷ os) bs h = tt
  moves_held table pieces.EndOfWord [] bs h = tt
  moves_held table (pieces.Fixed k) (arguments (x ∷ xs) ∷ os) bs h =
      where_held HoldsState (is_fixed_argument table k (pieces_of_argument x)) (state (arguments xs ∷ os) bs) (arguments_on (x ∷ xs) xs os h)
  moves_held table (pieces.Fixed k) (arguments [] ∷ os) bs h = tt
  moves_held table (pieces.Fixed k) (factors g us ∷ os) bs h = tt
  moves_held table (pieces.Fixed k) (calls cs ∷ os) bs h = tt
  moves_held table (pieces.Fixed k) [] bs h = tt
  moves_held table (pieces.Any sort n) (arguments (x ∷ xs) ∷ os) bs h =
      all_some IsAny HoldsState (binding_too (arguments xs ∷ os) bs) (λ asks any. bound_held (arguments xs ∷ os) bs asks (arguments_on (x ∷ xs) xs os h)) (any_ways sort n x) (all_any (any_ways sort n x))
  moves_held table (pieces.Any sort n) (arguments [] ∷ os) bs h = tt
  moves_held table (pieces.Any sort n) (factors g us ∷ os) bs h = tt
  moves_held table (pieces.Any sort n) (calls cs ∷ os) bs h = tt
  moves_held table (pieces.Any sort n) [] bs h = tt
  moves_held table (pieces.Field w) (arguments xs ∷ os) bs h =
      all_some IsAny HoldsState (with_field w xs os bs) (λ n any. bound_held (arguments (drop n xs) ∷ os) bs (field_asks w xs n ∷ []) (arguments_on xs (drop n xs) os h)) (range_with_len 0 (suc (length xs)))
      (all_any (range_with_len 0 (suc (length xs))))
  moves_held table (pieces.Field w) (factors g us ∷ os) bs h = tt
  moves_held table (pieces.Field w) (calls cs ∷ os) bs h = tt
  moves_held table (pieces.Field w) [] bs h = tt
  moves_held table pieces.Product (arguments xs ∷ os) bs h = product_held xs os bs h
  moves_held table pieces.Product (factors g us ∷ os) bs h = tt
  moves_held table pieces.Product (calls cs ∷ os) bs h = tt
  moves_held table pieces.Product [] bs h = tt
  moves_held table pieces.EndOfProduct (factors g us ∷ arguments xs ∷ os) bs h =
      where_held HoldsState (is_one (left_of g.term us)) (state (arguments (drop 1 xs) ∷ os) bs) (arguments_on xs (drop 1 xs) os h)
  moves_held table pieces.EndOfProduct (factors g us ∷ factors f vs ∷ os) bs h = tt
  moves_held table pieces.EndOfProduct (factors g us ∷ calls cs ∷ os) bs h = tt
  moves_held table pieces.EndOfProduct (factors g us ∷ []) bs h = tt
  moves_held table pieces.EndOfProduct (arguments xs ∷ os) bs h = tt
  moves_held table pieces.EndOfProduct (calls cs ∷ os) bs h = tt
  moves_held table pieces.EndOfProduct [] bs h = tt

  -- what they all lead to
  reach_held : (table : List (Option (List Piece))) (ps : List PatternPiece) (s : State) → HoldsState s → AllByRecursion HoldsState (reach table ps s)
  unfolding reach
  reach_held table [] s h = (h, tt)
  reach_held table (p ∷ ps) s h = all_flat HoldsState HoldsState (reach table ps) (reach_held table ps) (moves table p s.opens s.bindings) (moves_held table p s.opens s.bindings h)

  pub found_fits : (table : List (Option (List Piece))) (ps : List PatternPiece) (cuts : List ℕ) (is_exact : Bool) (m : Match)
      → first_found (reach table ps (start (outer t cuts is_exact))) ≡ Some m → Fits m.takes t
  found_fits table ps cuts is_exact m is =
      by (reach table ps (start (outer t cuts is_exact))) (reach_held table ps (start (outer t cuts is_exact)) (refl, nothing_taken t)) is
    where
      by : (ss : List State) → AllByRecursion HoldsState ss → first_found ss ≡ Some m → Fits m.takes t
      by [] h at = cc
      by (s ∷ ss) h at = subst (λ (n : Match). Fits n.takes t) (same_Some (match_at s) m at) (held_fits t s.opens h.0)

  -- what the first match takes fits
  pub first_fits : (table : List (Option (List Piece))) (fs : Factors) (cuts : List ℕ) (is_exact : Bool) (m : Match)
      → first_of table fs t cuts is_exact ≡ Some m → Fits m.takes t
  first_fits table fs cuts is_exact m is = found_fits table (pieces_of_factors fs) cuts is_exact m (first_reached table fs t cuts is_exact ∙ is)
