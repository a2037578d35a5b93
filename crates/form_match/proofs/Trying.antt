-- The candidates of a factor, one after another: those that don't fit lead nowhere.
use Rattle.std.proofs.Common.{◌≡◌, ◌≢◌, ℕ, zero, suc, ◌+◌, ◌-◌, ◌/◌, ◌%◌, ◌<◌, ◌≤◌, ◌==◌, Bool, true, false, not, ◌&&◌, ◌||◌, ◌⊎◌, inl, inr, if◌then◌else◌, List, [], ◌∷◌, ◌++◌, drop, Option, Some, None, option_and_then, option_to_list, refl, sym, ap, ◌∙◌, append-nil, arith}
use Rattle.std.specs.Prelude.{ℤ, pos, nat_abs, flat_map, slice_get}
use Rattle.std.specs.List.{list_any, filter_map, cons_option, range_with_len}
use Rattle.form_term.specs.declared.power.Power.{Power}
use Rattle.form_term.specs.declared.power.DotPower.{DotPower}
use Rattle.form_term.specs.declared.index.Component.{Component}
use Rattle.form_term.specs.declared.index.Delta.{Delta}
use Rattle.form_term.specs.declared.piece.Piece.{Piece}
use Rattle.form_term.specs.Term.{Call, exponent_of}
use Rattle.form_term.specs.Arguments.{arguments_of}
use Rattle.form_tree.specs.declared.pattern.Name.{Name}
use Rattle.form_tree.specs.declared.pattern.Name.TheVariants.{Itself, Wild}
use Rattle.form_tree.specs.declared.pattern.IndexName.{IndexName}
use Rattle.form_tree.specs.declared.pattern.PatternPiece.{PatternPiece}
use Rattle.form_tree.specs.declared.pattern.PatternPiece.TheVariants as pieces
use Rattle.form_match.specs.declared.uses.Use.{Use}
use Rattle.form_match.specs.declared.uses.Use.TheVariants as uses
use Rattle.form_match.specs.Asking.{whole_or_absent, dot_choice, delta_choice}
use Rattle.form_match.specs.Candidates.{candidates, tried, from, from_candidate, only_first}
use Rattle.form_match.specs.Factors.{IsNext, asked_at, component_asked, component_fits, delta_asked, dot_asked, dot_fits, exponent_or_none, first_vector, function_fits, is_fit, is_free, may_be, may_be_absent, may_begin, opened, second_vector, symbol_fits, symbol_of, use_at, whole_asked, whole_fits}
use Rattle.form_match.specs.Matching.{Host, Choice, and_asked, asked_function, asked_index, asked_number, asked_symbol, asked_vector, absent_choice, clashes, component_choice, fits, is_uncut, no_value, symbol_choice, taking}
use Rattle.form_match.specs.Places.{pieces_of}
use Rattle.form_match.specs.States.{Open, factors, arguments, calls, State, state, asking_too, reach, taking_too, with_choice, with_function, with_stretch}
use Rattle.form_bindings.specs.Values.{Binding, function_value, number_value, symbol_value, vector_value}
use Rattle.form_match.proofs.Numbered.{candidate_first, candidate_last}
use Rattle.form_match.proofs.Portions.{both_true}
use Rattle.form_match.proofs.Words.{and_false, unlike, unlike_word}

-- ---- lists

module _ {A B : Type 0} (f : ℕ → Option A) (g : A → List B) where
  one_of : (o : Option A) (rest : List A) → flat_map g (cons_option o rest) ≡ flat_map g (option_to_list o) ++ flat_map g rest
  one_of None rest = refl
  one_of (Some x) rest = ap (λ (l : List B). l ++ flat_map g rest) (sym (append-nil (g x)))

  pub from_here : (count c : ℕ) → c < count → flat_map g (from_candidate f count c) ≡ flat_map g (option_to_list (f c)) ++ flat_map g (from_candidate f count (c + 1))
  from_here count c within = ap (flat_map g) (candidate_first f count c within) ∙ one_of (f c) (from_candidate f count (c + 1))

  skips : (count c n : ℕ) → c + n ≤ count → ((k : ℕ) → c ≤ k → k < c + n → flat_map g (option_to_list (f k)) ≡ []) → flat_map g (from_candidate f count c) ≡ flat_map g (from_candidate f count (c + n))
  skips count c zero within none = let same : c ≡ c + 0 = omega arith in ap (λ (k : ℕ). flat_map g (from_candidate f count k)) same
  skips count c (suc n) within none =
      let same : c + 1 + n ≡ c + suc n = omega arith in
      from_here count c (omega (arith, within))
      ∙ ap (λ (l : List B). l ++ flat_map g (from_candidate f count (c + 1))) (none c (omega arith) (omega arith))
      ∙ skips count (c + 1) n (omega (arith, within)) (λ k low high. none k (omega (arith, low)) (omega (arith, high)))
      ∙ ap (λ (k : ℕ). flat_map g (from_candidate f count k)) same

  -- candidates that lead nowhere are passed over
  pub skipped : (count c d : ℕ) → c ≤ d → d ≤ count → ((k : ℕ) → c ≤ k → k < d → flat_map g (option_to_list (f k)) ≡ []) → flat_map g (from_candidate f count c) ≡ flat_map g (from_candidate f count d)
  skipped count c d before within none =
      let same : c + (d - c) ≡ d = omega (arith, before) in
      skips count c (d - c) (omega (arith, before, within)) (λ k low high. none k low (omega (arith, high, before)))
      ∙ ap (λ (k : ℕ). flat_map g (from_candidate f count k)) same

  all_nowhere : (len c : ℕ) → ((k : ℕ) → c ≤ k → k < c + len → flat_map g (option_to_list (f k)) ≡ []) → flat_map g (filter_map f (range_with_len c len)) ≡ []
  all_nowhere zero c none = refl
  all_nowhere (suc len) c none =
      one_of (f c) (filter_map f (range_with_len (c + 1) len))
      ∙ ap (λ (l : List B). l ++ flat_map g (filter_map f (range_with_len (c + 1) len))) (none c (omega arith) (omega arith))
      ∙ all_nowhere len (c + 1) (λ k low high. none k (omega (arith, low)) (omega (arith, high)))

  -- all lead nowhere
  pub spent : (count c : ℕ) → ((k : ℕ) → c ≤ k → k < count → flat_map g (option_to_list (f k)) ≡ []) → flat_map g (from_candidate f count c) ≡ []
  spent count c none = all_nowhere (count - c) c (λ k low high. none k low (omega (arith, low, high)))

-- ---- what one of them leads to

abbrev no_state : Option State
no_state = None

abbrev no_choice : Option Choice
no_choice = None

taking_none : (us : List Use) (u : Use) → taking_too us u None ≡ None
taking_none us u = by (list_any (λ v. clashes v u) us)
  where
    by : (b : Bool) → (if b then no_state else no_state) ≡ no_state
    by true = refl
    by false = refl

absent_true : (a b : Bool) → (not a && b) ≡ true → (a || not b) ≡ false
absent_true true b e = cc
absent_true false true e = refl
absent_true false false e = cc

absent_false : (a b : Bool) → (not a && b) ≡ false → (a || not b) ≡ true
absent_false true b e = refl
absent_false false true e = cc
absent_false false false e = refl

none_second : (a : Option (List Binding)) → and_asked a None ≡ None
none_second None = refl
none_second (Some a) = refl

module _ (h : Host) (us : List Use) (os : List Open) (bs : List Binding) where
  -- what a candidate leads to that fits
  abbrev pub expected : PatternPiece → ℕ → Option State
  expected p c = taking_too us (use_at h p c) (asking_too (opened h us os (use_at h p c)) bs (asked_at h p c))

  abbrev choosing : Option Choice → Option State
  choosing o = option_and_then (with_choice h us os bs) o

  abbrev plainly : Use → Option (List Binding) → Option State
  plainly u asks = taking_too us u (asking_too (factors h (us ++ u ∷ []) ∷ os) bs asks)

  chosen : (u : Use) (asks : Option (List Binding)) → choosing (taking u asks) ≡ plainly u asks
  chosen u None = sym (taking_none us u)
  chosen u (Some asks) = refl

  tested : (u : Use) (asks : Option (List Binding)) (b : Bool) → b ≡ true → choosing (if b then taking u asks else None) ≡ plainly u asks
  tested u asks b e = ap (λ (t : Bool). choosing (if t then taking u asks else None)) e ∙ chosen u asks

  refused : (u : Use) (asks : Option (List Binding)) (b : Bool) → b ≡ false → choosing (if b then taking u asks else None) ≡ None
  refused u asks b e = ap (λ (t : Bool). choosing (if t then taking u asks else None)) e

  unasked : (u : Use) (asks : Option (List Binding)) (b : Bool) → asks ≡ None → choosing (if b then taking u asks else None) ≡ None
  unasked u asks b e = ap (λ (a : Option (List Binding)). choosing (if b then taking u a else None)) e ∙ by b
    where
      by : (t : Bool) → choosing (if t then no_choice else None) ≡ None
      by true = refl
      by false = refl

  module _ (n : Name) (k : ℤ) where
    abbrev symbol_by : Option Power → Option State
    symbol_by o = choosing (option_and_then (λ p. symbol_choice h.is_exact n k p) o)

    symbol_fit : (o : Option Power) → symbol_fits h.is_exact n k o ≡ true → symbol_by o ≡ plainly (uses.Symbol (symbol_of n o) k) (option_and_then (λ p. asked_symbol n p.symbol) o)
    symbol_fit None e = cc
    symbol_fit (Some p) e = tested (uses.Symbol p.symbol k) (asked_symbol n p.symbol) (fits h.is_exact p.exponent k) (both_true (may_be n p.symbol) (fits h.is_exact p.exponent k) e).1

    symbol_unfit : (o : Option Power) → symbol_fits h.is_exact n k o ≡ false → symbol_by o ≡ None
    symbol_unfit None e = refl
    symbol_unfit (Some p) e = by (and_false (may_be n p.symbol) (fits h.is_exact p.exponent k) e)
      where
        by : (may_be n p.symbol ≡ false) ⊎ (fits h.is_exact p.exponent k ≡ false) → symbol_by (Some p) ≡ None
        by (inl other) = unasked (uses.Symbol p.symbol k) (asked_symbol n p.symbol) (fits h.is_exact p.exponent k) (unlike (λ s. symbol_value s) (λ z. number_value z ∷ []) n p.symbol (symbol_value p.symbol) other)
        by (inr large) = refused (uses.Symbol p.symbol k) (asked_symbol n p.symbol) (fits h.is_exact p.exponent k) large

  module _ (m : Name) where
    absent_fit : (n : Name) → may_be_absent h n ≡ true → choosing (absent_choice h n m) ≡ plainly (uses.Symbol (symbol_of n None) (pos 0)) (asked_number m (pos 0))
    absent_fit (Itself s) e =
        ap (λ (b : Bool). choosing (if b then None else taking (uses.Symbol s (pos 0)) (asked_number m (pos 0)))) (absent_true h.is_inner (nat_abs (exponent_of h.term s) == 0) e)
        ∙ chosen (uses.Symbol s (pos 0)) (asked_number m (pos 0))
    absent_fit (Wild w sets) e = cc

    absent_unfit : (n : Name) → may_be_absent h n ≡ false → choosing (absent_choice h n m) ≡ None
    absent_unfit (Itself s) e = ap (λ (b : Bool). choosing (if b then None else taking (uses.Symbol s (pos 0)) (asked_number m (pos 0)))) (absent_false h.is_inner (nat_abs (exponent_of h.term s) == 0) e)
    absent_unfit (Wild w sets) e = refl

    whole_fit : (n : Name) (o : Option Power) → whole_fits h n o ≡ true → choosing (whole_or_absent h n m o) ≡ plainly (uses.Symbol (symbol_of n o) (exponent_or_none o)) (whole_asked n m o)
    whole_fit n None e = absent_fit n e
    whole_fit n (Some p) e = chosen (uses.Symbol p.symbol p.exponent) (and_asked (asked_symbol n p.symbol) (asked_number m p.exponent))

    whole_unfit : (n : Name) (o : Option Power) → whole_fits h n o ≡ false → choosing (whole_or_absent h n m o) ≡ None
    whole_unfit n None e = absent_unfit n e
    whole_unfit n (Some p) e = ap (λ (a : Option (List Binding)). choosing (taking (uses.Symbol p.symbol p.exponent) (and_asked a (asked_number m p.exponent)))) (unlike (λ s. symbol_value s) (λ z. number_value z ∷ []) n p.symbol (symbol_value p.symbol) e)

  module _ (p q : Name) (k : ℤ) (m : ℕ) (b : Bool) where
    abbrev dot_by : Option DotPower → Option State
    dot_by o = choosing (option_and_then (λ d. dot_choice h.is_exact p q k m d b) o)

    dot_fit : (o : Option DotPower) → dot_fits h.is_exact p q k b o ≡ true → dot_by o ≡ plainly (uses.Dot m k) (option_and_then (dot_asked p q b) o)
    dot_fit None e = cc
    dot_fit (Some d) e =
        tested (uses.Dot m k) (dot_asked p q b d) (fits h.is_exact d.exponent k) (both_true (may_be p (first_vector d b) && may_be q (second_vector d b)) (fits h.is_exact d.exponent k) e).1

    dot_unfit : (o : Option DotPower) → dot_fits h.is_exact p q k b o ≡ false → dot_by o ≡ None
    dot_unfit None e = refl
    dot_unfit (Some d) e = by (and_false (may_be p (first_vector d b) && may_be q (second_vector d b)) (fits h.is_exact d.exponent k) e)
      where
        named : (may_be p (first_vector d b) ≡ false) ⊎ (may_be q (second_vector d b) ≡ false) → dot_asked p q b d ≡ None
        named (inl other) = ap (λ (a : Option (List Binding)). and_asked a (asked_vector q (second_vector d b))) (unlike (λ v. vector_value v) no_value p (first_vector d b) (vector_value (first_vector d b)) other)
        named (inr other) = ap (λ (a : Option (List Binding)). and_asked (asked_vector p (first_vector d b)) a) (unlike (λ v. vector_value v) no_value q (second_vector d b) (vector_value (second_vector d b)) other) ∙ none_second (asked_vector p (first_vector d b))

        by : ((may_be p (first_vector d b) && may_be q (second_vector d b)) ≡ false) ⊎ (fits h.is_exact d.exponent k ≡ false) → dot_by (Some d) ≡ None
        by (inl other) = unasked (uses.Dot m k) (dot_asked p q b d) (fits h.is_exact d.exponent k) (named (and_false (may_be p (first_vector d b)) (may_be q (second_vector d b)) other))
        by (inr large) = refused (uses.Dot m k) (dot_asked p q b d) (fits h.is_exact d.exponent k) large

  module _ (v : Name) (i : IndexName) (c : ℕ) where
    component_fit : (o : Option Component) → component_fits v o ≡ true → choosing (option_and_then (λ d. component_choice v i (c, d)) o) ≡ plainly (uses.Component c) (option_and_then (component_asked v i) o)
    component_fit None e = cc
    component_fit (Some d) e = chosen (uses.Component c) (component_asked v i d)

    component_unfit : (o : Option Component) → component_fits v o ≡ false → choosing (option_and_then (λ d. component_choice v i (c, d)) o) ≡ None
    component_unfit None e = refl
    component_unfit (Some d) e = ap (λ (a : Option (List Binding)). choosing (taking (uses.Component c) (and_asked a (asked_index i d.index)))) (unlike (λ v. vector_value v) no_value v d.vector (vector_value d.vector) e)

  delta_fit : (i j : IndexName) (m : ℕ) (b : Bool) (o : Option Delta) → choosing (option_and_then (λ d. delta_choice i j m d b) o) ≡ plainly (uses.Delta m) (option_and_then (delta_asked i j b) o)
  delta_fit i j m b None = sym (taking_none us (uses.Delta m))
  delta_fit i j m b (Some d) = chosen (uses.Delta m) (delta_asked i j b d)

  module _ (n : Name) (c : ℕ) where
    abbrev function_by : Option Call → Option State
    function_by o = option_and_then (λ call. with_function n h us os bs (c, call)) o

    function_fit : (o : Option Call) → function_fits n o ≡ true
        → function_by o ≡ taking_too us (uses.Function c) (asking_too (arguments (arguments_of (pieces_of o)) ∷ factors h (us ++ uses.Function c ∷ []) ∷ os) bs (option_and_then (λ f. asked_function n f.function) o))
    function_fit None e = cc
    function_fit (Some f) e = refl

    function_unfit : (o : Option Call) → function_fits n o ≡ false → function_by o ≡ None
    function_unfit None e = refl
    function_unfit (Some f) e =
        ap (λ (a : Option (List Binding)). taking_too us (uses.Function c) (asking_too (arguments (arguments_of f.pieces) ∷ factors h (us ++ uses.Function c ∷ []) ∷ os) bs a)) (unlike (λ f. function_value f) no_value n f.function (function_value f.function) e)
        ∙ taking_none us (uses.Function c)

  -- a candidate that fits
  pub tried_is : (p : PatternPiece) (behind : List PatternPiece) (c : ℕ) → is_fit h p behind c ≡ true → c < candidates h p → tried h us os bs p c ≡ expected p c
  tried_is (pieces.Symbol n k) behind c fit some = symbol_fit n k (slice_get h.term.symbols c) fit
  tried_is (pieces.Whole n m) behind c fit some = whole_fit m n (slice_get h.term.symbols c) fit
  tried_is (pieces.Dot p q k) behind c fit some = dot_fit p q k (c / 2) (c % 2 == 1) (slice_get h.term.others.dots (c / 2)) fit
  tried_is (pieces.Component v i) behind c fit some = component_fit v i c (slice_get h.term.others.components c) fit
  tried_is (pieces.Delta i j) behind c fit some = delta_fit i j (c / 2) (c % 2 == 1) (slice_get h.term.others.deltas (c / 2))
  tried_is (pieces.Function n) behind c fit some = function_fit n c (slice_get h.term.others.functions c) fit
  tried_is (pieces.Word n) behind c fit some =
      ap (λ (b : Bool). if b then with_stretch n h us os bs c else None) (both_true (may_begin (drop c h.term.others.word) behind) (is_uncut h.cuts n c) fit).1
  tried_is (pieces.Call n) behind c fit some = absurd (omega (arith, some))
  tried_is pieces.EndOfArguments behind c fit some = absurd (omega (arith, some))
  tried_is pieces.EndOfWord behind c fit some = absurd (omega (arith, some))
  tried_is (pieces.Fixed k) behind c fit some = absurd (omega (arith, some))
  tried_is (pieces.Any sort n) behind c fit some = absurd (omega (arith, some))
  tried_is (pieces.Field w) behind c fit some = absurd (omega (arith, some))
  tried_is pieces.Product behind c fit some = absurd (omega (arith, some))
  tried_is pieces.EndOfProduct behind c fit some = absurd (omega (arith, some))

  module _ (table : List (Option (List Piece))) (behind : List PatternPiece) where
    abbrev leading : Option State → List State
    leading o = flat_map (reach table behind) (option_to_list o)

    -- a stretch that crosses a cut, or whose names don't fit
    stretch_unfit : (n c : ℕ) → (may_begin (drop c h.term.others.word) behind ≡ false) ⊎ (is_uncut h.cuts n c ≡ false) → leading (if is_uncut h.cuts n c then with_stretch n h us os bs c else None) ≡ []
    stretch_unfit n c (inr cut) = ap (λ (b : Bool). leading (if b then with_stretch n h us os bs c else None)) cut
    stretch_unfit n c (inl other) = by (is_uncut h.cuts n c) (list_any (λ v. clashes v (uses.Stretch c n)) us)
      where
        by : (a b : Bool) → leading (if a then (if b then None else Some (state (calls (drop c h.term.others.word) ∷ factors h (us ++ uses.Stretch c n ∷ []) ∷ os) bs)) else None) ≡ []
        by false b = refl
        by true true = refl
        by true false =
            append-nil (reach table behind (state (calls (drop c h.term.others.word) ∷ factors h (us ++ uses.Stretch c n ∷ []) ∷ os) bs))
            ∙ unlike_word table (drop c h.term.others.word) behind (factors h (us ++ uses.Stretch c n ∷ []) ∷ os) bs other

    -- a candidate that doesn't fit
    pub unfit : (p : PatternPiece) (c : ℕ) → is_fit h p behind c ≡ false → leading (tried h us os bs p c) ≡ []
    unfit (pieces.Symbol n k) c e = ap leading (symbol_unfit n k (slice_get h.term.symbols c) e)
    unfit (pieces.Whole n m) c e = ap leading (whole_unfit m n (slice_get h.term.symbols c) e)
    unfit (pieces.Dot p q k) c e = ap leading (dot_unfit p q k (c / 2) (c % 2 == 1) (slice_get h.term.others.dots (c / 2)) e)
    unfit (pieces.Component v i) c e = ap leading (component_unfit v i c (slice_get h.term.others.components c) e)
    unfit (pieces.Function n) c e = ap leading (function_unfit n c (slice_get h.term.others.functions c) e)
    unfit (pieces.Word n) c e = stretch_unfit n c (and_false (may_begin (drop c h.term.others.word) behind) (is_uncut h.cuts n c) e)
    unfit p c e = cc

    -- one that doesn't fit, or isn't free
    unfree : (p : PatternPiece) (c : ℕ) → c < candidates h p → is_free h p behind us c ≡ false → leading (tried h us os bs p c) ≡ []
    unfree p c some e = by (is_fit h p behind c) refl (list_any (λ v. clashes v (use_at h p c)) us) refl e
      where
        by : (a : Bool) → is_fit h p behind c ≡ a → (b : Bool) → list_any (λ v. clashes v (use_at h p c)) us ≡ b → (a && not b) ≡ false → leading (tried h us os bs p c) ≡ []
        by false fit b clash f = unfit p c fit
        by true fit true clash f =
            ap leading (tried_is p behind c fit some)
            ∙ ap (λ (t : Bool). leading (if t then None else asking_too (opened h us os (use_at h p c)) bs (asked_at h p c))) clash
        by true fit false clash f = cc

    nothing : {A : Type 0} (c : ℕ) → only_first {A = A} c [] ≡ []
    nothing zero = refl
    nothing (suc c) = refl

    -- what the candidates lead to from one on
    abbrev pub lead : PatternPiece → ℕ → List State
    lead p c = flat_map (reach table behind) (from table p (factors h us ∷ os) bs c)

    from_is : (p : PatternPiece) → p ≢ pieces.EndOfProduct → (c : ℕ) → from table p (factors h us ∷ os) bs c ≡ from_candidate (tried h us os bs p) (candidates h p) c
    from_is (pieces.Symbol n k) no_end c = refl
    from_is (pieces.Whole n m) no_end c = refl
    from_is (pieces.Dot p q k) no_end c = refl
    from_is (pieces.Component v i) no_end c = refl
    from_is (pieces.Delta i j) no_end c = refl
    from_is (pieces.Function n) no_end c = refl
    from_is (pieces.Word n) no_end c = refl
    from_is (pieces.Call n) no_end c = nothing c ∙ sym (candidate_last (tried h us os bs (pieces.Call n)) 0 c (omega arith))
    from_is pieces.EndOfArguments no_end c = nothing c ∙ sym (candidate_last (tried h us os bs pieces.EndOfArguments) 0 c (omega arith))
    from_is pieces.EndOfWord no_end c = nothing c ∙ sym (candidate_last (tried h us os bs pieces.EndOfWord) 0 c (omega arith))
    from_is (pieces.Fixed k) no_end c = nothing c ∙ sym (candidate_last (tried h us os bs (pieces.Fixed k)) 0 c (omega arith))
    from_is (pieces.Any sort n) no_end c = nothing c ∙ sym (candidate_last (tried h us os bs (pieces.Any sort n)) 0 c (omega arith))
    from_is (pieces.Field w) no_end c = nothing c ∙ sym (candidate_last (tried h us os bs (pieces.Field w)) 0 c (omega arith))
    from_is pieces.Product no_end c = nothing c ∙ sym (candidate_last (tried h us os bs pieces.Product) 0 c (omega arith))
    from_is pieces.EndOfProduct no_end c = absurd (no_end refl)

    module _ (p : PatternPiece) (no_end : p ≢ pieces.EndOfProduct) where
      lead_is : (c : ℕ) → lead p c ≡ flat_map (reach table behind) (from_candidate (tried h us os bs p) (candidates h p) c)
      lead_is c = ap (flat_map (reach table behind)) (from_is p no_end c)

      -- none is free from one on
      pub none_free : (c : ℕ) → IsNext (is_free h p behind us) (candidates h p) c None → lead p c ≡ []
      none_free c none = lead_is c ∙ spent (tried h us os bs p) (reach table behind) (candidates h p) c (λ k low high. unfree p k high (none k low high))

      -- the first one that is free, and those behind it
      pub first_free : (c n : ℕ) → IsNext (is_free h p behind us) (candidates h p) c (Some n)
          → lead p c ≡ leading (asking_too (opened h us os (use_at h p n)) bs (asked_at h p n)) ++ lead p (n + 1)
      first_free c n next =
          let parts = both_true (is_fit h p behind n) (not (list_any (λ v. clashes v (use_at h p n)) us)) next.2 in
          lead_is c
          ∙ skipped (tried h us os bs p) (reach table behind) (candidates h p) c n next.0 (omega (arith, next.1)) (λ k low high. unfree p k (omega (arith, high, next.1)) (next.3 k low high))
          ∙ from_here (tried h us os bs p) (reach table behind) (candidates h p) n next.1
          ∙ ap (λ (o : Option State). leading o ++ flat_map (reach table behind) (from_candidate (tried h us os bs p) (candidates h p) (n + 1)))
          (tried_is p behind n parts.0 next.1
          ∙ ap (λ (t : Bool). if t then None else asking_too (opened h us os (use_at h p n)) bs (asked_at h p n)) (not_so (list_any (λ v. clashes v (use_at h p n)) us) parts.1))
          ∙ ap (λ (l : List State). leading (asking_too (opened h us os (use_at h p n)) bs (asked_at h p n)) ++ l) (sym (lead_is (n + 1)))
        where
          not_so : (b : Bool) → not b ≡ true → b ≡ false
          not_so true e = cc
          not_so false e = refl

      -- none fits any more
      pub none_fits : (c : ℕ) → IsNext (is_fit h p behind) (candidates h p) c None → lead p c ≡ []
      none_fits c none = lead_is c ∙ spent (tried h us os bs p) (reach table behind) (candidates h p) c (λ k low high. unfit p k (none k low high))

      -- the next one that fits
      pub next_fits : (c n : ℕ) → IsNext (is_fit h p behind) (candidates h p) c (Some n) → lead p c ≡ lead p n
      next_fits c n next =
          lead_is c
          ∙ skipped (tried h us os bs p) (reach table behind) (candidates h p) c n next.0 (omega (arith, next.1)) (λ k low high. unfit p k (next.3 k low high))
          ∙ sym (lead_is n)
