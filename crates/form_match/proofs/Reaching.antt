-- The search goes through the vectors of choices: what the pieces of a pattern lead to is what its vectors make, in order.
use Rattle.std.proofs.Common.{◌≡◌, suc, Bool, true, false, not, ◌&&◌, ◌||◌, cond, if◌then◌else◌, List, [], ◌∷◌, ◌++◌, length, map, drop, Option, Some, None, option_map, option_and_then, option_to_list, refl, sym, ap, ◌∙◌, append_assoc, append-nil}
use Rattle.std.specs.Prelude.{flat_map, filter}
use Rattle.std.specs.List.{list_any, filter_map, cons_option, enumerate_from, range_with_len}
use Rattle.form_term.specs.declared.piece.Piece.{Piece}
use Rattle.form_term.specs.Term as terms
use Rattle.form_term.specs.Term.{Term, Call, pieces_of_argument as pieces_of_one}
use Rattle.form_term.specs.Arguments.{arguments_of}
use Rattle.form_tree.specs.declared.pattern.PatternPiece.{PatternPiece}
use Rattle.form_tree.specs.declared.pattern.PatternPiece.TheVariants as pieces
use Rattle.form_tree.specs.Pattern.{Factors, none, more, Factor, symbol, whole, dot, component, delta, function, word, Calls, end, call, count, Arguments, empty, further, Argument, fixed, any, field, product, pieces_of_factors, pieces_of_factor, pieces_of_calls, pieces_of_arguments, pieces_of_argument}
use Rattle.form_match.specs.declared.uses.Use.{Use}
use Rattle.form_match.specs.declared.uses.Use.TheVariants as uses
use Rattle.form_match.specs.Learning.{learnt}
use Rattle.form_match.specs.Left.{left_of, is_one}
use Rattle.form_match.specs.Matching.{Host, Choice, clashes, are_apart, uses_of, asks_of, takes_whole, joined, behind, call_ways, any_ways, product_ways, field_asks, is_fixed_argument, is_coefficient_one, inner, starts, asked_function, vectors, choices, ways, word_ways}
use Rattle.form_match.specs.States.{Open, factors, arguments, calls, State, state, binding_too, taking_too, with_choice, asking_too, with_function, with_stretch, with_call, with_field, behind_arguments, moves, reach}
use Rattle.form_bindings.specs.Values.{Binding}
use Rattle.form_match.proofs.Told.{learnt_both}

-- ---- lists

flat_append : {A B : Type 0} (f : A → List B) (xs ys : List A) → flat_map f (xs ++ ys) ≡ flat_map f xs ++ flat_map f ys
flat_append f [] ys = refl
flat_append f (x ∷ xs) ys = ap (λ (l : List _). f x ++ l) (flat_append f xs ys) ∙ sym (append_assoc (f x) (flat_map f xs) (flat_map f ys))

flat_flat : {A B C : Type 0} (f : B → List C) (g : A → List B) (xs : List A) → flat_map f (flat_map g xs) ≡ flat_map (λ x. flat_map f (g x)) xs
flat_flat f g [] = refl
flat_flat f g (x ∷ xs) = flat_append f (g x) (flat_map g xs) ∙ ap (λ (l : List _). flat_map f (g x) ++ l) (flat_flat f g xs)

flat_alike : {A B : Type 0} (f g : A → List B) → ((x : A) → f x ≡ g x) → (xs : List A) → flat_map f xs ≡ flat_map g xs
flat_alike f g same [] = refl
flat_alike f g same (x ∷ xs) = ap (λ (l : List _). l ++ flat_map f xs) (same x) ∙ ap (λ (l : List _). g x ++ l) (flat_alike f g same xs)

flat_units : {A : Type 0} (xs : List A) → flat_map (λ x. x ∷ []) xs ≡ xs
flat_units [] = refl
flat_units (x ∷ xs) = ap (λ (l : List _). x ∷ l) (flat_units xs)

some_alike : {A B : Type 0} (f g : A → Option B) → ((x : A) → f x ≡ g x) → (xs : List A) → filter_map f xs ≡ filter_map g xs
some_alike f g same [] = refl
some_alike f g same (x ∷ xs) = ap (λ (o : Option _). cons_option o (filter_map f xs)) (same x) ∙ ap (cons_option (g x)) (some_alike f g same xs)

some_append : {A B : Type 0} (f : A → Option B) (xs ys : List A) → filter_map f (xs ++ ys) ≡ filter_map f xs ++ filter_map f ys
some_append f [] ys = refl
some_append f (x ∷ xs) ys = by (f x) (some_append f xs ys)
  where
    by : (o : Option _) → filter_map f (xs ++ ys) ≡ filter_map f xs ++ filter_map f ys → cons_option o (filter_map f (xs ++ ys)) ≡ cons_option o (filter_map f xs) ++ filter_map f ys
    by None rest = rest
    by (Some y) rest = ap (λ (l : List _). y ∷ l) rest

some_map : {A B C : Type 0} (f : B → Option C) (g : A → B) (xs : List A) → filter_map f (map g xs) ≡ filter_map (λ x. f (g x)) xs
some_map f g [] = refl
some_map f g (x ∷ xs) = ap (cons_option (f (g x))) (some_map f g xs)

abbrev nowhere : {A B : Type 0} → A → Option B
nowhere x = None

some_none : {A B : Type 0} (xs : List A) → filter_map (nowhere {A = A} {B = B}) xs ≡ []
some_none [] = refl
some_none (x ∷ xs) = some_none xs

abbrev no_state : Option State
no_state = None

-- what an option leads to
abbrev leads : {A B : Type 0} → (A → List B) → Option A → List B
leads g None = []
leads g (Some x) = g x

-- what the results of some lead to is what is made of all that they stand for
by_each : {A B C D : Type 0} (g : B → List D) (w : A → Option B) (a : C → Option D) (k : A → List C) → ((x : A) → leads g (w x) ≡ filter_map a (k x)) → (xs : List A)
    → flat_map g (filter_map w xs) ≡ filter_map a (flat_map k xs)
by_each g w a k same [] = refl
by_each g w a k same (x ∷ xs) = by (w x) (same x) (by_each g w a k same xs) ∙ sym (some_append a (k x) (flat_map k xs))
  where
    by : (o : Option _) → leads g o ≡ filter_map a (k x) → flat_map g (filter_map w xs) ≡ filter_map a (flat_map k xs)
        → flat_map g (cons_option o (filter_map w xs)) ≡ filter_map a (k x) ++ filter_map a (flat_map k xs)
    by None e rest = rest ∙ ap (λ (l : List _). l ++ filter_map a (flat_map k xs)) e
    by (Some y) e rest = ap (λ (l : List _). l ++ flat_map g (filter_map w xs)) e ∙ ap (λ (l : List _). filter_map a (k x) ++ l) rest

-- ---- what is learnt

-- what is bound first leads to what is bound then
both_bound : (os : List Open) (bs a b : List Binding) → binding_too os bs (a ++ b) ≡ option_and_then (λ made. binding_too os made b) (learnt bs a)
both_bound os bs a b = ap (option_map (state os)) (learnt_both bs a b) ∙ by (learnt bs a)
  where
    by : (o : Option (List Binding)) → option_map (state os) (option_and_then (λ made. learnt made b) o) ≡ option_and_then (λ made. option_map (state os) (learnt made b)) o
    by None = refl
    by (Some made) = refl

-- where these are bound first, what then follows are the ways behind them
behind_bound : (os before : List Open) (g : State → List State) (bs asks : List Binding) (ws : List (List Binding))
    → ((made : List Binding) → g (state before made) ≡ filter_map (binding_too os made) ws)
    → leads g (binding_too before bs asks) ≡ filter_map (λ w. binding_too os bs (asks ++ w)) ws
behind_bound os before g bs asks ws after = by (learnt bs asks) ∙ sym (some_alike (λ w. binding_too os bs (asks ++ w)) (λ w. option_and_then (λ made. binding_too os made w) (learnt bs asks)) (λ w. both_bound os bs asks w) ws)
  where
    by : (o : Option (List Binding)) → leads g (option_map (state before) o) ≡ filter_map (λ w. option_and_then (λ made. binding_too os made w) o) ws
    by None = sym (some_none ws)
    by (Some made) = after made

-- ways of one thing, each with the ways of what is behind it
joined_bound : (os before : List Open) (g : State → List State) (bs : List Binding) (firsts ws : List (List Binding))
    → ((made : List Binding) → g (state before made) ≡ filter_map (binding_too os made) ws)
    → flat_map g (filter_map (binding_too before bs) firsts) ≡ filter_map (binding_too os bs) (joined firsts ws)
joined_bound os before g bs firsts ws after =
    by_each g (binding_too before bs) (binding_too os bs) (λ a. map (λ w. a ++ w) ws)
    (λ a. behind_bound os before g bs a ws after ∙ sym (some_map (binding_too os bs) (λ w. a ++ w) ws)) firsts

-- ---- what is apart

-- each of these clashes neither with the first ones nor with those before it
abbrev pub apart_from : List Use → List Use → Bool
apart_from us [] = true
apart_from us (v ∷ vs) = not (list_any (λ u. clashes u v) us) && apart_from (us ++ v ∷ []) vs

-- what a vector makes of what is open
abbrev pub after_vector : Host → List Use → List Open → List Binding → List Choice → Option State
after_vector h us os bs v = if apart_from us (uses_of v) then binding_too (factors h (us ++ uses_of v) ∷ os) bs (asks_of v) else None

-- a choice, and then the others
module _ (h : Host) (us : List Use) (os : List Open) (bs : List Binding) (c : Choice) where
  -- the vector by whether its first choice clashes, and what that makes of what is bound
  abbrev split : Bool → Option (List Binding) → List Choice → Option State
  split b o v = if not b && apart_from (us ++ c.takes ∷ []) (uses_of v) then option_and_then (λ made. binding_too (factors h (us ++ (c.takes ∷ uses_of v)) ∷ os) made (asks_of v)) o else None

  regroup : (made : List Binding) (v : List Choice) → after_vector h (us ++ c.takes ∷ []) os made v ≡ split false (Some made) v
  regroup made v = ap (λ (l : List Use). if apart_from (us ++ c.takes ∷ []) (uses_of v) then binding_too (factors h l ∷ os) made (asks_of v) else None) (append_assoc us (c.takes ∷ []) (uses_of v))

  nothing_follows : (v : List Choice) → split false None v ≡ None
  nothing_follows v = if_none (apart_from (us ++ c.takes ∷ []) (uses_of v))
    where
      if_none : (b : Bool) → (if b then no_state else no_state) ≡ None
      if_none true = refl
      if_none false = refl

  is_split : (v : List Choice) → split (list_any (λ u. clashes u c.takes) us) (learnt bs c.asks) v ≡ after_vector h us os bs (c ∷ v)
  is_split v =
      ap (λ (p : Option State). if not (list_any (λ u. clashes u c.takes) us) && apart_from (us ++ c.takes ∷ []) (uses_of v) then p else None)
      (sym (both_bound (factors h (us ++ (c.takes ∷ uses_of v)) ∷ os) bs c.asks (asks_of v)))

  module _ (g : State → List State) (vs : List (List Choice))
      (after : (made : List Binding) → g (state (factors h (us ++ c.takes ∷ []) ∷ os) made) ≡ filter_map (after_vector h (us ++ c.takes ∷ []) os made) vs) where
    made_so : (b : Bool) (o : Option (List Binding)) → leads g (if b then None else option_map (state (factors h (us ++ c.takes ∷ []) ∷ os)) o) ≡ filter_map (split b o) vs
    made_so true o = sym (some_none vs)
    made_so false None = sym (some_alike (split false None) nowhere nothing_follows vs ∙ some_none vs)
    made_so false (Some made) = after made ∙ some_alike (after_vector h (us ++ c.takes ∷ []) os made) (split false (Some made)) (regroup made) vs

    choice_first : leads g (with_choice h us os bs c) ≡ filter_map (after_vector h us os bs) (map (λ v. c ∷ v) vs)
    choice_first =
        made_so (list_any (λ u. clashes u c.takes) us) (learnt bs c.asks)
        ∙ some_alike (split (list_any (λ u. clashes u c.takes) us) (learnt bs c.asks)) (λ v. after_vector h us os bs (c ∷ v)) is_split vs
        ∙ sym (some_map (after_vector h us os bs) (λ v. c ∷ v) vs)

-- ---- uses that are free

-- what is asked only where a use is free
free_first : (us : List Use) (u : Use) (g : State → List State) (o : Option State) (k : List Binding → Option State) (ws : List (List Binding))
    → leads g o ≡ filter_map k ws → leads g (taking_too us u o) ≡ filter_map (λ w. taking_too us u (k w)) ws
free_first us u g o k ws after = by (list_any (λ v. clashes v u) us)
  where
    by : (b : Bool) → leads g (if b then None else o) ≡ filter_map (λ w. if b then None else k w) ws
    by true = sym (some_none ws)
    by false = after

-- a name, and then the ways of what is behind it
asked_first : (os before : List Open) (g : State → List State) (bs : List Binding) (o : Option (List Binding)) (ws : List (List Binding))
    → ((made : List Binding) → g (state before made) ≡ filter_map (binding_too os made) ws)
    → leads g (asking_too before bs o) ≡ filter_map (binding_too os bs) (behind o ws)
asked_first os before g bs None ws after = refl
asked_first os before g bs (Some asks) ws after = behind_bound os before g bs asks ws after ∙ sym (some_map (binding_too os bs) (λ w. asks ++ w) ws)

-- what a thing leads to, where it is there
where_true : {A B C : Type 0} (g : A → List B) (b : Bool) (x : A) (f : C → Option B) (ws : List C) → g x ≡ filter_map f ws → flat_map g (if b then x ∷ [] else []) ≡ filter_map f (if b then ws else [])
where_true g true x f ws e = append-nil (g x) ∙ e
where_true g false x f ws e = refl

-- what one thing leads to
one_or_none : {A B : Type 0} (g : A → List B) (o : Option A) → flat_map g (option_to_list o) ≡ leads g o
one_or_none g None = refl
one_or_none g (Some x) = append-nil (g x)

-- a name, the ways of its arguments, and those of what is behind them
map_append : {A B : Type 0} (f : A → B) (xs ys : List A) → map f (xs ++ ys) ≡ map f xs ++ map f ys
map_append f [] ys = refl
map_append f (x ∷ xs) ys = ap (λ (l : List _). f x ∷ l) (map_append f xs ys)

map_map : {A B C : Type 0} (f : B → C) (g : A → B) (h : A → C) → ((x : A) → f (g x) ≡ h x) → (xs : List A) → map f (map g xs) ≡ map h xs
map_map f g h same [] = refl
map_map f g h same (x ∷ xs) = ap (λ (y : _). y ∷ map f (map g xs)) (same x) ∙ ap (λ (l : List _). h x ∷ l) (map_map f g h same xs)

behind_joined : (o : Option (List Binding)) (ws vs : List (List Binding)) → behind o (joined ws vs) ≡ joined (behind o ws) vs
behind_joined None ws vs = refl
behind_joined (Some a) [] vs = refl
behind_joined (Some a) (w ∷ ws) vs =
    map_append (λ (v : List Binding). a ++ v) (map (λ v. w ++ v) vs) (joined ws vs)
    ∙ ap (λ (l : List (List Binding)). l ++ map (λ v. a ++ v) (joined ws vs)) (map_map (λ (v : List Binding). a ++ v) (λ v. w ++ v) (λ v. (a ++ w) ++ v) (λ v. sym (append_assoc a w v)) vs)
    ∙ ap (λ (l : List (List Binding)). map (λ v. (a ++ w) ++ v) vs ++ l) (behind_joined (Some a) ws vs)

some_filter : {A B C : Type 0} (p : A → Bool) (f : B → Option C) (h : A → B) (xs : List A) → filter_map (λ x. if p x then f (h x) else None) xs ≡ filter_map f (map h (filter p xs))
some_filter p f h [] = refl
some_filter p f h (x ∷ xs) = by (p x) (some_filter p f h xs)
  where
    by : (b : Bool) → filter_map (λ y. if p y then f (h y) else None) xs ≡ filter_map f (map h (filter p xs))
        → cons_option (if b then f (h x) else None) (filter_map (λ y. if p y then f (h y) else None) xs) ≡ filter_map f (map h (cond b (x ∷ filter p xs) (filter p xs)))
    by true rest = ap (cons_option (f (h x))) rest
    by false rest = rest

-- ---- what is apart, from either side

abbrev all_free : List Use → List Use → Bool
all_free us [] = true
all_free us (v ∷ vs) = not (list_any (λ u. clashes u v) us) && all_free us vs

any_more : (us : List Use) (v w : Use) → list_any (λ u. clashes u w) (us ++ v ∷ []) ≡ (list_any (λ u. clashes u w) us || clashes v w)
any_more [] v w = by (clashes v w)
  where
    by : (b : Bool) → (b || false) ≡ (false || b)
    by true = refl
    by false = refl
any_more (u ∷ us) v w = by (clashes u w) (any_more us v w)
  where
    by : (b : Bool) → list_any (λ u. clashes u w) (us ++ v ∷ []) ≡ (list_any (λ u. clashes u w) us || clashes v w)
        → (b || list_any (λ u. clashes u w) (us ++ v ∷ [])) ≡ ((b || list_any (λ u. clashes u w) us) || clashes v w)
    by true rest = refl
    by false rest = rest

two_tests : (a b c d : Bool) → (not (a || b) && (c && not d)) ≡ ((not a && c) && not (b || d))
two_tests true b c d = refl
two_tests false true true d = refl
two_tests false true false d = refl
two_tests false false true d = refl
two_tests false false false d = refl

free_more : (us : List Use) (v : Use) (ws : List Use) → all_free (us ++ v ∷ []) ws ≡ (all_free us ws && not (list_any (clashes v) ws))
free_more us v [] = refl
free_more us v (w ∷ ws) =
    ap (λ (b : Bool). not b && all_free (us ++ v ∷ []) ws) (any_more us v w)
    ∙ ap (λ (b : Bool). not (list_any (λ u. clashes u w) us || clashes v w) && b) (free_more us v ws)
    ∙ two_tests (list_any (λ u. clashes u w) us) (clashes v w) (all_free us ws) (list_any (clashes v) ws)

four_tests : (a b c d : Bool) → (a && ((b && c) && d)) ≡ ((a && b) && (c && d))
four_tests true true c d = refl
four_tests true false c d = refl
four_tests false b c d = refl

apart_split : (us vs : List Use) → apart_from us vs ≡ (all_free us vs && are_apart vs)
apart_split us [] = refl
apart_split us (v ∷ vs) =
    ap (λ (b : Bool). not (list_any (λ u. clashes u v) us) && b) (apart_split (us ++ v ∷ []) vs ∙ ap (λ (b : Bool). b && are_apart vs) (free_more us v vs))
    ∙ four_tests (not (list_any (λ u. clashes u v) us)) (all_free us vs) (not (list_any (clashes v) vs)) (are_apart vs)

free_of_none : (vs : List Use) → all_free [] vs ≡ true
free_of_none [] = refl
free_of_none (v ∷ vs) = free_of_none vs

pub apart_alone : (vs : List Use) → apart_from [] vs ≡ are_apart vs
apart_alone vs = apart_split [] vs ∙ ap (λ (b : Bool). b && are_apart vs) (free_of_none vs)

-- ---- the pieces of a tree

module _ (table : List (Option (List Piece))) where
  pub reach_both : (ps qs : List PatternPiece) (s : State) → reach table (ps ++ qs) s ≡ flat_map (reach table qs) (reach table ps s)
  unfolding reach
  reach_both [] qs s = sym (append-nil (reach table qs s))
  reach_both (p ∷ ps) qs s =
      flat_alike (reach table (ps ++ qs)) (λ r. flat_map (reach table qs) (reach table ps r)) (reach_both ps qs) (moves table p s.opens s.bindings)
      ∙ sym (flat_flat (reach table qs) (reach table ps) (moves table p s.opens s.bindings))

  pub reach_none : (s : State) → reach table [] s ≡ s ∷ []
  unfolding reach
  reach_none s = refl

  reach_one : (p : PatternPiece) (s : State) → reach table (p ∷ []) s ≡ moves table p s.opens s.bindings
  unfolding reach
  reach_one p s = flat_units (moves table p s.opens s.bindings)

  pub reach_first : (p : PatternPiece) (ps : List PatternPiece) (s : State) → reach table (p ∷ ps) s ≡ flat_map (reach table ps) (moves table p s.opens s.bindings)
  unfolding reach
  reach_first p ps s = refl

  -- what is around arguments goes on so behind them
  abbrev Closes : Open → Open → Type 0
  Closes o next = (os : List Open) (bs : List Binding) → behind_arguments [] (o ∷ os) bs ≡ state (next ∷ os) bs ∷ []

  closes_factors : (h : Host) (us : List Use) → Closes (factors h us) (factors h us)
  closes_factors h us os bs = refl

  closes_calls : (cs : List Call) → Closes (calls cs) (calls (drop 1 cs))
  closes_calls cs os bs = refl

  -- a product that is an argument ends
  product_ends : (t : Term) (x : terms.Argument) (xs : List terms.Argument) (os : List Open) (bs : List Binding) (v : List Choice)
      → leads (reach table (pieces.EndOfProduct ∷ [])) (after_vector (inner t) [] (arguments (x ∷ xs) ∷ os) bs v)
      ≡ filter_map (λ w. if takes_whole t w then binding_too (arguments xs ∷ os) bs (asks_of w) else None) (v ∷ [])
  product_ends t x xs os bs v =
      ap (λ (b : Bool). leads (reach table (pieces.EndOfProduct ∷ [])) (if b then binding_too (factors (inner t) (uses_of v) ∷ arguments (x ∷ xs) ∷ os) bs (asks_of v) else None)) (apart_alone (uses_of v))
      ∙ by (are_apart (uses_of v)) (learnt bs (asks_of v))
    where
      whether : (b : Bool) (made : List Binding) → (if b then state (arguments xs ∷ os) made ∷ [] else []) ≡ cons_option (if b then Some (state (arguments xs ∷ os) made) else None) []
      whether true made = refl
      whether false made = refl

      neither : (b : Bool) → [] ≡ cons_option (if b then no_state else None) []
      neither true = refl
      neither false = refl

      by : (b : Bool) (o : Option (List Binding)) → leads (reach table (pieces.EndOfProduct ∷ [])) (if b then option_map (state (factors (inner t) (uses_of v) ∷ arguments (x ∷ xs) ∷ os)) o else None)
          ≡ cons_option (if b && is_one (left_of t (uses_of v)) then option_map (state (arguments xs ∷ os)) o else None) []
      by false o = refl
      by true None = neither (is_one (left_of t (uses_of v)))
      by true (Some made) = reach_one pieces.EndOfProduct (state (factors (inner t) (uses_of v) ∷ arguments (x ∷ xs) ∷ os) made) ∙ whether (is_one (left_of t (uses_of v))) made

  abbrev end_of_arguments : List PatternPiece
  end_of_arguments = pieces.EndOfArguments ∷ []

  abbrev end_of_word : List PatternPiece
  end_of_word = pieces.EndOfWord ∷ []

  abbrev end_of_product : List PatternPiece
  end_of_product = pieces.EndOfProduct ∷ []

  -- the pieces of a function in a word, and those behind them
  call_pieces : (args : Arguments) (cs : Calls) → (pieces_of_arguments args ++ pieces.EndOfArguments ∷ pieces_of_calls cs) ++ end_of_word ≡ (pieces_of_arguments args ++ end_of_arguments) ++ (pieces_of_calls cs ++ end_of_word)
  call_pieces args cs =
      append_assoc (pieces_of_arguments args) (pieces.EndOfArguments ∷ pieces_of_calls cs) end_of_word
      ∙ sym (append_assoc (pieces_of_arguments args) end_of_arguments (pieces_of_calls cs ++ end_of_word))

  -- an argument that is a product
  of_product : (fs : Factors) (x : terms.Argument) (xs : List terms.Argument) (os : List Open) (bs : List Binding)
      → ((t : Term) (before : List Open) → reach table (pieces_of_factors fs) (state (factors (inner t) [] ∷ before) bs) ≡ filter_map (after_vector (inner t) [] before bs) (vectors table fs (inner t)))
      → reach table (pieces.Product ∷ pieces_of_factors fs ++ end_of_product) (state (arguments (x ∷ xs) ∷ os) bs) ≡ filter_map (binding_too (arguments xs ∷ os) bs) (product_ways (λ t. vectors table fs (inner t)) x)
  of_product fs (terms.index i) xs os bs inside = reach_first pieces.Product (pieces_of_factors fs ++ end_of_product) (state (arguments (terms.index i ∷ xs) ∷ os) bs)
  of_product fs (terms.vector v) xs os bs inside = reach_first pieces.Product (pieces_of_factors fs ++ end_of_product) (state (arguments (terms.vector v ∷ xs) ∷ os) bs)
  of_product fs (terms.expression []) xs os bs inside = reach_first pieces.Product (pieces_of_factors fs ++ end_of_product) (state (arguments (terms.expression [] ∷ xs) ∷ os) bs)
  of_product fs (terms.expression (s ∷ r ∷ ss)) xs os bs inside = reach_first pieces.Product (pieces_of_factors fs ++ end_of_product) (state (arguments (terms.expression (s ∷ r ∷ ss) ∷ xs) ∷ os) bs)
  of_product fs (terms.expression (s ∷ [])) xs os bs inside =
      let x = terms.expression (s ∷ []) in
      let start = state (factors (inner s.term) [] ∷ arguments (x ∷ xs) ∷ os) bs in
      reach_first pieces.Product (pieces_of_factors fs ++ end_of_product) (state (arguments (x ∷ xs) ∷ os) bs)
      ∙ where_true (reach table (pieces_of_factors fs ++ end_of_product)) (is_coefficient_one s.coefficient) start (binding_too (arguments xs ∷ os) bs) (map asks_of (filter (takes_whole s.term) (vectors table fs (inner s.term))))
      (reach_both (pieces_of_factors fs) end_of_product start
      ∙ ap (flat_map (reach table end_of_product)) (inside s.term (arguments (x ∷ xs) ∷ os))
      ∙ by_each (reach table end_of_product) (after_vector (inner s.term) [] (arguments (x ∷ xs) ∷ os) bs) (λ w. if takes_whole s.term w then binding_too (arguments xs ∷ os) bs (asks_of w) else None) (λ v. v ∷ [])
      (product_ends s.term x xs os bs) (vectors table fs (inner s.term))
      ∙ ap (filter_map (λ w. if takes_whole s.term w then binding_too (arguments xs ∷ os) bs (asks_of w) else None)) (flat_units (vectors table fs (inner s.term)))
      ∙ some_filter (takes_whole s.term) (binding_too (arguments xs ∷ os) bs) asks_of (vectors table fs (inner s.term)))

  mutual
    unfolding vectors choices ways word_ways

    -- What the factors of a pattern lead to is what its vectors of choices make, in order.
    pub of_factors : (fs : Factors) (h : Host) (us : List Use) (os : List Open) (bs : List Binding)
        → reach table (pieces_of_factors fs) (state (factors h us ∷ os) bs) ≡ filter_map (after_vector h us os bs) (vectors table fs h)
    of_factors none h us os bs = reach_none (state (factors h us ∷ os) bs) ∙ ap (λ (l : List Use). state (factors h l ∷ os) bs ∷ []) (sym (append-nil us))
    of_factors (more f fs) h us os bs =
        reach_both (pieces_of_factor f) (pieces_of_factors fs) (state (factors h us ∷ os) bs)
        ∙ ap (flat_map (reach table (pieces_of_factors fs))) (of_factor f h us os bs)
        ∙ by_each (reach table (pieces_of_factors fs)) (with_choice h us os bs) (after_vector h us os bs) (λ c. map (λ v. c ∷ v) (vectors table fs h))
        (λ c. choice_first h us os bs c (reach table (pieces_of_factors fs)) (vectors table fs h) (λ made. of_factors fs h (us ++ c.takes ∷ []) os made)) (choices table f h)

    of_factor : (f : Factor) (h : Host) (us : List Use) (os : List Open) (bs : List Binding)
        → reach table (pieces_of_factor f) (state (factors h us ∷ os) bs) ≡ filter_map (with_choice h us os bs) (choices table f h)
    of_factor (symbol n k) h us os bs = reach_one (pieces.Symbol n k) (state (factors h us ∷ os) bs)
    of_factor (whole n m) h us os bs = reach_one (pieces.Whole n m) (state (factors h us ∷ os) bs)
    of_factor (dot p q k) h us os bs = reach_one (pieces.Dot p q k) (state (factors h us ∷ os) bs)
    of_factor (component v i) h us os bs = reach_one (pieces.Component v i) (state (factors h us ∷ os) bs)
    of_factor (delta i j) h us os bs = reach_one (pieces.Delta i j) (state (factors h us ∷ os) bs)
    of_factor (function n args) h us os bs =
        reach_first (pieces.Function n) (pieces_of_arguments args ++ end_of_arguments) (state (factors h us ∷ os) bs)
        ∙ by_each (reach table (pieces_of_arguments args ++ end_of_arguments)) (with_function n h us os bs) (with_choice h us os bs)
        (λ e. map (λ asks. record { takes = uses.Function e.0; asks = asks }) (call_ways n (λ xs. ways table args xs) e.1))
        (λ e.
        let u = uses.Function e.0 in
        let rest = behind (asked_function n e.1.function) (ways table args (arguments_of e.1.pieces)) in
        free_first us u (reach table (pieces_of_arguments args ++ end_of_arguments)) (asking_too (arguments (arguments_of e.1.pieces) ∷ factors h (us ++ u ∷ []) ∷ os) bs (asked_function n e.1.function))
        (binding_too (factors h (us ++ u ∷ []) ∷ os) bs) rest
        (asked_first (factors h (us ++ u ∷ []) ∷ os) (arguments (arguments_of e.1.pieces) ∷ factors h (us ++ u ∷ []) ∷ os) (reach table (pieces_of_arguments args ++ end_of_arguments)) bs (asked_function n e.1.function)
        (ways table args (arguments_of e.1.pieces))
        (λ made. of_arguments args (arguments_of e.1.pieces) (factors h (us ++ u ∷ [])) (factors h (us ++ u ∷ [])) os made (closes_factors h (us ++ u ∷ []))))
        ∙ sym (some_map (with_choice h us os bs) (λ asks. record { takes = u; asks = asks }) rest))
        (enumerate_from 0 h.term.others.functions)
    of_factor (word cs) h us os bs =
        reach_first (pieces.Word (count cs)) (pieces_of_calls cs ++ end_of_word) (state (factors h us ∷ os) bs)
        ∙ by_each (reach table (pieces_of_calls cs ++ end_of_word)) (with_stretch (count cs) h us os bs) (with_choice h us os bs)
        (λ start. map (λ asks. record { takes = uses.Stretch start (count cs); asks = asks }) (word_ways table cs (drop start h.term.others.word)))
        (λ start.
        let u = uses.Stretch start (count cs) in
        let rest = word_ways table cs (drop start h.term.others.word) in
        free_first us u (reach table (pieces_of_calls cs ++ end_of_word)) (Some (state (calls (drop start h.term.others.word) ∷ factors h (us ++ u ∷ []) ∷ os) bs))
        (binding_too (factors h (us ++ u ∷ []) ∷ os) bs) rest (of_calls cs (drop start h.term.others.word) h (us ++ u ∷ []) os bs)
        ∙ sym (some_map (with_choice h us os bs) (λ asks. record { takes = u; asks = asks }) rest))
        (starts h (count cs))

    of_calls : (cs : Calls) (ws : List Call) (h : Host) (us : List Use) (os : List Open) (bs : List Binding)
        → reach table (pieces_of_calls cs ++ end_of_word) (state (calls ws ∷ factors h us ∷ os) bs) ≡ filter_map (binding_too (factors h us ∷ os) bs) (word_ways table cs ws)
    of_calls end ws h us os bs = reach_one pieces.EndOfWord (state (calls ws ∷ factors h us ∷ os) bs)
    of_calls (call n args cs) [] h us os bs =
        reach_first (pieces.Call n) ((pieces_of_arguments args ++ pieces.EndOfArguments ∷ pieces_of_calls cs) ++ end_of_word) (state (calls [] ∷ factors h us ∷ os) bs)
    of_calls (call n args cs) (c ∷ ws) h us os bs =
        let xs = arguments_of c.pieces in
        let before = arguments xs ∷ calls (c ∷ ws) ∷ factors h us ∷ os in
        let rest = pieces_of_calls cs ++ end_of_word in
        reach_first (pieces.Call n) ((pieces_of_arguments args ++ pieces.EndOfArguments ∷ pieces_of_calls cs) ++ end_of_word) (state (calls (c ∷ ws) ∷ factors h us ∷ os) bs)
        ∙ ap (λ (ps : List PatternPiece). flat_map (reach table ps) (option_to_list (with_call n (c ∷ ws) (factors h us ∷ os) bs))) (call_pieces args cs)
        ∙ one_or_none (reach table ((pieces_of_arguments args ++ end_of_arguments) ++ rest)) (with_call n (c ∷ ws) (factors h us ∷ os) bs)
        ∙ asked_first (factors h us ∷ os) before (reach table ((pieces_of_arguments args ++ end_of_arguments) ++ rest)) bs (asked_function n c.function) (joined (ways table args xs) (word_ways table cs ws))
        (λ made.
        reach_both (pieces_of_arguments args ++ end_of_arguments) rest (state before made)
        ∙ ap (flat_map (reach table rest)) (of_arguments args xs (calls (c ∷ ws)) (calls ws) (factors h us ∷ os) made (closes_calls (c ∷ ws)))
        ∙ joined_bound (factors h us ∷ os) (calls ws ∷ factors h us ∷ os) (reach table rest) made (ways table args xs) (word_ways table cs ws) (λ next. of_calls cs ws h us os next))
        ∙ ap (filter_map (binding_too (factors h us ∷ os) bs)) (behind_joined (asked_function n c.function) (ways table args xs) (word_ways table cs ws))

    of_arguments : (args : Arguments) (xs : List terms.Argument) (o next : Open) (os : List Open) (bs : List Binding) → Closes o next
        → reach table (pieces_of_arguments args ++ end_of_arguments) (state (arguments xs ∷ o ∷ os) bs) ≡ filter_map (binding_too (next ∷ os) bs) (ways table args xs)
    of_arguments empty [] o next os bs closes = reach_one pieces.EndOfArguments (state (arguments [] ∷ o ∷ os) bs) ∙ closes os bs
    of_arguments empty (x ∷ xs) o next os bs closes = reach_one pieces.EndOfArguments (state (arguments (x ∷ xs) ∷ o ∷ os) bs)
    of_arguments (further a args) xs o next os bs closes =
        ap (λ (ps : List PatternPiece). reach table ps (state (arguments xs ∷ o ∷ os) bs)) (append_assoc (pieces_of_argument a) (pieces_of_arguments args) end_of_arguments)
        ∙ reach_both (pieces_of_argument a) (pieces_of_arguments args ++ end_of_arguments) (state (arguments xs ∷ o ∷ os) bs)
        ∙ of_argument a args xs o next os bs (λ ys made. of_arguments args ys o next os made closes)

    of_argument : (a : Argument) (args : Arguments) (xs : List terms.Argument) (o next : Open) (os : List Open) (bs : List Binding)
        → ((ys : List terms.Argument) (made : List Binding) → reach table (pieces_of_arguments args ++ end_of_arguments) (state (arguments ys ∷ o ∷ os) made) ≡ filter_map (binding_too (next ∷ os) made) (ways table args ys))
        → flat_map (reach table (pieces_of_arguments args ++ end_of_arguments)) (reach table (pieces_of_argument a) (state (arguments xs ∷ o ∷ os) bs)) ≡ filter_map (binding_too (next ∷ os) bs) (ways table (further a args) xs)
    of_argument (field w) args xs o next os bs after =
        let go = reach table (pieces_of_arguments args ++ end_of_arguments) in
        ap (flat_map go) (reach_one (pieces.Field w) (state (arguments xs ∷ o ∷ os) bs))
        ∙ by_each go (with_field w xs (o ∷ os) bs) (binding_too (next ∷ os) bs) (λ n. map (λ way. field_asks w xs n ∷ way) (ways table args (drop n xs)))
        (λ n. behind_bound (next ∷ os) (arguments (drop n xs) ∷ o ∷ os) go bs (field_asks w xs n ∷ []) (ways table args (drop n xs)) (after (drop n xs))
        ∙ sym (some_map (binding_too (next ∷ os) bs) (λ way. field_asks w xs n ∷ way) (ways table args (drop n xs))))
        (range_with_len 0 (suc (length xs)))
    of_argument (fixed k) args [] o next os bs after = ap (flat_map (reach table (pieces_of_arguments args ++ end_of_arguments))) (reach_one (pieces.Fixed k) (state (arguments [] ∷ o ∷ os) bs))
    of_argument (fixed k) args (x ∷ xs) o next os bs after =
        ap (flat_map (reach table (pieces_of_arguments args ++ end_of_arguments))) (reach_one (pieces.Fixed k) (state (arguments (x ∷ xs) ∷ o ∷ os) bs))
        ∙ where_true (reach table (pieces_of_arguments args ++ end_of_arguments)) (is_fixed_argument table k (pieces_of_one x)) (state (arguments xs ∷ o ∷ os) bs) (binding_too (next ∷ os) bs) (ways table args xs) (after xs bs)
    of_argument (any sort n) args [] o next os bs after = ap (flat_map (reach table (pieces_of_arguments args ++ end_of_arguments))) (reach_one (pieces.Any sort n) (state (arguments [] ∷ o ∷ os) bs))
    of_argument (any sort n) args (x ∷ xs) o next os bs after =
        ap (flat_map (reach table (pieces_of_arguments args ++ end_of_arguments))) (reach_one (pieces.Any sort n) (state (arguments (x ∷ xs) ∷ o ∷ os) bs))
        ∙ joined_bound (next ∷ os) (arguments xs ∷ o ∷ os) (reach table (pieces_of_arguments args ++ end_of_arguments)) bs (any_ways sort n x) (ways table args xs) (after xs)
    of_argument (product fs) args [] o next os bs after =
        ap (flat_map (reach table (pieces_of_arguments args ++ end_of_arguments))) (reach_first pieces.Product (pieces_of_factors fs ++ end_of_product) (state (arguments [] ∷ o ∷ os) bs))
    of_argument (product fs) args (x ∷ xs) o next os bs after =
        ap (flat_map (reach table (pieces_of_arguments args ++ end_of_arguments))) (of_product fs x xs (o ∷ os) bs (λ t before. of_factors fs (inner t) [] before bs))
        ∙ joined_bound (next ∷ os) (arguments xs ∷ o ∷ os) (reach table (pieces_of_arguments args ++ end_of_arguments)) bs (product_ways (λ t. vectors table fs (inner t)) x) (ways table args xs) (after xs)
