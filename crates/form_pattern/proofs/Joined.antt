-- Factors joined by their pieces are those joined as trees.
use Rattle.std.proofs.Common.{◌≡◌, ℕ, zero, suc, ◌+◌, ◌<◌, ◌≤◌, ◌==◌, nat_abs, not, ◌+ℤ◌, Bool, true, false, cond, List, [], ◌∷◌, ◌++◌, length, get_or, set, replicate, flat_map, map, filter, fold, Some, None, refl, sym, ap, subst, arith, ◌∙◌, append_assoc}
use Rattle.std.specs.Prelude.{position}
use Rattle.std.specs.List.{position_or_len}
use Rattle.std.proofs.lemmas.List.{append-nil, replicate_more}
use Rattle.std.proofs.lemmas.List.Concat.{flat_map-append}
use Rattle.std.proofs.lemmas.Grind.{common_steps}
use Rattle.std.proofs.lemmas.List.Sums.{fails_before_first}
use Rattle.std.proofs.lemmas.List.Quantifiers.{position-Some}
use Rattle.form_tree.specs.declared.pattern.Name.{Name}
use Rattle.form_tree.specs.declared.pattern.PatternPiece.{PatternPiece}
use Rattle.form_tree.specs.declared.pattern.PatternPiece.TheVariants as pieces
use Rattle.form_tree.specs.Pattern as pattern
use Rattle.form_pattern.specs.declared.joining.Factor.{Factor}
use Rattle.form_pattern.specs.declared.joining.Factor.TheVariants as factors
use Rattle.form_pattern.specs.declared.joining.Raw as raws
use Rattle.form_pattern.specs.Pattern as trees
use Rattle.form_pattern.specs.Pattern.{Raw, of_symbol, of_whole, of_dot, of_component, of_delta, of_function, in_word, both_sets, behind_calls, calls_of, alone_factors, stays, in_row, joined}
use Rattle.form_pattern.specs.Joining.{times, flat, flat_factor, are_dots_alike, is_joined, join, alone, put, pieces_of_level}

-- ---- loops

pub times-more : (count : ℕ) (ps : List PatternPiece) → times (count + 1) ps ≡ times count ps ++ ps
times-more count ps =
    ap (flat_map (λ (qs : List PatternPiece). qs)) (sym (replicate_more count ps)) ∙ flat_map-append (λ qs. qs) (replicate count ps) (ps ∷ []) ∙ ap (λ (qs : List PatternPiece). times count ps ++ qs) (append-nil ps)

pub times-made : (count : ℕ) (ps old now next : List PatternPiece) → now ≡ old ++ times count ps → next ≡ now ++ ps → next ≡ old ++ times (count + 1) ps
times-made count ps old now next is more =
    more ∙ ap (λ (qs : List PatternPiece). qs ++ ps) is ∙ append_assoc old (times count ps) ps ∙ ap (λ (qs : List PatternPiece). old ++ qs) (sym (times-more count ps))

pub one-made : (count : ℕ) (f : Factor) (old now next : List Factor) → now ≡ old ++ replicate count f → next ≡ now ++ f ∷ [] → next ≡ old ++ replicate (count + 1) f
one-made count f old now next is more =
    more ∙ ap (λ (fs : List Factor). fs ++ f ∷ []) is ∙ append_assoc old (replicate count f) (f ∷ []) ∙ ap (λ (fs : List Factor). old ++ fs) (replicate_more count f)

module _ (raw : raws.Raw) where
  put-behind : (fs : List Factor) (d : Factor) → ((k : ℕ) → k < length fs → is_joined raw (get_or fs k d) ≡ false) → put fs raw ≡ fs ++ alone raw
  put-behind [] d h = refl
  put-behind (f ∷ fs) d h =
      ap (λ (b : Bool). cond b (join raw f ∷ fs) (f ∷ put fs raw)) (h 0 (omega arith)) ∙ ap (λ (gs : List Factor). f ∷ gs) (put-behind fs d (λ k lt. h (suc k) (omega arith)))

  -- a factor that is joined with none
  pub put-last : (fs : List Factor) (d : Factor) → position (is_joined raw) fs ≡ None → put fs raw ≡ fs ++ alone raw
  put-last fs d none =
      let past : length fs ≤ position_or_len (is_joined raw) fs = grind (arith, common_steps) in
      put-behind fs d (λ k lt. fails_before_first (is_joined raw) fs k d (omega arith))

  put-at : (fs : List Factor) (i : ℕ) (d : Factor) → i < length fs → is_joined raw (get_or fs i d) ≡ true → ((k : ℕ) → k < i → is_joined raw (get_or fs k d) ≡ false)
      → put fs raw ≡ set fs i (join raw (get_or fs i d))
  put-at [] i d lt is before = absurd (omega arith)
  put-at (f ∷ fs) zero d lt is before = ap (λ (b : Bool). cond b (join raw f ∷ fs) (f ∷ put fs raw)) is
  put-at (f ∷ fs) (suc i) d lt is before =
      ap (λ (b : Bool). cond b (join raw f ∷ fs) (f ∷ put fs raw)) (before 0 (omega arith))
      ∙ ap (λ (gs : List Factor). f ∷ gs) (put-at fs i d (omega arith) is (λ k less. before (suc k) (omega arith)))

  -- a factor that is joined with the one at this place
  pub put-joined : (fs : List Factor) (i : ℕ) (d : Factor) → position (is_joined raw) fs ≡ Some i → put fs raw ≡ set fs i (join raw (get_or fs i d))
  put-joined fs i d found = let at = position-Some (is_joined raw) fs i d found in put-at fs i d at.0 at.1 at.2

-- the factor at this place is changed to the joined one
pub put-in : (raw : raws.Raw) (items self : List Factor) (place : ℕ) (old new : Factor) → items ≡ self → position (is_joined raw) self ≡ Some place → old ≡ get_or items place old → new ≡ join raw old → set items place new ≡ put self raw
put-in raw items self place old new same found value made =
    ap (λ (f : Factor). set items place f) (made ∙ ap (join raw) value)
    ∙ sym (put-joined raw items place old (subst (λ (fs : List Factor). position (is_joined raw) fs ≡ Some place) (sym same) found))
    ∙ ap (λ (fs : List Factor). put fs raw) same

-- ---- trees

same-calls : (n : Name) (args : pattern.Arguments) (k : ℕ) → pattern.pieces_of_calls (calls_of n args k) ≡ times k ((pieces.Call n ∷ pattern.pieces_of_arguments args) ++ pieces.EndOfArguments ∷ [])
same-calls n args zero = refl
same-calls n args (suc k) =
    ap (λ (ps : List PatternPiece). pieces.Call n ∷ pattern.pieces_of_arguments args ++ pieces.EndOfArguments ∷ ps) (same-calls n args k)
    ∙ ap (λ (ps : List PatternPiece). pieces.Call n ∷ ps) (sym (append_assoc (pattern.pieces_of_arguments args) (pieces.EndOfArguments ∷ []) (times k ((pieces.Call n ∷ pattern.pieces_of_arguments args) ++ pieces.EndOfArguments ∷ []))))

same-count : (n : Name) (args : pattern.Arguments) (k : ℕ) → pattern.count (calls_of n args k) ≡ k
same-count n args zero = refl
same-count n args (suc k) = ap suc (same-count n args k)

behind-pieces : (calls others : pattern.Calls) → pattern.pieces_of_calls (behind_calls calls others) ≡ pattern.pieces_of_calls calls ++ pattern.pieces_of_calls others
behind-pieces pattern.end others = refl
behind-pieces (pattern.call n args calls) others =
    ap (λ (ps : List PatternPiece). pieces.Call n ∷ pattern.pieces_of_arguments args ++ pieces.EndOfArguments ∷ ps) (behind-pieces calls others)
    ∙ ap (λ (ps : List PatternPiece). pieces.Call n ∷ ps) (sym (append_assoc (pattern.pieces_of_arguments args) (pieces.EndOfArguments ∷ pattern.pieces_of_calls calls) (pattern.pieces_of_calls others)))

behind-count : (calls others : pattern.Calls) → pattern.count (behind_calls calls others) ≡ pattern.count calls + pattern.count others
behind-count pattern.end others = omega arith
behind-count (pattern.call n args calls) others =
    let behind : pattern.count (behind_calls calls others) ≡ pattern.count calls + pattern.count others = behind-count calls others in omega arith

map-same : {A B : Type 0} (f : A → B) (x : A) (k : ℕ) → map f (replicate k x) ≡ replicate k (f x)
map-same f x zero = refl
map-same f x (suc k) = ap (λ ys. f x ∷ ys) (map-same f x k)

alone-flat : (raw : Raw) → map flat_factor (alone_factors raw) ≡ alone (flat raw)
alone-flat (of_symbol n k) = refl
alone-flat (of_whole n m) = refl
alone-flat (of_dot p q k) = refl
alone-flat (of_component p i k) = map-same flat_factor (pattern.component p i) k
alone-flat (of_delta i j k) = map-same flat_factor (pattern.delta i j) k
alone-flat (of_function n args k) = map-same flat_factor (pattern.function n args) k
alone-flat (in_word n args k) = by (k == 0)
  where
    ps : List PatternPiece
    ps = (pieces.Call n ∷ pattern.pieces_of_arguments args) ++ pieces.EndOfArguments ∷ []

    by : (b : Bool) → map flat_factor (cond b [] (pattern.word (calls_of n args k) ∷ [])) ≡ cond b [] (factors.Word (times k ps) k ∷ [])
    by true = refl
    by false = ap (λ (qs : List PatternPiece). factors.Word qs (pattern.count (calls_of n args k)) ∷ []) (same-calls n args k) ∙ ap (λ (c : ℕ). factors.Word (times k ps) c ∷ []) (same-count n args k)

joined-flat : (raw : Raw) (f : pattern.Factor) → is_joined (flat raw) (flat_factor f) ≡ trees.is_joined raw f
joined-flat (of_symbol m k) (pattern.symbol n l) = refl
joined-flat (of_symbol m k) (pattern.whole n n2) = refl
joined-flat (of_symbol m k) (pattern.dot r s l) = refl
joined-flat (of_symbol m k) (pattern.component w x) = refl
joined-flat (of_symbol m k) (pattern.delta x y) = refl
joined-flat (of_symbol m k) (pattern.function n xs) = refl
joined-flat (of_symbol m k) (pattern.word calls) = refl
joined-flat (of_whole m o) f = refl
joined-flat (of_dot p q k) (pattern.symbol n l) = refl
joined-flat (of_dot p q k) (pattern.whole n n2) = refl
joined-flat (of_dot p q k) (pattern.dot r s l) = refl
joined-flat (of_dot p q k) (pattern.component w x) = refl
joined-flat (of_dot p q k) (pattern.delta x y) = refl
joined-flat (of_dot p q k) (pattern.function n xs) = refl
joined-flat (of_dot p q k) (pattern.word calls) = refl
joined-flat (of_component v i k) f = refl
joined-flat (of_delta i j k) f = refl
joined-flat (of_function m args k) f = refl
joined-flat (in_word m args k) (pattern.symbol n l) = refl
joined-flat (in_word m args k) (pattern.whole n n2) = refl
joined-flat (in_word m args k) (pattern.dot r s l) = refl
joined-flat (in_word m args k) (pattern.component w x) = refl
joined-flat (in_word m args k) (pattern.delta x y) = refl
joined-flat (in_word m args k) (pattern.function n xs) = refl
joined-flat (in_word m args k) (pattern.word calls) = refl

to-dot : (b : Bool) (x y : pattern.Factor) → flat_factor (cond b x y) ≡ cond b (flat_factor x) (flat_factor y)
to-dot true x y = refl
to-dot false x y = refl

join-flat : (raw : Raw) (f : pattern.Factor) → flat_factor (trees.join raw f) ≡ join (flat raw) (flat_factor f)
join-flat (of_symbol m k) (pattern.symbol n l) = refl
join-flat (of_symbol m k) (pattern.whole n n2) = refl
join-flat (of_symbol m k) (pattern.dot r s l) = refl
join-flat (of_symbol m k) (pattern.component w x) = refl
join-flat (of_symbol m k) (pattern.delta x y) = refl
join-flat (of_symbol m k) (pattern.function n xs) = refl
join-flat (of_symbol m k) (pattern.word calls) = refl
join-flat (of_whole m o) (pattern.symbol n l) = refl
join-flat (of_whole m o) (pattern.whole n n2) = refl
join-flat (of_whole m o) (pattern.dot r s l) = refl
join-flat (of_whole m o) (pattern.component w x) = refl
join-flat (of_whole m o) (pattern.delta x y) = refl
join-flat (of_whole m o) (pattern.function n xs) = refl
join-flat (of_whole m o) (pattern.word calls) = refl
join-flat (of_dot p q k) (pattern.symbol n l) = refl
join-flat (of_dot p q k) (pattern.whole n n2) = refl
join-flat (of_dot p q k) (pattern.dot r s l) = to-dot (are_dots_alike p q r s) (pattern.dot (both_sets r p) (both_sets s q) (l +ℤ k)) (pattern.dot (both_sets r q) (both_sets s p) (l +ℤ k))
join-flat (of_dot p q k) (pattern.component w x) = refl
join-flat (of_dot p q k) (pattern.delta x y) = refl
join-flat (of_dot p q k) (pattern.function n xs) = refl
join-flat (of_dot p q k) (pattern.word calls) = refl
join-flat (of_component v i k) (pattern.symbol n l) = refl
join-flat (of_component v i k) (pattern.whole n n2) = refl
join-flat (of_component v i k) (pattern.dot r s l) = refl
join-flat (of_component v i k) (pattern.component w x) = refl
join-flat (of_component v i k) (pattern.delta x y) = refl
join-flat (of_component v i k) (pattern.function n xs) = refl
join-flat (of_component v i k) (pattern.word calls) = refl
join-flat (of_delta i j k) (pattern.symbol n l) = refl
join-flat (of_delta i j k) (pattern.whole n n2) = refl
join-flat (of_delta i j k) (pattern.dot r s l) = refl
join-flat (of_delta i j k) (pattern.component w x) = refl
join-flat (of_delta i j k) (pattern.delta x y) = refl
join-flat (of_delta i j k) (pattern.function n xs) = refl
join-flat (of_delta i j k) (pattern.word calls) = refl
join-flat (of_function m args k) (pattern.symbol n l) = refl
join-flat (of_function m args k) (pattern.whole n n2) = refl
join-flat (of_function m args k) (pattern.dot r s l) = refl
join-flat (of_function m args k) (pattern.component w x) = refl
join-flat (of_function m args k) (pattern.delta x y) = refl
join-flat (of_function m args k) (pattern.function n xs) = refl
join-flat (of_function m args k) (pattern.word calls) = refl
join-flat (in_word m args k) (pattern.symbol n l) = refl
join-flat (in_word m args k) (pattern.whole n n2) = refl
join-flat (in_word m args k) (pattern.dot r s l) = refl
join-flat (in_word m args k) (pattern.component w x) = refl
join-flat (in_word m args k) (pattern.delta x y) = refl
join-flat (in_word m args k) (pattern.function n xs) = refl
join-flat (in_word m args k) (pattern.word calls) =
    ap (λ (ps : List PatternPiece). factors.Word ps (pattern.count (behind_calls calls (calls_of m args k)))) (behind-pieces calls (calls_of m args k) ∙ ap (λ (ps : List PatternPiece). pattern.pieces_of_calls calls ++ ps) (same-calls m args k))
    ∙ ap (λ (c : ℕ). factors.Word (pattern.pieces_of_calls calls ++ times k ((pieces.Call m ∷ pattern.pieces_of_arguments args) ++ pieces.EndOfArguments ∷ [])) c) (behind-count calls (calls_of m args k) ∙ ap (λ (c : ℕ). pattern.count calls + c) (same-count m args k))

-- a factor put as a tree, and by its pieces
put-flat : (fs : List pattern.Factor) (raw : Raw) → map flat_factor (trees.put fs raw) ≡ put (map flat_factor fs) (flat raw)
put-flat [] raw = alone-flat raw
put-flat (f ∷ fs) raw =
    by (trees.is_joined raw f) (put-flat fs raw)
    ∙ ap (λ (b : Bool). cond b (join (flat raw) (flat_factor f) ∷ map flat_factor fs) (flat_factor f ∷ put (map flat_factor fs) (flat raw))) (sym (joined-flat raw f))
  where
    by : (b : Bool) → map flat_factor (trees.put fs raw) ≡ put (map flat_factor fs) (flat raw) → map flat_factor (cond b (trees.join raw f ∷ fs) (f ∷ trees.put fs raw)) ≡ cond b (join (flat raw) (flat_factor f) ∷ map flat_factor fs) (flat_factor f ∷ put (map flat_factor fs) (flat raw))
    by true behind = ap (λ (g : Factor). g ∷ map flat_factor fs) (join-flat raw f)
    by false behind = ap (λ (gs : List Factor). flat_factor f ∷ gs) behind

-- factors put one by one
abbrev pub puts : List Factor → List Raw → List Factor
puts level all = fold (λ (fs : List Factor) (raw : Raw). put fs (flat raw)) level all

puts-flat : (fs : List pattern.Factor) (all : List Raw) → map flat_factor (fold (λ (gs : List pattern.Factor) (raw : Raw). trees.put gs raw) fs all) ≡ puts (map flat_factor fs) all
puts-flat fs [] = refl
puts-flat fs (raw ∷ all) = puts-flat (trees.put fs raw) all ∙ ap (λ (gs : List Factor). puts gs all) (put-flat fs raw)

pub puts-append : (level : List Factor) (a b : List Raw) → puts level (a ++ b) ≡ puts (puts level a) b
puts-append level [] b = refl
puts-append level (raw ∷ a) b = puts-append (put level (flat raw)) a b

row-flat : (fs : List pattern.Factor) → pattern.pieces_of_factors (in_row (filter stays fs)) ≡ pieces_of_level (map flat_factor fs)
row-flat [] = refl
row-flat ((pattern.symbol n l) ∷ fs) = by (nat_abs l == 0) (row-flat fs)
  where
    by : (b : Bool) → pattern.pieces_of_factors (in_row (filter stays fs)) ≡ pieces_of_level (map flat_factor fs) → pattern.pieces_of_factors (in_row (cond (not b) ((pattern.symbol n l) ∷ filter stays fs) (filter stays fs))) ≡ cond b [] (pieces.Symbol n l ∷ []) ++ pieces_of_level (map flat_factor fs)
    by true behind = behind
    by false behind = ap (λ (ps : List PatternPiece). (pieces.Symbol n l) ∷ ps) behind
row-flat ((pattern.whole n n2) ∷ fs) = ap (λ (ps : List PatternPiece). pattern.pieces_of_factor (pattern.whole n n2) ++ ps) (row-flat fs)
row-flat ((pattern.dot r s l) ∷ fs) = by (nat_abs l == 0) (row-flat fs)
  where
    by : (b : Bool) → pattern.pieces_of_factors (in_row (filter stays fs)) ≡ pieces_of_level (map flat_factor fs) → pattern.pieces_of_factors (in_row (cond (not b) ((pattern.dot r s l) ∷ filter stays fs) (filter stays fs))) ≡ cond b [] (pieces.Dot r s l ∷ []) ++ pieces_of_level (map flat_factor fs)
    by true behind = behind
    by false behind = ap (λ (ps : List PatternPiece). (pieces.Dot r s l) ∷ ps) behind
row-flat ((pattern.component w x) ∷ fs) = ap (λ (ps : List PatternPiece). pattern.pieces_of_factor (pattern.component w x) ++ ps) (row-flat fs)
row-flat ((pattern.delta x y) ∷ fs) = ap (λ (ps : List PatternPiece). pattern.pieces_of_factor (pattern.delta x y) ++ ps) (row-flat fs)
row-flat ((pattern.function n xs) ∷ fs) = ap (λ (ps : List PatternPiece). pattern.pieces_of_factor (pattern.function n xs) ++ ps) (row-flat fs)
row-flat ((pattern.word calls) ∷ fs) = ap (λ (ps : List PatternPiece). pattern.pieces_of_factor (pattern.word calls) ++ ps) (row-flat fs)

-- the pieces of all factors that were put
pub joined-pieces : (all : List Raw) → pattern.pieces_of_factors (joined all) ≡ pieces_of_level (puts [] all)
joined-pieces all = row-flat (fold (λ (gs : List pattern.Factor) (raw : Raw). trees.put gs raw) [] all) ∙ ap pieces_of_level (puts-flat [] all)
