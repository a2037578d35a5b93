-- What a field of arguments leads to: it takes all but the last ones, or what it is bound to, or one argument after another.
use Rattle.std.proofs.Common.{◌≡◌, ℕ, zero, suc, ◌+◌, ◌^◌, ◌<◌, ◌≤◌, ◌⊎◌, Bool, true, false, if◌then◌else◌, List, [], ◌∷◌, ◌++◌, length, take, drop, Option, Some, None, option_map, option_and_then, option_to_list, refl, sym, ap, subst, ◌∙◌, append-nil, arith, inl, inr, length-drop, le-leb}
use Rattle.std.specs.Prelude.{IfSome, MatchOption, flat_map, filter}
use Rattle.std.specs.List.{filter_map, cons_option, range_with_len}
use Rattle.std.specs.Option.{unwrap_or}
use Rattle.std.specs.Cmp.{Equal-is}
use Rattle.std.specs.Cmp.Lexicographic.{slice_cmp}
use Rattle.std.proofs.lemmas.Bool.{cases_lt, lt-leb}
use Rattle.std.proofs.lemmas.Cmp.{eq_by_cmp_equiv, lists_total}
use Rattle.std.proofs.lemmas.List.{take_all}
use Rattle.form_term.specs.declared.piece.Piece.{Piece}
use Rattle.form_term.specs.Pieces.{piece_order}
use Rattle.form_term.specs.Term as terms
use Rattle.form_term.specs.Term.{AreArguments, pieces_of_argument, pieces_of_arguments}
use Rattle.form_term.specs.TermLaws.{lists_equal, pieces_equal, pieces_total}
use Rattle.form_term.specs.Arguments.{arguments_of}
use Rattle.form_tree.specs.declared.pattern.PatternPiece.{PatternPiece}
use Rattle.form_tree.specs.declared.pattern.PatternPiece.TheVariants as pieces
use Rattle.form_bindings.specs.declared.bindings.Wildcard.TheVariants as wildcards
use Rattle.form_bindings.specs.Learning.{Tells, and_bound, and_bound_at}
use Rattle.form_bindings.specs.Values.{Binding, binding, is_same, value_of}
use Rattle.form_match.specs.declared.trail.Standing.{Standing}
use Rattle.form_match.specs.declared.trail.Trail.{Trail}
use Rattle.form_match.specs.Candidates.{from, is_behind}
use Rattle.form_match.specs.Learning.{learnt}
use Rattle.form_match.specs.Matching.{any_ways, field_asks, is_fixed_argument}
use Rattle.form_match.specs.Leading.{Takes, TakesFirst, TakesThen, once_taken}
use Rattle.form_match.specs.Parts.{BeginsOtherwise, BeginsWith, IsFront, single_count}
use Rattle.form_match.specs.Running.{IsCandidate, ahead, keeping}
use Rattle.form_match.specs.States.{Open, arguments, State, state, behind_arguments, binding_too, factors, calls, moves, reach, with_field}
use Rattle.form_match.proofs.Cutting.{IsCut, all_behind, cut_front, field_first, field_none, rising, same_filter, size_of}

-- ---- what one of several leads to

module _ {A B : Type 0} (f : ℕ → Option A) (g : A → List B) where
  abbrev leads_to : ℕ → List B
  leads_to n = flat_map g (option_to_list (f n))

  pub first_leads : (o : Option A) (xs : List A) → flat_map g (cons_option o xs) ≡ flat_map g (option_to_list o) ++ flat_map g xs
  first_leads None xs = refl
  first_leads (Some x) xs = ap (λ (l : List B). l ++ flat_map g xs) (sym (append-nil (g x)))

  pub nothing_leads : (start len : ℕ) → ((j : ℕ) → start ≤ j → j < start + len → leads_to j ≡ []) → flat_map g (filter_map f (range_with_len start len)) ≡ []
  nothing_leads start zero none = refl
  nothing_leads start (suc len) none =
      first_leads (f start) (filter_map f (range_with_len (start + 1) len))
      ∙ ap (λ (l : List B). l ++ flat_map g (filter_map f (range_with_len (start + 1) len))) (none start (omega arith) (omega arith))
      ∙ nothing_leads (start + 1) len (λ j above below. none j (omega (arith, above)) (omega (arith, below)))

  pub one_leads : (k start len : ℕ) → start ≤ k → k < start + len → ((j : ℕ) → j < start + len → (j ≡ k → ⊥) → leads_to j ≡ []) → flat_map g (filter_map f (range_with_len start len)) ≡ leads_to k
  one_leads k start zero above below none = absurd (omega (arith, above, below))
  one_leads k start (suc len) above below none =
      first_leads (f start) (filter_map f (range_with_len (start + 1) len))
      ∙ by (cases_lt start k) (λ later. one_leads k (start + 1) len (omega (arith, later)) (omega (arith, below)) (λ j within. none j (omega (arith, within))))
    where
      by : (start < k) ⊎ (k ≤ start) → (start < k → flat_map g (filter_map f (range_with_len (start + 1) len)) ≡ leads_to k) → leads_to start ++ flat_map g (filter_map f (range_with_len (start + 1) len)) ≡ leads_to k
      by (inl before) rest =
          ap (λ (l : List B). l ++ flat_map g (filter_map f (range_with_len (start + 1) len))) (none start (omega arith) (λ e. omega (arith, e, before))) ∙ rest before
      by (inr there) rest =
          let same : start ≡ k = omega (arith, above, there) in
          ap (λ (l : List B). leads_to start ++ l) (nothing_leads (start + 1) len (λ j later within. none j (omega (arith, within)) (λ e. omega (arith, e, later, same))))
          ∙ append-nil (leads_to start) ∙ ap leads_to same

-- ---- arguments that are taken one by one

suc_in : (o : Option ℕ) (m : ℕ) → option_map suc o ≡ Some m → (k : ℕ) × (o ≡ Some k) × (suc k ≡ m)
suc_in None m e = cc
suc_in (Some k) m e = (k, refl, cc)

-- equal values are one
pub same_is : (v ps : List Piece) → is_same v ps ≡ true → v ≡ ps
same_is v ps e = lists_equal piece_order pieces_equal v ps ((Equal-is (slice_cmp piece_order v ps)).0 e)

pub is_reflexive : (v ps : List Piece) → v ≡ ps → is_same v ps ≡ true
is_reflexive v ps is = ap (is_same v) (sym is) ∙ (eq_by_cmp_equiv (lists_total pieces_total)).refl v

-- so many arguments are known by how many pieces they have
pub same_size : (xs : List terms.Argument) (j k : ℕ) → j ≤ length xs → k ≤ length xs → size_of xs k ≡ size_of xs j → j ≡ k
same_size xs j k inside within same = by (cases_lt j k) (cases_lt k j)
  where
    by : (j < k) ⊎ (k ≤ j) → (k < j) ⊎ (j ≤ k) → j ≡ k
    by (inl less) other = let h = rising xs j k less within in absurd (omega (arith, h, same))
    by (inr more) (inl less) = let h = rising xs k j less inside in absurd (omega (arith, h, same))
    by (inr more) (inr fewer) = omega (arith, more, fewer)

at_least : (xs : List terms.Argument) (j k : ℕ) → j ≤ k → k ≤ length xs → size_of xs j ≤ size_of xs k
at_least xs j k few within = by (cases_lt j k)
  where
    by : (j < k) ⊎ (k ≤ j) → size_of xs j ≤ size_of xs k
    by (inl less) = let h = rising xs j k less within in omega (arith, h)
    by (inr more) = let same : size_of xs j ≡ size_of xs k = ap (size_of xs) (omega (arith, few, more)) in omega (arith, same)

module _ (table : List (Option (List Piece))) where
  -- pieces that take one argument each lead nowhere with another number of them
  pub counted : (ps : List PatternPiece) (m : ℕ) (xs : List terms.Argument) (os : List Open) (bs : List Binding) → single_count ps ≡ Some m → (length xs ≡ m → ⊥)
      → reach table ps (state (arguments xs ∷ os) bs) ≡ []
  unfolding reach
  counted [] m xs os bs count other = cc
  counted (pieces.Fixed k ∷ ps) m [] os bs count other = refl
  counted (pieces.Fixed k ∷ ps) m (x ∷ xs) os bs count other =
      let c = suc_in (single_count ps) m count in
      by (is_fixed_argument table k (pieces_of_argument x)) (counted ps c.0 xs os bs c.1 (λ e. other (ap suc e ∙ c.2)))
    where
      by : (b : Bool) → reach table ps (state (arguments xs ∷ os) bs) ≡ [] → flat_map (reach table ps) (if b then state (arguments xs ∷ os) bs ∷ [] else []) ≡ []
      by true none = ap (λ (l : List State). l ++ []) none
      by false none = refl
  counted (pieces.Any sort n ∷ ps) m [] os bs count other = refl
  counted (pieces.Any sort n ∷ ps) m (x ∷ xs) os bs count other =
      let c = suc_in (single_count ps) m count in
      none_of (any_ways sort n x) (λ made. counted ps c.0 xs os made c.1 (λ e. other (ap suc e ∙ c.2)))
    where
      none_of : (ways : List (List Binding)) → ((made : List Binding) → reach table ps (state (arguments xs ∷ os) made) ≡ [])
          → flat_map (reach table ps) (filter_map (binding_too (arguments xs ∷ os) bs) ways) ≡ []
      none_of [] none = refl
      none_of (w ∷ ways) none = by (learnt bs w) (none_of ways none)
        where
          by : (o : Option (List Binding)) → flat_map (reach table ps) (filter_map (binding_too (arguments xs ∷ os) bs) ways) ≡ []
              → flat_map (reach table ps) (cons_option (option_map (state (arguments xs ∷ os)) o) (filter_map (binding_too (arguments xs ∷ os) bs) ways)) ≡ []
          by None rest = rest
          by (Some made) rest = ap (λ (l : List State). l ++ flat_map (reach table ps) (filter_map (binding_too (arguments xs ∷ os) bs) ways)) (none made) ∙ rest
  counted (pieces.EndOfArguments ∷ ps) m [] os bs count other = absurd (other (ap (λ (p : Option ℕ). unwrap_or p 0) count))
  counted (pieces.EndOfArguments ∷ ps) m (x ∷ xs) [] bs count other = refl
  counted (pieces.EndOfArguments ∷ ps) m (x ∷ xs) (o ∷ os) bs count other = by o
    where
      by : (o : Open) → flat_map (reach table ps) (behind_arguments (x ∷ xs) (o ∷ os) bs) ≡ []
      by (factors h us) = refl
      by (arguments ys) = refl
      by (calls cs) = refl
  counted (p ∷ ps) m xs os bs count other = cc

  module _ (w : ℕ) (xs : List terms.Argument) (os : List Open) (bs : List Binding) (ps : List PatternPiece) where
    abbrev takes : ℕ → Option State
    takes = with_field w xs os bs

    abbrev leads : Option State → List State
    leads o = flat_map (reach table ps) (option_to_list o)

    abbrev all_taken : List State
    all_taken = flat_map (reach table ps) (moves table (pieces.Field w) (arguments xs ∷ os) bs)

    -- the field takes all but the last ones
    wrong_count : (m j : ℕ) → single_count ps ≡ Some m → (length (drop j xs) ≡ m → ⊥) → leads (takes j) ≡ []
    wrong_count m j count other = by (learnt bs (field_asks w xs j ∷ []))
      where
        by : (o : Option (List Binding)) → leads (option_map (state (arguments (drop j xs) ∷ os)) o) ≡ []
        by None = refl
        by (Some made) = ap (λ (l : List State). l ++ []) (counted ps m (drop j xs) os made count other)

    pub last_none : (m : ℕ) → single_count ps ≡ Some m → length xs < m → all_taken ≡ []
    last_none m count few =
        nothing_leads takes (reach table ps) 0 (suc (length xs)) (λ j above below. wrong_count m j count (λ e. let long = length-drop j xs in omega (arith, e, few, long, below)))

    pub last_one : (m k : ℕ) → single_count ps ≡ Some m → k + m ≡ length xs → all_taken ≡ leads (takes k)
    last_one m k count is =
        one_leads takes (reach table ps) k 0 (suc (length xs)) (omega arith) (omega (arith, is))
        (λ j within other. wrong_count m j count (λ e. let long = length-drop j xs in other (omega (arith, e, long, is, within))))

    -- ---- the field is bound

    module _ (v : List Piece) (bound : value_of bs (wildcards.Field w) ≡ Some v) where
      bound_at : (j : ℕ) (b : Bool) → is_same v (pieces_of_arguments (take j xs)) ≡ b → takes j ≡ (if b then Some (state (arguments (drop j xs) ∷ os) bs) else None)
      bound_at j b is =
          ap (λ (o : Option (List Piece)). option_map (state (arguments (drop j xs) ∷ os)) (option_and_then (λ made. learnt made []) (and_bound_at o bs (field_asks w xs j)))) bound
          ∙ ap (λ (t : Bool). option_map (state (arguments (drop j xs) ∷ os)) (option_and_then (λ made. learnt made []) (if t then Some bs else None))) is
          ∙ by b
        where
          by : (t : Bool) → option_map (state (arguments (drop j xs) ∷ os)) (option_and_then (λ made. learnt made []) (if t then Some bs else None)) ≡ (if t then Some (state (arguments (drop j xs) ∷ os) bs) else None)
          by true = refl
          by false = refl

      -- it takes the first so many arguments that it is bound to, and none where they aren't these
      pub bound_none : ((j : ℕ) → j ≤ length xs → is_same v (pieces_of_arguments (take j xs)) ≡ false) → all_taken ≡ []
      bound_none other = nothing_leads takes (reach table ps) 0 (suc (length xs)) (λ j above below. ap leads (bound_at j false (other j (omega (arith, below)))))

      pub bound_one : (k : ℕ) → k ≤ length xs → v ≡ pieces_of_arguments (take k xs) → all_taken ≡ leads (takes k)
      bound_one k within is =
          one_leads takes (reach table ps) k 0 (suc (length xs)) (omega arith) (omega (arith, within))
          (λ j inside other. ap leads (bound_at j false (by j other (omega (arith, inside)) (is_same v (pieces_of_arguments (take j xs))) refl)))
        where
          by : (j : ℕ) → (j ≡ k → ⊥) → j ≤ length xs → (b : Bool) → is_same v (pieces_of_arguments (take j xs)) ≡ b → is_same v (pieces_of_arguments (take j xs)) ≡ false
          by j other inside false e = e
          by j other inside true e =
              let long : size_of xs k ≡ size_of xs j = ap length (sym is ∙ same_is v (pieces_of_arguments (take j xs)) e) in
              absurd (other (same_size xs j k inside within long))

    -- ---- one argument after another

    module _ (k c : ℕ) (within : k ≤ length xs) (size : c ≡ size_of xs k) where
      abbrev from_here : ℕ → List State
      from_here n = flat_map (reach table ps) (from table (pieces.Field w) (arguments xs ∷ os) bs n)

      this_first : from_here c ≡ leads (takes k) ++ from_here (c + 1)
      this_first =
          ap (λ (ns : List ℕ). flat_map (reach table ps) (filter_map takes ns))
          (field_first xs c c k within (λ j less. let h = rising xs j k less within in omega (arith, h, size)) size (omega arith))
          ∙ first_leads takes (reach table ps) (takes k) (filter_map takes (filter (is_behind xs (c + 1)) (range_with_len 0 (suc (length xs)))))

      pub this_last : k ≡ length xs → from_here c ≡ leads (takes k)
      this_last last =
          let full : length (pieces_of_arguments xs) < c + 1 =
          let e : size_of xs k ≡ length (pieces_of_arguments xs) = ap (λ (l : List terms.Argument). length (pieces_of_arguments l)) (take_all k xs (omega (arith, last))) in omega (arith, e, size) in
          this_first
          ∙ ap (λ (ns : List ℕ). leads (takes k) ++ flat_map (reach table ps) (filter_map takes ns)) (field_none xs (c + 1) full)
          ∙ append-nil (leads (takes k))

      pub this_and_more : (next : ℕ) → k < length xs → next ≡ size_of xs (suc k) → from_here c ≡ leads (takes k) ++ from_here next
      this_and_more next more longer =
          this_first
          ∙ ap (λ (ns : List ℕ). leads (takes k) ++ flat_map (reach table ps) (filter_map takes ns))
          (same_filter (is_behind xs (c + 1)) (is_behind xs next) 0 (suc (length xs)) (λ j above below. by j (omega (arith, below)) (cases_lt k j)))
        where
          by : (j : ℕ) → j ≤ length xs → (k < j) ⊎ (j ≤ k) → is_behind xs (c + 1) j ≡ is_behind xs next j
          by j inside (inr few) =
              let less = at_least xs j k few within in
              let small = rising xs k (suc k) (omega arith) more in
              lt-leb (c + 1) (size_of xs j) (omega (arith, less, size)) ∙ sym (lt-leb next (size_of xs j) (omega (arith, less, small, longer)))
          by j inside (inl many) =
              let least = at_least xs (suc k) j many inside in
              let small = rising xs k (suc k) (omega arith) more in
              le-leb (c + 1) (size_of xs j) (omega (arith, least, small, size)) ∙ sym (le-leb next (size_of xs j) (omega (arith, least, longer)))

-- ---- what a field takes

no_more : {A : Type 0} (xs ys : List A) → xs ≡ ys → xs ≡ ys ++ []
no_more xs ys is = is ∙ sym (append-nil ys)

module _ (w : ℕ) (ps : List Piece) (lawful : AreArguments ps) (old new : List Binding) where
  abbrev given : List terms.Argument
  given = arguments_of ps

  -- so many arguments are learnt, or they aren't
  field_learnt : (os : List Open) (k n : ℕ) (b : Bool) → IsCut ps k n → Tells b (and_bound old (binding (wildcards.Field w) (take n ps))) new
      → option_to_list (with_field w given os old k) ≡ once_taken ps os new (if b then Some n else None)
  field_learnt os k n b cut told =
      ap (λ (v : List Piece). option_to_list (option_map (state (arguments (drop k given) ∷ os)) (learnt old (binding (wildcards.Field w) v ∷ [])))) (sym cut.front_is)
      ∙ ap (λ (xs : List terms.Argument). option_to_list (option_map (state (arguments xs ∷ os)) (learnt old (binding (wildcards.Field w) (take n ps) ∷ [])))) (sym cut.behind_is)
      ∙ by b (and_bound old (binding (wildcards.Field w) (take n ps))) told
    where
      by : (t : Bool) (o : Option (List Binding)) → Tells t o new
          → option_to_list (option_map (state (arguments (arguments_of (drop n ps)) ∷ os)) (option_and_then (λ made. learnt made []) o)) ≡ once_taken ps os new (if t then Some n else None)
      by true o is = ap (λ (p : Option (List Binding)). option_to_list (option_map (state (arguments (arguments_of (drop n ps)) ∷ os)) (option_and_then (λ made. learnt made []) p))) is
      by false o is = ap (λ (p : Option (List Binding)). option_to_list (option_map (state (arguments (arguments_of (drop n ps)) ∷ os)) (option_and_then (λ made. learnt made []) p))) is

  from_first : (table : List (Option (List Piece))) (behind : List PatternPiece) (os : List Open)
      → ahead table (pieces.Field w ∷ behind) (arguments given ∷ os) old 0 ≡ flat_map (reach table behind) (moves table (pieces.Field w) (arguments given ∷ os) old)
  from_first table behind os = ap (λ (ns : List ℕ). flat_map (reach table behind) (filter_map (with_field w given os old) ns)) (all_behind given (range_with_len 0 (suc (length given))))

  -- all but so many
  module _ (behind : List PatternPiece) (m : ℕ) (count : single_count behind ≡ Some m) where
    pub all_but : (k n : ℕ) (b : Bool) → IsFront ps k n → k + m ≡ length given → Tells b (and_bound old (binding (wildcards.Field w) (take n ps))) new
        → TakesFirst w behind ps old new 0 (if b then Some n else None) None
    all_but k n b front is told table os =
        no_more (ahead table (pieces.Field w ∷ behind) (arguments given ∷ os) old 0) (flat_map (reach table behind) (once_taken ps os new (if b then Some n else None)))
        (from_first table behind os ∙ last_one table w given os old behind m k count is ∙ ap (flat_map (reach table behind)) (field_learnt os k n b (cut_front ps lawful k n front) told))

    pub too_few : length given < m → TakesFirst w behind ps old new 0 None None
    too_few few table os = from_first table behind os ∙ last_none table w given os old behind m count few

  -- so many, and maybe more
  pub one_by_one : (behind : List PatternPiece) (k c : ℕ) (b : Bool) (more : Option ℕ) → IsFront ps k c → Tells b (and_bound old (binding (wildcards.Field w) (take c ps))) new
      → MatchOption more (k ≡ length given) (λ m. (k < length given) × IsFront ps (k + 1) m) → TakesFirst w behind ps old new c (if b then Some c else None) more
  one_by_one behind k c b None front told last table os =
      no_more (ahead table (pieces.Field w ∷ behind) (arguments given ∷ os) old c) (flat_map (reach table behind) (once_taken ps os new (if b then Some c else None)))
      (this_last table w given os old behind k c front.within front.size last ∙ ap (flat_map (reach table behind)) (field_learnt os k c b (cut_front ps lawful k c front) told))
  one_by_one behind k c b (Some m) front told more table os =
      let next : k + 1 ≡ suc k = omega arith in
      this_and_more table w given os old behind k c front.within front.size m more.0 (more.1.size ∙ ap (size_of given) next)
      ∙ ap (λ (l : List State). flat_map (reach table behind) l ++ ahead table (pieces.Field w ∷ behind) (arguments given ∷ os) old m) (field_learnt os k c b (cut_front ps lawful k c front) told)

-- what it is bound to
module _ (w : ℕ) (ps : List Piece) (bs : List Binding) (v : List Piece) (bound : value_of bs (wildcards.Field w) ≡ Some v) (behind : List PatternPiece) where
  pub bound_takes : (n : Option ℕ) → AreArguments ps → MatchOption n (BeginsOtherwise ps v) (BeginsWith ps v) → TakesFirst w behind ps bs bs 0 n None
  bound_takes None lawful other table os =
      from_first w ps lawful bs bs table behind os
      ∙ bound_none table w (arguments_of ps) os bs behind v bound (λ j within. by j (is_same v (pieces_of_arguments (take j (arguments_of ps)))) refl (other j within))
    where
      by : (j : ℕ) (b : Bool) → is_same v (pieces_of_arguments (take j (arguments_of ps))) ≡ b → (v ≡ pieces_of_arguments (take j (arguments_of ps)) → ⊥) → is_same v (pieces_of_arguments (take j (arguments_of ps))) ≡ false
      by j false e never = e
      by j true e never = absurd (never (same_is v (pieces_of_arguments (take j (arguments_of ps))) e))
  bound_takes (Some n) lawful begins table os =
      let k = begins.1.0 in
      let front = begins.1.1 in
      let cut = cut_front ps lawful k n front in
      let is : v ≡ pieces_of_arguments (take k (arguments_of ps)) = begins.0 ∙ cut.front_is in
      no_more (ahead table (pieces.Field w ∷ behind) (arguments (arguments_of ps) ∷ os) bs 0) (flat_map (reach table behind) (once_taken ps os bs (Some n)))
      (from_first w ps lawful bs bs table behind os
      ∙ bound_one table w (arguments_of ps) os bs behind v bound k front.within is
      ∙ ap (λ (o : Option State). flat_map (reach table behind) (option_to_list o)) (bound_at table w (arguments_of ps) os bs behind v bound k true (is_reflexive v (pieces_of_arguments (take k (arguments_of ps))) is))
      ∙ ap (λ (xs : List terms.Argument). flat_map (reach table behind) (state (arguments xs ∷ os) bs ∷ [])) (sym cut.behind_is))

-- ---- what is bound and left then

pub if_some : {A : Type 0} (P : A → Type 0) (x : A) (b : Bool) (o : Option A) → o ≡ (if b then Some x else None) → P x → IfSome o P
if_some P x b o is holds = subst (λ (p : Option _). IfSome p P) (sym is) (by b)
  where
    by : (t : Bool) → IfSome (if t then Some x else None) P
    by true = holds
    by false = tt

module _ (w : ℕ) (ps : List Piece) (lawful : AreArguments ps) (at : Standing) (terms : ℕ) (old new : Trail) where
  later_candidate : (k : ℕ) → IsFront ps k at.candidate → (later : Option ℕ)
      → MatchOption later (k ≡ length (arguments_of ps)) (λ c. (k < length (arguments_of ps)) × IsFront ps (k + 1) c) → IfSome later (λ c. c < 2 ^ 64)
      → IfSome later (λ c. (at.candidate < c) × (c < 2 ^ 64) × IsCandidate (pieces.Field w) (arguments (arguments_of ps) ∷ []) c)
  later_candidate k front None more small = tt
  later_candidate k front (Some c) more small =
      let larger = rising (arguments_of ps) k (k + 1) (omega arith) more.1.within in
      (omega (arith, larger, front.size, more.1.size), small, (k + 1, more.1.within, more.1.size))

  pub many_takes : (k : ℕ) (b : Bool) (n later : Option ℕ) → IsFront ps k at.candidate → MatchOption later (k ≡ length (arguments_of ps)) (λ c. (k < length (arguments_of ps)) × IsFront ps (k + 1) c)
      → IfSome later (λ c. c < 2 ^ 64) → new.takes ≡ old.takes → new.choices.items ≡ keeping later at terms (length old.takes.items) (length old.bindings) old.choices.items
      → Tells b (and_bound old.bindings (binding (wildcards.Field w) (take at.candidate ps))) new.bindings → take (length old.bindings) new.bindings ≡ old.bindings
      → n ≡ (if b then Some at.candidate else None) → (table : List (Option (List Piece))) (behind : List PatternPiece) → Takes table (pieces.Field w) behind ps at terms old new n
  many_takes k b n later front more small takes choices told kept is table behind = record {
    later = later;
    leads =
        subst (λ (o : Option ℕ). TakesThen table (pieces.Field w) behind ps old.bindings new.bindings at.candidate o later) (sym is)
        (one_by_one w ps lawful old.bindings new.bindings behind k at.candidate b later front told more table);
    front = if_some (λ (len : ℕ). (count : ℕ) × IsFront ps count len) at.candidate b n is (k, front);
    candidate = later_candidate k front later more small;
    takes = ap (λ (t : _). t.items) takes;
    bindings = kept;
    choices = choices;
  }

module _ (w : ℕ) (ps : List Piece) (behind : List PatternPiece) (at : Standing) (terms : ℕ) (old : Trail) where
  -- what it is bound to
  pub bound_alone : (v : List Piece) (n : Option ℕ) → value_of old.bindings (wildcards.Field w) ≡ Some v → AreArguments ps → MatchOption n (BeginsOtherwise ps v) (BeginsWith ps v)
      → at.candidate ≡ 0 → (table : List (Option (List Piece))) → Takes table (pieces.Field w) behind ps at terms old old n
  bound_alone v n bound lawful begins first table = record {
    later = None;
    leads = subst (λ (c : ℕ). TakesThen table (pieces.Field w) behind ps old.bindings old.bindings c n None) (sym first) (bound_takes w ps old.bindings v bound behind n lawful begins table);
    front = by n begins;
    candidate = tt;
    takes = refl;
    bindings = take_all (length old.bindings) old.bindings (omega arith);
    choices = refl;
  }
    where
      by : (o : Option ℕ) → MatchOption o (BeginsOtherwise ps v) (BeginsWith ps v) → IfSome o (λ len. (count : ℕ) × IsFront ps count len)
      by None other = tt
      by (Some len) same = same.1
