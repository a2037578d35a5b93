-- Arguments by their pieces: the first one, and the first so many of them.
use Rattle.std.proofs.Common.{◌≡◌, ℕ, zero, suc, ◌+◌, ◌-◌, ◌<◌, ◌≤◌, ◌⊎◌, Bool, true, false, cond, List, [], ◌∷◌, ◌++◌, length, take, drop, get_or, refl, sym, ap, subst, ◌∙◌, append-nil, append_assoc, arith, inl, inr, length-append, length-drop, le-leb}
use Rattle.std.specs.Prelude.{All, filter, nat_le}
use Rattle.std.specs.List.{range_with_len}
use Rattle.std.proofs.lemmas.Bool.{cases_lt, lt-leb}
use Rattle.std.proofs.lemmas.Grind.{flat_map-append}
use Rattle.std.proofs.lemmas.List.{take-append-drop, take_all}
use Rattle.std.proofs.lemmas.List.Elements.{All-nil, All-cons, All-head, All-tail, All-take, All-drop}
use Rattle.std.proofs.Math.Seq.{take-append_seam, drop-append_seam}
use Rattle.form_term.specs.declared.piece.Piece.{Piece}
use Rattle.form_term.specs.Term.{Argument, index, vector, expression, AreArguments, IsArgumentOf, IsTerm, pieces_of_argument, pieces_of_arguments}
use Rattle.form_term.specs.Arguments.{arguments_of, parts_from, parts_of}
use Rattle.form_term.proofs.ReadBack.{argument_part, read_back, reading}
use Rattle.form_match.specs.Candidates.{is_behind}
use Rattle.form_match.specs.Parts.{HasFirst, IsFront}

abbrev pub IsLawful : Argument → Type 0
IsLawful a = IsArgumentOf IsTerm a

-- ---- the first one

-- an argument has pieces
pub some_pieces : (a : Argument) → 0 < length (pieces_of_argument a)
some_pieces (index i) = omega arith
some_pieces (vector v) = omega arith
some_pieces (expression ss) = omega arith

pub has_first : (ps front behind : List Piece) (n : ℕ) → 0 < length ps → AreArguments ps
    → ((a : Argument) (rest : List Piece) → IsArgumentOf IsTerm a → ps ≡ pieces_of_argument a ++ rest → n ≡ length (pieces_of_argument a))
    → front ≡ take n ps → behind ≡ drop n ps → HasFirst ps front behind
has_first ps front behind n some lawful long cut_front cut_behind = by lawful.arguments lawful.written lawful.lawful
  where
    by : (xs : List Argument) → ps ≡ pieces_of_arguments xs → All IsLawful xs → HasFirst ps front behind
    by [] written all = let none : length ps ≡ 0 = ap length written in absurd (omega (arith, some, none))
    by (x ∷ xs) written all =
        let here = All-head IsLawful x xs all in
        let rest = All-tail IsLawful x xs all in
        let size : n ≡ length (pieces_of_argument x) = long x (pieces_of_arguments xs) here written in
        let before : front ≡ pieces_of_argument x =
        cut_front ∙ ap (λ (m : ℕ). take m ps) size ∙ ap (take (length (pieces_of_argument x))) written ∙ take-append_seam (pieces_of_argument x) (pieces_of_arguments xs) in
        let after : behind ≡ pieces_of_arguments xs =
        cut_behind ∙ ap (λ (m : ℕ). drop m ps) size ∙ ap (drop (length (pieces_of_argument x))) written ∙ drop-append_seam (pieces_of_argument x) (pieces_of_arguments xs) in
        record {
          first = x;
          args = xs;
          read = ap arguments_of written ∙ reading (x ∷ xs) all;
          parts = written ∙ ap (λ (l : List Piece). l ++ pieces_of_arguments xs) (sym before) ∙ ap (λ (l : List Piece). front ++ l) (sym after);
          some = let size : length front ≡ length (pieces_of_argument x) = ap length before in omega (arith, size, some_pieces x);
          front_is = before;
          behind_is = ap arguments_of after ∙ reading xs rest;
          front_lawful = record { arguments = x ∷ []; written = before ∙ sym (append-nil (pieces_of_argument x)); lawful = All-cons IsLawful x [] here (All-nil IsLawful) };
          behind_lawful = record { arguments = xs; written = after; lawful = rest };
        }

-- ---- one argument more

few_left : {A : Type 0} (k : ℕ) (xs : List A) → drop k xs ≡ [] → length xs ≤ k
few_left zero [] e = omega arith
few_left zero (x ∷ xs) e = cc
few_left (suc k) [] e = omega arith
few_left (suc k) (x ∷ xs) e = let rest = few_left k xs e in omega (arith, rest)

one_more : {A : Type 0} (k : ℕ) (xs : List A) (x : A) (ys : List A) → drop k xs ≡ x ∷ ys → (take (suc k) xs ≡ take k xs ++ x ∷ []) × (suc k ≤ length xs)
one_more zero [] x ys e = cc
one_more zero (z ∷ zs) x ys e = (ap (λ (l : List _). get_or l 0 z ∷ []) e, omega arith)
one_more (suc k) [] x ys e = cc
one_more (suc k) (z ∷ zs) x ys e =
    let more = one_more k zs x ys e in
    (ap (λ (l : List _). z ∷ l) more.0, omega (arith, more.1))

size_more : (k : ℕ) (xs : List Argument) (x : Argument) → take (suc k) xs ≡ take k xs ++ x ∷ [] → length (pieces_of_arguments (take (suc k) xs)) ≡ length (pieces_of_arguments (take k xs)) + length (pieces_of_argument x)
size_more k xs x e =
    ap (λ (l : List Argument). length (pieces_of_arguments l)) e
    ∙ ap length (flat_map-append pieces_of_argument (take k xs) (x ∷ []) ∙ ap (λ (l : List Piece). pieces_of_arguments (take k xs) ++ l) (append-nil (pieces_of_argument x)))
    ∙ length-append (pieces_of_arguments (take k xs)) (pieces_of_argument x)

-- ---- the first so many

-- how many pieces the first so many arguments have
abbrev pub size_of : List Argument → ℕ → ℕ
size_of xs n = length (pieces_of_arguments (take n xs))

pub rising : (xs : List Argument) (j k : ℕ) → j < k → k ≤ length xs → size_of xs j < size_of xs k
rising xs j zero before within = absurd (omega (arith, before))
rising [] j (suc k) before within = absurd (omega (arith, within))
rising (x ∷ xs) zero (suc k) before within =
    let here : size_of (x ∷ xs) (suc k) ≡ length (pieces_of_argument x) + size_of xs k = length-append (pieces_of_argument x) (pieces_of_arguments (take k xs)) in
    let some = some_pieces x in
    omega (arith, here, some)
rising (x ∷ xs) (suc j) (suc k) before within =
    let rest = rising xs j k (omega (arith, before)) (omega (arith, within)) in
    let one : size_of (x ∷ xs) (suc j) ≡ length (pieces_of_argument x) + size_of xs j = length-append (pieces_of_argument x) (pieces_of_arguments (take j xs)) in
    let two : size_of (x ∷ xs) (suc k) ≡ length (pieces_of_argument x) + size_of xs k = length-append (pieces_of_argument x) (pieces_of_arguments (take k xs)) in
    omega (arith, rest, one, two)

lawful_pieces : (xs : List Argument) → All IsLawful xs → AreArguments (pieces_of_arguments xs)
lawful_pieces xs all = record { arguments = xs; written = refl; lawful = all }

pub record IsCut (ps : List Piece) (count n : ℕ) : Type 0 where
  pub inside : n ≤ length ps
  pub front_is : take n ps ≡ pieces_of_arguments (take count (arguments_of ps))
  pub behind_written : drop n ps ≡ pieces_of_arguments (drop count (arguments_of ps))
  pub behind_is : arguments_of (drop n ps) ≡ drop count (arguments_of ps)
  pub front_lawful : AreArguments (take n ps)
  pub behind_lawful : AreArguments (drop n ps)

module _ (ps : List Piece) (lawful : AreArguments ps) where
  abbrev args : List Argument
  args = arguments_of ps

  pub cut_front : (count n : ℕ) → IsFront ps count n → IsCut ps count n
  cut_front count n front =
      let read = read_back ps lawful in
      let one = pieces_of_arguments (take count args) in
      let two = pieces_of_arguments (drop count args) in
      let parts : ps ≡ one ++ two =
      read.0 ∙ ap pieces_of_arguments (sym (take-append-drop count args)) ∙ flat_map-append pieces_of_argument (take count args) (drop count args) in
      let before : take n ps ≡ one = ap (λ (m : ℕ). take m ps) front.size ∙ ap (take (length one)) parts ∙ take-append_seam one two in
      let after : drop n ps ≡ two = ap (λ (m : ℕ). drop m ps) front.size ∙ ap (drop (length one)) parts ∙ drop-append_seam one two in
      let others = All-drop IsLawful count args read.1 in
      record {
        inside = omega (arith, front.size, ap length parts, length-append one two);
        front_is = before;
        behind_written = after;
        behind_is = ap arguments_of after ∙ reading (drop count args) others;
        front_lawful = subst AreArguments (sym before) (lawful_pieces (take count args) (All-take IsLawful count args read.1));
        behind_lawful = subst AreArguments (sym after) (lawful_pieces (drop count args) others);
      }

  -- all of them
  pub all_front : IsFront ps (length args) (length ps)
  all_front = record {
    within = omega arith;
    size = ap length (read_back ps lawful).0 ∙ ap (λ (xs : List Argument). length (pieces_of_arguments xs)) (sym (take_all (length args) args (omega arith)));
  }

  -- one more
  pub next_front : (count n m : ℕ) → IsFront ps count n → count < length args
      → ((a : Argument) (rest : List Piece) → IsLawful a → take (length ps - n) (drop n ps) ≡ pieces_of_argument a ++ rest → m ≡ length (pieces_of_argument a)) → IsFront ps (suc count) (n + m)
  next_front count n m front more long =
      let cut = cut_front count n front in
      let all = All-drop IsLawful count args (read_back ps lawful).1 in
      by (drop count args) refl cut.behind_written all
    where
      by : (xs : List Argument) → drop count args ≡ xs → drop n ps ≡ pieces_of_arguments xs → All IsLawful xs → IsFront ps (suc count) (n + m)
      by [] is written all = absurd (omega (arith, more, few_left count args is))
      by (x ∷ xs) is written all =
          let rest = take_all (length ps - n) (drop n ps) (let e = length-drop n ps in omega (arith, e)) in
          let size = long x (pieces_of_arguments xs) (All-head IsLawful x xs all) (rest ∙ written) in
          let more = one_more count args x xs is in
          record {
            within = more.1;
            size = let e = size_more count args x more.0 in omega (arith, e, size, front.size);
          }

-- ---- whether there are more

module _ (ps : List Piece) (lawful : AreArguments ps) (count n : ℕ) (front : IsFront ps count n) where
  abbrev whole : List Argument
  whole = arguments_of ps

  fewer_left : count < length whole → n < length ps
  fewer_left less = let h = rising whole count (length whole) less (omega arith) in omega (arith, h, front.size, (all_front ps lawful).size)

  pub more_left : n < length ps → count < length whole
  more_left less = by (cases_lt count (length whole))
    where
      by : (count < length whole) ⊎ (length whole ≤ count) → count < length whole
      by (inl few) = few
      by (inr many) =
          let all : count ≡ length whole = omega (arith, many, front.within) in
          let same : size_of whole count ≡ size_of whole (length whole) = ap (size_of whole) all in
          absurd (omega (arith, less, same, front.size, (all_front ps lawful).size))

  pub none_left : length ps ≤ n → count ≡ length whole
  none_left past = by (cases_lt count (length whole))
    where
      by : (count < length whole) ⊎ (length whole ≤ count) → count ≡ length whole
      by (inl few) = let less = fewer_left few in absurd (omega (arith, less, past))
      by (inr many) = omega (arith, many, front.within)

pub no_arguments : arguments_of [] ≡ []
unfolding arguments_of parts_of
no_arguments = refl

-- ---- what pieces begin with

-- lawful arguments that pieces begin with are their first ones
begun_by : (vs xs : List Argument) (rest : List Piece) → All IsLawful vs → All IsLawful xs → pieces_of_arguments xs ≡ pieces_of_arguments vs ++ rest
    → (length vs ≤ length xs) × (length (pieces_of_arguments vs) ≡ size_of xs (length vs))
begun_by [] xs rest these those is = (omega arith, refl)
begun_by (v ∷ vs) [] rest these those is =
    let some = some_pieces v in
    let long : 0 ≡ length ((pieces_of_argument v ++ pieces_of_arguments vs) ++ rest) = ap length is in
    absurd (omega (arith, some, long, length-append (pieces_of_argument v ++ pieces_of_arguments vs) rest, length-append (pieces_of_argument v) (pieces_of_arguments vs)))
begun_by (v ∷ vs) (x ∷ xs) rest these those is =
    let first = pieces_of_argument x in
    let others = pieces_of_arguments vs ++ rest in
    let split : first ++ pieces_of_arguments xs ≡ pieces_of_argument v ++ others = is ∙ append_assoc (pieces_of_argument v) (pieces_of_arguments vs) rest in
    let parts : first ∷ parts_from 0 (pieces_of_arguments xs) ≡ pieces_of_argument v ∷ parts_from 0 others =
    sym (argument_part x (pieces_of_arguments xs) (All-head IsLawful x xs those)) ∙ ap (parts_from 0) split ∙ argument_part v others (All-head IsLawful v vs these) in
    let long : length first ≡ length (pieces_of_argument v) = ap (λ (l : List (List Piece)). length (get_or l 0 [])) parts in
    let behind : pieces_of_arguments xs ≡ others =
    sym (drop-append_seam first (pieces_of_arguments xs)) ∙ ap (drop (length first)) split ∙ ap (λ (n : ℕ). drop n (pieces_of_argument v ++ others)) long
    ∙ drop-append_seam (pieces_of_argument v) others in
    let more = begun_by vs xs rest (All-tail IsLawful v vs these) (All-tail IsLawful x xs those) behind in
    let one : length (pieces_of_arguments (v ∷ vs)) ≡ length (pieces_of_argument v) + length (pieces_of_arguments vs) = length-append (pieces_of_argument v) (pieces_of_arguments vs) in
    let two : size_of (x ∷ xs) (suc (length vs)) ≡ length first + size_of xs (length vs) = length-append first (pieces_of_arguments (take (length vs) xs)) in
    (omega (arith, more.0), omega (arith, more.1, one, two, long))

pub value_front : (ps v : List Piece) (n : ℕ) → AreArguments ps → AreArguments v → n ≡ length v → v ≡ take n ps → IsFront ps (length (arguments_of v)) n
value_front ps v n lawful value long is =
    let here = read_back ps lawful in
    let there = read_back v value in
    let parts : pieces_of_arguments (arguments_of ps) ≡ pieces_of_arguments (arguments_of v) ++ drop n ps =
    sym here.0 ∙ sym (take-append-drop n ps) ∙ ap (λ (l : List Piece). l ++ drop n ps) (sym is ∙ there.0) in
    let begun = begun_by (arguments_of v) (arguments_of ps) (drop n ps) there.1 here.1 parts in
    record { within = begun.0; size = long ∙ ap length there.0 ∙ begun.1 }

-- the first so many arguments have their pieces in front
pub value_first : (ps v : List Piece) (count : ℕ) → AreArguments ps → count ≤ length (arguments_of ps) → v ≡ pieces_of_arguments (take count (arguments_of ps))
    → (length v ≤ length ps) × (v ≡ take (length v) ps)
value_first ps v count lawful within is =
    let cut = cut_front ps lawful count (length v) (record { within = within; size = ap length is }) in
    (cut.inside, is ∙ sym cut.front_is)

-- ---- the candidates of a field

at_most_all : (xs : List Argument) (n : ℕ) → size_of xs n ≤ length (pieces_of_arguments xs)
at_most_all xs zero = omega arith
at_most_all [] (suc n) = omega arith
at_most_all (x ∷ xs) (suc n) =
    let rest = at_most_all xs n in
    let here : size_of (x ∷ xs) (suc n) ≡ length (pieces_of_argument x) + size_of xs n = length-append (pieces_of_argument x) (pieces_of_arguments (take n xs)) in
    let all : length (pieces_of_arguments (x ∷ xs)) ≡ length (pieces_of_argument x) + length (pieces_of_arguments xs) = length-append (pieces_of_argument x) (pieces_of_arguments xs) in
    omega (arith, rest, here, all)

module _ (p q : ℕ → Bool) where
  pub same_filter : (start len : ℕ) → ((j : ℕ) → start ≤ j → j < start + len → p j ≡ q j) → filter p (range_with_len start len) ≡ filter q (range_with_len start len)
  same_filter start zero same = refl
  same_filter start (suc len) same =
      let rest = same_filter (start + 1) len (λ j above below. same j (omega (arith, above)) (omega (arith, below))) in
      ap (λ (b : Bool). cond b (start ∷ filter p (range_with_len (start + 1) len)) (filter p (range_with_len (start + 1) len))) (same start (omega arith) (omega arith))
      ∙ ap (λ (l : List ℕ). cond (q start) (start ∷ l) l) rest

  -- the first that passes is that at a place
  first_passes : (start k len : ℕ) → k < len → ((j : ℕ) → start ≤ j → j < start + k → (p j ≡ false) × (q j ≡ false)) → p (start + k) ≡ true → q (start + k) ≡ false
      → ((j : ℕ) → start + k < j → j < start + len → p j ≡ q j) → filter p (range_with_len start len) ≡ (start + k) ∷ filter q (range_with_len start len)
  first_passes start k zero within before passes fails after = absurd (omega (arith, within))
  first_passes start zero (suc len) within before passes fails after =
      let here : start + 0 ≡ start = omega arith in
      let rest = same_filter (start + 1) len (λ j above below. after j (omega (arith, above)) (omega (arith, below))) in
      let pass : p start ≡ true = ap p (sym here) ∙ passes in
      let fail : q start ≡ false = ap q (sym here) ∙ fails in
      ap (λ (b : Bool). cond b (start ∷ filter p (range_with_len (start + 1) len)) (filter p (range_with_len (start + 1) len))) pass
      ∙ ap (λ (l : List ℕ). start ∷ l) (rest ∙ ap (λ (b : Bool). cond b (start ∷ filter q (range_with_len (start + 1) len)) (filter q (range_with_len (start + 1) len))) (sym fail))
      ∙ ap (λ (n : ℕ). n ∷ filter q (range_with_len start (suc len))) (sym here)
  first_passes start (suc k) (suc len) within before passes fails after =
      let here : start + 1 + k ≡ start + suc k = omega arith in
      let neither = before start (omega arith) (omega arith) in
      let rest = first_passes (start + 1) k len (omega (arith, within)) (λ j above below. before j (omega (arith, above)) (omega (arith, below)))
      (ap p here ∙ passes) (ap q here ∙ fails) (λ j above below. after j (omega (arith, above)) (omega (arith, below))) in
      ap (λ (b : Bool). cond b (start ∷ filter p (range_with_len (start + 1) len)) (filter p (range_with_len (start + 1) len))) neither.0
      ∙ rest
      ∙ ap (λ (n : ℕ). n ∷ filter q (range_with_len (start + 1) len)) here
      ∙ ap (λ (b : Bool). (start + suc k) ∷ cond b (start ∷ filter q (range_with_len (start + 1) len)) (filter q (range_with_len (start + 1) len))) (sym neither.1)

none_passes : (p : ℕ → Bool) (start len : ℕ) → ((j : ℕ) → p j ≡ false) → filter p (range_with_len start len) ≡ []
none_passes p start zero never = refl
none_passes p start (suc len) never =
    ap (λ (b : Bool). cond b (start ∷ filter p (range_with_len (start + 1) len)) (filter p (range_with_len (start + 1) len))) (never start) ∙ none_passes p (start + 1) len never

not_le : (m n : ℕ) → n < m → nat_le m n ≡ false
not_le m n less = lt-leb m n less

-- the candidates from one on: first the fewest arguments that have so many pieces
pub field_first : (xs : List Argument) (least n k : ℕ) → k ≤ length xs → ((j : ℕ) → j < k → size_of xs j < least) → n ≡ size_of xs k → least ≤ n
    → filter (is_behind xs least) (range_with_len 0 (suc (length xs))) ≡ k ∷ filter (is_behind xs (n + 1)) (range_with_len 0 (suc (length xs)))
field_first xs least n k within fewest size enough =
    let zero_first : 0 + k ≡ k = omega arith in
    first_passes (is_behind xs least) (is_behind xs (n + 1)) 0 k (suc (length xs)) (omega (arith, within))
    (λ j above below.
    let less : j < k = omega (arith, below) in
    let few = fewest j less in
    let fewer = rising xs j k less within in
    (not_le least (size_of xs j) few, not_le (n + 1) (size_of xs j) (omega (arith, fewer, size))))
    (ap (is_behind xs least) zero_first ∙ le-leb least (size_of xs k) (omega (arith, enough, size)))
    (ap (is_behind xs (n + 1)) zero_first ∙ not_le (n + 1) (size_of xs k) (omega (arith, size)))
    (λ j above below.
    let more = rising xs k j (omega (arith, above)) (omega (arith, below)) in
    le-leb least (size_of xs j) (omega (arith, more, size, enough)) ∙ sym (le-leb (n + 1) (size_of xs j) (omega (arith, more, size))))
    ∙ ap (λ (m : ℕ). m ∷ filter (is_behind xs (n + 1)) (range_with_len 0 (suc (length xs)))) zero_first

pub field_none : (xs : List Argument) (least : ℕ) → length (pieces_of_arguments xs) < least → filter (is_behind xs least) (range_with_len 0 (suc (length xs))) ≡ []
field_none xs least past =
    none_passes (is_behind xs least) 0 (suc (length xs)) (λ j. let most = at_most_all xs j in not_le least (size_of xs j) (omega (arith, most, past)))

-- from the first candidate on, these are all
pub all_behind : (xs : List Argument) (ns : List ℕ) → filter (is_behind xs 0) ns ≡ ns
all_behind xs [] = refl
all_behind xs (n ∷ ns) =
    let first : is_behind xs 0 n ≡ true = le-leb 0 (size_of xs n) (omega arith) in
    ap (λ (b : Bool). cond b (n ∷ filter (is_behind xs 0) ns) (filter (is_behind xs 0) ns)) first ∙ ap (λ (l : List ℕ). n ∷ l) (all_behind xs ns)
