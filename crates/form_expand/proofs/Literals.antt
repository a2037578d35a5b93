-- Products each of which is read into one term.
use Rattle.std.proofs.Common.{◌≡◌, ℕ, zero, suc, ◌+◌, ◌-◌, ◌<◌, ◌≤◌, Bool, true, false, List, [], ◌∷◌, ◌++◌, length, take, drop, sym, ap, subst, ◌∙◌, arith}
use Rattle.std.specs.Prelude.{ℤ, Option, Some, None, Result, Ok, Err, IfOk, IfSome}
use Rattle.std.specs.Borrow.{Bor}
use Rattle.std.proofs.lemmas.List.{length-append}
use Rattle.form_base.specs.declared.cause.Cause.{Cause}
use Rattle.form_base.specs.declared.cause.Cause.TheVariants.{ExpandLimit}
use Rattle.form_term.specs.declared.arguments.Arguments.{Arguments}
use Rattle.form_term.specs.declared.monomial.Monomial.{Monomial}
use Rattle.form_term.specs.Calls.{call}
use Rattle.form_term.specs.Monomial.{unit}
use Rattle.form_normal.specs.Product.{product_of}
use Rattle.form_tree.specs.declared.tree.Link.{Link}
use Rattle.form_tree.specs.declared.tree.Piece.{Piece}
use Rattle.form_tree.specs.declared.tree.Piece.TheVariants as pieces
use Rattle.form_expand.specs.declared.ended.Ended.TheVariants.{Power}
use Rattle.form_expand.specs.Bound.{wild_list}
use Rattle.form_expand.specs.Closings.{closing_at}
use Rattle.form_expand.specs.Meanings.{Meanings, function_of}
use Rattle.form_expand.specs.Left.{row, row_behind}
use Rattle.form_expand.specs.Listing.{Listing, nothing, single, before_by, limited, followed, pairs, powers, signed}
use Rattle.form_expand.specs.Literals.{IsLiteral, IsTakenAt, IsTakenWithin, IsTimes, AreArgued, ReadsProduct}
use Rattle.form_expand.specs.Pieces.{list_of_piece}
use Rattle.form_expand.specs.Readers.{EndsProduct, IsReadFunction, is_minus_piece, product_part, in_product, list_of_calling}
use Rattle.form_expand.specs.Reading.{in_sum, in_function, calling, fed, read_from, list_of_pieces, link_of_piece, begins_product}
use Rattle.form_expand.specs.Singles.{list_of_call}
use Rattle.form_expand.proofs.Behind.{goes_on, read_ends, read_first, read_further}
use Rattle.form_expand.proofs.Called.{piece_alone}
use Rattle.form_expand.proofs.Listings.{limited_within, limited_none, limited_refusal, limited_again, followed_last, times_before, times_end, pairs_before, pairs_nothing, pairs_refusal}
use Rattle.form_expand.proofs.Parenthesized.{read_ended}
use Rattle.form_expand.proofs.Rows.{row_push}

same_ok : (a b : Monomial) (r : Result (Option Monomial) Cause) → r ≡ Ok (Some a) → r ≡ Ok (Some b) → a ≡ b
same_ok a b r e f = cc

-- two lists of one term are paired
one_times_one : (m n made : Monomial) → product_of m n ≡ Ok (Some made) → pairs (single m) (single n) ≡ single made
one_times_one m n made e =
    pairs_before m nothing (single n)
    ∙ ap (λ l. followed l (pairs nothing (single n))) (times_before m n nothing ∙ ap (before_by (product_of m n)) (times_end m None) ∙ ap (λ r. before_by r nothing) e)
    ∙ ap (followed (single made)) (pairs_nothing (single n))
    ∙ followed_last (single made)

pub pair_of_ones : (max : ℕ) (m n made : Monomial) → product_of m n ≡ Ok (Some made) → limited max (pairs (limited max (single m)) (limited max (single n))) ≡ limited max (single made)
pair_of_ones zero m n made e =
    ap (λ l. limited 0 (pairs l (limited 0 (single n)))) (limited_none m nothing)
    ∙ ap (limited 0) (pairs_refusal ExpandLimit (limited 0 (single n)))
    ∙ limited_refusal 0 ExpandLimit
    ∙ sym (limited_none made nothing)
pair_of_ones (suc k) m n made e =
    ap (λ l. limited (suc k) (pairs l (limited (suc k) (single n)))) (limited_within (suc k) (single m) (omega arith))
    ∙ ap (λ l. limited (suc k) (pairs (single m) l)) (limited_within (suc k) (single n) (omega arith))
    ∙ ap (limited (suc k)) (one_times_one m n made e)

-- a row of lists is this term alone; before the first list it is 1
abbrev pub IsOne : ℕ → List Listing → Monomial → Type 0
IsOne max [] m = m ≡ unit
IsOne max (l ∷ ls) m = row max (l ∷ ls) ≡ limited max (single m)

pub one_more : (max : ℕ) (factors : List Listing) (l : Listing) (old new : Monomial) → IsOne max factors old → IsTimes l old new → IsOne max (factors ++ limited max l ∷ []) new
unfolding row row_behind
one_more max [] l old new one t =
    let same : t.factor ≡ new = same_ok t.factor new (product_of unit t.factor) t.by_one (ap (λ m. product_of m t.factor) (sym one) ∙ t.product) in
    limited_again max l ∙ ap (limited max) (t.alone ∙ ap single same)
one_more max (k ∷ ks) l old new one t =
    row_push max k ks (limited max l)
    ∙ ap (λ front. limited max (pairs front (limited max l))) one
    ∙ ap (λ last. limited max (pairs (limited max (single old)) (limited max last))) t.alone
    ∙ pair_of_ones max old t.factor new t.product

pub one_row : (max : ℕ) (factors : List Listing) (m : Monomial) → 0 < length factors → IsOne max factors m → row max factors ≡ limited max (single m)
one_row max [] m some one = absurd (omega arith)
one_row max (l ∷ ls) m some one = one

module _ (max : ℕ) (all : Meanings) where
  -- A product that is this term so far is read of the pieces, and this is behind it.
  pub record IsReadTo (ps : List Piece) (is_minus : Bool) (term : Monomial) (rest : List Piece) : Type 0 where
    pub factors : List Listing
    pub list : list_of_pieces max all ps ≡ read_from all (in_product max is_minus factors) rest
    pub one : IsOne max factors term
    pub some : 0 < length factors
    pub shorter : length rest < length ps

  pub first_taken : (ps : List Piece) (piece : Piece) (more : List Piece) (old new : Monomial) (rest : List Piece) → ps ≡ piece ∷ more → old ≡ unit → IsTakenAt max all piece more old new rest → IsReadTo ps (is_minus_piece piece) new rest
  first_taken ps piece more old new rest is begun t =
      let m = is_minus_piece piece in
      record {
        factors = limited max t.taken.list ∷ [];
        list = ap (list_of_pieces max all) is ∙ read_first max all piece more ∙ t.taken.read [] m;
        one = one_more max [] t.taken.list old new begun t.taken.times;
        some = omega arith;
        shorter = omega (arith, ap length is, t.shorter);
      }

  pub next_taken : (ps : List Piece) (is_minus : Bool) (piece : Piece) (more : List Piece) (old new : Monomial) (here rest : List Piece) → here ≡ piece ∷ more → begins_product piece ≡ false
      → IsReadTo ps is_minus old here → IsTakenAt max all piece more old new rest → IsReadTo ps is_minus new rest
  next_taken ps is_minus piece more old new here rest is on h t = record {
    factors = h.factors ++ limited max t.taken.list ∷ [];
    list = h.list
        ∙ ap (read_from all (in_product max is_minus h.factors)) is
        ∙ read_further max all is_minus h.factors piece more (goes_on (link_of_piece piece) on)
        ∙ t.taken.read h.factors is_minus;
    one = one_more max h.factors t.taken.list old new h.one t.taken.times;
    some = omega (arith, length-append h.factors (limited max t.taken.list ∷ []));
    shorter = omega (arith, ap length is, t.shorter, h.shorter);
  }

  pub product_read : (ps : List Piece) (is_minus : Bool) (term : Monomial) (rest : List Piece) → IsReadTo ps is_minus term rest → EndsProduct rest → ReadsProduct max all ps (record { is_minus = is_minus; term = term }) rest
  product_read ps is_minus term rest h ends =
      h.list
      ∙ read_ends max all is_minus h.factors rest ends
      ∙ ap (λ product. limited max (followed (signed is_minus product) (list_of_pieces max all rest))) (one_row max h.factors term h.some h.one)

  pub literal_read : (ps : List Piece) (is_minus : Bool) (term : Monomial) (rest : List Piece) → IsReadTo ps is_minus term rest → EndsProduct rest → IsLiteral max all ps (record { is_minus = is_minus; term = term }) rest
  literal_read ps is_minus term rest h ends = record { list = product_read ps is_minus term rest h ends; shorter = h.shorter }

  -- a factor that is one piece
  piece_taken : (piece : Piece) (l : Listing) (more : List Piece) (old new : Monomial) → list_of_piece all piece ≡ Some (l, 1) → IsTimes l old new → IsTakenAt max all piece more old new more
  unfolding powers
  piece_taken piece l more old new is t = record {
    taken = record { list = l; times = t; read = λ factors m. piece_alone all piece l 1 is max m factors more };
    shorter = omega arith;
  }

  pub taken_behind : (found : Option (Bor (List Piece))) (taken : Bool) (piece : Piece) (l : Listing) (more : List Piece) (old new : Monomial) → IfSome found (λ rest. (taken ≡ true) × (rest.now ≡ more)) → list_of_piece all piece ≡ Some (l, 1) → (taken ≡ true → IsTimes l old new)
      → IfSome found (λ rest. IsTakenAt max all piece more old new rest.now)
  taken_behind None taken piece l more old new h is t = tt
  taken_behind (Some rest) taken piece l more old new h is t = subst (λ (ps : List Piece). IsTakenAt max all piece more old new ps) (sym h.1) (piece_taken piece l more old new is (t h.0))

  -- a wildcard
  pub taken_wild : (found : Option (Bor (List Piece))) (taken : Bool) (piece : Piece) (link : Link) (symbol : ℕ) (is_over : Bool) (power : ℤ) (more : List Piece) (old new : Monomial) → piece ≡ pieces.Wild link symbol is_over power
      → IfSome found (λ rest. (taken ≡ true) × (rest.now ≡ more)) → (taken ≡ true → wild_list all symbol is_over power ≡ ((wild_list all symbol is_over power).0, 1)) → (taken ≡ true → IsTimes (wild_list all symbol is_over power).0 old new)
      → IfSome found (λ rest. IsTakenAt max all piece more old new rest.now)
  taken_wild None taken piece link symbol is_over power more old new is h one t = tt
  taken_wild (Some rest) taken piece link symbol is_over power more old new is h one t =
      taken_behind (Some rest) taken piece (wild_list all symbol is_over power).0 more old new h (ap (list_of_piece all) is ∙ ap Some (one h.0)) t

  -- a function
  call_taken : (link : Link) (f : ℕ) (is_commuting : Bool) (more : List Piece) (old new : Monomial) (rest : List Piece) → IsTakenWithin (function_of all f) is_commuting max all more old new rest → IsTakenAt max all (pieces.Function link f is_commuting) more old new rest
  unfolding read_from fed
  call_taken link f is_commuting more old new rest h = record { taken = record { list = h.taken.list; times = h.taken.times; read = h.taken.read }; shorter = h.shorter }

  pub call_taken_from : {E : Type 0} (r : Result (Option (Bor (List Piece))) E) (piece : Piece) (link : Link) (f g : ℕ) (is_commuting : Bool) (more : List Piece) (old new : Monomial) → piece ≡ pieces.Function link f is_commuting → g ≡ function_of all f
      → IfOk r (λ found. IfSome found (λ rest. IsTakenWithin g is_commuting max all more old new rest.now)) → IfOk r (λ found. IfSome found (λ rest. IsTakenAt max all piece more old new rest.now))
  call_taken_from (Ok None) piece link f g is_commuting more old new is e h = tt
  call_taken_from (Ok (Some rest)) piece link f g is_commuting more old new is e h =
      subst (λ (p : Piece). IsTakenAt max all p more old new rest.now) (sym is)
      (call_taken link f is_commuting more old new rest.now (subst (λ (n : ℕ). IsTakenWithin n is_commuting max all more old new rest.now) e h))
  call_taken_from (Err failed) piece link f g is_commuting more old new is e h = tt

  -- its arguments have these pieces
  pub within_read : (f : ℕ) (is_commuting : Bool) (arguments : Arguments) (ps within rest : List Piece) (len : ℕ) → closing_at 0 0 ps ≡ Some (len, Power 1) → within ≡ take len ps → rest ≡ drop (len + 1) ps
      → AreArgued max all within arguments → (factors : List Listing) → IsReadFunction f is_commuting max all ps factors (factors ++ limited max (list_of_call is_commuting (call f arguments)) ∷ []) rest
  unfolding powers
  within_read f is_commuting arguments ps within rest len closes front behind argued factors = λ m.
      let k = calling max f is_commuting in
      let l = list_of_call is_commuting (call f arguments) in
      let e : len - 0 ≡ len = omega arith in
      let same : list_of_calling all k (take len ps) ≡ l = ap (list_of_calling all k) (sym front) ∙ argued f is_commuting in
      let h = read_ended all (in_sum (product_part max m factors)) 0 (in_function k) [] ps len (Power 1) closes in
      (rw e at h.read)
      ∙ ap (λ (x : Listing). read_from all (in_product max m (factors ++ limited max x ∷ [])) (drop (len + 1) ps)) same
      ∙ ap (read_from all (in_product max m (factors ++ limited max l ∷ []))) (sym behind)

  pub within_taken : (f : ℕ) (is_commuting : Bool) (arguments : Arguments) (ps within rest : List Piece) (len : ℕ) (old new : Monomial) → closing_at 0 0 ps ≡ Some (len, Power 1) → within ≡ take len ps → rest ≡ drop (len + 1) ps
      → AreArgued max all within arguments → IsTimes (list_of_call is_commuting (call f arguments)) old new → length rest ≤ length ps → IsTakenWithin f is_commuting max all ps old new rest
  within_taken f is_commuting arguments ps within rest len old new closes front behind argued t short = record {
    taken = record {
      list = list_of_call is_commuting (call f arguments);
      times = t;
      read = within_read f is_commuting arguments ps within rest len closes front behind argued;
    };
    shorter = short;
  }
