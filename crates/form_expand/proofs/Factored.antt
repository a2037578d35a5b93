-- Lists that make the same row, whatever stands behind them.
use Rattle.std.proofs.Common.{◌≡◌, ℕ, zero, suc, ◌+◌, ◌-◌, ◌≤◌, List, [], ◌∷◌, ◌++◌, length, get_or, map, refl, sym, ap, subst, ◌∙◌, append-nil, append_assoc, arith}
use Rattle.std.proofs.lemmas.List.{nil_from_length, replicate_more}
use Rattle.std.specs.Prelude.{Option, Some, None, option_to_list, Result, Ok, Err, replicate, min}
use Rattle.form_base.specs.declared.cause.Cause.{Cause}
use Rattle.form_term.specs.declared.monomial.Monomial.{Monomial}
use Rattle.form_normal.specs.Product.{product_of}
use Rattle.form_expand.specs.declared.error.ExpandError.{ExpandError}
use Rattle.form_expand.specs.declared.error.ExpandError.TheVariants.{Refused, Memory}
use Rattle.form_expand.specs.declared.list.List as lists
use Rattle.form_expand.specs.Factors.{AreMade, IsSameRow}
use Rattle.form_expand.specs.Left.{product_by, row, row_behind}
use Rattle.form_expand.specs.Listing.{Listing, nothing, single, refusal, limited, followed_at, times_each, pairs, pairs_each, powers}
use Rattle.form_expand.specs.Lists.{list_whole}
use Rattle.form_expand.specs.Next.{IsMade}
use Rattle.form_expand.specs.Often.{then_by, often}
use Rattle.form_expand.specs.Singles.{of_product}
use Rattle.form_expand.proofs.Listings.{limited_length, limited_nothing, limited_refusal, limited_within}
use Rattle.form_expand.proofs.Repeating.{often_none, often_once, often_parts}
use Rattle.form_expand.proofs.Rows.{first_same, gone_row, paired, row_apart}

pub same_row : (max : ℕ) (a : List Listing) → IsSameRow max a a
same_row max a more = refl

pub same_then : (max : ℕ) (a b c : List Listing) → IsSameRow max a b → IsSameRow max b c → IsSameRow max a c
same_then max a b c first second more = first more ∙ second more

-- further lists behind both
pub same_behind : (max : ℕ) (a b c : List Listing) → IsSameRow max a b → IsSameRow max (a ++ c) (b ++ c)
same_behind max a b c same more = ap (row max) (append_assoc a c more) ∙ same (c ++ more) ∙ sym (ap (row max) (append_assoc b c more))

-- where nothing stands behind
pub same_alone : (max : ℕ) (a b : List Listing) → IsSameRow max a b → row max a ≡ row max b
same_alone max a b same = ap (row max) (sym (append-nil a)) ∙ same [] ∙ ap (row max) (append-nil b)

-- a list within the limit, at the front
pub front_limited : (max : ℕ) (l : Listing) → IsSameRow max (limited max l ∷ []) (l ∷ [])
front_limited max l more = first_same max l more

-- ---- a list without terms

-- the end of what a list without terms leaves of others
abbrev end_past : List Monomial → Option Cause → Option Cause → Option Cause
end_past [] end last = end
end_past (m ∷ ms) end None = end_past ms end None
end_past (m ∷ ms) end (Some cause) = Some cause

gone_paired : (ms : List Monomial) (end last : Option Cause) → pairs_each ms end (record { terms = []; end = last }) ≡ record { terms = []; end = end_past ms end last }
unfolding pairs_each followed_at times_each
gone_paired [] end last = refl
gone_paired (m ∷ ms) end None = gone_paired ms end None
gone_paired (m ∷ ms) end (Some cause) = refl

gone_behind : (max : ℕ) (front : Listing) (last : Option Cause) (more : List Listing) → row_behind max front (record { terms = []; end = last } ∷ more) ≡ record { terms = []; end = end_past front.terms front.end last }
unfolding row_behind
gone_behind max front last more =
    let end = end_past front.terms front.end last in
    ap (λ (l : Listing). row_behind max (limited max l) more) (gone_paired front.terms front.end last)
    ∙ ap (λ (l : Listing). row_behind max l more) (limited_within max (record { terms = []; end = end }) (omega arith))
    ∙ gone_row max end more

gone_last : (max : ℕ) (ls : List Listing) (end : Option Cause) (more : List Listing) → row max (ls ++ record { terms = []; end = end } ∷ more) ≡ row max (ls ++ record { terms = []; end = end } ∷ [])
unfolding row row_behind
gone_last max [] end more =
    let gone = ap (λ (front : Listing). row_behind max front more) (limited_within max (record { terms = []; end = end }) (omega arith)) ∙ gone_row max end more in
    gone ∙ sym (limited_within max (record { terms = []; end = end }) (omega arith))
gone_last max (l ∷ ls) end more =
    let g : Listing = record { terms = []; end = end } in
    let front = row_behind max (limited max l) ls in
    row_apart max (limited max l) ls (g ∷ more) ∙ gone_behind max front end more ∙ sym (row_apart max (limited max l) ls (g ∷ []) ∙ gone_behind max front end [])

-- behind it nothing changes
pub ended_row : (max : ℕ) (ls : List Listing) (end : Option Cause) (l : Listing) → IsSameRow max ((ls ++ record { terms = []; end = end } ∷ []) ++ l ∷ []) (ls ++ record { terms = []; end = end } ∷ [])
ended_row max ls end l more =
    let g : Listing = record { terms = []; end = end } in
    ap (row max) (append_assoc (ls ++ g ∷ []) (l ∷ []) more ∙ append_assoc ls (g ∷ []) (l ∷ more))
    ∙ gone_last max ls end (l ∷ more)
    ∙ sym (ap (row max) (append_assoc ls (g ∷ []) more) ∙ gone_last max ls end more)

-- the last of these lists has no terms
pub ended_last : (max k : ℕ) (fronts : List Listing) (ls : List lists.List) (x : lists.List) (l : Listing) → suc k ≡ length ls → x ≡ get_or ls k x → (list_whole max x).terms ≡ []
    → IsSameRow max ((fronts ++ map (list_whole max) ls) ++ l ∷ []) (fronts ++ map (list_whole max) ls)
ended_last max k fronts [] x l last is none = absurd (omega (arith, last))
ended_last max zero fronts (y ∷ []) x l last is none =
    let gone : list_whole max y ≡ record { terms = []; end = (list_whole max y).end } = ap (λ ts. record { terms = ts; end = (list_whole max y).end }) (ap (λ (z : lists.List). (list_whole max z).terms) (sym is) ∙ none) in
    subst (λ (z : Listing). IsSameRow max ((fronts ++ z ∷ []) ++ l ∷ []) (fronts ++ z ∷ [])) (sym gone) (ended_row max fronts (list_whole max y).end l)
ended_last max zero fronts (y ∷ z ∷ ls) x l last is none = absurd (omega (arith, last))
ended_last max (suc k) fronts (y ∷ ls) x l last is none =
    subst (λ (all : List Listing). IsSameRow max (all ++ l ∷ []) all) (append_assoc fronts (list_whole max y ∷ []) (map (list_whole max) ls))
    (ended_last max k (fronts ++ list_whole max y ∷ []) ls x l (omega (arith, last)) is none)

-- a list within the limit, or a term that may be past it
pub term_limited : (max : ℕ) (ls : List Listing) (m : Monomial) → IsSameRow max (ls ++ limited max (single m) ∷ []) (ls ++ single m ∷ [])
unfolding row
term_limited max [] m more = first_same max (single m) more
term_limited (suc k) (l ∷ ls) m more = ap (λ (x : Listing). row (suc k) (((l ∷ ls) ++ x ∷ []) ++ more)) (limited_within (suc k) (single m) (omega arith))
term_limited zero (l ∷ ls) m more =
    let gone : limited 0 l ≡ record { terms = []; end = (limited 0 l).end } = ap (λ ts. record { terms = ts; end = (limited 0 l).end }) (nil_from_length (limited 0 l).terms (omega (arith, limited_length 0 l))) in
    ap (λ (front : Listing). row_behind 0 front ((ls ++ limited 0 (single m) ∷ []) ++ more)) gone ∙ gone_row 0 (limited 0 l).end ((ls ++ limited 0 (single m) ∷ []) ++ more)
    ∙ sym (ap (λ (front : Listing). row_behind 0 front ((ls ++ single m ∷ []) ++ more)) gone ∙ gone_row 0 (limited 0 l).end ((ls ++ single m ∷ []) ++ more))

-- a list that changes nothing, again and again
pub unchanged_often : (max : ℕ) (ls : List Listing) (l : Listing) (n : ℕ) → IsSameRow max (ls ++ l ∷ []) ls → IsSameRow max (ls ++ replicate n l) ls
unchanged_often max ls l zero h more = ap (row max) (append_assoc ls [] more)
unchanged_often max ls l (suc n) h more =
    ap (row max) (append_assoc ls (l ∷ replicate n l) more ∙ sym (append_assoc ls (l ∷ []) (replicate n l ++ more)))
    ∙ h (replicate n l ++ more)
    ∙ ap (row max) (sym (append_assoc ls (replicate n l) more))
    ∙ unchanged_often max ls l n h more

-- ---- copies of a list

-- some, and then others
copies_apart : (l : Listing) (j k : ℕ) → replicate j l ++ replicate k l ≡ replicate (j + k) l
copies_apart l zero k = let e : 0 + k ≡ k = omega arith in rw e refl
copies_apart l (suc j) k =
    let e : suc j + k ≡ suc (j + k) = omega arith in
    rw e (ap (λ ls. l ∷ ls) (copies_apart l j k))

module _ (max : ℕ) (old now : List Listing) (l : Listing) (made : ℕ) (so_far : IsSameRow max (old ++ replicate made l) now) where
  pub copies_more : (new : List Listing) → IsSameRow max (now ++ l ∷ []) new → IsSameRow max (old ++ replicate (made + 1) l) new
  copies_more new put more =
      ap (λ ls. row max ((old ++ ls) ++ more)) (sym (replicate_more made l))
      ∙ ap (λ ls. row max (ls ++ more)) (sym (append_assoc old (replicate made l) (l ∷ [])))
      ∙ same_behind max (old ++ replicate made l) now (l ∷ []) so_far more
      ∙ put more

  -- the others change nothing
  pub copies_ended : (all : ℕ) → made ≤ all → IsSameRow max (now ++ l ∷ []) now → IsSameRow max (old ++ replicate all l) now
  copies_ended all within ended more =
      let rest = all - made in
      let e : made + rest ≡ all = omega (arith, within) in
      ap (λ ls. row max ((old ++ ls) ++ more)) (ap (λ n. replicate n l) (sym e) ∙ sym (copies_apart l made rest))
      ∙ ap (λ ls. row max (ls ++ more)) (sym (append_assoc old (replicate made l) (replicate rest l)))
      ∙ same_behind max (old ++ replicate made l) now (replicate rest l) so_far more
      ∙ unchanged_often max now l rest ended more

-- lists without terms, so many times, change no more than one
pub gone_often : (max : ℕ) (old new : List Listing) (end : Option Cause) (n k : ℕ) → k ≡ min n 1 → IsSameRow max (old ++ replicate k (record { terms = []; end = end })) new
    → IsSameRow max (old ++ replicate n (record { terms = []; end = end })) new
gone_often max old new end zero k fewer h more =
    let none : 0 ≡ k = omega (arith, fewer) in
    ap (λ j. row max ((old ++ replicate j (record { terms = []; end = end })) ++ more)) none ∙ h more
gone_often max old new end (suc n) k fewer h more =
    let one : 1 ≡ k = omega (arith, fewer) in
    let g : Listing = record { terms = []; end = end } in
    ap (λ ls. row max (ls ++ more)) (sym (append_assoc old (g ∷ []) (replicate n g)))
    ∙ unchanged_often max (old ++ g ∷ []) g n (ended_row max old end g) more
    ∙ ap (λ j. row max ((old ++ replicate j g) ++ more)) one
    ∙ h more

-- ---- a term, and lists of one term

-- what goes on behind a product; behind one that is 0 or refused nothing changes
then_row : (max : ℕ) (ks more : List Listing) (next : Monomial → Result (Option Monomial) Cause) (r : Result (Option Monomial) Cause)
    → ((m : Monomial) → row max (single m ∷ ks ++ more) ≡ row max (of_product (next m) ∷ more)) → row max (of_product r ∷ ks ++ more) ≡ row max (of_product (then_by r next) ∷ more)
unfolding row
then_row max ks more next (Ok (Some m)) h = h m
then_row max ks more next (Ok None) h =
    ap (λ (front : Listing). row_behind max front (ks ++ more)) (limited_nothing max) ∙ gone_row max None (ks ++ more)
    ∙ sym (ap (λ (front : Listing). row_behind max front more) (limited_nothing max) ∙ gone_row max None more)
then_row max ks more next (Err cause) h =
    ap (λ (front : Listing). row_behind max front (ks ++ more)) (limited_refusal max cause) ∙ gone_row max (Some cause) (ks ++ more)
    ∙ sym (ap (λ (front : Listing). row_behind max front more) (limited_refusal max cause) ∙ gone_row max (Some cause) more)

module _ (max : ℕ) (some : 1 ≤ max) (t : Monomial) where
  pub product_front : (m : Monomial) → IsSameRow max (single m ∷ single t ∷ []) (of_product (product_of m t) ∷ [])
  unfolding row row_behind
  product_front m more =
      ap (λ (front : Listing). row_behind max (limited max (pairs front (single t))) more) (limited_within max (single m) some)
      ∙ ap (λ (l : Listing). row_behind max (limited max l) more) (paired m t)

  pub often_front : (n : ℕ) (m : Monomial) → IsSameRow max (single m ∷ replicate n (single t)) (of_product (often m t n) ∷ [])
  often_front zero m more = ap (λ (r : Result (Option Monomial) Cause). row max (of_product r ∷ more)) (sym (often_none m t))
  often_front (suc n) m more =
      let e : suc n ≡ 1 + n = omega arith in
      product_front m (replicate n (single t) ++ more)
      ∙ then_row max (replicate n (single t)) more (λ x. often x t n) (product_of m t) (λ x. often_front n x more)
      ∙ ap (λ (r : Result (Option Monomial) Cause). row max (of_product r ∷ more)) (sym (often_parts m t 1 n (suc n) e ∙ ap (λ r. then_by r (λ x. often x t n)) (often_once m t)))

  -- each of them within the limit
  pub often_limited : (n : ℕ) (m : Monomial) → IsSameRow max (single m ∷ replicate n (limited max (single t))) (of_product (often m t n) ∷ [])
  often_limited n m more = ap (λ (l : Listing). row max ((single m ∷ replicate n l) ++ more)) (limited_within max (single t) some) ∙ often_front n m more

-- ---- what was made in their place

module _ (max : ℕ) where
  pub made_row : (made : Result (Option Monomial) ExpandError) (r : Result (Option Monomial) Cause) (ls new : List Listing) → IsMade made r → IsSameRow max ls (of_product r ∷ []) → AreMade max made new → IsSameRow max ls new
  made_row (Ok (Some m)) r ls new is same are more = same more ∙ ap (λ (x : Result (Option Monomial) Cause). row max (of_product x ∷ more)) is ∙ are more
  made_row (Ok None) r ls new is same are more = same more ∙ ap (λ (x : Result (Option Monomial) Cause). row max (of_product x ∷ more)) is ∙ are more
  made_row (Err (Refused cause)) r ls new is same are more = same more ∙ ap (λ (x : Result (Option Monomial) Cause). row max (of_product x ∷ more)) is ∙ are more
  made_row (Err Memory) r ls new is same are more = absurd are

  -- where nothing is before it
  pub settled_term : (made : Result (Option Monomial) ExpandError) (m : Monomial) (fronts lists : List Listing) → made ≡ Ok (Some m) → fronts ++ lists ≡ [] → AreMade max made (single m ∷ lists)
  settled_term made m fronts [] is none = rw is (same_row max (single m ∷ []))
  settled_term made m [] (l ∷ lists) is none = let long : suc (length lists) ≡ 0 = ap length none in absurd (omega (arith, long))
  settled_term made m (k ∷ fronts) (l ∷ lists) is none = let long : suc (length (fronts ++ l ∷ lists)) ≡ 0 = ap length none in absurd (omega (arith, long))

  settled : (l whole : Listing) (old new : List Listing) → whole ≡ l → old ≡ [] → IsSameRow max (old ++ limited max whole ∷ []) new → IsSameRow max (l ∷ []) new
  settled l whole old new is none put more =
      sym (front_limited max l more)
      ∙ ap (λ (x : Listing). row max (limited max x ∷ more)) (sym is)
      ∙ ap (λ (ls : List Listing). row max ((ls ++ limited max whole ∷ []) ++ more)) (sym none)
      ∙ put more

  pub settled_none : (made : Result (Option Monomial) ExpandError) (whole : Listing) (old new : List Listing) → made ≡ Ok None → whole ≡ nothing → old ≡ [] → IsSameRow max (old ++ limited max whole ∷ []) new → AreMade max made new
  settled_none made whole old new e is none put = rw e (settled nothing whole old new is none put)

  pub settled_refused : (made : Result (Option Monomial) ExpandError) (cause : Cause) (whole : Listing) (old new : List Listing) → made ≡ Err (Refused cause) → whole ≡ refusal cause → old ≡ []
      → IsSameRow max (old ++ limited max whole ∷ []) new → AreMade max made new
  settled_refused made cause whole old new e is none put = rw e (settled (refusal cause) whole old new is none put)

  -- a front and a list of one term behind it
  pub alone_row : (front : Option Monomial) (ms : List Monomial) (end : Option Cause) (made : Result (Option Monomial) ExpandError) (new : List Listing) → 1 ≤ max → length ms ≡ 1 → end ≡ None
      → ((t : Monomial) → record { terms = ms; end = end } ≡ single t → IsMade made (product_by front t)) → AreMade max made new
      → IsSameRow max (map single (option_to_list front) ++ limited max (record { terms = ms; end = end }) ∷ []) new
  alone_row front [] end made new some one done is are = absurd (omega (arith, one))
  alone_row None (t ∷ []) end made new some one done is are =
      let whole : record { terms = t ∷ []; end = end } ≡ single t = ap (λ (e : Option Cause). record { terms = t ∷ []; end = e }) done in
      made_row made (Ok (Some t)) (limited max (record { terms = t ∷ []; end = end }) ∷ []) new (is t whole)
      (λ more. front_limited max (record { terms = t ∷ []; end = end }) more ∙ ap (λ (l : Listing). row max (l ∷ more)) whole) are
  alone_row (Some m) (t ∷ []) end made new some one done is are =
      let whole : record { terms = t ∷ []; end = end } ≡ single t = ap (λ (e : Option Cause). record { terms = t ∷ []; end = e }) done in
      made_row made (product_of m t) (single m ∷ limited max (record { terms = t ∷ []; end = end }) ∷ []) new (is t whole)
      (λ more. ap (λ (l : Listing). row max (single m ∷ limited max l ∷ more)) whole ∙ ap (λ (l : Listing). row max (single m ∷ l ∷ more)) (limited_within max (single t) some) ∙ product_front max some t m more) are
  alone_row front (t ∷ u ∷ ms) end made new some one done is are = absurd (omega (arith, one))

-- a power at the front is its factors
pub front_powers : (max : ℕ) (l : Listing) (k : ℕ) (more : List Listing) → row_behind max (powers max l (suc k)) more ≡ row max (replicate (suc k) l ++ more)
unfolding row powers row_behind
front_powers max l k more = spread k more
  where
    -- further factors behind the first
    spread : (k : ℕ) (more : List Listing) → row_behind max (powers max l (suc k)) more ≡ row_behind max (limited max l) (replicate k l ++ more)
    spread zero more = refl
    spread (suc k) more = spread k (l ∷ more) ∙ ap (row_behind max (limited max l)) (last_first k more)
      where
        last_first : (k : ℕ) (more : List Listing) → replicate k l ++ l ∷ more ≡ l ∷ replicate k l ++ more
        last_first zero more = refl
        last_first (suc k) more = ap (λ xs. l ∷ xs) (last_first k more)
