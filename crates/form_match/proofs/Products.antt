-- An argument that is a product: what that leads to, and where the search stands once its factors begin.
use Rattle.std.proofs.Common.{◌≡◌, ◌≢◌, ℕ, zero, suc, ◌+◌, ◌-◌, ◌^◌, ◌<◌, ◌≤◌, ◌==◌, Bool, true, false, if◌then◌else◌, List, [], ◌∷◌, ◌++◌, length, map, take, drop, get_or, Option, Some, None, refl, sym, ap, subst, ◌∙◌, append-nil, arith, length-append}
use Rattle.std.specs.Prelude.{flat_map, slice_get}
use Rattle.std.proofs.lemmas.Bool.{eqb-false, ne_eqb}
use Rattle.std.proofs.Math.Seq.{drop-append_seam, take-append_seam}
use Rattle.form_term.specs.declared.piece.Piece.{Piece}
use Rattle.form_term.specs.declared.monomial.Monomial.{Monomial}
use Rattle.form_term.specs.Monomial.{as_monomial}
use Rattle.form_term.specs.Term as terms
use Rattle.form_term.specs.Term.{AreArguments}
use Rattle.form_term.specs.Arguments.{arguments_of, first_summands}
use Rattle.form_tree.specs.declared.pattern.PatternPiece.{PatternPiece}
use Rattle.form_tree.specs.declared.pattern.PatternPiece.TheVariants as pieces
use Rattle.form_bindings.specs.Values.{Binding}
use Rattle.form_match.specs.declared.matching.Match.{Match}
use Rattle.form_match.specs.declared.places.Frame.{Frame}
use Rattle.form_match.specs.declared.places.Frame.TheVariants as frames
use Rattle.form_match.specs.declared.places.Inner.{Inner}
use Rattle.form_match.specs.declared.places.Span.{Span}
use Rattle.form_match.specs.declared.trail.Standing.{Standing}
use Rattle.form_match.specs.declared.trail.Taken.{Taken}
use Rattle.form_match.specs.declared.trail.Trail.{Trail}
use Rattle.form_match.specs.Leading.{next_standing}
use Rattle.form_match.specs.Matching.{Host, inner, is_coefficient_one}
use Rattle.form_match.specs.Parts.{HasFirst}
use Rattle.form_match.specs.Places.{AreOpen, AreTaken, Ground, IsAround, IsLawfulFrame, IsOpenOf, Stands, begins_around, behind_of, frame_around, host_at, host_of, host_of_frame, inner_at, latest_around, pieces_at, pieces_of, uses_at}
use Rattle.form_match.specs.Running.{IsCandidateOf, IsFound, IsRunning, ahead}
use Rattle.form_match.specs.States.{Open, arguments, calls, factors, State, state, reach, with_product}
use Rattle.form_match.proofs.Cutting.{no_arguments}
use Rattle.form_match.proofs.Onward.{found_there, pieces_less, shown_arguments}
use Rattle.form_match.proofs.Running.{as_it_is, behind_piece, found_at, found_longer, found_same}
use Rattle.form_match.proofs.Standing.{Shown, around_map, earlier}

-- ---- a term more

get_before : {A : Type 0} (xs ys : List A) (k : ℕ) → k < length xs → slice_get (xs ++ ys) k ≡ slice_get xs k
get_before [] ys k less = absurd (omega (arith, less))
get_before (x ∷ xs) ys zero less = refl
get_before (x ∷ xs) ys (suc k) less = get_before xs ys k (omega (arith, less))

get_last : {A : Type 0} (xs : List A) (x : A) → slice_get (xs ++ x ∷ []) (length xs) ≡ Some x
get_last [] x = refl
get_last (y ∷ xs) x = get_last xs x

module _ (g h : Ground) (i : Inner) (more : h ≡ record { outer = g.outer; inners = g.inners ++ i ∷ [] }) where
  longer : length h.inners ≡ length g.inners + 1
  longer = ap (λ (x : Ground). length x.inners) more ∙ length-append g.inners (i ∷ [])

  inner_before : (n : ℕ) → n ≤ length g.inners → inner_at h n ≡ inner_at g n
  inner_before n within = ap (λ (x : Ground). inner_at x n) more ∙ by (n == 0) refl
    where
      by : (b : Bool) → (n == 0) ≡ b → (if b then None else slice_get (g.inners ++ i ∷ []) (n - 1)) ≡ (if b then None else slice_get g.inners (n - 1))
      by true e = refl
      by false e = let some = eqb-false n 0 e in get_before g.inners (i ∷ []) (n - 1) (omega (arith, some, within))

  inner_last : (n : ℕ) → n ≡ length g.inners + 1 → inner_at h n ≡ Some i
  inner_last n is =
      let there : n - 1 ≡ length g.inners = omega (arith, is) in
      ap (λ (x : Ground). inner_at x n) more
      ∙ ap (λ (b : Bool). if b then None else slice_get (g.inners ++ i ∷ []) (n - 1)) (ne_eqb n 0 (λ e. omega (arith, e, is)))
      ∙ ap (slice_get (g.inners ++ i ∷ [])) there ∙ get_last g.inners i

  host_before : (n : ℕ) → n ≤ length g.inners → host_at h n ≡ host_at g n
  host_before n within = ap (λ (x : Ground). host_of x.outer (inner_at h n)) more ∙ ap (host_of g.outer) (inner_before n within)

  pieces_before : (span : Span) → span.host ≤ length g.inners → pieces_at h span ≡ pieces_at g span
  pieces_before span within =
      ap (λ (x : Host). drop span.from (pieces_of (slice_get (if span.in_word then x.term.others.word else x.term.others.functions) span.place))) (host_before span.host within)

  open_before : (ts : List Taken) (b : Bool) (f : Frame) (o : Open) → host_of_frame f ≤ length g.inners → IsOpenOf g ts b f o → IsOpenOf h ts b f o
  open_before ts true (frames.Factors n) o within is = is ∙ ap (λ (x : Host). factors x (uses_at ts n)) (sym (host_before n within))
  open_before ts true (frames.Arguments span) o within is = (is.0, is.1 ∙ ap (λ (qs : List Piece). arguments (is.0 ∷ arguments_of qs)) (sym (pieces_before span within)))
  open_before ts true (frames.Calls n from) o within is = is ∙ ap (λ (x : Host). calls (drop from x.term.others.word)) (sym (host_before n within))
  open_before ts false (frames.Factors n) o within is = is ∙ ap (λ (x : Host). factors x (uses_at ts n)) (sym (host_before n within))
  open_before ts false (frames.Arguments span) o within is = is ∙ ap (λ (qs : List Piece). arguments (arguments_of qs)) (sym (pieces_before span within))
  open_before ts false (frames.Calls n from) o within is = is ∙ ap (λ (x : Host). calls (drop from x.term.others.word)) (sym (host_before n within))

  lawful_before : (f : Frame) → host_of_frame f ≤ length g.inners → IsLawfulFrame g f → IsLawfulFrame h f
  lawful_before (frames.Factors n) within lawful = tt
  lawful_before (frames.Arguments span) within lawful = (subst AreArguments (sym (pieces_before span within)) lawful.0, lawful.1)
  lawful_before (frames.Calls n from) within lawful = tt

  around_before : (f : Frame) → host_of_frame f ≤ length g.inners → frame_around h f ≡ frame_around g f
  around_before (frames.Factors n) within = ap (λ (x : Option Inner). frames.Arguments (behind_of x)) (inner_before n within)
  around_before (frames.Arguments span) within = refl
  around_before (frames.Calls n from) within = refl

  -- what was open before still is
  still_open : (ts : List Taken) (latest : ℕ) (b : Bool) (f : Frame) (os : List Open) → latest ≤ length g.inners → AreOpen g ts latest b f os → AreOpen h ts latest b f os
  still_open ts latest b f [] within holds = absurd holds
  still_open ts latest b f (o ∷ os) within holds =
      let inside : host_of_frame f ≤ length g.inners = omega (arith, within, holds.2) in
      let before = earlier f latest holds.2 in (
        open_before ts b f o inside holds.0,
        lawful_before f inside holds.1,
        holds.2,
        around_map f os (AreOpen g ts (latest_around f) (begins_around f) (frame_around g f) os) (AreOpen h ts (latest_around f) (begins_around f) (frame_around h f) os)
            (λ around. subst (λ (e : Frame). AreOpen h ts (latest_around f) (begins_around f) e os) (sym (around_before f inside))
            (still_open ts (latest_around f) (begins_around f) (frame_around g f) os (omega (arith, before, within)) around)) holds.3,
      )

  claimed : (n : ℕ) (os : List Open) (P : Type 0) → n ≢ 0 → P → IsAround (frames.Factors n) os P
  claimed zero os P some holds = absurd (some refl)
  claimed (suc n) os P some holds = holds

  -- ---- the factors of that term begin

  module _ (ts : List Taken) (span : Span) (os : List Open) (holds : Shown g ts (length g.inners) (frames.Arguments span) os) (taken : AreTaken g ts) (front behind : List Piece)
      (first : HasFirst (pieces_at g span) front behind) (others : i.behind ≡ record span { from = span.from + length front }) where
    left_there : pieces_at h i.behind ≡ behind
    left_there =
        let inside : i.behind.host ≤ length g.inners = subst (λ (x : Span). x.host ≤ length g.inners) (sym others) holds.host in
        pieces_before i.behind inside ∙ ap (pieces_at g) others ∙ pieces_less g span (length front) ∙ ap (drop (length front)) first.parts ∙ drop-append_seam front behind

    begun : AreOpen h ts (length g.inners) true (frames.Arguments i.behind) (arguments (arguments_of (pieces_at g span)) ∷ holds.rest)
    begun = (
      (first.first, ap arguments (first.read ∙ ap (λ (xs : List terms.Argument). first.first ∷ xs) (sym (ap arguments_of left_there ∙ first.behind_is)))),
      (subst AreArguments (sym left_there) first.behind_lawful, subst (λ (x : Span). x.place + 1 < 2 ^ 64) (sym others) holds.lawful.1),
      subst (λ (x : Span). x.host ≤ length g.inners) (sym others) holds.host,
      subst (λ (x : Span). AreOpen h ts x.host false (frame_around h (frames.Arguments x)) holds.rest) (sym others) (still_open ts span.host false (frame_around g (frames.Arguments span)) holds.rest holds.host holds.around),
    )

    pub product_stands : (n : ℕ) → n ≡ length g.inners + 1 → Stands h ts (frames.Factors n) (factors (inner i.term) [] ∷ os)
    product_stands n is = (
      (
        ap (λ (x : Option Inner). factors (host_of h.outer x) []) (sym (inner_last n is)) ∙ ap (factors (host_at h n)) (sym ((taken n).1 (omega (arith, is)))),
        tt,
        omega (arith, is, longer),
        claimed n os (AreOpen h ts (n - 1) true (frames.Arguments (behind_of (inner_at h n))) os) (λ e. omega (arith, e, is)) around,
      ),
      λ k. ((taken k).0, λ later. (taken k).1 (omega (arith, later, longer))),
    )
      where
        around : AreOpen h ts (n - 1) true (frames.Arguments (behind_of (inner_at h n))) os
        around =
            let before : length g.inners ≡ n - 1 = omega (arith, is) in
            subst (λ (x : Option Inner). AreOpen h ts (n - 1) true (frames.Arguments (behind_of x)) os) (sym (inner_last n is))
            (subst (λ (k : ℕ). AreOpen h ts k true (frames.Arguments i.behind) os) before (subst (AreOpen h ts (length g.inners) true (frames.Arguments i.behind)) (sym holds.is) begun))

-- ---- what it leads to

module _ (ms : List Monomial) (args : List terms.Argument) (os : List Open) (bs : List Binding) (read : ms ≡ map as_monomial (first_summands args)) where
  -- an expression of another number of terms is no product
  pub no_product : length ms ≢ 1 → with_product args os bs ≡ []
  no_product other = by args (ap length read)
    where
      by : (xs : List terms.Argument) → length ms ≡ length (map as_monomial (first_summands xs)) → with_product xs os bs ≡ []
      by [] e = refl
      by (terms.index i ∷ xs) e = refl
      by (terms.vector v ∷ xs) e = refl
      by (terms.expression [] ∷ xs) e = refl
      by (terms.expression (s ∷ []) ∷ xs) e = absurd (other e)
      by (terms.expression (s ∷ r ∷ ss) ∷ xs) e = refl

  pub one_product : (m : Monomial) (b : Bool) → ms ≡ m ∷ [] → is_coefficient_one m.coefficient ≡ b → with_product args os bs ≡ (if b then state (factors (inner m.term) [] ∷ arguments args ∷ os) bs ∷ [] else [])
  one_product m b one is = by args (sym one ∙ read) ∙ ap (λ (t : Bool). if t then state (factors (inner m.term) [] ∷ arguments args ∷ os) bs ∷ [] else []) is
    where
      by : (xs : List terms.Argument) → m ∷ [] ≡ map as_monomial (first_summands xs)
          → with_product xs os bs ≡ (if is_coefficient_one m.coefficient then state (factors (inner m.term) [] ∷ arguments xs ∷ os) bs ∷ [] else [])
      by [] e = cc
      by (terms.index i ∷ xs) e = cc
      by (terms.vector v ∷ xs) e = cc
      by (terms.expression [] ∷ xs) e = cc
      by (terms.expression (s ∷ []) ∷ xs) e =
          let same : as_monomial s ≡ m = ap (λ (l : List Monomial). get_or l 0 m) (sym e) in
          ap (λ (x : Monomial). if is_coefficient_one x.coefficient then state (factors (inner x.term) [] ∷ arguments (terms.expression (s ∷ []) ∷ xs) ∷ os) bs ∷ [] else []) same
      by (terms.expression (s ∷ r ∷ ss) ∷ xs) e = cc

module _ (table : List (Option (List Piece))) (ps : List PatternPiece) (found : Option Match) (g : Ground) (at : Standing) (span : Span) (behind : List PatternPiece) (old : Trail)
    (framed : at.frame ≡ frames.Arguments span) (r : IsRunning table ps found g old.takes.items old.bindings old.choices.items at) (here : drop at.piece ps ≡ pieces.Product ∷ behind) where
  abbrev holds : Shown g old.takes.items (length g.inners) (frames.Arguments span) r.opens
  holds = shown_arguments table ps found g at span pieces.Product behind old framed r here

  abbrev given : List terms.Argument
  given = arguments_of (pieces_at g span)

  begins : (states : List State) → with_product given holds.rest old.bindings ≡ states → IsFound table ps found g old.takes.items old.bindings old.choices.items (flat_map (reach table behind) states)
  begins states is =
      let first : at.candidate ≡ 0 = subst (λ (l : List PatternPiece). IsCandidateOf l r.opens at.candidate) here r.candidate in
      found_same table ps found g old.takes.items old.bindings old.choices.items (flat_map (reach table behind) (with_product given holds.rest old.bindings)) (flat_map (reach table behind) states)
      (ap (flat_map (reach table behind)) is)
      (subst (λ (c : ℕ). IsFound table ps found g old.takes.items old.bindings old.choices.items (ahead table (pieces.Product ∷ behind) (arguments given ∷ holds.rest) old.bindings c)) first
      (found_there table ps found g at span pieces.Product behind old framed r here))

  -- no product begins
  pub no_arguments_on : pieces_at g span ≡ [] → IsFound table ps found g old.takes.items old.bindings old.choices.items []
  no_arguments_on empty = begins [] (ap (λ (xs : List terms.Argument). with_product xs holds.rest old.bindings) (ap arguments_of empty ∙ no_arguments))

  module _ (ms : List Monomial) (read : ms ≡ map as_monomial (first_summands given)) where
    pub others_on : length ms ≢ 1 → IsFound table ps found g old.takes.items old.bindings old.choices.items []
    others_on other = begins [] (no_product ms given holds.rest old.bindings read other)

    module _ (m : Monomial) (one : ms ≡ m ∷ []) where
      pub coefficient_on : is_coefficient_one m.coefficient ≡ false → IsFound table ps found g old.takes.items old.bindings old.choices.items []
      coefficient_on is = begins [] (one_product ms given holds.rest old.bindings read m false one is)

      pub product_on : (h : Ground) (front others : List Piece) (next : Span) (n : ℕ) → is_coefficient_one m.coefficient ≡ true → HasFirst (pieces_at g span) front others
          → next ≡ record span { from = span.from + length front } → h ≡ record { outer = g.outer; inners = g.inners ++ record { term = m.term; behind = next } ∷ [] } → n ≡ length g.inners + 1
          → IsRunning table ps found h old.takes.items old.bindings old.choices.items (next_standing at 1 (frames.Factors n))
      product_on h front others next n is first where_next more count =
          let i : Inner = record { term = m.term; behind = next } in
          let os = factors (inner m.term) [] ∷ r.opens in
          let same : state (factors (inner m.term) [] ∷ arguments given ∷ holds.rest) old.bindings ≡ state os old.bindings = ap (λ (l : List Open). state (factors (inner m.term) [] ∷ l) old.bindings) (sym holds.is) in
          let kept : take (length g.inners) h.inners ≡ g.inners = ap (λ (x : Ground). take (length g.inners) x.inners) more ∙ take-append_seam g.inners (i ∷ []) in
          found_at table ps found h old.takes.items old.bindings old.choices.items (at.piece + 1) (frames.Factors n) os
          (product_stands g h i more old.takes.items span r.opens holds r.stands.1 front others first where_next n count)
          (found_longer table ps found g h old.takes.items old.takes.items old.bindings old.bindings old.choices.items (reach table (drop (at.piece + 1) ps) (state os old.bindings)) (ap (λ (x : Ground). x.outer) more) kept
          (as_it_is old.takes.items) (as_it_is old.bindings)
          (found_same table ps found g old.takes.items old.bindings old.choices.items (flat_map (reach table behind) (state (factors (inner m.term) [] ∷ arguments given ∷ holds.rest) old.bindings ∷ []))
          (reach table (drop (at.piece + 1) ps) (state os old.bindings))
          (append-nil (reach table behind (state (factors (inner m.term) [] ∷ arguments given ∷ holds.rest) old.bindings)) ∙ ap (reach table behind) same
          ∙ ap (λ (l : List PatternPiece). reach table l (state os old.bindings)) (sym (behind_piece at.piece ps behind pieces.Product here)))
          (begins (state (factors (inner m.term) [] ∷ arguments given ∷ holds.rest) old.bindings ∷ []) (one_product ms given holds.rest old.bindings read m true one is))))
