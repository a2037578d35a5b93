-- Where a word is open: what the search finds once a function of it begins, and once it ends.
use Rattle.std.proofs.Common.{◌≡◌, ℕ, zero, suc, ◌+◌, ◌-◌, ◌^◌, ◌<◌, ◌≤◌, true, false, if◌then◌else◌, List, [], ◌∷◌, length, take, drop, get_or, Option, Some, None, option_map, option_to_list, refl, sym, ap, subst, ◌∙◌, append-nil, arith}
use Rattle.std.specs.Prelude.{flat_map, slice_get}
use Rattle.std.specs.Option.{unwrap_or}
use Rattle.std.proofs.lemmas.List.{length-drop}
use Rattle.form_term.specs.declared.piece.Piece.{Piece}
use Rattle.form_term.specs.Term.{AreArguments, Call, is_nil}
use Rattle.form_term.specs.Arguments.{arguments_of}
use Rattle.form_tree.specs.declared.pattern.Name.{Name}
use Rattle.form_tree.specs.declared.pattern.PatternPiece.{PatternPiece}
use Rattle.form_tree.specs.declared.pattern.PatternPiece.TheVariants as pieces
use Rattle.form_bindings.specs.Learning.{Tells}
use Rattle.form_bindings.specs.Values.{Binding}
use Rattle.form_match.specs.declared.matching.Match.{Match}
use Rattle.form_match.specs.declared.places.Frame.{Frame}
use Rattle.form_match.specs.declared.places.Frame.TheVariants as frames
use Rattle.form_match.specs.declared.places.Span.{Span}
use Rattle.form_match.specs.declared.trail.Standing.{Standing}
use Rattle.form_match.specs.declared.trail.Trail.{Trail}
use Rattle.form_match.specs.Candidates.{from, only_first}
use Rattle.form_match.specs.Leading.{next_standing, word_end}
use Rattle.form_match.specs.Learning.{learnt_of}
use Rattle.form_match.specs.Matching.{asked_function}
use Rattle.form_match.specs.Places.{AreOpen, Ground, Stands, host_at, pieces_at, pieces_of}
use Rattle.form_match.specs.Running.{GoesOn, IsCandidateOf, IsFound, IsRunning, ways_from, ways_left, ways_then}
use Rattle.form_match.specs.States.{Open, arguments, calls, State, state, moves, reach, with_call}
use Rattle.form_match.proofs.Ending.{further_on, some_from}
use Rattle.form_match.proofs.Factoring.{asking_is}
use Rattle.form_match.proofs.Onward.{IsOnWay, end_on, fewer_ways, piece_within, there, way_on, within}
use Rattle.form_match.proofs.Running.{GoesOnAs, as_it_is, behind_piece, found_at, found_here, found_longer, found_same}
use Rattle.form_match.proofs.Standing.{Shown, shown}

-- ---- a word from a place on

got_first : {A : Type 0} (xs : List A) (c : ℕ) (x : A) → slice_get xs c ≡ Some x → drop c xs ≡ x ∷ drop (suc c) xs
got_first [] c x is = cc
got_first (y ∷ ys) zero x is = ap (λ (o : Option _). unwrap_or o y ∷ ys) is
got_first (y ∷ ys) (suc c) x is = got_first ys c x is

not_got : {A : Type 0} (xs : List A) (c : ℕ) → slice_get xs c ≡ None → drop c xs ≡ []
not_got [] zero is = refl
not_got [] (suc c) is = refl
not_got (y ∷ ys) zero is = cc
not_got (y ∷ ys) (suc c) is = not_got ys c is

-- what is looked up
pub there_is : {A : Type 0} (xs : List A) (c : ℕ) (x : A) → c < length xs → x ≡ get_or xs c x → slice_get xs c ≡ Some x
there_is [] c x within is = absurd (omega (arith, within))
there_is (y ∷ ys) zero x within is = ap Some (sym is)
there_is (y ∷ ys) (suc c) x within is = there_is ys c x (omega (arith, within)) is

pub there_is_none : {A : Type 0} (xs : List A) (c : ℕ) → length xs ≤ c → slice_get xs c ≡ None
there_is_none [] c past = refl
there_is_none (y ∷ ys) zero past = absurd (omega (arith, past))
there_is_none (y ∷ ys) (suc c) past = there_is_none ys c (omega (arith, past))

-- a piece that nothing of a word can be
word_other : (table : List (Option (List Piece))) (p : PatternPiece) (cs : List Call) (os : List Open) (bs : List Binding) (c : ℕ) → ((n : Name) → p ≡ pieces.Call n → ⊥) → (p ≡ pieces.EndOfWord → ⊥)
    → from table p (calls cs ∷ os) bs c ≡ []
word_other table (pieces.Call n) cs os bs c no_call no_end = absurd (no_call n refl)
word_other table pieces.EndOfWord cs os bs c no_call no_end = absurd (no_end refl)
word_other table p cs os bs c no_call no_end = nothing c
  where
    nothing : (k : ℕ) → only_first {A = State} k [] ≡ []
    nothing zero = refl
    nothing (suc k) = refl

module _ (table : List (Option (List Piece))) (ps : List PatternPiece) (found : Option Match) (g : Ground) (at : Standing) (host place : ℕ) (p : PatternPiece) (behind : List PatternPiece) (old : Trail)
    (framed : at.frame ≡ frames.Calls host place) (r : IsRunning table ps found g old.takes.items old.bindings old.choices.items at) (here : drop at.piece ps ≡ p ∷ behind) where
  abbrev word : List Call
  word = (host_at g host).term.others.word

  holds : Shown g old.takes.items (length g.inners) (frames.Calls host place) r.opens
  holds = shown g old.takes.items (length g.inners) (frames.Calls host place) r.opens (subst (λ (f : Frame). AreOpen g old.takes.items (length g.inners) false f r.opens) framed r.stands.0)

  leads : (states : List State) → from table p (calls (drop place word) ∷ holds.rest) old.bindings at.candidate ≡ states
      → IsFound table ps found g old.takes.items old.bindings old.choices.items (flat_map (reach table behind) states)
  leads states is =
      found_same table ps found g old.takes.items old.bindings old.choices.items (flat_map (reach table behind) (from table p r.opens old.bindings at.candidate)) (flat_map (reach table behind) states)
      (ap (λ (os : List Open). flat_map (reach table behind) (from table p os old.bindings at.candidate)) holds.is ∙ ap (flat_map (reach table behind)) is)
      (found_here table ps found g old.takes.items old.bindings old.choices.items at p behind r here)

  -- ---- it ends

  pub word_ends : ((n : Name) → p ≡ pieces.Call n → ⊥) → GoesOn (word_end at host p) table ps found g old.takes.items old.bindings old.choices.items
  word_ends no_call = by p refl
    where
      none : (q : PatternPiece) → p ≡ q → (q ≡ pieces.EndOfWord → ⊥) → IsFound table ps found g old.takes.items old.bindings old.choices.items []
      none q is no_end = leads [] (word_other table p (drop place word) holds.rest old.bindings at.candidate no_call (λ e. no_end (sym is ∙ e)))

      -- the factors around it
      outside : (os : List Open) → holds.rest ≡ os → AreOpen g old.takes.items host false (frames.Factors host) os → p ≡ pieces.EndOfWord
          → IsRunning table ps found g old.takes.items old.bindings old.choices.items (next_standing at 1 (frames.Factors host))
      outside [] same open_there is = absurd open_there
      outside (o ∷ os) same open_there is =
          let first : at.candidate ≡ 0 = subst (λ (l : List PatternPiece). IsCandidateOf l r.opens at.candidate) (here ∙ ap (λ (q : PatternPiece). q ∷ behind) is) r.candidate in
          let leads_there : from table p (calls (drop place word) ∷ holds.rest) old.bindings at.candidate ≡ state (o ∷ os) old.bindings ∷ [] =
          ap (λ (q : PatternPiece). from table q (calls (drop place word) ∷ holds.rest) old.bindings at.candidate) is
          ∙ ap (from table pieces.EndOfWord (calls (drop place word) ∷ holds.rest) old.bindings) first
          ∙ ap (λ (l : List Open). moves table pieces.EndOfWord (calls (drop place word) ∷ l) old.bindings) same
          ∙ ap (λ (x : Open). moves table pieces.EndOfWord (calls (drop place word) ∷ x ∷ os) old.bindings) open_there.0
          ∙ ap (λ (x : Open). state (x ∷ os) old.bindings ∷ []) (sym open_there.0) in
          found_at table ps found g old.takes.items old.bindings old.choices.items (at.piece + 1) (frames.Factors host) (o ∷ os) ((open_there.0, open_there.1, holds.host, open_there.3), r.stands.1)
          (found_same table ps found g old.takes.items old.bindings old.choices.items (flat_map (reach table behind) (state (o ∷ os) old.bindings ∷ [])) (reach table (drop (at.piece + 1) ps) (state (o ∷ os) old.bindings))
          (append-nil (reach table behind (state (o ∷ os) old.bindings)) ∙ ap (λ (l : List PatternPiece). reach table l (state (o ∷ os) old.bindings)) (sym (behind_piece at.piece ps behind p here)))
          (leads (state (o ∷ os) old.bindings ∷ []) leads_there))

      by : (q : PatternPiece) → p ≡ q → GoesOn (word_end at host q) table ps found g old.takes.items old.bindings old.choices.items
      by pieces.EndOfWord is = outside holds.rest refl holds.around is
      by (pieces.Call n) is = absurd (no_call n is)
      by (pieces.Symbol n k) is = none (pieces.Symbol n k) is (λ e. cc)
      by (pieces.Whole n m) is = none (pieces.Whole n m) is (λ e. cc)
      by (pieces.Dot q s k) is = none (pieces.Dot q s k) is (λ e. cc)
      by (pieces.Component v i) is = none (pieces.Component v i) is (λ e. cc)
      by (pieces.Delta i j) is = none (pieces.Delta i j) is (λ e. cc)
      by (pieces.Function n) is = none (pieces.Function n) is (λ e. cc)
      by (pieces.Word n) is = none (pieces.Word n) is (λ e. cc)
      by pieces.EndOfArguments is = none pieces.EndOfArguments is (λ e. cc)
      by (pieces.Fixed k) is = none (pieces.Fixed k) is (λ e. cc)
      by (pieces.Any sort n) is = none (pieces.Any sort n) is (λ e. cc)
      by (pieces.Field w) is = none (pieces.Field w) is (λ e. cc)
      by pieces.Product is = none pieces.Product is (λ e. cc)
      by pieces.EndOfProduct is = none pieces.EndOfProduct is (λ e. cc)

  -- ---- a function of it begins

  module _ (n : Name) (is_call : p ≡ pieces.Call n) where
    first_call : (cs : List Call) → drop place word ≡ cs → from table p (calls (drop place word) ∷ holds.rest) old.bindings at.candidate ≡ option_to_list (with_call n cs holds.rest old.bindings)
    first_call cs is =
        let first : at.candidate ≡ 0 = subst (λ (l : List PatternPiece). IsCandidateOf l r.opens at.candidate) (here ∙ ap (λ (q : PatternPiece). q ∷ behind) is_call) r.candidate in
        ap (λ (q : PatternPiece). from table q (calls (drop place word) ∷ holds.rest) old.bindings at.candidate) is_call
        ∙ ap (from table (pieces.Call n) (calls (drop place word) ∷ holds.rest) old.bindings) first
        ∙ ap (λ (l : List Call). option_to_list (with_call n l holds.rest old.bindings)) is

    pub no_function_on : slice_get word place ≡ None → IsFound table ps found g old.takes.items old.bindings old.choices.items []
    no_function_on none = leads [] (first_call [] (not_got word place none))

    module _ (call : Call) (got : slice_get word place ≡ Some call) (new : Trail) (takes : new.takes ≡ old.takes) (choices : new.choices ≡ old.choices) (kept : take (length old.bindings) new.bindings ≡ old.bindings) where
      abbrev inside : List Open
      inside = arguments (arguments_of call.pieces) ∷ r.opens

      learnt_call : from table p (calls (drop place word) ∷ holds.rest) old.bindings at.candidate ≡ option_to_list (option_map (state inside) (learnt_of old.bindings (asked_function n call.function)))
      learnt_call =
          let first = got_first word place call got in
          first_call (call ∷ drop (suc place) word) first
          ∙ ap (λ (o : Option State). option_to_list o) (asking_is (arguments (arguments_of call.pieces) ∷ calls (call ∷ drop (suc place) word) ∷ holds.rest) old.bindings (asked_function n call.function))
          ∙ ap (λ (l : List Open). option_to_list (option_map (state (arguments (arguments_of call.pieces) ∷ l)) (learnt_of old.bindings (asked_function n call.function))))
          (ap (λ (cs : List Call). calls cs ∷ holds.rest) (sym first) ∙ sym holds.is)

      longer : (states : List State) → IsFound table ps found g old.takes.items old.bindings old.choices.items states → IsFound table ps found g new.takes.items new.bindings new.choices.items states
      longer states f =
          subst (λ (cs : _). IsFound table ps found g new.takes.items new.bindings cs.items states) (sym choices)
          (found_longer table ps found g g old.takes.items new.takes.items old.bindings new.bindings old.choices.items states refl (as_it_is g.inners)
          (subst (λ (us : _). GoesOnAs old.takes.items us.items) (sym takes) (as_it_is old.takes.items)) kept f)

      pub other_name_on : Tells false (learnt_of old.bindings (asked_function n call.function)) new.bindings → IsFound table ps found g new.takes.items new.bindings new.choices.items []
      other_name_on told = longer [] (leads [] (learnt_call ∙ ap (λ (o : Option (List Binding)). option_to_list (option_map (state inside) o)) told))

      abbrev span : Span
      span = record { host = host; in_word = true; place = place; from = 0 }

      pub call_on : Tells true (learnt_of old.bindings (asked_function n call.function)) new.bindings → AreArguments call.pieces → place + 1 < 2 ^ 64
          → IsRunning table ps found g new.takes.items new.bindings new.choices.items (next_standing at 1 (frames.Arguments span))
      call_on told lawful small =
          let given : pieces_at g span ≡ call.pieces = ap (λ (o : Option Call). drop 0 (pieces_of o)) got in
          let stands : Stands g old.takes.items (frames.Arguments span) inside = (
            (
              ap (λ (qs : List Piece). arguments (arguments_of qs)) (sym given),
              (subst AreArguments (sym given) lawful, small),
              holds.host,
              subst (AreOpen g old.takes.items host false (frames.Calls host place)) (sym holds.is) (refl, tt, at_most host, holds.around),
            ),
            r.stands.1,
          ) in
          found_at table ps found g new.takes.items new.bindings new.choices.items (at.piece + 1) (frames.Arguments span) inside
          (subst (λ (us : _). Stands g us.items (frames.Arguments span) inside) (sym takes) stands)
          (found_same table ps found g new.takes.items new.bindings new.choices.items (flat_map (reach table behind) (state inside new.bindings ∷ [])) (reach table (drop (at.piece + 1) ps) (state inside new.bindings))
          (append-nil (reach table behind (state inside new.bindings)) ∙ ap (λ (l : List PatternPiece). reach table l (state inside new.bindings)) (sym (behind_piece at.piece ps behind p here)))
          (longer (flat_map (reach table behind) (state inside new.bindings ∷ [])) (leads (state inside new.bindings ∷ []) (learnt_call ∙ ap (λ (o : Option (List Binding)). option_to_list (option_map (state inside) o)) told))))
        where
          at_most : (k : ℕ) → k ≤ k
          at_most k = omega arith

      -- it has no arguments, and none are asked for
      pub call_over : (later : List PatternPiece) → Tells true (learnt_of old.bindings (asked_function n call.function)) new.bindings → AreArguments call.pieces → place + 1 < 2 ^ 64 → call.pieces ≡ []
          → behind ≡ pieces.EndOfArguments ∷ later → IsRunning table ps found g new.takes.items new.bindings new.choices.items (next_standing at 2 (frames.Calls host (place + 1)))
      call_over later told lawful small empty is =
          let given : pieces_at g span ≡ [] = ap (λ (o : Option Call). drop 0 (pieces_of o)) got ∙ empty in
          let far : at.piece + 1 + 1 ≡ at.piece + 2 = omega arith in
          subst (λ (k : ℕ). IsRunning table ps found g new.takes.items new.bindings new.choices.items (record { piece = k; candidate = 0; frame = frames.Calls host (place + 1) })) far
          (subst (λ (qs : List Piece). GoesOn (if is_nil qs then Some (next_standing (next_standing at 1 (frames.Arguments span)) 1 (frames.Calls host (place + 1))) else None) table ps found g new.takes.items new.bindings new.choices.items) given
          (end_on table ps found g (next_standing at 1 (frames.Arguments span)) span later new refl (call_on told lawful small) (behind_piece at.piece ps behind p here ∙ is)))

-- ---- on the way through a word

module _ {g : Ground} {at : Standing} {here : List PatternPiece} {old : Trail} {now : Standing} {host place : ℕ} {asked : List PatternPiece} {mid : Trail}
    (framed : now.frame ≡ frames.Calls host place) (way : (table : List (Option (List Piece))) → IsOnWay table g at here old now asked mid) where
  abbrev count : ℕ
  count = at.piece + length here

  some_way : IsOnWay [] g at here old now asked mid
  some_way = way []

  pub before_end : (p : PatternPiece) (behind : List PatternPiece) → asked ≡ p ∷ behind → now.piece < at.piece + length here
  before_end p behind is = within some_way p behind is

  pub before_last : (p q : PatternPiece) (later : List PatternPiece) → asked ≡ p ∷ q ∷ later → now.piece + 1 < at.piece + length here
  before_last p q later is =
      let k = now.piece - at.piece in
      let behind : drop (k + 1) here ≡ q ∷ later = behind_piece k here (q ∷ later) p (sym some_way.asked_is ∙ is) in
      let inside = piece_within (k + 1) here later q behind in
      omega (arith, inside, some_way.further)

  -- nothing is found by this way
  pub fails_less : (p : PatternPiece) (behind : List PatternPiece) → asked ≡ p ∷ behind
      → ways_left (at.piece + length here) mid.choices.items < ways_then (at.piece + length here) (Some at) old.choices.items
  fails_less p behind is = fewer_ways some_way None mid.choices.items (omega (arith, some_from (at.piece + length here) now))

  -- it goes on at the next piece
  pub further_less : (p : PatternPiece) (behind : List PatternPiece) (next : Standing) → asked ≡ p ∷ behind → now.piece < next.piece
      → ways_from (at.piece + length here) next + ways_left (at.piece + length here) mid.choices.items < ways_then (at.piece + length here) (Some at) old.choices.items
  further_less p behind next is further =
      fewer_ways some_way (Some next) mid.choices.items (let less = further_on (at.piece + length here) now next further (before_end p behind is) in omega (arith, less))

  -- all pieces are gone through
  pub ended_less : 0 < length here → length asked ≡ 0
      → ways_from (at.piece + length here) now + ways_left (at.piece + length here) mid.choices.items < ways_then (at.piece + length here) (Some at) old.choices.items
  ended_less some none =
      let long : length asked ≡ length here - (now.piece - at.piece) = ap length some_way.asked_is ∙ length-drop (now.piece - at.piece) here in
      omega (arith, long, none, some, some_way.less, some_way.further)

  module _ (p : PatternPiece) (behind : List PatternPiece) (is : asked ≡ p ∷ behind) where
    pub ends_on : ((n : Name) → p ≡ pieces.Call n → ⊥) → (next : Option Standing) → next ≡ word_end now host p → (table : List (Option (List Piece))) (ps : List PatternPiece) (found : Option Match)
        → drop at.piece ps ≡ here → IsRunning table ps found g old.takes.items old.bindings old.choices.items at → GoesOn next table ps found g mid.takes.items mid.bindings mid.choices.items
    ends_on no_call next made table ps found first r =
        subst (λ (n : Option Standing). GoesOn n table ps found g mid.takes.items mid.bindings mid.choices.items) (sym made)
        (word_ends table ps found g now host place p behind mid framed ((way table).goes_on ps found first r) (there (way table) ps first ∙ is) no_call)

    pub ends_less : (next : Option Standing) → next ≡ word_end now host p → ways_then (at.piece + length here) next mid.choices.items < ways_then (at.piece + length here) (Some at) old.choices.items
    ends_less next made =
        subst (λ (n : Option Standing). ways_then (at.piece + length here) n mid.choices.items < ways_then (at.piece + length here) (Some at) old.choices.items) (sym made) (by p)
      where
        by : (q : PatternPiece) → ways_then (at.piece + length here) (word_end now host q) mid.choices.items < ways_then (at.piece + length here) (Some at) old.choices.items
        by pieces.EndOfWord = further_less p behind (next_standing now 1 (frames.Factors host)) is (omega arith)
        by q = fails_less p behind is

    module _ (n : Name) (is_call : p ≡ pieces.Call n) where
      pub gone_on : slice_get (host_at g host).term.others.word place ≡ None → (table : List (Option (List Piece))) (ps : List PatternPiece) (found : Option Match)
          → drop at.piece ps ≡ here → IsRunning table ps found g old.takes.items old.bindings old.choices.items at → IsFound table ps found g mid.takes.items mid.bindings mid.choices.items []
      gone_on none table ps found first r =
          no_function_on table ps found g now host place p behind mid framed ((way table).goes_on ps found first r) (there (way table) ps first ∙ is) n is_call none

      module _ (call : Call) (got : slice_get (host_at g host).term.others.word place ≡ Some call) (made : List Binding) (kept : take (length mid.bindings) made ≡ mid.bindings) where
        abbrev pub bound : Trail
        bound = record { takes = mid.takes; bindings = made; choices = mid.choices }

        pub unlike_on : Tells false (learnt_of mid.bindings (asked_function n call.function)) made → (table : List (Option (List Piece))) (ps : List PatternPiece) (found : Option Match)
            → drop at.piece ps ≡ here → IsRunning table ps found g old.takes.items old.bindings old.choices.items at → IsFound table ps found g mid.takes.items made mid.choices.items []
        unlike_on told table ps found first r =
            other_name_on table ps found g now host place p behind mid framed ((way table).goes_on ps found first r) (there (way table) ps first ∙ is) n is_call call got bound refl refl kept told

        module _ (told : Tells true (learnt_of mid.bindings (asked_function n call.function)) made) (lawful : AreArguments call.pieces) (small : place + 1 < 2 ^ 64) where
          pub inside_on : (next : Standing) (others : Span) → next ≡ next_standing now 1 (frames.Arguments others) → others ≡ record { host = host; in_word = true; place = place; from = 0 }
              → (table : List (Option (List Piece))) (ps : List PatternPiece) (found : Option Match)
              → drop at.piece ps ≡ here → IsRunning table ps found g old.takes.items old.bindings old.choices.items at → IsRunning table ps found g mid.takes.items made mid.choices.items next
          inside_on next others is_next is_others table ps found first r =
              subst (IsRunning table ps found g mid.takes.items made mid.choices.items) (sym is_next)
              (subst (λ (x : Span). IsRunning table ps found g mid.takes.items made mid.choices.items (next_standing now 1 (frames.Arguments x))) (sym is_others)
              (call_on table ps found g now host place p behind mid framed ((way table).goes_on ps found first r) (there (way table) ps first ∙ is) n is_call call got bound refl refl kept told lawful small))

          pub over_way : (next : Standing) (later : List PatternPiece) → next ≡ next_standing now 2 (frames.Calls host (place + 1)) → call.pieces ≡ [] → behind ≡ pieces.EndOfArguments ∷ later
              → (table : List (Option (List Piece))) → IsOnWay table g at here old next later bound
          over_way next later is_next empty behind_is table =
              let both : asked ≡ p ∷ pieces.EndOfArguments ∷ later = is ∙ ap (λ (l : List PatternPiece). p ∷ l) behind_is in
              let last = before_last p pieces.EndOfArguments later both in
              let middle = next_standing now 1 (frames.Calls host place) in
              let target = next_standing now 2 (frames.Calls host (place + 1)) in
              let one = further_on (at.piece + length here) now middle (omega arith) (before_end p behind is) in
              let two = further_on (at.piece + length here) middle target (omega arith) last in
              let w = way table in
              let open_here = shown g mid.takes.items (length g.inners) (frames.Calls host place) w.opens (subst (λ (f : Frame). AreOpen g mid.takes.items (length g.inners) false f w.opens) framed w.stands.0) in
              let os = calls (drop (place + 1) (host_at g host).term.others.word) ∷ open_here.rest in
              subst (λ (m : Standing). IsOnWay table g at here old m later bound) (sym is_next)
              (way_on w target 2 later bound os refl refl (sym (ap (drop 2) both)) refl ((refl, tt, open_here.host, open_here.around), w.stands.1)
              (λ ps found first r. call_over table ps found g now host place p behind mid framed r (first ∙ is) n is_call call got bound refl refl kept later told lawful small empty behind_is)
              (omega (arith, one, two)))
