-- Where arguments are open: what the search finds once some are taken, once they end, and once a product begins.
use Rattle.std.proofs.Common.{◌≡◌, ℕ, zero, suc, ◌+◌, ◌-◌, ◌^◌, ◌<◌, ◌≤◌, Bool, true, false, if◌then◌else◌, List, [], ◌∷◌, ◌++◌, length, map, drop, Option, Some, None, option_map, refl, sym, ap, subst, ◌∙◌, append-nil, arith}
use Rattle.std.specs.Prelude.{IfSome, flat_map}
use Rattle.std.proofs.lemmas.List.{drop-drop, length-drop}
use Rattle.form_term.specs.declared.piece.Piece.{Piece}
use Rattle.form_term.specs.Term as terms
use Rattle.form_term.specs.Term.{AreArguments, Call, is_nil}
use Rattle.form_term.specs.Arguments.{argument_in, arguments_of, joined, level_behind, parts_from, parts_of}
use Rattle.form_tree.specs.declared.pattern.PatternPiece.{PatternPiece}
use Rattle.form_tree.specs.declared.pattern.PatternPiece.TheVariants as pieces
use Rattle.form_bindings.specs.Values.{Binding}
use Rattle.form_match.specs.declared.matching.Match.{Match}
use Rattle.form_match.specs.declared.places.Frame.{Frame}
use Rattle.form_match.specs.declared.places.Frame.TheVariants as frames
use Rattle.form_match.specs.declared.places.Span.{Span}
use Rattle.form_match.specs.declared.trail.Choice.{Choice}
use Rattle.form_match.specs.declared.trail.Standing.{Standing}
use Rattle.form_match.specs.declared.trail.Taken.{Taken}
use Rattle.form_match.specs.declared.trail.Trail.{Trail}
use Rattle.form_match.specs.Leading.{Takes, left_behind, next_standing, once_taken}
use Rattle.form_match.specs.Parts.{IsFront}
use Rattle.form_match.specs.Places.{AreOpen, Ground, Stands, behind as behind_span, host_at, pieces_at}
use Rattle.form_match.specs.Running.{GoesOn, IsCandidate, IsCandidateOf, IsFound, IsRunning, IsSomewhere, ahead, keeping, ways_from, ways_left, ways_then}
use Rattle.form_match.specs.States.{Open, arguments, calls, factors, State, state, behind_arguments, reach}
use Rattle.form_match.proofs.Cutting.{IsCut, cut_front, no_arguments}
use Rattle.form_match.proofs.Factoring.{IsLater, fewer_kept, fewer_on}
use Rattle.form_match.proofs.Running.{GoesOnAs, as_it_is, behind_piece, first_stands, found_at, found_here, found_keeping, found_longer, found_same}
use Rattle.form_match.proofs.Standing.{Shown, shown}

-- ---- fewer ways are left

later_of : (P : ℕ → Type 0) (at : Standing) (o : Option ℕ) → IfSome o (λ c. (at.candidate < c) × (c < 2 ^ 64) × P c) → IsLater at o
later_of P at None h = tt
later_of P at (Some c) h = (h.0, h.1)

module _ (count : ℕ) (at : Standing) (terms taken bound : ℕ) (old : List Choice) (later : Option ℕ) (small : IsLater at later) where
  -- a step to a later piece, which may leave a choice
  pub step_less : (next : Option Standing) → at.piece < count → IfSome next (λ n. at.piece < n.piece) → ways_then count next (keeping later at terms taken bound old) < ways_then count (Some at) old
  step_less None within further = fewer_kept count at terms taken bound old later small
  step_less (Some n) within further = fewer_on count at terms taken bound old n later small further within

-- ---- some arguments are taken

-- these arguments without so many pieces
pub pieces_less : (g : Ground) (span : Span) (n : ℕ) → pieces_at g (record span { from = span.from + n }) ≡ drop n (pieces_at g span)
pieces_less g span n = sym (drop-drop n span.from _)

module _ (g : Ground) (ts : List Taken) (span : Span) (os : List Open) where
  -- the others are open then
  pub arguments_on : (n : ℕ) (holds : Shown g ts (length g.inners) (frames.Arguments span) os) → AreArguments (drop n (pieces_at g span))
      → AreOpen g ts (length g.inners) false (frames.Arguments (record span { from = span.from + n })) (arguments (arguments_of (drop n (pieces_at g span))) ∷ holds.rest)
  arguments_on n holds lawful =
      let same = pieces_less g span n in
      (ap (λ (ps : List Piece). arguments (arguments_of ps)) (sym same), (subst AreArguments (sym same) lawful, holds.lawful.1), holds.host, holds.around)

-- a candidate of arguments is one whatever is around them
candidate_same : (p : PatternPiece) (xs : List terms.Argument) (os rest : List Open) (c : ℕ) → IsCandidate p (arguments xs ∷ os) c → IsCandidate p (arguments xs ∷ rest) c
candidate_same (pieces.Field w) xs os rest c is = is
candidate_same p xs os rest c is = is

pub candidate_there : (p : PatternPiece) (behind : List PatternPiece) (os rest : List Open) (xs : List terms.Argument) (c : ℕ) → os ≡ arguments xs ∷ rest → IsCandidateOf (p ∷ behind) os c → IsCandidate p (arguments xs ∷ []) c
candidate_there p behind os rest xs c is holds = candidate_same p xs rest [] c (subst (λ (l : List Open). IsCandidate p l c) is holds)

module _ (table : List (Option (List Piece))) (ps : List PatternPiece) (found : Option Match) (g : Ground) (at : Standing) (span : Span) (p : PatternPiece) (behind : List PatternPiece) (old : Trail)
    (framed : at.frame ≡ frames.Arguments span) (r : IsRunning table ps found g old.takes.items old.bindings old.choices.items at) (here : drop at.piece ps ≡ p ∷ behind) where
  abbrev given : List Piece
  given = pieces_at g span

  pub shown_arguments : Shown g old.takes.items (length g.inners) (frames.Arguments span) r.opens
  shown_arguments = shown g old.takes.items (length g.inners) (frames.Arguments span) r.opens (subst (λ (f : Frame). AreOpen g old.takes.items (length g.inners) false f r.opens) framed r.stands.0)

  abbrev rest : List Open
  rest = shown_arguments.rest

  pub found_there : IsFound table ps found g old.takes.items old.bindings old.choices.items (ahead table (p ∷ behind) (arguments (arguments_of given) ∷ rest) old.bindings at.candidate)
  found_there =
      subst (λ (os : List Open). IsFound table ps found g old.takes.items old.bindings old.choices.items (ahead table (p ∷ behind) os old.bindings at.candidate)) shown_arguments.is
      (found_here table ps found g old.takes.items old.bindings old.choices.items at p behind r here)

  module _ (new : Trail) (n : Option ℕ) (t : Takes table p behind given at (length g.inners) old new n) where
    abbrev first : List State
    first = flat_map (reach table behind) (once_taken given rest new.bindings n)

    -- the choice that is left leads to the others
    found_left : (later : Option ℕ) → IfSome later (λ c. (at.candidate < c) × (c < 2 ^ 64) × IsCandidate p (arguments (arguments_of given) ∷ []) c)
        → IsFound table ps found g old.takes.items old.bindings old.choices.items (first ++ left_behind table p behind given rest old.bindings later)
        → IsFound table ps found g old.takes.items old.bindings (keeping later at (length g.inners) (length old.takes.items) (length old.bindings) old.choices.items) first
    found_left None candidate f = found_same table ps found g old.takes.items old.bindings old.choices.items (first ++ []) first (append-nil first) f
    found_left (Some c) candidate f =
        let same : ahead table (p ∷ behind) (arguments (arguments_of given) ∷ rest) old.bindings c ≡ ahead table (drop at.piece ps) r.opens old.bindings c =
        ap (λ (os : List Open). ahead table (p ∷ behind) os old.bindings c) (sym shown_arguments.is) ∙ ap (λ (l : List PatternPiece). ahead table l r.opens old.bindings c) (sym here) in
        let may : IsCandidateOf (drop at.piece ps) r.opens c =
        subst (λ (l : List PatternPiece). IsCandidateOf l r.opens c) (sym here)
        (subst (λ (os : List Open). IsCandidate p os c) (sym shown_arguments.is) (candidate_same p (arguments_of given) [] rest c candidate.2)) in
        found_keeping table ps found g old.takes.items old.bindings old.choices.items at c r.opens first (keeping (Some c) at (length g.inners) (length old.takes.items) (length old.bindings) old.choices.items) r.stands may refl
        (found_same table ps found g old.takes.items old.bindings old.choices.items (first ++ ahead table (p ∷ behind) (arguments (arguments_of given) ∷ rest) old.bindings c)
        (first ++ ahead table (drop at.piece ps) r.opens old.bindings c) (ap (λ (l : List State). first ++ l) same) f)

    found_then : IsFound table ps found g new.takes.items new.bindings new.choices.items first
    found_then =
        found_longer table ps found g g old.takes.items new.takes.items old.bindings new.bindings new.choices.items first refl (as_it_is g.inners)
        (subst (λ (us : List Taken). GoesOnAs old.takes.items us) (sym t.takes) (as_it_is old.takes.items)) t.bindings
        (subst (λ (cs : List Choice). IsFound table ps found g old.takes.items old.bindings cs first) (sym t.choices)
        (found_left t.later t.candidate
        (found_same table ps found g old.takes.items old.bindings old.choices.items (ahead table (p ∷ behind) (arguments (arguments_of given) ∷ rest) old.bindings at.candidate)
        (first ++ left_behind table p behind given rest old.bindings t.later) (t.leads rest) found_there)))

    -- where the search goes on then
    abbrev pub next_at : ℕ → Standing
    next_at len = next_standing at 1 (frames.Arguments (record span { from = span.from + len }))

    pub takes_on : GoesOn (option_map next_at n) table ps found g new.takes.items new.bindings new.choices.items
    takes_on = by n t.front found_then
      where
        by : (o : Option ℕ) → IfSome o (λ len. (count : ℕ) × IsFront given count len)
            → IsFound table ps found g new.takes.items new.bindings new.choices.items (flat_map (reach table behind) (once_taken given rest new.bindings o))
            → GoesOn (option_map next_at o) table ps found g new.takes.items new.bindings new.choices.items
        by None front f = f
        by (Some len) front f =
            let lawful = (cut_front given shown_arguments.lawful.0 front.0 len front.1).behind_lawful in
            let os = arguments (arguments_of (drop len given)) ∷ rest in
            let stands : Stands g old.takes.items (frames.Arguments (record span { from = span.from + len })) os =
            (arguments_on g old.takes.items span r.opens len shown_arguments lawful, r.stands.1) in
            found_at table ps found g new.takes.items new.bindings new.choices.items (at.piece + 1) (frames.Arguments (record span { from = span.from + len })) os
            (subst (λ (us : List Taken). Stands g us (frames.Arguments (record span { from = span.from + len })) os) (sym t.takes) stands)
            (found_same table ps found g new.takes.items new.bindings new.choices.items (reach table behind (state os new.bindings) ++ []) (reach table (drop (at.piece + 1) ps) (state os new.bindings))
            (append-nil (reach table behind (state os new.bindings)) ∙ ap (λ (l : List PatternPiece). reach table l (state os new.bindings)) (sym (behind_piece at.piece ps behind p here))) f)

-- arguments that are open are lawful, and a place of them has another one behind it
module _ {g : Ground} {ts : List Taken} {at : Standing} {here : List PatternPiece} (somewhere : IsSomewhere g ts at here) {span : Span} (framed : at.frame ≡ frames.Arguments span) where
  shown_somewhere : Shown g ts (length g.inners) (frames.Arguments span) somewhere.opens
  shown_somewhere = shown g ts (length g.inners) (frames.Arguments span) somewhere.opens (subst (λ (f : Frame). AreOpen g ts (length g.inners) false f somewhere.opens) framed somewhere.stands.0)

  pub lawful_somewhere : AreArguments (pieces_at g span)
  lawful_somewhere = shown_somewhere.lawful.0

-- ---- arguments end

pub asked_there : (ps pieces asked : List PatternPiece) (m n : ℕ) → m ≤ n → drop m ps ≡ pieces → asked ≡ drop (n - m) pieces → drop n ps ≡ asked
asked_there ps pieces asked m n within here is =
    let far : m + (n - m) ≡ n = omega (arith, within) in
    ap (λ (k : ℕ). drop k ps) (sym far) ∙ sym (drop-drop (n - m) m ps) ∙ ap (drop (n - m)) here ∙ sym is

module _ (g : Ground) (ts : List Taken) (bs : List Binding) where
  -- what is around arguments goes on behind them
  closes : (b : Bool) (host place : ℕ) (os : List Open) → host ≤ length g.inners → AreOpen g ts host false (if b then frames.Calls host place else frames.Factors host) os
      → (next : List Open) × AreOpen g ts (length g.inners) false (if b then frames.Calls host (place + 1) else frames.Factors host) next × (behind_arguments [] os bs ≡ state next bs ∷ [])
  closes true host place [] within holds = absurd holds
  closes true host place (o ∷ os) within holds =
      let word = (host_at g host).term.others.word in (
        calls (drop (place + 1) word) ∷ os,
        (refl, tt, within, holds.3),
        ap (λ (x : Open). behind_arguments [] (x ∷ os) bs) holds.0 ∙ ap (λ (cs : List Call). state (calls cs ∷ os) bs ∷ []) (drop-drop 1 place word),
      )
  closes false host place [] within holds = absurd holds
  closes false host place (o ∷ os) within holds = (
    o ∷ os,
    (holds.0, holds.1, within, holds.3),
    ap (λ (x : Open). behind_arguments [] (x ∷ os) bs) holds.0 ∙ ap (λ (x : Open). state (x ∷ os) bs ∷ []) (sym holds.0),
  )

  some_left : (x : terms.Argument) (xs : List terms.Argument) (os : List Open) → behind_arguments (x ∷ xs) os bs ≡ []
  some_left x xs [] = refl
  some_left x xs (factors h us ∷ os) = refl
  some_left x xs (arguments ys ∷ os) = refl
  some_left x xs (calls cs ∷ os) = refl

-- pieces begin an argument
nonempty : (p : Piece) (level : ℕ) (parts : List (List Piece)) → (part : List Piece) × (others : List (List Piece)) × (joined p level parts ≡ part ∷ others)
nonempty p zero parts = (p ∷ [], parts, refl)
nonempty p (suc level) [] = (p ∷ [], [], refl)
nonempty p (suc level) (part ∷ parts) = (p ∷ part, parts, refl)

some_argument : (p : Piece) (ps : List Piece) → (x : terms.Argument) × (xs : List terms.Argument) × (arguments_of (p ∷ ps) ≡ x ∷ xs)
unfolding arguments_of parts_of
some_argument p ps =
    let first = nonempty p (level_behind 0 p) (parts_from (level_behind 0 p) ps) in
    (argument_in first.0, map argument_in first.1, ap (map argument_in) first.2)

module _ (table : List (Option (List Piece))) (ps : List PatternPiece) (found : Option Match) (g : Ground) (at : Standing) (span : Span) (behind : List PatternPiece) (old : Trail)
    (framed : at.frame ≡ frames.Arguments span) (r : IsRunning table ps found g old.takes.items old.bindings old.choices.items at) (here : drop at.piece ps ≡ pieces.EndOfArguments ∷ behind) where
  abbrev holds : Shown g old.takes.items (length g.inners) (frames.Arguments span) r.opens
  holds = shown_arguments table ps found g at span pieces.EndOfArguments behind old framed r here

  -- what the end of arguments leads to
  ends : IsFound table ps found g old.takes.items old.bindings old.choices.items (flat_map (reach table behind) (behind_arguments (arguments_of (pieces_at g span)) holds.rest old.bindings))
  ends =
      let first : at.candidate ≡ 0 = subst (λ (l : List PatternPiece). IsCandidateOf l r.opens at.candidate) here r.candidate in
      subst (λ (c : ℕ). IsFound table ps found g old.takes.items old.bindings old.choices.items (ahead table (pieces.EndOfArguments ∷ behind) (arguments (arguments_of (pieces_at g span)) ∷ holds.rest) old.bindings c)) first
      (found_there table ps found g at span pieces.EndOfArguments behind old framed r here)

  pub end_on : GoesOn (if is_nil (pieces_at g span) then Some (next_standing at 1 (behind_span span)) else None) table ps found g old.takes.items old.bindings old.choices.items
  end_on = by (pieces_at g span) ends
    where
      by : (qs : List Piece) → IsFound table ps found g old.takes.items old.bindings old.choices.items (flat_map (reach table behind) (behind_arguments (arguments_of qs) holds.rest old.bindings))
          → GoesOn (if is_nil qs then Some (next_standing at 1 (behind_span span)) else None) table ps found g old.takes.items old.bindings old.choices.items
      by (q ∷ qs) f =
          let some = some_argument q qs in
          found_same table ps found g old.takes.items old.bindings old.choices.items (flat_map (reach table behind) (behind_arguments (arguments_of (q ∷ qs)) holds.rest old.bindings)) []
          (ap (λ (xs : List terms.Argument). flat_map (reach table behind) (behind_arguments xs holds.rest old.bindings)) some.2 ∙ ap (flat_map (reach table behind)) (some_left g old.takes.items old.bindings some.0 some.1 holds.rest)) f
      by [] f =
          let next = closes g old.takes.items old.bindings span.in_word span.host span.place holds.rest holds.host holds.around in
          found_at table ps found g old.takes.items old.bindings old.choices.items (at.piece + 1) (behind_span span) next.0 (next.1, r.stands.1)
          (found_same table ps found g old.takes.items old.bindings old.choices.items (flat_map (reach table behind) (behind_arguments (arguments_of []) holds.rest old.bindings)) (reach table (drop (at.piece + 1) ps) (state next.0 old.bindings))
          (ap (λ (xs : List terms.Argument). flat_map (reach table behind) (behind_arguments xs holds.rest old.bindings)) no_arguments ∙ ap (flat_map (reach table behind)) next.2
          ∙ append-nil (reach table behind (state next.0 old.bindings)) ∙ ap (λ (l : List PatternPiece). reach table l (state next.0 old.bindings)) (sym (behind_piece at.piece ps behind pieces.EndOfArguments here))) f)

-- ---- on the way

pub piece_within : (n : ℕ) (here behind : List PatternPiece) (p : PatternPiece) → drop n here ≡ p ∷ behind → n < length here
piece_within zero [] behind p e = cc
piece_within zero (q ∷ here) behind p e = omega arith
piece_within (suc n) [] behind p e = cc
piece_within (suc n) (q ∷ here) behind p e = let rest = piece_within n here behind p e in omega (arith, rest)

-- Pieces are taken one after another: where the search goes on, which pieces are left, and that fewer ways are.
pub record IsOnWay (table : List (Option (List Piece))) (g : Ground) (at : Standing) (here : List PatternPiece) (old : Trail) (now : Standing) (asked : List PatternPiece) (new : Trail) : Type 0 where
  pub further : at.piece ≤ now.piece
  pub asked_is : asked ≡ drop (now.piece - at.piece) here
  pub takes : new.takes.items ≡ old.takes.items
  pub opens : List Open
  pub stands : Stands g new.takes.items now.frame opens
  pub candidate : IsCandidateOf asked opens now.candidate
  pub goes_on : (ps : List PatternPiece) (found : Option Match) → drop at.piece ps ≡ here → IsRunning table ps found g old.takes.items old.bindings old.choices.items at
      → IsRunning table ps found g new.takes.items new.bindings new.choices.items now
  pub less : ways_from (at.piece + length here) now + ways_left (at.piece + length here) new.choices.items + now.piece
      ≤ ways_from (at.piece + length here) at + ways_left (at.piece + length here) old.choices.items + at.piece

module _ {table : List (Option (List Piece))} {g : Ground} {at : Standing} {here : List PatternPiece} {old : Trail} {now : Standing} {asked : List PatternPiece} {mid : Trail}
    (w : IsOnWay table g at here old now asked mid) where
  pub within : (p : PatternPiece) (behind : List PatternPiece) → asked ≡ p ∷ behind → now.piece < at.piece + length here
  within p behind is = let inside = piece_within (now.piece - at.piece) here behind p (sym w.asked_is ∙ is) in omega (arith, inside, w.further)

  pub there : (ps : List PatternPiece) → drop at.piece ps ≡ here → drop now.piece ps ≡ asked
  there ps first = asked_there ps here asked at.piece now.piece w.further first w.asked_is

  -- fewer ways are left than there were at first
  pub fewer_ways : (next : Option Standing) (choices : List Choice) → ways_then (at.piece + length here) next choices < ways_then (at.piece + length here) (Some now) mid.choices.items
      → ways_then (at.piece + length here) next choices < ways_then (at.piece + length here) (Some at) old.choices.items
  fewer_ways next choices less = omega (arith, less, w.less, w.further)

  -- so many pieces are taken
  pub way_on : (next : Standing) (k : ℕ) (later : List PatternPiece) (new : Trail) (os : List Open) → next.piece ≡ now.piece + k → next.candidate ≡ 0 → later ≡ drop k asked
      → new.takes.items ≡ mid.takes.items → Stands g mid.takes.items next.frame os
      → ((ps : List PatternPiece) (found : Option Match) → drop now.piece ps ≡ asked → IsRunning table ps found g mid.takes.items mid.bindings mid.choices.items now
      → IsRunning table ps found g new.takes.items new.bindings new.choices.items next)
      → ways_from (at.piece + length here) next + ways_left (at.piece + length here) new.choices.items + k ≤ ways_from (at.piece + length here) now + ways_left (at.piece + length here) mid.choices.items
      → IsOnWay table g at here old next later new
  way_on next k later new os far first is takes stands goes less =
      let place : now.piece - at.piece + k ≡ next.piece - at.piece = omega (arith, far, w.further) in
      record {
        further = omega (arith, far, w.further);
        asked_is = is ∙ ap (drop k) w.asked_is ∙ drop-drop k (now.piece - at.piece) here ∙ ap (λ (n : ℕ). drop n here) place;
        takes = takes ∙ w.takes;
        opens = os;
        stands = subst (λ (us : List Taken). Stands g us next.frame os) (sym takes) stands;
        candidate = subst (IsCandidateOf later os) (sym first) (first_stands later os);
        goes_on = λ ps found start r. goes ps found (there ps start) (w.goes_on ps found start r);
        less = omega (arith, less, w.less, far);
      }

-- where it begins
pub way_begins : {g : Ground} {at : Standing} {here : List PatternPiece} {old : Trail} (somewhere : IsSomewhere g old.takes.items at here) (table : List (Option (List Piece)))
    → IsOnWay table g at here old at here old
way_begins {g} {at} {here} {old} somewhere table =
    let first : 0 ≡ at.piece - at.piece = omega arith in
    record {
      further = omega arith;
      asked_is = ap (λ (n : ℕ). drop n here) first;
      takes = refl;
      opens = somewhere.opens;
      stands = somewhere.stands;
      candidate = somewhere.candidate;
      goes_on = λ ps found start r. r;
      less = omega arith;
    }

-- ---- through arguments

-- So, where arguments are open.
pub record IsUnderway (table : List (Option (List Piece))) (g : Ground) (at : Standing) (here : List PatternPiece) (old : Trail) (now : Standing) (left : Span) (rest : List Piece) (asked : List PatternPiece) (new : Trail) : Type 0 where
  pub framed : now.frame ≡ frames.Arguments left
  pub rest_is : rest ≡ pieces_at g left
  pub small : left.from + length rest < 2 ^ 64
  pub way : IsOnWay table g at here old now asked new

module _ {table : List (Option (List Piece))} {g : Ground} {at : Standing} {here : List PatternPiece} {old : Trail} {now : Standing} {left : Span} {rest : List Piece} {asked : List PatternPiece} {mid : Trail}
    (u : IsUnderway table g at here old now left rest asked mid) where
  shown_here : Shown g mid.takes.items (length g.inners) (frames.Arguments left) u.way.opens
  shown_here = shown g mid.takes.items (length g.inners) (frames.Arguments left) u.way.opens (subst (λ (f : Frame). AreOpen g mid.takes.items (length g.inners) false f u.way.opens) u.framed u.way.stands.0)

  pub rest_lawful : AreArguments rest
  rest_lawful = subst AreArguments (sym u.rest_is) shown_here.lawful.0

  pub place_small : left.place + 1 < 2 ^ 64
  place_small = shown_here.lawful.1

  module _ (p : PatternPiece) (behind : List PatternPiece) (is : asked ≡ p ∷ behind) where
    pub candidate_here : IsCandidate p (arguments (arguments_of rest) ∷ []) now.candidate
    candidate_here =
        candidate_there p behind u.way.opens shown_here.rest (arguments_of rest) now.candidate
        (shown_here.is ∙ ap (λ (ps : List Piece). arguments (arguments_of ps) ∷ shown_here.rest) (sym u.rest_is)) (subst (λ (l : List PatternPiece). IsCandidateOf l u.way.opens now.candidate) is u.way.candidate)

    -- a piece takes some
    module _ (new : Trail) (n : Option ℕ) (t : Takes table p behind rest now (length g.inners) mid new n) where
      abbrev then_at : ℕ → Standing
      then_at len = next_standing now 1 (frames.Arguments (record left { from = left.from + len }))

      going_on : (ps : List PatternPiece) (found : Option Match) → drop now.piece ps ≡ asked → IsRunning table ps found g mid.takes.items mid.bindings mid.choices.items now
          → GoesOn (option_map then_at n) table ps found g new.takes.items new.bindings new.choices.items
      going_on ps found first r =
          takes_on table ps found g now left p behind mid u.framed r (first ∙ is) new n (subst (λ (qs : List Piece). Takes table p behind qs now (length g.inners) mid new n) u.rest_is t)

      less_then : ways_then (at.piece + length here) (option_map then_at n) new.choices.items < ways_then (at.piece + length here) (Some now) mid.choices.items
      less_then =
          subst (λ (cs : List Choice). ways_then (at.piece + length here) (option_map then_at n) cs < ways_then (at.piece + length here) (Some now) mid.choices.items) (sym t.choices)
          (step_less (at.piece + length here) now (length g.inners) (length mid.takes.items) (length mid.bindings) mid.choices.items t.later
          (later_of (IsCandidate p (arguments (arguments_of rest) ∷ [])) now t.later t.candidate) (option_map then_at n) (within u.way p behind is) (by n))
        where
          by : (o : Option ℕ) → IfSome (option_map then_at o) (λ (m : Standing). now.piece < m.piece)
          by None = tt
          by (Some len) = omega arith

    -- it takes none
    module _ (new : Trail) (t : Takes table p behind rest now (length g.inners) mid new None) where
      pub none_on : (ps : List PatternPiece) (found : Option Match) → drop at.piece ps ≡ here → IsRunning table ps found g old.takes.items old.bindings old.choices.items at
          → IsFound table ps found g new.takes.items new.bindings new.choices.items []
      none_on ps found first r = going_on new None t ps found (there u.way ps first) (u.way.goes_on ps found first r)

      pub none_less : ways_left (at.piece + length here) new.choices.items < ways_then (at.piece + length here) (Some at) old.choices.items
      none_less = fewer_ways u.way None new.choices.items (less_then new None t)

    module _ (new : Trail) (len : ℕ) (t : Takes table p behind rest now (length g.inners) mid new (Some len)) where
      cut : IsCut rest t.front.0 len
      cut = cut_front rest rest_lawful t.front.0 len t.front.1

      pub len_within : len ≤ length rest
      len_within = cut.inside

      underway : IsUnderway table g at here old (then_at new (Some len) t len) (record left { from = left.from + len }) (drop len rest) behind new
      underway =
          let lawful : AreArguments (drop len (pieces_at g left)) = subst (λ (ps : List Piece). AreArguments (drop len ps)) u.rest_is cut.behind_lawful in
          let long = length-drop len rest in
          let fewer = less_then new (Some len) t in
          record {
            framed = refl;
            rest_is = ap (drop len) u.rest_is ∙ sym (pieces_less g left len);
            small = omega (arith, long, len_within, u.small);
            way =
                way_on u.way (then_at new (Some len) t len) 1 behind new (arguments (arguments_of (drop len (pieces_at g left))) ∷ shown_here.rest) refl refl (ap (drop 1) (sym is)) t.takes
                (arguments_on g mid.takes.items left u.way.opens len shown_here lawful, u.way.stands.1) (going_on new (Some len) t) (omega (arith, fewer));
          }

      pub underway_as : (others : Span) (next : Standing) (last : List Piece) → others ≡ record left { from = left.from + len } → next ≡ next_standing now 1 (frames.Arguments others) → last ≡ drop len rest
          → IsUnderway table g at here old next others last behind new
      underway_as others next last is_others is_next is_last =
          subst (λ (m : Standing). IsUnderway table g at here old m others last behind new) (sym is_next)
          (subst (λ (x : Span). IsUnderway table g at here old (next_standing now 1 (frames.Arguments x)) x last behind new) (sym is_others)
          (subst (λ (qs : List Piece). IsUnderway table g at here old (then_at new (Some len) t len) (record left { from = left.from + len }) qs behind new) (sym is_last) underway))

  -- the arguments end
  module _ (behind : List PatternPiece) (is : asked ≡ pieces.EndOfArguments ∷ behind) (next : Option Standing)
      (made : next ≡ (if is_nil rest then Some (next_standing now 1 (behind_span left)) else None)) where
    abbrev end_at : List Piece → Option Standing
    end_at qs = if is_nil qs then Some (next_standing now 1 (behind_span left)) else None

    pub ending_on : (ps : List PatternPiece) (found : Option Match) → drop at.piece ps ≡ here → IsRunning table ps found g old.takes.items old.bindings old.choices.items at
        → GoesOn next table ps found g mid.takes.items mid.bindings mid.choices.items
    ending_on ps found first r =
        subst (λ (n : Option Standing). GoesOn n table ps found g mid.takes.items mid.bindings mid.choices.items) (sym (made ∙ ap end_at u.rest_is))
        (end_on table ps found g now left behind mid u.framed (u.way.goes_on ps found first r) (there u.way ps first ∙ is))

    pub ending_less : ways_then (at.piece + length here) next mid.choices.items < ways_then (at.piece + length here) (Some at) old.choices.items
    ending_less =
        fewer_ways u.way next mid.choices.items
        (step_less (at.piece + length here) now 0 0 0 mid.choices.items None tt next (within u.way pieces.EndOfArguments behind is)
        (subst (λ (n : Option Standing). IfSome n (λ (m : Standing). now.piece < m.piece)) (sym made) (by rest)))
      where
        by : (qs : List Piece) → IfSome (end_at qs) (λ (m : Standing). now.piece < m.piece)
        by [] = omega arith
        by (q ∷ qs) = tt
