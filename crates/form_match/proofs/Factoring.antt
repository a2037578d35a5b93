-- What becomes of the search at a factor, and at the end of the factors of an argument.
use Rattle.std.proofs.Common.{◌≡◌, ◌≢◌, ℕ, zero, suc, ◌+◌, ◌-◌, ◌^◌, ◌<◌, ◌≤◌, Bool, true, false, if◌then◌else◌, List, [], ◌∷◌, ◌++◌, length, drop, Option, Some, None, option_map, option_to_list, refl, sym, ap, subst, ◌∙◌, append-nil, arith}
use Rattle.std.specs.Prelude.{IfSome, flat_map, slice_get}
use Rattle.std.specs.List.{list_any}
use Rattle.std.proofs.lemmas.Bool.{ne_eqb}
use Rattle.form_term.specs.declared.piece.Piece.{Piece}
use Rattle.form_term.specs.Term as terms
use Rattle.form_term.specs.Arguments.{arguments_of}
use Rattle.form_tree.specs.declared.pattern.PatternPiece.{PatternPiece}
use Rattle.form_tree.specs.declared.pattern.PatternPiece.TheVariants as pieces
use Rattle.form_bindings.specs.Learning.{Tells}
use Rattle.form_bindings.specs.Values.{Binding}
use Rattle.form_match.specs.declared.matching.Match.{Match}
use Rattle.form_match.specs.declared.places.Frame.{Frame}
use Rattle.form_match.specs.declared.places.Frame.TheVariants as frames
use Rattle.form_match.specs.declared.places.Inner.{Inner}
use Rattle.form_match.specs.declared.trail.Choice.{Choice}
use Rattle.form_match.specs.declared.trail.Standing.{Standing}
use Rattle.form_match.specs.declared.trail.Taken.{Taken}
use Rattle.form_match.specs.declared.uses.Use.{Use}
use Rattle.form_match.specs.Candidates.{candidates, from}
use Rattle.form_match.specs.Factors.{IsLawfulUse, IsNext, IsNextFree, asked_at, frame_of_use, is_fit, is_free, opened, use_at}
use Rattle.form_match.specs.Learning.{learnt_of}
use Rattle.form_match.specs.Left.{is_one, left_of}
use Rattle.form_match.specs.Matching.{Host, clashes}
use Rattle.form_match.specs.Places.{AreOpen, Ground, IsAround, IsSpan, around, behind_of, host_at, host_of, inner_at, pieces_at, uses_at}
use Rattle.form_match.specs.Running.{IsCandidate, IsCandidateOf, IsFound, IsRunning, ahead, keeping, ways_from, ways_left}
use Rattle.form_match.specs.States.{Open, factors, arguments, calls, State, state, asking_too, moves, reach}
use Rattle.form_match.proofs.Ending.{further_keeping, further_on, keeping_alone, some_from, ways_push}
use Rattle.form_match.proofs.Portions.{both_true, not_true}
use Rattle.form_match.proofs.Running.{GoesOnAs, as_it_is, behind_piece, found_at, found_here, found_keeping, found_longer, found_same, one_longer}
use Rattle.form_match.proofs.Standing.{Shown, shown, stands_taking}
use Rattle.form_match.proofs.Trying.{first_free, lead, next_fits, none_fits, none_free}

-- a candidate of a factor may be stood at
pub factor_candidate : (h : Host) (p : PatternPiece) (os : List Open) (c : ℕ) → c < candidates h p → IsCandidate p os c
factor_candidate h (pieces.Symbol n k) os c some = tt
factor_candidate h (pieces.Whole n m) os c some = tt
factor_candidate h (pieces.Dot p q k) os c some = tt
factor_candidate h (pieces.Component v i) os c some = tt
factor_candidate h (pieces.Delta i j) os c some = tt
factor_candidate h (pieces.Function n) os c some = tt
factor_candidate h (pieces.Word n) os c some = tt
factor_candidate h (pieces.Call n) os c some = absurd (omega (arith, some))
factor_candidate h pieces.EndOfArguments os c some = absurd (omega (arith, some))
factor_candidate h pieces.EndOfWord os c some = absurd (omega (arith, some))
factor_candidate h (pieces.Fixed k) os c some = absurd (omega (arith, some))
factor_candidate h (pieces.Any sort n) os c some = absurd (omega (arith, some))
factor_candidate h (pieces.Field w) os c some = absurd (omega (arith, some))
factor_candidate h pieces.Product os c some = absurd (omega (arith, some))
factor_candidate h pieces.EndOfProduct os c some = absurd (omega (arith, some))

-- what is asked leads to a state where it can be learnt
pub asking_is : (os : List Open) (bs : List Binding) (a : Option (List Binding)) → asking_too os bs a ≡ option_map (state os) (learnt_of bs a)
asking_is os bs None = refl
asking_is os bs (Some asks) = refl

not_got : {A : Type 0} (xs : List A) (c : ℕ) → slice_get xs c ≡ None → length xs ≤ c
not_got [] c is = omega arith
not_got (y ∷ ys) zero is = cc
not_got (y ∷ ys) (suc c) is = let rest = not_got ys c is in omega (arith, rest)

-- ---- that it ends

abbrev pub IsLater : Standing → Option ℕ → Type 0
IsLater at None = Unit {0}
IsLater at (Some d) = (at.candidate < d) × (d < 2 ^ 64)

module _ (count : ℕ) (at : Standing) (terms taken bound : ℕ) (choices : List Choice) where
  pub fewer_kept : (second : Option ℕ) → IsLater at second → ways_left count (keeping second at terms taken bound choices) < ways_from count at + ways_left count choices
  fewer_kept None later = omega (arith, some_from count at)
  fewer_kept (Some d) later =
      omega (arith, ways_push count choices (record { at = record at { candidate = d }; terms = terms; taken = taken; bound = bound }), keeping_alone count at d later.0 later.1)

  pub fewer_on : (next : Standing) (second : Option ℕ) → IsLater at second → at.piece < next.piece → at.piece < count
      → ways_from count next + ways_left count (keeping second at terms taken bound choices) < ways_from count at + ways_left count choices
  fewer_on next None later further before = omega (arith, further_on count at next further before)
  fewer_on next (Some d) later further before =
      omega (arith, ways_push count choices (record { at = record at { candidate = d }; terms = terms; taken = taken; bound = bound }), further_keeping count at next further before d later.0 later.1)

module _ (table : List (Option (List Piece))) (ps : List PatternPiece) (found : Option Match) (g : Ground) (ts : List Taken) (bs : List Binding) (choices : List Choice) (at : Standing)
    (number : ℕ) (framed : at.frame ≡ frames.Factors number) (p : PatternPiece) (behind : List PatternPiece) (here : drop at.piece ps ≡ p ∷ behind) (r : IsRunning table ps found g ts bs choices at) where
  abbrev host : Host
  host = host_at g number

  abbrev used : List Use
  used = uses_at ts number

  open_here : Shown g ts (length g.inners) (frames.Factors number) r.opens
  open_here = shown g ts (length g.inners) (frames.Factors number) r.opens (subst (λ (f : Frame). AreOpen g ts (length g.inners) false f r.opens) framed r.stands.0)

  abbrev beyond : List Open
  beyond = open_here.rest

  abbrev leads_from : ℕ → List State
  leads_from c = lead host used beyond bs table behind p c

  begun : IsFound table ps found g ts bs choices (leads_from at.candidate)
  begun =
      found_same table ps found g ts bs choices (flat_map (reach table behind) (from table p r.opens bs at.candidate)) (leads_from at.candidate)
      (ap (λ (l : List Open). flat_map (reach table behind) (from table p l bs at.candidate)) open_here.is) (found_here table ps found g ts bs choices at p behind r here)

  ahead_is : (c : ℕ) → ahead table (drop at.piece ps) r.opens bs c ≡ leads_from c
  ahead_is c =
      ap (λ (l : List PatternPiece). ahead table l r.opens bs c) here
      ∙ ap (λ (l : List Open). flat_map (reach table behind) (from table p l bs c)) open_here.is

  -- ---- a factor

  module _ (no_end : p ≢ pieces.EndOfProduct) where
    -- no candidate is free
    pub factor_fails : IsNext (is_free host p behind used) (candidates host p) at.candidate None → IsFound table ps found g ts bs choices []
    factor_fails none = found_same table ps found g ts bs choices (leads_from at.candidate) [] (none_free host used beyond bs table behind p no_end at.candidate none) begun

    module _ (n : ℕ) (first : IsNext (is_free host p behind used) (candidates host p) at.candidate (Some n)) (second : Option ℕ) (next : IsNext (is_fit host p behind) (candidates host p) (n + 1) second) where
      abbrev opens_then : List Open
      opens_then = opened host used beyond (use_at host p n)

      abbrev leads_to : Option (List Binding) → List State
      leads_to o = flat_map (reach table behind) (option_to_list (option_map (state opens_then) o))

      abbrev kept : Option ℕ → List Choice
      kept o = keeping o at (length g.inners) (length ts) (length bs) choices

      both_lead : leads_from at.candidate ≡ leads_to (learnt_of bs (asked_at host p n)) ++ leads_from (n + 1)
      both_lead =
          first_free host used beyond bs table behind p no_end at.candidate n first
          ∙ ap (λ (o : Option State). flat_map (reach table behind) (option_to_list o) ++ leads_from (n + 1)) (asking_is opens_then bs (asked_at host p n))

      -- the first one is tried, and the second one left
      left_so : IsFound table ps found g ts bs (kept second) (leads_to (learnt_of bs (asked_at host p n)))
      left_so = by second next
        where
          by : (o : Option ℕ) → IsNext (is_fit host p behind) (candidates host p) (n + 1) o → IsFound table ps found g ts bs (kept o) (leads_to (learnt_of bs (asked_at host p n)))
          by None none =
              found_same table ps found g ts bs choices (leads_from at.candidate) (leads_to (learnt_of bs (asked_at host p n)))
              (both_lead
              ∙ ap (λ (l : List State). leads_to (learnt_of bs (asked_at host p n)) ++ l) (none_fits host used beyond bs table behind p no_end (n + 1) none)
              ∙ append-nil (leads_to (learnt_of bs (asked_at host p n)))) begun
          by (Some d) some =
              found_keeping table ps found g ts bs choices at d r.opens (leads_to (learnt_of bs (asked_at host p n))) (kept (Some d)) r.stands
              (subst (λ (l : List PatternPiece). IsCandidateOf l r.opens d) (sym here) (factor_candidate host p r.opens d some.1)) refl
              (found_same table ps found g ts bs choices (leads_from at.candidate) (leads_to (learnt_of bs (asked_at host p n)) ++ ahead table (drop at.piece ps) r.opens bs d)
              (both_lead ∙ ap (λ (l : List State). leads_to (learnt_of bs (asked_at host p n)) ++ l) (next_fits host used beyond bs table behind p no_end (n + 1) d some ∙ sym (ahead_is d))) begun)

      module _ (new : List Binding) (on : GoesOnAs bs new) where
        -- what it asks can't be learnt
        pub factor_refused : Tells false (learnt_of bs (asked_at host p n)) new → IsFound table ps found g ts new (kept second) []
        factor_refused told =
            found_longer table ps found g g ts ts bs new (kept second) [] refl (as_it_is g.inners) (as_it_is ts) on
            (found_same table ps found g ts bs (kept second) (leads_to (learnt_of bs (asked_at host p n))) [] (ap leads_to told) left_so)

        -- it is taken
        pub factor_taken : Tells true (learnt_of bs (asked_at host p n)) new → IsLawfulUse host (use_at host p n)
            → IsRunning table ps found g (ts ++ record { host = number; made = use_at host p n } ∷ []) new (kept second) (record { piece = at.piece + 1; candidate = 0; frame = frame_of_use number (use_at host p n) })
        factor_taken told lawful =
            let u = use_at host p n in
            let more = ts ++ record { host = number; made = u } ∷ [] in
            let free = not_true (list_any (λ v. clashes v u) used) (both_true (is_fit host p behind n) _ first.2).1 in
            let next_pieces = behind_piece at.piece ps behind p here in
            found_at table ps found g more new (kept second) (at.piece + 1) (frame_of_use number u) opens_then (stands_taking g ts number u r.opens open_here r.stands.1 free lawful)
            (found_longer table ps found g g ts more bs new (kept second) (reach table (drop (at.piece + 1) ps) (state opens_then new)) refl (as_it_is g.inners) (one_longer ts (record { host = number; made = u })) on
            (found_same table ps found g ts bs (kept second) (leads_to (learnt_of bs (asked_at host p n))) (reach table (drop (at.piece + 1) ps) (state opens_then new))
            (ap leads_to told ∙ append-nil (reach table behind (state opens_then new)) ∙ ap (λ (l : List PatternPiece). reach table l (state opens_then new)) (sym next_pieces)) left_so))

-- the second candidate is a later one
pub is_later : (test : ℕ → Bool) (count : ℕ) (at : Standing) (n : ℕ) (second : Option ℕ) → at.candidate ≤ n → IsNext test count (n + 1) second → IfSome second (λ d. d + 1 < 2 ^ 64) → IsLater at second
is_later test count at n None after next small = tt
is_later test count at n (Some d) after next small = (omega (arith, after, next.0), omega (arith, small))

-- ---- so, by what the code has found

module _ (table : List (Option (List Piece))) (ps : List PatternPiece) (found : Option Match) (g : Ground) (ts : List Taken) (bs : List Binding) (choices : List Choice) (at : Standing)
    (number : ℕ) (framed : at.frame ≡ frames.Factors number) (p : PatternPiece) (behind : List PatternPiece) (here : drop at.piece ps ≡ p ∷ behind) (r : IsRunning table ps found g ts bs choices at)
    (no_end : p ≢ pieces.EndOfProduct) (h : Host) (is : h ≡ host_at g number) where
  pub no_candidate : IsNext (is_free h p behind (uses_at ts number)) (candidates h p) at.candidate None → IsFound table ps found g ts bs choices []
  no_candidate none =
      factor_fails table ps found g ts bs choices at number framed p behind here r no_end
      (subst (λ (x : Host). IsNext (is_free x p behind (uses_at ts number)) (candidates x p) at.candidate None) is none)

  module _ (n : ℕ) (made : Use) (first : IsNextFree h p behind (uses_at ts number) (candidates h p) at.candidate (Some (n, made))) (second : Option ℕ) (next : IsNext (is_fit h p behind) (candidates h p) (n + 1) second)
      (terms : ℕ) (counted : terms ≡ length g.inners) (kept : List Choice) (keeps : kept ≡ keeping second at terms (length ts) (length bs) choices) (old new : List Binding) (unbound : old ≡ bs) (on : GoesOnAs old new) where
    abbrev kept_so : List Choice
    kept_so = keeping second at (length g.inners) (length ts) (length bs) choices

    keeps_so : kept ≡ kept_so
    keeps_so = keeps ∙ ap (λ (m : ℕ). keeping second at m (length ts) (length bs) choices) counted

    on_so : GoesOnAs bs new
    on_so = subst (λ (l : List Binding). GoesOnAs l new) unbound on

    pub candidate_refused : (takes : List Taken) → takes ≡ ts → Tells false (learnt_of old (asked_at h p n)) new → IsFound table ps found g takes new kept []
    candidate_refused takes same told =
        subst (λ (l : List Taken). IsFound table ps found g l new kept []) (sym same)
        (subst (λ (l : List Choice). IsFound table ps found g ts new l []) (sym keeps_so)
        (subst (λ (x : Host). IsNextFree x p behind (uses_at ts number) (candidates x p) at.candidate (Some (n, made)) → IsNext (is_fit x p behind) (candidates x p) (n + 1) second → Tells false (learnt_of bs (asked_at x p n)) new
        → IsFound table ps found g ts new kept_so []) (sym is)
        (λ f s t. factor_refused table ps found g ts bs choices at number framed p behind here r no_end n f.0 second s new on_so t)
        first next (subst (λ (l : List Binding). Tells false (learnt_of l (asked_at h p n)) new) unbound told)))

    pub candidate_taken : (takes : List Taken) → takes ≡ ts ++ record { host = number; made = made } ∷ [] → (after : Standing) → after ≡ record { piece = at.piece + 1; candidate = 0; frame = frame_of_use number made }
        → Tells true (learnt_of old (asked_at h p n)) new → IsLawfulUse h made → IsRunning table ps found g takes new kept after
    candidate_taken takes same after goes told lawful =
        subst (λ (l : List Taken). IsRunning table ps found g l new kept after) (sym same)
        (subst (λ (x : Standing). IsRunning table ps found g (ts ++ record { host = number; made = made } ∷ []) new kept x) (sym goes)
        (subst (λ (l : List Choice). IsRunning table ps found g (ts ++ record { host = number; made = made } ∷ []) new l (record { piece = at.piece + 1; candidate = 0; frame = frame_of_use number made })) (sym keeps_so)
        (subst (λ (u : Use). IsLawfulUse h u → IsRunning table ps found g (ts ++ record { host = number; made = u } ∷ []) new kept_so (record { piece = at.piece + 1; candidate = 0; frame = frame_of_use number u })) (sym first.1)
        (subst (λ (x : Host). IsNextFree x p behind (uses_at ts number) (candidates x p) at.candidate (Some (n, use_at x p n)) → IsNext (is_fit x p behind) (candidates x p) (n + 1) second → Tells true (learnt_of bs (asked_at x p n)) new
        → IsLawfulUse x (use_at x p n) → IsRunning table ps found g (ts ++ record { host = number; made = use_at x p n } ∷ []) new kept_so (record { piece = at.piece + 1; candidate = 0; frame = frame_of_use number (use_at x p n) })) (sym is)
        (λ f s t l. factor_taken table ps found g ts bs choices at number framed p behind here r no_end n f.0 second s new on_so t l)
        (first.0, refl) next (subst (λ (l : List Binding). Tells true (learnt_of l (asked_at h p n)) new) unbound told)) lawful)))

-- ---- the end of the factors of an argument

-- what is around the factors of a term in an argument
around_inner : (g : Ground) (ts : List Taken) (n : ℕ) (i : Inner) (rest : List Open) → inner_at g n ≡ Some i
    → IsAround (frames.Factors n) rest (AreOpen g ts (n - 1) true (frames.Arguments (behind_of (inner_at g n))) rest)
    → (x : terms.Argument) × (os : List Open) × (rest ≡ arguments (x ∷ arguments_of (pieces_at g i.behind)) ∷ os) × IsSpan g i.behind × (i.behind.host ≤ n - 1)
    × AreOpen g ts i.behind.host false (around i.behind) os
around_inner g ts zero i rest is holds = cc
around_inner g ts (suc n) i rest is holds = by rest (subst (λ (o : Option Inner). AreOpen g ts (suc n - 1) true (frames.Arguments (behind_of o)) rest) is holds)
  where
    by : (rest : List Open) → AreOpen g ts (suc n - 1) true (frames.Arguments i.behind) rest
        → (x : terms.Argument) × (os : List Open) × (rest ≡ arguments (x ∷ arguments_of (pieces_at g i.behind)) ∷ os) × IsSpan g i.behind × (i.behind.host ≤ suc n - 1)
        × AreOpen g ts i.behind.host false (around i.behind) os
    by [] h = absurd h
    by (o ∷ os) h = (h.0.0, os, ap (λ (p : Open). p ∷ os) h.0.1, h.1, h.2, h.3)

module _ (table : List (Option (List Piece))) (ps : List PatternPiece) (found : Option Match) (g : Ground) (ts : List Taken) (bs : List Binding) (choices : List Choice) (at : Standing)
    (number : ℕ) (framed : at.frame ≡ frames.Factors number) (behind : List PatternPiece) (here : drop at.piece ps ≡ pieces.EndOfProduct ∷ behind) (r : IsRunning table ps found g ts bs choices at) where
  open_end : Shown g ts (length g.inners) (frames.Factors number) r.opens
  open_end = shown g ts (length g.inners) (frames.Factors number) r.opens (subst (λ (f : Frame). AreOpen g ts (length g.inners) false f r.opens) framed r.stands.0)

  abbrev ends : List Open → List State
  ends os = flat_map (reach table behind) (moves table pieces.EndOfProduct (factors (host_at g number) (uses_at ts number) ∷ os) bs)

  ending : IsFound table ps found g ts bs choices (ends open_end.rest)
  ending =
      let first : at.candidate ≡ 0 = subst (λ (l : List PatternPiece). IsCandidateOf l r.opens at.candidate) here r.candidate in
      found_same table ps found g ts bs choices (flat_map (reach table behind) (from table pieces.EndOfProduct r.opens bs at.candidate)) (ends open_end.rest)
      (ap (λ (c : ℕ). flat_map (reach table behind) (from table pieces.EndOfProduct r.opens bs c)) first
      ∙ ap (λ (l : List Open). flat_map (reach table behind) (moves table pieces.EndOfProduct l bs)) open_end.is)
      (found_here table ps found g ts bs choices at pieces.EndOfProduct behind r here)

  -- the factors are those of the term itself
  pub no_argument : inner_at g number ≡ None → IsFound table ps found g ts bs choices []
  no_argument none = found_same table ps found g ts bs choices (ends open_end.rest) [] (by number none open_end.host open_end.rest open_end.around (factors (host_at g number) (uses_at ts number))) ending
    where
      nothing_around : (o : Open) → flat_map (reach table behind) (moves table pieces.EndOfProduct (o ∷ []) bs) ≡ []
      nothing_around (factors h us) = refl
      nothing_around (arguments xs) = refl
      nothing_around (calls cs) = refl

      by : (n : ℕ) → inner_at g n ≡ None → n ≤ length g.inners → (rest : List Open)
          → IsAround (frames.Factors n) rest (AreOpen g ts (n - 1) true (frames.Arguments (behind_of (inner_at g n))) rest) → (o : Open)
          → flat_map (reach table behind) (moves table pieces.EndOfProduct (o ∷ rest) bs) ≡ []
      by zero none within rest holds o = ap (λ (l : List Open). flat_map (reach table behind) (moves table pieces.EndOfProduct (o ∷ l) bs)) holds ∙ nothing_around o
      by (suc n) none within rest holds o = let past = not_got g.inners (suc n - 1) (sym (ap (λ (b : Bool). if b then None else slice_get g.inners (suc n - 1)) (ne_eqb (suc n) 0 (λ e. omega (arith, e)))) ∙ none) in absurd (omega (arith, past, within))

  module _ (i : Inner) (is : inner_at g number ≡ Some i) where
    outside : (x : terms.Argument) × (os : List Open) × (open_end.rest ≡ arguments (x ∷ arguments_of (pieces_at g i.behind)) ∷ os) × IsSpan g i.behind × (i.behind.host ≤ number - 1)
        × AreOpen g ts i.behind.host false (around i.behind) os
    outside = around_inner g ts number i open_end.rest is open_end.around

    ends_so : ends open_end.rest ≡ flat_map (reach table behind) (if is_one (left_of i.term (uses_at ts number)) then state (arguments (arguments_of (pieces_at g i.behind)) ∷ outside.1) bs ∷ [] else [])
    ends_so =
        ap ends outside.2
        ∙ ap (λ (o : Option Inner). flat_map (reach table behind) (if is_one (left_of (host_of g.outer o).term (uses_at ts number)) then state (arguments (arguments_of (pieces_at g i.behind)) ∷ outside.1) bs ∷ [] else [])) is

    -- something of the term is left
    pub something_left : is_one (left_of i.term (uses_at ts number)) ≡ false → IsFound table ps found g ts bs choices []
    something_left left =
        found_same table ps found g ts bs choices (ends open_end.rest) []
        (ends_so ∙ ap (λ (b : Bool). flat_map (reach table behind) (if b then state (arguments (arguments_of (pieces_at g i.behind)) ∷ outside.1) bs ∷ [] else [])) left) ending

    pub argument_ends : is_one (left_of i.term (uses_at ts number)) ≡ true → IsRunning table ps found g ts bs choices (record { piece = at.piece + 1; candidate = 0; frame = frames.Arguments i.behind })
    argument_ends whole =
        let opens = arguments (arguments_of (pieces_at g i.behind)) ∷ outside.1 in
        let within : i.behind.host ≤ length g.inners = omega (arith, outside.4, open_end.host) in
        found_at table ps found g ts bs choices (at.piece + 1) (frames.Arguments i.behind) opens ((refl, outside.3, within, outside.5), r.stands.1)
        (found_same table ps found g ts bs choices (ends open_end.rest) (reach table (drop (at.piece + 1) ps) (state opens bs))
        (ends_so
        ∙ ap (λ (b : Bool). flat_map (reach table behind) (if b then state opens bs ∷ [] else [])) whole
        ∙ append-nil (reach table behind (state opens bs))
        ∙ ap (λ (l : List PatternPiece). reach table l (state opens bs)) (sym (behind_piece at.piece ps behind pieces.EndOfProduct here))) ending)
