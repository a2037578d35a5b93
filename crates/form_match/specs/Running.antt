-- The search as it runs: what it finds from where it stands, and by the choices that are left to it.
use Rattle.std.specs.Prelude.{◌≡◌, ◌<◌, ◌≤◌, ◌+◌, ◌-◌, ◌*◌, ◌^◌, ℕ, zero, suc, Bool, true, false, List, [], ◌∷◌, ◌++◌, Option, Some, None, Result, IfOk, IfSome, length, take, drop, flat_map}
use Rattle.form_term.specs.declared.piece.Piece.{Piece}
use Rattle.form_term.specs.Term.{pieces_of_arguments}
use Rattle.form_tree.specs.declared.pattern.PatternPiece.{PatternPiece}
use Rattle.form_tree.specs.declared.pattern.PatternPiece.TheVariants as pieces
use Rattle.form_match.specs.declared.matching.Match.{Match}
use Rattle.form_match.specs.declared.trail.Choice.{Choice}
use Rattle.form_match.specs.declared.trail.Standing.{Standing}
use Rattle.form_match.specs.declared.trail.Taken.{Taken}
use Rattle.form_match.specs.declared.trail.Trail.{Trail}
use Rattle.form_match.specs.declared.uses.Use.{Use}
use Rattle.form_match.specs.Candidates.{from}
use Rattle.form_match.specs.Places.{Ground, Stands, cut}
use Rattle.form_match.specs.States.{Open, arguments, State, state, first_found, reach}
use Rattle.form_bindings.specs.Values.{Binding}

-- A candidate that the search may stand at: any one of a factor; of a field, how many pieces the first so many arguments
-- have; of any other piece, the first one.
abbrev pub IsCandidate : PatternPiece → List Open → ℕ → Type 0
IsCandidate (pieces.Symbol n k) os c = Unit {0}
IsCandidate (pieces.Whole n m) os c = Unit {0}
IsCandidate (pieces.Dot p q k) os c = Unit {0}
IsCandidate (pieces.Component v i) os c = Unit {0}
IsCandidate (pieces.Delta i j) os c = Unit {0}
IsCandidate (pieces.Function n) os c = Unit {0}
IsCandidate (pieces.Word n) os c = Unit {0}
IsCandidate (pieces.Field w) (arguments xs ∷ os) c = (n : ℕ) × (n ≤ length xs) × (c ≡ length (pieces_of_arguments (take n xs)))
IsCandidate p os c = c ≡ 0

abbrev pub IsCandidateOf : List PatternPiece → List Open → ℕ → Type 0
IsCandidateOf [] os c = Unit {0}
IsCandidateOf (p ∷ ps) os c = IsCandidate p os c

-- what pieces lead to from a candidate of the first of them on
abbrev pub ahead : List (Option (List Piece)) → List PatternPiece → List Open → List Binding → ℕ → List State
ahead table [] os bs c = state os bs ∷ []
ahead table (p ∷ ps) os bs c = flat_map (reach table ps) (from table p os bs c)

-- The last choice leads to these states, and those before it to others.
pub record IsLast (table : List (Option (List Piece))) (ps : List PatternPiece) (Earlier : Ground → List Taken → List Binding → List Choice → Type 0) (g : Ground) (ts : List Taken) (bs : List Binding) (states : List State) (choices : List Choice) : Type 0 where
  pub before : List Choice
  pub last : Choice
  pub opens : List Open
  pub parts : choices ≡ before ++ last ∷ []
  pub terms : last.terms ≤ length g.inners
  pub taken : last.taken ≤ length ts
  pub bound : last.bound ≤ length bs
  pub stands : Stands (cut g last.terms) (take last.taken ts) last.at.frame opens
  pub candidate : IsCandidateOf (drop last.at.piece ps) opens last.at.candidate
  pub leads : states ≡ ahead table (drop last.at.piece ps) opens (take last.bound bs) last.at.candidate
  pub earlier : Earlier (cut g last.terms) (take last.taken ts) (take last.bound bs) before

abbrev pub AreLeft : List (Option (List Piece)) → List PatternPiece → List (List State) → Ground → List Taken → List Binding → List Choice → Type 0
AreLeft table ps [] g ts bs choices = choices ≡ []
AreLeft table ps (states ∷ trail) g ts bs choices = IsLast table ps (AreLeft table ps trail) g ts bs states choices

-- all that choices lead to, the last one first
abbrev pub all_left : List (List State) → List State
all_left [] = []
all_left (states ∷ trail) = states ++ all_left trail

-- This is found: by the first of these states, or by what the choices lead to that are left.
pub record IsFound (table : List (Option (List Piece))) (ps : List PatternPiece) (found : Option Match) (g : Ground) (ts : List Taken) (bs : List Binding) (choices : List Choice) (states : List State) : Type 0 where
  pub trail : List (List State)
  pub left : AreLeft table ps trail g ts bs choices
  pub finds : found ≡ first_found (states ++ all_left trail)

-- The search stands somewhere, and this is found from here on, or by the choices that are left.
pub record IsRunning (table : List (Option (List Piece))) (ps : List PatternPiece) (found : Option Match) (g : Ground) (ts : List Taken) (bs : List Binding) (choices : List Choice) (at : Standing) : Type 0 where
  pub opens : List Open
  pub stands : Stands g ts at.frame opens
  pub candidate : IsCandidateOf (drop at.piece ps) opens at.candidate
  pub finds : IsFound table ps found g ts bs choices (ahead table (drop at.piece ps) opens bs at.candidate)

-- It goes on there, or this way leads nowhere: then the choices find it.
abbrev pub GoesOn : Option Standing → List (Option (List Piece)) → List PatternPiece → Option Match → Ground → List Taken → List Binding → List Choice → Type 0
GoesOn (Some at) table ps found g ts bs choices = IsRunning table ps found g ts bs choices at
GoesOn None table ps found g ts bs choices = IsFound table ps found g ts bs choices []

-- Where pieces are to be tried: something is open there, and there are pieces, no more than can be numbered.
pub record IsSomewhere (g : Ground) (ts : List Taken) (at : Standing) (here : List PatternPiece) : Type 0 where
  pub opens : List Open
  pub stands : Stands g ts at.frame opens
  pub candidate : IsCandidateOf here opens at.candidate
  pub some : 0 < length here
  pub room : at.piece + length here < 2 ^ 64

-- what a step answers that takes the first of these pieces, and maybe some behind it
abbrev pub IsStep : {E : Type 0} → Result (Option Standing) E → List (Option (List Piece)) → List PatternPiece → Standing → (g h : Ground) → (old new : Trail) → Type 0
IsStep r table here at g h old new =
    (ps : List PatternPiece) (found : Option Match) → drop at.piece ps ≡ here → IsRunning table ps found g old.takes.items old.bindings old.choices.items at
    → IfOk r (λ next. GoesOn next table ps found h new.takes.items new.bindings new.choices.items)

-- what a turn of the search answers: where it goes on, and none where nothing is found
abbrev pub IsOn : Option Standing → List (Option (List Piece)) → List PatternPiece → Option Match → Ground → List Taken → List Binding → List Choice → Type 0
IsOn (Some at) table ps found g ts bs choices = IsRunning table ps found g ts bs choices at
IsOn None table ps found g ts bs choices = found ≡ None

abbrev pub IsTurn : {E : Type 0} → Result (Option Standing) E → List (Option (List Piece)) → List PatternPiece → Standing → (g h : Ground) → (old new : Trail) → Type 0
IsTurn r table here at g h old new =
    (ps : List PatternPiece) (found : Option Match) → drop at.piece ps ≡ here → IsRunning table ps found g old.takes.items old.bindings old.choices.items at
    → IfOk r (λ next. IsOn next table ps found h new.takes.items new.bindings new.choices.items)

-- the choices once a second candidate is left, where there is one
abbrev pub keeping : Option ℕ → Standing → (terms taken bound : ℕ) → List Choice → List Choice
keeping None at terms taken bound choices = choices
keeping (Some c) at terms taken bound choices = choices ++ record { at = record at { candidate = c }; terms = terms; taken = taken; bound = bound } ∷ []

-- the last choice is taken, and what was taken, bound and made since it was left is given back
abbrev pub IsBack : Option Choice → (old new : Trail) → Type 0
IsBack None old new = old.choices.items ≡ []
IsBack (Some c) old new =
    (old.choices.items ≡ new.choices.items ++ c ∷ []) × (new.takes.items ≡ take c.taken old.takes.items) × (new.bindings ≡ take c.bound old.bindings)

abbrev pub IsRetreat : Option Standing → (g h : Ground) → (old new : Trail) → Type 0
IsRetreat None g h old new = (old.choices.items ≡ []) × (h ≡ g)
IsRetreat (Some at) g h old new = (c : Choice) × (at ≡ c.at) × IsBack (Some c) old new × (h ≡ cut g c.terms)

-- ---- that it ends

-- how many ways there may be through so many pieces: each has fewer candidates than this
unfoldable pub all_ways : ℕ → ℕ
all_ways zero = 1
all_ways (suc n) = (2 ^ 64 + 2) * all_ways n

-- how many of so many pieces in all are left from a place on, each candidate there with all ways behind it
unfoldable pub ways_from : ℕ → Standing → ℕ
ways_from count at = suc (2 ^ 64 - at.candidate) * all_ways (count - at.piece)

abbrev pub ways_left : ℕ → List Choice → ℕ
ways_left count [] = 0
ways_left count (c ∷ cs) = ways_from count c.at + ways_left count cs

abbrev pub ways_then : ℕ → Option Standing → List Choice → ℕ
ways_then count None choices = ways_left count choices
ways_then count (Some at) choices = ways_from count at + ways_left count choices

-- a step leaves fewer ways
abbrev pub IsLess : {E : Type 0} → Result (Option Standing) E → List PatternPiece → Standing → (old new : Trail) → Type 0
IsLess r here at old new =
    IfOk r (λ next. ways_then (at.piece + length here) next new.choices.items < ways_then (at.piece + length here) (Some at) old.choices.items)

-- and so does a turn that goes on
abbrev pub IsFewer : {E : Type 0} → Result (Option Standing) E → List PatternPiece → Standing → (old new : Trail) → Type 0
IsFewer r here at old new =
    IfOk r (λ next. IfSome next (λ n. ways_then (at.piece + length here) (Some n) new.choices.items < ways_then (at.piece + length here) (Some at) old.choices.items))

-- ---- what it comes to

-- whether something was found, and what it is then
abbrev pub Finds : Bool → Option Match → List Use → List Binding → Type 0
Finds true found us bs = found ≡ Some (record { takes = us; bindings = bs })
Finds false found us bs = found ≡ None
