-- Where the search stands, as it is kept: terms by their numbers, and what is open by them.
use Rattle.std.specs.Prelude.{◌≡◌, ℕ, zero, ◌+◌, ◌-◌, ◌^◌, ◌==◌, ◌<◌, ◌≤◌, Bool, IsTrue, true, false, if◌then◌else◌, List, [], ◌∷◌, drop, take, length, Option, Some, None, slice_get}
use Rattle.std.specs.List.{filter_map}
use Rattle.form_term.specs.declared.piece.Piece.{Piece}
use Rattle.form_term.specs.Term as terms
use Rattle.form_term.specs.Term.{Call, AreArguments}
use Rattle.form_term.specs.Arguments.{arguments_of}
use Rattle.form_match.specs.declared.places.Frame.{Frame}
use Rattle.form_match.specs.declared.places.Frame.TheVariants as frames
use Rattle.form_match.specs.declared.places.Inner.{Inner}
use Rattle.form_match.specs.declared.places.Span.{Span}
use Rattle.form_match.specs.declared.places.Terms.{Terms}
use Rattle.form_match.specs.declared.trail.Taken.{Taken}
use Rattle.form_match.specs.declared.uses.Use.{Use}
use Rattle.form_match.specs.Matching.{Host, are_apart, inner, outer}
use Rattle.form_match.specs.States.{Open, factors, arguments, calls}

-- the term itself, as it is taken, and those in arguments, each with the arguments behind it
pub record Ground : Type 0 where
  pub outer : Host
  pub inners : List Inner

abbrev pub ground_of : Terms → Ground
ground_of t = record { outer = outer t.term.now t.cuts.now t.is_exact; inners = t.inners.items }

-- with the first so many of them
abbrev pub cut : Ground → ℕ → Ground
cut g n = record { outer = g.outer; inners = take n g.inners }

-- a term by its number: 0 for the term itself
abbrev pub inner_at : Ground → ℕ → Option Inner
inner_at g n = if n == 0 then None else slice_get g.inners (n - 1)

abbrev pub host_of : Host → Option Inner → Host
host_of h None = h
host_of h (Some i) = inner i.term

abbrev pub host_at : Ground → ℕ → Host
host_at g n = host_of g.outer (inner_at g n)

-- the pieces of these arguments
abbrev pub pieces_of : Option Call → List Piece
pieces_of None = []
pieces_of (Some c) = c.pieces

abbrev pub calls_at : Ground → Span → List Call
calls_at g span = if span.in_word then (host_at g span.host).term.others.word else (host_at g span.host).term.others.functions

abbrev pub pieces_at : Ground → Span → List Piece
pieces_at g span = drop span.from (pieces_of (slice_get (calls_at g span) span.place))

-- what is taken of a term
abbrev pub use_of : ℕ → Taken → Option Use
use_of n t = if t.host == n then Some t.made else None

abbrev pub uses_at : List Taken → ℕ → List Use
uses_at ts n = filter_map (use_of n) ts

-- what goes on behind arguments: the factors of a term, or its word behind their function
abbrev pub behind : Span → Frame
behind span = if span.in_word then frames.Calls span.host (span.place + 1) else frames.Factors span.host

-- what is around arguments: the factors of a term, or its word from their function on
abbrev pub around : Span → Frame
around span = if span.in_word then frames.Calls span.host span.place else frames.Factors span.host

-- the arguments behind a term in an argument
abbrev pub behind_of : Option Inner → Span
behind_of None = record { host = 0; in_word = false; place = 0; from = 0 }
behind_of (Some i) = i.behind

-- What a frame stands for. Of arguments, one of which is begun, the frame is those behind that.
abbrev pub open_of : Ground → List Taken → Frame → Open
open_of g ts (frames.Factors n) = factors (host_at g n) (uses_at ts n)
open_of g ts (frames.Arguments span) = arguments (arguments_of (pieces_at g span))
open_of g ts (frames.Calls n from) = calls (drop from (host_at g n).term.others.word)

abbrev pub IsOpenOf : Ground → List Taken → (is_begun : Bool) → Frame → Open → Type 0
IsOpenOf g ts true (frames.Arguments span) o = (x : terms.Argument) × (o ≡ arguments (x ∷ arguments_of (pieces_at g span)))
IsOpenOf g ts is_begun f o = o ≡ open_of g ts f

-- what holds of arguments that are left, and so of a frame
abbrev pub IsSpan : Ground → Span → Type 0
IsSpan g span = AreArguments (pieces_at g span) × (span.place + 1 < 2 ^ 64)

abbrev pub IsLawfulFrame : Ground → Frame → Type 0
IsLawfulFrame g (frames.Arguments span) = IsSpan g span
IsLawfulFrame g f = Unit {0}

-- the term of which a frame is, by its number
abbrev pub host_of_frame : Frame → ℕ
host_of_frame (frames.Factors n) = n
host_of_frame (frames.Arguments span) = span.host
host_of_frame (frames.Calls n from) = n

-- What is around a frame, and whether that is arguments one of which is begun. Around the factors of a term in an argument
-- are frames of earlier terms.
abbrev pub frame_around : Ground → Frame → Frame
frame_around g (frames.Factors n) = frames.Arguments (behind_of (inner_at g n))
frame_around g (frames.Arguments span) = around span
frame_around g (frames.Calls n from) = frames.Factors n

abbrev pub begins_around : Frame → Bool
begins_around (frames.Factors n) = true
begins_around f = false

abbrev pub latest_around : Frame → ℕ
latest_around (frames.Factors n) = n - 1
latest_around (frames.Arguments span) = span.host
latest_around (frames.Calls n from) = n

-- Nothing is around the factors of the term itself; around all else there is something, of which this is claimed.
abbrev pub IsAround : Frame → List Open → Type 0 → Type 0
IsAround (frames.Factors zero) os claim = os ≡ []
IsAround f os claim = claim

-- What is open where a frame is: that, and what is around it, each of a term that is no later one than this.
abbrev pub AreOpen : Ground → List Taken → (latest : ℕ) → (is_begun : Bool) → Frame → List Open → Type 0
AreOpen g ts latest is_begun f [] = ⊥
AreOpen g ts latest is_begun f (o ∷ os) =
    IsOpenOf g ts is_begun f o × IsLawfulFrame g f × (host_of_frame f ≤ latest)
    × IsAround f os (AreOpen g ts (latest_around f) (begins_around f) (frame_around g f) os)

-- Nothing is taken twice of a term, and nothing of one that isn't made yet.
abbrev pub AreTaken : Ground → List Taken → Type 0
AreTaken g ts = (n : ℕ) → IsTrue (are_apart (uses_at ts n)) × (length g.inners < n → uses_at ts n ≡ [])

-- the search stands at a frame, where this is open
abbrev pub Stands : Ground → List Taken → Frame → List Open → Type 0
Stands g ts frame os = AreOpen g ts (length g.inners) false frame os × AreTaken g ts
