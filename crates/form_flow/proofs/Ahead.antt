-- How many terms may go on their way yet at most.
use Rattle.std.proofs.Common.{◌≡◌, ℕ, zero, suc, ◌+◌, ◌-◌, ◌*◌, ◌≤◌, ◌<◌, List, [], ◌∷◌, ◌++◌, length, take, set, get_or, Option, Some, None, Result, Ok, Err, refl, sym, ap, subst, ◌∙◌, arith}
use Rattle.std.proofs.lemmas.List.Sums.{sum_by_push}
use Rattle.form_term.specs.declared.monomial.Monomial.{Monomial}
use Rattle.form_expand.specs.declared.error.ExpandError.{ExpandError}
use Rattle.form_expand.specs.declared.error.ExpandError.TheVariants as errors
use Rattle.form_expand.specs.Listing.{Listing, before}
use Rattle.form_base.specs.declared.cause.Cause.{Cause}
use Rattle.form_flow.specs.declared.descent.Descent.{Descent}
use Rattle.form_flow.specs.declared.descent.Frame.{Frame}
use Rattle.form_flow.specs.declared.path.Path.{Path}
use Rattle.form_flow.specs.Frames.{Takes, TakesFrame, TakesLast}
use Rattle.form_flow.specs.Left.{Moves, Steps, limits_of, step_of}
use Rattle.form_flow.specs.Nearing.{Nears, Spends, Starts, Waits, ahead, first_ahead, frame_ahead, frames_ahead, on_way_ahead, two_to, waiting_ahead, way_weight}
use Rattle.form_flow.specs.Outcome.{Outcome}
use Rattle.form_flow.specs.Sources.{listed}
use Rattle.form_flow.specs.Statement.{Limits}
use Rattle.form_flow.specs.Weight.{path_weight}
use Rattle.form_flow.proofs.Waiting.{last_read, last_set}

-- ---- powers of two

two_suc : (n : ℕ) → two_to (suc n) ≡ two_to n + two_to n
unfolding two_to
two_suc n = refl

pub two_least : (n : ℕ) → 0 < two_to n
unfolding two_to
two_least zero = omega arith
two_least (suc n) = let least = two_least n in omega (arith, least)

two_more : (n a : ℕ) → two_to a ≤ two_to (n + a)
two_more zero a = let e : a ≡ zero + a = omega arith in let same = ap two_to e in omega (arith, same)
two_more (suc n) a =
    let e : suc n + a ≡ suc (n + a) = omega arith in
    let same = ap two_to e ∙ two_suc (n + a) in
    let less = two_more n a in
    omega (arith, same, less)

pub two_mono : (a b : ℕ) → a ≤ b → two_to a ≤ two_to b
two_mono a b h =
    let e : b ≡ (b - a) + a = omega (arith, h) in
    let same = ap two_to e in
    let less = two_more (b - a) a in
    omega (arith, same, less)

pub two_less : (a b : ℕ) → a < b → two_to a < two_to b
two_less a b h =
    let least = two_least a in
    let same = two_suc a in
    let less = two_mono (suc a) b (omega (arith, h)) in
    omega (arith, least, same, less)

-- a list of so many terms
two_spread : (n w : ℕ) → suc n * two_to w ≤ two_to (n + w)
two_spread zero w = let e : w ≡ zero + w = omega arith in let same = ap two_to e in omega (arith, same)
two_spread (suc n) w =
    let e : suc n + w ≡ suc (n + w) = omega arith in
    let same = ap two_to e ∙ two_suc (n + w) in
    let less = two_spread n w in
    let more = two_more n w in
    omega (arith, same, less, more)

-- ---- frames

last_ahead : (at : Limits) (fs : List Frame) (n : ℕ) (f : Frame) → suc n ≡ length fs → f ≡ get_or fs n f → frames_ahead at fs ≡ frames_ahead at (take n fs) + frame_ahead at f
last_ahead at fs n f is read = ap (frames_ahead at) (last_read fs n f is read) ∙ sum_by_push (frame_ahead at) (take n fs) f

new_ahead : (at : Limits) (fs : List Frame) (n : ℕ) (f : Frame) → suc n ≡ length fs → frames_ahead at (set fs n f) ≡ frames_ahead at (take n fs) + frame_ahead at f
new_ahead at fs n f is = ap (frames_ahead at) (last_set fs n f is) ∙ sum_by_push (frame_ahead at) (take n fs) f

pub pushed_ahead : (at : Limits) (fs new : List Frame) (f : Frame) → new ≡ fs ++ f ∷ [] → frames_ahead at new ≡ frames_ahead at fs + frame_ahead at f
pushed_ahead at fs new f is = ap (frames_ahead at) is ∙ sum_by_push (frame_ahead at) fs f

pub none_ahead : (at : Limits) (fs : List Frame) → fs ≡ [] → frames_ahead at fs ≡ 0
none_ahead at fs is = ap (frames_ahead at) is

spend_one : (a b x l k : ℕ) → a ≡ x → b ≡ x → l ≡ suc k → a + suc k * b ≤ suc l * x
spend_one a b x l k is by long =
    let same : a + suc k * b ≡ suc l * x = ap (λ y. y + suc k * b) is ∙ ap (λ y. x + suc k * y) by ∙ omega arith ∙ ap (λ y. suc y * x) (sym long) in
    omega (arith, same)

-- its next term comes from the source
pub takes_next : (at : Limits) (old new : Frame) (path : Path) (m : Monomial) → new.path ≡ old.path → path_weight at path ≡ path_weight at old.path → listed old.source ≡ before m (listed new.source)
    → two_to (path_weight at path) + frame_ahead at new ≤ frame_ahead at old
takes_next at old new path m same weight is =
    spend_one (two_to (path_weight at path)) (two_to (path_weight at new.path)) (two_to (path_weight at old.path)) (length (listed old.source).terms) (length (listed new.source).terms)
    (ap two_to weight) (ap (λ p. two_to (path_weight at p)) same) (ap (λ (l : Listing). length l.terms) is)

-- its last term goes
pub takes_last : (at : Limits) (old new : Frame) → new.path ≡ old.path → two_to (path_weight at new.path) ≤ frame_ahead at old
takes_last at old new same = let e = ap (λ p. two_to (path_weight at p)) same in omega (arith, e)

-- its source can't go on
pub takes_err : (e : ExpandError) (at : Limits) (old new : Frame) (path : Path) → new.path ≡ old.path → Takes at (Err e) old path new
takes_err (errors.Refused c) at old new path same = takes_last at old new same
takes_err errors.Memory at old new path same = tt

-- ---- a term of the innermost frame starts

module _ (at : Limits) (fs : List Frame) (n : ℕ) (f g : Frame) (is : suc n ≡ length fs) (read : f ≡ get_or fs n f) where
  pub one_starts : (a first : ℕ) → a + frame_ahead at g ≤ frame_ahead at f → a + frames_ahead at (set fs n g) ≤ first + frames_ahead at fs
  one_starts a first less =
      let old = last_ahead at fs n f is read in
      let new = new_ahead at fs n g is in
      omega (arith, less, old, new)

  pub last_starts : (a first : ℕ) → a ≤ frame_ahead at f → a + frames_ahead at (take n fs) ≤ first + frames_ahead at fs
  last_starts a first less = let old = last_ahead at fs n f is read in omega (arith, less, old)

pub frame_starts : (r : Option Monomial) (old new start : Descent) (fs : List Frame) (g : Frame) → TakesFrame r old new → old.frames.items ≡ fs ++ g ∷ []
    → two_to (path_weight (limits_of old) g.path) + frames_ahead (limits_of old) fs ≤ ahead start → Starts (Ok r) start new
frame_starts None old new start fs g takes last less = tt
frame_starts (Some m) old new start fs g takes last less =
    let at = limits_of old in
    let t = takes.1 fs g last in
    let same : on_way_ahead new ≡ two_to (path_weight at g.path) + frames_ahead at fs =
    ap on_way_ahead takes.0
    ∙ ap (λ p. two_to (path_weight at p) + frames_ahead at new.frames.items) t.1
    ∙ ap (λ gs. two_to (path_weight at g.path) + frames_ahead at gs) t.2 in
    omega (arith, same, less)

pub last_frame_starts : (r : Option Monomial) (c : Cause) (old new start : Descent) (fs : List Frame) (g : Frame) → TakesLast r c old new → old.frames.items ≡ fs ++ g ∷ []
    → two_to (path_weight (limits_of old) g.path) + frames_ahead (limits_of old) fs ≤ ahead start → Starts (Ok r) start new
last_frame_starts None c old new start fs g takes last less = tt
last_frame_starts (Some m) c old new start fs g takes last less =
    let at = limits_of old in
    let t = takes.2 fs g last in
    let same : on_way_ahead new ≡ two_to (path_weight at g.path) + 0 =
    ap on_way_ahead takes.0
    ∙ ap (λ p. two_to (path_weight at p) + frames_ahead at new.frames.items) t.1
    ∙ ap (λ gs. two_to (path_weight at g.path) + frames_ahead at gs) takes.1 in
    omega (arith, same, less)

-- ---- a list goes on

pub waits_frame : (m : Monomial) (old new : Descent) (f : Frame) → way_weight new ≡ way_weight old → path_weight (limits_of old) f.path ≡ way_weight old
    → waiting_ahead new ≡ waiting_ahead old + frame_ahead (limits_of old) f → (n : ℕ) → n ≡ suc (length (listed f.source).terms) → Waits (Ok (Some m)) n old new
waits_frame m old new f same by pushed n is =
    let x = two_to (way_weight old) in
    let k = suc (length (listed f.source).terms) in
    let a = ap two_to same in
    let b : k * two_to (path_weight (limits_of old) f.path) ≡ k * x = ap (λ w. k * two_to w) by in
    let c : suc n * x ≡ suc k * x = ap (λ y. suc y * x) is in
    omega (arith, a, b, c, pushed)

-- as many wait as before, or fewer
pub waits_none : (m : Monomial) (n : ℕ) (old new : Descent) → way_weight new ≡ way_weight old → waiting_ahead new ≤ waiting_ahead old → Waits (Ok (Some m)) n old new
waits_none m n old new same less = let a = ap two_to same in omega (arith, a, less)

times_added : (k d x : ℕ) → suc k * x ≤ suc (k + d) * x
times_added k d x = omega arith

times_more : (k n x : ℕ) → k ≤ n → suc k * x ≤ suc n * x
times_more k n x less =
    let e : n ≡ k + (n - k) = omega (arith, less) in
    subst (λ y. suc k * x ≤ suc y * x) (sym e) (times_added k (n - k) x)

pub waits_from : (r : Result (Option Monomial) ExpandError) (k n : ℕ) (old mid new : Descent) → Waits r k mid new → k ≤ n → way_weight mid ≡ way_weight old → waiting_ahead mid ≡ waiting_ahead old → Waits r n old new
waits_from (Ok (Some m)) k n old mid new waits less same waiting =
    let x = two_to (way_weight old) in
    let a : suc k * two_to (way_weight mid) ≡ suc k * x = ap (λ w. suc k * two_to w) same in
    let more = times_more k n x less in
    omega (arith, waits, a, more, waiting)
waits_from (Ok None) k n old mid new waits less same waiting = omega (arith, waits, waiting)
waits_from (Err e) k n old mid new waits less same waiting = tt

-- ---- a statement

pub spends_waits : (r : Result (Option Monomial) ExpandError) (n : ℕ) (old new : Descent) → Waits r n old new → Spends r n old new
spends_waits (Ok (Some m)) n old new waits = let spread = two_spread n (way_weight old) in omega (arith, waits, spread)
spends_waits (Ok None) n old new waits = omega (arith, waits)
spends_waits (Err e) n old new waits = tt

pub spends_way : (m : Monomial) (n : ℕ) (old new : Descent) → way_weight new ≤ n + way_weight old → waiting_ahead new ≡ waiting_ahead old → Spends (Ok (Some m)) n old new
spends_way m n old new less waiting = let mono = two_mono (way_weight new) (n + way_weight old) less in omega (arith, mono, waiting)

-- ---- a step

pub stepped_moves : (r : Result (Option Monomial) ExpandError) (x : Outcome) (new : Descent) → Moves r x new → Steps (step_of r) x new
stepped_moves (Ok (Some m)) x new moves = moves
stepped_moves (Ok None) x new moves = moves
stepped_moves (Err e) x new moves = moves

pub stepped_nears : (r : Result (Option Monomial) ExpandError) (n : ℕ) (x : Outcome) (old mid new : Descent) → Spends r n mid new → way_weight old ≡ suc n + way_weight mid → waiting_ahead old ≡ waiting_ahead mid
    → Moves r x new → Nears (step_of r) old new
stepped_nears (Ok (Some m)) n x old mid new spends weight waiting moves =
    let e : way_weight old ≡ suc (n + way_weight mid) = omega (arith, weight) in
    let same = ap two_to e ∙ two_suc (n + way_weight mid) in
    let least = two_least (n + way_weight mid) in
    omega (arith, spends, same, least, waiting)
stepped_nears (Ok None) n x old mid new spends weight waiting moves =
    let e : way_weight old ≡ suc (n + way_weight mid) = omega (arith, weight) in
    let same = ap two_to e ∙ two_suc (n + way_weight mid) in
    let least = two_least (n + way_weight mid) in
    let none : first_ahead new new.first ≡ 0 = ap (first_ahead new) moves.1 in
    omega (arith, spends, same, least, waiting, none)
stepped_nears (Err e) n x old mid new spends weight waiting moves = tt

-- ---- the end of a block

pub inside_nears : (old : Descent) (path : Path) → path_weight (limits_of old) path < way_weight old → on_way_ahead (record old { path = path }) < on_way_ahead old
inside_nears old path less = let two = two_less (path_weight (limits_of old) path) (way_weight old) less in omega (arith, two)

pub outside_nears : (old : Descent) (path : Path) → old.first ≡ None → ahead (record old { path = path }) < on_way_ahead old
outside_nears old path none =
    let first : first_ahead (record old { path = path }) old.first ≡ 0 = ap (first_ahead (record old { path = path })) none in
    let least = two_least (way_weight old) in
    omega (arith, first, least)

pub two_passed : (w n v : ℕ) → w ≡ suc n + v → two_to (n + v) ≤ two_to w
two_passed w n v is = two_mono (n + v) w (omega (arith, is))

-- a block within arguments
pub two_within : (b w : ℕ) → two_to (suc b) + two_to (suc b) ≤ two_to (suc (suc b) + w)
two_within b w = let same = two_suc (suc b) in let mono = two_mono (suc (suc b)) (suc (suc b) + w) (omega arith) in omega (arith, same, mono)
