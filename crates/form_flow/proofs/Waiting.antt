-- What waits, and what goes on.
use Rattle.std.proofs.Common.{◌≡◌, ℕ, suc, Bool, true, false, List, [], ◌∷◌, ◌++◌, fold, map, length, take, set, get_or, Option, Some, None, Ok, Err, refl, sym, ap, ◌∙◌, arith}
use Rattle.std.proofs.lemmas.List.{drop_all, length_push, set_split, set-get_or}
use Rattle.std.proofs.lemmas.List.Sums.{fold_push}
use Rattle.form_base.specs.declared.cause.Cause.{Cause}
use Rattle.form_base.specs.declared.cause.Cause.TheVariants.{RepeatBudget}
use Rattle.form_term.specs.declared.monomial.Monomial.{Monomial}
use Rattle.form_expand.specs.Listing as listing
use Rattle.form_expand.specs.Listing.{Listing, nothing, before}
use Rattle.form_expand.specs.declared.error.ExpandError.{ExpandError}
use Rattle.form_expand.specs.declared.error.ExpandError.TheVariants as errors
use Rattle.form_flow.specs.declared.descent.Descent.{Descent}
use Rattle.form_flow.specs.declared.descent.Frame.{Frame}
use Rattle.form_flow.specs.declared.path.Path.{Path}
use Rattle.form_flow.specs.Outcome.{output, Outcome, and_then, bind, each, end_of, gone, made, or_acted, refusal, silent, then_at, unchanged}
use Rattle.form_flow.specs.Frames.{Advances, TakesFrame, TakesLast}
use Rattle.form_flow.specs.Left.{Begins, Moves, Nexts, Refuses, and_outer, ending, going, left, now, waiting, left_of_frame, left_of_frames, limits_of, on_way, pending}
use Rattle.form_flow.specs.Paths.{ways}
use Rattle.form_flow.specs.Sources.{HasEffect, listed}
use Rattle.form_flow.specs.Statements.{action}
use Rattle.form_flow.specs.Ways.{Acting, Way, finish, out}
use Rattle.form_flow.proofs.Binding.{bind_single, gone_then, or_or, silent_commutes, then_assoc, then_gone}
use Rattle.form_flow.proofs.Finishing.{or_true}

-- ---- what is there now

pub refused_now : (h : Bool) (c : Cause) (rest : Outcome) → and_then (silent h) (and_then (refusal c) rest) ≡ refusal c
unfolding then_at
refused_now h c rest = refl

pub first_now : (h : Bool) (a b rest : Outcome) → and_then (silent h) (and_then (and_then a b) rest) ≡ and_then (silent h) (and_then a (and_then b rest))
first_now h a b rest = ap (and_then (silent h)) (then_assoc a b rest)

silent_true : (h : Bool) (a : Outcome) → and_then (silent h) (and_then (silent true) a) ≡ and_then (silent true) a
unfolding then_at
silent_true h a = ap (λ e. record { outputs = a.outputs; end = e }) (or_or h true a.end ∙ ap (λ b. or_acted b a.end) (or_true h))

pub marked_now : (h : Bool) (a rest : Outcome) → and_then (silent h) (and_then (and_then (silent true) a) rest) ≡ and_then (silent true) (and_then a rest)
marked_now h a rest = first_now h (silent true) a rest ∙ silent_true h (and_then a rest)

pub output_now : (h : Bool) (m : Monomial) (rest : Outcome)
    → and_then (silent h) (and_then (unchanged m) rest) ≡ and_then (unchanged m) (and_then (silent h) (and_then gone rest))
output_now h m rest =
    sym (silent_commutes h (unchanged m).outputs (unchanged m).end rest)
    ∙ ap (λ r. and_then (unchanged m) (and_then (silent h) r)) (sym (gone_then rest))

-- behind a refusal nothing comes
refused_behind : (c : Cause) (rest : Outcome) → and_then (refusal c) rest ≡ refusal c
unfolding then_at
refused_behind c rest = refl

-- ---- frames

pub one_frame : (act : Acting) (end : Option Cause) (fs new : List Frame) (f : Frame) → new ≡ fs ++ f ∷ []
    → left_of_frames act end new ≡ and_then (left_of_frame act f) (left_of_frames act end fs)
unfolding left_of_frames
one_frame act end fs new f is = ap (fold (and_outer act) (ending end)) is ∙ fold_push (and_outer act) (ending end) fs f

pub no_frame : (act : Acting) (end : Option Cause) (fs : List Frame) → fs ≡ [] → left_of_frames act end fs ≡ ending end
unfolding left_of_frames
no_frame act end fs is = ap (fold (and_outer act) (ending end)) is

-- the last of a list, by its place
pub last_set : {X : Type 0} (xs : List X) (n : ℕ) (x : X) → suc n ≡ length xs → set xs n x ≡ take n xs ++ x ∷ []
last_set xs n x is =
    set_split xs n x (omega (arith, is)) ∙ ap (λ ys. take n xs ++ x ∷ ys) (drop_all (suc n) xs (omega (arith, is)))

pub last_read : {X : Type 0} (xs : List X) (n : ℕ) (x : X) → suc n ≡ length xs → x ≡ get_or xs n x → xs ≡ take n xs ++ x ∷ []
last_read xs n x is read = sym (ap (set xs n) read ∙ set-get_or xs n x) ∙ last_set xs n x is

-- the innermost frame, by its place
pub last_frame : (act : Acting) (end : Option Cause) (fs : List Frame) (n : ℕ) (f : Frame) → suc n ≡ length fs → f ≡ get_or fs n f
    → left_of_frames act end fs ≡ and_then (left_of_frame act f) (left_of_frames act end (take n fs))
last_frame act end fs n f is read = one_frame act end (take n fs) fs f (last_read fs n f is read)

pub new_frame : (act : Acting) (end : Option Cause) (fs : List Frame) (n : ℕ) (f : Frame) → suc n ≡ length fs
    → left_of_frames act end (set fs n f) ≡ and_then (left_of_frame act f) (left_of_frames act end (take n fs))
new_frame act end fs n f is = one_frame act end (take n fs) (set fs n f) f (last_set fs n f is)

-- ---- lists

pub going_before : (ws : List Way) (m : Monomial) (l : Listing) → going ws (before m l) ≡ and_then (finish ws false m) (going ws l)
unfolding each
going_before ws m l = refl

pub going_nothing : (ws : List Way) → going ws nothing ≡ gone
unfolding each
going_nothing ws = refl

pub going_refusal : (ws : List Way) (c : Cause) → going ws (listing.refusal c) ≡ refusal c
unfolding each
going_refusal ws c = refl

pub bind_gone : (ws : List Way) → bind (out ws) gone ≡ gone
unfolding each
bind_gone ws = refl

-- ---- a list that a statement made

module _ (old new : List Way) (alike : (m : Monomial) → finish new false m ≡ finish old true m) where
  each_made : (ms : List Monomial) (end : Option Cause) → each (out old) (map (output true) ms) (end_of true end)
      ≡ and_then (silent true) (each (λ y. finish new false y.item) (map (output false) ms) (end_of false end))
  unfolding each then_at
  each_made [] None = refl
  each_made [] (Some c) = refl
  each_made (m ∷ ms) end =
      ap (and_then (finish old true m)) (each_made ms end)
      ∙ silent_commutes true (finish old true m).outputs (finish old true m).end (each (λ y. finish new false y.item) (map (output false) ms) (end_of false end))
      ∙ ap (λ a. and_then (silent true) (and_then a (each (λ y. finish new false y.item) (map (output false) ms) (end_of false end)))) (sym (alike m))

  pub made_goes : (l : Listing) → bind (out old) (made l) ≡ and_then (silent true) (going new l)
  made_goes l = each_made l.terms l.end

-- ---- what is left

pub left_is : (d : Descent) → d.first ≡ None → left d ≡ now d (λ act. gone)
left_is d none = ap (λ f. now d (waiting d f)) none

-- a term that hasn't gone on its way yet
pub first_left : (d : Descent) (m : Monomial) → d.first ≡ Some m → d.has_acted ≡ false → d.end ≡ None → d.frames.items ≡ []
    → left d ≡ finish (ways (action (limits_of d)) d.path) false m
first_left d m first unacted unended none =
    let act = action (limits_of d) in
    let one = finish (ways act d.path) false m in
    ap (λ f. now d (waiting d f)) first
    ∙ ap (λ h. and_then (silent h) (and_then one (left_of_frames act d.end d.frames.items))) unacted
    ∙ gone_then (and_then one (left_of_frames act d.end d.frames.items))
    ∙ ap (and_then one) (no_frame act d.end d.frames.items none)
    ∙ ap (λ e. and_then one (ending e)) unended
    ∙ then_gone one

-- the end, where nothing waits
module _ (d : Descent) (first : d.first ≡ None) (none : d.frames.items ≡ []) where
  ended_by : (end : Option Cause) → d.end ≡ end → left d ≡ and_then (silent d.has_acted) (ending end)
  ended_by end is =
      let act = action (limits_of d) in
      left_is d first
      ∙ ap (and_then (silent d.has_acted)) (gone_then (left_of_frames act d.end d.frames.items) ∙ no_frame act d.end d.frames.items none ∙ ap ending is)

  pub ended_done : d.end ≡ None → left d ≡ silent d.has_acted
  ended_done is = ended_by None is ∙ then_gone (silent d.has_acted)

  pub ended_refused : (c : Cause) → d.end ≡ Some c → left d ≡ refusal c
  ended_refused c is = ended_by (Some c) is ∙ ap (and_then (silent d.has_acted)) (sym (refused_behind c gone)) ∙ refused_now d.has_acted c gone

-- where a list can't go on
pub errs : (e : ExpandError) (h : Bool) (ws : List Way) (l k : Listing) (rest : Outcome) → Nexts (Err e) l k → Refuses e (and_then (silent h) (and_then (going ws l) rest))
errs (errors.Refused c) h ws l k rest is =
    ap (λ x. and_then (silent h) (and_then (going ws x) rest)) is ∙ ap (λ a. and_then (silent h) (and_then a rest)) (going_refusal ws c) ∙ refused_now h c rest
errs errors.Memory h ws l k rest is = tt

pub none_is : (h : Bool) (ws : List Way) (l : Listing) (rest : Outcome) → l ≡ nothing → and_then (silent h) (and_then (going ws l) rest) ≡ and_then (silent h) (and_then gone rest)
none_is h ws l rest is = ap (λ x. and_then (silent h) (and_then (going ws x) rest)) is ∙ ap (λ a. and_then (silent h) (and_then a rest)) (going_nothing ws)

pub next_is : (h : Bool) (ws : List Way) (l k : Listing) (m : Monomial) (rest : Outcome) → l ≡ before m k
    → and_then (silent h) (and_then (going ws l) rest) ≡ and_then (silent h) (and_then (and_then (finish ws false m) (going ws k)) rest)
next_is h ws l k m rest is =
    ap (λ x. and_then (silent h) (and_then (going ws x) rest)) is
    ∙ ap (λ a. and_then (silent h) (and_then a rest)) (going_before ws m k)

pub single_is : (h : Bool) (ws : List Way) (m : Monomial) (rest : Outcome)
    → and_then (silent h) (and_then (going ws (listing.single m)) rest) ≡ and_then (silent h) (and_then (finish ws false m) rest)
single_is h ws m rest =
    next_is h ws (listing.single m) nothing m rest refl
    ∙ ap (λ a. and_then (silent h) (and_then (and_then (finish ws false m) a) rest)) (going_nothing ws)
    ∙ ap (λ a. and_then (silent h) (and_then a rest)) (then_gone (finish ws false m))

-- ---- a term goes on, and what comes behind it waits

-- in a frame
pub waits_behind : (act : Acting) (h : Bool) (end : Option Cause) (fs new : List Frame) (f : Frame) (ws : List Way) (m : Monomial) (l : Listing)
    → new ≡ fs ++ f ∷ [] → ways act f.path ≡ ws → l ≡ before f.next (listed f.source)
    → and_then (silent h) (and_then (and_then (finish ws false m) (going ws l)) (left_of_frames act end fs))
    ≡ and_then (silent h) (and_then (finish ws false m) (left_of_frames act end new))
waits_behind act h end fs new f ws m l pushed same is =
    let one = finish ws false m in
    let rest = left_of_frames act end fs in
    first_now h one (going ws l) rest
    ∙ ap (λ x. and_then (silent h) (and_then one (and_then (going ws x) rest))) is
    ∙ ap (λ vs. and_then (silent h) (and_then one (and_then (going vs (before f.next (listed f.source))) rest))) (sym same)
    ∙ ap (λ a. and_then (silent h) (and_then one (and_then a rest))) (going_before (ways act f.path) f.next (listed f.source))
    ∙ ap (λ a. and_then (silent h) (and_then one a)) (sym (one_frame act end fs new f pushed))

-- none comes
pub none_waits : (h : Bool) (one rest : Outcome) (ws : List Way) (l : Listing) → l ≡ nothing
    → and_then (silent h) (and_then (and_then one (going ws l)) rest) ≡ and_then (silent h) (and_then one rest)
none_waits h one rest ws l is =
    ap (λ x. and_then (silent h) (and_then (and_then one (going ws x)) rest)) is
    ∙ ap (λ a. and_then (silent h) (and_then (and_then one a) rest)) (going_nothing ws)
    ∙ ap (λ a. and_then (silent h) (and_then a rest)) (then_gone one)

-- a refusal, which stands behind all frames then
pub refusal_waits : (act : Acting) (h : Bool) (c : Cause) (one rest : Outcome) (fs : List Frame) (ws : List Way) (l : Listing) → l ≡ listing.refusal c → fs ≡ []
    → and_then (silent h) (and_then (and_then one (going ws l)) rest) ≡ and_then (silent h) (and_then one (left_of_frames act (Some c) fs))
refusal_waits act h c one rest fs ws l is none =
    ap (λ x. and_then (silent h) (and_then (and_then one (going ws x)) rest)) is
    ∙ ap (λ a. and_then (silent h) (and_then (and_then one a) rest)) (going_refusal ws c)
    ∙ first_now h one (refusal c) rest
    ∙ ap (λ a. and_then (silent h) (and_then one a)) (refused_behind c rest)
    ∙ ap (λ a. and_then (silent h) (and_then one a)) (sym (no_frame act (Some c) fs none))

-- ---- the innermost frame

module _ (act : Acting) (f : Frame) where
  -- what comes of it, where the next of its source is this
  pub goes_on : (l : Listing) (m : Monomial) (ws : List Way) → ws ≡ ways act f.path → listed f.source ≡ before m l
      → left_of_frame act f ≡ and_then (finish ws false f.next) (and_then (finish (ways act f.path) false m) (going (ways act f.path) l))
  goes_on l m ws same is =
      ap (λ x. and_then (finish (ways act f.path) false f.next) (going (ways act f.path) x)) is
      ∙ ap (and_then (finish (ways act f.path) false f.next)) (going_before (ways act f.path) m l)
      ∙ ap (λ vs. and_then (finish vs false f.next) (and_then (finish (ways act f.path) false m) (going (ways act f.path) l))) (sym same)

  pub stops : listed f.source ≡ nothing → left_of_frame act f ≡ finish (ways act f.path) false f.next
  stops is =
      ap (λ x. and_then (finish (ways act f.path) false f.next) (going (ways act f.path) x)) is
      ∙ ap (and_then (finish (ways act f.path) false f.next)) (going_nothing (ways act f.path))
      ∙ then_gone (finish (ways act f.path) false f.next)

  pub ends_refused : (c : Cause) → listed f.source ≡ listing.refusal c → left_of_frame act f ≡ and_then (finish (ways act f.path) false f.next) (refusal c)
  ends_refused c is =
      ap (λ x. and_then (finish (ways act f.path) false f.next) (going (ways act f.path) x)) is
      ∙ ap (and_then (finish (ways act f.path) false f.next)) (going_refusal (ways act f.path) c)

-- its source can't go on
pub unadvanced : (e : ExpandError) (act : Acting) (f new : Frame) (path : Path) (k : Listing) → new.next ≡ f.next → new.path ≡ f.path → Nexts (Err e) (listed f.source) k
    → Advances act (Err e) (left_of_frame act f) path new
unadvanced (errors.Refused c) act f new path k same by is =
    ends_refused act f c is
    ∙ ap (λ p. and_then (finish (ways act p) false f.next) (refusal c)) (sym by)
    ∙ ap (λ m. and_then (finish (ways act new.path) false m) (refusal c)) (sym same)
unadvanced errors.Memory act f new path k same by is = tt

-- ---- a term of the innermost frame goes on

module _ (act : Acting) (h : Bool) (end : Option Cause) (fs : List Frame) (n : ℕ) (f : Frame) (is : suc n ≡ length fs) (read : f ≡ get_or fs n f) where
  pub one_advanced : (g : Frame) (p : Path) (m : Monomial) → Advances act (Ok (Some m)) (left_of_frame act f) p g
      → and_then (silent h) (and_then gone (left_of_frames act end fs)) ≡ and_then (silent h) (and_then (finish (ways act p) false m) (left_of_frames act end (set fs n g)))
  one_advanced g p m advanced =
      let rest = left_of_frames act end (take n fs) in
      ap (and_then (silent h)) (gone_then (left_of_frames act end fs) ∙ last_frame act end fs n f is read)
      ∙ ap (λ a. and_then (silent h) (and_then a rest)) advanced
      ∙ first_now h (finish (ways act p) false m) (left_of_frame act g) rest
      ∙ ap (λ a. and_then (silent h) (and_then (finish (ways act p) false m) a)) (sym (new_frame act end fs n g is))

  pub last_advanced : (one : Outcome) → left_of_frame act f ≡ one
      → and_then (silent h) (and_then gone (left_of_frames act end fs)) ≡ and_then (silent h) (and_then one (left_of_frames act end (take n fs)))
  last_advanced one advanced =
      ap (and_then (silent h)) (gone_then (left_of_frames act end fs) ∙ last_frame act end fs n f is read)
      ∙ ap (λ a. and_then (silent h) (and_then a (left_of_frames act end (take n fs)))) advanced

  pub refused_advanced : (one : Outcome) (c : Cause) → left_of_frame act f ≡ and_then one (refusal c)
      → and_then (silent h) (and_then gone (left_of_frames act end fs)) ≡ and_then (silent h) (and_then one (refusal c))
  refused_advanced one c advanced =
      last_advanced (and_then one (refusal c)) advanced
      ∙ first_now h one (refusal c) (left_of_frames act end (take n fs))
      ∙ ap (λ a. and_then (silent h) (and_then one a)) (refused_behind c (left_of_frames act end (take n fs)))

-- the innermost frame has gone
pub frame_taken : (r : Option Monomial) (old new : Descent) (fs : List Frame) (g : Frame) (x : Outcome) → TakesFrame r old new → old.frames.items ≡ fs ++ g ∷ [] → old.first ≡ None
    → x ≡ and_then (silent old.has_acted) (and_then (finish (ways (action (limits_of old)) g.path) false g.next) (left_of_frames (action (limits_of old)) old.end fs))
    → Begins (Ok r) x new
frame_taken None old new fs g x takes last first is = absurd (takes fs g last)
frame_taken (Some m) old new fs g x takes last first is =
    let act = action (limits_of old) in
    let h = old.has_acted in
    let end = old.end in
    let t = takes.1 fs g last in (
      is ∙ sym (ap (on_way m) takes.0
          ∙ ap (λ p. and_then (silent h) (and_then (finish (ways act p) false m) (left_of_frames act end new.frames.items))) t.1
          ∙ ap (λ y. and_then (silent h) (and_then (finish (ways act g.path) false y) (left_of_frames act end new.frames.items))) t.0
          ∙ ap (λ gs. and_then (silent h) (and_then (finish (ways act g.path) false g.next) (left_of_frames act end gs))) t.2),
      ap (λ d. d.first) takes.0 ∙ first,
    )

pub last_taken : (r : Option Monomial) (c : Cause) (old new : Descent) (fs : List Frame) (g : Frame) (x : Outcome) → TakesLast r c old new → old.frames.items ≡ fs ++ g ∷ [] → old.first ≡ None
    → x ≡ and_then (silent old.has_acted) (and_then (finish (ways (action (limits_of old)) g.path) false g.next) (refusal c))
    → Begins (Ok r) x new
last_taken None c old new fs g x takes last first is = absurd (takes fs g last)
last_taken (Some m) c old new fs g x takes last first is =
    let act = action (limits_of old) in
    let h = old.has_acted in
    let t = takes.2 fs g last in (
      is ∙ sym (ap (on_way m) takes.0
          ∙ ap (λ p. and_then (silent h) (and_then (finish (ways act p) false m) (left_of_frames act (Some c) new.frames.items))) t.1
          ∙ ap (λ y. and_then (silent h) (and_then (finish (ways act g.path) false y) (left_of_frames act (Some c) new.frames.items))) t.0
          ∙ ap (λ a. and_then (silent h) (and_then (finish (ways act g.path) false g.next) a)) (no_frame act (Some c) new.frames.items takes.1)),
      ap (λ d. d.first) takes.0 ∙ first,
    )

-- and no other is left
pub last_and_refused : (r : Option Monomial) (c : Cause) (old mid new : Descent) → TakesFrame r old mid
    → new ≡ record mid { frames = new.frames; end = Some c } → new.frames.items ≡ [] → TakesLast r c old new
last_and_refused None c old mid new takes same none = takes
last_and_refused (Some m) c old mid new takes same none =
    let by : new.path ≡ mid.path = ap (λ d. d.path) same in (
      same
          ∙ ap (λ (d : Descent). record d { frames = new.frames; end = Some c }) takes.0
          ∙ ap (λ p. record old { path = p; frames = new.frames; end = Some c }) (sym by),
      none,
      λ fs f is. let t = takes.1 fs f is in (t.0, by ∙ t.1),
    )

pub no_push : {X : Type 0} (xs : List X) (x : X) → xs ++ x ∷ [] ≡ [] → ⊥
no_push xs x is = let long = ap length is in omega (arith, long, length_push xs x)

-- ---- what a statement made

refused_pending : (d : Descent) (c : Cause) → pending (refusal c) d ≡ refusal c
unfolding each
refused_pending d c = refused_now d.has_acted c (left_of_frames (action (limits_of d)) d.end d.frames.items)

-- a statement that was refused
pub err_moves : (e : ExpandError) (made : Outcome) (d : Descent) → HasEffect (Err e) made → Refuses e (pending made d)
err_moves (errors.Refused c) made d is = ap (λ a. pending a d) is ∙ refused_pending d c
err_moves errors.Memory made d is = tt

pub budget : (d : Descent) (made : Outcome) → made ≡ refusal RepeatBudget → pending made d ≡ refusal RepeatBudget
budget d made is = ap (λ a. pending a d) is ∙ refused_pending d RepeatBudget

-- a term goes on by another path
pub by_path : (d : Descent) (path : Path) (m : Monomial) (made : Outcome) → d.first ≡ None
    → finish (ways (action (limits_of d)) path) false m ≡ bind (out (ways (action (limits_of d)) d.path)) made
    → Moves (Ok (Some m)) (pending made d) (record d { path = path })
by_path d path m made first is =
    (ap (λ a. and_then (silent d.has_acted) (and_then a (left_of_frames (action (limits_of d)) d.end d.frames.items))) (sym is), first)

pub as_it_is : (d : Descent) (m : Monomial) (made : Outcome) → d.first ≡ None → made ≡ unchanged m → Moves (Ok (Some m)) (pending made d) d
as_it_is d m made first is = (
  ap (λ a. pending a d) is
      ∙ ap (λ a. and_then (silent d.has_acted) (and_then a (left_of_frames (action (limits_of d)) d.end d.frames.items))) (bind_single (out (ways (action (limits_of d)) d.path)) (output false m)),
  first,
)

-- a term passes a statement, and what that made of it goes on
pub passed : (d : Descent) (path : Path) (m : Monomial) (made : Outcome)
    → finish (ways (action (limits_of d)) d.path) false m ≡ bind (out (ways (action (limits_of d)) path)) made
    → on_way m d ≡ pending made (record d { path = path })
passed d path m made is =
    ap (λ a. and_then (silent d.has_acted) (and_then a (left_of_frames (action (limits_of d)) d.end d.frames.items))) is

-- the end of a block
pub left_inside : (d : Descent) (path : Path) (m : Monomial)
    → finish (ways (action (limits_of d)) d.path) false m ≡ finish (ways (action (limits_of d)) path) false m
    → on_way m d ≡ on_way m (record d { path = path })
left_inside d path m is =
    ap (λ a. and_then (silent d.has_acted) (and_then a (left_of_frames (action (limits_of d)) d.end d.frames.items))) is

pub left_outside : (d : Descent) (path : Path) (m : Monomial) → d.first ≡ None
    → finish (ways (action (limits_of d)) d.path) false m ≡ unchanged m
    → on_way m d ≡ and_then (unchanged m) (left (record d { path = path }))
left_outside d path m first is =
    let rest = left_of_frames (action (limits_of d)) d.end d.frames.items in
    ap (λ a. and_then (silent d.has_acted) (and_then a rest)) is
    ∙ output_now d.has_acted m rest
    ∙ ap (and_then (unchanged m)) (sym (left_is (record d { path = path }) first))

pub left_exhausted : (d : Descent) (m : Monomial)
    → finish (ways (action (limits_of d)) d.path) false m ≡ refusal RepeatBudget
    → on_way m d ≡ refusal RepeatBudget
left_exhausted d m is =
    let rest = left_of_frames (action (limits_of d)) d.end d.frames.items in
    ap (λ a. and_then (silent d.has_acted) (and_then a rest)) is ∙ refused_now d.has_acted RepeatBudget rest
