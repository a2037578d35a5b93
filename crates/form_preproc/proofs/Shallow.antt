-- No more calls are open than there are frames.
use Rattle.std.proofs.Common.{◌≡◌, ◌≤◌, ◌<◌, ◌^◌, ℕ, suc, List, [], ◌∷◌, length, Result, Ok, Err, sym, ap, ◌∙◌, subst, arith}
use Rattle.std.specs.Prelude.{OnOk}
use Rattle.form_preproc.specs.Shallow.{AreShallow}
use Rattle.form_preproc.specs.Stepping.{IsFollowed, depth_inside, depth_now}
use Rattle.form_preproc.specs.declared.expander.Expander.{Expander}
use Rattle.form_preproc.specs.declared.expander.Step.{Step}
use Rattle.form_preproc.specs.declared.frame.Action.{Action}
use Rattle.form_preproc.specs.declared.frame.Action.TheVariants.{Goes, Ends, Enters}
use Rattle.form_preproc.specs.declared.frame.After.{After}
use Rattle.form_preproc.specs.declared.frame.After.TheVariants.{Branch, Included, Turn, Fetched, Called}
use Rattle.form_preproc.specs.declared.frame.Frame.{Frame}
use Rattle.form_preproc.specs.declared.stop.ExpandError.{ExpandError}

one_more : (a : After) (d : ℕ) → depth_inside a d ≤ suc d
one_more Branch d = omega arith
one_more Included d = omega arith
one_more (Turn t) d = omega arith
one_more (Fetched f) d = omega arith
one_more Called d = omega arith

few_now : (fs : List Frame) → AreShallow fs → depth_now fs ≤ length fs
few_now [] h = omega arith
few_now (f ∷ fs) h = h.0

few_inside : (a : After) (fs : List Frame) → AreShallow fs → depth_inside a (depth_now fs) ≤ suc (length fs)
few_inside a fs h = omega (arith, one_more a (depth_now fs), few_now fs h)

-- where the number of frames fits
pub depth_fits : (a : After) (fs new : List Frame) (f : Frame) (n : ℕ) → AreShallow fs → new ≡ f ∷ fs → n ≡ length new → n < 2 ^ 64 → depth_inside a (depth_now fs) < 2 ^ 64
depth_fits a fs new f n h e k fits = omega (arith, few_inside a fs h, ap length e, k, fits)

pub one_shallow : (fs rest : List Frame) (f : Frame) → fs ≡ f ∷ rest → rest ≡ [] → f.depth ≡ 0 → AreShallow fs
one_shallow fs rest f pushed none first = subst AreShallow (sym (pushed ∙ ap (λ (xs : List Frame). f ∷ xs) none)) (omega (arith, first), tt)

pub followed_shallow : (old new : Expander) (action : Action) (result : Result Step ExpandError) → IsFollowed old action result new → AreShallow old.frames → OnOk result (AreShallow new.frames)
followed_shallow old new Goes result followed h = rw (followed.0, followed.1) h
followed_shallow old new Ends result followed h = rw (followed.0, followed.1) h
followed_shallow old new (Enters e) (Ok done) followed h = rw followed.1 (few_inside e.after old.frames h, h)
followed_shallow old new (Enters e) (Err error) followed h = tt
