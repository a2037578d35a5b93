-- One request leads to another: however that ends, it ends so.
use Rattle.std.proofs.Common.{◌≡◌, ◌≤◌, ◌<◌, ◌+◌, arith, ℕ, suc, Bool, true, false, cond, List, [], ◌∷◌, drop, refl, sym, ap, ◌∙◌, subst}
use Rattle.form_outside.specs.Texts.{Texts}
use Rattle.form_preproc.specs.Machine.{IsLed, IsDone, Leads, line_of, behind_place}
use Rattle.form_preproc.specs.Branches.{IsPartCounted}
use Rattle.form_preproc.specs.Sources.{lines_in}
use Rattle.form_preproc.specs.declared.choosing.Part.TheVariants.{Begins}
use Rattle.form_preproc.specs.declared.source.Source.{Source}
use Rattle.form_preproc.specs.declared.source.SourceLine.{SourceLine}
use Rattle.form_preproc.specs.declared.machine.Machine.{Machine}
use Rattle.form_preproc.specs.declared.stop.StopError.{StopError}
use Rattle.form_preproc.specs.declared.stop.StopError.TheVariants.{Refused, TooLong, Memory}
use Rattle.form_preproc.specs.Block.{key_in}
use Rattle.std.specs.Prelude.{Err, Ok, Result}
use Rattle.form_preproc.specs.declared.frame.Action.{Action}
use Rattle.form_preproc.specs.declared.frame.Action.TheVariants.{Goes, Ends, Enters}
use Rattle.form_preproc.specs.Block.{Line, key_in, to_closer}
use Rattle.form_preproc.specs.Expansion.{State, Ending, goes, Request, finished, inside, tries, Does, tried, trying, trying_at, choosing, branch}

pub led_same : (r q : Request) → r ≡ q → IsLed r q
led_same r q same = λ texts depth e h. subst (λ (x : Request). Does texts depth x e) (sym same) h

pub led_then : (r q p : Request) → IsLed r q → IsLed q p → IsLed r p
led_then r q p first second = λ texts depth e h. first texts depth e (second texts depth e h)

-- what is tried leads on to what the first part asks for
pub led_by_part : (r : Request) (s : State) (rest lines : List Line) (q : Request) → IsLed r (choosing s rest false) → lines ≡ to_closer key_in 0 rest → trying s lines ≡ q → IsLed r q
led_by_part r s rest lines q led at same =
    led_then r (tries s lines) q (subst (λ (ls : List Line). IsLed r (tries s ls)) (sym at) led)
    (λ texts depth e h. tried depth s lines e (led_same (trying s lines) q same texts depth e h))

-- what is done with leads to what is met
pub leads_done : (r q : Request) (result : Result Action StopError) (m : Machine) → IsLed r q → IsDone q result m → Leads r result m
leads_done r q (Ok Goes) m led h = led_then r q _ led (led_same q _ h)
leads_done r q (Ok Ends) m led h = led_then r q _ led (led_same q _ h)
leads_done r q (Ok (Enters e)) m led h = led_then r q _ led (led_same q _ h)
leads_done r q (Err (Refused cause file line)) m led h = led_then r q _ led (led_same q _ h)
leads_done r q (Err (TooLong name)) m led h = led_then r q _ led (led_same q _ h)
leads_done r q (Err Memory) m led h = tt

-- the part at a place is tried with what it is
pub led_at_part : (r : Request) (s : State) (source : Source) (at closer : ℕ) (part : SourceLine) (holds : Bool) → holds ≡ false → IsLed r (choosing s (behind_place source at) holds)
    → drop closer (lines_in source) ≡ to_closer key_in 0 (behind_place source at) → drop closer (lines_in source) ≡ line_of source part ∷ behind_place source closer
    → IsLed r (trying_at part.key s (line_of source part) (behind_place source closer))
led_at_part r s source at closer part holds fails led closes is =
    led_by_part r s (behind_place source at) (line_of source part ∷ behind_place source closer) (trying_at part.key s (line_of source part) (behind_place source closer))
    (subst (λ (b : Bool). IsLed r (choosing s (behind_place source at) b)) fails led) (sym is ∙ closes) (ap (λ k. trying_at k s (line_of source part) (behind_place source closer)) (sym part.keyed))

pub led_at_end : (r : Request) (s : State) (source : Source) (at closer : ℕ) (holds : Bool) → holds ≡ false → IsLed r (choosing s (behind_place source at) holds)
    → drop closer (lines_in source) ≡ to_closer key_in 0 (behind_place source at) → drop closer (lines_in source) ≡ [] → IsLed r (finished (goes s))
led_at_end r s source at closer holds fails led closes is =
    led_by_part r s (behind_place source at) [] (finished (goes s)) (subst (λ (b : Bool). IsLed r (choosing s (behind_place source at) b)) fails led) (sym is ∙ closes) refl

pub led_at_branch : (r : Request) (s : State) (source : Source) (at : ℕ) (holds : Bool) → holds ≡ true → IsLed r (choosing s (behind_place source at) holds) → IsLed r (inside s (drop (at + 1) (lines_in source)) branch)
led_at_branch r s source at holds acts led =
    let one : suc at ≡ at + 1 = omega arith in
    subst (λ (n : ℕ). IsLed r (inside s (drop n (lines_in source)) branch)) one (subst (λ (b : Bool). IsLed r (choosing s (behind_place source at) b)) acts led)

pub counted_part : (old new : ℕ) (truth : Bool) → IsPartCounted old new (Begins truth) → old ≤ new
counted_part old new true h = h
counted_part old new false h = omega arith
