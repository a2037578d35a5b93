-- What a file comes to, by how its lines ended.
use Rattle.std.proofs.Common.{◌≡◌, ◌≤◌, ℕ, Bool, true, false, List, [], ◌∷◌, length, Option, Some, None, Result, Ok, Err, IfSome, refl, sym, ap, ◌∙◌, subst, nat_lt}
use Rattle.form_base.specs.declared.cause.Cause.{Cause}
use Rattle.form_outside.specs.Texts.{Texts, text_of}
use Rattle.form_preproc.specs.Answer.{IsMeant, IsBegun, IsConcluded, ending_of}
use Rattle.form_preproc.specs.Block.{Line, taken_up}
use Rattle.form_preproc.specs.Expansion.{State, Ending, goes, ends, stops, refused, too_long, finished, branch, Acts, Does, done, begun, Expansion, concluded, AreExpanded, IsTextExpanded, longest_text}
use Rattle.form_preproc.specs.Frames.{Running, running, Rest, Continues}
use Rattle.form_preproc.specs.Machine.{state_of, calls_of}
use Rattle.form_preproc.specs.Stepping.{ContinuesIn, IsRun}
use Rattle.form_preproc.specs.declared.expander.Expander.{Expander}
use Rattle.form_preproc.specs.declared.file.Expanded.{Expanded}
use Rattle.form_preproc.specs.declared.file.FileError.{FileError}
use Rattle.form_preproc.specs.declared.file.FileError.TheVariants.{Missing, Refused, TooLong, Library, Memory}
use Rattle.form_preproc.specs.declared.machine.Machine.{Machine}
use Rattle.form_preproc.specs.declared.stop.ExpandError.{ExpandError}
use Rattle.form_preproc.specs.declared.stop.ExpandError.TheVariants as stop
use Rattle.form_preproc.specs.declared.stop.StopError.TheVariants as line

done_so : (texts : Texts) (depth : ℕ) (e f : Ending) → Does texts depth (finished e) f → e ≡ f
done_so texts depth e f (done _ _) = refl

lone_second : (texts : Texts) (lines : List Line) (s : State) (next : State) (second e : Ending) → goes next ≡ second → Acts texts 0 s lines (goes next)
    → Rest (λ more last. last ≡ goes more) second e → Acts texts 0 s lines e
lone_second texts lines s next (goes more) e same acts rest = subst (λ (x : Ending). Acts texts 0 s lines x) (same ∙ sym rest) acts
lone_second texts lines s next (ends more) e same acts rest = absurd cc
lone_second texts lines s next (stops why) e same acts rest = absurd cc

lone_first : (texts : Texts) (lines : List Line) (s : State) (first e : Ending) → Acts texts 0 s lines first
    → Rest (λ next last. (second : Ending) × Does texts 0 (finished (goes next)) second × Rest (λ more end. end ≡ goes more) second last) first e → Acts texts 0 s lines e
lone_first texts lines s (goes next) e acts rest = lone_second texts lines s next rest.0 e (done_so texts 0 (goes next) rest.0 rest.1) acts rest.2
lone_first texts lines s (ends more) e acts rest = subst (λ (x : Ending). Acts texts 0 s lines x) (sym rest) acts
lone_first texts lines s (stops why) e acts rest = subst (λ (x : Ending). Acts texts 0 s lines x) (sym rest) acts

-- the lines of a file that stand alone end as they act
lone : (texts : Texts) (lines : List Line) (s : State) (e : Ending) → Continues texts (record { lines = lines; after = branch; depth = 0 } ∷ []) s e → Acts texts 0 s lines e
lone texts lines s e c = lone_first texts lines s c.0 e c.1 c.2

-- what is meant may be weakened
pub meant_so : (P Q : Expansion → Type 0) → ((x : Expansion) → P x → Q x) → (result : Result Expanded FileError) → IsMeant P result → IsMeant Q result
meant_so P Q f (Ok x) h = f _ h
meant_so P Q f (Err Missing) h = f _ h
meant_so P Q f (Err (Refused cause name number)) h = f _ h
meant_so P Q f (Err (TooLong name)) h = f _ h
meant_so P Q f (Err Library) h = tt
meant_so P Q f (Err Memory) h = tt

-- ---- the file's lines have ended so

run_end : (texts : Texts) (old new : Expander) (ran : Result Bool ExpandError) → IsRun texts old ran new → IfSome (ending_of ran new.machine) (ContinuesIn texts old)
run_end texts old new (Ok true) h = h
run_end texts old new (Ok false) h = h
run_end texts old new (Err (stop.Stopped (line.Refused cause file number))) h = h
run_end texts old new (Err (stop.Stopped (line.TooLong name))) h = h
run_end texts old new (Err (stop.Stopped line.Memory)) h = tt
run_end texts old new (Err stop.Library) h = tt

expanded_by : (texts : Texts) (file bytes : List ℕ) (lines : List Line) (x : Expander) (last : Option Ending) (result : Result Expanded FileError)
    → taken_up file 0 bytes ≡ Ok lines → state_of x.machine ≡ begun file → running x.frames (calls_of x.machine) ≡ record { lines = lines; after = branch; depth = 0 } ∷ []
    → IfSome last (ContinuesIn texts x) → IsConcluded file bytes last result → IsMeant (AreExpanded texts file bytes (taken_up file 0 bytes)) result
expanded_by texts file bytes lines x None result taken begins runs c concludes = meant_so (λ y. ⊥) (AreExpanded texts file bytes (taken_up file 0 bytes)) (λ y h. absurd h) result concludes
expanded_by texts file bytes lines x (Some e) result taken begins runs c concludes =
    let acts : Acts texts 0 (begun file) lines e = lone texts lines (begun file) e
    (subst (λ (rs : List Running). Continues texts rs (begun file) e) runs (subst (λ (s : State). Continues texts (running x.frames (calls_of x.machine)) s e) begins c)) in
    meant_so (λ y. y ≡ concluded file bytes e) (AreExpanded texts file bytes (taken_up file 0 bytes))
    (λ y h. subst (λ (t : Result (List Line) (Cause × ℕ)). AreExpanded texts file bytes t y) (sym taken) (e, acts, h)) result concludes

pub expanded_told : (told : Option Texts) (file bytes : List ℕ) (x new : Expander) (ran : Result Bool ExpandError) (result : Result Expanded FileError)
    → IsBegun file bytes (Ok x) → IfSome told (λ texts. IsRun texts x ran new) → IsConcluded file bytes (ending_of ran new.machine) result
    → IfSome told (λ texts. IsMeant (λ y. AreExpanded texts file bytes (taken_up file 0 bytes) y) result)
expanded_told None file bytes x new ran result begins runs concludes = tt
expanded_told (Some texts) file bytes x new ran result begins runs concludes =
    expanded_by texts file bytes begins.0 x (ending_of ran new.machine) result begins.1 begins.2 begins.3 (run_end texts x new ran runs) concludes
