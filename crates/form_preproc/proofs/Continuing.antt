-- How frames go on, step by step.
use Rattle.std.proofs.Common.{◌≡◌, ℕ, Bool, true, false, List, [], ◌∷◌, refl, sym, ap, ◌∙◌, subst}
use Rattle.form_outside.specs.Texts.{Texts}
use Rattle.form_preproc.specs.Block.{Line, key_in, is_closer}
use Rattle.form_preproc.specs.Expansion.{State, Stop, Ending, goes, ends, stops, After, Request, finished, inside, Acts, over, further, broken, Does, done, returned, left, requested, behind, resumed, depth_in, is_over, is_going}
use Rattle.form_preproc.specs.Frames.{Running, depth_of, Rest, Continues}

abbrev Leads : Texts → ℕ → Request → Request → Type 0
Leads texts depth r q = (e : Ending) → Does texts depth q e → Does texts depth r e

-- ---- lines that are over: what follows them is done

module _ (texts : Texts) (f : Running) (fs : List Running) (s : State) (o : is_over f.lines ≡ true) where
  pub over_goes : (next : State) (e : Ending) → Leads texts (depth_of fs) (resumed f.after s) (finished (goes next)) → Continues texts fs next e → Continues texts (f ∷ fs) s e
  over_goes next e led c = (goes s, over f.depth s f.lines o, (goes next, led (goes next) (done (depth_of fs) (goes next)), c))

  pub over_ends : (next : State) → Leads texts (depth_of fs) (resumed f.after s) (finished (ends next)) → Continues texts (f ∷ fs) s (ends next)
  over_ends next led = (goes s, over f.depth s f.lines o, (ends next, led (ends next) (done (depth_of fs) (ends next)), refl))

  pub over_stops : (stop : Stop) → Leads texts (depth_of fs) (resumed f.after s) (finished (stops stop)) → Continues texts (f ∷ fs) s (stops stop)
  over_stops stop led = (goes s, over f.depth s f.lines o, (stops stop, led (stops stop) (done (depth_of fs) (stops stop)), refl))

  over_first : (next : State) (lines : List Line) (after : After) (first e : Ending) → Leads texts (depth_of fs) (resumed f.after s) (inside next lines after) → Acts texts (depth_in after (depth_of fs)) next lines first
      → Rest (λ more last. (second : Ending) × Does texts (depth_of fs) (resumed after more) second × Rest (Continues texts fs) second last) first e → Continues texts (f ∷ fs) s e
  over_first next lines after (goes more) e led acts rest =
      (goes s, over f.depth s f.lines o, (rest.0, led rest.0 (returned (depth_of fs) next lines after more rest.0 acts rest.1), rest.2))
  over_first next lines after (ends more) e led acts rest =
      (goes s, over f.depth s f.lines o, (ends more, led (ends more) (left (depth_of fs) next lines after (ends more) refl acts), rest))
  over_first next lines after (stops stop) e led acts rest =
      (goes s, over f.depth s f.lines o, (stops stop, led (stops stop) (left (depth_of fs) next lines after (stops stop) refl acts), rest))

  pub over_enters : (next : State) (lines : List Line) (after : After) (e : Ending) → Leads texts (depth_of fs) (resumed f.after s) (inside next lines after)
      → Continues texts (record { lines = lines; after = after; depth = depth_in after (depth_of fs) } ∷ fs) next e → Continues texts (f ∷ fs) s e
  over_enters next lines after e led c = over_first next lines after c.0 e led c.1 c.2

-- ---- a line acts

module _ (texts : Texts) (f : Running) (fs : List Running) (s : State) (line : Line) (rest : List Line) (at : f.lines ≡ line ∷ rest) (opens : is_closer (key_in line) ≡ false) where
  abbrev Others : Running
  Others = record { lines = behind line rest; after = f.after; depth = f.depth }

  acted : (e : Ending) → Acts texts f.depth s (line ∷ rest) e → Acts texts f.depth s f.lines e
  acted e a = subst (λ (ls : List Line). Acts texts f.depth s ls e) (sym at) a

  pub line_goes : (next : State) (e : Ending) → Leads texts f.depth (requested texts f.depth s line rest) (finished (goes next)) → Continues texts (Others ∷ fs) next e → Continues texts (f ∷ fs) s e
  line_goes next e led c = (c.0, acted c.0 (further f.depth s line rest next c.0 opens (led (goes next) (done f.depth (goes next))) c.1), c.2)

  pub line_ends : (next : State) → Leads texts f.depth (requested texts f.depth s line rest) (finished (ends next)) → Continues texts (f ∷ fs) s (ends next)
  line_ends next led = (ends next, acted (ends next) (broken f.depth s line rest (ends next) opens refl (led (ends next) (done f.depth (ends next)))), refl)

  pub line_stops : (stop : Stop) → Leads texts f.depth (requested texts f.depth s line rest) (finished (stops stop)) → Continues texts (f ∷ fs) s (stops stop)
  line_stops stop led = (stops stop, acted (stops stop) (broken f.depth s line rest (stops stop) opens refl (led (stops stop) (done f.depth (stops stop)))), refl)

  line_second : (second e : Ending) → Does texts f.depth (requested texts f.depth s line rest) second → Rest (Continues texts (Others ∷ fs)) second e → Continues texts (f ∷ fs) s e
  line_second (goes more) e does c = (c.0, acted c.0 (further f.depth s line rest more c.0 opens does c.1), c.2)
  line_second (ends more) e does c = (ends more, acted (ends more) (broken f.depth s line rest (ends more) opens refl does), c)
  line_second (stops stop) e does c = (stops stop, acted (stops stop) (broken f.depth s line rest (stops stop) opens refl does), c)

  line_first : (next : State) (lines : List Line) (after : After) (first e : Ending) → Leads texts f.depth (requested texts f.depth s line rest) (inside next lines after) → Acts texts (depth_in after f.depth) next lines first
      → Rest (λ more last. (second : Ending) × Does texts f.depth (resumed after more) second × Rest (Continues texts (Others ∷ fs)) second last) first e → Continues texts (f ∷ fs) s e
  line_first next lines after (goes more) e led acts rests = line_second rests.0 e (led rests.0 (returned f.depth next lines after more rests.0 acts rests.1)) rests.2
  line_first next lines after (ends more) e led acts rests = line_second (ends more) e (led (ends more) (left f.depth next lines after (ends more) refl acts)) rests
  line_first next lines after (stops stop) e led acts rests = line_second (stops stop) e (led (stops stop) (left f.depth next lines after (stops stop) refl acts)) rests

  pub line_enters : (next : State) (lines : List Line) (after : After) (e : Ending) → Leads texts f.depth (requested texts f.depth s line rest) (inside next lines after)
      → Continues texts (record { lines = lines; after = after; depth = depth_in after f.depth } ∷ Others ∷ fs) next e → Continues texts (f ∷ fs) s e
  line_enters next lines after e led c = line_first next lines after c.0 e led c.1 c.2
