-- Modules that are carried out one after the other.
use Rattle.std.proofs.Common.{◌≡◌, ◌<◌, ◌≤◌, ◌+◌, ℕ, List, [], ◌∷◌, ◌++◌, length, drop, Option, Some, None, Result, Ok, Err, refl, sym, ap, ◌∙◌, append_assoc, add-one}
use Rattle.std.proofs.lemmas.List.{append-nil, drop_all, drop_more}
use Rattle.std.specs.List.{AllByRecursion}
use Rattle.std.proofs.lemmas.List.Elements.{All-from_recursion}
use Rattle.form_base.specs.declared.place.Place.{Place}
use Rattle.form_base.specs.declared.settings.Settings.{Settings}
use Rattle.form_base.specs.declared.status.Status.{Status}
use Rattle.form_base.specs.declared.status.Status.TheVariants.{Done, RefusedRun}
use Rattle.form_outside.specs.Taken.{Takes}
use Rattle.form_outside.specs.declared.sink.SinkErr.{SinkErr}
use Rattle.form_outside.proofs.Written.{Takes_then, Takes_nothing, Takes_front}
use Rattle.form_names.specs.Names.{Entry}
use Rattle.form_check.specs.Program.{Module, Program}
use Rattle.form_check.specs.Sound.{AreModulesSound, IsSound}
use Rattle.form_expand.specs.declared.stored.Stored.{Stored}
use Rattle.form_module.specs.Module.{HaveTrees, Refusal, module_outcome}
use Rattle.form_module.specs.Reporting.{Reports, module_at}
use Rattle.form_module.specs.declared.error.ModuleError as module_error
use Rattle.form_module.specs.declared.error.ModuleError.TheVariants as module_errors
use Rattle.form_module.proofs.Sound.{have_trees}
use Rattle.form_engine.specs.Answer.{Carries, Stops}
use Rattle.form_engine.specs.declared.stop.Stop.{Stop}
use Rattle.form_engine.specs.declared.stop.Stop.TheVariants.{Memory}
use Rattle.form_engine.specs.Outcome.{Outcome, after_module, behind, carried_out, done, program_outcome, refused}
use Rattle.form_engine.specs.Printed.{printed_module}

-- each module of a sound program has its trees
all_have : (names : List Entry) (earlier modules : List Module) → AreModulesSound names earlier modules → AllByRecursion HaveTrees modules
all_have names earlier [] sound = tt
all_have names earlier (m ∷ ms) sound = (have_trees names earlier m sound.0, all_have names (earlier ++ m ∷ []) ms sound.1)

-- and so has the one at a place
pub place_has : (p : Program) (index : ℕ) → IsSound p → index < length p.modules → HaveTrees (module_at p index)
place_has p index sound below = All-from_recursion HaveTrees p.modules (all_have p.names [] p.modules sound) index (record { statements = []; actions = [] }) below

-- ---- how far the modules were carried out

-- nothing is taken
Takes_none : (a : Option (List ℕ)) → Takes {E = SinkErr} a [] a (Ok tt)
Takes_none None = tt
Takes_none (Some old) = sym (ap Some (append-nil old))

-- what stands behind what was printed is carried so far
carries_behind : (old mid new : Option (List ℕ)) (printed : List ℕ) (o : Outcome) (result : Result Status Stop) → Takes {E = SinkErr} old printed mid (Ok tt) → Carries mid o new result → Carries old (behind printed o) new result
carries_behind old mid new printed o (Ok status) first second = (Takes_then old mid new printed o.bytes tt (Ok tt) first second.0, second.1)
carries_behind old mid new printed o (Err stop) first second = Takes_then old mid new printed o.bytes tt (Err stop) (as_stop old printed mid first) second
  where
    as_stop : (a : Option (List ℕ)) (p : List ℕ) (b : Option (List ℕ)) → Takes {E = SinkErr} a p b (Ok tt) → Takes {E = Stop} a p b (Ok tt)
    as_stop None p b h = tt
    as_stop (Some old) p b h = h

module _ (settings : Settings) (p : Program) where
  -- what comes of the modules from a place on
  abbrev from_place : ℕ → List Stored → Outcome
  from_place index standing = carried_out settings p.names (index + 1) (drop index p.modules) standing

  -- What was printed was taken, and what the others make stands behind it.
  pub record IsGoing (old new : Option (List ℕ)) (index : ℕ) (standing : List Stored) : Type 0 where
    pub printed : List ℕ
    pub taken : Takes {E = SinkErr} old printed new (Ok tt)
    pub rest : program_outcome settings p ≡ behind printed (from_place index standing)

  -- what stands behind what was printed
  behind_both : (a b : List ℕ) (o : Outcome) → behind a (behind b o) ≡ behind (a ++ b) o
  behind_both a b o = ap (λ bytes. record { bytes = bytes; status = o.status }) (sym (append_assoc a b o.bytes))

  -- the module at a place, and those after it
  at_place : (index : ℕ) (standing : List Stored) → index < length p.modules →
      from_place index standing ≡ after_module p.names (index + 1) (module_at p index) (from_place (index + 1)) (module_outcome settings (module_at p index) standing)
  at_place index standing below =
      let m = module_at p index in
      ap (λ ms. carried_out settings p.names (index + 1) ms standing) (drop_more p.modules index (record { statements = []; actions = [] }) below)
      ∙ ap (λ n. after_module p.names (index + 1) m (λ after. carried_out settings p.names n (drop (index + 1) p.modules) after) (module_outcome settings m standing)) (sym (add-one (index + 1)))

  -- where the module has an outcome
  here : (index : ℕ) (standing : List Stored) (r : Result (List Stored) Refusal) → index < length p.modules → module_outcome settings (module_at p index) standing ≡ r →
      from_place index standing ≡ after_module p.names (index + 1) (module_at p index) (from_place (index + 1)) r
  here index standing r below is = at_place index standing below ∙ ap (after_module p.names (index + 1) (module_at p index) (from_place (index + 1))) is

  -- before the first
  pub not_begun : (a : Option (List ℕ)) (standing : List Stored) → standing ≡ [] → IsGoing a a 0 standing
  not_begun a standing none = record {
    printed = [];
    taken = Takes_none a;
    rest = ap (carried_out settings p.names 1 p.modules) (sym none);
  }

  -- one module further
  pub going_on : (old mid new : Option (List ℕ)) (index : ℕ) (standing after : List Stored) → index < length p.modules →
      IsGoing old mid index standing → module_outcome settings (module_at p index) standing ≡ Ok after →
      Takes {E = SinkErr} mid (printed_module p.names ((module_at p index).statements) after) new (Ok tt) → IsGoing old new (index + 1) after
  going_on old mid new index standing after below going is put =
      let text = printed_module p.names ((module_at p index).statements) after in
      record {
        printed = going.printed ++ text;
        taken = Takes_then old mid new going.printed text tt (Ok tt) going.taken put;
        rest = going.rest ∙ ap (behind going.printed) (here index standing (Ok after) below is) ∙ behind_both going.printed text (from_place (index + 1) after);
      }

  -- the outcome of a run, and how far it came
  abbrev pub RunsTo : Option (List ℕ) → Option (List ℕ) → Result Status Stop → Type 0
  RunsTo old new result = (o : Outcome) × (o ≡ program_outcome settings p) × Carries old o new result

  -- all were carried out
  pub gone : (old new : Option (List ℕ)) (index : ℕ) (standing : List Stored) → length p.modules ≤ index → IsGoing old new index standing → RunsTo old new (Ok Done)
  gone old new index standing end going =
      let none : drop index p.modules ≡ [] = drop_all index p.modules end in
      (behind going.printed done, sym (going.rest ∙ ap (λ ms. behind going.printed (carried_out settings p.names (index + 1) ms standing)) none), carries_behind old new new going.printed done (Ok Done) going.taken (Takes_none new, refl))

  -- it stopped before a module was carried out
  pub stopped_here : (old new : Option (List ℕ)) (index : ℕ) (standing : List Stored) (stop : Stop) → IsGoing old new index standing → RunsTo old new (Err stop)
  stopped_here old new index standing stop going =
      let rest = from_place index standing in
      (behind going.printed rest, sym going.rest, carries_behind old new new going.printed rest (Err stop) going.taken (Takes_nothing new rest.bytes stop))

  -- it stopped while a module was printed
  pub stopped_printing : (old mid new : Option (List ℕ)) (index : ℕ) (standing after : List Stored) (error : SinkErr) (stop : Stop) → index < length p.modules →
      IsGoing old mid index standing → module_outcome settings (module_at p index) standing ≡ Ok after →
      Takes mid (printed_module p.names ((module_at p index).statements) after) new (Err error) → RunsTo old new (Err stop)
  stopped_printing old mid new index standing after error stop below going is put =
      let text = printed_module p.names ((module_at p index).statements) after in
      let rest = from_place (index + 1) after in (
        behind going.printed (behind text rest),
        sym (going.rest ∙ ap (behind going.printed) (here index standing (Ok after) below is)),
        carries_behind old mid new going.printed (behind text rest) (Err stop) going.taken (Takes_front mid new text rest.bytes error stop put),
      )

  -- a module ended the run: it was refused, or memory ran out
  pub stopped_by : (old mid new : Option (List ℕ)) (index : ℕ) (standing : List Stored) (error : module_error.ModuleError) (result : Result Status Stop) → index < length p.modules →
      IsGoing old mid index standing → Reports settings p index standing (Err error) → Stops mid error new result → RunsTo old new result
  stopped_by old mid new index standing (module_errors.Refused cause place) result below going is put =
      let line = refused (RefusedRun cause place) in (
        behind going.printed line,
        ap (λ (at : Place). behind going.printed (refused (RefusedRun cause at))) is.2
            ∙ sym (going.rest ∙ ap (behind going.printed) (here index standing (Err (record { cause = cause; expression = is.0 })) below is.1)),
        carries_behind old mid new going.printed line result going.taken put,
      )
  stopped_by old mid new index standing module_errors.Memory result below going is put =
      rw (put.0, put.1) (stopped_here old mid index standing Memory going)
