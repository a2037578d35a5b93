-- What stands at the end of a module can be recorded where what stands at its start can be.
use Rattle.std.proofs.Common.{◌≡◌, ℕ, Bool, true, false, if◌then◌else◌, List, [], ◌∷◌, ◌++◌, filter, fold, length, Option, Some, None, Result, Ok, Err, IfOk, refl, subst}
use Rattle.std.specs.Prelude.{nat_lt}
use Rattle.std.specs.List.{AllByRecursion}
use Rattle.std.specs.Ordering.{nat_cmp, match_ordering}
use Rattle.std.specs.declared.cmp.Ordering.{Ordering}
use Rattle.std.specs.declared.cmp.Ordering.TheVariants.{Less, Equal, Greater}
use Rattle.std.proofs.lemmas.List.Elements.{recursion_from_All}
use Rattle.form_base.specs.declared.cause.Cause.{Cause}
use Rattle.form_base.specs.declared.cause.Cause.TheVariants.{TermLimit}
use Rattle.form_base.specs.declared.settings.Settings.{Settings}
use Rattle.form_names.specs.Names.{Entry}
use Rattle.form_term.specs.declared.monomial.Monomial.{Monomial}
use Rattle.form_term.specs.Named.{Places}
use Rattle.form_term.proofs.Each.{each_append, each_filter}
use Rattle.form_collect.specs.Collecting.{collected}
use Rattle.form_tree.specs.Building.{sum_of}
use Rattle.form_tree.specs.declared.tree.Piece.{Piece}
use Rattle.form_tree.specs.Placed.{places_of, IsSumPlaced}
use Rattle.form_expand.specs.declared.stored.Stored.{Stored}
use Rattle.form_expand.specs.Listing.{Listing}
use Rattle.form_expand.specs.Meanings.{of_stored}
use Rattle.form_expand.specs.Sound.{AreRecordable, IsRecordable, IsRecordableStored}
use Rattle.form_expand.proofs.Listed.{in_followed}
use Rattle.form_expand.proofs.Meant.{stored_each}
use Rattle.form_expand.proofs.Recording.{collected_recordable, lists_recordable}
use Rattle.form_check.specs.declared.checked.Checked.{Checked}
use Rattle.form_check.specs.declared.checked.Checked.TheVariants.{Drop, Skip, Local, Print}
use Rattle.form_check.specs.Program.{Module}
use Rattle.form_check.specs.Sound.{IsModuleSound, IsStatementSound}
use Rattle.form_check.specs.Standing.{stands}
use Rattle.form_flow.specs.Making.{compiled}
use Rattle.form_flow.specs.Sound.{ArePlaced}
use Rattle.form_flow.specs.Statement.{Compiled}
use Rattle.form_flow.specs.Statements.{outputs}
use Rattle.form_flow.proofs.Placing.{checked_placed, side_placed}
use Rattle.form_flow.proofs.Recordable.{outputs_recordable}
use Rattle.form_module.specs.Module.{Refusal, inputs_by, inputs, through_each, through, or_overflow, unless_ended, within, result_of, with_result, results, with_expression, stays, standing_after, module_outcome}
use Rattle.form_module.specs.Works.{Work, with_work, goes_through, and_standing, and_definition, works_of}

module _ (names : Places) where
  abbrev AreKept : List Monomial → Type 0
  AreKept ms = AllByRecursion (IsRecordable names) ms

  abbrev AreStored : List Stored → Type 0
  AreStored all = AllByRecursion (IsRecordableStored names) all

  -- ---- the result of an expression

  each_output : (c : Compiled) → ArePlaced names c.statements → (ms : List Monomial) (end : Option Cause) → AreKept ms → AreRecordable names (through_each (outputs c) ms end)
  unfolding through_each
  each_output c placed [] end h = tt
  each_output c placed (m ∷ ms) end h =
      in_followed (IsRecordable names) (outputs c m).terms (outputs c m).end (through_each (outputs c) ms end) (outputs_recordable names c m placed h.0) (each_output c placed ms end h.1)

  collected_kept : (list : List Monomial) → AreKept list → (o : Option (List Monomial)) → collected list ≡ o → IfOk (or_overflow o) AreKept
  collected_kept list h None e = tt
  collected_kept list h (Some terms) e = collected_recordable names list terms h e

  ended_kept : (end : Option Cause) (list : List Monomial) → AreKept list → IfOk (unless_ended end list) AreKept
  ended_kept None list h = collected_kept list h (collected list) refl
  ended_kept (Some cause) list h = tt

  within_kept : (most : ℕ) (r : Result (List Monomial) Cause) → IfOk r AreKept → IfOk (within most r) AreKept
  within_kept most (Err cause) h = tt
  within_kept most (Ok terms) h = by (nat_lt most (length terms))
    where
      by : (b : Bool) → IfOk (if b then Err TermLimit else Ok terms) AreKept
      by true = tt
      by false = h

  result_kept : (most : ℕ) (c : Compiled) (l : Listing) → ArePlaced names c.statements → AreRecordable names l → IfOk (result_of most c l) AreKept
  result_kept most c l placed h =
      let all : Listing = through (outputs c) l in
      within_kept most (unless_ended all.end all.terms) (ended_kept all.end all.terms (each_output c placed l.terms l.end h))

  -- ---- what is carried out

  abbrev IsSide : Option (List Piece) → Type 0
  IsSide None = Unit {0}
  IsSide (Some right) = IsSumPlaced names (sum_of right)

  abbrev IsWork : Work → Type 0
  IsWork w = IsSide w.right_side

  with_one : (ws : List Work) (w : Work) → AllByRecursion IsWork ws → IsWork w → AllByRecursion IsWork (with_work ws w)
  with_one [] w h k = (k, tt)
  with_one (v ∷ vs) w h k = by (nat_cmp w.expression v.expression) (with_one vs w h.1 k)
    where
      by : (r : Ordering) → AllByRecursion IsWork (with_work vs w) → AllByRecursion IsWork (match_ordering r (w ∷ v ∷ vs) (record { expression = v.expression; right_side = w.right_side } ∷ vs) (v ∷ with_work vs w))
      by Less rest = (k, h)
      by Equal rest = (k, h.1)
      by Greater rest = (h.0, rest)

  standing_works : (statements : List Checked) (ws : List Work) (all : List Stored) → AllByRecursion IsWork ws → AllByRecursion IsWork (fold (and_standing statements) ws all)
  standing_works statements ws [] h = h
  standing_works statements ws (e ∷ all) h = standing_works statements (and_standing statements ws e) all (by (goes_through statements e.expression))
    where
      by : (b : Bool) → AllByRecursion IsWork (if b then with_work ws (record { expression = e.expression; right_side = None }) else ws)
      by true = with_one ws (record { expression = e.expression; right_side = None }) h tt
      by false = h

  abbrev IsDefinition : Checked → Type 0
  IsDefinition (Drop which) = Unit {0}
  IsDefinition (Skip which) = Unit {0}
  IsDefinition (Local id right) = IsSumPlaced names (sum_of right)
  IsDefinition (Print which) = Unit {0}

  defined_works : (statements : List Checked) (ws : List Work) → AllByRecursion IsDefinition statements → AllByRecursion IsWork ws → AllByRecursion IsWork (fold and_definition ws statements)
  defined_works [] ws k h = h
  defined_works (s ∷ statements) ws k h = defined_works statements (and_definition ws s) k.1 (by s k.0)
    where
      by : (c : Checked) → IsDefinition c → AllByRecursion IsWork (and_definition ws c)
      by (Drop which) g = h
      by (Skip which) g = h
      by (Local id right) g = with_one ws (record { expression = id; right_side = Some right }) h g
      by (Print which) g = h

  -- ---- all expressions

  module _ (settings : Settings) (c : Compiled) (placed : ArePlaced names c.statements) (standing : List Stored) (kept : AreStored standing) where
    inputs_kept : (w : Work) → IsWork w → AreRecordable names (inputs settings.max_expand (of_stored standing) w)
    inputs_kept w h = by w.right_side h
      where
        by : (o : Option (List Piece)) → IsSide o → AreRecordable names (inputs_by settings.max_expand (of_stored standing) w.expression o)
        by None k = stored_each (IsRecordable names) standing w.expression kept
        by (Some right) k = lists_recordable names settings.max_expand standing (sum_of right) kept k

    results_kept : (ws : List Work) → AllByRecursion IsWork ws → IfOk (results settings c (of_stored standing) ws) AreStored
    results_kept [] h = tt
    results_kept (w ∷ ws) h =
        by (result_of settings.max_terms c (inputs settings.max_expand (of_stored standing) w)) (result_kept settings.max_terms c (inputs settings.max_expand (of_stored standing) w) placed (inputs_kept w h.0))
        (results settings c (of_stored standing) ws) (results_kept ws h.1)
      where
        by : (r : Result (List Monomial) Cause) → IfOk r AreKept → (rest : Result (List Stored) Refusal) → IfOk rest AreStored → IfOk (with_result w.expression r rest) AreStored
        by (Err cause) g rest k = tt
        by (Ok terms) g (Err refusal) k = tt
        by (Ok terms) g (Ok rest) k = (g, k)

  with_one_stored : (all : List Stored) (e : Stored) → AreStored all → IsRecordableStored names e → AreStored (with_expression all e)
  with_one_stored [] e h k = (k, tt)
  with_one_stored (f ∷ fs) e h k = by (nat_cmp e.expression f.expression) (with_one_stored fs e h.1 k)
    where
      by : (r : Ordering) → AreStored (with_expression fs e) → AreStored (match_ordering r (e ∷ f ∷ fs) (record { expression = f.expression; terms = e.terms } ∷ fs) (f ∷ with_expression fs e))
      by Less rest = (k, h)
      by Equal rest = (k, h.1)
      by Greater rest = (h.0, rest)

  all_stored : (made all : List Stored) → AreStored made → AreStored all → AreStored (fold with_expression all made)
  all_stored [] all h k = k
  all_stored (e ∷ made) all h k = all_stored made (with_expression all e) h.1 (with_one_stored all e k h.0)

  after_kept : (statements : List Checked) (standing : List Stored) → AreStored standing → (r : Result (List Stored) Refusal) → IfOk r AreStored → IfOk (standing_after statements standing r) AreStored
  after_kept statements standing h (Err refusal) k = tt
  after_kept statements standing h (Ok made) k =
      all_stored (filter (stays statements) standing ++ made) []
      (each_append (IsRecordableStored names) (filter (stays statements) standing) made (each_filter (IsRecordableStored names) (stays statements) standing h) k) tt

module _ (names : List Entry) (earlier : List Module) (settings : Settings) (m : Module) (sound : IsModuleSound names earlier m) where
  definition_placed : (there : ℕ → Bool) (s : Checked) → IsStatementSound names there s → IsDefinition (places_of names) s
  definition_placed there (Drop which) h = tt
  definition_placed there (Skip which) h = tt
  definition_placed there (Local id right) h = side_placed names right h.1
  definition_placed there (Print which) h = tt

  definitions_placed : (there : ℕ → Bool) (statements : List Checked) → AllByRecursion (IsStatementSound names there) statements → AllByRecursion (IsDefinition (places_of names)) statements
  definitions_placed there [] h = tt
  definitions_placed there (s ∷ statements) h = (definition_placed there s h.0, definitions_placed there statements h.1)

  pub stay_recordable : (standing after : List Stored) → AllByRecursion (IsRecordableStored (places_of names)) standing → module_outcome settings m standing ≡ Ok after
      → AllByRecursion (IsRecordableStored (places_of names)) after
  stay_recordable standing after h e =
      let c : Compiled = compiled settings.max_expand settings.max_repeat m.actions in
      let placed = checked_placed names settings.max_expand settings.max_repeat m.actions sound.actions in
      let definitions = definitions_placed (stands earlier) m.statements (recursion_from_All (IsStatementSound names (stands earlier)) m.statements sound.statements) in
      let ws : List Work = works_of m.statements standing in
      let works = defined_works (places_of names) m.statements (fold (and_standing m.statements) [] standing) definitions (standing_works (places_of names) m.statements [] standing tt) in
      subst (λ (r : Result (List Stored) Refusal). IfOk r (AllByRecursion (IsRecordableStored (places_of names)))) e
      (after_kept (places_of names) m.statements standing h (results settings c (of_stored standing) ws) (results_kept (places_of names) settings c placed standing h ws works))
