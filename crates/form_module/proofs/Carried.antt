-- Expressions are carried out one by one.
use Rattle.std.proofs.Common.{◌≡◌, ◌≤◌, ℕ, Bool, true, false, List, [], ◌∷◌, ◌++◌, filter, fold, length, map, Option, Some, None, Result, Ok, Err, refl, sym, subst, ap, ◌∙◌, append_assoc, append-nil}
use Rattle.std.specs.Prelude.{All, if◌then◌else◌}
use Rattle.std.specs.Bool.{OnTrue}
use Rattle.std.specs.List.{AllByRecursion}
use Rattle.std.specs.List.Sorted.{IsStrictlySortedBy}
use Rattle.std.specs.Map.{keys_of}
use Rattle.std.specs.Ordering.{nat_cmp}
use Rattle.std.proofs.lemmas.Bool.{le-ltb}
use Rattle.std.proofs.lemmas.List.Sums.{fold-append}
use Rattle.form_base.specs.declared.cause.Cause.{Cause}
use Rattle.form_base.specs.declared.cause.Cause.TheVariants.{TermLimit}
use Rattle.form_base.specs.declared.settings.Settings.{Settings}
use Rattle.form_term.specs.declared.monomial.Monomial.{Monomial}
use Rattle.form_collect.specs.Collecting.{collected}
use Rattle.form_tree.specs.Tree.{Sum}
use Rattle.form_expand.specs.declared.stored.Stored.{Stored}
use Rattle.form_expand.specs.Listing.{Listing}
use Rattle.form_expand.specs.Meanings.{Meanings, of_stored, terms_of}
use Rattle.form_check.specs.declared.checked.Checked.{Checked}
use Rattle.form_check.specs.Program.{CheckedStatement, Module}
use Rattle.form_flow.specs.Making.{compiled}
use Rattle.form_flow.specs.Statement.{Compiled}
use Rattle.form_flow.specs.Statements.{outputs}
use Rattle.form_module.specs.Answers.{AreCarriedOut, IsRefused, at_expression}
use Rattle.form_module.specs.Inputs.{IsTreeOf, inputs_of}
use Rattle.form_module.specs.Module.{HasRightSide, Refusal, before, collected_list, inputs_by, module_outcome, or_overflow, outcome_by, result_of, results, standing_after, stays, with_expression, with_result, within}
use Rattle.form_module.specs.Places.{right_side_by, work_at}
use Rattle.form_module.specs.Settled.{AreAtRest, AreSettled, IsAlike}
use Rattle.form_module.specs.Works.{works_of}
use Rattle.form_module.specs.declared.carry_error.CarryError.{CarryError}
use Rattle.form_module.specs.declared.result_error.ResultError.{ResultError}
use Rattle.form_module.specs.declared.result_error.ResultError.TheVariants.{Refused, Memory}
use Rattle.form_module.proofs.Collected.{as_they_are}
use Rattle.form_module.proofs.Taken.{all_of}
use Rattle.form_module.proofs.Fitting.{Builds, IsFit, IsFitBy, inputs_told, works_fit}
use Rattle.form_module.proofs.LeftOut.{IsOut, Made, all_or_shown, ids_more, ids_of, leaving_out, none_more, out_more, showing, shown, shown_more, stays_there, stored_more, stored_of}

-- results that are made already, before the others
abbrev pub before_all : List Stored → Result (List Stored) Refusal → Result (List Stored) Refusal
before_all [] rest = rest
before_all (e ∷ es) rest = before e (before_all es rest)

before_all_more : (made : List Stored) (e : Stored) (rest : Result (List Stored) Refusal) → before_all made (before e rest) ≡ before_all (made ++ e ∷ []) rest
before_all_more [] e rest = refl
before_all_more (m ∷ ms) e rest = ap (before m) (before_all_more ms e rest)

before_all_none : (made : List Stored) → before_all made (Ok []) ≡ Ok made
before_all_none [] = refl
before_all_none (m ∷ ms) = ap (before m) (before_all_none ms)

before_all_refused : (made : List Stored) (refusal : Refusal) → before_all made (Err refusal) ≡ Err refusal
before_all_refused [] refusal = refl
before_all_refused (m ∷ ms) refusal = ap (before m) (before_all_refused ms refusal)

-- terms are the result of themselves where they are collected, and not too many
pub settled : (most : ℕ) (terms : List Monomial) (is_collected : Bool) → length terms ≤ most → OnTrue is_collected (collected terms ≡ Some terms) → OnTrue is_collected (AreSettled most terms)
settled most terms true few is =
    ap (λ o. within most (or_overflow o)) is ∙ ap (λ (b : Bool). if b then Err TermLimit else Ok terms) (le-ltb most (length terms) few)
settled most terms false few is = tt

module _ (settings : Settings) (statements : List Checked) (ready : Compiled) (names : Meanings) where
  -- what stays, in its places
  abbrev Staying : List Stored
  Staying = fold with_expression [] (filter (stays statements) names.stored)

  -- These results are made, of which some are left out, and what is at these places is left to carry out.
  pub record IsCarriedTo (entries : List (ℕ × Option ℕ)) (made : List Stored) (rest : List (ℕ × Option ℕ)) : Type 0 where
    pub so_far : List Made
    pub are_shown : made ≡ shown so_far
    pub ids : ids_of so_far ++ keys_of rest ≡ keys_of entries
    pub out : AllByRecursion (IsOut Staying) so_far
    pub fit : AllByRecursion (IsFit statements names.stored) (map (work_at statements) rest)
    pub carried : results settings ready names (works_of statements names.stored) ≡ before_all (stored_of so_far) (results settings ready names (map (work_at statements) rest))

  pub begin : (entries : List (ℕ × Option ℕ)) (made : List Stored) (rest : List (ℕ × Option ℕ)) → Builds → All HasRightSide statements →
      map (work_at statements) entries ≡ works_of statements names.stored → made ≡ [] → rest ≡ entries → IsCarriedTo entries made rest
  begin entries made rest builds have are none all = record {
    so_far = [];
    are_shown = none;
    ids = ap keys_of all;
    out = tt;
    fit = subst (AllByRecursion (IsFit statements names.stored)) (sym (ap (map (work_at statements)) all ∙ are)) (works_fit builds statements names.stored have);
    carried = ap (results settings ready names) (sym (ap (map (work_at statements)) all ∙ are));
  }

  -- what is meant by an expression that is carried out
  abbrev pub Meant : ℕ → Option ℕ → Result (List Monomial) Cause
  Meant id place = result_of settings.max_terms ready (inputs_by settings.max_expand names id (right_side_by statements place))

  abbrev Rest : List (ℕ × Option ℕ) → Result (List Stored) Refusal
  Rest rest = results settings ready names (map (work_at statements) rest)

  -- the first of what is left
  first_meant : (id : ℕ) (place : Option ℕ) (later : List (ℕ × Option ℕ)) (r : Result (List Monomial) Cause) → Meant id place ≡ r → Rest ((id, place) ∷ later) ≡ with_result id r (Rest later)
  first_meant id place later r meant = ap (λ x. with_result id x (Rest later)) meant

  module _ (entries : List (ℕ × Option ℕ)) (made : List Stored) (rest : List (ℕ × Option ℕ)) (c : IsCarriedTo entries made rest) where
    module _ (id : ℕ) (place : Option ℕ) (later : List (ℕ × Option ℕ)) (first : rest ≡ (id, place) ∷ later) where
      fit_here : AllByRecursion (IsFit statements names.stored) (map (work_at statements) ((id, place) ∷ later))
      fit_here = subst (λ es. AllByRecursion (IsFit statements names.stored) (map (work_at statements) es)) first c.fit

      pub first_fits : IsFitBy statements names.stored id (right_side_by statements place)
      first_fits = fit_here.0

      -- what is told of what is meant by it, by each tree of its right side
      pub meant_by : (what : Result (List Monomial) Cause → Type 0) →
          ((tree : Option Sum) → IsTreeOf (right_side_by statements place) tree → what (result_of settings.max_terms ready (inputs_of settings.max_expand names id tree))) → what (Meant id place)
      meant_by what tells =
          inputs_told (λ (l : Listing). what (result_of settings.max_terms ready l)) settings.max_expand names statements names.stored id (right_side_by statements place) first_fits tells

      -- one result more
      with_made : (m : Made) (terms : List Monomial) (now : List Stored) → Meant id place ≡ Ok terms → m.stored ≡ record { expression = id; terms = terms } → IsOut Staying m → now ≡ shown (c.so_far ++ m ∷ []) → IsCarriedTo entries now later
      with_made m terms now meant is out is_now = record {
        so_far = c.so_far ++ m ∷ [];
        are_shown = is_now;
        ids = ap (λ ns. ns ++ keys_of later) (ids_more c.so_far m)
            ∙ append_assoc (ids_of c.so_far) (m.stored.expression ∷ []) (keys_of later)
            ∙ ap (λ (x : Stored). ids_of c.so_far ++ x.expression ∷ keys_of later) is
            ∙ ap (λ es. ids_of c.so_far ++ keys_of es) (sym first)
            ∙ c.ids;
        out = out_more Staying c.so_far m c.out out;
        fit = fit_here.1;
        carried = c.carried
            ∙ ap (λ es. before_all (stored_of c.so_far) (Rest es)) first
            ∙ ap (before_all (stored_of c.so_far)) (first_meant id place later (Ok terms) meant)
            ∙ before_all_more (stored_of c.so_far) (record { expression = id; terms = terms }) (Rest later)
            ∙ ap (λ x. before_all (stored_of c.so_far ++ x ∷ []) (Rest later)) (sym is)
            ∙ ap (λ es. before_all es (Rest later)) (sym (stored_more c.so_far m));
      }

      pub more : (terms : List Monomial) (now : List Stored) → Meant id place ≡ Ok terms → now ≡ made ++ record { expression = id; terms = terms } ∷ [] → IsCarriedTo entries now later
      more terms now meant put =
          let x : Stored = record { expression = id; terms = terms } in
          with_made (showing x) terms now meant refl tt (put ∙ ap (λ es. es ++ x ∷ []) c.are_shown ∙ sym (shown_more c.so_far x))

      -- one that is left out
      own_meant : AreAtRest ready names.stored → place ≡ None → AreSettled settings.max_terms (terms_of names id) → Meant id place ≡ Ok (terms_of names id)
      own_meant at_rest own is =
          ap (Meant id) own
          ∙ ap (λ l. within settings.max_terms (collected_list l)) (sym (as_they_are (outputs ready) at_rest.leave (all_of (terms_of names id))))
          ∙ is

      own_fits : place ≡ None → IsFitBy statements names.stored id None
      own_fits own = subst (λ (p : Option ℕ). IsFitBy statements names.stored id (right_side_by statements p)) own first_fits

      pub left_out : (is_at_rest : Bool) → OnTrue is_at_rest (AreAtRest ready names.stored) → IsAlike is_at_rest settings.max_terms names id place → IsCarriedTo entries made later
      left_out is_at_rest rests alike =
          let x : Stored = record { expression = id; terms = terms_of names id } in
          let at_rest : AreAtRest ready names.stored = subst (λ b. OnTrue b (AreAtRest ready names.stored)) alike.at_rest rests in
          let fits = own_fits alike.own in
          with_made (leaving_out x) (terms_of names id) made (own_meant at_rest alike.own alike.settled) refl (stays_there statements names.stored [] id at_rest.ascend fits.0 fits.1) (c.are_shown ∙ sym (none_more c.so_far x))

      -- the first refusal
      pub refused : (error : ResultError) (answer : CarryError) → answer ≡ at_expression id error → IsRefused error (Meant id place) → AreCarriedOut settings statements ready names (Err answer)
      refused error answer is meant = subst (λ a. AreCarriedOut settings statements ready names (Err a)) (sym is) (by error meant)
        where
          by : (e : ResultError) → IsRefused e (Meant id place) → AreCarriedOut settings statements ready names (Err (at_expression id e))
          by (Refused cause) stops =
              ap (standing_after statements names.stored)
              (c.carried
              ∙ ap (λ es. before_all (stored_of c.so_far) (Rest es)) first
              ∙ ap (before_all (stored_of c.so_far)) (first_meant id place later (Err cause) stops)
              ∙ before_all_refused (stored_of c.so_far) (record { cause = cause; expression = id }))
          by Memory stops = tt

    -- all of them
    pub done : rest ≡ [] → IsStrictlySortedBy nat_cmp (keys_of entries) → outcome_by settings statements ready names ≡ standing_after statements names.stored (Ok made)
    done none rise =
        let ids : ids_of c.so_far ≡ keys_of entries = sym (append-nil (ids_of c.so_far)) ∙ ap (λ es. ids_of c.so_far ++ keys_of es) (sym none) ∙ c.ids in
        let stay = filter (stays statements) names.stored in
        ap (standing_after statements names.stored)
        (c.carried
        ∙ ap (λ es. before_all (stored_of c.so_far) (Rest es)) none
        ∙ before_all_none (stored_of c.so_far))
        ∙ ap Ok
        (fold-append with_expression [] stay (stored_of c.so_far)
        ∙ all_or_shown Staying c.so_far c.out (subst (IsStrictlySortedBy nat_cmp) (sym ids) rise)
        ∙ ap (fold with_expression Staying) (sym c.are_shown)
        ∙ sym (fold-append with_expression [] stay made))

-- ---- a module

module _ (settings : Settings) (m : Module) (standing : List Stored) where
  -- what it comes to is said by its statements as they are made ready, and by what names stand for
  same_outcome : (statements : List Checked) (actions : List CheckedStatement) (ready : Compiled) (names : Meanings) → statements ≡ m.statements → actions ≡ m.actions →
      ready ≡ compiled settings.max_expand settings.max_repeat actions → names ≡ of_stored standing → module_outcome settings m standing ≡ outcome_by settings statements ready names
  same_outcome statements actions ready names its_statements its_actions is_ready are =
      ap (λ s. outcome_by settings s (compiled settings.max_expand settings.max_repeat m.actions) (of_stored standing)) (sym its_statements)
      ∙ ap (λ r. outcome_by settings statements r (of_stored standing)) (sym (is_ready ∙ ap (compiled settings.max_expand settings.max_repeat) its_actions))
      ∙ ap (outcome_by settings statements ready) (sym are)

  module _ (statements : List Checked) (actions : List CheckedStatement) (ready : Compiled) (names : Meanings) (its_statements : statements ≡ m.statements) (its_actions : actions ≡ m.actions)
      (is_ready : ready ≡ compiled settings.max_expand settings.max_repeat actions) (are : names ≡ of_stored standing) where
    same : module_outcome settings m standing ≡ outcome_by settings statements ready names
    same = same_outcome statements actions ready names its_statements its_actions is_ready are

    -- what stands after it
    pub all_carried : (made after kept : List Stored) → outcome_by settings statements ready names ≡ standing_after statements names.stored (Ok made) → kept ≡ names.stored →
        Ok after ≡ standing_after statements kept (Ok made) → module_outcome settings m standing ≡ Ok after
    all_carried made after kept carried keeps stands =
        same ∙ carried ∙ ap (λ es. standing_after statements es (Ok made)) (sym keeps) ∙ sym stands
