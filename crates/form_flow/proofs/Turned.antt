-- A term with other indices can be recorded.
use Rattle.std.proofs.Common.{ℕ, zero, suc, Bool, true, false, if◌then◌else◌, List, [], ◌∷◌, ◌++◌, map, fold, Result, Ok, Err, IfOk}
use Rattle.std.specs.List.{AllByRecursion, list_any}
use Rattle.std.proofs.lemmas.List.Elements.{All-from_recursion, recursion_from_All}
use Rattle.form_base.specs.declared.cause.Cause.{Cause}
use Rattle.form_term.specs.declared.index.Index.{Index}
use Rattle.form_term.specs.declared.index.Index.TheVariants as indices
use Rattle.form_term.specs.declared.monomial.Monomial.{Monomial}
use Rattle.form_term.specs.Arguments.{arguments_of}
use Rattle.form_term.specs.Monomial.{as_monomial}
use Rattle.form_term.specs.Named.{Place, Places, function_place, word_place, IsIndexNamed, IsComponentNamed, IsDeltaNamed, IsCallNamed, IsSoundArgument, IsSummand}
use Rattle.form_term.specs.Term.{Call, Argument, index, vector, expression, IsCall, size}
use Rattle.form_term.proofs.Each.{each_append, each_map, each_weaker}
use Rattle.form_term.proofs.Named.{sound_read}
use Rattle.form_term.proofs.ReadBack.{call_arguments}
use Rattle.form_normal.specs.Product.{product}
use Rattle.form_normal.specs.Recordable.{IsRecordable, IsFactor}
use Rattle.form_normal.proofs.Recordable.{product_is_recordable}
use Rattle.form_expand.specs.Listing.{Listing}
use Rattle.form_expand.specs.Sound.{AreSummands, AreRecordable}
use Rattle.form_expand.proofs.Listed.{in_followed, in_product}
use Rattle.form_expand.proofs.Meant.{expression_summands}
use Rattle.form_expand.proofs.Singled.{AreSound, argument_sound, sound_call, named_call, delta_named}
use Rattle.form_flow.specs.declared.indices.Renaming.{Renaming}
use Rattle.form_flow.specs.Indices.{put, is_declared, become, free_dummy, and_dummy, dummies, indices_in, renamed_component, renamed_delta, with_factors, listed, renamed_argument, and_made, each_made, call_by, renamed_call, with_calls, renamed, dummies_put, number_put}
use Rattle.form_flow.specs.Statements.{summed_over}
use Rattle.form_flow.proofs.Factored.{each_lawful}

both_hold : {A : Type 0} (P Q : A → Type 0) (xs : List A) → AllByRecursion P xs → AllByRecursion Q xs → AllByRecursion (λ (x : A). P x × Q x) xs
both_hold P Q [] h k = tt
both_hold P Q (x ∷ xs) h k = ((h.0, k.0), both_hold P Q xs h.1 k.1)

-- what each gives, where all are made
module _ {A : Type 0} (P : A → Type 0) (make : A → Result A Cause) (sound : (x : A) → P x → IfOk (make x) P) where
  all_made : (xs : List A) → AllByRecursion P xs → IfOk (each_made make xs) (AllByRecursion P)
  all_made [] h = tt
  all_made (x ∷ xs) h = by (make x) (sound x h.0) (each_made make xs) (all_made xs h.1)
    where
      by : (r : Result A Cause) → IfOk r P → (s : Result (List A) Cause) → IfOk s (AllByRecursion P) → IfOk (and_made r s) (AllByRecursion P)
      by (Err cause) g s k = tt
      by (Ok y) g (Err cause) k = tt
      by (Ok y) g (Ok ys) k = (g, k)

module _ (names : Places) where
  -- lawful functions that stand at their place
  abbrev pub IsSoundCall : Place → Call → Type 0
  IsSoundCall place c = IsCall c × IsCallNamed place names c

  pub functions_sound : (m : Monomial) → IsSummand names m → AllByRecursion (IsSoundCall function_place) m.term.others.functions
  functions_sound m h =
      both_hold IsCall (IsCallNamed function_place names) m.term.others.functions (recursion_from_All IsCall m.term.others.functions h.lawful.others.functions) h.named.functions

  pub word_sound : (m : Monomial) → IsSummand names m → AllByRecursion (IsSoundCall word_place) m.term.others.word
  word_sound m h = both_hold IsCall (IsCallNamed word_place names) m.term.others.word (recursion_from_All IsCall m.term.others.word h.lawful.others.word) h.named.word

  listed_sound : (make : Monomial → Listing) → ((m : Monomial) → IsSummand names m → AreSummands names (make m)) → (ms : List Monomial) → AllByRecursion (IsSummand names) ms → AreSummands names (listed make ms)
  listed_sound make f [] h = tt
  listed_sound make f (m ∷ ms) h = in_followed (IsSummand names) (make m).terms (make m).end (listed make ms) (f m h.0) (listed_sound make f ms h.1)

  module _ (turn : Index → Index) (kept : (i : Index) → IsIndexNamed names i → IsIndexNamed names (turn i)) where
    argument_turned : (make : Monomial → Listing) → ((m : Monomial) → IsSummand names m → AreSummands names (make m)) → (a : Argument) → IsSoundArgument names a → IfOk (renamed_argument turn make a) (IsSoundArgument names)
    argument_turned make f (index i) h = (tt, kept i h.1)
    argument_turned make f (vector v) h = h
    argument_turned make f (expression ss) h = argument_sound names (listed make (map as_monomial ss)) (listed_sound make f (map as_monomial ss) (expression_summands names ss h))

    call_turned : (place : Place) (make : Monomial → Listing) → ((m : Monomial) → IsSummand names m → AreSummands names (make m)) → (c : Call) → IsSoundCall place c → IfOk (renamed_call turn make c) (IsSoundCall place)
    call_turned place make f c h =
        by (each_made (renamed_argument turn make) (arguments_of c.pieces))
        (all_made (IsSoundArgument names) (renamed_argument turn make) (argument_turned make f) (arguments_of c.pieces) (sound_read names c.pieces (call_arguments c h.0, h.1.1)))
      where
        by : (r : Result (List Argument) Cause) → IfOk r (AreSound names) → IfOk (call_by c.function r) (IsSoundCall place)
        by (Err cause) k = tt
        by (Ok args) k = (sound_call names c.function args k, named_call names c.function args k place h.1.0)

    turned_factor : (m : Monomial) (fs ws : List Call) → IsSummand names m → AllByRecursion (IsSoundCall function_place) fs → AllByRecursion (IsSoundCall word_place) ws
        → IsFactor names (record { coefficient = m.coefficient; term = with_factors turn m.term fs ws })
    turned_factor m fs ws h f w =
        let functions = All-from_recursion IsCall fs (each_weaker (IsSoundCall function_place) IsCall (λ c k. k.0) fs f) in
        let word = All-from_recursion IsCall ws (each_weaker (IsSoundCall word_place) IsCall (λ c k. k.0) ws w) in
        record {
          named = record {
            symbols = h.named.symbols;
            dots = h.named.dots;
            components = each_map (IsComponentNamed names) (IsComponentNamed names) (renamed_component turn) (λ c k. (k.0, kept c.index k.1)) m.term.others.components h.named.components;
            deltas = each_map (IsDeltaNamed names) (IsDeltaNamed names) (renamed_delta turn) (λ d k. delta_named names (turn d.first) (turn d.second) (kept d.first k.0) (kept d.second k.1)) m.term.others.deltas h.named.deltas;
            functions = each_weaker (IsSoundCall function_place) (IsCallNamed function_place names) (λ c k. k.1) fs f;
            word = each_weaker (IsSoundCall word_place) (IsCallNamed word_place names) (λ c k. k.1) ws w;
          };
          each = each_lawful turn m.term fs ws h.lawful functions word;
          lowest = h.lowest;
          present = h.present;
        }

    calls_turned : (m : Monomial) → IsSummand names m → (r s : Result (List Call) Cause) → IfOk r (AllByRecursion (IsSoundCall function_place)) → IfOk s (AllByRecursion (IsSoundCall word_place)) → AreRecordable names (with_calls turn m r s)
    calls_turned m h (Err cause) s f w = tt
    calls_turned m h (Ok fs) (Err cause) f w = tt
    calls_turned m h (Ok fs) (Ok ws) f w =
        let n : Monomial = record { coefficient = m.coefficient; term = with_factors turn m.term fs ws } in
        in_product (IsRecordable names) (product (n ∷ [])) (λ r e. product_is_recordable names (n ∷ []) r (turned_factor m fs ws h f w, tt) e)

    pub renamed_recordable : (n : ℕ) (m : Monomial) → IsSummand names m → AreRecordable names (renamed n turn m)
    unfolding renamed
    renamed_recordable zero m h = tt
    renamed_recordable (suc n) m h =
        let make : Monomial → Listing = renamed n turn in
        let f : (x : Monomial) → IsSummand names x → AreSummands names (make x) = λ x k. each_weaker (IsRecordable names) (IsSummand names) (λ y r. r.summand) (renamed n turn x).terms (renamed_recordable n x k) in
        calls_turned m h (each_made (renamed_call turn make) m.term.others.functions) (each_made (renamed_call turn make) m.term.others.word)
        (all_made (IsSoundCall function_place) (renamed_call turn make) (call_turned function_place make f) m.term.others.functions (functions_sound m h))
        (all_made (IsSoundCall word_place) (renamed_call turn make) (call_turned word_place make f) m.term.others.word (word_sound m h))

  -- ---- what indices become

  put_named : (i : ℕ) (new j : Index) → IsIndexNamed names new → IsIndexNamed names j → IsIndexNamed names (put i new j)
  put_named i new j h k = by (is_declared i j)
    where
      by : (b : Bool) → IsIndexNamed names (if b then new else j)
      by true = h
      by false = k

  abbrev IsTargetNamed : Renaming → Type 0
  IsTargetNamed r = IsIndexNamed names r.to

  become_named : (rs : List Renaming) → AllByRecursion IsTargetNamed rs → (j : Index) → IsIndexNamed names j → IsIndexNamed names (become rs j)
  become_named [] h j k = k
  become_named (r ∷ rs) h j k = become_named rs h.1 (put r.from r.to j) (put_named r.from r.to j h.0 k)

  one_dummy : (all : List Index) (rs : List Renaming) (i : ℕ) → AllByRecursion IsTargetNamed rs → AllByRecursion IsTargetNamed (and_dummy all rs i)
  one_dummy all rs i h = by (list_any (is_declared i) (map (become rs) all))
    where
      by : (b : Bool) → AllByRecursion IsTargetNamed (if b then rs ++ record { from = i; to = indices.Dummy (free_dummy (map (become rs) all)) } ∷ [] else rs)
      by true = each_append IsTargetNamed rs (record { from = i; to = indices.Dummy (free_dummy (map (become rs) all)) } ∷ []) h (tt, tt)
      by false = h

  all_dummies : (is : List ℕ) (all : List Index) (rs : List Renaming) → AllByRecursion IsTargetNamed rs → AllByRecursion IsTargetNamed (fold (and_dummy all) rs is)
  all_dummies [] all rs h = h
  all_dummies (i ∷ is) all rs h = all_dummies is all (and_dummy all rs i) (one_dummy all rs i h)

  pub dummies_recordable : (is : List ℕ) (m : Monomial) → IsSummand names m → AreRecordable names (dummies_put is m)
  dummies_recordable is m h =
      let rs : List Renaming = dummies is (indices_in m.term) in
      renamed_recordable (become rs) (become_named rs (all_dummies is (indices_in m.term) [] tt)) (suc (size m.term)) m h

  pub number_recordable : (i n : ℕ) (m : Monomial) → IsSummand names m → AreRecordable names (number_put i n m)
  number_recordable i n m h = renamed_recordable (put i (indices.Fixed n)) (λ j k. put_named i (indices.Fixed n) j tt k) (suc (size m.term)) m h

  pub summed_recordable : (i : ℕ) (ns : List ℕ) (m : Monomial) → IsSummand names m → AreRecordable names (summed_over i ns m)
  unfolding summed_over
  summed_recordable i [] m h = tt
  summed_recordable i (n ∷ ns) m h = in_followed (IsRecordable names) (number_put i n m).terms (number_put i n m).end (summed_over i ns m) (number_recordable i n m h) (summed_recordable i ns m h)
