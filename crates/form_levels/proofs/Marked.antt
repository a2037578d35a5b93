-- Outputs that go on, by whether something acted on their way.
use Rattle.std.proofs.Common.{◌≡◌, Bool, true, false, if◌then◌else◌, List, [], ◌∷◌, ◌++◌, map, refl, sym, ap, subst, ◌∙◌, append_assoc}
use Rattle.std.specs.Prelude.{flat_map, filter}
use Rattle.std.specs.List.{AllByRecursion}
use Rattle.std.specs.List.Sorted.{IsPermutation}
use Rattle.std.proofs.lemmas.List.{map-append}
use Rattle.std.proofs.lemmas.List.Concat.{flat_map-append}
use Rattle.std.proofs.lemmas.List.Elements.{filter-append}
use Rattle.std.proofs.lemmas.List.Sorted.{IsPermutation-trans, IsPermutation-sym, IsPermutation-refl, IsPermutation-cons, IsPermutation-append, IsPermutation-append_right, IsPermutation-middle}
use Rattle.form_term.specs.declared.monomial.Monomial.{Monomial}
use Rattle.form_gathered.proofs.Shuffled.{second_first, parts_crossed, all_front, all_back}
use Rattle.form_flow.specs.Outcome.{Output, output, Ended, done, refused, Outcome, or_acted, then_at, each, bind, also_acted, behind}
use Rattle.form_levels.specs.Runs.{has_mark, items, items_with, each_output, each_with, IsDone, IsFine}

-- ---- by their marks

items_append : (acted : Bool) (os ps : List Output) → items_with acted (os ++ ps) ≡ items_with acted os ++ items_with acted ps
items_append acted os ps =
    ap (map (λ (o : Output). o.item)) (filter-append (has_mark acted) os ps)
    ∙ map-append (λ (o : Output). o.item) (filter (has_mark acted) os) (filter (has_mark acted) ps)

-- behind what acted, nothing is idle, and all acted
none_idle : (os : List Output) → items_with false (map (also_acted true) os) ≡ []
none_idle [] = refl
none_idle (o ∷ os) = none_idle os

all_acted : (os : List Output) → items_with true (map (also_acted true) os) ≡ items os
all_acted [] = refl
all_acted (o ∷ os) = ap (λ ms. o.item ∷ ms) (all_acted os)

-- all of them, by their marks
both_marks : (os : List Output) → IsPermutation (items os) (items_with false os ++ items_with true os)
both_marks [] = IsPermutation-refl []
both_marks (o ∷ os) = by (both_marks os) o.acted o.item
  where
    by : IsPermutation (items os) (items_with false os ++ items_with true os) → (acted : Bool) (m : Monomial)
        → IsPermutation (m ∷ items os) (items_with false (output acted m ∷ os) ++ items_with true (output acted m ∷ os))
    by h true m =
        IsPermutation-trans _ _ _ (IsPermutation-cons m (items os) (items_with false os ++ items_with true os) h)
        (IsPermutation-sym _ _ (IsPermutation-middle (items_with false os) m (items_with true os)))
    by h false m = IsPermutation-cons m (items os) (items_with false os ++ items_with true os) h

-- ---- done

-- an outcome that isn't refused, and its outputs
abbrev pub IsWhole : Outcome → List Output → Type 0
IsWhole o os = IsDone o.end × (o.outputs ≡ os)

still_done : (acted : Bool) (e : Ended) → IsDone e → IsDone (or_acted acted e)
still_done acted (done also) h = tt
still_done acted (refused cause) h = h

then_whole : (os : List Output) (e : Ended) (b : Outcome) (ps : List Output) → IsDone e → IsWhole b ps → IsWhole (then_at os e b) (os ++ ps)
unfolding then_at
then_whole os (done acted) b ps h w = (still_done acted b.end w.0, ap (λ l. os ++ l) w.1)
then_whole os (refused cause) b ps h w = absurd h

pub each_whole : (k : Output → Outcome) (os : List Output) (e : Ended) → IsDone e → AllByRecursion (λ x. IsDone (k x).end) os → IsWhole (each k os e) (flat_map (λ x. (k x).outputs) os)
unfolding each
each_whole k [] e h all = (h, refl)
each_whole k (o ∷ os) e h all = then_whole (k o).outputs (k o).end (each k os e) (flat_map (λ x. (k x).outputs) os) all.0 (each_whole k os e h all.1)

-- all outputs of some terms, by their marks
pub all_both : (g : Monomial → Outcome) (ms : List Monomial) → IsPermutation (each_output g ms) (each_with false g ms ++ each_with true g ms)
all_both g [] = IsPermutation-refl []
all_both g (m ∷ ms) =
    let i = items_with false (g m).outputs in
    let a = items_with true (g m).outputs in
    let all = each_output g ms in
    IsPermutation-trans (items (g m).outputs ++ all) ((i ++ a) ++ (each_with false g ms ++ each_with true g ms)) _
    (IsPermutation-append (items (g m).outputs) (i ++ a) all (each_with false g ms ++ each_with true g ms) (both_marks (g m).outputs) (all_both g ms))
    (parts_crossed i a (each_with false g ms) (each_with true g ms))

-- ---- one after the other

-- Outputs on whose way nothing acted go on by the first, the others by the second, and keep their mark.
module _ (h g : Monomial → Outcome) where
  abbrev pub onward_by : Output → Outcome
  onward_by x = if x.acted then behind true (g x.item) else h x.item

  abbrev after : List Output → List Output
  after os = flat_map (λ x. (onward_by x).outputs) os

  idle_after : (os : List Output) → items_with false (after os) ≡ each_with false h (items_with false os)
  idle_after [] = refl
  idle_after (o ∷ os) = by (idle_after os) o.acted o.item
    where
      by : items_with false (after os) ≡ each_with false h (items_with false os) → (acted : Bool) (m : Monomial)
          → items_with false ((onward_by (output acted m)).outputs ++ after os) ≡ each_with false h (items_with false (output acted m ∷ os))
      by e true m =
          items_append false (map (also_acted true) (g m).outputs) (after os)
          ∙ ap (λ l. l ++ items_with false (after os)) (none_idle (g m).outputs)
          ∙ e
      by e false m = items_append false (h m).outputs (after os) ∙ ap (λ l. items_with false (h m).outputs ++ l) e

  acted_after : (os : List Output) → IsPermutation (items_with true (after os)) (each_with true h (items_with false os) ++ each_output g (items_with true os))
  acted_after [] = IsPermutation-refl []
  acted_after (o ∷ os) = by (acted_after os) o.acted o.item
    where
      by : IsPermutation (items_with true (after os)) (each_with true h (items_with false os) ++ each_output g (items_with true os)) → (acted : Bool) (m : Monomial)
          → IsPermutation (items_with true ((onward_by (output acted m)).outputs ++ after os)) (each_with true h (items_with false (output acted m ∷ os)) ++ each_output g (items_with true (output acted m ∷ os)))
      by e true m =
          let x = items (g m).outputs in
          let p = each_with true h (items_with false os) in
          let q = each_output g (items_with true os) in
          let parts = items_append true (map (also_acted true) (g m).outputs) (after os) ∙ ap (λ l. l ++ items_with true (after os)) (all_acted (g m).outputs) in
          subst (λ l. IsPermutation l (p ++ (x ++ q))) (sym parts)
          (IsPermutation-trans (x ++ items_with true (after os)) (x ++ (p ++ q)) (p ++ (x ++ q)) (IsPermutation-append_right x _ _ e) (second_first x p q))
      by e false m =
          let x = items_with true (h m).outputs in
          let p = each_with true h (items_with false os) in
          let q = each_output g (items_with true os) in
          subst (λ l. IsPermutation l ((x ++ p) ++ q)) (sym (items_append true (h m).outputs (after os)))
          (subst (IsPermutation (x ++ items_with true (after os))) (sym (append_assoc x p q)) (IsPermutation-append_right x _ _ e))

  fine_after : (os : List Output) → AllByRecursion (IsFine h) (items_with false os) → AllByRecursion (IsFine g) (items_with true os) → AllByRecursion (λ x. IsDone (onward_by x).end) os
  fine_after [] a b = tt
  fine_after (o ∷ os) a b = by (fine_after os) o.acted o.item a b
    where
      by : (AllByRecursion (IsFine h) (items_with false os) → AllByRecursion (IsFine g) (items_with true os) → AllByRecursion (λ x. IsDone (onward_by x).end) os) → (acted : Bool) (m : Monomial)
          → AllByRecursion (IsFine h) (items_with false (output acted m ∷ os)) → AllByRecursion (IsFine g) (items_with true (output acted m ∷ os)) → AllByRecursion (λ x. IsDone (onward_by x).end) (output acted m ∷ os)
      by rest true m a b = (b.0, rest a b.1)
      by rest false m a b = (a.0, rest a.1 b)

  module _ (f : Monomial → Outcome) where
    -- a term by the first of three, and then by the others
    abbrev pub then_by : Monomial → Outcome
    then_by m = bind onward_by (f m)

    abbrev pub IsRow : Monomial → Type 0
    IsRow m = IsWhole (then_by m) (after (f m).outputs)

    pub whole_rows : (list : List Monomial) → AllByRecursion (IsFine f) list → AllByRecursion (IsFine h) (each_with false f list) → AllByRecursion (IsFine g) (each_with true f list) → AllByRecursion IsRow list
    whole_rows [] d a b = tt
    whole_rows (m ∷ ms) d a b =
        let idle = items_with false (f m).outputs in
        let acted = items_with true (f m).outputs in (
          each_whole onward_by (f m).outputs (f m).end d.0 (fine_after (f m).outputs (all_front (IsFine h) idle (each_with false f ms) a) (all_front (IsFine g) acted (each_with true f ms) b)),
          whole_rows ms d.1 (all_back (IsFine h) idle (each_with false f ms) a) (all_back (IsFine g) acted (each_with true f ms) b),
        )

    pub rows_done : (list : List Monomial) → AllByRecursion IsRow list → AllByRecursion (IsFine then_by) list
    rows_done [] all = tt
    rows_done (m ∷ ms) all = (all.0.0, rows_done ms all.1)

    pub rows_idle : (list : List Monomial) → AllByRecursion IsRow list → each_with false then_by list ≡ each_with false h (each_with false f list)
    rows_idle [] all = refl
    rows_idle (m ∷ ms) all =
        ap (λ os. items_with false os ++ each_with false then_by ms) all.0.1
        ∙ ap (λ l. l ++ each_with false then_by ms) (idle_after (f m).outputs)
        ∙ ap (λ l. each_with false h (items_with false (f m).outputs) ++ l) (rows_idle ms all.1)
        ∙ sym (flat_map-append (λ n. items_with false (h n).outputs) (items_with false (f m).outputs) (each_with false f ms))

    rows_marked : (list : List Monomial) → AllByRecursion IsRow list → IsPermutation (each_with true then_by list) (each_with true h (each_with false f list) ++ each_output g (each_with true f list))
    rows_marked [] all = IsPermutation-refl []
    rows_marked (m ∷ ms) all =
        let i = items_with false (f m).outputs in
        let a = items_with true (f m).outputs in
        let p = each_with true h i in
        let q = each_output g a in
        let ps = each_with true h (each_with false f ms) in
        let qs = each_output g (each_with true f ms) in
        let one : IsPermutation (items_with true (then_by m).outputs) (p ++ q) = subst (λ os. IsPermutation (items_with true os) (p ++ q)) (sym all.0.1) (acted_after (f m).outputs) in
        let both = IsPermutation-trans _ ((p ++ q) ++ (ps ++ qs)) _ (IsPermutation-append (items_with true (then_by m).outputs) (p ++ q) (each_with true then_by ms) (ps ++ qs) one (rows_marked ms all.1)) (parts_crossed p q ps qs) in
        subst (λ l. IsPermutation (each_with true then_by (m ∷ ms)) (l ++ each_output g (each_with true f (m ∷ ms)))) (sym (flat_map-append (λ n. items_with true (h n).outputs) i (each_with false f ms)))
        (subst (λ l. IsPermutation (each_with true then_by (m ∷ ms)) ((p ++ ps) ++ l)) (sym (flat_map-append (λ n. items (g n).outputs) a (each_with true f ms))) both)

    pub rows_acted : (list : List Monomial) → AllByRecursion IsRow list
        → IsPermutation (each_with true then_by list) (each_with true h (each_with false f list) ++ (each_with false g (each_with true f list) ++ each_with true g (each_with true f list)))
    rows_acted list all =
        IsPermutation-trans _ _ _ (rows_marked list all) (IsPermutation-append_right (each_with true h (each_with false f list)) _ _ (all_both g (each_with true f list)))
