-- What an `id` with its `also`s makes of a term can be recorded.
use Rattle.std.proofs.Common.{◌≡◌, ℕ, zero, suc, ◌-◌, ◌<◌, ◌⊎◌, inl, inr, Bool, true, false, if◌then◌else◌, List, [], ◌∷◌, ◌++◌, map, fold, take, drop, replicate, length, get_or, Option, Some, None, IfSome, refl, arith}
use Rattle.std.specs.Prelude.{slice_index_or, Ok}
use Rattle.std.specs.List.{AllByRecursion, flat_map, list_any}
use Rattle.std.proofs.lemmas.List.Elements.{All-from_recursion, recursion_from_All}
use Rattle.form_term.specs.declared.monomial.Monomial.{Monomial}
use Rattle.form_term.specs.Term as terms
use Rattle.form_term.specs.Term.{Term, Call, IsTerm, IsCall}
use Rattle.form_term.specs.Named.{Places, word_place, IsCallNamed, IsNamed, IsSummand}
use Rattle.form_term.proofs.Coefficients.{one_is_coefficient}
use Rattle.form_term.proofs.Each.{each_always, each_append, each_drop, each_flat, each_map, each_take, each_weaker}
use Rattle.form_tree.specs.Placed.{IsSumPlaced}
use Rattle.form_tree.specs.Tree as tree
use Rattle.form_bindings.specs.Named.{AreSoundBindings}
use Rattle.form_bindings.specs.Values.{Binding}
use Rattle.form_normal.specs.Factors.{AreEachLawful}
use Rattle.form_normal.specs.Product.{product_of}
use Rattle.form_normal.specs.Recordable.{IsRecordable, IsFactor}
use Rattle.form_normal.proofs.Alone.{each_lawful}
use Rattle.form_normal.proofs.Recordable.{each_from, factor_from, product_is_recordable}
use Rattle.form_rewrite.specs.declared.taken.Cut.{Cut}
use Rattle.form_rewrite.specs.declared.taken.Origin.{Origin}
use Rattle.form_rewrite.specs.declared.taken.Origin.TheVariants.{Given, TakenBy}
use Rattle.form_rewrite.specs.declared.taken.Taken.{Taken}
use Rattle.form_rewrite.specs.Sound.{IsSoundTaken}
use Rattle.form_rewrite.specs.Taking.{take_out}
use Rattle.form_rewrite.proofs.Sound.{take_out_sound}
use Rattle.form_expand.specs.Left.{row}
use Rattle.form_expand.specs.Listing.{Listing, single}
use Rattle.form_expand.specs.Meanings.{bound_to}
use Rattle.form_expand.specs.Sound.{AreSummands, AreRecordable}
use Rattle.form_expand.proofs.Listed.{AreOf, in_row}
use Rattle.form_expand.proofs.Recording.{lists_of_summands}
use Rattle.form_flow.specs.Ready.{Part}
use Rattle.form_flow.specs.Rewriting.{Rest, untouched, right_with, no_list, put_in_by, is_by_match, any_match, behind_by, and_taken, and_part, word_factor, from_cuts, to_first_cut, behind_first, list_of_rest, rest_of, rewritten}
use Rattle.form_flow.specs.Sound.{IsPartPlaced}

-- ---- lists

-- there is something in a list
abbrev HasOne : {A : Type 0} → List A → Type 0
HasOne [] = ⊥
HasOne (x ∷ xs) = Unit {0}

one_behind : {A : Type 0} (xs ys : List A) → HasOne ys → HasOne (xs ++ ys)
one_behind [] ys h = h
one_behind (x ∷ xs) ys h = tt

one_mapped : {A B : Type 0} (f : A → B) (xs : List A) → HasOne xs → HasOne (map f xs)
one_mapped f [] h = absurd h
one_mapped f (x ∷ xs) h = tt

one_replicated : {A : Type 0} (n : ℕ) (x : A) (rest : List A) → 0 < n → HasOne (replicate n x ++ rest)
one_replicated zero x rest h = absurd (omega arith)
one_replicated (suc n) x rest h = tt

one_passing : {A : Type 0} (test : A → Bool) (xs : List A) → list_any test xs ≡ true → HasOne xs
one_passing test [] e = absurd (cc)
one_passing test (x ∷ xs) e = tt

each_replicated : {A : Type 0} (P : A → Type 0) (n : ℕ) (x : A) → P x → AllByRecursion P (replicate n x)
each_replicated P zero x h = tt
each_replicated P (suc n) x h = (h, each_replicated P n x h)

at_or : {A : Type 0} (P : A → Type 0) (xs : List A) (n : ℕ) (d : A) → AllByRecursion P xs → P d → P (get_or xs n d)
at_or P [] n d h k = k
at_or P (x ∷ xs) zero d h k = h.0
at_or P (x ∷ xs) (suc n) d h k = at_or P xs n d h.1 k

-- what is put in at a cut, with its place
abbrev put_at : ℕ → tree.Sum → Rest → Taken → Cut → ℕ × Listing
put_at max right r x c = (c.place, put_in_by max right r.cuts x.matches c.origin)

-- what is left of a term, and what is put in: where something matched there is something
record IsSoundRest (names : Places) (r : Rest) : Type 0 where
  named : IsNamed names r.left
  lawful : IsTerm r.left
  cuts : AllByRecursion (λ (c : ℕ × Listing). AreSummands names c.1) r.cuts
  behind : AllByRecursion (AreSummands names) r.behind
  some : r.has_matched ≡ true → HasOne r.cuts ⊎ HasOne r.behind

module _ (names : Places) (max : ℕ) where
  abbrev Summands : Listing → Type 0
  Summands l = AreSummands names l

  abbrev IsPut : ℕ × Listing → Type 0
  IsPut c = Summands c.1

  -- ---- what is put in

  right_sound : (right : tree.Sum) → IsSumPlaced names right → (bs : List Binding) → AreSoundBindings names bs → Summands (right_with max right bs)
  right_sound right placed bs h = lists_of_summands names max (bound_to bs) right (record { stored = tt; bindings = h }) placed

  put_sound : (right : tree.Sum) → IsSumPlaced names right → (before : List (ℕ × Listing)) → AllByRecursion IsPut before → (matches : List (List Binding)) → AllByRecursion (AreSoundBindings names) matches
      → (o : Origin) → Summands (put_in_by max right before matches o)
  put_sound right placed before h matches k (Given n) = at_or IsPut before n no_list h tt
  put_sound right placed before h matches k (TakenBy n) = right_sound right placed (slice_index_or matches n []) (at_or (AreSoundBindings names) matches n [] k tt)

  module _ (right : tree.Sum) (placed : IsSumPlaced names right) (r : Rest) (h : IsSoundRest names r) where
    some_behind : (x : Taken) → IsSoundTaken names x → HasOne (flat_map (λ (bs : List Binding). replicate x.times (right_with max right bs)) x.matches)
    some_behind x k = by x.matches k.some
      where
        by : (matches : List (List Binding)) → 0 < length matches → HasOne (flat_map (λ (bs : List Binding). replicate x.times (right_with max right bs)) matches)
        by [] e = absurd (omega arith)
        by (bs ∷ matches) e = one_replicated x.times (right_with max right bs) (flat_map (λ (cs : List Binding). replicate x.times (right_with max right cs)) matches) k.times

    lists_behind : (x : Taken) → IsSoundTaken names x → AllByRecursion Summands (behind_by max right x)
    lists_behind x k = by (any_match x.cuts)
      where
        by : (b : Bool) → AllByRecursion Summands (if b then [] else flat_map (λ bs. replicate x.times (right_with max right bs)) x.matches)
        by true = tt
        by false =
            each_flat (AreSoundBindings names) Summands (λ (bs : List Binding). replicate x.times (right_with max right bs))
            (λ bs g. each_replicated Summands x.times (right_with max right bs) (right_sound right placed bs g)) x.matches k.matches

    -- a right side stands at a cut or behind all that is left
    some_put : (x : Taken) → IsSoundTaken names x → HasOne (map (put_at max right r x) x.cuts) ⊎ HasOne (r.behind ++ behind_by max right x)
    some_put x k = by (any_match x.cuts) refl
      where
        by : (b : Bool) → any_match x.cuts ≡ b
            → HasOne (map (put_at max right r x) x.cuts) ⊎ HasOne (r.behind ++ (if b then [] else flat_map (λ bs. replicate x.times (right_with max right bs)) x.matches))
        by true e = inl (one_mapped (put_at max right r x) x.cuts (one_passing (λ (c : Cut). is_by_match c.origin) x.cuts e))
        by false e = inr (one_behind r.behind (flat_map (λ bs. replicate x.times (right_with max right bs)) x.matches) (some_behind x k))

    taken_sound : (o : Option Taken) → IfSome o (IsSoundTaken names) → IsSoundRest names (and_taken max right r o)
    taken_sound None k = h
    taken_sound (Some x) k = record {
      named = k.named;
      lawful = k.lawful;
      cuts = each_map (λ (c : Cut). Unit {0}) IsPut (put_at max right r x) (λ c g. put_sound right placed r.cuts h.cuts x.matches k.matches c.origin) x.cuts (all_cuts x.cuts);
      behind = each_append Summands r.behind (behind_by max right x) h.behind (lists_behind x k);
      some = λ e. some_put x k;
    }
      where
        all_cuts : (cs : List Cut) → AllByRecursion (λ (c : Cut). Unit {0}) cs
        all_cuts cs = each_always (λ (c : Cut). Unit {0}) (λ c. tt) cs

  part_sound : (r : Rest) (p : Part) → IsPartPlaced names p → IsSoundRest names r → IsSoundRest names (and_part max r p)
  part_sound r p placed h =
      let cuts : List ℕ = map (λ (c : ℕ × Listing). c.0) r.cuts in
      taken_sound p.right placed.1 r h (take_out p.fixed p.pattern p.option r.left cuts) (found (take_out p.fixed p.pattern p.option r.left cuts) refl)
    where
      found : (o : Option Taken) → take_out p.fixed p.pattern p.option r.left (map (λ (c : ℕ × Listing). c.0) r.cuts) ≡ o → IfSome o (IsSoundTaken names)
      found None e = tt
      found (Some x) e = take_out_sound names p.fixed p.pattern p.option r.left (map (λ (c : ℕ × Listing). c.0) r.cuts) x h.named h.lawful placed.0 e

  parts_sound : (ps : List Part) (r : Rest) → AllByRecursion (IsPartPlaced names) ps → IsSoundRest names r → IsSoundRest names (fold (and_part max) r ps)
  parts_sound [] r placed h = h
  parts_sound (p ∷ ps) r placed h = parts_sound ps (and_part max r p) placed.1 (part_sound r p placed.0 h)

  -- ---- the row of lists

  abbrev Factors : Listing → Type 0
  Factors l = AreOf (IsFactor names) l

  as_factors : (l : Listing) → Summands l → Factors l
  as_factors l h = each_weaker (IsSummand names) (IsFactor names) (factor_from names) l.terms h

  abbrev IsLetter : Call → Type 0
  IsLetter c = IsCall c × IsCallNamed word_place names c

  word_listed : (w : List Call) → AllByRecursion IsLetter w → AllByRecursion Factors (word_factor w)
  word_listed [] h = tt
  word_listed (c ∷ cs) h =
      let o : terms.Others = record terms.nothing { word = c ∷ cs } in (
        (
          record {
            named = record { symbols = tt; dots = tt; components = tt; deltas = tt; functions = tt; word = each_weaker IsLetter (IsCallNamed word_place names) (λ d k. k.1) (c ∷ cs) h };
            each = each_from o tt tt tt tt (each_weaker IsLetter IsCall (λ d k. k.0) (c ∷ cs) h);
            lowest = one_is_coefficient.0;
            present = one_is_coefficient.1;
          },
          tt,
        ),
        tt,
      )

  cuts_listed : (w : List Call) → AllByRecursion IsLetter w → (start : ℕ) (cuts : List (ℕ × Listing)) → AllByRecursion IsPut cuts → AllByRecursion Factors (from_cuts w start cuts)
  cuts_listed w h start [] k = word_listed (drop start w) (each_drop IsLetter start w h)
  cuts_listed w h start (c ∷ cuts) k =
      each_append Factors (word_factor (take (c.0 - start) (drop start w))) (c.1 ∷ from_cuts w c.0 cuts)
      (word_listed (take (c.0 - start) (drop start w)) (each_take IsLetter (c.0 - start) (drop start w) (each_drop IsLetter start w h)))
      (as_factors c.1 k.0, cuts_listed w h c.0 cuts k.1)

  behind_listed : (ls : List Listing) → AllByRecursion Summands ls → AllByRecursion Factors ls
  behind_listed ls h = each_weaker Summands Factors as_factors ls h

  both_hold : (cs : List Call) → AllByRecursion IsCall cs → AllByRecursion (IsCallNamed word_place names) cs → AllByRecursion IsLetter cs
  both_hold [] h k = tt
  both_hold (c ∷ cs) h k = ((h.0, k.0), both_hold cs h.1 k.1)

  letters : (t : Term) → IsTerm t → IsNamed names t → AllByRecursion IsLetter t.others.word
  letters t lawful named = both_hold t.others.word (recursion_from_All IsCall t.others.word lawful.others.word) named.word

  each_with : (w : List Call) (t : Term) → IsTerm t → AllByRecursion IsCall w → AreEachLawful (record t.others { word = w })
  each_with w t h k = record {
    dots_present = h.others.dots_present;
    dots_turned = h.others.dots_turned;
    deltas_turned = h.others.deltas_turned;
    functions = h.others.functions;
    word = All-from_recursion IsCall w k;
  }

  first_factor : (m : Monomial) (t : Term) (cuts : List (ℕ × Listing)) → IsSummand names m → IsTerm t → IsNamed names t → IsFactor names (record { coefficient = m.coefficient; term = to_first_cut t cuts })
  first_factor m t [] h lawful named = record { named = named; each = each_lawful t lawful; lowest = h.lowest; present = h.present }
  first_factor m t (c ∷ cuts) h lawful named =
      let o = t.others in
      let word = each_take IsLetter c.0 o.word (letters t lawful named) in
      record {
        named = record {
          symbols = named.symbols;
          dots = named.dots;
          components = named.components;
          deltas = named.deltas;
          functions = named.functions;
          word = each_weaker IsLetter (IsCallNamed word_place names) (λ d k. k.1) (take c.0 o.word) word;
        };
        each = each_with (take c.0 o.word) t lawful (each_weaker IsLetter IsCall (λ d k. k.0) (take c.0 o.word) word);
        lowest = h.lowest;
        present = h.present;
      }

  products : (a b m : Monomial) → IsFactor names a → IsFactor names b → product_of a b ≡ Ok (Some m) → IsRecordable names m
  products a b m h k e = product_is_recordable names (a ∷ b ∷ []) m (h, (k, tt)) e

  row_recordable : (first second : Listing) (lists : List Listing) → Factors first → Factors second → AllByRecursion Factors lists → AreRecordable names (row max (first ∷ second ∷ lists))
  row_recordable first second lists h k all = in_row (IsFactor names) (IsRecordable names) (λ m r. factor_from names m r.summand) products max first second lists h k all

  rest_recordable : (m : Monomial) (r : Rest) → IsSummand names m → IsSoundRest names r → r.has_matched ≡ true → AreRecordable names (list_of_rest max m r)
  rest_recordable m r h k matched = by r.cuts k.cuts r.behind k.behind (k.some matched)
    where
      first_listed : (cuts : List (ℕ × Listing)) → Factors (single (record { coefficient = m.coefficient; term = to_first_cut r.left cuts }))
      first_listed cuts = (first_factor m r.left cuts h k.lawful k.named, tt)

      by : (cuts : List (ℕ × Listing)) → AllByRecursion IsPut cuts → (behind : List Listing) → AllByRecursion Summands behind → HasOne cuts ⊎ HasOne behind
          → AreRecordable names (row max (single (record { coefficient = m.coefficient; term = to_first_cut r.left cuts }) ∷ behind_first r.left.others.word cuts ++ behind))
      by [] c [] b (inl e) = absurd e
      by [] c [] b (inr e) = absurd e
      by [] c (l ∷ behind) b e = row_recordable (single (record { coefficient = m.coefficient; term = to_first_cut r.left [] })) l behind (first_listed []) (as_factors l b.0) (behind_listed behind b.1)
      by (x ∷ cuts) c behind b e =
          row_recordable (single (record { coefficient = m.coefficient; term = to_first_cut r.left (x ∷ cuts) })) x.1 (from_cuts r.left.others.word x.0 cuts ++ behind) (first_listed (x ∷ cuts)) (as_factors x.1 c.0)
          (each_append Factors (from_cuts r.left.others.word x.0 cuts) behind (cuts_listed r.left.others.word (letters r.left k.lawful k.named) x.0 cuts c.1) (behind_listed behind b))

  pub rewritten_recordable : (ps : List Part) (m : Monomial) → AllByRecursion (IsPartPlaced names) ps → IsSummand names m → IfSome (rewritten max ps m) (AreRecordable names)
  unfolding rewritten
  rewritten_recordable ps m placed h =
      by (rest_of max ps m.term).has_matched refl
    where
      sound : IsSoundRest names (rest_of max ps m.term)
      sound = parts_sound ps (untouched m.term) placed (record { named = h.named; lawful = h.lawful; cuts = tt; behind = tt; some = λ e. absurd (cc) })

      by : (b : Bool) → (rest_of max ps m.term).has_matched ≡ b → IfSome (if b then Some (list_of_rest max m (rest_of max ps m.term)) else None) (AreRecordable names)
      by true e = rest_recordable m (rest_of max ps m.term) h sound e
      by false e = tt
