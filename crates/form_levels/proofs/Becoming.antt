-- What becomes of a joined term by what is taken out of it.
use Rattle.std.proofs.Common.{◌≡◌, ℕ, zero, suc, ◌+◌, ◌-◌, ◌*◌, Bool, true, false, ◌||◌, List, [], ◌∷◌, ◌++◌, Option, Some, None, if◌then◌else◌, length, get_or, flat_map, map, drop, replicate, refl, sym, ap, subst, ◌∙◌, append_assoc, append-nil, length-drop, take_all, suc-mul, arith}
use Rattle.std.specs.List.{list_all}
use Rattle.std.proofs.lemmas.List.{map-append, replicate-append-replicate}
use Rattle.form_term.specs.Term.{Call, Term, is_nil}
use Rattle.form_term.specs.declared.monomial.Monomial.{Monomial}
use Rattle.form_tree.specs.Tree.{Sum}
use Rattle.form_bindings.specs.Values.{Binding}
use Rattle.form_expand.specs.Expanding.{list_of_sum}
use Rattle.form_expand.specs.Listing.{Listing}
use Rattle.form_expand.specs.Meanings.{Meanings, bound_to, no_meanings}
use Rattle.form_expand.specs.Walks.{all_of}
use Rattle.form_rewrite.specs.declared.taken.Cut.{Cut}
use Rattle.form_rewrite.specs.declared.taken.Origin.{Origin}
use Rattle.form_rewrite.specs.declared.taken.Origin.TheVariants.{Given, TakenBy}
use Rattle.form_rewrite.specs.declared.taken.Taken.{Taken}
use Rattle.form_gathered.specs.declared.joined.JoinedTerm.{JoinedTerm}
use Rattle.form_joined.specs.Goes.{Goes}
use Rattle.form_joined.specs.Powers.{AreKept}
use Rattle.form_joined.specs.declared.powers.Powers.{Powers}
use Rattle.form_flow.specs.declared.compiled.ReadyLeaf.TheVariants.{Rewrite}
use Rattle.form_flow.specs.Ready.{Part}
use Rattle.form_flow.specs.Rests.{and_given, names_in, numbers_given, put_in_named}
use Rattle.form_flow.specs.Rewriting.{Rest, and_taken, any_match, from_cuts, is_by_match, list_of_rest, put_in_by, rest_of, right_with, untouched, word_factor}
use Rattle.form_flow.specs.Statement.{Limits}
use Rattle.form_flow.specs.Statements.{leaf}
use Rattle.form_flow.specs.Words.{front}
use Rattle.form_levels.specs.declared.fronts.Fronts.{Fronts}
use Rattle.form_levels.specs.declared.rewriting.Known.{Known}
use Rattle.form_levels.specs.declared.rewriting.Rewritten.{Rewritten}
use Rattle.form_levels.specs.declared.rewriting.Rewritten.TheVariants.{Untouched, Acted, Unknown}
use Rattle.form_levels.specs.declared.rewriting.Rule.{Rule}
use Rattle.form_levels.specs.declared.rewriting.Stretch.{Stretch}
use Rattle.form_levels.specs.Rows.{AreFronts, row_from, with_term}
use Rattle.form_levels.specs.Becoming.{AreFor, Becomes, IsListOf, IsRowOf, Takes, joined_by, known_of, put_named, right_by_each}
use Rattle.form_levels.specs.Rules.{IsRewritten}
use Rattle.form_levels.specs.Runs.{Runs}
use Rattle.form_levels.specs.Stretches.{first_cut, list_if, stretch_at, stretches_at, with_each, with_origin}
use Rattle.form_levels.proofs.Rows.{goes_same, goes_with}
use Rattle.form_levels.proofs.Leaves.{rewritten_run, untouched_run}

-- ---- stretches

-- one more
pub next_stretch : (w : List Call) (made now : List Stretch) (item : Option Monomial) (c : Cut) (rest ahead : List Cut) (all : List (Origin × List Listing)) → ahead ≡ c ∷ rest
    → now ≡ made ++ record { origin = c.origin; item = item } ∷ [] → list_if item ≡ word_factor (stretch_at w c rest)
    → map with_origin made ++ stretches_at w ahead ≡ all → map with_origin now ++ stretches_at w rest ≡ all
next_stretch w made now item c rest ahead all is more here so_far =
    let later = stretches_at w rest in
    let one : Stretch = record { origin = c.origin; item = item } in
    ap (λ (xs : List Stretch). map with_origin xs ++ later) more
    ∙ ap (λ ls. ls ++ later) (map-append with_origin made (one ∷ []))
    ∙ append_assoc (map with_origin made) (with_origin one ∷ []) later
    ∙ ap (λ (l : List Listing). map with_origin made ++ (c.origin, l) ∷ later) here
    ∙ ap (λ (cs : List Cut). map with_origin made ++ stretches_at w cs) (sym is)
    ∙ so_far

-- what is put in at each cut, and the stretch behind it
abbrev at_place : (Origin → Listing) → Cut → ℕ × Listing
at_place put c = (c.place, put c.origin)

all_between : (put : Origin → Listing) (w : List Call) (c : Cut) (cs : List Cut) → put c.origin ∷ from_cuts w c.place (map (at_place put) cs) ≡ with_each put (stretches_at w (c ∷ cs))
all_between put w c [] =
    ap (λ v. put c.origin ∷ word_factor v) (sym (take_all (length w - c.place) (drop c.place w) (omega (arith, length-drop c.place w))))
    ∙ ap (λ ls. put c.origin ∷ ls) (sym (append-nil (word_factor (stretch_at w c []))))
all_between put w c (d ∷ cs) = ap (λ ls. put c.origin ∷ word_factor (stretch_at w c (d ∷ cs)) ++ ls) (all_between put w d cs)

-- ---- what is put in

module _ (max : ℕ) (p : Part) (x : Taken) where
  abbrev put_by : Origin → Listing
  put_by o = put_in_by max p.right [] x.matches o

  abbrev behind : List Listing
  behind = flat_map (λ bs. replicate x.times (right_with max p.right bs)) x.matches

  abbrev rest_by : List Cut → Rest
  rest_by cs = record { left = x.left; cuts = map (at_place put_by) cs; behind = if any_match cs then [] else behind; has_matched = true }

  -- no word was cut: all that is put in stands behind all that is left
  row_uncut : None ≡ first_cut x.cuts → (m : Monomial) → list_of_rest max m (rest_by x.cuts) ≡ row_from max x.left behind m.coefficient
  row_uncut e m = by x.cuts e
    where
      by : (cs : List Cut) → None ≡ first_cut cs → list_of_rest max m (rest_by cs) ≡ row_from max x.left behind m.coefficient
      by [] n = refl
      by (c ∷ cs) n = cc

  by_match : (o : Origin) (ns : List ℕ) → and_given o ns ≡ [] → is_by_match o ≡ true
  by_match (Given n) ns e = cc
  by_match (TakenBy n) ns e = refl

  -- or it stands at the cuts
  row_cut : (start : ℕ) → Some start ≡ first_cut x.cuts → numbers_given x.cuts ≡ [] → (m : Monomial)
      → list_of_rest max m (rest_by x.cuts) ≡ row_from max (front start x.left) (with_each put_by (stretches_at x.left.others.word x.cuts)) m.coefficient
  row_cut start e g m = by x.cuts e g
    where
      by : (cs : List Cut) → Some start ≡ first_cut cs → numbers_given cs ≡ []
          → list_of_rest max m (rest_by cs) ≡ row_from max (front start x.left) (with_each put_by (stretches_at x.left.others.word cs)) m.coefficient
      by [] n h = cc
      by (c ∷ cs) n h =
          let w = x.left.others.word in
          let there : c.place ≡ start = cc in
          let any : any_match (c ∷ cs) ≡ true = ap (λ b. b || any_match cs) (by_match c.origin (numbers_given cs) h) in
          ap (λ (b : Bool). list_of_rest max m (record { left = x.left; cuts = map (at_place put_by) (c ∷ cs); behind = if b then [] else behind; has_matched = true })) any
          ∙ ap (λ ls. row_from max (front c.place x.left) ls m.coefficient) (append-nil (put_by c.origin ∷ from_cuts w c.place (map (at_place put_by) cs)) ∙ all_between put_by w c cs)
          ∙ ap (λ (i : ℕ). row_from max (front i x.left) (with_each put_by (stretches_at w (c ∷ cs))) m.coefficient) there

  -- what names stand for in a match
  same_put : (names : List (Option Meanings)) → ((n : ℕ) → names_in (get_or names n None) ≡ bound_to (get_or x.matches n [])) → (o : Origin) → put_in_named max p.right [] names o ≡ put_by o
  same_put names told (Given n) = refl
  same_put names told (TakenBy n) = ap (λ (ms : Meanings). list_of_sum max ms p.right) (told n)

-- where nothing is bound in any match
pub none_bound : (bss : List (List Binding)) (n : ℕ) → list_all is_nil bss ≡ true → no_meanings ≡ bound_to (get_or bss n [])
none_bound [] n h = refl
none_bound ([] ∷ bss) zero h = refl
none_bound ([] ∷ bss) (suc n) h = none_bound bss n h
none_bound ((b ∷ bs) ∷ bss) n h = cc

-- and then the same list stands behind all of them
pub all_unbound : (r : Rule) (n all : ℕ) (bss : List (List Binding)) → list_all is_nil bss ≡ true → all ≡ length bss * n → replicate all (right_with r.limit r.part.now.right []) ≡ right_by_each r n bss
all_unbound r n all [] h many =
    let none : all ≡ 0 = omega (arith, many) in
    ap (λ k. replicate k (right_with r.limit r.part.now.right [])) none
all_unbound r n all ([] ∷ bss) h many =
    let list = right_with r.limit r.part.now.right [] in
    let more : all ≡ n + length bss * n = omega (arith, many, suc-mul (length bss) n) in
    ap (λ k. replicate k list) more ∙ sym (replicate-append-replicate n (length bss * n) list) ∙ ap (λ ls. replicate n list ++ ls) (all_unbound r n (length bss * n) bss h refl)
all_unbound r n all ((b ∷ bs) ∷ bss) h many = cc

-- ---- the powers of the list of a right side

pub list_found : (max : ℕ) (right there : Sum) (list found : List Monomial) → there ≡ right → right_with max there [] ≡ all_of list → found ≡ list → right_with max right [] ≡ all_of found
list_found max right there list found same is e = ap (λ (s : Sum). right_with max s []) (sym same) ∙ is ∙ ap all_of (sym e)

pub kept_for : (max : ℕ) (ps : List Part) (list : List Monomial) (powers : Powers) → IsListOf max ps list → AreKept list powers → AreFor max ps powers
kept_for max [] list powers e h = absurd e
kept_for max (p ∷ []) list powers e h = λ other is. subst (λ (l : List Monomial). AreKept l powers) (ap (λ (l : Listing). l.terms) (sym e ∙ is)) h
kept_for max (p ∷ q ∷ ps) list powers e h = absurd e

-- ---- what becomes of it

pub stays : (at : Limits) (max : ℕ) (p : Part) (j left : JoinedTerm) → at.terms ≡ max → Takes max p j.term None → j ≡ left → Runs (leaf at (Rewrite (p ∷ []))) (j ∷ []) (left ∷ []) []
stays at max p j left limit takes same =
    let never : (rest_of at.terms (p ∷ []) j.term).has_matched ≡ false = ap (λ (n : ℕ). (rest_of n (p ∷ []) j.term).has_matched) limit ∙ ap (λ (r : Rest). r.has_matched) (sym takes) in
    subst (λ (l : JoinedTerm). Runs (leaf at (Rewrite (p ∷ []))) (j ∷ []) (l ∷ []) []) same (untouched_run at (p ∷ []) (j ∷ []) (never, tt))

-- a row of lists behind what is left
pub becomes_row : (at : Limits) (max : ℕ) (ps : List Part) (j : JoinedTerm) (k : Known) (t : Term) (lists : List Listing) (made : Rewritten) → at.terms ≡ max → known_of j ≡ k → (rest_of max ps j.term).has_matched ≡ true
    → ((m : Monomial) → list_of_rest max m (rest_of max ps j.term) ≡ row_from max t lists m.coefficient) → IsRowOf max lists (joined_by k t) made → IsRewritten at ps j made
becomes_row at max ps j k t lists (Untouched left) limit known matched same h = absurd h
becomes_row at max ps j k t lists (Acted made) limit known matched same h =
    let by : Monomial → Listing = λ m. row_from max t lists m.coefficient in
    let fronts : joined_by k t ≡ with_term t j = ap (λ (l : Known). joined_by l t) (sym known) in
    let within : (m : Monomial) → by m ≡ list_of_rest at.terms m (rest_of at.terms ps j.term) =
    λ m. sym (ap (λ (n : ℕ). list_of_rest n m (rest_of n ps j.term)) limit ∙ same m) in
    rewritten_run at ps j made.items (ap (λ (n : ℕ). (rest_of n ps j.term).has_matched) limit ∙ matched)
    (goes_same by (λ m. list_of_rest at.terms m (rest_of at.terms ps j.term)) (j ∷ []) made.items within
    (goes_with t (row_from max t lists) (j ∷ []) made.items (subst (λ (f : JoinedTerm). Goes by (f ∷ []) made.items) fronts h)))
becomes_row at max ps j k t lists Unknown limit known matched same h = tt

becomes : (r : Rule) (k : Known) (x : Taken) (t : Term) (lists : List Listing) (made : Rewritten)
    → ((u : Term) (m : Monomial) → list_of_rest r.limit m (and_taken r.limit r.part.now.right (untouched u) (Some x)) ≡ row_from r.limit t lists m.coefficient)
    → IsRowOf r.limit lists (joined_by k t) made → Becomes r k x made
becomes r k x t lists made same h = λ at j limit known takes.
    becomes_row at r.limit (r.part.now ∷ []) j k t lists made limit known (ap (λ (s : Rest). s.has_matched) (sym takes)) (λ m. ap (list_of_rest r.limit m) (sym takes) ∙ same j.term m) h

module _ (r : Rule) (k : Known) (x : Taken) (made : Rewritten) where
  -- the right sides stand behind all that is left
  pub becomes_uncut : None ≡ first_cut x.cuts → IsRowOf r.limit (right_by_each r x.times x.matches) (joined_by k x.left) made → Becomes r k x made
  becomes_uncut uncut h = becomes r k x x.left (right_by_each r x.times x.matches) made (λ u m. row_uncut r.limit r.part.now x uncut m) h

  -- or at the cuts
  pub becomes_cut : (start : ℕ) (cuts : List Cut) (names : List (Option Meanings)) → cuts ≡ x.cuts → ((n : ℕ) → names_in (get_or names n None) ≡ bound_to (get_or x.matches n []))
      → Some start ≡ first_cut cuts → numbers_given x.cuts ≡ [] → IsRowOf r.limit (with_each (put_named r names) (stretches_at x.left.others.word cuts)) (joined_by k (front start x.left)) made → Becomes r k x made
  becomes_cut start cuts names is told there uncut h =
      let w = x.left.others.word in
      let p = r.part.now in
      let j = joined_by k (front start x.left) in
      let row : (Origin → Listing) → List Cut → Type 0 = λ put cs. IsRowOf r.limit (with_each put (stretches_at w cs)) j made in
      becomes r k x (front start x.left) (with_each (λ o. put_in_by r.limit p.right [] x.matches o) (stretches_at w x.cuts)) made
      (λ u m. row_cut r.limit p x start (there ∙ ap first_cut is) uncut m)
      (subst (λ (cs : List Cut). row (λ o. put_in_by r.limit p.right [] x.matches o) cs) is
      (subst (λ (put : Origin → Listing). row put cuts) (λ i o. same_put r.limit p x names told o i) h))

-- ---- fronts

pub row_made : (max : ℕ) (lists : List Listing) (j : JoinedTerm) (f : Fronts) (made : List JoinedTerm) → f.limit ≡ max → AreFronts j.term lists j f → made ≡ f.terms.items
    → Goes (λ m. row_from max j.term lists m.coefficient) (j ∷ []) made
row_made max lists j f made limit fronts same =
    subst (λ (ks : List JoinedTerm). Goes (λ m. row_from max j.term lists m.coefficient) (j ∷ []) ks) (sym same)
    (subst (λ (n : ℕ). Goes (λ m. row_from n j.term lists m.coefficient) (j ∷ []) f.terms.items) limit fronts.goes)

-- What stands behind a front so far, where the lists of these are left.
pub record HasComeBy (X : Type 0) (max : ℕ) (by : X → List Listing) (j : JoinedTerm) (all left : List X) (f : Fronts) : Type 0 where
  pub lists : List Listing
  pub so_far : lists ++ flat_map by left ≡ flat_map by all
  pub fronts : AreFronts j.term lists j f
  pub limit : f.limit ≡ max

module _ {X : Type 0} (max : ℕ) (by : X → List Listing) (j : JoinedTerm) (all : List X) where
  pub come_by : (left rest : List X) (x : X) (f g : Fronts) → left ≡ x ∷ rest → (h : HasComeBy X max by j all left f) → AreFronts j.term (h.lists ++ by x) j g → g.limit ≡ f.limit → HasComeBy X max by j all rest g
  come_by left rest x f g is h fronts limit = record {
    lists = h.lists ++ by x;
    so_far = append_assoc h.lists (by x) (flat_map by rest) ∙ ap (λ (xs : List X). h.lists ++ flat_map by xs) (sym is) ∙ h.so_far;
    fronts = fronts;
    limit = limit ∙ h.limit;
  }

  pub all_come_by : (left : List X) (f : Fronts) → left ≡ [] → HasComeBy X max by j all left f → AreFronts j.term (flat_map by all) j f
  all_come_by left f none h =
      subst (λ (ls : List Listing). AreFronts j.term ls j f) (sym (append-nil h.lists) ∙ ap (λ (xs : List X). h.lists ++ flat_map by xs) (sym none) ∙ h.so_far) h.fronts

-- What stands behind a front so far, where these stretches are left.
pub record HasCome (max : ℕ) (put : Origin → Listing) (j : JoinedTerm) (all left : List Stretch) (f : Fronts) : Type 0 where
  pub lists : List Listing
  pub so_far : lists ++ with_each put (map with_origin left) ≡ with_each put (map with_origin all)
  pub fronts : AreFronts j.term lists j f
  pub limit : f.limit ≡ max

module _ (max : ℕ) (put : Origin → Listing) (j : JoinedTerm) (all : List Stretch) where
  pub come_on : (left rest : List Stretch) (s : Stretch) (f g : Fronts) → left ≡ s ∷ rest → (h : HasCome max put j all left f)
      → AreFronts j.term (h.lists ++ put s.origin ∷ list_if s.item) j g → g.limit ≡ f.limit → HasCome max put j all rest g
  come_on left rest s f g is h fronts limit = record {
    lists = h.lists ++ put s.origin ∷ list_if s.item;
    so_far = append_assoc h.lists (put s.origin ∷ list_if s.item) (with_each put (map with_origin rest)) ∙ ap (λ (xs : List Stretch). h.lists ++ with_each put (map with_origin xs)) (sym is) ∙ h.so_far;
    fronts = fronts;
    limit = limit ∙ h.limit;
  }

  pub all_come : (left : List Stretch) (f : Fronts) → left ≡ [] → HasCome max put j all left f → AreFronts j.term (with_each put (map with_origin all)) j f
  all_come left f none h =
      subst (λ (ls : List Listing). AreFronts j.term ls j f) (sym (append-nil h.lists) ∙ ap (λ (xs : List Stretch). h.lists ++ with_each put (map with_origin xs)) (sym none) ∙ h.so_far) h.fronts
