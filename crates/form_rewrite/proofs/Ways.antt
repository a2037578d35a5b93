-- One match where no word is cut, and more behind it.
use Rattle.std.proofs.Common.{◌≡◌, ℕ, suc, ◌+◌, pos, Bool, true, false, cond, List, [], ◌∷◌, Option, Some, None, map, refl, ap, ap₂, sym, ◌∙◌, arith}
use Rattle.std.specs.List.{list_all}
use Rattle.std.proofs.Math.IntN.{one, *ℤ-one, *ℤ_comm}
use Rattle.form_base.specs.declared.taking.Taking.{Taking}
use Rattle.form_base.specs.declared.taking.Taking.TheVariants.{Once, Only, Multi, Many}
use Rattle.form_term.specs.Term.{Term}
use Rattle.form_term.specs.declared.piece.Piece.{Piece}
use Rattle.form_tree.specs.Pattern.{Factors}
use Rattle.form_match.specs.Left.{left_of}
use Rattle.form_bindings.specs.Values.{Binding}
use Rattle.form_match.specs.Matching.{first_of}
use Rattle.form_match.specs.declared.matching.Match.{Match}
use Rattle.form_match.specs.declared.uses.Use.{Use}
use Rattle.form_match.specs.declared.uses.Use.TheVariants as uses
use Rattle.form_rewrite.specs.Taking.{and_match, and_more, and_more_by, cuts_by, fits_times, is_idle, multiplied, so_often, taken_so_far, untouched, weight}
use Rattle.form_rewrite.specs.Ways.{EndsWith, IsOnce, all_more, is_many, leaves_words, taken_by}
use Rattle.form_rewrite.specs.declared.taken.Origin.{Origin}
use Rattle.form_rewrite.specs.declared.taken.Origin.TheVariants.{TakenBy}
use Rattle.form_rewrite.specs.declared.taken.Cut.{Cut}
use Rattle.form_rewrite.specs.declared.taken.Taken.{Taken}

-- ---- one match

uncut : (o : Origin) (us : List Use) → list_all leaves_words us ≡ true → cuts_by o [] us ≡ []
uncut o [] h = refl
uncut o (uses.Symbol s k ∷ us) h = uncut o us h
uncut o (uses.Dot m k ∷ us) h = uncut o us h
uncut o (uses.Component m ∷ us) h = uncut o us h
uncut o (uses.Delta m ∷ us) h = uncut o us h
uncut o (uses.Function m ∷ us) h = uncut o us h
uncut o (uses.Stretch start n ∷ us) h = cc

alone : (t : Term) (cuts : List ℕ) (m : Match) (left : Term) → left ≡ left_of t m.takes → cuts ≡ [] → list_all leaves_words m.takes ≡ true
    → taken_so_far left [] (m.bindings ∷ []) 1 ≡ and_match (untouched t cuts) m
alone t cuts m left is none leaves =
    ap (λ x. taken_so_far x [] (m.bindings ∷ []) 1) is
    ∙ ap (λ cs. taken_so_far (left_of t m.takes) cs (m.bindings ∷ []) 1) (sym (uncut (TakenBy 0) m.takes leaves))
    ∙ ap (λ places. and_match (untouched t places) m) (sym none)

-- ---- powers

pub many_times : (t : Term) (cuts : List Cut) (m : Match) (n : ℕ) (left : Term) (all : List (List Binding)) → n ≡ fits_times t m.takes
    → left ≡ left_of t (map (so_often n) m.takes) → all ≡ m.bindings ∷ []
    → taken_so_far left cuts all n ≡ multiplied (taken_so_far t cuts [] 1) m
many_times t cuts m n left all times is only =
    ap (λ x. taken_so_far x cuts all n) is
    ∙ ap (λ bs. taken_so_far (left_of t (map (so_often n) m.takes)) cuts bs n) only
    ∙ ap (λ k. taken_so_far (left_of t (map (so_often k) m.takes)) cuts (m.bindings ∷ []) k) times

one_each : (u : Use) → so_often 1 u ≡ u
unfolding one
one_each (uses.Symbol s k) = ap (uses.Symbol s) (*ℤ_comm (pos 1) k ∙ *ℤ-one k)
one_each (uses.Dot m k) = ap (uses.Dot m) (*ℤ_comm (pos 1) k ∙ *ℤ-one k)
one_each (uses.Component m) = refl
one_each (uses.Delta m) = refl
one_each (uses.Function m) = refl
one_each (uses.Stretch start n) = refl

once_each : (us : List Use) → map (so_often 1) us ≡ us
once_each [] = refl
once_each (u ∷ us) = ap₂ (λ v vs. v ∷ vs) (one_each u) (once_each us)

one_time : (t : Term) (cuts : List ℕ) (m : Match) (left : Term) → left ≡ left_of t m.takes → cuts ≡ [] → fits_times t m.takes ≡ 1
    → taken_so_far left [] (m.bindings ∷ []) 1 ≡ multiplied (untouched t cuts) m
one_time t cuts m left is none once =
    ap (λ x. taken_so_far x [] (m.bindings ∷ []) 1) is
    ∙ ap (λ us. taken_so_far (left_of t us) [] (m.bindings ∷ []) 1) (sym (once_each m.takes))
    ∙ ap (λ n. taken_so_far (left_of t (map (so_often n) m.takes)) [] (m.bindings ∷ []) n) (sym once)
    ∙ ap (λ places. multiplied (untouched t places) m) (sym none)

-- ---- more matches

module _ (table : List (Option (List Piece))) (fs : Factors) where
  one_step : (n k : ℕ) (x : Taken) → k ≡ suc n
      → and_more_by (λ y. and_more n table fs y) x (first_of table fs x.left (map (λ c. c.place) x.cuts) false) ≡ and_more k table fs x
  unfolding and_more
  one_step n k x is = ap (λ i. and_more i table fs x) (sym is)

  next : (x : Taken) (found : Option Match) → found ≡ first_of table fs x.left (map (λ c. c.place) x.cuts) false
      → and_more_by (λ y. and_more (weight x.left) table fs y) x found ≡ all_more table fs x
  next x found is =
      let more : weight x.left + 1 ≡ suc (weight x.left) = omega arith in
      ap (λ o. and_more_by (λ y. and_more (weight x.left) table fs y) x o) is ∙ one_step (weight x.left) (weight x.left + 1) x more

  pub none_more : (x : Taken) → None ≡ first_of table fs x.left (map (λ c. c.place) x.cuts) false → x ≡ all_more table fs x
  none_more x is = next x None is

  chosen : (m : Match) (b : Bool) (x y : Taken) → is_idle m ≡ b → cond b x y ≡ cond (is_idle m) x y
  chosen m b x y is = ap (λ a. cond a x y) (sym is)

  pub idle_next : (x : Taken) (m : Match) → is_idle m ≡ true → Some m ≡ first_of table fs x.left (map (λ c. c.place) x.cuts) false → x ≡ all_more table fs x
  idle_next x m idle is = chosen m true x (and_more (weight x.left) table fs (and_match x m)) idle ∙ next x (Some m) is

-- ---- by the option

module _ (table : List (Option (List Piece))) (fs : Factors) (t : Term) (cuts : List ℕ) (m : Match) (none : cuts ≡ []) (leaves : list_all leaves_words m.takes ≡ true)
    (left : Term) (is : left ≡ left_of t m.takes) where
  by_one : (o : Taking) → IsOnce o t m.takes → is_many o ≡ false → taken_so_far left [] (m.bindings ∷ []) 1 ≡ taken_by o table fs (untouched t cuts) m
  by_one Once once few = alone t cuts m left is none leaves
  by_one Only once few = alone t cuts m left is none leaves
  by_one Multi once few = one_time t cuts m left is none once
  by_one Many once few = cc

  pub by_many : (o : Taking) → is_many o ≡ true → all_more table fs (taken_so_far left [] (m.bindings ∷ []) 1) ≡ taken_by o table fs (untouched t cuts) m
  by_many Once many = cc
  by_many Only many = cc
  by_many Multi many = cc
  by_many Many many = ap (λ x. all_more table fs x) (alone t cuts m left is none leaves)

  pub by_end : (o : Taking) → IsOnce o t m.takes → (is_many o ≡ true → EndsWith table fs left) → taken_so_far left [] (m.bindings ∷ []) 1 ≡ taken_by o table fs (untouched t cuts) m
  by_end Once once end = by_one Once once refl
  by_end Only once end = by_one Only once refl
  by_end Multi once end = by_one Multi once refl
  by_end Many once end = end refl m.bindings ∙ by_many Many refl
