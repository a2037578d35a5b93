-- What several parts leave of a joined term whose word they don't cut.
use Rattle.std.proofs.Common.{◌≡◌, true≢false, ℕ, Bool, true, false, List, [], ◌∷◌, ◌++◌, Option, Some, None, if◌then◌else◌, flat_map, fold, map, replicate, refl, sym, ap, subst, ◌∙◌, append-nil}
use Rattle.std.proofs.lemmas.Grind.{flat_map-append}
use Rattle.form_tree.specs.Tree.{Sum}
use Rattle.form_expand.specs.Kept.{listing}
use Rattle.form_expand.specs.Listing.{Listing}
use Rattle.form_expand.specs.Walks.{all_of}
use Rattle.form_rewrite.specs.declared.taken.Cut.{Cut}
use Rattle.form_rewrite.specs.declared.taken.Taken.{Taken}
use Rattle.form_rewrite.specs.Taking.{take_out}
use Rattle.form_gathered.specs.declared.joined.JoinedTerm.{JoinedTerm}
use Rattle.form_flow.specs.declared.compiled.ReadyLeaf.TheVariants.{Rewrite}
use Rattle.form_flow.specs.Ready.{Part}
use Rattle.form_flow.specs.Rewriting.{Rest, and_part, and_taken, any_match, list_of_rest, put_in_by, rest_of, right_with, untouched}
use Rattle.form_flow.specs.Statement.{Limits}
use Rattle.form_flow.specs.Statements.{leaf}
use Rattle.form_levels.specs.declared.groups.Remaining.{Remaining}
use Rattle.form_levels.specs.declared.groups.Repeated.{Repeated}
use Rattle.form_levels.specs.declared.rewriting.Rewritten.{Rewritten}
use Rattle.form_levels.specs.Becoming.{IsRowOf, joined_by, known_of}
use Rattle.form_levels.specs.Groups.{lists_behind, repeated, rest_in}
use Rattle.form_levels.specs.Rules.{IsRewritten}
use Rattle.form_levels.specs.Runs.{Runs}
use Rattle.form_levels.proofs.Becoming.{becomes_row}
use Rattle.form_levels.proofs.Leaves.{untouched_run}

-- ---- parts that don't match

-- once a part has matched, that stays
stays_matched : (max : ℕ) (r : Rest) (ps : List Part) → r.has_matched ≡ true → (fold (and_part max) r ps).has_matched ≡ true
stays_matched max r [] h = h
stays_matched max r (p ∷ ps) h = stays_matched max (and_part max r p) ps (one (take_out p.fixed p.pattern p.option r.left (map (λ c. c.0) r.cuts)))
  where
    one : (x : Option Taken) → (and_taken max p.right r x).has_matched ≡ true
    one None = h
    one (Some x) = refl

-- where none has matched nothing has changed
unmatched : (max : ℕ) (r : Rest) (ps : List Part) → (fold (and_part max) r ps).has_matched ≡ false → fold (and_part max) r ps ≡ r
unmatched max r [] h = refl
unmatched max r (p ∷ ps) h = by (take_out p.fixed p.pattern p.option r.left (map (λ c. c.0) r.cuts)) refl (λ s e. unmatched max s ps e)
  where
    by : (x : Option Taken) → take_out p.fixed p.pattern p.option r.left (map (λ c. c.0) r.cuts) ≡ x
        → ((s : Rest) → (fold (and_part max) s ps).has_matched ≡ false → fold (and_part max) s ps ≡ s) → fold (and_part max) (and_part max r p) ps ≡ r
    by None e later =
        let same : and_part max r p ≡ r = ap (and_taken max p.right r) e in
        ap (λ s. fold (and_part max) s ps) same ∙ later r (ap (λ s. (fold (and_part max) s ps).has_matched) (sym same) ∙ h)
    by (Some x) e later =
        let matched : (and_part max r p).has_matched ≡ true = ap (λ y. (and_taken max p.right r y).has_matched) e in
        absurd (true≢false (sym (stays_matched max (and_part max r p) ps matched) ∙ h))

module _ (at : Limits) (max : ℕ) (ps : List Part) (j : JoinedTerm) (r : Remaining) (limit : at.terms ≡ max) (is : rest_in r ≡ rest_of max ps j.term) where
  pub stays_by : (left : JoinedTerm) → r.has_matched ≡ false → left ≡ joined_by (known_of j) r.left → Runs (leaf at (Rewrite ps)) (j ∷ []) (left ∷ []) []
  stays_by left none e =
      let test : (rest_of max ps j.term).has_matched ≡ false = ap (λ (x : Rest). x.has_matched) (sym is) ∙ none in
      let kept : r.left ≡ j.term = ap (λ (x : Rest). x.left) (is ∙ unmatched max (untouched j.term) ps test) in
      let same : j ≡ left = ap (joined_by (known_of j)) (sym kept) ∙ sym e in
      let never : (rest_of at.terms ps j.term).has_matched ≡ false = ap (λ (n : ℕ). (rest_of n ps j.term).has_matched) limit ∙ test in
      subst (λ (l : JoinedTerm). Runs (leaf at (Rewrite ps)) (j ∷ []) (l ∷ []) []) same (untouched_run at ps (j ∷ []) (never, tt))

  pub acts_by : (made : Rewritten) → r.has_matched ≡ true → IsRowOf max (lists_behind r.behind.items) (joined_by (known_of j) r.left) made → IsRewritten at ps j made
  acts_by made matched h =
      becomes_row at max ps j (known_of j) r.left (lists_behind r.behind.items) made limit refl (ap (λ (x : Rest). x.has_matched) (sym is) ∙ matched) (λ m. ap (list_of_rest max m) (sym is)) h

-- ---- what is put behind

-- what comes of what was taken
abbrev after : ℕ → Sum → Taken → List Listing → List Cut → Rest
after max s x before cs = record {
  left = x.left;
  cuts = map (λ c. (c.place, put_in_by max s [] x.matches c.origin)) cs;
  behind = before ++ (if any_match cs then [] else flat_map (λ bs. replicate x.times (right_with max s bs)) x.matches);
  has_matched = true;
}

pub put_uncut : (max : ℕ) (s : Sum) (x : Taken) (before now : List Listing) → x.cuts ≡ [] → now ≡ before ++ flat_map (λ bs. replicate x.times (right_with max s bs)) x.matches
    → record { left = x.left; cuts = []; behind = now; has_matched = true } ≡ and_taken max s (record { left = x.left; cuts = []; behind = before; has_matched = false }) (Some x)
put_uncut max s x before now uncut put =
    ap (λ ls. record { left = x.left; cuts = []; behind = ls; has_matched = true }) put ∙ ap (after max s x before) (sym uncut)

pub one_repeated : (old new : List Repeated) (one : Repeated) (l : Listing) → new ≡ old ++ one ∷ [] → l ≡ all_of (listing one.list).terms → lists_behind new ≡ lists_behind old ++ replicate one.times l
one_repeated old new one l is same =
    ap lists_behind is
    ∙ flat_map-append repeated old (one ∷ [])
    ∙ ap (λ ls. lists_behind old ++ ls) (append-nil (repeated one))
    ∙ ap (λ (k : Listing). lists_behind old ++ replicate one.times k) (sym same)
