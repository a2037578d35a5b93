-- The links of the blocks that are open, from the last line on.
use Rattle.std.proofs.Common.{◌≡◌, ◌≤◌, ◌<◌, ◌+◌, ◌-◌, ℕ, zero, suc, Bool, true, false, cond, List, [], ◌∷◌, length, drop, get_or, refl, sym, ap, ◌∙◌, subst, arith}
use Rattle.std.proofs.Math.Seq.{drop-length, drop-cons}
use Rattle.form_preproc.specs.Block.{to_closer, to_end, is_opening, is_end, is_closer}
use Rattle.form_preproc.specs.Links.{IsLink, no_link, open_before, below}
use Rattle.form_preproc.specs.declared.links.Link.{Link}
use Rattle.form_preproc.specs.declared.key.Key.{Key}
use Rattle.form_preproc.specs.declared.key.Key.TheVariants.{Plain, Do, If, Ifdef, Ifndef, Procedure, Elseif, Else, Enddo, Endif, Endprocedure, Define, Redefine, Undefine, Call, Include, Sign, Unknown}

end_closes : (k : Key) → is_end k ≡ true → is_closer k ≡ true
end_closes Enddo e = refl
end_closes Endif e = refl
end_closes Endprocedure e = refl
end_closes Elseif e = refl
end_closes Else e = refl
end_closes _ e = absurd cc

closer_opens_not : (k : Key) → is_closer k ≡ true → is_opening k ≡ false
closer_opens_not Do e = absurd cc
closer_opens_not If e = absurd cc
closer_opens_not Ifdef e = absurd cc
closer_opens_not Ifndef e = absurd cc
closer_opens_not Procedure e = absurd cc
closer_opens_not _ e = refl

get_or-below : (links : List Link) (n : ℕ) (none : Link) → get_or (below links) n none ≡ get_or links (suc n) none
get_or-below [] n none = refl
get_or-below (link ∷ links) n none = refl

-- behind the last line nothing is open
pub linked_at_end : {A : Type 0} (key : A → Key) (lines : List A) (depth : ℕ) → IsLink key lines depth (length lines) (no_link (length lines))
unfolding to_closer to_end
linked_at_end key lines depth = record { goes_on = rw (drop-length lines) refl; ends = rw (drop-length lines) refl }

module _ {A : Type 0} (key : A → Key) (lines : List A) (p : ℕ) (x : A) (at : drop p lines ≡ x ∷ drop (suc p) lines) (blocks : List Link) (none : Link) (old : (depth : ℕ) → IsLink key lines depth (suc p) (get_or blocks depth none)) where
  closer_zero : to_closer key 0 (drop p lines) ≡ cond (is_closer (key x)) (drop p lines) (cond (is_opening (key x)) (to_closer key 1 (drop (suc p) lines)) (to_closer key 0 (drop (suc p) lines)))
  unfolding to_closer
  closer_zero = rw at refl

  closer_suc : (d : ℕ) → to_closer key (suc d) (drop p lines) ≡ cond (is_end (key x)) (to_closer key d (drop (suc p) lines)) (cond (is_opening (key x)) (to_closer key (suc (suc d)) (drop (suc p) lines)) (to_closer key (suc d) (drop (suc p) lines)))
  unfolding to_closer
  closer_suc d = rw at refl

  end_zero : to_end key 0 (drop p lines) ≡ cond (is_end (key x)) (drop p lines) (cond (is_opening (key x)) (to_end key 1 (drop (suc p) lines)) (to_end key 0 (drop (suc p) lines)))
  unfolding to_end
  end_zero = rw at refl

  end_suc : (d : ℕ) → to_end key (suc d) (drop p lines) ≡ cond (is_end (key x)) (to_end key d (drop (suc p) lines)) (cond (is_opening (key x)) (to_end key (suc (suc d)) (drop (suc p) lines)) (to_end key (suc d) (drop (suc p) lines)))
  unfolding to_end
  end_suc d = rw at refl

  -- which case of the three tests it is
  pick : {B : Type 0} (b : Bool) (v : Bool) (t f : B) → b ≡ v → cond b t f ≡ cond v t f
  pick b v t f e = ap (λ c. cond c t f) e

  at_end_line : is_end (key x) ≡ true → (depth : ℕ) → IsLink key lines depth p (get_or (record { closer = p; close = p } ∷ blocks) depth none)
  at_end_line e zero = record {
    goes_on = sym (closer_zero ∙ pick (is_closer (key x)) true _ _ (end_closes (key x) e));
    ends = sym (end_zero ∙ pick (is_end (key x)) true _ _ e);
  }
  at_end_line e (suc d) = record {
    goes_on = (old d).goes_on ∙ sym (closer_suc d ∙ pick (is_end (key x)) true _ _ e);
    ends = (old d).ends ∙ sym (end_suc d ∙ pick (is_end (key x)) true _ _ e);
  }

  at_part : is_end (key x) ≡ false → is_closer (key x) ≡ true → (depth : ℕ) → IsLink key lines depth p (get_or (record { closer = p; close = (get_or blocks 0 none).close } ∷ below blocks) depth none)
  at_part e c zero = record {
    goes_on = sym (closer_zero ∙ pick (is_closer (key x)) true _ _ c);
    ends = (old 0).ends ∙ sym (end_zero ∙ pick (is_end (key x)) false _ _ e ∙ pick (is_opening (key x)) false _ _ (closer_opens_not (key x) c));
  }
  at_part e c (suc d) = rw (get_or-below blocks d none) (record {
    goes_on = (old (suc d)).goes_on ∙ sym (closer_suc d ∙ pick (is_end (key x)) false _ _ e ∙ pick (is_opening (key x)) false _ _ (closer_opens_not (key x) c));
    ends = (old (suc d)).ends ∙ sym (end_suc d ∙ pick (is_end (key x)) false _ _ e ∙ pick (is_opening (key x)) false _ _ (closer_opens_not (key x) c));
  })

  at_opening : is_end (key x) ≡ false → is_closer (key x) ≡ false → is_opening (key x) ≡ true → (depth : ℕ) → IsLink key lines depth p (get_or (below blocks) depth none)
  at_opening e c o zero = rw (get_or-below blocks 0 none) (record {
    goes_on = (old 1).goes_on ∙ sym (closer_zero ∙ pick (is_closer (key x)) false _ _ c ∙ pick (is_opening (key x)) true _ _ o);
    ends = (old 1).ends ∙ sym (end_zero ∙ pick (is_end (key x)) false _ _ e ∙ pick (is_opening (key x)) true _ _ o);
  })
  at_opening e c o (suc d) = rw (get_or-below blocks (suc d) none) (record {
    goes_on = (old (suc (suc d))).goes_on ∙ sym (closer_suc d ∙ pick (is_end (key x)) false _ _ e ∙ pick (is_opening (key x)) true _ _ o);
    ends = (old (suc (suc d))).ends ∙ sym (end_suc d ∙ pick (is_end (key x)) false _ _ e ∙ pick (is_opening (key x)) true _ _ o);
  })

  at_other : is_end (key x) ≡ false → is_closer (key x) ≡ false → is_opening (key x) ≡ false → (depth : ℕ) → IsLink key lines depth p (get_or blocks depth none)
  at_other e c o zero = record {
    goes_on = (old 0).goes_on ∙ sym (closer_zero ∙ pick (is_closer (key x)) false _ _ c ∙ pick (is_opening (key x)) false _ _ o);
    ends = (old 0).ends ∙ sym (end_zero ∙ pick (is_end (key x)) false _ _ e ∙ pick (is_opening (key x)) false _ _ o);
  }
  at_other e c o (suc d) = record {
    goes_on = (old (suc d)).goes_on ∙ sym (closer_suc d ∙ pick (is_end (key x)) false _ _ e ∙ pick (is_opening (key x)) false _ _ o);
    ends = (old (suc d)).ends ∙ sym (end_suc d ∙ pick (is_end (key x)) false _ _ e ∙ pick (is_opening (key x)) false _ _ o);
  }

  abbrev Goes : ℕ → List Link → Type 0
  Goes depth links = IsLink key lines depth p (get_or links depth none)

  -- one more line before those that are read
  pub linked_before : (depth : ℕ) → IsLink key lines depth p (get_or (open_before (key x) p (get_or blocks 0 none) blocks) depth none)
  linked_before depth = by_end (is_end (key x)) refl
    where
      by_opening : is_end (key x) ≡ false → is_closer (key x) ≡ false → (b : Bool) → is_opening (key x) ≡ b → Goes depth (cond b (below blocks) blocks)
      by_opening e c true o = at_opening e c o depth
      by_opening e c false o = at_other e c o depth

      by_closer : is_end (key x) ≡ false → (b : Bool) → is_closer (key x) ≡ b → Goes depth (cond b (record { closer = p; close = (get_or blocks 0 none).close } ∷ below blocks) (cond (is_opening (key x)) (below blocks) blocks))
      by_closer e true c = at_part e c depth
      by_closer e false c = by_opening e c (is_opening (key x)) refl

      by_end : (b : Bool) → is_end (key x) ≡ b → Goes depth (cond b (record { closer = p; close = p } ∷ blocks) (cond (is_closer (key x)) (record { closer = p; close = (get_or blocks 0 none).close } ∷ below blocks) (cond (is_opening (key x)) (below blocks) blocks)))
      by_end true e = at_end_line e depth
      by_end false e = by_closer e (is_closer (key x)) refl

-- From a place on: the blocks that are open there, and the links of the lines that are read.
pub record AreLinked {A : Type 0} (key : A → Key) (lines : List A) (place : ℕ) (blocks links : List Link) : Type 0 where
  pub within : place ≤ length lines
  pub all : place + length links ≡ length lines
  pub outer : (depth : ℕ) → IsLink key lines depth place (get_or blocks depth (no_link (length lines)))
  pub own : (k : ℕ) → k < length links → IsLink key lines 0 (suc (place + k)) (get_or links k (no_link (length lines)))

own_before : {A : Type 0} (key : A → Key) (lines : List A) (p : ℕ) (blocks links : List Link) → AreLinked key lines (suc p) blocks links
    → (k : ℕ) → k < length (get_or blocks 0 (no_link (length lines)) ∷ links) → IsLink key lines 0 (suc (p + k)) (get_or (get_or blocks 0 (no_link (length lines)) ∷ links) k (no_link (length lines)))
own_before key lines p blocks links h zero lt =
    let same : suc (p + 0) ≡ suc p = omega arith in
    subst (λ (n : ℕ). IsLink key lines 0 n (get_or blocks 0 (no_link (length lines)))) (sym same) (h.outer 0)
own_before key lines p blocks links h (suc k) lt =
    let same : suc (p + suc k) ≡ suc (suc p + k) = omega arith in
    subst (λ (n : ℕ). IsLink key lines 0 n (get_or links k (no_link (length lines)))) (sym same) (h.own k (omega arith))

all_before : {A : Type 0} (key : A → Key) (lines : List A) (p : ℕ) (x : A) (blocks links : List Link) → x ≡ get_or lines p x → AreLinked key lines (suc p) blocks links
    → AreLinked key lines p (open_before (key x) p (get_or blocks 0 (no_link (length lines))) blocks) (get_or blocks 0 (no_link (length lines)) ∷ links)
all_before key lines p x blocks links is h =
    let lt : p < length lines = omega (arith, h.within) in
    let at : drop p lines ≡ x ∷ drop (suc p) lines = drop-cons lines p x lt ∙ ap (λ y. y ∷ drop (suc p) lines) (sym is) in
    record {
      within = omega (arith, h.within);
      all = omega (arith, h.all);
      outer = linked_before key lines p x at blocks (no_link (length lines)) h.outer;
      own = own_before key lines p blocks links h;
    }

-- one more line before those that are read, as it is taken
pub taken_before : {A : Type 0} (key : A → Key) (lines : List A) (place : ℕ) (x : A) (k : Key) (link : Link) (blocks links more_blocks more_links : List Link) → 0 < place → x ≡ get_or lines (place - 1) x → k ≡ key x
    → link ≡ get_or blocks 0 (no_link (length lines)) → more_blocks ≡ open_before k (place - 1) link blocks → more_links ≡ link ∷ links
    → AreLinked key lines place blocks links → AreLinked key lines (place - 1) more_blocks more_links
taken_before key lines place x k link blocks links more_blocks more_links some is same first outside inside h =
    let one : place ≡ suc (place - 1) = omega arith in
    let from : AreLinked key lines (suc (place - 1)) blocks links = subst (λ (n : ℕ). AreLinked key lines n blocks links) one h in
    rw (outside, inside, first, same) (all_before key lines (place - 1) x blocks links is from)
