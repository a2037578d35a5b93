-- An expression whose result is as it stands needn't be put among what stays.
use Rattle.std.proofs.Common.{◌≡◌, ◌<◌, ℕ, ◌==◌, Bool, true, false, ◌||◌, if◌then◌else◌, List, [], ◌∷◌, ◌++◌, cond, filter, fold, map, refl, sym, subst, ap, ◌∙◌, arith}
use Rattle.std.specs.List.{AllByRecursion}
use Rattle.std.specs.List.Sorted.{IsStrictlySortedBy}
use Rattle.std.specs.Ordering.{nat_cmp, ordering_reverse}
use Rattle.std.specs.declared.cmp.Ordering.{Ordering}
use Rattle.std.specs.declared.cmp.Ordering.TheVariants.{Less, Equal, Greater}
use Rattle.std.proofs.lemmas.Bool.{eqb-true}
use Rattle.std.proofs.lemmas.Cmp.{nat_cmp_total, ranked, tied_itself}
use Rattle.std.proofs.lemmas.List.{map-append}
use Rattle.form_expand.specs.Stored.{terms_in}
use Rattle.form_expand.specs.declared.stored.Stored.{Stored}
use Rattle.form_check.specs.declared.checked.Checked.{Checked}
use Rattle.form_module.specs.Module.{stays, with_expression}
use Rattle.form_module.specs.Settled.{Ascend}
use Rattle.form_module.specs.Works.{is_left}
use Rattle.form_module.proofs.Fitting.{is_among}

-- ---- two expressions are put in either order

swapped : (l : List Stored) (y x : Stored) → nat_cmp y.expression x.expression ≡ Less → with_expression (with_expression l y) x ≡ with_expression (with_expression l x) y
swapped [] y x below =
    let above : nat_cmp x.expression y.expression ≡ Greater = nat_cmp_total.antisymm x.expression y.expression ∙ ap ordering_reverse below in
    rw (below, above) refl
swapped (f ∷ fs) y x below = by (nat_cmp y.expression f.expression) refl (nat_cmp x.expression f.expression) refl (swapped fs y x below)
  where
    above : nat_cmp x.expression y.expression ≡ Greater
    above = nat_cmp_total.antisymm x.expression y.expression ∙ ap ordering_reverse below

    less : y.expression < x.expression
    less = ranked y.expression x.expression Less (sym below)

    by : (o : Ordering) → nat_cmp y.expression f.expression ≡ o → (p : Ordering) → nat_cmp x.expression f.expression ≡ p →
        with_expression (with_expression fs y) x ≡ with_expression (with_expression fs x) y →
        with_expression (with_expression (f ∷ fs) y) x ≡ with_expression (with_expression (f ∷ fs) x) y
    by Less d Less e later = rw (d, e, below, above) refl
    by Less d Equal e later = rw (d, e, above, d) refl
    by Less d Greater e later = rw (d, e, above, d) refl
    by Equal d Less e later = absurd (omega (arith, less, ranked y.expression f.expression Equal (sym d), ranked x.expression f.expression Less (sym e)))
    by Equal d Equal e later = absurd (omega (arith, less, ranked y.expression f.expression Equal (sym d), ranked x.expression f.expression Equal (sym e)))
    by Equal d Greater e later = rw (d, e, d) refl
    by Greater d Less e later = absurd (omega (arith, less, ranked y.expression f.expression Greater (sym d), ranked x.expression f.expression Less (sym e)))
    by Greater d Equal e later = absurd (omega (arith, less, ranked y.expression f.expression Greater (sym d), ranked x.expression f.expression Equal (sym e)))
    by Greater d Greater e later = rw (d, e, d) (ap (λ l. f ∷ l) later)

-- one that is put twice
twice : (l : List Stored) (x : Stored) → with_expression (with_expression l x) x ≡ with_expression l x
twice [] x = rw (tied_itself nat_cmp_total x.expression) refl
twice (f ∷ fs) x = by (nat_cmp x.expression f.expression) refl (twice fs x)
  where
    by : (o : Ordering) → nat_cmp x.expression f.expression ≡ o → with_expression (with_expression fs x) x ≡ with_expression fs x →
        with_expression (with_expression (f ∷ fs) x) x ≡ with_expression (f ∷ fs) x
    by Less e later = rw (e, tied_itself nat_cmp_total x.expression) refl
    by Equal e later = rw (e, e) refl
    by Greater e later = rw (e, e) (ap (λ l. f ∷ l) later)

-- ---- an expression that is there with its terms

abbrev pub HasAlready : List Stored → Stored → Type 0
HasAlready l x = with_expression l x ≡ l

abbrev AreAbove : Stored → List Stored → Type 0
AreAbove x zs = AllByRecursion (λ (z : Stored). nat_cmp x.expression z.expression ≡ Less) zs

-- it still is when others are put
also_has : (l : List Stored) (x y : Stored) → nat_cmp y.expression x.expression ≡ Less → HasAlready l x → HasAlready (with_expression l y) x
also_has l x y below has = swapped l y x below ∙ ap (λ m. with_expression m y) has

still_has : (zs l : List Stored) (x : Stored) → AreAbove x zs → HasAlready l x → HasAlready (fold with_expression l zs) x
still_has [] l x above has = has
still_has (z ∷ zs) l x above has = still_has zs (with_expression l z) x above.1 (sym (swapped l x z above.0) ∙ ap (λ m. with_expression m z) has)

filtered_above : (p : Stored → Bool) (x : Stored) (zs : List Stored) → AreAbove x zs → AreAbove x (filter p zs)
filtered_above p x [] above = tt
filtered_above p x (z ∷ zs) above = by (p z) (filtered_above p x zs above.1)
  where
    by : (b : Bool) → AreAbove x (filter p zs) → AreAbove x (cond b (z ∷ filter p zs) (filter p zs))
    by true later = (above.0, later)
    by false later = later

-- what stays is there, where each expression stands once
module _ (s : List Checked) where
  abbrev put_stays : List Stored → List Stored → List Stored
  put_stays l all = fold with_expression l (filter (stays s) all)

  has_first : (z : Stored) (zs l : List Stored) → is_left s z.expression ≡ true → AreAbove z zs → HasAlready (put_stays l (z ∷ zs)) z
  has_first z zs l left above =
      subst (λ (b : Bool). HasAlready (fold with_expression l (cond b (z ∷ filter (stays s) zs) (filter (stays s) zs))) z) (sym left)
      (still_has (filter (stays s) zs) (with_expression l z) z (filtered_above (stays s) z zs above) (twice l z))

  pub stays_there : (all l : List Stored) (expression : ℕ) → Ascend all → is_left s expression ≡ true → is_among all expression ≡ true →
      HasAlready (put_stays l all) (record { expression = expression; terms = terms_in all expression })
  unfolding IsStrictlySortedBy terms_in
  stays_there [] l expression ascends left among = absurd (cc)
  stays_there (z ∷ zs) l expression ascends left among =
      by (z.expression == expression) refl among (λ m there. stays_there zs m expression ascends.1 left there)
    where
      rest : (b : Bool) → is_among zs expression ≡ true →
          ((m : List Stored) → is_among zs expression ≡ true → HasAlready (put_stays m zs) (record { expression = expression; terms = terms_in zs expression })) →
          HasAlready (fold with_expression l (cond b (z ∷ filter (stays s) zs) (filter (stays s) zs))) (record { expression = expression; terms = terms_in zs expression })
      rest true there later = later (with_expression l z) there
      rest false there later = later l there

      by : (b : Bool) → (z.expression == expression) ≡ b → (b || is_among zs expression) ≡ true →
          ((m : List Stored) → is_among zs expression ≡ true → HasAlready (put_stays m zs) (record { expression = expression; terms = terms_in zs expression })) →
          HasAlready (put_stays l (z ∷ zs)) (record { expression = expression; terms = if b then z.terms else terms_in zs expression })
      by true same there later =
          let e : z.expression ≡ expression = eqb-true z.expression expression same in
          subst (λ (n : ℕ). HasAlready (put_stays l (z ∷ zs)) (record { expression = n; terms = z.terms })) e
          (has_first z zs l (ap (is_left s) e ∙ left) ascends.0)
      by false same there later = rest (stays s z) there later

-- ---- results, of which some are left out

pub record Made : Type 0 where
  pub is_shown : Bool
  pub stored : Stored

abbrev pub stored_of : List Made → List Stored
stored_of rs = map (λ r. r.stored) rs

abbrev pub ids_of : List Made → List ℕ
ids_of rs = map (λ r. r.stored.expression) rs

abbrev pub shown : List Made → List Stored
shown [] = []
shown (r ∷ rs) = cond r.is_shown (r.stored ∷ shown rs) (shown rs)

-- one that is left out is there already
abbrev pub IsOutBy : List Stored → Bool → Stored → Type 0
IsOutBy l true x = Unit {0}
IsOutBy l false x = HasAlready l x

abbrev pub IsOut : List Stored → Made → Type 0
IsOut l r = IsOutBy l r.is_shown r.stored

still_out : (l : List Stored) (y : Stored) (rs : List Made) → AllByRecursion (λ n. nat_cmp y.expression n ≡ Less) (ids_of rs) → AllByRecursion (IsOut l) rs → AllByRecursion (IsOut (with_expression l y)) rs
still_out l y [] above out = tt
still_out l y (r ∷ rs) above out = (by r.is_shown out.0, still_out l y rs above.1 out.1)
  where
    by : (b : Bool) → IsOutBy l b r.stored → IsOutBy (with_expression l y) b r.stored
    by true h = tt
    by false h = also_has l r.stored y above.0 h

pub all_or_shown : (l : List Stored) (rs : List Made) → AllByRecursion (IsOut l) rs → IsStrictlySortedBy nat_cmp (ids_of rs) → fold with_expression l (stored_of rs) ≡ fold with_expression l (shown rs)
unfolding IsStrictlySortedBy
all_or_shown l [] out rise = refl
all_or_shown l (r ∷ rs) out rise = by r.is_shown out.0 (λ m later. all_or_shown m rs later rise.1)
  where
    by : (b : Bool) → IsOutBy l b r.stored → ((m : List Stored) → AllByRecursion (IsOut m) rs → fold with_expression m (stored_of rs) ≡ fold with_expression m (shown rs)) →
        fold with_expression (with_expression l r.stored) (stored_of rs) ≡ fold with_expression l (cond b (r.stored ∷ shown rs) (shown rs))
    by true h rest = rest (with_expression l r.stored) (still_out l r.stored rs rise.0 out.1)
    by false h rest = ap (λ m. fold with_expression m (stored_of rs)) h ∙ rest l out.1

-- ---- one more

abbrev pub showing : Stored → Made
showing x = record { is_shown = true; stored = x }

abbrev pub leaving_out : Stored → Made
leaving_out x = record { is_shown = false; stored = x }

pub shown_more : (rs : List Made) (x : Stored) → shown (rs ++ showing x ∷ []) ≡ shown rs ++ x ∷ []
shown_more [] x = refl
shown_more (r ∷ rs) x = by r.is_shown (shown_more rs x)
  where
    by : (b : Bool) → shown (rs ++ showing x ∷ []) ≡ shown rs ++ x ∷ [] →
        cond b (r.stored ∷ shown (rs ++ showing x ∷ [])) (shown (rs ++ showing x ∷ [])) ≡ cond b (r.stored ∷ shown rs) (shown rs) ++ x ∷ []
    by true later = ap (λ xs. r.stored ∷ xs) later
    by false later = later

pub none_more : (rs : List Made) (x : Stored) → shown (rs ++ leaving_out x ∷ []) ≡ shown rs
none_more [] x = refl
none_more (r ∷ rs) x = by r.is_shown (none_more rs x)
  where
    by : (b : Bool) → shown (rs ++ leaving_out x ∷ []) ≡ shown rs → cond b (r.stored ∷ shown (rs ++ leaving_out x ∷ [])) (shown (rs ++ leaving_out x ∷ [])) ≡ cond b (r.stored ∷ shown rs) (shown rs)
    by true later = ap (λ xs. r.stored ∷ xs) later
    by false later = later

pub out_more : (l : List Stored) (rs : List Made) (r : Made) → AllByRecursion (IsOut l) rs → IsOut l r → AllByRecursion (IsOut l) (rs ++ r ∷ [])
out_more l [] r out is = (is, tt)
out_more l (q ∷ qs) r out is = (out.0, out_more l qs r out.1 is)

pub stored_more : (rs : List Made) (r : Made) → stored_of (rs ++ r ∷ []) ≡ stored_of rs ++ r.stored ∷ []
stored_more rs r = map-append (λ (q : Made). q.stored) rs (r ∷ [])

pub ids_more : (rs : List Made) (r : Made) → ids_of (rs ++ r ∷ []) ≡ ids_of rs ++ r.stored.expression ∷ []
ids_more rs r = map-append (λ (q : Made). q.stored.expression) rs (r ∷ [])
