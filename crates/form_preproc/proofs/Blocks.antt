-- Where a block ends: lines that nest among themselves are passed over.
use Rattle.std.proofs.Common.{◌≡◌, ℕ, zero, suc, ◌+◌, Bool, true, false, if◌then◌else◌, List, [], ◌∷◌, ◌++◌, length, Option, Some, None, refl, ap, ◌∙◌, subst}
use Rattle.std.specs.Prelude.{nat_le, not, ◌&&◌}
use Rattle.std.proofs.lemmas.Option.{same_Some}
use Rattle.form_preproc.specs.Block.{is_opening, is_end, is_closer, to_closer, to_end, is_same_kind, most_blocks, ended, continued, begun, open_behind, unclosed, or_bad, misnested}
use Rattle.form_preproc.specs.declared.key.Key.{Key}
use Rattle.form_preproc.specs.declared.key.Key.TheVariants.{Plain, Do, If, Ifdef, Ifndef, Procedure, Elseif, Else, Enddo, Endif, Endprocedure, Define, Redefine, Undefine, Call, Include, Sign, Unknown}
use Rattle.form_preproc.specs.declared.nesting.Kind.{Kind}
use Rattle.form_preproc.specs.declared.nesting.Kind.TheVariants as kind
use Rattle.form_preproc.specs.declared.nesting.Open.{Open}

-- how many blocks are open behind a line of this kind
data Moves (k : Key) : ℕ → ℕ → Type 0 where
  opens : (old : ℕ) → is_closer k ≡ false → is_end k ≡ false → is_opening k ≡ true → Moves k old (suc old)
  ends : (new : ℕ) → is_end k ≡ true → Moves k (suc new) new
  parts : (less : ℕ) → is_end k ≡ false → is_opening k ≡ false → Moves k (suc less) (suc less)
  stays : (old : ℕ) → is_closer k ≡ false → is_end k ≡ false → is_opening k ≡ false → Moves k old old

opened : (k : Key) (c : Kind) (number : ℕ) (blocks more : List Open) → is_closer k ≡ false → is_end k ≡ false → is_opening k ≡ true → begun c number blocks ≡ Some more → Moves k (length blocks) (length more)
opened k c number blocks more a b d h = by (nat_le most_blocks (length blocks)) h
  where
    by : (full : Bool) → (if full then None else Some (record { kind = c; has_last = false; number = number } ∷ blocks)) ≡ Some more → Moves k (length blocks) (length more)
    by true e = absurd cc
    by false e = subst (λ (bs : List Open). Moves k (length blocks) (length bs)) (same_Some (record { kind = c; has_last = false; number = number } ∷ blocks) more e) (opens (length blocks) a b d)

closed : (k : Key) (c : Kind) (blocks more : List Open) → is_end k ≡ true → ended c blocks ≡ Some more → Moves k (length blocks) (length more)
closed k c [] more a h = absurd cc
closed k c (o ∷ blocks) more a h = by (is_same_kind o.kind c) h
  where
    by : (same : Bool) → (if same then Some blocks else None) ≡ Some more → Moves k (suc (length blocks)) (length more)
    by true e = subst (λ (bs : List Open). Moves k (suc (length blocks)) (length bs)) (same_Some blocks more e) (ends (length blocks) a)
    by false e = absurd cc

parted : (k : Key) (last : Bool) (blocks more : List Open) → is_end k ≡ false → is_opening k ≡ false → continued last blocks ≡ Some more → Moves k (length blocks) (length more)
parted k last [] more a b h = absurd cc
parted k last (o ∷ blocks) more a b h = by (is_same_kind o.kind kind.Choice && not o.has_last) h
  where
    by : (may : Bool) → (if may then Some (record { kind = o.kind; has_last = last; number = o.number } ∷ blocks) else None) ≡ Some more → Moves k (suc (length blocks)) (length more)
    by true e = subst (λ (bs : List Open). Moves k (suc (length blocks)) (length bs)) (same_Some (record { kind = o.kind; has_last = last; number = o.number } ∷ blocks) more e) (parts (length blocks) a b)
    by false e = absurd cc

same : (k : Key) (blocks more : List Open) → is_closer k ≡ false → is_end k ≡ false → is_opening k ≡ false → Some blocks ≡ Some more → Moves k (length blocks) (length more)
same k blocks more a b c h = subst (λ (bs : List Open). Moves k (length blocks) (length bs)) (same_Some blocks more h) (stays (length blocks) a b c)

moves : (k : Key) (number : ℕ) (blocks more : List Open) → open_behind k number blocks ≡ Some more → Moves k (length blocks) (length more)
moves Elseif number blocks more h = parted Elseif false blocks more refl refl h
moves Else number blocks more h = parted Else true blocks more refl refl h
moves Do number blocks more h = opened Do kind.Loop number blocks more refl refl refl h
moves If number blocks more h = opened If kind.Choice number blocks more refl refl refl h
moves Ifdef number blocks more h = opened Ifdef kind.Choice number blocks more refl refl refl h
moves Ifndef number blocks more h = opened Ifndef kind.Choice number blocks more refl refl refl h
moves Procedure number blocks more h = opened Procedure kind.Procedure number blocks more refl refl refl h
moves Enddo number blocks more h = closed Enddo kind.Loop blocks more refl h
moves Endif number blocks more h = closed Endif kind.Choice blocks more refl h
moves Endprocedure number blocks more h = closed Endprocedure kind.Procedure blocks more refl h
moves Plain number blocks more h = same Plain blocks more refl refl refl h
moves Define number blocks more h = same Define blocks more refl refl refl h
moves Redefine number blocks more h = same Redefine blocks more refl refl refl h
moves Undefine number blocks more h = same Undefine blocks more refl refl refl h
moves Call number blocks more h = same Call blocks more refl refl refl h
moves Include number blocks more h = same Include blocks more refl refl refl h
moves Sign number blocks more h = same Sign blocks more refl refl refl h
moves Unknown number blocks more h = same Unknown blocks more refl refl refl h

module _ {A : Type 0} (key : A → Key) where
  -- one line is passed over
  end_past : (old new : ℕ) (x : A) (xs : List A) → Moves (key x) old new → to_end key old (x ∷ xs) ≡ to_end key new xs
  unfolding to_end
  end_past zero _ x xs (opens _ a b c) =
      ap (λ (e : Bool). if e then x ∷ xs else (if is_opening (key x) then to_end key 1 xs else to_end key 0 xs)) b ∙ ap (λ (o : Bool). if o then to_end key 1 xs else to_end key 0 xs) c
  end_past (suc old) _ x xs (opens _ a b c) =
      ap (λ (e : Bool). if e then to_end key old xs else (if is_opening (key x) then to_end key (suc (suc old)) xs else to_end key (suc old) xs)) b
      ∙ ap (λ (o : Bool). if o then to_end key (suc (suc old)) xs else to_end key (suc old) xs) c
  end_past _ new x xs (ends _ a) = ap (λ (e : Bool). if e then to_end key new xs else (if is_opening (key x) then to_end key (suc (suc new)) xs else to_end key (suc new) xs)) a
  end_past _ _ x xs (parts less b c) =
      ap (λ (e : Bool). if e then to_end key less xs else (if is_opening (key x) then to_end key (suc (suc less)) xs else to_end key (suc less) xs)) b
      ∙ ap (λ (o : Bool). if o then to_end key (suc (suc less)) xs else to_end key (suc less) xs) c
  end_past zero _ x xs (stays _ a b c) =
      ap (λ (e : Bool). if e then x ∷ xs else (if is_opening (key x) then to_end key 1 xs else to_end key 0 xs)) b ∙ ap (λ (o : Bool). if o then to_end key 1 xs else to_end key 0 xs) c
  end_past (suc old) _ x xs (stays _ a b c) =
      ap (λ (e : Bool). if e then to_end key old xs else (if is_opening (key x) then to_end key (suc (suc old)) xs else to_end key (suc old) xs)) b
      ∙ ap (λ (o : Bool). if o then to_end key (suc (suc old)) xs else to_end key (suc old) xs) c

  closer_past : (old new : ℕ) (x : A) (xs : List A) → Moves (key x) old new → to_closer key old (x ∷ xs) ≡ to_closer key new xs
  unfolding to_closer
  closer_past zero _ x xs (opens _ a b c) =
      ap (λ (e : Bool). if e then x ∷ xs else (if is_opening (key x) then to_closer key 1 xs else to_closer key 0 xs)) a ∙ ap (λ (o : Bool). if o then to_closer key 1 xs else to_closer key 0 xs) c
  closer_past (suc old) _ x xs (opens _ a b c) =
      ap (λ (e : Bool). if e then to_closer key old xs else (if is_opening (key x) then to_closer key (suc (suc old)) xs else to_closer key (suc old) xs)) b
      ∙ ap (λ (o : Bool). if o then to_closer key (suc (suc old)) xs else to_closer key (suc old) xs) c
  closer_past _ new x xs (ends _ a) = ap (λ (e : Bool). if e then to_closer key new xs else (if is_opening (key x) then to_closer key (suc (suc new)) xs else to_closer key (suc new) xs)) a
  closer_past _ _ x xs (parts less b c) =
      ap (λ (e : Bool). if e then to_closer key less xs else (if is_opening (key x) then to_closer key (suc (suc less)) xs else to_closer key (suc less) xs)) b
      ∙ ap (λ (o : Bool). if o then to_closer key (suc (suc less)) xs else to_closer key (suc less) xs) c
  closer_past zero _ x xs (stays _ a b c) =
      ap (λ (e : Bool). if e then x ∷ xs else (if is_opening (key x) then to_closer key 1 xs else to_closer key 0 xs)) a ∙ ap (λ (o : Bool). if o then to_closer key 1 xs else to_closer key 0 xs) c
  closer_past (suc old) _ x xs (stays _ a b c) =
      ap (λ (e : Bool). if e then to_closer key old xs else (if is_opening (key x) then to_closer key (suc (suc old)) xs else to_closer key (suc old) xs)) b
      ∙ ap (λ (o : Bool). if o then to_closer key (suc (suc old)) xs else to_closer key (suc old) xs) c

  -- what walks over lines by such steps passes over those that nest
  module _ (number : A → ℕ) (walk : ℕ → List A → List A) (steps : (old new : ℕ) (x : A) (xs : List A) → Moves (key x) old new → walk old (x ∷ xs) ≡ walk new xs) where
    abbrev Passes : List A → List A → Type 0
    Passes body rest = (blocks : List Open) → misnested key number blocks body ≡ None → walk (length blocks) (body ++ rest) ≡ walk 0 rest

    none_passed : (rest : List A) (blocks : List Open) → unclosed blocks ≡ None → walk (length blocks) rest ≡ walk 0 rest
    none_passed rest [] h = refl
    none_passed rest (o ∷ blocks) h = absurd cc

    one_passed : (x : A) (xs rest : List A) → Passes xs rest → (blocks : List Open) (found : Option (List Open)) → open_behind (key x) (number x) blocks ≡ found
        → or_bad (λ more. misnested key number more xs) (number x) found ≡ None → walk (length blocks) (x ∷ (xs ++ rest)) ≡ walk 0 rest
    one_passed x xs rest others blocks None is e = absurd cc
    one_passed x xs rest others blocks (Some more) is e = steps (length blocks) (length more) x (xs ++ rest) (moves (key x) (number x) blocks more is) ∙ others more e

    all_passed : (body rest : List A) → Passes body rest
    unfolding misnested
    all_passed [] rest blocks h = none_passed rest blocks h
    all_passed (x ∷ xs) rest blocks h = one_passed x xs rest (λ more e. all_passed xs rest more e) blocks (open_behind (key x) (number x) blocks) refl h

pub closer_behind_nested : {A : Type 0} (key : A → Key) (number : A → ℕ) (body rest : List A) → misnested key number [] body ≡ None → to_closer key 0 (body ++ rest) ≡ to_closer key 0 rest
closer_behind_nested key number body rest h = all_passed key number (to_closer key) (closer_past key) body rest [] h

pub end_behind_nested : {A : Type 0} (key : A → Key) (number : A → ℕ) (body rest : List A) → misnested key number [] body ≡ None → to_end key 0 (body ++ rest) ≡ to_end key 0 rest
end_behind_nested key number body rest h = all_passed key number (to_end key) (end_past key) body rest [] h
