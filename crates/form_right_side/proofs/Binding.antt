-- One step after another.
use Rattle.std.proofs.Common.{◌≡◌, ℕ, suc, ◌-◌, ◌==◌, Bool, true, false, Result, Ok, Err, refl, arith, if◌then◌else◌}
use Rattle.std.proofs.lemmas.Bool.{eqb-true}
use Rattle.form_base.specs.declared.cause.Cause.{Cause}
use Rattle.form_base.specs.declared.spot.Spot.{Spot}
use Rattle.form_right_side.specs.Refusal.{Refusal, refused, ◌>>=◌}

pub bind-bind : {A B C : Type 0} (r : Result A Refusal) (f : A → Result B Refusal) (g : B → Result C Refusal) → ((r >>= f) >>= g) ≡ (r >>= (λ x. f x >>= g))
bind-bind (Ok x) f g = refl
bind-bind (Err e) f g = refl

pub bind-same : {A B : Type 0} (r : Result A Refusal) (f g : A → Result B Refusal) → ((x : A) → f x ≡ g x) → (r >>= f) ≡ (r >>= g)
bind-same (Ok x) f g same = same x
bind-same (Err e) f g same = refl

pub minus-one : (k : ℕ) → suc k - 1 ≡ k
minus-one k = omega arith

pub not-zero : (k : ℕ) → (suc k == 0) ≡ false
not-zero k = by (suc k == 0) refl
  where
    by : (b : Bool) → (suc k == 0) ≡ b → b ≡ false
    by false is = refl
    by true is = let zero : suc k ≡ 0 = eqb-true (suc k) 0 is in absurd (omega arith)

-- ---- results

pub bind-Ok : {A B : Type 0} (r : Result A Refusal) (next : A → Result B Refusal) (y : B) → (r >>= next) ≡ Ok y → (x : A) × (r ≡ Ok x) × (next x ≡ Ok y)
bind-Ok (Ok x) next y is = (x, refl, is)
bind-Ok (Err e) next y is = cc

pub if-Ok : {A : Type 0} (test : Bool) (r : Result A Refusal) (cause : Cause) (spot : Spot) (y : A) → (if test then r else refused cause spot) ≡ Ok y → (test ≡ true) × (r ≡ Ok y)
if-Ok true r cause spot y is = (refl, is)
if-Ok false r cause spot y is = cc

pub else-Ok : {A : Type 0} (test : Bool) (r : Result A Refusal) (cause : Cause) (spot : Spot) (y : A) → (if test then refused cause spot else r) ≡ Ok y → (test ≡ false) × (r ≡ Ok y)
else-Ok true r cause spot y is = cc
else-Ok false r cause spot y is = (refl, is)

pub ok_same : {A : Type 0} {x y : A} → ◌≡◌ {A = Result A Refusal} (Ok x) (Ok y) → x ≡ y
ok_same is = cc
