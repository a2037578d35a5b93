-- Why a text is refused, and where.
use Rattle.std.specs.Prelude.{◌≡◌, Result, Ok, Err, List, [], ◌∷◌}
use Rattle.form_base.specs.declared.cause.Cause.{Cause}
use Rattle.form_base.specs.declared.cause.Cause.TheVariants.{NumberRange}
use Rattle.form_base.specs.declared.spot.Spot.{Spot}
use Rattle.form_right_side.specs.declared.error.CheckError.{CheckError}
use Rattle.form_right_side.specs.declared.error.CheckError.TheVariants.{Refused, Memory}
use Rattle.form_right_side.specs.declared.error.PastLimit.{PastLimit}

-- a cause, and the token at which it shows
pub record Refusal : Type 0 where
  pub cause : Cause
  pub spot : Spot

abbrev pub refused : {X : Type 0} → Cause → Spot → Result X Refusal
refused cause spot = Err (record { cause = cause; spot = spot })

-- the same as a function answers it
abbrev pub error_of : Refusal → CheckError
error_of r = Refused r.cause r.spot

-- what comes after a step that isn't refused; the first refusal otherwise
infixl 10 ◌>>=◌
abbrev pub ◌>>=◌ : {A B : Type 0} → Result A Refusal → (A → Result B Refusal) → Result B Refusal
(Ok a) >>= next = next a
(Err e) >>= next = Err e

-- a step for each item in order, up to the first refusal
abbrev pub each : {S X : Type 0} → (S → X → Result S Refusal) → S → List X → Result S Refusal
each step state [] = Ok state
each step state (x ∷ xs) = step state x >>= (λ next. each step next xs)

-- what each item gives, in order, or the first refusal
abbrev pub listed : {X Y : Type 0} → (X → Result Y Refusal) → List X → Result (List Y) Refusal
listed give [] = Ok []
listed give (x ∷ xs) = give x >>= (λ y. listed give xs >>= (λ ys. Ok (y ∷ ys)))

-- What a function answered, seen by view, is what checking gives, unless memory ran out.
abbrev pub IsRefused : {Y : Type 0} → CheckError → Result Y Refusal → Type 0
IsRefused (Refused cause spot) checked = checked ≡ refused cause spot
IsRefused Memory checked = Unit {0}

abbrev pub Gives : {X Y : Type 0} → (X → Y) → Result X CheckError → Result Y Refusal → Type 0
Gives view (Ok x) checked = checked ≡ Ok (view x)
Gives view (Err e) checked = IsRefused e checked

-- the same of a function that takes no memory, where nothing is refused but a number past its limit
abbrev pub GivesWithin : {X Y : Type 0} → (X → Y) → Result X PastLimit → Result Y Refusal → Type 0
GivesWithin view (Ok x) checked = checked ≡ Ok (view x)
GivesWithin view (Err past) checked = checked ≡ refused NumberRange past.spot
