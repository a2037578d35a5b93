-- Loops over a list, up to the first refusal.
use Rattle.std.proofs.Common.{◌≡◌, ℕ, suc, ◌+◌, ◌<◌, ◌≤◌, List, [], ◌∷◌, ◌++◌, length, get_or, take, drop, Result, Ok, Err, refl, sym, ap, ◌∙◌, append_assoc, add-one, drop-cons}
use Rattle.std.proofs.lemmas.List.{drop_all, append-nil}
use Rattle.std.proofs.Math.Seq.{take-suc}
use Rattle.form_right_side.specs.declared.error.CheckError.{CheckError}
use Rattle.form_right_side.specs.declared.error.CheckError.TheVariants.{Refused, Memory}
use Rattle.form_right_side.specs.Refusal.{Refusal, IsRefused, ◌>>=◌, each, listed}

-- what is left from a place on begins with the item there
pub rest : {X : Type 0} (xs : List X) (i : ℕ) (x : X) → i < length xs → x ≡ get_or xs i x → drop i xs ≡ x ∷ drop (i + 1) xs
rest xs i x within is = rw add-one (drop-cons xs i x within ∙ ap (λ y. y ∷ drop (suc i) xs) (sym is))

-- what refuses a step refuses all that would come after it
pub IsRefused-before : {A B : Type 0} (e : CheckError) (r : Result A Refusal) (next : A → Result B Refusal) → IsRefused e r → IsRefused e (r >>= next)
IsRefused-before (Refused cause spot) r next is = ap (λ s. s >>= next) is
IsRefused-before Memory r next is = tt

-- ---- a step for each

pub each-next : {S X : Type 0} (step : S → X → Result S Refusal) (state next : S) (xs : List X) (i : ℕ) (x : X) (all : Result S Refusal) → i < length xs → x ≡ get_or xs i x → all ≡ each step state (drop i xs) → step state x ≡ Ok next → all ≡ each step next (drop (i + 1) xs)
each-next step state next xs i x all within is invariant goes =
    invariant ∙ ap (each step state) (rest xs i x within is) ∙ ap (λ r. r >>= (λ s. each step s (drop (i + 1) xs))) goes

-- the same of a list that is taken apart from its front
pub each-first : {S X : Type 0} (step : S → X → Result S Refusal) (state next : S) (x : X) (xs ys : List X) (all : Result S Refusal) → ys ≡ x ∷ xs → all ≡ each step state ys → step state x ≡ Ok next → all ≡ each step next xs
each-first step state next x xs ys all is invariant goes =
    invariant ∙ ap (each step state) is ∙ ap (λ r. r >>= (λ s. each step s xs)) goes

pub each-refused : {S X : Type 0} (step : S → X → Result S Refusal) (state : S) (xs : List X) (i : ℕ) (x : X) (all : Result S Refusal) (e : CheckError) → i < length xs → x ≡ get_or xs i x → all ≡ each step state (drop i xs) → IsRefused e (step state x) → IsRefused e all
each-refused step state xs i x all (Refused cause spot) within is invariant stops =
    invariant ∙ ap (each step state) (rest xs i x within is) ∙ ap (λ r. r >>= (λ s. each step s (drop (i + 1) xs))) stops
each-refused step state xs i x all Memory within is invariant stops = tt

pub each-end : {S X : Type 0} (step : S → X → Result S Refusal) (state : S) (xs : List X) (i : ℕ) (all : Result S Refusal) → length xs ≤ i → all ≡ each step state (drop i xs) → all ≡ Ok state
each-end step state xs i all past invariant = invariant ∙ ap (each step state) (drop_all i xs past)

bound : {S : Type 0} (r : Result S Refusal) (f g : S → Result S Refusal) (before after : S) → (r >>= f) ≡ Ok before → ((s : S) → f s ≡ Ok before → g s ≡ Ok after) → (r >>= g) ≡ Ok after
bound (Ok s) f g before after is goes = goes s is
bound (Err e) f g before after is goes = cc

each-last : {S X : Type 0} (step : S → X → Result S Refusal) (start state next : S) (xs : List X) (x : X) → each step start xs ≡ Ok state → step state x ≡ Ok next → each step start (xs ++ x ∷ []) ≡ Ok next
each-last step start state next [] x is goes =
    ap (λ r. r >>= (λ s. step s x >>= (λ t. Ok t))) is ∙ ap (λ r. r >>= (λ t. Ok t)) goes
each-last step start state next (y ∷ ys) x is goes =
    bound (step start y) (λ s. each step s ys) (λ s. each step s (ys ++ x ∷ [])) state next is (λ s h. each-last step s state next ys x h goes)

-- the steps for the first items, and one more
pub each-front : {S X : Type 0} (step : S → X → Result S Refusal) (start state next : S) (xs : List X) (i : ℕ) (x : X) → i < length xs → x ≡ get_or xs i x → each step start (take i xs) ≡ Ok state → step state x ≡ Ok next → each step start (take (i + 1) xs) ≡ Ok next
each-front step start state next xs i x within is so_far goes =
    rw add-one (ap (each step start) (take-suc xs i x within ∙ ap (λ y. take i xs ++ y ∷ []) (sym is)) ∙ each-last step start state next (take i xs) x so_far goes)

-- ---- what each gives

-- items before a list, where it isn't refused
abbrev pub behind : {Y : Type 0} → List Y → Result (List Y) Refusal → Result (List Y) Refusal
behind ys r = r >>= (λ zs. Ok (ys ++ zs))

behind-more : {Y : Type 0} (ys : List Y) (y : Y) (r : Result (List Y) Refusal) → behind ys (r >>= (λ zs. Ok (y ∷ zs))) ≡ behind (ys ++ y ∷ []) r
behind-more ys y (Ok zs) = ap Ok (sym (append_assoc ys (y ∷ []) zs))
behind-more ys y (Err e) = refl

pub listed-next : {X Y : Type 0} (give : X → Result Y Refusal) (xs : List X) (ys : List Y) (y : Y) (i : ℕ) (x : X) (all : Result (List Y) Refusal) → i < length xs → x ≡ get_or xs i x → all ≡ behind ys (listed give (drop i xs)) → give x ≡ Ok y → all ≡ behind (ys ++ y ∷ []) (listed give (drop (i + 1) xs))
listed-next give xs ys y i x all within is invariant gives =
    invariant ∙ ap (λ zs. behind ys (listed give zs)) (rest xs i x within is)
    ∙ ap (λ r. behind ys (r >>= (λ z. listed give (drop (i + 1) xs) >>= (λ zs. Ok (z ∷ zs))))) gives
    ∙ behind-more ys y (listed give (drop (i + 1) xs))

pub listed-refused : {X Y : Type 0} (give : X → Result Y Refusal) (xs : List X) (ys : List Y) (i : ℕ) (x : X) (all : Result (List Y) Refusal) (e : CheckError) → i < length xs → x ≡ get_or xs i x → all ≡ behind ys (listed give (drop i xs)) → IsRefused e (give x) → IsRefused e all
listed-refused give xs ys i x all (Refused cause spot) within is invariant stops =
    invariant ∙ ap (λ zs. behind ys (listed give zs)) (rest xs i x within is)
    ∙ ap (λ r. behind ys (r >>= (λ z. listed give (drop (i + 1) xs) >>= (λ zs. Ok (z ∷ zs))))) stops
listed-refused give xs ys i x all Memory within is invariant stops = tt

pub listed-end : {X Y : Type 0} (give : X → Result Y Refusal) (xs : List X) (ys : List Y) (i : ℕ) (all : Result (List Y) Refusal) → length xs ≤ i → all ≡ behind ys (listed give (drop i xs)) → all ≡ Ok ys
listed-end give xs ys i all past invariant =
    invariant ∙ ap (λ zs. behind ys (listed give zs)) (drop_all i xs past) ∙ ap Ok (append-nil ys)

pub listed-start : {X Y : Type 0} (give : X → Result Y Refusal) (xs : List X) → listed give xs ≡ behind [] (listed give xs)
listed-start {Y = Y} give xs = by (listed give xs)
  where
    by : (r : Result (List Y) Refusal) → r ≡ behind [] r
    by (Ok ys) = refl
    by (Err e) = refl
