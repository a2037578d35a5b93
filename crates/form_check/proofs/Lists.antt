-- Lists of what each gives.
use Rattle.std.proofs.Common.{◌≡◌, List, [], ◌∷◌, length, All, Result, Ok, refl, sym, ap, subst, arith}
use Rattle.std.proofs.lemmas.List.Elements.{All-nil, All-cons, All-head, All-tail}
use Rattle.form_right_side.specs.Refusal.{Refusal, ◌>>=◌, listed}
use Rattle.form_right_side.proofs.Binding.{bind-Ok, ok_same}

module _ {X Y : Type 0} (give : X → Result Y Refusal) where
  listed-cons : (x : X) (xs : List X) (ys : List Y) → listed give (x ∷ xs) ≡ Ok ys → (y : Y) × (more : List Y) × (give x ≡ Ok y) × (listed give xs ≡ Ok more) × (ys ≡ y ∷ more)
  listed-cons x xs ys is =
      let first = bind-Ok (give x) (λ y. listed give xs >>= (λ more. Ok (y ∷ more))) ys is in
      let later = bind-Ok (listed give xs) (λ more. Ok (first.0 ∷ more)) ys first.2 in
      (first.0, later.0, first.1, later.1, sym (ok_same later.2))

  -- where what is given of such items is so, all of it is
  pub listed-where : (Q : X → Type 0) (P : Y → Type 0) → ((x : X) (y : Y) → Q x → give x ≡ Ok y → P y) → (xs : List X) (ys : List Y) → All Q xs → listed give xs ≡ Ok ys → All P ys
  listed-where Q P holds [] ys all is = subst (All P) (ok_same is) (All-nil P)
  listed-where Q P holds (x ∷ xs) ys all is =
      let first = listed-cons x xs ys is in
      subst (All P) (sym first.4)
      (All-cons P first.0 first.1 (holds x first.0 (All-head Q x xs all) first.2) (listed-where Q P holds xs first.1 (All-tail Q x xs all) first.3))

  pub listed-All : (P : Y → Type 0) → ((x : X) (y : Y) → give x ≡ Ok y → P y) → (xs : List X) (ys : List Y) → listed give xs ≡ Ok ys → All P ys
  listed-All P holds xs ys is = listed-where (λ x. Unit {0}) P (λ x y h e. holds x y e) xs ys (λ i d below. tt) is

  pub listed-length : (xs : List X) (ys : List Y) → listed give xs ≡ Ok ys → length ys ≡ length xs
  listed-length [] ys is = subst (λ (zs : List Y). length zs ≡ 0) (ok_same is) refl
  listed-length (x ∷ xs) ys is =
      let first = listed-cons x xs ys is in
      let more = listed-length xs first.1 first.3 in
      let long = ap length first.4 in
      omega (arith, more, long)
