-- What a `count` has is within its limits.
use Rattle.std.proofs.Common.{◌≡◌, ℕ, zero, suc, ◌≤◌, Bool, true, ◌&&◌, nat_abs, List, All, [], ◌∷◌, length, Option, Some, None, Ok, refl, sym, ap, subst, ◌∙◌, le-leb, arith}
use Rattle.std.specs.List.{list_all}
use Rattle.std.proofs.lemmas.List.Elements.{All-head, All-tail}
use Rattle.form_names.specs.Names.{Entry}
use Rattle.form_ast.specs.Lawful.{most_counted}
use Rattle.form_ast.specs.declared.condition.Weighted as written
use Rattle.form_ast.specs.declared.expr.Sign.{Sign}
use Rattle.form_ast.specs.declared.expr.Sign.TheVariants.{Plus, Minus}
use Rattle.form_tree.specs.Weights.{are_weights, is_weight, largest_weight, most_weights}
use Rattle.form_tree.specs.declared.condition.Weighted.{Weighted}
use Rattle.form_check.specs.Carried.{counted_by, weight, weighted, with_sign}
use Rattle.form_right_side.specs.Refusal.{◌>>=◌, listed}
use Rattle.form_right_side.specs.RightSide.{found, largest_exponent, value_within}
use Rattle.form_right_side.proofs.Binding.{bind-Ok, ok_same}
use Rattle.form_check.proofs.Lists.{listed-All, listed-length}
use Rattle.form_check.proofs.Pieces.{value-fits}

size_signed : (sign : Option Sign) (n : ℕ) → nat_abs (with_sign sign n) ≡ n
size_signed None n = refl
size_signed (Some Plus) n = refl
size_signed (Some Minus) zero = refl
size_signed (Some Minus) (suc n) = refl

weight_fits : (w : written.Weighted) (names : List Entry) (x : Weighted) → weighted names w ≡ Ok x → is_weight x ≡ true
weight_fits w names x is =
    let f = bind-Ok (found names w.name) (λ f. counted_by w.name f.id f.kind >>= (λ what. weight w.weight.sign w.weight.number >>= (λ size. Ok (record { counted = what; weight = size })))) x is in
    let what = bind-Ok (counted_by w.name f.0.id f.0.kind) (λ what. weight w.weight.sign w.weight.number >>= (λ size. Ok (record { counted = what; weight = size }))) x f.2 in
    let size = bind-Ok (weight w.weight.sign w.weight.number) (λ size. Ok (record { counted = what.0; weight = size })) x what.2 in
    let value = bind-Ok (value_within largest_exponent w.weight.number) (λ n. Ok (with_sign w.weight.sign n)) size.0 size.1 in
    let below : value.0 ≤ largest_weight = value-fits largest_exponent w.weight.number value.0 value.1 in
    let same : nat_abs size.0 ≡ value.0 = ap nat_abs (sym (ok_same value.2)) ∙ size_signed w.weight.sign value.0 in
    subst (λ (y : Weighted). is_weight y ≡ true) (ok_same size.2) (le-leb (nat_abs size.0) largest_weight (omega (arith, below, same)))

all_true : (ws : List Weighted) → All (λ w. is_weight w ≡ true) ws → list_all is_weight ws ≡ true
all_true [] h = refl
all_true (w ∷ ws) h =
    ap (λ (b : Bool). b && list_all is_weight ws) (All-head (λ w. is_weight w ≡ true) w ws h) ∙ all_true ws (All-tail (λ w. is_weight w ≡ true) w ws h)

pub weights_fit : (names : List Entry) (ws : List written.Weighted) (list : List Weighted) → length ws ≤ most_counted → listed (weighted names) ws ≡ Ok list → are_weights list ≡ true
weights_fit names ws list few is =
    let long = listed-length (weighted names) ws list is in
    let each = listed-All (weighted names) (λ w. is_weight w ≡ true) (λ w x e. weight_fits w names x e) ws list is in
    ap (λ (b : Bool). b && list_all is_weight list) (le-leb (length list) most_weights (omega (arith, long, few))) ∙ all_true list each
