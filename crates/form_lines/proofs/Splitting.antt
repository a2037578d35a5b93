-- The first line of a text, from the place of its first newline.
use Rattle.std.proofs.Common.{◌≡◌, ◌<◌, ◌≤◌, ◌+◌, ◌-◌, ℕ, Bool, true, false, cond, ltb, eqb, List, [], ◌∷◌, length, take, drop, Some, None, refl, ap, subst, ◌∙◌, arith}
use Rattle.std.specs.List.{slice_split, position, position_or_len, before_first, after_first}
use Rattle.std.specs.Str.Lines.{lines, lines_of_parts, strip_carriage_return}
use Rattle.std.proofs.lemmas.Bool.{ltb-true, ltb-false, ne_eqb}
use Rattle.std.proofs.lemmas.List.{take_rest, length-drop}
use Rattle.std.proofs.Math.Seq.{drop-length}
use Rattle.std.proofs.lemmas.List.Sums.{fails_before_first}
use Rattle.std.proofs.lemmas.List.Splits.{slice_split_first, slice_split_none, length-slice_split}
use Rattle.std.proofs.lemmas.List.Elements.{All-from_get_or}
use Rattle.std.proofs.lemmas.Option.{same_Some}
use Rattle.form_lines.specs.Text.{IsFirstLine}

found : (xs : List ℕ) (n : ℕ) → position (λ c. eqb c 10) xs ≡ Some n → (n < length xs) × (position_or_len (λ c. eqb c 10) xs ≡ n)
found xs n e = by_test (ltb (position_or_len (λ c. eqb c 10) xs) (length xs)) refl e where
  by_test : (b : Bool) → ltb (position_or_len (λ c. eqb c 10) xs) (length xs) ≡ b → cond b (Some (position_or_len (λ c. eqb c 10) xs)) None ≡ Some n → (n < length xs) × (position_or_len (λ c. eqb c 10) xs ≡ n)
  by_test true t h =
      let same = same_Some (position_or_len (λ c. eqb c 10) xs) n h in
      (subst (λ (k : ℕ). k < length xs) same (ltb-true _ _ t), same)
  by_test false t h = absurd cc

missed : (xs : List ℕ) → position (λ c. eqb c 10) xs ≡ None → length xs ≤ position_or_len (λ c. eqb c 10) xs
missed xs e = by_test (ltb (position_or_len (λ c. eqb c 10) xs) (length xs)) refl e where
  by_test : (b : Bool) → ltb (position_or_len (λ c. eqb c 10) xs) (length xs) ≡ b → cond b (Some (position_or_len (λ c. eqb c 10) xs)) None ≡ None → length xs ≤ position_or_len (λ c. eqb c 10) xs
  by_test true t h = absurd cc
  by_test false t h = ltb-false _ _ t

-- a part that isn't the last one is a line
more_parts : (x : List ℕ) (parts : List (List ℕ)) → 0 < length parts → lines_of_parts (x ∷ parts) ≡ strip_carriage_return x ∷ lines_of_parts parts
more_parts x [] h = absurd (omega arith)
more_parts x (y ∷ more) h = refl

at_newline : (xs : List ℕ) (n : ℕ) → n < length xs → position_or_len (λ c. eqb c 10) xs ≡ n → lines xs ≡ strip_carriage_return (take n xs) ∷ lines (drop (n + 1) xs)
at_newline xs n lt e =
    let within : position_or_len (λ c. eqb c 10) xs < length xs = omega (arith, e) in
    let split = slice_split_first (λ c. eqb c 10) xs 0 within in
    let rest : List ℕ = after_first (λ c. eqb c 10) xs in
    let some : 0 < length (slice_split (λ c. eqb c 10) rest) = omega (arith, length-slice_split (λ c. eqb c 10) rest) in
    let parted : lines xs ≡ strip_carriage_return (before_first (λ c. eqb c 10) xs) ∷ lines rest =
    ap lines_of_parts split ∙ more_parts (before_first (λ c. eqb c 10) xs) (slice_split (λ c. eqb c 10) rest) some in
    subst (λ (k : ℕ). lines xs ≡ strip_carriage_return (take k xs) ∷ lines (drop (k + 1) xs)) e parted

-- at a newline the first line is what stands before it, less a carriage return
pub line_before : (xs : List ℕ) (n : ℕ) → position (λ c. eqb c 10) xs ≡ Some n
    → IsFirstLine xs (strip_carriage_return (take n xs)) (take (length xs - (n + 1)) (drop (n + 1) xs))
line_before xs n e =
    let f = found xs n e in
    let lt : n < length xs = f.0 in
    rw (take_rest xs (n + 1)) (record { lines_are = at_newline xs n lt f.1; shorter = omega (arith, length-drop (n + 1) xs) })

one_part : (xs : List ℕ) → 0 < length xs → lines_of_parts (xs ∷ []) ≡ xs ∷ []
one_part xs some =
    let test : eqb (length xs) 0 ≡ false = ne_eqb (length xs) 0 (λ e. omega (arith, e)) in
    rw test refl

-- without a newline all is one line
pub whole_line : (xs : List ℕ) → 0 < length xs → position (λ c. eqb c 10) xs ≡ None → IsFirstLine xs xs (take (length xs - length xs) (drop (length xs) xs))
whole_line xs some e =
    let none = missed xs e in
    let fails = All-from_get_or (λ c. eqb c 10 ≡ false) xs 0 (λ i lt. fails_before_first (λ c. eqb c 10) xs i 0 (omega (arith, none))) in
    let nothing : take (length xs - length xs) (drop (length xs) xs) ≡ [] = take_rest xs (length xs) ∙ drop-length xs in
    let is : lines xs ≡ xs ∷ lines [] = ap lines_of_parts (slice_split_none (λ c. eqb c 10) xs fails) ∙ one_part xs some in
    rw nothing (record { lines_are = is; shorter = some })
