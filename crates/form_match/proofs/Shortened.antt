-- A list out of which one after another is taken at a place.
use Rattle.std.proofs.Common.{◌≡◌, ℕ, ◌+◌, ◌<◌, ◌≤◌, List, ◌++◌, length, take, drop, sym, ap, subst, ◌∙◌, arith, length-take}
use Rattle.std.proofs.lemmas.List.{drop_all, drop-drop, length-append, length-drop, length-take-le, take-append-drop}
use Rattle.std.proofs.Math.Seq.{take-append_seam, drop-append_seam}

module _ {A : Type 0} (w : List A) (start : ℕ) where
  pub none_gone : w ≡ take start w ++ drop (start + 0) w
  none_gone =
      let same : start ≡ start + 0 = omega arith in
      sym (take-append-drop start w) ∙ ap (λ (k : ℕ). take start w ++ drop k w) same

  module _ (gone : ℕ) (left : List A) (is : left ≡ take start w ++ drop (start + gone) w) where
    parts : length left ≡ length (take start w) + length (drop (start + gone) w)
    parts = ap length is ∙ length-append (take start w) (drop (start + gone) w)

    -- where nothing is left at the place, nothing is left behind it
    pub all_gone : length left ≤ start → (count : ℕ) → gone ≤ count → left ≡ take start w ++ drop (start + count) w
    all_gone short count more =
        let past : length w ≤ start + gone = omega (arith, parts, length-drop (start + gone) w, length-take start w, short) in
        let later : length w ≤ start + count = omega (arith, past, more) in
        is ∙ ap (λ (l : List A). take start w ++ l) (drop_all (start + gone) w past ∙ sym (drop_all (start + count) w later))

    -- one more
    pub one_gone : start < length left → (new : List A) → new ≡ take start left ++ drop (start + 1) left → new ≡ take start w ++ drop (start + (gone + 1)) w
    one_gone there new made =
        let within : start ≤ length w = omega (arith, parts, length-drop (start + gone) w, length-take start w, there) in
        let before : length (take start w) ≡ start = length-take-le start w within in
        let front : take start left ≡ take start w =
        ap (take start) is ∙ subst (λ (n : ℕ). take n (take start w ++ drop (start + gone) w) ≡ take start w) before (take-append_seam (take start w) (drop (start + gone) w)) in
        let behind : drop start left ≡ drop (start + gone) w =
        ap (drop start) is ∙ subst (λ (n : ℕ). drop n (take start w ++ drop (start + gone) w) ≡ drop (start + gone) w) before (drop-append_seam (take start w) (drop (start + gone) w)) in
        let further : start + gone + 1 ≡ start + (gone + 1) = omega arith in
        made
        ∙ ap (λ (l : List A). l ++ drop (start + 1) left) front
        ∙ ap (λ (l : List A). take start w ++ l)
        (sym (drop-drop 1 start left) ∙ ap (drop 1) behind ∙ drop-drop 1 (start + gone) w ∙ ap (λ (k : ℕ). drop k w) further)
