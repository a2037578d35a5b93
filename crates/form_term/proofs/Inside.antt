-- Functions compare by their arguments: the end of the arguments is lower than whatever goes on.
use Rattle.std.proofs.Common.{◌≡◌, ℕ, suc, ◌-◌, ◌<◌, true, List, [], ◌∷◌, ◌++◌, refl, sym, ap, ◌∙◌, subst, arith, append_assoc, append-nil}
use Rattle.std.specs.Ordering.{nat_cmp, ordering_then}
use Rattle.std.specs.Cmp.Lexicographic.{slice_cmp}
use Rattle.std.specs.declared.cmp.Ordering.{Ordering}
use Rattle.std.specs.declared.cmp.Ordering.TheVariants.{Less, Equal, Greater}
use Rattle.form_term.specs.declared.piece.Piece.{Piece}
use Rattle.form_term.specs.declared.piece.Piece.TheVariants as pieces
use Rattle.form_term.specs.Pieces.{piece_order}
use Rattle.form_term.specs.Term.{Call, IsCall, call_order, pieces_of_call}
use Rattle.form_term.specs.TermLaws.{pieces_equal}
use Rattle.form_term.specs.Arguments.{level_behind}
use Rattle.form_term.proofs.Balanced.{is_alone, IsKept, in_call}
use Rattle.form_term.proofs.ReadBack.{level_same}
use Rattle.form_term.proofs.Ranks.{then_assoc}

-- no arguments end here that did not begin here
abbrev Ends : ℕ → Piece → Type 0
Ends level pieces.EndOfArguments = 0 < level
Ends level p = Unit {0}

-- pieces inside so many sums and functions, which end with these pieces
abbrev IsInside : ℕ → List Piece → Type 0
IsInside level [] = level ≡ 0
IsInside level (p ∷ ps) = Ends level p × IsInside (level_behind level p) ps

-- what ends all that it begins can be put before what is inside
abbrev GoesBefore : List Piece → Type 0
GoesBefore xs = (level : ℕ) (rest : List Piece) → IsInside level rest → IsInside level (xs ++ rest)

alone_ends : (level : ℕ) (p : Piece) → is_alone p ≡ true → Ends level p
alone_ends level pieces.EndOfArguments e = cc
alone_ends level p e = tt

goes_before : IsKept GoesBefore
goes_before = record {
  none = λ level rest h. h;
  both = λ xs ys p q level rest h. subst (IsInside level) (sym (append_assoc xs ys rest)) (p level (ys ++ rest) (q level rest h));
  alone = λ p e level rest h. (alone_ends level p e, subst (λ n. IsInside n rest) (sym (level_same level p e)) h);
  sum = λ xs p level rest h. (tt, between level pieces.EndOfSum xs rest p tt (down level) h);
  function = λ f xs p level rest h. (tt, between level pieces.EndOfArguments xs rest p (some level) (down level) h);
  non_commuting = λ f xs p level rest h. (tt, between level pieces.EndOfArguments xs rest p (some level) (down level) h);
}
  where
    down : (level : ℕ) → suc level - 1 ≡ level
    down level = omega arith

    some : (level : ℕ) → 0 < suc level
    some level = omega arith

    between : (level : ℕ) (last : Piece) (xs rest : List Piece) → GoesBefore xs → Ends (suc level) last → level_behind (suc level) last ≡ level → IsInside level rest → IsInside (suc level) ((xs ++ last ∷ []) ++ rest)
    between level last xs rest p ends back h = subst (IsInside (suc level)) (sym (append_assoc xs (last ∷ []) rest)) (p (suc level) (last ∷ rest) (ends, subst (λ n. IsInside n rest) (sym back) h))

-- a function's arguments
inside : (c : Call) → IsCall c → IsInside 0 c.pieces
inside c h = subst (IsInside 0) (append-nil c.pieces) (in_call GoesBefore goes_before c h 0 [] refl)

-- the end of a function's arguments against a piece of others
end_first : (p : Piece) → Ends 0 p → piece_order pieces.EndOfArguments p ≡ Less
end_first pieces.EndOfArguments h = absurd (omega (arith, h))
end_first p h = refl

end_last : (p : Piece) → Ends 0 p → piece_order p pieces.EndOfArguments ≡ Greater
end_last pieces.EndOfArguments h = absurd (omega (arith, h))
end_last p h = refl

module _ (r s : List Piece) where
  abbrev ended : List Piece → List Piece → List Piece
  ended xs rest = xs ++ pieces.EndOfArguments ∷ rest

  arguments_compared : (level : ℕ) (xs ys : List Piece) → IsInside level xs → IsInside level ys → slice_cmp piece_order (ended xs r) (ended ys s) ≡ ordering_then (slice_cmp piece_order xs ys) (slice_cmp piece_order r s)
  arguments_compared level [] [] h k = refl
  arguments_compared level [] (y ∷ ys) h k = ap (λ o. ordering_then o (slice_cmp piece_order r (ended ys s))) (end_first y (subst (λ n. Ends n y) h k.0))
  arguments_compared level (x ∷ xs) [] h k = ap (λ o. ordering_then o (slice_cmp piece_order (ended xs r) s)) (end_last x (subst (λ n. Ends n x) k h.0))
  arguments_compared level (x ∷ xs) (y ∷ ys) h k =
      by (piece_order x y) refl (λ same. arguments_compared (level_behind level x) xs ys h.1 (subst (λ (p : Piece). IsInside (level_behind level p) ys) same k.1))
    where
      by : (o : Ordering) → piece_order x y ≡ o → (y ≡ x → slice_cmp piece_order (ended xs r) (ended ys s) ≡ ordering_then (slice_cmp piece_order xs ys) (slice_cmp piece_order r s)) → ordering_then (piece_order x y) (slice_cmp piece_order (ended xs r) (ended ys s)) ≡ ordering_then (ordering_then (piece_order x y) (slice_cmp piece_order xs ys)) (slice_cmp piece_order r s)
      by Less e rest = ap (λ o. ordering_then o (slice_cmp piece_order (ended xs r) (ended ys s))) e ∙ sym (ap (λ o. ordering_then (ordering_then o (slice_cmp piece_order xs ys)) (slice_cmp piece_order r s)) e)
      by Greater e rest = ap (λ o. ordering_then o (slice_cmp piece_order (ended xs r) (ended ys s))) e ∙ sym (ap (λ o. ordering_then (ordering_then o (slice_cmp piece_order xs ys)) (slice_cmp piece_order r s)) e)
      by Equal e rest =
          ap (ordering_then (piece_order x y)) (rest (sym (pieces_equal x y e)))
          ∙ sym (then_assoc (piece_order x y) (slice_cmp piece_order xs ys) (slice_cmp piece_order r s))

  calls_compared : (begin : ℕ → Piece) → ((f g : ℕ) → piece_order (begin f) (begin g) ≡ nat_cmp f g) → (c d : Call) → IsCall c → IsCall d
      → slice_cmp piece_order (pieces_of_call begin c ++ r) (pieces_of_call begin d ++ s) ≡ ordering_then (call_order c d) (slice_cmp piece_order r s)
  calls_compared begin named c d h k =
      ap (λ o. ordering_then o (slice_cmp piece_order ((c.pieces ++ pieces.EndOfArguments ∷ []) ++ r) ((d.pieces ++ pieces.EndOfArguments ∷ []) ++ s))) (named c.function d.function)
      ∙ ap (λ xs. ordering_then (nat_cmp c.function d.function) (slice_cmp piece_order xs ((d.pieces ++ pieces.EndOfArguments ∷ []) ++ s))) (append_assoc c.pieces (pieces.EndOfArguments ∷ []) r)
      ∙ ap (λ ys. ordering_then (nat_cmp c.function d.function) (slice_cmp piece_order (ended c.pieces r) ys)) (append_assoc d.pieces (pieces.EndOfArguments ∷ []) s)
      ∙ ap (ordering_then (nat_cmp c.function d.function)) (arguments_compared 0 c.pieces d.pieces (inside c h) (inside d k))
      ∙ sym (then_assoc (nat_cmp c.function d.function) (slice_cmp piece_order c.pieces d.pieces) (slice_cmp piece_order r s))

pub functions_compared : (c d : Call) → IsCall c → IsCall d → (r s : List Piece) → slice_cmp piece_order (pieces_of_call pieces.Function c ++ r) (pieces_of_call pieces.Function d ++ s) ≡ ordering_then (call_order c d) (slice_cmp piece_order r s)
functions_compared c d h k r s = calls_compared r s pieces.Function (λ f g. refl) c d h k

pub letters_compared : (c d : Call) → IsCall c → IsCall d → (r s : List Piece) → slice_cmp piece_order (pieces_of_call pieces.NonCommuting c ++ r) (pieces_of_call pieces.NonCommuting d ++ s) ≡ ordering_then (call_order c d) (slice_cmp piece_order r s)
letters_compared c d h k r s = calls_compared r s pieces.NonCommuting (λ f g. refl) c d h k
