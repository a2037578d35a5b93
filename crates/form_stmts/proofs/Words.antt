-- A word isn't there where the text is at its end.
use Rattle.std.proofs.Common.{◌≡◌, ℕ, ◌<◌, ◌+◌, List, ◌∷◌, length, drop, get_or, None, ap, ◌∙◌, arith}
use Rattle.std.proofs.lemmas.List.{drop_more, nil_from_length}
use Rattle.form_stmts.specs.Instruction.{after_word}

pub stops : (word text : List ℕ) (i : ℕ) → i < length word → length text < 1 → after_word (drop i word) text ≡ None
stops word text i h k = ap (λ (letters : List ℕ). after_word letters text) (drop_more word i 0 h) ∙ ap (after_word (get_or word i 0 ∷ drop (i + 1) word)) (nil_from_length text (omega arith))
