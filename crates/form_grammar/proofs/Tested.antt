-- What reading patterns and their right sides answers.
use Rattle.std.proofs.Common.{◌≡◌, ◌≤◌, ◌⊎◌, inl, inr, ℕ, List, [], Bool, true, false, cond, Option, Some, None, option_and_then, Result, Ok, Err, refl, sym, ap, ◌∙◌, arith}
use Rattle.std.specs.Prelude.{IfOk, IfErr, ◌↔◌, is_some}
use Rattle.std.specs.List.{list_all}
use Rattle.std.proofs.lemmas.List.{append-nil}
use Rattle.std.proofs.lemmas.Option.{same_Some, none-some}
use Rattle.std.proofs.lemmas.List.Sums.{AllPass-from_list_all, list_all-from_AllPass}
use Rattle.form_ast.specs.declared.expr.Piece.{Piece}
use Rattle.form_ast.specs.declared.setting.Setting.TheVariants.{Right, Pattern}
use Rattle.form_ast.specs.Patterns.{is_known_piece}
use Rattle.form_ast.specs.Syntax.{pieces_of_sum}
use Rattle.form_grammar.specs.declared.error.ReadError.{ReadError}
use Rattle.form_grammar.specs.declared.error.ReadError.TheVariants.{BadSyntax, Memory}
use Rattle.form_grammar.specs.declared.terminal.Terminal.{Terminal}
use Rattle.form_grammar.specs.Depth.{opened_by}
use Rattle.form_grammar.specs.Grammar.{IsPatternText, IsPatternTextWithin, IsRightText}
use Rattle.form_grammar.specs.Reading.{Gives, Excludes, begun, run}
use Rattle.form_grammar.specs.Shape as shape
use Rattle.form_grammar.specs.Texts.{where_so, run_right, run_pattern, fit_within, run_pattern_within}
use Rattle.form_ast.proofs.Lower.{lower_sum}
use Rattle.form_grammar.proofs.Deep.{passes_sum, fits_sum}
use Rattle.form_grammar.proofs.Read.{read_text}
use Rattle.form_grammar.proofs.Shaped.{judged_right}
use Rattle.form_grammar.proofs.Sound.{sound}

-- what was read, and passed the test
passed : (test : List Piece → Bool) (o : Option (List Piece)) (pieces : List Piece) → option_and_then (where_so test) o ≡ Some pieces → (o ≡ Some pieces) × (test pieces ≡ true)
passed test None pieces e = absurd cc
passed test (Some ps) pieces e = by_test (test ps) refl e where
  by_test : (b : Bool) → test ps ≡ b → cond b (Some ps) None ≡ Some pieces → (Some ps ≡ Some pieces) × (test pieces ≡ true)
  by_test true t f = (f, ap test (sym (same_Some ps pieces f)) ∙ t)
  by_test false t f = absurd cc

-- what passes the test is read
passes : (test : List Piece → Bool) (o : Option (List Piece)) (pieces : List Piece) → o ≡ Some pieces → test pieces ≡ true → option_and_then (where_so test) o ≡ Some pieces
passes test o pieces e t = ap (option_and_then (where_so test)) e ∙ ap (λ (b : Bool). cond b (Some pieces) None) t

-- ---- patterns

pattern_sound : (terminals : List Terminal) (pieces : List Piece) → run_pattern terminals ≡ Some pieces → IsPatternText terminals pieces
pattern_sound terminals pieces e =
    let p = passed (shape.judged shape.begun) (run Pattern begun terminals) pieces e in
    let h = sound Pattern terminals pieces p.0 in
    record { tree = h.tree; lawful = h.lawful; pattern = sym (judged_right h.tree) ∙ ap (shape.judged shape.begun) (sym h.kept) ∙ p.1; written = h.written; kept = h.kept }

pattern_complete : (terminals : List Terminal) (pieces : List Piece) → IsPatternText terminals pieces → run_pattern terminals ≡ Some pieces
pattern_complete terminals pieces h =
    passes (shape.judged shape.begun) (run Pattern begun terminals) pieces
    (read_text Pattern terminals pieces (record { tree = h.tree; lawful = h.lawful; written = h.written; kept = h.kept }))
    (ap (shape.judged shape.begun) h.kept ∙ judged_right h.tree ∙ h.pattern)

pub pattern_found : (r : Result (List Piece) ReadError) (terminals : List Terminal) → Gives (λ pieces. pieces) r (run_pattern terminals) → IfOk r (λ pieces. IsPatternText terminals pieces)
pattern_found (Ok pieces) terminals e = pattern_sound terminals pieces e
pattern_found (Err error) terminals e = tt

pub pattern_none : (r : Result (List Piece) ReadError) (terminals : List Terminal) → Gives (λ pieces. pieces) r (run_pattern terminals) → IfErr r (λ error. Excludes error (IsPatternText terminals))
pattern_none (Ok pieces) terminals e = tt
pattern_none (Err Memory) terminals e = tt
pattern_none (Err BadSyntax) terminals e = λ pieces h. none-some pieces (sym e ∙ pattern_complete terminals pieces h)

-- terminals are one pattern at most
pub one_pattern : (terminals : List Terminal) (pieces others : List Piece) → IsPatternText terminals pieces → IsPatternText terminals others → pieces ≡ others
one_pattern terminals pieces others h k = same_Some pieces others (sym (pattern_complete terminals pieces h) ∙ pattern_complete terminals others k)

-- terminals are a pattern or none
pub pattern_or_none : (terminals : List Terminal) → ((pieces : List Piece) × IsPatternText terminals pieces) ⊎ ((pieces : List Piece) → IsPatternText terminals pieces → ⊥)
pattern_or_none terminals = by_run (run_pattern terminals) refl where
  by_run : (o : Option (List Piece)) → run_pattern terminals ≡ o → ((pieces : List Piece) × IsPatternText terminals pieces) ⊎ ((pieces : List Piece) → IsPatternText terminals pieces → ⊥)
  by_run (Some pieces) e = inl (pieces, pattern_sound terminals pieces e)
  by_run None e = inr (λ pieces h. none-some pieces (sym e ∙ pattern_complete terminals pieces h))

-- ---- patterns where parentheses are open

is_there : {X : Type 0} (o : Option X) → is_some o ≡ true → (x : X) × (o ≡ Some x)
is_there None e = absurd cc
is_there (Some x) e = (x, refl)

within_sound : (opened : ℕ) (terminals : List Terminal) (pieces : List Piece) → run_pattern_within opened terminals ≡ Some pieces → IsPatternTextWithin opened terminals pieces
unfolding run_pattern_within
within_sound opened terminals pieces e =
    let p = passed (fit_within opened) (run_pattern terminals) pieces e in
    let h = pattern_sound terminals pieces p.0 in
    let there = is_there (opened_by opened pieces) p.1 in
    let all = fits_sum h.tree Pattern 0 opened there.0 [] h.lawful (ap (opened_by opened) (append-nil (pieces_of_sum h.tree) ∙ sym h.kept) ∙ there.1) in
    record { tree = h.tree; lawful = all.0; pattern = h.pattern; written = h.written; kept = h.kept }

open_at_end : (opened : ℕ) → opened_by opened [] ≡ Some opened
unfolding opened_by
open_at_end opened = refl

within_complete : (opened : ℕ) (terminals : List Terminal) (pieces : List Piece) → IsPatternTextWithin opened terminals pieces → run_pattern_within opened terminals ≡ Some pieces
unfolding run_pattern_within
within_complete opened terminals pieces h =
    let lowest : 0 ≤ opened = omega arith in
    passes (fit_within opened) (run_pattern terminals) pieces
    (pattern_complete terminals pieces (record { tree = h.tree; lawful = lower_sum h.tree Pattern 0 opened lowest h.lawful; pattern = h.pattern; written = h.written; kept = h.kept }))
    (ap (λ (o : Option ℕ). is_some o) (ap (opened_by opened) (h.kept ∙ sym (append-nil (pieces_of_sum h.tree))) ∙ passes_sum h.tree Pattern opened h.lawful [] ∙ open_at_end opened))

pub within_found : (opened : ℕ) (r : Result (List Piece) ReadError) (terminals : List Terminal) → Gives (λ pieces. pieces) r (run_pattern_within opened terminals) → IfOk r (λ pieces. IsPatternTextWithin opened terminals pieces)
within_found opened (Ok pieces) terminals e = within_sound opened terminals pieces e
within_found opened (Err error) terminals e = tt

pub within_none : (opened : ℕ) (r : Result (List Piece) ReadError) (terminals : List Terminal) → Gives (λ pieces. pieces) r (run_pattern_within opened terminals) → IfErr r (λ error. Excludes error (IsPatternTextWithin opened terminals))
within_none opened (Ok pieces) terminals e = tt
within_none opened (Err Memory) terminals e = tt
within_none opened (Err BadSyntax) terminals e = λ pieces h. none-some pieces (sym e ∙ within_complete opened terminals pieces h)

-- such a pattern is what is read
pub within_exactly : (opened : ℕ) (terminals : List Terminal) (pieces : List Piece) → IsPatternTextWithin opened terminals pieces ↔ (run_pattern_within opened terminals ≡ Some pieces)
within_exactly opened terminals pieces = (within_complete opened terminals pieces, within_sound opened terminals pieces)

-- ---- right sides

right_sound : (pattern : List Piece) (terminals : List Terminal) (pieces : List Piece) → run_right pattern terminals ≡ Some pieces → IsRightText pattern terminals pieces
right_sound pattern terminals pieces e =
    let p = passed (list_all (is_known_piece pattern)) (run Right begun terminals) pieces e in
    let h = sound Right terminals pieces p.0 in
    record { tree = h.tree; lawful = h.lawful; known = AllPass-from_list_all (is_known_piece pattern) pieces p.1; written = h.written; kept = h.kept }

right_complete : (pattern : List Piece) (terminals : List Terminal) (pieces : List Piece) → IsRightText pattern terminals pieces → run_right pattern terminals ≡ Some pieces
right_complete pattern terminals pieces h =
    passes (list_all (is_known_piece pattern)) (run Right begun terminals) pieces
    (read_text Right terminals pieces (record { tree = h.tree; lawful = h.lawful; written = h.written; kept = h.kept }))
    (list_all-from_AllPass (is_known_piece pattern) pieces h.known)

pub right_found : (pattern : List Piece) (r : Result (List Piece) ReadError) (terminals : List Terminal) → Gives (λ pieces. pieces) r (run_right pattern terminals) → IfOk r (λ pieces. IsRightText pattern terminals pieces)
right_found pattern (Ok pieces) terminals e = right_sound pattern terminals pieces e
right_found pattern (Err error) terminals e = tt

pub right_none : (pattern : List Piece) (r : Result (List Piece) ReadError) (terminals : List Terminal) → Gives (λ pieces. pieces) r (run_right pattern terminals) → IfErr r (λ error. Excludes error (IsRightText pattern terminals))
right_none pattern (Ok pieces) terminals e = tt
right_none pattern (Err Memory) terminals e = tt
right_none pattern (Err BadSyntax) terminals e = λ pieces h. none-some pieces (sym e ∙ right_complete pattern terminals pieces h)

-- terminals are one right side at most, with this pattern
pub one_right : (pattern : List Piece) (terminals : List Terminal) (pieces others : List Piece) → IsRightText pattern terminals pieces → IsRightText pattern terminals others → pieces ≡ others
one_right pattern terminals pieces others h k = same_Some pieces others (sym (right_complete pattern terminals pieces h) ∙ right_complete pattern terminals others k)

-- terminals are a right side or none, with this pattern
pub right_or_none : (pattern : List Piece) (terminals : List Terminal) → ((pieces : List Piece) × IsRightText pattern terminals pieces) ⊎ ((pieces : List Piece) → IsRightText pattern terminals pieces → ⊥)
right_or_none pattern terminals = by_run (run_right pattern terminals) refl where
  by_run : (o : Option (List Piece)) → run_right pattern terminals ≡ o → ((pieces : List Piece) × IsRightText pattern terminals pieces) ⊎ ((pieces : List Piece) → IsRightText pattern terminals pieces → ⊥)
  by_run (Some pieces) e = inl (pieces, right_sound pattern terminals pieces e)
  by_run None e = inr (λ pieces h. none-some pieces (sym e ∙ right_complete pattern terminals pieces h))
