-- A word whose names tell that it isn't that of the pattern leads nowhere.
use Rattle.std.proofs.Common.{◌≡◌, ℕ, ◌==◌, Bool, true, false, ◌&&◌, ◌⊎◌, inl, inr, if◌then◌else◌, List, [], ◌∷◌, Option, Some, None, option_map, option_to_list, refl, ap, ◌∙◌, append-nil}
use Rattle.std.specs.Prelude.{ℤ, flat_map}
use Rattle.form_term.specs.declared.piece.Piece.{Piece}
use Rattle.form_term.specs.Term as terms
use Rattle.form_term.specs.Term.{Call}
use Rattle.form_term.specs.Arguments.{arguments_of}
use Rattle.form_tree.specs.declared.pattern.Name.{Name}
use Rattle.form_tree.specs.declared.pattern.Name.TheVariants.{Itself, Wild}
use Rattle.form_tree.specs.declared.pattern.PatternPiece.{PatternPiece}
use Rattle.form_tree.specs.declared.pattern.PatternPiece.TheVariants as pieces
use Rattle.form_match.specs.Factors.{first_call, may_be, may_begin}
use Rattle.form_match.specs.Learning.{learnt}
use Rattle.form_match.specs.Matching.{asked, asked_function, no_value}
use Rattle.form_match.specs.States.{Open, arguments, calls, asking_too, behind_arguments, reach, state}
use Rattle.form_bindings.specs.Values.{Binding, function_value}
use Rattle.form_match.proofs.Reaching.{reach_first}

pub and_false : (a b : Bool) → (a && b) ≡ false → (a ≡ false) ⊎ (b ≡ false)
and_false true b e = inr e
and_false false b e = inl refl

abbrev nothing_asked : Option (List Binding)
nothing_asked = None

-- a name that this can't be asks for nothing
pub unlike : (of_name : ℕ → List Piece) (of_number : ℤ → List (List Piece)) (n : Name) (this : ℕ) (value : List Piece) → may_be n this ≡ false
    → asked of_name of_number n (λ m. m == this) value ≡ None
unlike of_name of_number (Itself n) this value e = ap (λ (b : Bool). if b then Some [] else nothing_asked) e
unlike of_name of_number (Wild w sets) this value e = cc

-- pieces that begin with no function are begun by any word
pub no_call_begins : (ws : List Call) (ps : List PatternPiece) → first_call ps ≡ None → may_begin ws ps ≡ true
no_call_begins [] [] e = refl
no_call_begins (w ∷ ws) [] e = refl
no_call_begins [] (pieces.Call n ∷ ps) e = cc
no_call_begins (w ∷ ws) (pieces.Call n ∷ ps) e = cc
no_call_begins [] (p ∷ ps) e = refl
no_call_begins (w ∷ ws) (p ∷ ps) e = refl

module _ (table : List (Option (List Piece))) where
  -- a function without arguments, and a word that can't begin so behind it
  without_arguments : (c : Call) (cs : List Call) (os : List Open) (bs : List Binding) (later : List PatternPiece)
      → ((made : List Binding) → reach table later (state (calls cs ∷ os) made) ≡ []) → (o : Option (List Binding))
      → flat_map (reach table (pieces.EndOfArguments ∷ later)) (option_to_list (asking_too (arguments (arguments_of c.pieces) ∷ calls (c ∷ cs) ∷ os) bs o)) ≡ []
  without_arguments c cs os bs later nowhere None = refl
  without_arguments c cs os bs later nowhere (Some asks) = by (learnt bs asks)
    where
      ended : (xs : List terms.Argument) (made : List Binding) → flat_map (reach table later) (behind_arguments xs (calls (c ∷ cs) ∷ os) made) ≡ []
      ended [] made = append-nil (reach table later (state (calls cs ∷ os) made)) ∙ nowhere made
      ended (x ∷ xs) made = refl

      by : (o : Option (List Binding)) → flat_map (reach table (pieces.EndOfArguments ∷ later)) (option_to_list (option_map (state (arguments (arguments_of c.pieces) ∷ calls (c ∷ cs) ∷ os)) o)) ≡ []
      by None = refl
      by (Some made) =
          append-nil (reach table (pieces.EndOfArguments ∷ later) (state (arguments (arguments_of c.pieces) ∷ calls (c ∷ cs) ∷ os) made))
          ∙ reach_first table pieces.EndOfArguments later (state (arguments (arguments_of c.pieces) ∷ calls (c ∷ cs) ∷ os) made)
          ∙ ended (arguments_of c.pieces) made

  -- a function of another name
  other_name : (n : Name) (c : Call) (cs : List Call) (os : List Open) (bs : List Binding) (ps : List PatternPiece) → may_be n c.function ≡ false
      → reach table (pieces.Call n ∷ ps) (state (calls (c ∷ cs) ∷ os) bs) ≡ []
  other_name n c cs os bs ps e =
      reach_first table (pieces.Call n) ps (state (calls (c ∷ cs) ∷ os) bs)
      ∙ ap (λ (o : Option (List Binding)). flat_map (reach table ps) (option_to_list (asking_too (arguments (arguments_of c.pieces) ∷ calls (c ∷ cs) ∷ os) bs o))) (unlike (λ f. function_value f) no_value n c.function (function_value c.function) e)

  pub unlike_word : (ws : List Call) (ps : List PatternPiece) (os : List Open) (bs : List Binding) → may_begin ws ps ≡ false → reach table ps (state (calls ws ∷ os) bs) ≡ []
  unlike_word [] (pieces.Call n ∷ ps) os bs e = reach_first table (pieces.Call n) ps (state (calls [] ∷ os) bs)
  unlike_word [] ps os bs e = cc
  unlike_word (c ∷ cs) (pieces.Call n ∷ pieces.EndOfArguments ∷ ps) os bs e = by (and_false (may_be n c.function) (may_begin cs ps) e) (λ f made. unlike_word cs ps os made f)
    where
      by : (may_be n c.function ≡ false) ⊎ (may_begin cs ps ≡ false) → (may_begin cs ps ≡ false → (made : List Binding) → reach table ps (state (calls cs ∷ os) made) ≡ [])
          → reach table (pieces.Call n ∷ pieces.EndOfArguments ∷ ps) (state (calls (c ∷ cs) ∷ os) bs) ≡ []
      by (inl other) later = other_name n c cs os bs (pieces.EndOfArguments ∷ ps) other
      by (inr behind) later =
          reach_first table (pieces.Call n) (pieces.EndOfArguments ∷ ps) (state (calls (c ∷ cs) ∷ os) bs)
          ∙ without_arguments c cs os bs ps (later behind) (asked_function n c.function)
  unlike_word (c ∷ cs) (pieces.Call n ∷ ps) os bs e = other_name n c cs os bs ps e
  unlike_word (c ∷ cs) ps os bs e = cc
