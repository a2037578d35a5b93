-- Names that can't stand in the parentheses of a vector, and the commas there.
use Rattle.std.proofs.Common.{◌≡◌, ℕ, suc, List, [], ◌∷◌, ◌++◌, refl, sym, ap, ◌∙◌, append_assoc, add-one, false}
use Rattle.form_names.specs.Names.{Entry}
use Rattle.form_ast.specs.declared.expr.Link.{Link}
use Rattle.form_ast.specs.declared.expr.Link.TheVariants as links
use Rattle.form_ast.specs.declared.expr.Sign.{Sign}
use Rattle.form_ast.specs.declared.expr.Power.{Power}
use Rattle.form_ast.specs.declared.expr.Piece.{Piece}
use Rattle.form_ast.specs.declared.expr.Piece.TheVariants as written
use Rattle.form_ast.specs.Syntax as syntax
use Rattle.form_ast.specs.Syntax.{Label, named, wildcard, name_entry, number_entry, Sum, first, more, Product, one, times, over, Factor, factor, raised, Base, number, name, dot, delta, empty_call, call, parenthesis, Arguments, argument, further, Argument, expression, field, link_of, first_link, name_of, mark_of, pieces_of_entry, piece_of_power, pieces_of_sum, pieces_of_product, pieces_of_factor, pieces_of_base, pieces_of_arguments, pieces_of_argument}
use Rattle.form_right_side.specs.Refusal.{Refusal}
use Rattle.form_right_side.specs.RightSide.{first_misplaced}
use Rattle.form_right_side.specs.Walking.{is_single, misplaced_to_end}
use Rattle.std.specs.Prelude.{Option, Some, None}
use Rattle.form_right_side.proofs.Binding.{minus-one, not-zero}

-- ---- commas

ends-one : (k : ℕ) (rest : List Piece) → is_single (suc k) (written.EndOfCall ∷ rest) ≡ is_single k rest
unfolding is_single
ends-one k rest = rw (not-zero k, minus-one k) refl

passes-power : (p : Power) (k : ℕ) (rest : List Piece) → is_single k (piece_of_power p ∷ rest) ≡ is_single k rest
unfolding is_single
passes-power p k rest = refl

passes-mark : (n : Label) (k : ℕ) (rest : List Piece) → is_single k (mark_of n ++ rest) ≡ is_single k rest
unfolding is_single
passes-mark (named n) k rest = refl
passes-mark (wildcard n r) k rest = refl

passes-entry : (e : syntax.Entry) (k : ℕ) (rest : List Piece) → is_single k (pieces_of_entry e ++ rest) ≡ is_single k rest
unfolding is_single
passes-entry (name_entry (named n)) k rest = refl
passes-entry (name_entry (wildcard n r)) k rest = refl
passes-entry (number_entry n) k rest = refl

passes-comma : (k : ℕ) (rest : List Piece) → is_single (suc k) (written.Comma ∷ rest) ≡ is_single (suc k) rest
unfolding is_single
passes-comma k rest = rw (not-zero k) refl

mutual
  unfolding is_single

  pub single-sum : (s : Sum) (k : ℕ) (rest : List Piece) → is_single k (pieces_of_sum s ++ rest) ≡ is_single k rest
  single-sum (first sign p) k rest = single-product (first_link sign) p k rest
  single-sum (more s sign p) k rest =
      ap (is_single k) (append_assoc (pieces_of_sum s) (pieces_of_product (link_of sign) p) rest)
      ∙ single-sum s k (pieces_of_product (link_of sign) p ++ rest) ∙ single-product (link_of sign) p k rest

  single-product : (link : Link) (p : Product) (k : ℕ) (rest : List Piece) → is_single k (pieces_of_product link p ++ rest) ≡ is_single k rest
  single-product link (one f) k rest = single-factor link f k rest
  single-product link (times p f) k rest =
      ap (is_single k) (append_assoc (pieces_of_product link p) (pieces_of_factor links.Times f) rest)
      ∙ single-product link p k (pieces_of_factor links.Times f ++ rest) ∙ single-factor links.Times f k rest
  single-product link (over p f) k rest =
      ap (is_single k) (append_assoc (pieces_of_product link p) (pieces_of_factor links.Over f) rest)
      ∙ single-product link p k (pieces_of_factor links.Over f ++ rest) ∙ single-factor links.Over f k rest

  single-factor : (link : Link) (f : Factor) (k : ℕ) (rest : List Piece) → is_single k (pieces_of_factor link f ++ rest) ≡ is_single k rest
  single-factor link (factor b None) k rest = single-base link b k rest
  single-factor link (factor b (Some p)) k rest =
      ap (is_single k) (append_assoc (pieces_of_base link b) (piece_of_power p ∷ []) rest)
      ∙ single-base link b k (piece_of_power p ∷ rest) ∙ passes-power p k rest
  single-factor link (raised b sign n) k rest =
      ap (is_single k) (append_assoc (pieces_of_base link b) (written.RaisedByName sign (name_of n) ∷ mark_of n) rest)
      ∙ single-base link b k (written.RaisedByName sign (name_of n) ∷ mark_of n ++ rest) ∙ passes-mark n k rest

  single-base : (link : Link) (b : Base) (k : ℕ) (rest : List Piece) → is_single k (pieces_of_base link b ++ rest) ≡ is_single k rest
  single-base link (number n) k rest = refl
  single-base link (name n) k rest = passes-mark n k rest
  single-base link (dot p q) k rest =
      ap (is_single k) (append_assoc (mark_of p) (written.EndOfDot (name_of q) ∷ mark_of q) rest)
      ∙ passes-mark p k (written.EndOfDot (name_of q) ∷ mark_of q ++ rest) ∙ passes-mark q k rest
  single-base link (delta spot a c) k rest =
      ap (is_single k) (append_assoc (pieces_of_entry a ++ pieces_of_entry c) (written.EndOfDelta ∷ []) rest ∙ append_assoc (pieces_of_entry a) (pieces_of_entry c) (written.EndOfDelta ∷ rest))
      ∙ passes-entry a k (pieces_of_entry c ++ written.EndOfDelta ∷ rest)
      ∙ passes-entry c k (written.EndOfDelta ∷ rest)
  single-base link (empty_call n) k rest =
      ap (λ (m : ℕ). is_single m ((mark_of n ++ written.EndOfCall ∷ []) ++ rest)) (add-one k)
      ∙ ap (is_single (suc k)) (append_assoc (mark_of n) (written.EndOfCall ∷ []) rest)
      ∙ passes-mark n (suc k) (written.EndOfCall ∷ rest)
      ∙ ends-one k rest
  single-base link (call n args) k rest =
      ap (λ (m : ℕ). is_single m ((mark_of n ++ pieces_of_arguments args ++ written.EndOfCall ∷ []) ++ rest)) (add-one k)
      ∙ ap (is_single (suc k)) (append_assoc (mark_of n ++ pieces_of_arguments args) (written.EndOfCall ∷ []) rest ∙ append_assoc (mark_of n) (pieces_of_arguments args) (written.EndOfCall ∷ rest))
      ∙ passes-mark n (suc k) (pieces_of_arguments args ++ written.EndOfCall ∷ rest)
      ∙ single-arguments args k (written.EndOfCall ∷ rest)
      ∙ ends-one k rest
  single-base link (parenthesis s) k rest =
      ap (is_single k) (append_assoc (pieces_of_sum s) (written.Close ∷ []) rest)
      ∙ single-sum s k (written.Close ∷ rest)

  single-arguments : (args : Arguments) (k : ℕ) (rest : List Piece) → is_single (suc k) (pieces_of_arguments args ++ rest) ≡ is_single (suc k) rest
  single-arguments (argument a) k rest = single-argument a (suc k) rest
  single-arguments (further args a) k rest =
      ap (is_single (suc k)) (append_assoc (pieces_of_arguments args) (written.Comma ∷ pieces_of_argument a) rest)
      ∙ single-arguments args k (written.Comma ∷ pieces_of_argument a ++ rest)
      ∙ passes-comma k (pieces_of_argument a ++ rest)
      ∙ single-argument a (suc k) rest

  pub single-argument : (a : Argument) (k : ℕ) (rest : List Piece) → is_single k (pieces_of_argument a ++ rest) ≡ is_single k rest
  single-argument (expression s) k rest = single-sum s k rest
  single-argument (field n) k rest = refl

-- a comma parts arguments
pub parted : (args : Arguments) (a : Argument) (rest : List Piece) → is_single 0 (pieces_of_arguments (further args a) ++ rest) ≡ false
unfolding is_single
parted (argument b) a rest =
    ap (is_single 0) (append_assoc (pieces_of_argument b) (written.Comma ∷ pieces_of_argument a) rest)
    ∙ single-argument b 0 (written.Comma ∷ pieces_of_argument a ++ rest)
parted (further args b) a rest =
    ap (is_single 0) (append_assoc (pieces_of_arguments (further args b)) (written.Comma ∷ pieces_of_argument a) rest)
    ∙ parted args b (written.Comma ∷ pieces_of_argument a ++ rest)

-- ---- names

module _ (names : List Entry) where
  misplaced-append : (a b : List Piece) (none : Refusal) → first_misplaced names (a ++ b) none ≡ first_misplaced names a (first_misplaced names b none)
  unfolding first_misplaced
  misplaced-append [] b none = refl
  misplaced-append (written.Number link n ∷ a) b none = misplaced-append a b none
  misplaced-append (written.Name link n ∷ a) b none = refl
  misplaced-append (written.Dot link n ∷ a) b none = refl
  misplaced-append (written.EndOfDot n ∷ a) b none = misplaced-append a b none
  misplaced-append (written.Delta link spot ∷ a) b none = refl
  misplaced-append (written.EntryName n ∷ a) b none = misplaced-append a b none
  misplaced-append (written.EntryNumber n ∷ a) b none = misplaced-append a b none
  misplaced-append (written.EndOfDelta ∷ a) b none = misplaced-append a b none
  misplaced-append (written.Call link n ∷ a) b none = refl
  misplaced-append (written.Comma ∷ a) b none = misplaced-append a b none
  misplaced-append (written.EndOfCall ∷ a) b none = misplaced-append a b none
  misplaced-append (written.Open link ∷ a) b none = misplaced-append a b none
  misplaced-append (written.Close ∷ a) b none = misplaced-append a b none
  misplaced-append (written.Raised is_parenthesized sign n ∷ a) b none = misplaced-append a b none
  misplaced-append (written.RaisedByName sign n ∷ a) b none = misplaced-append a b none
  misplaced-append (written.Marked r ∷ a) b none = misplaced-append a b none
  misplaced-append (written.Field n ∷ a) b none = misplaced-append a b none

  abbrev Seen : List Piece → Type 0
  Seen text = (rest : List Piece) (none : Refusal) → misplaced_to_end names (text ++ rest) none ≡ first_misplaced names text (misplaced_to_end names rest none)

  seen-append : (a b : List Piece) → Seen a → Seen b → Seen (a ++ b)
  seen-append a b f g rest none =
      ap (λ (t : List Piece). misplaced_to_end names t none) (append_assoc a b rest) ∙ f (b ++ rest) none
      ∙ ap (first_misplaced names a) (g rest none)
      ∙ sym (misplaced-append a b (misplaced_to_end names rest none))

  seen-close : Seen (written.Close ∷ [])
  unfolding first_misplaced misplaced_to_end
  seen-close rest none = refl

  seen-power : (p : Power) → Seen (piece_of_power p ∷ [])
  unfolding first_misplaced misplaced_to_end
  seen-power p rest none = refl

  seen-name-power : (sign : Option Sign) (n : Label) → Seen (written.RaisedByName sign (name_of n) ∷ mark_of n)
  unfolding first_misplaced misplaced_to_end
  seen-name-power sign (named n) rest none = refl
  seen-name-power sign (wildcard n r) rest none = refl

  mutual
    unfolding first_misplaced misplaced_to_end

    pub seen-sum : (s : Sum) → Seen (pieces_of_sum s)
    seen-sum (first sign p) rest none = seen-product (first_link sign) p rest none
    seen-sum (more s sign p) rest none = seen-append (pieces_of_sum s) (pieces_of_product (link_of sign) p) (λ r n. seen-sum s r n) (λ r n. seen-product (link_of sign) p r n) rest none

    seen-product : (link : Link) (p : Product) → Seen (pieces_of_product link p)
    seen-product link (one f) rest none = seen-factor link f rest none
    seen-product link (times p f) rest none = seen-append (pieces_of_product link p) (pieces_of_factor links.Times f) (λ r n. seen-product link p r n) (λ r n. seen-factor links.Times f r n) rest none
    seen-product link (over p f) rest none = seen-append (pieces_of_product link p) (pieces_of_factor links.Over f) (λ r n. seen-product link p r n) (λ r n. seen-factor links.Over f r n) rest none

    seen-factor : (link : Link) (f : Factor) → Seen (pieces_of_factor link f)
    seen-factor link (factor b None) rest none = seen-base link b rest none
    seen-factor link (factor b (Some p)) rest none = seen-append (pieces_of_base link b) (piece_of_power p ∷ []) (λ r n. seen-base link b r n) (seen-power p) rest none
    seen-factor link (raised b sign m) rest none = seen-append (pieces_of_base link b) (written.RaisedByName sign (name_of m) ∷ mark_of m) (λ r n. seen-base link b r n) (seen-name-power sign m) rest none

    seen-base : (link : Link) (b : Base) → Seen (pieces_of_base link b)
    seen-base link (number n) rest none = refl
    seen-base link (name n) rest none = refl
    seen-base link (dot p q) rest none = refl
    seen-base link (delta spot a c) rest none = refl
    seen-base link (empty_call n) rest none = refl
    seen-base link (call n args) rest none = refl
    seen-base link (parenthesis s) rest none =
        seen-append (pieces_of_sum s) (written.Close ∷ []) (λ r n. seen-sum s r n) seen-close rest none
