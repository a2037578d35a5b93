-- What is seen ahead in the pieces of a pattern: where an argument ends, and whether a wildcard stands in it.
use Rattle.std.proofs.Common.{◌≡◌, ℕ, suc, Bool, true, false, ◌||◌, List, [], ◌∷◌, ◌++◌, length, drop, Some, None, refl, sym, ap, ◌∙◌, append_assoc, add-one}
use Rattle.std.specs.List.{list_any}
use Rattle.std.proofs.lemmas.List.{append-nil}
use Rattle.std.proofs.lemmas.List.Folds.{list_any-append}
use Rattle.form_ast.specs.declared.expr.Link.{Link}
use Rattle.form_ast.specs.declared.expr.Link.TheVariants as links
use Rattle.form_ast.specs.declared.expr.Power.{Power}
use Rattle.form_ast.specs.declared.expr.Piece.{Piece}
use Rattle.form_ast.specs.declared.expr.Piece.TheVariants as written
use Rattle.form_ast.specs.Syntax.{Label, named, wildcard, Entry, name_entry, number_entry, Sum, first, more, Product, one, times, over, Factor, factor, raised, Base, number, name, dot, delta, empty_call, call, parenthesis, Arguments, argument, further, Argument, expression, field, name_of, mark_of, link_of, first_link, piece_of_power, pieces_of_entry, pieces_of_sum, pieces_of_product, pieces_of_factor, pieces_of_base, pieces_of_arguments, pieces_of_argument}
use Rattle.form_ast.specs.Patterns.{is_wildcard, entry_has_wildcard, has_wildcard, product_has_wildcard, factor_has_wildcard, base_has_wildcard, arguments_have_wildcard, argument_has_wildcard}
use Rattle.form_pattern.specs.PatternWalking.{front, is_wild}
use Rattle.form_right_side.proofs.Binding.{minus-one, not-zero}

-- ---- where an argument ends

-- these stand whole before what ends an argument behind them, where so many calls are open
abbrev Passes : ℕ → List Piece → Type 0
Passes k a = (rest : List Piece) → front k (a ++ rest) ≡ a ++ front k rest

passes-both : (k : ℕ) (a b : List Piece) → Passes k a → Passes k b → Passes k (a ++ b)
passes-both k a b h g = λ rest.
    ap (front k) (append_assoc a b rest) ∙ h (b ++ rest) ∙ ap (λ (t : List Piece). a ++ t) (g rest) ∙ sym (append_assoc a b (front k rest))

passes-mark : (k : ℕ) (n : Label) → Passes k (mark_of n)
unfolding front
passes-mark k (named n) = λ rest. refl
passes-mark k (wildcard n r) = λ rest. refl

passes-entry : (k : ℕ) (e : Entry) → Passes k (pieces_of_entry e)
unfolding front
passes-entry k (name_entry (named n)) = λ rest. refl
passes-entry k (name_entry (wildcard n r)) = λ rest. refl
passes-entry k (number_entry n) = λ rest. refl

ends-front : (k : ℕ) (rest : List Piece) → front (suc k) (written.EndOfCall ∷ rest) ≡ written.EndOfCall ∷ front k rest
unfolding front
ends-front k rest = rw (not-zero k, minus-one k) refl

comma-front : (k : ℕ) (rest : List Piece) → front (suc k) (written.Comma ∷ rest) ≡ written.Comma ∷ front (suc k) rest
unfolding front
comma-front k rest = rw (not-zero k) refl

passes-call : (k : ℕ) (link : Link) (n : _) (inner : List Piece) → Passes (suc k) inner → Passes k (written.Call link n ∷ inner ++ written.EndOfCall ∷ [])
unfolding front
passes-call k link n inner h = λ rest.
    ap (λ (m : ℕ). written.Call link n ∷ front m ((inner ++ written.EndOfCall ∷ []) ++ rest)) (add-one k)
    ∙ ap (λ (t : List Piece). written.Call link n ∷ t)
    (ap (front (suc k)) (append_assoc inner (written.EndOfCall ∷ []) rest) ∙ h (written.EndOfCall ∷ rest) ∙ ap (λ (t : List Piece). inner ++ t) (ends-front k rest) ∙ sym (append_assoc inner (written.EndOfCall ∷ []) (front k rest)))

passes-first : (k : ℕ) (link : Link) (n : Label) → Passes k (written.Dot link (name_of n) ∷ mark_of n)
unfolding front
passes-first k link n = λ rest. ap (λ (t : List Piece). written.Dot link (name_of n) ∷ t) (passes-mark k n rest)

passes-second : (k : ℕ) (n : Label) → Passes k (written.EndOfDot (name_of n) ∷ mark_of n)
unfolding front
passes-second k n = λ rest. ap (λ (t : List Piece). written.EndOfDot (name_of n) ∷ t) (passes-mark k n rest)

passes-name : (k : ℕ) (link : Link) (n : Label) → Passes k (written.Name link (name_of n) ∷ mark_of n)
unfolding front
passes-name k link n = λ rest. ap (λ (t : List Piece). written.Name link (name_of n) ∷ t) (passes-mark k n rest)

passes-power : (k : ℕ) (sign : _) (n : Label) → Passes k (written.RaisedByName sign (name_of n) ∷ mark_of n)
unfolding front
passes-power k sign n = λ rest. ap (λ (t : List Piece). written.RaisedByName sign (name_of n) ∷ t) (passes-mark k n rest)

-- single pieces
passes-number : (k : ℕ) (link : Link) (n : _) → Passes k (written.Number link n ∷ [])
unfolding front
passes-number k link n = λ rest. refl

passes-delta : (k : ℕ) (link : Link) (spot : _) → Passes k (written.Delta link spot ∷ [])
unfolding front
passes-delta k link spot = λ rest. refl

passes-end : (k : ℕ) → Passes k (written.EndOfDelta ∷ [])
unfolding front
passes-end k = λ rest. refl

passes-open : (k : ℕ) (link : Link) → Passes k (written.Open link ∷ [])
unfolding front
passes-open k link = λ rest. refl

passes-close : (k : ℕ) → Passes k (written.Close ∷ [])
unfolding front
passes-close k = λ rest. refl

passes-raised : (k : ℕ) (p : Power) → Passes k (piece_of_power p ∷ [])
unfolding front
passes-raised k p = λ rest. refl

passes-field : (k : ℕ) (n : _) → Passes k (written.Field n ∷ [])
unfolding front
passes-field k n = λ rest. refl

mutual
  passes-sum : (s : Sum) (k : ℕ) → Passes k (pieces_of_sum s)
  passes-sum (first sign p) k = passes-product (first_link sign) p k
  passes-sum (more s sign p) k = passes-both k (pieces_of_sum s) (pieces_of_product (link_of sign) p) (passes-sum s k) (passes-product (link_of sign) p k)

  passes-product : (link : Link) (p : Product) (k : ℕ) → Passes k (pieces_of_product link p)
  passes-product link (one f) k = passes-factor link f k
  passes-product link (times p f) k = passes-both k (pieces_of_product link p) (pieces_of_factor links.Times f) (passes-product link p k) (passes-factor links.Times f k)
  passes-product link (over p f) k = passes-both k (pieces_of_product link p) (pieces_of_factor links.Over f) (passes-product link p k) (passes-factor links.Over f k)

  passes-factor : (link : Link) (f : Factor) (k : ℕ) → Passes k (pieces_of_factor link f)
  passes-factor link (factor b None) k = passes-base link b k
  passes-factor link (factor b (Some p)) k = passes-both k (pieces_of_base link b) (piece_of_power p ∷ []) (passes-base link b k) (passes-raised k p)
  passes-factor link (raised b sign n) k =
      passes-both k (pieces_of_base link b) (written.RaisedByName sign (name_of n) ∷ mark_of n) (passes-base link b k) (passes-power k sign n)

  passes-base : (link : Link) (b : Base) (k : ℕ) → Passes k (pieces_of_base link b)
  passes-base link (number n) k = passes-number k link n
  passes-base link (name n) k = passes-name k link n
  passes-base link (dot p q) k = passes-both k (written.Dot link (name_of p) ∷ mark_of p) (written.EndOfDot (name_of q) ∷ mark_of q) (passes-first k link p) (passes-second k q)
  passes-base link (delta spot a b) k =
      passes-both k (written.Delta link spot ∷ pieces_of_entry a ++ pieces_of_entry b) (written.EndOfDelta ∷ [])
      (passes-both k (written.Delta link spot ∷ pieces_of_entry a) (pieces_of_entry b) (passes-both k (written.Delta link spot ∷ []) (pieces_of_entry a) (passes-delta k link spot) (passes-entry k a)) (passes-entry k b))
      (passes-end k)
  passes-base link (empty_call n) k = passes-call k link (name_of n) (mark_of n) (passes-mark (suc k) n)
  passes-base link (call n args) k =
      passes-call k link (name_of n) (mark_of n ++ pieces_of_arguments args) (passes-both (suc k) (mark_of n) (pieces_of_arguments args) (passes-mark (suc k) n) (passes-arguments args k))
  passes-base link (parenthesis s) k =
      passes-both k (written.Open link ∷ pieces_of_sum s) (written.Close ∷ []) (passes-both k (written.Open link ∷ []) (pieces_of_sum s) (passes-open k link) (passes-sum s k)) (passes-close k)

  passes-arguments : (args : Arguments) (k : ℕ) → Passes (suc k) (pieces_of_arguments args)
  passes-arguments (argument a) k = passes-argument a (suc k)
  passes-arguments (further args a) k =
      passes-both (suc k) (pieces_of_arguments args) (written.Comma ∷ pieces_of_argument a) (passes-arguments args k)
      (passes-both (suc k) (written.Comma ∷ []) (pieces_of_argument a) (comma-front k) (passes-argument a (suc k)))

  pub passes-argument : (a : Argument) (k : ℕ) → Passes k (pieces_of_argument a)
  passes-argument (expression s) k = passes-sum s k
  passes-argument (field n) k = passes-field k n

-- what ends an argument
abbrev pub IsEnd : Piece → Type 0
IsEnd written.Comma = Unit {0}
IsEnd written.EndOfCall = Unit {0}
IsEnd _ = ⊥

pub end-case : (P : Piece → Type 0) → P written.Comma → P written.EndOfCall → (y : Piece) → IsEnd y → P y
end-case P h g written.Comma stops = h
end-case P h g written.EndOfCall stops = g
end-case P h g (written.Number link n) stops = absurd stops
end-case P h g (written.Name link n) stops = absurd stops
end-case P h g (written.Dot link n) stops = absurd stops
end-case P h g (written.EndOfDot n) stops = absurd stops
end-case P h g (written.Delta link spot) stops = absurd stops
end-case P h g (written.EntryName n) stops = absurd stops
end-case P h g (written.EntryNumber n) stops = absurd stops
end-case P h g written.EndOfDelta stops = absurd stops
end-case P h g (written.Call link n) stops = absurd stops
end-case P h g (written.Open link) stops = absurd stops
end-case P h g written.Close stops = absurd stops
end-case P h g (written.Raised is_parenthesized sign n) stops = absurd stops
end-case P h g (written.RaisedByName sign n) stops = absurd stops
end-case P h g (written.Marked r) stops = absurd stops
end-case P h g (written.Field n) stops = absurd stops

pub front-end : (y : Piece) (rest : List Piece) → IsEnd y → front 0 (y ∷ rest) ≡ []
unfolding front
front-end y rest stops = end-case (λ (z : Piece). front 0 (z ∷ rest) ≡ []) refl refl y stops

-- the argument itself
pub front-argument : (a : Argument) (y : Piece) (rest : List Piece) → IsEnd y → front 0 (pieces_of_argument a ++ y ∷ rest) ≡ pieces_of_argument a
front-argument a y rest stops =
    passes-argument a 0 (y ∷ rest) ∙ ap (λ (t : List Piece). pieces_of_argument a ++ t) (front-end y rest stops) ∙ append-nil (pieces_of_argument a)

drop-all : (a b : List Piece) → drop (length a) (a ++ b) ≡ b
drop-all [] b = refl
drop-all (p ∷ a) b = drop-all a b

-- and what stands behind it
pub behind-argument : (a : Argument) (y : Piece) (rest : List Piece) → IsEnd y → drop (length (front 0 (pieces_of_argument a ++ y ∷ rest))) (pieces_of_argument a ++ y ∷ rest) ≡ y ∷ rest
behind-argument a y rest stops = ap (λ (t : List Piece). drop (length t) (pieces_of_argument a ++ y ∷ rest)) (front-argument a y rest stops) ∙ drop-all (pieces_of_argument a) (y ∷ rest)

-- ---- wildcards

or-false : (b : Bool) → (b || false) ≡ b
or-false true = refl
or-false false = refl

abbrev Has : List Piece → Bool → Type 0
Has a b = list_any is_wild a ≡ b

has-both : (a b : List Piece) (x y : Bool) → Has a x → Has b y → Has (a ++ b) (x || y)
has-both a b x y h g = list_any-append is_wild a b ∙ ap (λ (z : Bool). z || list_any is_wild b) h ∙ ap (λ (z : Bool). x || z) g

has-before : (a b : List Piece) (x : Bool) → Has a x → Has b false → Has (a ++ b) x
has-before a b x h g = has-both a b x false h g ∙ or-false x

has-mark : (n : Label) → Has (mark_of n) (is_wildcard n)
has-mark (named n) = refl
has-mark (wildcard n r) = refl

has-entry : (e : Entry) → Has (pieces_of_entry e) (entry_has_wildcard e)
has-entry (name_entry n) = has-mark n
has-entry (number_entry n) = refl

mutual
  has-sum : (s : Sum) → Has (pieces_of_sum s) (has_wildcard s)
  has-sum (first sign p) = has-product (first_link sign) p
  has-sum (more s sign p) = has-both (pieces_of_sum s) (pieces_of_product (link_of sign) p) (has_wildcard s) (product_has_wildcard p) (has-sum s) (has-product (link_of sign) p)

  has-product : (link : Link) (p : Product) → Has (pieces_of_product link p) (product_has_wildcard p)
  has-product link (one f) = has-factor link f
  has-product link (times p f) = has-both (pieces_of_product link p) (pieces_of_factor links.Times f) (product_has_wildcard p) (factor_has_wildcard f) (has-product link p) (has-factor links.Times f)
  has-product link (over p f) = has-both (pieces_of_product link p) (pieces_of_factor links.Over f) (product_has_wildcard p) (factor_has_wildcard f) (has-product link p) (has-factor links.Over f)

  has-factor : (link : Link) (f : Factor) → Has (pieces_of_factor link f) (factor_has_wildcard f)
  has-factor link (factor b None) = has-base link b
  has-factor link (factor b (Some p)) = has-before (pieces_of_base link b) (piece_of_power p ∷ []) (base_has_wildcard b) (has-base link b) refl
  has-factor link (raised b sign n) =
      has-both (pieces_of_base link b) (written.RaisedByName sign (name_of n) ∷ mark_of n) (base_has_wildcard b) (is_wildcard n) (has-base link b) (has-mark n)

  has-base : (link : Link) (b : Base) → Has (pieces_of_base link b) (base_has_wildcard b)
  has-base link (number n) = refl
  has-base link (name n) = has-mark n
  has-base link (dot p q) = has-both (written.Dot link (name_of p) ∷ mark_of p) (written.EndOfDot (name_of q) ∷ mark_of q) (is_wildcard p) (is_wildcard q) (has-mark p) (has-mark q)
  has-base link (delta spot a b) =
      has-before (written.Delta link spot ∷ pieces_of_entry a ++ pieces_of_entry b) (written.EndOfDelta ∷ []) (entry_has_wildcard a || entry_has_wildcard b)
      (has-both (written.Delta link spot ∷ pieces_of_entry a) (pieces_of_entry b) (entry_has_wildcard a) (entry_has_wildcard b) (has-entry a) (has-entry b)) refl
  has-base link (empty_call n) = has-before (written.Call link (name_of n) ∷ mark_of n) (written.EndOfCall ∷ []) (is_wildcard n) (has-mark n) refl
  has-base link (call n args) =
      has-before (written.Call link (name_of n) ∷ mark_of n ++ pieces_of_arguments args) (written.EndOfCall ∷ []) (is_wildcard n || arguments_have_wildcard args)
      (has-both (written.Call link (name_of n) ∷ mark_of n) (pieces_of_arguments args) (is_wildcard n) (arguments_have_wildcard args) (has-mark n) (has-arguments args)) refl
  has-base link (parenthesis s) = has-before (written.Open link ∷ pieces_of_sum s) (written.Close ∷ []) (has_wildcard s) (has-sum s) refl

  has-arguments : (args : Arguments) → Has (pieces_of_arguments args) (arguments_have_wildcard args)
  has-arguments (argument a) = has-argument a
  has-arguments (further args a) = has-both (pieces_of_arguments args) (written.Comma ∷ pieces_of_argument a) (arguments_have_wildcard args) (argument_has_wildcard a) (has-arguments args) (has-argument a)

  has-argument : (a : Argument) → Has (pieces_of_argument a) (argument_has_wildcard a)
  has-argument (expression s) = has-sum s
  has-argument (field n) = refl

-- a wildcard is ahead where one stands in the argument
pub wild-ahead : (a : Argument) (y : Piece) (rest : List Piece) → IsEnd y → list_any is_wild (front 0 (pieces_of_argument a ++ y ∷ rest)) ≡ argument_has_wildcard a
wild-ahead a y rest stops = ap (list_any is_wild) (front-argument a y rest stops) ∙ has-argument a
