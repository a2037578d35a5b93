-- An argument of a pattern without wildcards is gone past.
use Rattle.std.proofs.Common.{◌≡◌, ℕ, suc, ◌-◌, Bool, cond, List, [], ◌∷◌, ◌++◌, Some, None, Result, Ok, refl, ap, ◌∙◌, append_assoc, add-one}
use Rattle.form_names.specs.Names.{Entry}
use Rattle.form_ast.specs.declared.expr.Link.{Link}
use Rattle.form_ast.specs.declared.expr.Link.TheVariants as links
use Rattle.form_ast.specs.declared.expr.Power.{Power}
use Rattle.form_ast.specs.declared.expr.Piece.{Piece}
use Rattle.form_ast.specs.declared.expr.Piece.TheVariants as written
use Rattle.form_ast.specs.Syntax as syntax
use Rattle.form_ast.specs.Syntax.{name_of, mark_of, link_of, first_link, piece_of_power, pieces_of_entry, pieces_of_sum, pieces_of_product, pieces_of_factor, pieces_of_base, pieces_of_arguments, pieces_of_argument}
use Rattle.form_tree.specs.declared.tree.Piece as resolved
use Rattle.form_pattern.specs.declared.joining.Factor as flat
use Rattle.form_pattern.specs.declared.reading.Frame.{Frame}
use Rattle.form_pattern.specs.declared.reading.Place.TheVariants as places
use Rattle.form_pattern.specs.declared.reading.Reading.{Reading}
use Rattle.form_pattern.specs.PatternWalking.{at, moved, call_ended, walked}
use Rattle.form_right_side.specs.Refusal.{Refusal, ◌>>=◌}
use Rattle.form_right_side.proofs.Binding.{minus-one, not-zero}

module _ (names : List Entry) (stands : ℕ → Bool) (fields : List (List ℕ)) (frames : List Frame) (level : List flat.Factor) (fixed : List (List resolved.Piece)) where
  abbrev pub in_it : ℕ → List Piece → Result Reading Refusal
  in_it k list = walked names stands fields (at frames level (places.Fixed k) fixed) list

  -- these are gone past
  abbrev pub Skips : ℕ → List Piece → Type 0
  Skips k a = (rest : List Piece) → in_it k (a ++ rest) ≡ in_it k rest

  skips-both : (k : ℕ) (a b : List Piece) → Skips k a → Skips k b → Skips k (a ++ b)
  skips-both k a b h g = λ rest. ap (in_it k) (append_assoc a b rest) ∙ h (b ++ rest) ∙ g rest

  skips-mark : (k : ℕ) (l : syntax.Label) → Skips k (mark_of l)
  unfolding walked
  skips-mark k (syntax.named n) = λ rest. refl
  skips-mark k (syntax.wildcard n r) = λ rest. refl

  skips-name : (k : ℕ) (link : Link) (l : syntax.Label) → Skips k (written.Name link (name_of l) ∷ mark_of l)
  unfolding walked
  skips-name k link l = skips-mark k l

  skips-first : (k : ℕ) (link : Link) (l : syntax.Label) → Skips k (written.Dot link (name_of l) ∷ mark_of l)
  unfolding walked
  skips-first k link l = skips-mark k l

  skips-second : (k : ℕ) (l : syntax.Label) → Skips k (written.EndOfDot (name_of l) ∷ mark_of l)
  unfolding walked
  skips-second k l = skips-mark k l

  skips-by-name : (k : ℕ) (sign : _) (l : syntax.Label) → Skips k (written.RaisedByName sign (name_of l) ∷ mark_of l)
  unfolding walked
  skips-by-name k sign l = skips-mark k l

  skips-entry : (k : ℕ) (e : syntax.Entry) → Skips k (pieces_of_entry e)
  unfolding walked
  skips-entry k (syntax.name_entry l) = skips-mark k l
  skips-entry k (syntax.number_entry n) = λ rest. refl

  skips-number : (k : ℕ) (link : Link) (n : _) → Skips k (written.Number link n ∷ [])
  unfolding walked
  skips-number k link n = λ rest. refl

  skips-delta : (k : ℕ) (link : Link) (spot : _) → Skips k (written.Delta link spot ∷ [])
  unfolding walked
  skips-delta k link spot = λ rest. refl

  skips-end : (k : ℕ) → Skips k (written.EndOfDelta ∷ [])
  unfolding walked
  skips-end k = λ rest. refl

  skips-open : (k : ℕ) (link : Link) → Skips k (written.Open link ∷ [])
  unfolding walked
  skips-open k link = λ rest. refl

  skips-close : (k : ℕ) → Skips k (written.Close ∷ [])
  unfolding walked
  skips-close k = λ rest. refl

  skips-raised : (k : ℕ) (p : Power) → Skips k (piece_of_power p ∷ [])
  unfolding walked
  skips-raised k p = λ rest. refl

  skips-field : (k : ℕ) (n : _) → Skips k (written.Field n ∷ [])
  unfolding walked
  skips-field k n = λ rest. refl

  -- a comma and a `)` that end no argument here
  skips-comma : (k : ℕ) → Skips (suc k) (written.Comma ∷ [])
  unfolding walked
  skips-comma k = λ rest. ap (λ (b : Bool). walked names stands fields (moved (at frames level (places.Fixed (suc k)) fixed) (cond b places.Argument (places.Fixed (suc k)))) rest) (not-zero k)

  ends-inner : (k : ℕ) (rest : List Piece) → in_it (suc k) (written.EndOfCall ∷ rest) ≡ in_it k rest
  unfolding walked
  ends-inner k rest =
      let s : Reading = at frames level (places.Fixed (suc k)) fixed in
      ap (λ (b : Bool). cond b (call_ended s rest) (Ok (moved s (places.Fixed (suc k - 1)))) >>= (λ next. walked names stands fields next rest)) (not-zero k)
      ∙ ap (λ (m : ℕ). in_it m rest) (minus-one k)

  begins-inner : (k : ℕ) (link : Link) (n : _) (rest : List Piece) → in_it k (written.Call link n ∷ rest) ≡ in_it (suc k) rest
  unfolding walked
  begins-inner k link n rest = ap (λ (m : ℕ). in_it m rest) (add-one k)

  skips-call : (k : ℕ) (link : Link) (n : _) (inner : List Piece) → Skips (suc k) inner → Skips k (written.Call link n ∷ inner ++ written.EndOfCall ∷ [])
  skips-call k link n inner h = λ rest.
      begins-inner k link n ((inner ++ written.EndOfCall ∷ []) ++ rest) ∙ ap (in_it (suc k)) (append_assoc inner (written.EndOfCall ∷ []) rest) ∙ h (written.EndOfCall ∷ rest) ∙ ends-inner k rest

  mutual
    pub skips-sum : (s : syntax.Sum) (k : ℕ) → Skips k (pieces_of_sum s)
    skips-sum (syntax.first sign p) k = skips-product (first_link sign) p k
    skips-sum (syntax.more s sign p) k = skips-both k (pieces_of_sum s) (pieces_of_product (link_of sign) p) (skips-sum s k) (skips-product (link_of sign) p k)

    skips-product : (link : Link) (p : syntax.Product) (k : ℕ) → Skips k (pieces_of_product link p)
    skips-product link (syntax.one f) k = skips-factor link f k
    skips-product link (syntax.times p f) k = skips-both k (pieces_of_product link p) (pieces_of_factor links.Times f) (skips-product link p k) (skips-factor links.Times f k)
    skips-product link (syntax.over p f) k = skips-both k (pieces_of_product link p) (pieces_of_factor links.Over f) (skips-product link p k) (skips-factor links.Over f k)

    skips-factor : (link : Link) (f : syntax.Factor) (k : ℕ) → Skips k (pieces_of_factor link f)
    skips-factor link (syntax.factor b None) k = skips-base link b k
    skips-factor link (syntax.factor b (Some p)) k = skips-both k (pieces_of_base link b) (piece_of_power p ∷ []) (skips-base link b k) (skips-raised k p)
    skips-factor link (syntax.raised b sign l) k =
        skips-both k (pieces_of_base link b) (written.RaisedByName sign (name_of l) ∷ mark_of l) (skips-base link b k) (skips-by-name k sign l)

    skips-base : (link : Link) (b : syntax.Base) (k : ℕ) → Skips k (pieces_of_base link b)
    skips-base link (syntax.number n) k = skips-number k link n
    skips-base link (syntax.name l) k = skips-name k link l
    skips-base link (syntax.dot p q) k = skips-both k (written.Dot link (name_of p) ∷ mark_of p) (written.EndOfDot (name_of q) ∷ mark_of q) (skips-first k link p) (skips-second k q)
    skips-base link (syntax.delta spot a b) k =
        skips-both k (written.Delta link spot ∷ pieces_of_entry a ++ pieces_of_entry b) (written.EndOfDelta ∷ [])
        (skips-both k (written.Delta link spot ∷ pieces_of_entry a) (pieces_of_entry b) (skips-both k (written.Delta link spot ∷ []) (pieces_of_entry a) (skips-delta k link spot) (skips-entry k a)) (skips-entry k b))
        (skips-end k)
    skips-base link (syntax.empty_call l) k = skips-call k link (name_of l) (mark_of l) (skips-mark (suc k) l)
    skips-base link (syntax.call l args) k =
        skips-call k link (name_of l) (mark_of l ++ pieces_of_arguments args) (skips-both (suc k) (mark_of l) (pieces_of_arguments args) (skips-mark (suc k) l) (skips-arguments args k))
    skips-base link (syntax.parenthesis s) k =
        skips-both k (written.Open link ∷ pieces_of_sum s) (written.Close ∷ []) (skips-both k (written.Open link ∷ []) (pieces_of_sum s) (skips-open k link) (skips-sum s k)) (skips-close k)

    skips-arguments : (args : syntax.Arguments) (k : ℕ) → Skips (suc k) (pieces_of_arguments args)
    skips-arguments (syntax.argument a) k = skips-argument a (suc k)
    skips-arguments (syntax.further args a) k =
        skips-both (suc k) (pieces_of_arguments args) (written.Comma ∷ pieces_of_argument a) (skips-arguments args k)
        (skips-both (suc k) (written.Comma ∷ []) (pieces_of_argument a) (skips-comma k) (skips-argument a (suc k)))

    skips-argument : (a : syntax.Argument) (k : ℕ) → Skips k (pieces_of_argument a)
    skips-argument (syntax.expression s) k = skips-sum s k
    skips-argument (syntax.field n) k = skips-field k n
