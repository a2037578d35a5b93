-- What is carried out has a right side of the grammar, or it is an expression that stands and is left.
use Rattle.std.proofs.Common.{◌≡◌, ℕ, ◌==◌, Bool, true, false, not, ◌&&◌, ◌||◌, List, [], ◌∷◌, cond, fold, Option, Some, None, refl, sym, subst, ap, ◌∙◌}
use Rattle.std.specs.Prelude.{All}
use Rattle.std.specs.FinMap.{nat_cmp-IsAntisymmetric}
use Rattle.std.specs.List.{AllByRecursion, list_any}
use Rattle.std.specs.Ordering.{nat_cmp, match_ordering}
use Rattle.std.specs.declared.cmp.Ordering.{Ordering}
use Rattle.std.specs.declared.cmp.Ordering.TheVariants.{Less, Equal, Greater}
use Rattle.std.proofs.lemmas.Bool.{eq-eqb}
use Rattle.std.proofs.lemmas.List.Elements.{recursion_from_All}
use Rattle.form_tree.specs.Building.{sum_of}
use Rattle.form_tree.specs.Tree.{Sum, pieces_of_sum}
use Rattle.form_tree.specs.declared.tree.Piece.{Piece}
use Rattle.form_expand.specs.Listing.{Listing}
use Rattle.form_expand.specs.Meanings.{Meanings}
use Rattle.form_expand.specs.declared.stored.Stored.{Stored}
use Rattle.form_check.specs.declared.checked.Checked.{Checked}
use Rattle.form_check.specs.declared.checked.Checked.TheVariants.{Drop, Skip, Local, Print}
use Rattle.form_flow.specs.Making.{HasTree}
use Rattle.form_module.specs.Inputs.{IsTreeOf, inputs_of}
use Rattle.form_module.specs.Module.{HasRightSide, inputs_by}
use Rattle.form_module.specs.Works.{Work, and_definition, and_standing, goes_through, is_left, skips, with_work, works_of}

-- a right side is built of the tree whose pieces it has
abbrev pub Builds : Type 0
Builds = (sum : Sum) → sum_of (pieces_of_sum sum) ≡ sum

-- an expression stands
abbrev pub is_among : List Stored → ℕ → Bool
is_among all expression = list_any (λ e. e.expression == expression) all

abbrev pub IsFitBy : List Checked → List Stored → ℕ → Option (List Piece) → Type 0
IsFitBy s all expression (Some right) = right ≡ pieces_of_sum (sum_of right)
IsFitBy s all expression None = (is_left s expression ≡ true) × (is_among all expression ≡ true)

abbrev pub IsFit : List Checked → List Stored → Work → Type 0
IsFit s all w = IsFitBy s all w.expression w.right_side

module _ (s : List Checked) (all : List Stored) where
  with_fit : (ws : List Work) (w : Work) → AllByRecursion (IsFit s all) ws → IsFit s all w → AllByRecursion (IsFit s all) (with_work ws w)
  with_fit [] w h fit = (fit, tt)
  with_fit (v ∷ vs) w h fit = by (nat_cmp w.expression v.expression) refl (with_fit vs w h.1 fit)
    where
      by : (o : Ordering) → nat_cmp w.expression v.expression ≡ o → AllByRecursion (IsFit s all) (with_work vs w) →
          AllByRecursion (IsFit s all) (match_ordering o (w ∷ v ∷ vs) (record { expression = v.expression; right_side = w.right_side } ∷ vs) (v ∷ with_work vs w))
      by Less e later = (fit, h)
      by Equal e later = (subst (λ n. IsFitBy s all n w.right_side) (nat_cmp-IsAntisymmetric w.expression v.expression e) fit, h.1)
      by Greater e later = (h.0, later)

  -- what stands and goes through
  left_from : (e : ℕ) → goes_through s e ≡ true → is_left s e ≡ true
  left_from e goes = by (is_left s e) (skips s e) goes
    where
      by : (a b : Bool) → (a && not b) ≡ true → a ≡ true
      by true b h = refl
      by false b h = cc

  and_stored : (ws : List Work) (e : Stored) → is_among all e.expression ≡ true → AllByRecursion (IsFit s all) ws → AllByRecursion (IsFit s all) (and_standing s ws e)
  and_stored ws e stands h = by (goes_through s e.expression) refl
    where
      by : (goes : Bool) → goes_through s e.expression ≡ goes → AllByRecursion (IsFit s all) (cond goes (with_work ws (record { expression = e.expression; right_side = None })) ws)
      by true goes = with_fit ws (record { expression = e.expression; right_side = None }) h (left_from e.expression goes, stands)
      by false goes = h

  all_stored : (rest : List Stored) (ws : List Work) → AllByRecursion (λ (e : Stored). is_among all e.expression ≡ true) rest → AllByRecursion (IsFit s all) ws →
      AllByRecursion (IsFit s all) (fold (and_standing s) ws rest)
  all_stored [] ws stand h = h
  all_stored (e ∷ es) ws stand h = all_stored es (and_standing s ws e) stand.1 (and_stored ws e stand.0 h)

  -- what is defined
  built : Builds → (right : List Piece) → HasTree right → right ≡ pieces_of_sum (sum_of right)
  built builds right has = has.1 ∙ ap pieces_of_sum (sym (ap sum_of has.1 ∙ builds has.0))

  and_fit : Builds → (ws : List Work) (statement : Checked) → HasRightSide statement → AllByRecursion (IsFit s all) ws → AllByRecursion (IsFit s all) (and_definition ws statement)
  and_fit builds ws (Drop which) has h = h
  and_fit builds ws (Skip which) has h = h
  and_fit builds ws (Local id right) has h = with_fit ws (record { expression = id; right_side = Some right }) h (built builds right has)
  and_fit builds ws (Print which) has h = h

  all_defined : Builds → (rest : List Checked) (ws : List Work) → AllByRecursion HasRightSide rest → AllByRecursion (IsFit s all) ws → AllByRecursion (IsFit s all) (fold and_definition ws rest)
  all_defined builds [] ws have h = h
  all_defined builds (t ∷ ts) ws have h = all_defined builds ts (and_definition ws t) have.1 (and_fit builds ws t have.0 h)

-- each expression of a list is among them
later : (x : Stored) (xs rest : List Stored) → AllByRecursion (λ (e : Stored). is_among xs e.expression ≡ true) rest → AllByRecursion (λ (e : Stored). is_among (x ∷ xs) e.expression ≡ true) rest
later x xs [] h = tt
later x xs (e ∷ es) h = (or_true (x.expression == e.expression) (is_among xs e.expression) h.0, later x xs es h.1)
  where
    or_true : (a b : Bool) → b ≡ true → (a || b) ≡ true
    or_true true b h = refl
    or_true false b h = h

all_among : (xs : List Stored) → AllByRecursion (λ (e : Stored). is_among xs e.expression ≡ true) xs
all_among [] = tt
all_among (x ∷ xs) = (ap (λ b. b || is_among xs x.expression) (eq-eqb x.expression x.expression refl), later x xs xs (all_among xs))

pub works_fit : Builds → (s : List Checked) (all : List Stored) → All HasRightSide s → AllByRecursion (IsFit s all) (works_of s all)
works_fit builds s all have =
    all_defined s all builds s (fold (and_standing s) [] all) (recursion_from_All HasRightSide s have) (all_stored s all all [] (all_among all) tt)

-- what is told of inputs by each tree, where the right side is one of the grammar
pub inputs_told : (what : Listing → Type 0) (max : ℕ) (names : Meanings) (s : List Checked) (all : List Stored) (expression : ℕ) (right : Option (List Piece)) → IsFitBy s all expression right →
    ((tree : Option Sum) → IsTreeOf right tree → what (inputs_of max names expression tree)) → what (inputs_by max names expression right)
inputs_told what max names s all expression (Some right) fit tells = tells (Some (sum_of right)) fit
inputs_told what max names s all expression None fit tells = tells None tt
