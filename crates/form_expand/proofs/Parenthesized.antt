-- Reading a sum in parentheses up to where it ends.
use Rattle.std.proofs.Common.{◌≡◌, ℕ, zero, suc, ◌+◌, ◌-◌, ◌<◌, ◌≤◌, true, List, [], ◌∷◌, ◌++◌, length, take, drop, refl, sym, ap, subst, ◌∙◌, arith}
use Rattle.std.specs.Prelude.{Option, Some, None}
use Rattle.form_tree.specs.declared.tree.Link.TheVariants as links
use Rattle.form_tree.specs.declared.tree.Piece.{Piece}
use Rattle.form_tree.specs.declared.tree.Piece.TheVariants as pieces
use Rattle.form_expand.specs.declared.ended.Ended.{Ended}
use Rattle.form_expand.specs.declared.ended.Ended.TheVariants as ends
use Rattle.form_expand.specs.Bound.{wild_list, exponent_in, list_of_base}
use Rattle.form_expand.specs.Meanings.{Meanings, terms_of, index_of, vector_of, component_of, function_of, field_of}
use Rattle.form_expand.specs.Closings.{closing_at, deep_behind, power_at_end}
use Rattle.form_expand.specs.Reading.{Frame, in_sum, Reading, fresh, list_of_frame, limit_of, linked_frame, factor_into, argument_into, begun_function, ended, fed, read_from, begins_product}
use Rattle.form_term.specs.Term.{index, vector}
use Rattle.form_expand.specs.Numbers.{number_list, symbol_list}
use Rattle.form_expand.specs.Singles.{imaginary_list, dot_list, component_list, delta_list}
use Rattle.form_expand.specs.Readers.{EndsProduct}
use Rattle.form_expand.proofs.Behind.{outermost_last}

some_pair : (p q : ℕ × Ended) → Some p ≡ Some q → (p.0 ≡ q.0) × (p.1 ≡ q.1)
some_pair p q e = (ap first e, ap second e)
  where
    first : Option (ℕ × Ended) → ℕ
    first None = 0
    first (Some q) = q.0

    second : Option (ℕ × Ended) → Ended
    second None = ends.Power 0
    second (Some q) = q.1

module _ (all : Meanings) (p : Frame) where
  -- it isn't ended
  pub read_unended : (place : ℕ) (top : Frame) (outer : List Frame) (ps : List Piece) → closing_at place (length outer) ps ≡ None
      → read_from all (record { top = top; outer = outer ++ p ∷ [] }) ps ≡ list_of_frame p
  unfolding read_from fed closing_at
  read_unended place top outer [] e = ap list_of_frame (outermost_last top outer p)
  read_unended place top outer ((pieces.Number link value power) ∷ ps) e = read_unended (place + 1) (factor_into link (number_list value power) 1 top) outer ps e
  read_unended place top outer ((pieces.Symbol link symbol power) ∷ ps) e = read_unended (place + 1) (factor_into link (symbol_list symbol power) 1 top) outer ps e
  read_unended place top outer ((pieces.Wild link symbol is_over power) ∷ ps) e = read_unended (place + 1) (factor_into link ((wild_list all symbol is_over power).0) ((wild_list all symbol is_over power).1) top) outer ps e
  read_unended place top outer ((pieces.Raised link base by) ∷ ps) e = read_unended (place + 1) (factor_into link ((list_of_base all base by.is_over (exponent_in all by.is_minus by.symbol)).0) ((list_of_base all base by.is_over (exponent_in all by.is_minus by.symbol)).1) top) outer ps e
  read_unended place top outer ((pieces.Stored link expression power) ∷ ps) e = read_unended (place + 1) (factor_into link (record { terms = terms_of all expression; end = None }) power top) outer ps e
  read_unended place top outer ((pieces.Imaginary link power) ∷ ps) e = read_unended (place + 1) (factor_into link (imaginary_list) power top) outer ps e
  read_unended place top outer ((pieces.Dot link p q power) ∷ ps) e = read_unended (place + 1) (factor_into link (dot_list (vector_of all p) (vector_of all q) power) 1 top) outer ps e
  read_unended place top outer ((pieces.Component link c power) ∷ ps) e = read_unended (place + 1) (factor_into link (component_list (component_of all c)) power top) outer ps e
  read_unended place top outer ((pieces.Delta link i j power) ∷ ps) e = read_unended (place + 1) (factor_into link (delta_list (index_of all i) (index_of all j)) power top) outer ps e
  read_unended place top outer ((pieces.Function link f is_commuting) ∷ ps) e = read_unended (place + 1) (begun_function (function_of all f) is_commuting top) (linked_frame link top ∷ outer) ps e
  read_unended place top [] ((pieces.EndOfFunction power) ∷ ps) e = cc
  read_unended place top (g ∷ outer) ((pieces.EndOfFunction power) ∷ ps) e = read_unended (place + 1) (ended all (list_of_frame top) (ends.Power power) g) outer ps e
  read_unended place top [] ((pieces.EndOfRaisedFunction by) ∷ ps) e = cc
  read_unended place top (g ∷ outer) ((pieces.EndOfRaisedFunction by) ∷ ps) e = read_unended (place + 1) (ended all (list_of_frame top) (ends.Raised by) g) outer ps e
  read_unended place top outer ((pieces.Field w) ∷ ps) e = read_unended (place + 1) (argument_into (field_of all w) top) outer ps e
  read_unended place top outer ((pieces.Index i) ∷ ps) e = read_unended (place + 1) (argument_into (index (index_of all i) ∷ []) top) outer ps e
  read_unended place top outer ((pieces.Vector v) ∷ ps) e = read_unended (place + 1) (argument_into (vector (vector_of all v) ∷ []) top) outer ps e
  read_unended place top outer (pieces.Argument ∷ ps) e = read_unended (place + 1) (in_sum (fresh (limit_of top))) (linked_frame links.Times top ∷ outer) ps e
  read_unended place top [] (pieces.EndOfArgument ∷ ps) e = cc
  read_unended place top (g ∷ outer) (pieces.EndOfArgument ∷ ps) e = read_unended (place + 1) (ended all (list_of_frame top) (ends.Power 1) g) outer ps e
  read_unended place top outer ((pieces.Open link) ∷ ps) e = read_unended (place + 1) (in_sum (fresh (limit_of top))) (linked_frame link top ∷ outer) ps e
  read_unended place top [] ((pieces.Close power) ∷ ps) e = cc
  read_unended place top (g ∷ outer) ((pieces.Close power) ∷ ps) e = read_unended (place + 1) (ended all (list_of_frame top) (ends.Power power) g) outer ps e
  read_unended place top [] ((pieces.CloseRaised by) ∷ ps) e = cc
  read_unended place top (g ∷ outer) ((pieces.CloseRaised by) ∷ ps) e = read_unended (place + 1) (ended all (list_of_frame top) (ends.Raised by) g) outer ps e

  -- what is read of the outermost frame where it is ended at this place
  pub record IsEnded (place : ℕ) (top : Frame) (outer : List Frame) (ps : List Piece) (at : ℕ) (by : Ended) : Type 0 where
    pub before : place ≤ at
    pub within : at - place < length ps
    pub read : read_from all (record { top = top; outer = outer ++ p ∷ [] }) ps
        ≡ read_from all (record { top = ended all (read_from all (record { top = top; outer = outer }) (take (at - place) ps)) by p; outer = [] }) (drop (at - place + 1) ps)

  ended_on : (place : ℕ) (top then : Frame) (outer around : List Frame) (piece : Piece) (ps : List Piece) (at : ℕ) (by : Ended)
      → fed all (record { top = top; outer = outer ++ p ∷ [] }) piece ≡ record { top = then; outer = around ++ p ∷ [] }
      → fed all (record { top = top; outer = outer }) piece ≡ record { top = then; outer = around }
      → IsEnded (place + 1) then around ps at by → IsEnded place top outer (piece ∷ ps) at by
  unfolding read_from
  ended_on place top then outer around piece ps at by f g h =
      let e : at - place ≡ suc (at - (place + 1)) = omega (arith, h.before) in
      let n : suc (at - (place + 1)) + 1 ≡ suc (at - (place + 1) + 1) = omega arith in
      record {
        before = omega (arith, h.before);
        within = omega (arith, h.before, h.within);
        read =
            rw (e, n)
            (ap (λ (r : Reading). read_from all r ps) f ∙ h.read
            ∙ ap (λ (r : Reading). read_from all (record { top = ended all (read_from all r (take (at - (place + 1)) ps)) by p; outer = [] }) (drop (at - (place + 1) + 1) ps)) (sym g));
      }

  ended_here : (place : ℕ) (top : Frame) (end : Ended) (piece : Piece) (ps : List Piece) (at : ℕ) (by : Ended)
      → fed all (record { top = top; outer = p ∷ [] }) piece ≡ record { top = ended all (list_of_frame top) end p; outer = [] } → (place ≡ at) × (end ≡ by) → IsEnded place top [] (piece ∷ ps) at by
  unfolding read_from
  ended_here place top end piece ps at by f pair =
      let here : at - place ≡ 0 = omega (arith, pair.0) in
      record {
        before = omega (arith, pair.0);
        within = omega (arith, pair.0);
        read = rw (here, ← pair.1) (ap (λ (r : Reading). read_from all r ps) f);
      }

  pub read_ended : (place : ℕ) (top : Frame) (outer : List Frame) (ps : List Piece) (at : ℕ) (by : Ended) → closing_at place (length outer) ps ≡ Some (at, by) → IsEnded place top outer ps at by
  unfolding fed closing_at
  read_ended place top outer [] at by e = cc
  read_ended place top outer ((pieces.Number link value n) ∷ ps) at by e =
      ended_on place top (factor_into link (number_list value n) 1 top) outer outer (pieces.Number link value n) ps at by refl refl (read_ended (place + 1) (factor_into link (number_list value n) 1 top) outer ps at by e)
  read_ended place top outer ((pieces.Symbol link symbol n) ∷ ps) at by e =
      ended_on place top (factor_into link (symbol_list symbol n) 1 top) outer outer (pieces.Symbol link symbol n) ps at by refl refl (read_ended (place + 1) (factor_into link (symbol_list symbol n) 1 top) outer ps at by e)
  read_ended place top outer ((pieces.Wild link symbol is_over n) ∷ ps) at by e =
      ended_on place top (factor_into link ((wild_list all symbol is_over n).0) ((wild_list all symbol is_over n).1) top) outer outer (pieces.Wild link symbol is_over n) ps at by refl refl (read_ended (place + 1) (factor_into link ((wild_list all symbol is_over n).0) ((wild_list all symbol is_over n).1) top) outer ps at by e)
  read_ended place top outer ((pieces.Raised link base x) ∷ ps) at by e =
      ended_on place top (factor_into link ((list_of_base all base x.is_over (exponent_in all x.is_minus x.symbol)).0) ((list_of_base all base x.is_over (exponent_in all x.is_minus x.symbol)).1) top) outer outer (pieces.Raised link base x) ps at by refl refl (read_ended (place + 1) (factor_into link ((list_of_base all base x.is_over (exponent_in all x.is_minus x.symbol)).0) ((list_of_base all base x.is_over (exponent_in all x.is_minus x.symbol)).1) top) outer ps at by e)
  read_ended place top outer ((pieces.Stored link expression n) ∷ ps) at by e =
      ended_on place top (factor_into link (record { terms = terms_of all expression; end = None }) n top) outer outer (pieces.Stored link expression n) ps at by refl refl (read_ended (place + 1) (factor_into link (record { terms = terms_of all expression; end = None }) n top) outer ps at by e)
  read_ended place top outer ((pieces.Imaginary link n) ∷ ps) at by e =
      ended_on place top (factor_into link (imaginary_list) n top) outer outer (pieces.Imaginary link n) ps at by refl refl (read_ended (place + 1) (factor_into link (imaginary_list) n top) outer ps at by e)
  read_ended place top outer ((pieces.Dot link p q n) ∷ ps) at by e =
      ended_on place top (factor_into link (dot_list (vector_of all p) (vector_of all q) n) 1 top) outer outer (pieces.Dot link p q n) ps at by refl refl (read_ended (place + 1) (factor_into link (dot_list (vector_of all p) (vector_of all q) n) 1 top) outer ps at by e)
  read_ended place top outer ((pieces.Component link c n) ∷ ps) at by e =
      ended_on place top (factor_into link (component_list (component_of all c)) n top) outer outer (pieces.Component link c n) ps at by refl refl (read_ended (place + 1) (factor_into link (component_list (component_of all c)) n top) outer ps at by e)
  read_ended place top outer ((pieces.Delta link i j n) ∷ ps) at by e =
      ended_on place top (factor_into link (delta_list (index_of all i) (index_of all j)) n top) outer outer (pieces.Delta link i j n) ps at by refl refl (read_ended (place + 1) (factor_into link (delta_list (index_of all i) (index_of all j)) n top) outer ps at by e)
  read_ended place top outer ((pieces.Function link f is_commuting) ∷ ps) at by e =
      ended_on place top (begun_function (function_of all f) is_commuting top) outer (linked_frame link top ∷ outer) (pieces.Function link f is_commuting) ps at by refl refl (read_ended (place + 1) (begun_function (function_of all f) is_commuting top) (linked_frame link top ∷ outer) ps at by e)
  read_ended place top [] ((pieces.EndOfFunction n) ∷ ps) at by e = ended_here place top (ends.Power n) (pieces.EndOfFunction n) ps at by refl (some_pair (place, ends.Power n) (at, by) e)
  read_ended place top (g ∷ outer) ((pieces.EndOfFunction n) ∷ ps) at by e =
      ended_on place top (ended all (list_of_frame top) (ends.Power n) g) (g ∷ outer) outer (pieces.EndOfFunction n) ps at by refl refl (read_ended (place + 1) (ended all (list_of_frame top) (ends.Power n) g) outer ps at by e)
  read_ended place top [] ((pieces.EndOfRaisedFunction x) ∷ ps) at by e = ended_here place top (ends.Raised x) (pieces.EndOfRaisedFunction x) ps at by refl (some_pair (place, ends.Raised x) (at, by) e)
  read_ended place top (g ∷ outer) ((pieces.EndOfRaisedFunction x) ∷ ps) at by e =
      ended_on place top (ended all (list_of_frame top) (ends.Raised x) g) (g ∷ outer) outer (pieces.EndOfRaisedFunction x) ps at by refl refl (read_ended (place + 1) (ended all (list_of_frame top) (ends.Raised x) g) outer ps at by e)
  read_ended place top outer ((pieces.Field w) ∷ ps) at by e =
      ended_on place top (argument_into (field_of all w) top) outer outer (pieces.Field w) ps at by refl refl (read_ended (place + 1) (argument_into (field_of all w) top) outer ps at by e)
  read_ended place top outer ((pieces.Index i) ∷ ps) at by e =
      ended_on place top (argument_into (index (index_of all i) ∷ []) top) outer outer (pieces.Index i) ps at by refl refl (read_ended (place + 1) (argument_into (index (index_of all i) ∷ []) top) outer ps at by e)
  read_ended place top outer ((pieces.Vector v) ∷ ps) at by e =
      ended_on place top (argument_into (vector (vector_of all v) ∷ []) top) outer outer (pieces.Vector v) ps at by refl refl (read_ended (place + 1) (argument_into (vector (vector_of all v) ∷ []) top) outer ps at by e)
  read_ended place top outer (pieces.Argument ∷ ps) at by e =
      ended_on place top (in_sum (fresh (limit_of top))) outer (linked_frame links.Times top ∷ outer) pieces.Argument ps at by refl refl (read_ended (place + 1) (in_sum (fresh (limit_of top))) (linked_frame links.Times top ∷ outer) ps at by e)
  read_ended place top [] (pieces.EndOfArgument ∷ ps) at by e = ended_here place top (ends.Power 1) pieces.EndOfArgument ps at by refl (some_pair (place, ends.Power 1) (at, by) e)
  read_ended place top (g ∷ outer) (pieces.EndOfArgument ∷ ps) at by e =
      ended_on place top (ended all (list_of_frame top) (ends.Power 1) g) (g ∷ outer) outer pieces.EndOfArgument ps at by refl refl (read_ended (place + 1) (ended all (list_of_frame top) (ends.Power 1) g) outer ps at by e)
  read_ended place top outer ((pieces.Open link) ∷ ps) at by e =
      ended_on place top (in_sum (fresh (limit_of top))) outer (linked_frame link top ∷ outer) (pieces.Open link) ps at by refl refl (read_ended (place + 1) (in_sum (fresh (limit_of top))) (linked_frame link top ∷ outer) ps at by e)
  read_ended place top [] ((pieces.Close n) ∷ ps) at by e = ended_here place top (ends.Power n) (pieces.Close n) ps at by refl (some_pair (place, ends.Power n) (at, by) e)
  read_ended place top (g ∷ outer) ((pieces.Close n) ∷ ps) at by e =
      ended_on place top (ended all (list_of_frame top) (ends.Power n) g) (g ∷ outer) outer (pieces.Close n) ps at by refl refl (read_ended (place + 1) (ended all (list_of_frame top) (ends.Power n) g) outer ps at by e)
  read_ended place top [] ((pieces.CloseRaised x) ∷ ps) at by e = ended_here place top (ends.Raised x) (pieces.CloseRaised x) ps at by refl (some_pair (place, ends.Raised x) (at, by) e)
  read_ended place top (g ∷ outer) ((pieces.CloseRaised x) ∷ ps) at by e =
      ended_on place top (ended all (list_of_frame top) (ends.Raised x) g) (g ∷ outer) outer (pieces.CloseRaised x) ps at by refl refl (read_ended (place + 1) (ended all (list_of_frame top) (ends.Raised x) g) outer ps at by e)

-- ---- where a product ends

pub ends_here : (rest : List Piece) (piece : Piece) (more : List Piece) → rest ≡ piece ∷ more → begins_product piece ≡ true → EndsProduct rest
ends_here rest piece more e begins = subst EndsProduct (sym e) begins

pub ends_empty : (rest : List Piece) → length rest ≡ 0 → EndsProduct rest
ends_empty [] e = tt
ends_empty (p ∷ ps) e = absurd (omega arith)

pub drop_next : {X : Type 0} (n : ℕ) (xs : List X) → drop 1 (drop n xs) ≡ drop (n + 1) xs
drop_next zero xs = refl
drop_next (suc n) [] = let e : suc n + 1 ≡ suc (n + 1) = omega arith in rw e refl
drop_next (suc n) (x ∷ xs) = let e : suc n + 1 ≡ suc (n + 1) = omega arith in rw e (drop_next n xs)

-- Looking for where a parenthesis ends.

paired : ℕ → Option Ended → Option (ℕ × Ended)
paired place None = None
paired place (Some by) = Some (place, by)

closing_end : (place deep : ℕ) (power : Ended) (piece : Piece) (rest : List Piece) → power_at_end deep piece ≡ Some power → closing_at place deep (piece ∷ rest) ≡ Some (place, power)
unfolding closing_at paired
closing_end place deep power (pieces.Number link value n) rest h = cc
closing_end place deep power (pieces.Symbol link symbol n) rest h = cc
closing_end place deep power (pieces.Wild link symbol is_over n) rest h = cc
closing_end place deep power (pieces.Raised link base by) rest h = cc
closing_end place deep power (pieces.Stored link expression n) rest h = cc
closing_end place deep power (pieces.Imaginary link n) rest h = cc
closing_end place deep power (pieces.Dot link p q n) rest h = cc
closing_end place deep power (pieces.Component link c n) rest h = cc
closing_end place deep power (pieces.Delta link i j n) rest h = cc
closing_end place deep power (pieces.Function link f is_commuting) rest h = cc
closing_end place zero power (pieces.EndOfFunction n) rest h = ap (paired place) h
closing_end place (suc deep) power (pieces.EndOfFunction n) rest h = cc
closing_end place zero power (pieces.EndOfRaisedFunction by) rest h = ap (paired place) h
closing_end place (suc deep) power (pieces.EndOfRaisedFunction by) rest h = cc
closing_end place deep power (pieces.Field w) rest h = cc
closing_end place deep power (pieces.Index i) rest h = cc
closing_end place deep power (pieces.Vector v) rest h = cc
closing_end place deep power pieces.Argument rest h = cc
closing_end place zero power pieces.EndOfArgument rest h = ap (paired place) h
closing_end place (suc deep) power pieces.EndOfArgument rest h = cc
closing_end place deep power (pieces.Open link) rest h = cc
closing_end place zero power (pieces.Close n) rest h = ap (paired place) h
closing_end place (suc deep) power (pieces.Close n) rest h = cc
closing_end place zero power (pieces.CloseRaised by) rest h = ap (paired place) h
closing_end place (suc deep) power (pieces.CloseRaised by) rest h = cc

pub closing_here : (place deep : ℕ) (piece : Piece) (ps rest : List Piece) (power : Ended) → ps ≡ piece ∷ rest → power_at_end deep piece ≡ Some power → closing_at place deep ps ≡ Some (place, power)
closing_here place deep piece ps rest power e ends = ap (closing_at place deep) e ∙ closing_end place deep power piece rest ends

closing_next : (place deep : ℕ) (piece : Piece) (rest : List Piece) → power_at_end deep piece ≡ None → closing_at place deep (piece ∷ rest) ≡ closing_at (place + 1) (deep_behind deep piece) rest
unfolding closing_at
closing_next place deep (pieces.Number link value n) rest h = refl
closing_next place deep (pieces.Symbol link symbol n) rest h = refl
closing_next place deep (pieces.Wild link symbol is_over n) rest h = refl
closing_next place deep (pieces.Raised link base by) rest h = refl
closing_next place deep (pieces.Stored link expression n) rest h = refl
closing_next place deep (pieces.Imaginary link n) rest h = refl
closing_next place deep (pieces.Dot link p q n) rest h = refl
closing_next place deep (pieces.Component link c n) rest h = refl
closing_next place deep (pieces.Delta link i j n) rest h = refl
closing_next place deep (pieces.Function link f is_commuting) rest h = let f : deep + 1 ≡ suc deep = omega arith in rw f refl
closing_next place zero (pieces.EndOfFunction n) rest h = cc
closing_next place (suc deep) (pieces.EndOfFunction n) rest h = let f : suc deep - 1 ≡ deep = omega arith in rw f refl
closing_next place zero (pieces.EndOfRaisedFunction by) rest h = cc
closing_next place (suc deep) (pieces.EndOfRaisedFunction by) rest h = let f : suc deep - 1 ≡ deep = omega arith in rw f refl
closing_next place deep (pieces.Field w) rest h = refl
closing_next place deep (pieces.Index i) rest h = refl
closing_next place deep (pieces.Vector v) rest h = refl
closing_next place deep pieces.Argument rest h = let f : deep + 1 ≡ suc deep = omega arith in rw f refl
closing_next place zero pieces.EndOfArgument rest h = cc
closing_next place (suc deep) pieces.EndOfArgument rest h = let f : suc deep - 1 ≡ deep = omega arith in rw f refl
closing_next place deep (pieces.Open link) rest h = let f : deep + 1 ≡ suc deep = omega arith in rw f refl
closing_next place zero (pieces.Close n) rest h = cc
closing_next place (suc deep) (pieces.Close n) rest h = let f : suc deep - 1 ≡ deep = omega arith in rw f refl
closing_next place zero (pieces.CloseRaised by) rest h = cc
closing_next place (suc deep) (pieces.CloseRaised by) rest h = let f : suc deep - 1 ≡ deep = omega arith in rw f refl

pub closing_on : (place deep : ℕ) (piece : Piece) (ps rest : List Piece) → ps ≡ piece ∷ rest → power_at_end deep piece ≡ None → closing_at place deep ps ≡ closing_at (place + 1) (deep_behind deep piece) rest
closing_on place deep piece ps rest e goes = ap (closing_at place deep) e ∙ closing_next place deep piece rest goes

pub closing_none : (place deep : ℕ) (ps : List Piece) → ps ≡ [] → closing_at place deep ps ≡ None
unfolding closing_at
closing_none place deep ps e = ap (closing_at place deep) e

-- it ends at this place or behind it
closing_past : (place deep : ℕ) (ps : List Piece) (at : ℕ) (by : Ended) → closing_at place deep ps ≡ Some (at, by) → place ≤ at
unfolding closing_at
closing_past place deep [] at by e = absurd (cc)
closing_past place deep (piece ∷ ps) at by e = step (power_at_end deep piece) refl (closing_past (place + 1) (deep_behind deep piece) ps at by)
  where
    step : (end : Option Ended) → power_at_end deep piece ≡ end → (closing_at (place + 1) (deep_behind deep piece) ps ≡ Some (at, by) → place + 1 ≤ at) → place ≤ at
    step (Some power) h later = let pair = some_pair (place, power) (at, by) (sym (closing_end place deep power piece ps h) ∙ e) in omega (arith, pair.0)
    step None h later = omega (arith, later (sym (closing_next place deep piece ps h) ∙ e))

-- what stands behind the end doesn't matter
closing_cut : (place deep : ℕ) (ps : List Piece) (at : ℕ) (by : Ended) → closing_at place deep ps ≡ Some (at, by) → closing_at place deep (take (at - place + 1) ps) ≡ Some (at, by)
unfolding closing_at
closing_cut place deep [] at by e = absurd (cc)
closing_cut place deep (piece ∷ ps) at by e =
    let n : at - place + 1 ≡ suc (at - place) = omega arith in
    ap (λ (k : ℕ). closing_at place deep (take k (piece ∷ ps))) n ∙ step (power_at_end deep piece) refl (closing_cut (place + 1) (deep_behind deep piece) ps at by)
  where
    step : (end : Option Ended) → power_at_end deep piece ≡ end → (closing_at (place + 1) (deep_behind deep piece) ps ≡ Some (at, by) → closing_at (place + 1) (deep_behind deep piece) (take (at - (place + 1) + 1) ps) ≡ Some (at, by))
        → closing_at place deep (piece ∷ take (at - place) ps) ≡ Some (at, by)
    step (Some power) h later = closing_end place deep power piece (take (at - place) ps) h ∙ sym (closing_end place deep power piece ps h) ∙ e
    step None h later =
        let next = sym (closing_next place deep piece ps h) ∙ e in
        let past = closing_past (place + 1) (deep_behind deep piece) ps at by next in
        let k : at - place ≡ at - (place + 1) + 1 = omega (arith, past) in
        closing_next place deep piece (take (at - place) ps) h ∙ ap (λ (j : ℕ). closing_at (place + 1) (deep_behind deep piece) (take j ps)) k ∙ later next

pub closing_whole : (ps : List Piece) (len : ℕ) (by : Ended) → closing_at 0 0 ps ≡ Some (len, by) → closing_at 0 0 (take (len + 1) ps) ≡ Some (len, by)
closing_whole ps len by e =
    let n : len + 1 ≡ len - 0 + 1 = omega arith in
    ap (λ (k : ℕ). closing_at 0 0 (take k ps)) n ∙ closing_cut 0 0 ps len by e

-- how many pieces stand before the end
pub ends_within : (all : Meanings) (ps : List Piece) (len : ℕ) (by : Ended) → closing_at 0 0 ps ≡ Some (len, by) → len < length ps
ends_within all ps len by closes =
    let h = read_ended all (in_sum (fresh 0)) 0 (in_sum (fresh 0)) [] ps len by closes in
    omega (arith, h.within)

-- at most one more is open behind a piece
pub deep_most : (deep : ℕ) (piece : Piece) → deep_behind deep piece ≤ deep + 1
deep_most deep (pieces.Number link value power) = omega arith
deep_most deep (pieces.Symbol link symbol power) = omega arith
deep_most deep (pieces.Wild link symbol is_over power) = omega arith
deep_most deep (pieces.Raised link base by) = omega arith
deep_most deep (pieces.Stored link expression power) = omega arith
deep_most deep (pieces.Imaginary link power) = omega arith
deep_most deep (pieces.Dot link p q power) = omega arith
deep_most deep (pieces.Component link c power) = omega arith
deep_most deep (pieces.Delta link i j power) = omega arith
deep_most deep (pieces.Function link f is_commuting) = omega arith
deep_most deep (pieces.EndOfFunction power) = omega arith
deep_most deep (pieces.EndOfRaisedFunction by) = omega arith
deep_most deep (pieces.Field w) = omega arith
deep_most deep (pieces.Index i) = omega arith
deep_most deep (pieces.Vector v) = omega arith
deep_most deep pieces.Argument = omega arith
deep_most deep pieces.EndOfArgument = omega arith
deep_most deep (pieces.Open link) = omega arith
deep_most deep (pieces.Close power) = omega arith
deep_most deep (pieces.CloseRaised by) = omega arith
