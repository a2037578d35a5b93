-- The order of dot products, by their first ones.
use Rattle.std.proofs.Common.{◌≡◌, ◌≢◌, List, [], ◌∷◌, ◌++◌, map}
use Rattle.std.specs.Cmp.Lexicographic.{slice_cmp}
use Rattle.std.specs.declared.cmp.Ordering.TheVariants.{Equal}
use Rattle.form_term.specs.declared.power.DotPower.{DotPower}
use Rattle.form_term.specs.Pieces.{piece_order, piece_of_dot}
use Rattle.form_term.specs.Term.{dots_order, end_of_term}
use Rattle.form_term.specs.SymbolLaws.{then_first, then_next}
use Rattle.form_term.specs.TermLaws.{dot_before_end, end_before_dot}

pub dots_left : (d : DotPower) (ds : List DotPower) → dots_order (d ∷ ds) [] ≡ piece_order (piece_of_dot d) end_of_term
dots_left d ds = then_first (piece_order (piece_of_dot d) end_of_term) (slice_cmp piece_order (map piece_of_dot ds ++ end_of_term ∷ []) []) (dot_before_end d)

pub dots_right : (d : DotPower) (ds : List DotPower) → dots_order [] (d ∷ ds) ≡ piece_order end_of_term (piece_of_dot d)
dots_right d ds = then_first (piece_order end_of_term (piece_of_dot d)) (slice_cmp piece_order [] (map piece_of_dot ds ++ end_of_term ∷ [])) (end_before_dot d)

pub dots_first : (d : DotPower) (ds : List DotPower) (f : DotPower) (fs : List DotPower) → piece_order (piece_of_dot d) (piece_of_dot f) ≢ Equal → dots_order (d ∷ ds) (f ∷ fs) ≡ piece_order (piece_of_dot d) (piece_of_dot f)
dots_first d ds f fs differ = then_first (piece_order (piece_of_dot d) (piece_of_dot f)) (dots_order ds fs) differ

pub dots_next : (d : DotPower) (ds : List DotPower) (f : DotPower) (fs : List DotPower) → piece_order (piece_of_dot d) (piece_of_dot f) ≡ Equal → dots_order (d ∷ ds) (f ∷ fs) ≡ dots_order ds fs
dots_next d ds f fs same = then_next (piece_order (piece_of_dot d) (piece_of_dot f)) (dots_order ds fs) same
