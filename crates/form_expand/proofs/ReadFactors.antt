-- Reading a product factor by factor.
use Rattle.std.proofs.Common.{◌≡◌, ℕ, suc, ◌+◌, ◌-◌, ◌<◌, Bool, false, List, [], ◌∷◌, ◌++◌, length, take, drop, refl, sym, ap, subst, ◌∙◌, arith}
use Rattle.std.specs.Prelude.{Some, None, Result, Ok, Err, IfOk}
use Rattle.std.specs.Borrow.{Bor}
use Rattle.std.proofs.lemmas.List.{drop-take}
use Rattle.form_tree.specs.declared.tree.Link.{Link}
use Rattle.form_tree.specs.declared.tree.Link.TheVariants as links
use Rattle.form_tree.specs.declared.tree.Piece.{Piece}
use Rattle.form_tree.specs.declared.tree.Piece.TheVariants as pieces
use Rattle.form_expand.specs.declared.ended.Ended.{Ended}
use Rattle.form_expand.specs.Bound.{powered, powered_by}
use Rattle.form_expand.specs.Closings.{closing_at}
use Rattle.form_expand.specs.Factors.{IsSameRow}
use Rattle.form_expand.specs.Left.{row, row_behind}
use Rattle.form_expand.specs.Listing.{Listing, limited, powers}
use Rattle.form_expand.specs.Meanings.{Meanings, function_of}
use Rattle.form_expand.specs.Pieces.{BeginsWith, list_of_piece}
use Rattle.form_expand.specs.Reading.{in_sum, in_function, calling, closed, fed, fresh, read_from, list_of_pieces, link_of_piece, begins_product}
use Rattle.form_expand.specs.Readers.{BeginsSum, IsRead, IsReadAt, IsReadFactor, IsReadFunction, IsReadOn, IsSignedFirst, is_minus_link, is_minus_piece, joined, product_part, in_product, in_frame, list_of_calling}
use Rattle.form_expand.proofs.Behind.{goes_on, read_ends, read_first, read_further, read_none, read_put}
use Rattle.form_expand.proofs.Called.{opens, piece_alone, piece_passed}
use Rattle.form_expand.proofs.Listings.{followed_nothing, limited_powers, take_take}
use Rattle.form_expand.proofs.Parenthesized.{closing_whole, read_ended, read_unended}
use Rattle.form_expand.proofs.Streamed.{signed_plus}

-- ---- signs

pub signed_none : (ps : List Piece) (factors : List Listing) → factors ≡ [] → IsSignedFirst ps factors
signed_none [] factors e = tt
signed_none (p ∷ ps) factors e = λ some. absurd (some e)

module _ (max : ℕ) (all : Meanings) where
  -- ---- a factor, and the product

  factor_at : (ps : List Piece) (piece : Piece) (more : List Piece) (old new : List Listing) (rest : List Piece) → ps ≡ piece ∷ more → IsReadAt max all ps old new rest → IsReadFactor max all piece more old new rest
  factor_at ps piece more old new rest e h = subst (λ (qs : List Piece). IsReadAt max all qs old new rest) e h

  at_factor : (ps : List Piece) (piece : Piece) (more : List Piece) (old new : List Listing) (rest : List Piece) → ps ≡ piece ∷ more → IsReadFactor max all piece more old new rest → IsReadAt max all ps old new rest
  at_factor ps piece more old new rest e h = subst (λ (qs : List Piece). IsReadAt max all qs old new rest) (sym e) h

  -- a further factor
  pub read_next : (is_minus : Bool) (ps : List Piece) (piece : Piece) (more : List Piece) (old new : List Listing) (rest : List Piece) → ps ≡ piece ∷ more → begins_product piece ≡ false → IsReadAt max all ps old new rest
      → read_from all (in_product max is_minus old) ps ≡ read_from all (in_product max is_minus new) rest
  read_next is_minus ps piece more old new rest e on h =
      ap (read_from all (in_product max is_minus old)) e ∙ read_further max all is_minus old piece more (goes_on (link_of_piece piece) on) ∙ factor_at ps piece more old new rest e h is_minus

  pub product_read : (ps : List Piece) (first : Piece) (more : List Piece) (old new last : List Listing) (here rest : List Piece) → ps ≡ first ∷ more → old ≡ [] → IsReadAt max all ps old new here → IsReadOn max all here new last rest
      → IsRead max all ps (is_minus_piece first) last rest
  product_read ps first more old new last here rest e none h on =
      let m = is_minus_piece first in
      ap (list_of_pieces max all) e ∙ read_first max all first more
      ∙ ap (λ (ls : List Listing). read_from all (in_product max m ls) (joined first ∷ more)) (sym none)
      ∙ factor_at ps first more old new here e h m ∙ on.0 m ∙ read_ends max all m last rest on.1

  pub nothing_read : (ps : List Piece) (factors : List Listing) → ps ≡ [] → factors ≡ [] → IsRead max all ps false factors ps
  nothing_read ps factors e none =
      subst (λ (qs : List Piece). IsRead max all qs false factors qs) (sym e)
      (subst (λ (ls : List Listing). IsRead max all [] false ls []) (sym none) (read_ends max all false [] [] tt))

  -- ---- a factor that is one piece

  pub piece_put : (ps : List Piece) (piece : Piece) (more : List Piece) (l : Listing) (power : ℕ) (old new : List Listing) → ps ≡ piece ∷ more → list_of_piece all piece ≡ Some (l, power) → IsSameRow max (old ++ powers max l power ∷ []) new
      → IsReadAt max all ps old new more
  piece_put ps piece more l power old new e is same =
      at_factor ps piece more old new more e (λ m. piece_alone all piece l power is max m old more ∙ read_put max all m (old ++ powers max l power ∷ []) new more same)

  pub piece_kept : (ps : List Piece) (piece : Piece) (more : List Piece) (factors : List Listing) → ps ≡ piece ∷ more → list_of_piece all piece ≡ None → opens piece ≡ false → IsReadAt max all ps factors factors more
  piece_kept ps piece more factors e none shut = at_factor ps piece more factors factors more e (λ m. piece_passed all piece none shut max m factors more)

  -- ---- a sum of one factor

  factor_alone : (l : Listing) (power : ℕ) → read_from all (in_product max false (powers max l power ∷ [])) [] ≡ powers max l power
  unfolding closed row row_behind
  factor_alone l power =
      let product = powers max l power in
      read_none all (in_product max false (product ∷ []))
      ∙ ap (limited max) (followed_nothing _ ∙ signed_plus (limited max product) ∙ limited_powers max l power)
      ∙ limited_powers max l power

  -- a piece that begins a further factor as a sum alone
  alone_first : (piece : Piece) (more : List Piece) → link_of_piece piece ≡ links.Times → list_of_pieces max all (piece ∷ more) ≡ read_from all (in_product max false []) (joined piece ∷ more)
  alone_first piece more e = read_first max all piece more ∙ ap (λ (m : Bool). read_from all (in_product max m []) (joined piece ∷ more)) (ap is_minus_link e)

  pub piece_sum : (ps own : List Piece) (l : Listing) (power : ℕ) (factors : List Listing) → BeginsWith all l power ps → own ≡ take 1 ps → IsSignedFirst ps factors → (factors ≡ [] → ⊥) → list_of_pieces max all own ≡ powers max l power
  piece_sum [] own l power factors is front sign later = absurd is
  piece_sum (piece ∷ more) own l power factors is front sign later =
      ap (list_of_pieces max all) front ∙ alone_first piece [] (sign later) ∙ piece_alone all piece l power is max false [] [] ∙ factor_alone l power

  -- ---- a factor in parentheses

  opened_sum : (piece : Piece) (more : List Piece) → BeginsSum (piece ∷ more) → (m : Bool) (factors : List Listing)
      → read_from all (in_product max m factors) (joined piece ∷ more) ≡ read_from all (in_frame (in_sum (fresh max)) max m factors) more
  unfolding read_from fed
  opened_sum (pieces.Open link) more h m factors = refl
  opened_sum pieces.Argument more h m factors = refl
  opened_sum _ more h m factors = absurd h

  begins_also : (piece : Piece) (more cut : List Piece) → BeginsSum (piece ∷ more) → BeginsSum (piece ∷ cut)
  begins_also (pieces.Open link) more cut h = tt
  begins_also pieces.Argument more cut h = tt
  begins_also _ more cut h = absurd h

  pub begins_some : (ps : List Piece) → BeginsSum ps → 0 < length ps
  begins_some [] h = absurd h
  begins_some (piece ∷ more) h = omega arith

  -- it isn't ended
  pub sum_unended : (ps behind : List Piece) (factors : List Listing) → BeginsSum ps → behind ≡ drop 1 ps → closing_at 0 0 behind ≡ None → IsReadAt max all ps factors factors []
  sum_unended [] behind factors h is none = absurd h
  sum_unended (piece ∷ more) behind factors h is none = λ m.
      opened_sum piece more h m factors
      ∙ read_unended all (in_sum (product_part max m factors)) 0 (in_sum (fresh max)) [] more (ap (closing_at 0 0) (sym is) ∙ none)
      ∙ sym (read_none all (in_product max m factors))

  module _ (ps behind within : List Piece) (len : ℕ) (end : Ended) (begins : BeginsSum ps) (is : behind ≡ drop 1 ps) (ends : closing_at 0 0 behind ≡ Some (len, end)) (front : within ≡ take len behind) where
    abbrev power_list : Listing
    power_list = powered max (powered_by all end (list_of_pieces max all within))

    pub sum_put : (rest : List Piece) (old new : List Listing) → rest ≡ drop (len + 1) behind → IsSameRow max (old ++ power_list ∷ []) new → IsReadAt max all ps old new rest
    sum_put rest old new last same = put ps begins is
      where
        put : (qs : List Piece) → BeginsSum qs → behind ≡ drop 1 qs → IsReadAt max all qs old new rest
        put [] b is = absurd b
        put (piece ∷ more) b is = λ m.
            let h = read_ended all (in_sum (product_part max m old)) 0 (in_sum (fresh max)) [] more len end (ap (closing_at 0 0) (sym is) ∙ ends) in
            let e : len - 0 ≡ len = omega arith in
            let here = rw e at h.read in
            let behind_it : drop (len + 1) more ≡ rest = ap (drop (len + 1)) (sym is) ∙ sym last in
            opened_sum piece more b m old
            ∙ here
            ∙ ap (λ (qs : List Piece). read_from all (in_product max m (old ++ powered max (powered_by all end (list_of_pieces max all qs)) ∷ [])) (drop (len + 1) more)) (ap (take len) (sym is) ∙ sym front)
            ∙ ap (read_from all (in_product max m (old ++ power_list ∷ []))) behind_it
            ∙ read_put max all m (old ++ power_list ∷ []) new rest same

    -- as a sum alone
    pub sum_alone : (own : List Piece) (n : ℕ) (factors : List Listing) → own ≡ take n ps → n ≡ len + 2 → IsSignedFirst ps factors → (factors ≡ [] → ⊥) → list_of_pieces max all own ≡ power_list
    sum_alone own n factors all_of whole sign later = alone ps begins is all_of sign
      where
        alone : (qs : List Piece) → BeginsSum qs → behind ≡ drop 1 qs → own ≡ take n qs → IsSignedFirst qs factors → list_of_pieces max all own ≡ power_list
        alone [] b is front_of sign = absurd b
        alone (piece ∷ more) b is front_of sign =
            let cut = take (len + 1) more in
            let h = read_ended all (in_sum (product_part max false [])) 0 (in_sum (fresh max)) [] cut len end (closing_whole more len end (ap (closing_at 0 0) (sym is) ∙ ends)) in
            let e : len - 0 ≡ len = omega arith in
            let long : n ≡ suc (len + 1) = omega (arith, whole) in
            let here = rw e at h.read in
            let z : len + 1 + 0 ≡ len + 1 = omega arith in
            let none : drop (len + 1) cut ≡ [] = ap (λ (k : ℕ). drop (len + 1) (take k more)) (sym z) ∙ drop-take (len + 1) 0 more in
            ap (list_of_pieces max all) (front_of ∙ ap (λ (k : ℕ). take k (piece ∷ more)) long)
            ∙ alone_first piece cut (sign later)
            ∙ opened_sum piece cut (begins_also piece more cut b) false []
            ∙ here
            ∙ ap (λ (qs : List Piece). read_from all (in_product max false (powered max (powered_by all end (list_of_pieces max all qs)) ∷ [])) (drop (len + 1) cut)) (take_take len (len + 1) more (omega arith) ∙ ap (take len) (sym is) ∙ sym front)
            ∙ ap (read_from all (in_product max false (power_list ∷ []))) none
            ∙ factor_alone ((powered_by all end (list_of_pieces max all within)).0) ((powered_by all end (list_of_pieces max all within)).1)

  -- ---- a function

  function_at : (ps : List Piece) (piece : Piece) (more : List Piece) (link : Link) (f g : ℕ) (is_commuting : Bool) (old new : List Listing) (rest : List Piece) → ps ≡ piece ∷ more → piece ≡ pieces.Function link f is_commuting → g ≡ function_of all f
      → IsReadFunction g is_commuting max all more old new rest → IsReadAt max all ps old new rest
  unfolding read_from fed
  function_at ps piece more link f g is_commuting old new rest e is named h =
      at_factor ps (pieces.Function link f is_commuting) more old new rest (e ∙ ap (λ p. p ∷ more) is) (subst (λ (n : ℕ). IsReadFunction n is_commuting max all more old new rest) named h)

  pub function_unended : (f : ℕ) (is_commuting : Bool) (ps : List Piece) (factors : List Listing) → closing_at 0 0 ps ≡ None → IsReadFunction f is_commuting max all ps factors factors []
  function_unended f is_commuting ps factors none = λ m.
      read_unended all (in_sum (product_part max m factors)) 0 (in_function (calling max f is_commuting)) [] ps none ∙ sym (read_none all (in_product max m factors))

  pub function_put : (f : ℕ) (is_commuting : Bool) (ps within rest : List Piece) (len : ℕ) (end : Ended) (old new : List Listing) → closing_at 0 0 ps ≡ Some (len, end) → within ≡ take len ps → rest ≡ drop (len + 1) ps
      → IsSameRow max (old ++ powered max (powered_by all end (list_of_calling all (calling max f is_commuting) within)) ∷ []) new → IsReadFunction f is_commuting max all ps old new rest
  function_put f is_commuting ps within rest len end old new ends front behind same = λ m.
      let k = calling max f is_commuting in
      let h = read_ended all (in_sum (product_part max m old)) 0 (in_function k) [] ps len end ends in
      let e : len - 0 ≡ len = omega arith in
      let here = rw e at h.read in
      let product = old ++ powered max (powered_by all end (list_of_calling all k within)) ∷ [] in
      here
      ∙ ap (λ (qs : List Piece). read_from all (in_product max m (old ++ powered max (powered_by all end (list_of_calling all k qs)) ∷ [])) (drop (len + 1) ps)) (sym front)
      ∙ ap (read_from all (in_product max m product)) (sym behind)
      ∙ read_put max all m product new rest same

pub function_read : {E : Type 0} (r : Result (Bor (List Piece)) E) (max : ℕ) (all : Meanings) (ps : List Piece) (piece : Piece) (more : List Piece) (link : Link) (f g : ℕ) (is_commuting : Bool) (old new : List Listing) → ps ≡ piece ∷ more → piece ≡ pieces.Function link f is_commuting → g ≡ function_of all f
    → IfOk r (λ rest. IsReadFunction g is_commuting max all more old new rest.now) → IfOk r (λ rest. IsReadAt max all ps old new rest.now)
function_read (Ok rest) max all ps piece more link f g is_commuting old new e is named h = function_at max all ps piece more link f g is_commuting old new rest.now e is named h
function_read (Err failed) max all ps piece more link f g is_commuting old new e is named h = tt
