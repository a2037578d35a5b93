-- What is read of a right side from the front, and joined terms that have its list.
use Rattle.std.proofs.Common.{◌≡◌, ℕ, ◌+◌, ◌-◌, ◌<◌, ◌≤◌, Bool, true, false, List, [], ◌∷◌, ◌++◌, length, map, take, drop, refl, sym, ap, subst, ◌∙◌, arith}
use Rattle.std.specs.Prelude.{Option, Some, None, Result, Ok, Err, IfOk, IfSome}
use Rattle.std.specs.Borrow.{Bor}
use Rattle.std.specs.Global.{Vec}
use Rattle.std.proofs.lemmas.List.{nil_from_length}
use Rattle.form_tree.specs.declared.tree.Link.{Link}
use Rattle.form_tree.specs.declared.tree.Link.TheVariants as links
use Rattle.form_tree.specs.declared.tree.Piece.{Piece}
use Rattle.form_tree.specs.declared.tree.Piece.TheVariants as pieces
use Rattle.form_expand.specs.declared.ended.Ended.TheVariants as ends
use Rattle.form_expand.specs.Closings.{closing_at}
use Rattle.form_expand.specs.Left.{row, row_behind}
use Rattle.form_expand.specs.Listing.{Listing, nothing, limited, followed, pairs, powers, signed}
use Rattle.form_expand.specs.Meanings.{Meanings}
use Rattle.form_expand.specs.Readers.{EndsProduct, IsReadFactor, in_product, is_minus_link, is_minus_piece, product_part}
use Rattle.form_expand.specs.Reading.{begins_product, fed, fresh, in_sum, link_of_piece, list_of_pieces, read_from}
use Rattle.form_expand.proofs.Behind.{goes_on, limited_pieces, pieces_of_none, read_ends, read_first, read_further}
use Rattle.form_expand.proofs.Called.{piece_alone}
use Rattle.form_expand.proofs.Listings.{followed_assoc, followed_last, followed_nothing, limited_followed_last, limited_powers}
use Rattle.form_expand.proofs.Parenthesized.{read_ended}
use Rattle.form_expand.proofs.Rows.{row_push}
use Rattle.form_expand.proofs.Streamed.{signed_plus}
use Rattle.form_gathered.specs.Joined.{IsShare}
use Rattle.form_gathered.specs.declared.joined.JoinedTerm.{JoinedTerm}
use Rattle.form_gathered.proofs.Joining.{none_stand}
use Rattle.form_joined.specs.Products.{HasList, turned}
use Rattle.form_joined.proofs.Lists.{lists_beside}
use Rattle.form_sides.specs.Pieces.{HasPiece}
use Rattle.form_sides.specs.Parts.{HasFactor, HasFront, HasPart, HasPowered, IsSigned, ReadsFactor, ReadsParenthesis, is_no_longer, is_shorter}
use Rattle.form_sides.specs.Products.{HaveWithin}
use Rattle.form_sides.specs.declared.sums.Read.{Read}
use Rattle.form_sides.specs.declared.sums.Read.TheVariants.{Further, Unknown}

module _ (max : ℕ) (all : Meanings) where
  -- ---- sums

  pub part_none : (ps : List Piece) (js : List JoinedTerm) → js ≡ [] → HasPart max all ps js ps
  part_none ps js none = record {
    list = nothing;
    has = subst (HasList nothing) (sym none) (refl, none_stand (IsShare 1) 1);
    read = sym (ap (limited max) (followed_nothing (list_of_pieces max all ps)) ∙ limited_pieces max all ps);
  }

  pub part_more : (ps mid rest : List Piece) (js ks both : List JoinedTerm) → both ≡ js ++ ks → HasPart max all ps js mid → HasPart max all mid ks rest → HasPart max all ps both rest
  part_more ps mid rest js ks both e a b = record {
    list = followed a.list b.list;
    has = subst (HasList (followed a.list b.list)) (sym e) (lists_beside js ks a.list b.list a.has b.has);
    read =
        a.read ∙ ap (λ (l : Listing). limited max (followed a.list l)) b.read
        ∙ limited_followed_last max max a.list (followed b.list (list_of_pieces max all rest)) (omega arith)
        ∙ ap (limited max) (sym (followed_assoc a.list b.list (list_of_pieces max all rest)));
  }

  part_whole : (ps rest : List Piece) (js : List JoinedTerm) → length rest ≡ 0 → (a : HasPart max all ps js rest) → list_of_pieces max all ps ≡ limited max a.list
  part_whole ps rest js none a =
      a.read ∙ ap (λ (qs : List Piece). limited max (followed a.list (list_of_pieces max all qs))) (nil_from_length rest none)
      ∙ ap (λ (l : Listing). limited max (followed a.list l)) (pieces_of_none max all) ∙ ap (limited max) (followed_last a.list)

  pub sum_read : {E : Type 0} (ps rest : List Piece) (js : List JoinedTerm) (r : Result (Option (Vec JoinedTerm)) E) → length rest ≡ 0 → HasPart max all ps js rest
      → IfOk r (λ made. IfSome made (λ ks. HaveWithin max js ks.items)) → IfOk r (λ made. IfSome made (λ ks. HasList (list_of_pieces max all ps) ks.items))
  sum_read ps rest js (Ok (Some ks)) none a h = subst (λ (l : Listing). HasList l ks.items) (sym (part_whole ps rest js none a)) (h a.list a.has)
  sum_read ps rest js (Ok None) none a h = tt
  sum_read ps rest js (Err e) none a h = tt

  -- ---- products

  pub front_first : (piece : Piece) (more rest : List Piece) (js : List JoinedTerm) → HasFactor max (IsReadFactor max all piece more) js rest → HasFront max all piece more js rest
  unfolding row row_behind
  front_first piece more rest js h = record { first = h.list; later = []; has = subst (λ (l : Listing). HasList l js) (sym h.within) h.has; read = h.read [] }

  pub front_more : (piece next : Piece) (more from behind rest : List Piece) (js ks ls : List JoinedTerm) → from ≡ next ∷ behind → begins_product next ≡ false
      → (h : HasFront max all piece more js from) → (g : HasFactor max (IsReadFactor max all next behind) ks rest) → HasList (limited max (pairs (row max (h.first ∷ h.later)) g.list)) ls
      → HasFront max all piece more ls rest
  front_more piece next more from behind rest js ks ls e further h g made = record {
    first = h.first;
    later = h.later ++ g.list ∷ [];
    has = subst (λ (l : Listing). HasList l ls) (sym (row_push max h.first h.later g.list)) made;
    read = λ m.
        h.read m ∙ ap (read_from all (in_product max m (h.first ∷ h.later))) e
        ∙ read_further max all m (h.first ∷ h.later) next behind (goes_on (link_of_piece next) further) ∙ g.read (h.first ∷ h.later) m;
  }

  pub front_part : (piece : Piece) (more rest : List Piece) (js ks : List JoinedTerm) (m : Bool) → is_minus_piece piece ≡ m → EndsProduct rest
      → (h : HasFront max all piece more js rest) → HasList (signed m (row max (h.first ∷ h.later))) ks → HasPart max all (piece ∷ more) ks rest
  front_part piece more rest js ks m e ends h has = record {
    list = signed m (row max (h.first ∷ h.later));
    has = has;
    read =
        read_first max all piece more ∙ h.read (is_minus_piece piece) ∙ read_ends max all (is_minus_piece piece) (h.first ∷ h.later) rest ends
        ∙ ap (λ (n : Bool). limited max (followed (signed n (row max (h.first ∷ h.later))) (list_of_pieces max all rest))) e;
  }

  -- ---- factors

  pub piece_read : (piece : Piece) (more : List Piece) (js : List JoinedTerm) → HasPiece max all piece js → HasFactor max (IsReadFactor max all piece more) js more
  piece_read piece more js h = record {
    list = powers max h.list h.power;
    has = h.has;
    within = limited_powers max h.list h.power;
    read = λ old m. piece_alone all piece h.list h.power h.is max m old more;
  }

  pub open_read : (link : Link) (more : List Piece) (r : Read) → ReadsParenthesis max all more r → ReadsFactor max all (pieces.Open link) more r
  unfolding read_from fed
  open_read link more (Further js rest) h = record { list = h.list; has = h.has; within = h.within; read = h.read }
  open_read link more Unknown h = tt

  pub parenthesis_read : (ps : List Piece) (len power : ℕ) (js : List JoinedTerm) → closing_at 0 0 ps ≡ Some (len, ends.Power power) → HasList (list_of_pieces max all (take len ps)) js
      → (r : Read) → HasPowered max js power (drop (len + 1) ps) r → ReadsParenthesis max all ps r
  parenthesis_read ps len power js e has (Further ks rest) h =
      let sum = list_of_pieces max all (take len ps) in
      record {
        list = powers max sum power;
        has = h.0 sum has;
        within = limited_powers max sum power;
        read = λ old m.
            let g = read_ended all (in_sum (product_part max m old)) 0 (in_sum (fresh max)) [] ps len (ends.Power power) e in
            let z : len - 0 ≡ len = omega arith in
            let here = rw z at g.read in
            here ∙ ap (read_from all (in_product max m (old ++ powers max sum power ∷ []))) (sym h.1);
      }
  parenthesis_read ps len power js e has Unknown h = tt

-- how far a sum in parentheses reaches
pub ended_within : (all : Meanings) (ps : List Piece) (len power : ℕ) → closing_at 0 0 ps ≡ Some (len, ends.Power power) → len < length ps
ended_within all ps len power e = let h = (read_ended all (in_sum (product_part 0 false [])) 0 (in_sum (fresh 0)) [] ps len (ends.Power power) e).within in omega (arith, h)

pub powered_shorter : (max n : ℕ) (js : List JoinedTerm) (rest ps : List Piece) → length rest ≤ length ps → (r : Read) → HasPowered max js n rest r → is_no_longer ps r
powered_shorter max n js rest ps short (Further ks left) h = rw h.1 short
powered_shorter max n js rest ps short Unknown h = tt

-- behind fewer pieces
pub shorter_behind : (ps rest : List Piece) → length rest < length ps → (r : Read) → is_no_longer rest r → is_shorter ps r
shorter_behind ps rest less (Further js left) h = omega (arith, less, h)
shorter_behind ps rest less Unknown h = tt

-- ---- signs

pub minus_signed : ((js : List JoinedTerm) (l : Listing) → HasList l js → HasList (signed true l) (map turned js))
    → (list new : Vec JoinedTerm) (rest : Bor (List Piece)) → new.items ≡ map turned list.items → IsSigned links.Minus (Further list rest) (Further new rest)
minus_signed law list new rest is max all piece more e h =
    let row = row max (h.0.first ∷ h.0.later) in
    front_part max all piece more rest.now list.items new.items true e h.1 h.0 (subst (HasList (signed true row)) (sym is) (law list.items row h.0.has))

pub plus_signed : (link : Link) → is_minus_link link ≡ false → (r : Read) → IsSigned link r r
plus_signed link plus (Further list rest) max all piece more e h =
    let row = row max (h.0.first ∷ h.0.later) in
    front_part max all piece more rest.now list.items list.items false (e ∙ plus) h.1 h.0 (subst (λ (l : Listing). HasList l list.items) (sym (signed_plus row)) h.0.has)
plus_signed link plus Unknown max all piece more e h = tt
