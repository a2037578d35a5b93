-- Names at their places, in a term and in the pieces that it is kept as.
use Rattle.std.proofs.Common.{Bool, true, false, List, [], ◌∷◌, ◌++◌, map, if◌then◌else◌, refl, sym, subst, append-nil}
use Rattle.std.specs.Prelude.{flat_map}
use Rattle.std.specs.Int.{is_negative}
use Rattle.std.specs.List.{AllByRecursion}
use Rattle.std.proofs.lemmas.List.Elements.{recursion_from_All, All-from_recursion}
use Rattle.form_term.specs.declared.power.Power.{Power}
use Rattle.form_term.specs.declared.power.DotPower.{DotPower}
use Rattle.form_term.specs.declared.piece.Piece.{Piece}
use Rattle.form_term.specs.declared.piece.Piece.TheVariants as pieces
use Rattle.form_term.specs.Pieces.{piece_of_power, piece_of_dot}
use Rattle.form_term.specs.Term.{Term, Call, Summand, Argument, index, vector, expression, AreArguments, IsArgumentOf, IsTerm, pieces_of_call, pieces_of_term, pieces_of_summand, pieces_of_argument, pieces_of_arguments}
use Rattle.form_term.specs.Arguments.{arguments_of}
use Rattle.form_term.specs.Named.{Places, function_place, word_place, IsPowerNamed, IsDotNamed, IsComponentNamed, IsDeltaNamed, IsPieceNamed, ArePiecesNamed, IsCallNamed, IsNamed, IsArgumentNamed, IsSoundArgument, AreSoundPieces}
use Rattle.form_term.proofs.Each.{each_append, in_front, at_back, each_map, map_each, each_flat, flat_each, each_weaker}
use Rattle.form_term.proofs.ReadBack.{end_of, read_back}

module _ (names : Places) where
  -- ---- factors as pieces

  power_piece : (p : Power) → IsPowerNamed names p → IsPieceNamed names (piece_of_power p)
  power_piece p h = by (is_negative p.exponent)
    where
      by : (b : Bool) → IsPieceNamed names (if b then pieces.Negative p else pieces.Positive (record { 0 = p.symbol }) p.exponent)
      by true = h
      by false = h

  piece_power : (p : Power) → IsPieceNamed names (piece_of_power p) → IsPowerNamed names p
  piece_power p h = by (is_negative p.exponent) h
    where
      by : (b : Bool) → IsPieceNamed names (if b then pieces.Negative p else pieces.Positive (record { 0 = p.symbol }) p.exponent) → IsPowerNamed names p
      by true k = k
      by false k = k

  dot_piece : (d : DotPower) → IsDotNamed names d → IsPieceNamed names (piece_of_dot d)
  dot_piece d h = by (is_negative d.exponent)
    where
      by : (b : Bool) → IsPieceNamed names (if b then pieces.NegativeDot d else pieces.PositiveDot (record { 0 = d.left }) (record { 0 = d.right }) d.exponent)
      by true = h
      by false = h

  piece_dot : (d : DotPower) → IsPieceNamed names (piece_of_dot d) → IsDotNamed names d
  piece_dot d h = by (is_negative d.exponent) h
    where
      by : (b : Bool) → IsPieceNamed names (if b then pieces.NegativeDot d else pieces.PositiveDot (record { 0 = d.left }) (record { 0 = d.right }) d.exponent) → IsDotNamed names d
      by true k = k
      by false k = k

  function_pieces : (c : Call) → IsCallNamed function_place names c → ArePiecesNamed names (pieces_of_call pieces.Function c)
  function_pieces c h = (h.0, each_append (IsPieceNamed names) c.pieces (pieces.EndOfArguments ∷ []) h.1 (tt, tt))

  pieces_function : (c : Call) → ArePiecesNamed names (pieces_of_call pieces.Function c) → IsCallNamed function_place names c
  pieces_function c h = (h.0, in_front (IsPieceNamed names) c.pieces (pieces.EndOfArguments ∷ []) h.1)

  letter_pieces : (c : Call) → IsCallNamed word_place names c → ArePiecesNamed names (pieces_of_call pieces.NonCommuting c)
  letter_pieces c h = (h.0, each_append (IsPieceNamed names) c.pieces (pieces.EndOfArguments ∷ []) h.1 (tt, tt))

  pieces_letter : (c : Call) → ArePiecesNamed names (pieces_of_call pieces.NonCommuting c) → IsCallNamed word_place names c
  pieces_letter c h = (h.0, in_front (IsPieceNamed names) c.pieces (pieces.EndOfArguments ∷ []) h.1)

  -- ---- terms

  imaginary_piece : (b : Bool) → ArePiecesNamed names (if b then pieces.Imaginary ∷ [] else [])
  imaginary_piece true = (tt, tt)
  imaginary_piece false = tt

  module _ (t : Term) where
    abbrev first : List Piece
    first = if t.others.is_imaginary then pieces.Imaginary ∷ [] else []

    abbrev second : List Piece
    second = first ++ map piece_of_power t.symbols

    abbrev third : List Piece
    third = second ++ map piece_of_dot t.others.dots

    abbrev fourth : List Piece
    fourth = third ++ map pieces.Component t.others.components

    abbrev fifth : List Piece
    fifth = fourth ++ map pieces.Delta t.others.deltas

    abbrev sixth : List Piece
    sixth = fifth ++ flat_map (pieces_of_call pieces.Function) t.others.functions

    pub term_pieces : IsNamed names t → ArePiecesNamed names (pieces_of_term t)
    term_pieces h =
        let P = IsPieceNamed names in
        let powers = each_map (IsPowerNamed names) P piece_of_power power_piece t.symbols h.symbols in
        let dots = each_map (IsDotNamed names) P piece_of_dot dot_piece t.others.dots h.dots in
        let components = each_map (IsComponentNamed names) P pieces.Component (λ c k. k) t.others.components h.components in
        let deltas = each_map (IsDeltaNamed names) P pieces.Delta (λ d k. k) t.others.deltas h.deltas in
        let functions = each_flat (IsCallNamed function_place names) P (pieces_of_call pieces.Function) function_pieces t.others.functions h.functions in
        let word = each_flat (IsCallNamed word_place names) P (pieces_of_call pieces.NonCommuting) letter_pieces t.others.word h.word in
        each_append P sixth (flat_map (pieces_of_call pieces.NonCommuting) t.others.word)
        (each_append P fifth (flat_map (pieces_of_call pieces.Function) t.others.functions)
        (each_append P fourth (map pieces.Delta t.others.deltas)
        (each_append P third (map pieces.Component t.others.components)
        (each_append P second (map piece_of_dot t.others.dots)
        (each_append P first (map piece_of_power t.symbols) (imaginary_piece t.others.is_imaginary) powers) dots) components) deltas) functions) word

    pub pieces_term : ArePiecesNamed names (pieces_of_term t) → IsNamed names t
    pieces_term h =
        let P = IsPieceNamed names in
        let six = in_front P sixth (flat_map (pieces_of_call pieces.NonCommuting) t.others.word) h in
        let five = in_front P fifth (flat_map (pieces_of_call pieces.Function) t.others.functions) six in
        let four = in_front P fourth (map pieces.Delta t.others.deltas) five in
        let three = in_front P third (map pieces.Component t.others.components) four in
        let two = in_front P second (map piece_of_dot t.others.dots) three in
        record {
          symbols = map_each (IsPowerNamed names) P piece_of_power piece_power t.symbols (at_back P first (map piece_of_power t.symbols) two);
          dots = map_each (IsDotNamed names) P piece_of_dot piece_dot t.others.dots (at_back P second (map piece_of_dot t.others.dots) three);
          components = map_each (IsComponentNamed names) P pieces.Component (λ c k. k) t.others.components (at_back P third (map pieces.Component t.others.components) four);
          deltas = map_each (IsDeltaNamed names) P pieces.Delta (λ d k. k) t.others.deltas (at_back P fourth (map pieces.Delta t.others.deltas) five);
          functions = flat_each (IsCallNamed function_place names) P (pieces_of_call pieces.Function) pieces_function t.others.functions (at_back P fifth (flat_map (pieces_of_call pieces.Function) t.others.functions) six);
          word = flat_each (IsCallNamed word_place names) P (pieces_of_call pieces.NonCommuting) pieces_letter t.others.word (at_back P sixth (flat_map (pieces_of_call pieces.NonCommuting) t.others.word) h);
        }

  -- ---- arguments

  abbrev HasNamed : Summand → Type 0
  HasNamed s = IsNamed names s.term

  summand_pieces : (s : Summand) → IsNamed names s.term → ArePiecesNamed names (pieces_of_summand s)
  summand_pieces s h = each_append (IsPieceNamed names) (pieces_of_term s.term) (end_of s ∷ []) (term_pieces s.term h) (tt, tt)

  pieces_summand : (s : Summand) → ArePiecesNamed names (pieces_of_summand s) → IsNamed names s.term
  pieces_summand s h = pieces_term s.term (in_front (IsPieceNamed names) (pieces_of_term s.term) (end_of s ∷ []) h)

  pub argument_pieces : (a : Argument) → IsArgumentNamed names a → ArePiecesNamed names (pieces_of_argument a)
  argument_pieces (index i) h = (h, tt)
  argument_pieces (vector v) h = (h, tt)
  argument_pieces (expression ss) h =
      (tt, each_append (IsPieceNamed names) (flat_map pieces_of_summand ss) (pieces.EndOfSum ∷ []) (each_flat HasNamed (IsPieceNamed names) pieces_of_summand summand_pieces ss h) (tt, tt))

  pub pieces_argument : (a : Argument) → ArePiecesNamed names (pieces_of_argument a) → IsArgumentNamed names a
  pieces_argument (index i) h = h.0
  pieces_argument (vector v) h = h.0
  pieces_argument (expression ss) h =
      flat_each HasNamed (IsPieceNamed names) pieces_of_summand pieces_summand ss (in_front (IsPieceNamed names) (flat_map pieces_of_summand ss) (pieces.EndOfSum ∷ []) h.1)

  pub arguments_pieces : (args : List Argument) → AllByRecursion (IsArgumentNamed names) args → ArePiecesNamed names (pieces_of_arguments args)
  arguments_pieces args h = each_flat (IsArgumentNamed names) (IsPieceNamed names) pieces_of_argument argument_pieces args h

  pub pieces_arguments : (args : List Argument) → ArePiecesNamed names (pieces_of_arguments args) → AllByRecursion (IsArgumentNamed names) args
  pieces_arguments args h = flat_each (IsArgumentNamed names) (IsPieceNamed names) pieces_of_argument pieces_argument args h

  module _ (ps : List Piece) (lawful : AreArguments ps) where
    -- the arguments that are read from lawful pieces
    pub read_named : ArePiecesNamed names ps → AllByRecursion (IsArgumentNamed names) (arguments_of ps)
    read_named h = pieces_arguments (arguments_of ps) (subst (ArePiecesNamed names) (read_back ps lawful).0 h)

    pub written_named : AllByRecursion (IsArgumentNamed names) (arguments_of ps) → ArePiecesNamed names ps
    written_named h = subst (ArePiecesNamed names) (sym (read_back ps lawful).0) (arguments_pieces (arguments_of ps) h)

  -- ---- lawful arguments with their names at their places

  abbrev AreSound : List Argument → Type 0
  AreSound args = AllByRecursion (IsSoundArgument names) args

  both_hold : (args : List Argument) → AllByRecursion (IsArgumentOf IsTerm) args → AllByRecursion (IsArgumentNamed names) args → AreSound args
  both_hold [] h k = tt
  both_hold (a ∷ args) h k = ((h.0, k.0), both_hold args h.1 k.1)

  pub sound_read : (ps : List Piece) → AreSoundPieces names ps → AreSound (arguments_of ps)
  sound_read ps h = both_hold (arguments_of ps) (recursion_from_All (IsArgumentOf IsTerm) (arguments_of ps) (read_back ps h.0).1) (read_named ps h.0 h.1)

  pub sound_written : (args : List Argument) → AreSound args → AreSoundPieces names (pieces_of_arguments args)
  sound_written args h =
      let lawful = All-from_recursion (IsArgumentOf IsTerm) args (each_weaker (IsSoundArgument names) (IsArgumentOf IsTerm) (λ a k. k.0) args h) in
      (record { arguments = args; written = refl; lawful = lawful }, arguments_pieces args (each_weaker (IsSoundArgument names) (IsArgumentNamed names) (λ a k. k.1) args h))

  pub sound_alone : (a : Argument) → IsSoundArgument names a → AreSoundPieces names (pieces_of_argument a)
  sound_alone a h = subst (AreSoundPieces names) (append-nil (pieces_of_argument a)) (sound_written (a ∷ []) (h, tt))
