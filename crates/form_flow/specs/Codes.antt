-- Trees, and what holds them, are told apart by their pieces.
use Rattle.std.specs.Prelude.{List, [], Option, refl}
use Rattle.std.specs.Coded.{Coded, code_by, coded×, coded_list, coded_option}
use Rattle.form_base.specs.contracts.taking.Taking as taking
use Rattle.form_base.specs.declared.taking.Taking.{Taking}
use Rattle.form_term.specs.contracts.piece.Piece as kept
use Rattle.form_term.specs.declared.piece.Piece as kept_pieces
use Rattle.form_tree.specs.contracts.condition.Condition as condition
use Rattle.form_tree.specs.contracts.pattern.PatternPiece as pattern
use Rattle.form_tree.specs.contracts.tree.Piece as piece
use Rattle.form_tree.specs.declared.condition.Condition.{Condition}
use Rattle.form_tree.specs.declared.pattern.PatternPiece.{PatternPiece}
use Rattle.form_tree.specs.declared.tree.Piece.{Piece}
use Rattle.form_tree.specs.Building.{sum_of}
use Rattle.form_tree.specs.Pattern.{Factors, pieces_of_factors}
use Rattle.form_tree.specs.PatternBuilding.{factors_of}
use Rattle.form_tree.specs.Tree.{Sum, pieces_of_sum}
use Rattle.form_tree.proofs.Building as sums
use Rattle.form_tree.proofs.Factors as patterns
use Rattle.form_cond.specs.Condition.{Ready}
use Rattle.form_flow.specs.Ready.{Choice, Part}

abbrev pub sum_code : Coded Sum
sum_code = code_by (List Piece) (coded_list piece.the_row.coded) pieces_of_sum sum_of sums.built

abbrev pub factors_code : Coded Factors
factors_code = code_by (List PatternPiece) (coded_list pattern.the_row.coded) pieces_of_factors factors_of patterns.built

-- what arguments without wildcards are
abbrev pub table_code : Coded (List (Option (List kept_pieces.Piece)))
table_code = coded_list (coded_option (coded_list kept.the_row.coded))

abbrev pub part_code : Coded Part
part_code =
    code_by (Option Taking × (Factors × (List (Option (List kept_pieces.Piece)) × Sum))) (coded× (coded_option taking.the_row.coded) (coded× factors_code (coded× table_code sum_code)))
    (λ p. (p.option, (p.pattern, (p.fixed, p.right)))) (λ t. record { option = t.0; pattern = t.1.0; fixed = t.1.1.0; right = t.1.1.1 }) (λ _. refl)

abbrev pub ready_code : Coded Ready
ready_code =
    code_by (List (Option (List kept_pieces.Piece)) × Factors) (coded× table_code factors_code) (λ r. (r.fixed, r.factors)) (λ t. record { fixed = t.0; factors = t.1 }) (λ _. refl)

abbrev pub choice_code : Coded Choice
choice_code =
    code_by (List Ready × Condition) (coded× (coded_list ready_code) condition.the_row.coded)
    (λ q. (q.patterns, record { alternatives = q.condition; patterns = [] })) (λ t. record { patterns = t.0; condition = t.1.alternatives }) (λ _. refl)
