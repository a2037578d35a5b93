-- What is left for a term to go through.
use Rattle.std.specs.Prelude.{ℕ, ◌||◌, Bool, false, List, [], ◌∷◌, map, Option, Some, None}
use Rattle.form_term.specs.declared.monomial.Monomial.{Monomial}
use Rattle.form_flow.specs.Outcome.{Outcome, Output, single, unchanged, bind, also_acted, behind, next_turn, through, turns}
use Rattle.form_flow.specs.Statement.{Statement}

-- Statements by what each makes of a term; each acts on what came of those before it.
unfoldable pub run_each : List (Monomial → Outcome) → Monomial → Outcome
run_each [] m = unchanged m
run_each (act ∷ acts) m = through (run_each acts) (act m)

-- A block that is open around a term.
pub record Way : Type 0 where
  -- the statements that are left of it
  pub rest : List (Monomial → Outcome)
  -- all of them, where it is repeated, and how many further turns may begin
  pub body : Option (List (Monomial → Outcome))
  pub left : ℕ
  -- whether something acted in it, of a repeated one in this turn, and whether in an earlier turn
  pub has_acted : Bool
  pub acted_before : Bool

-- a block that begins, or a further turn of one
abbrev pub fresh : List (Monomial → Outcome) → Option (List (Monomial → Outcome)) → ℕ → Bool → Way
fresh acts body left before = record { rest = acts; body = body; left = left; has_acted = false; acted_before = before }

abbrev pub mark : Bool → Way → Way
mark acted w = record w { has_acted = w.has_acted || acted }

-- an output that has come to the end of the block
abbrev pub turned : Option (List (Monomial → Outcome)) → ℕ → Output → Outcome
turned None left x = single x
turned (Some acts) left x = next_turn (turns left (run_each acts)) x

abbrev pub leaving : Way → Output → Outcome
leaving w x = behind w.acted_before (turned w.body w.left (also_acted w.has_acted x))

-- A term goes on through these blocks, the innermost first; in that something acted already, or nothing did.
unfoldable pub finish : List Way → Bool → Monomial → Outcome
finish [] acted m = unchanged m
finish (w ∷ ws) acted m = bind (λ y. finish ws y.acted y.item) (bind (leaving (mark acted w)) (run_each w.rest m))

-- an output goes on
abbrev pub out : List Way → Output → Outcome
out ws y = finish ws y.acted y.item

-- what each statement makes of a term
abbrev pub Acting : Type 0
Acting = Statement → Monomial → Outcome

abbrev pub acts_of : Acting → List Statement → List (Monomial → Outcome)
acts_of act actions = map act actions
