-- A definition, step by step.
use Rattle.std.proofs.Common.{◌≡◌, ℕ, false, List, Result, Ok, Err, OnOk, IfErr, sym, ap, subst, ◌∙◌, if◌then◌else◌}
use Rattle.form_names.specs.Names.{Entry, lookup}
use Rattle.form_names.specs.declared.kind.Kind.TheVariants.{Expression}
use Rattle.form_ast.specs.declared.expr.Spelled.{Spelled}
use Rattle.form_ast.specs.declared.expr.Expr.{Expr}
use Rattle.form_base.specs.declared.cause.Cause.TheVariants.{Redeclared}
use Rattle.form_tree.specs.declared.tree.Tree.{Tree}
use Rattle.form_check.specs.declared.checked.Checked.TheVariants.{Local}
use Rattle.form_right_side.specs.declared.error.CheckError.{CheckError}
use Rattle.form_right_side.specs.declared.error.CheckError.TheVariants.{Memory}
use Rattle.form_check.specs.Checking.{State, is_defined_again, declared, definition, with_statement}
use Rattle.form_right_side.specs.Refusal.{Refusal, refused, IsRefused, Gives, ◌>>=◌}
use Rattle.form_right_side.specs.RightSide.{Known, nothing_known, right_side}
use Rattle.form_check.specs.Standing.{stands}
use Rattle.form_right_side.proofs.Loops.{IsRefused-before}

module _ (state : State) (spelled : Spelled) (right : Expr) (id : ℕ) (names : List Entry)
    (new : is_defined_again state (lookup state.names spelled.name) ≡ false)
    (declares : declared state.names spelled Expression ≡ Ok (id, names)) where
  after_names : definition state spelled right ≡ (right_side names (stands state.earlier) nothing_known right >>= (λ pieces. Ok (with_statement (record state { names = names }) (Local id pieces))))
  after_names =
      ap (λ b. if b then refused (Redeclared spelled.name) spelled.spot else (declared state.names spelled Expression >>= (λ d. right_side d.1 (stands state.earlier) nothing_known right >>= (λ pieces. Ok (with_statement (record state { names = d.1 }) (Local d.0 pieces)))))) new
      ∙ ap (λ r. r >>= (λ d. right_side d.1 (stands state.earlier) nothing_known right >>= (λ pieces. Ok (with_statement (record state { names = d.1 }) (Local d.0 pieces))))) declares

  module _ (known : Known) (nothing : known ≡ nothing_known) where
    pub definition-Ok : (pieces : Tree) → right_side names (stands state.earlier) known right ≡ Ok pieces → definition state spelled right ≡ Ok (with_statement (record state { names = names }) (Local id pieces))
    definition-Ok pieces gives =
        after_names
        ∙ ap (λ r. r >>= (λ pieces. Ok (with_statement (record state { names = names }) (Local id pieces)))) (ap (λ (k : Known). right_side names (stands state.earlier) k right) (sym nothing) ∙ gives)

    pub definition-refused : (e : CheckError) → IsRefused e (right_side names (stands state.earlier) known right) → IsRefused e (definition state spelled right)
    definition-refused e is =
        rw after_names
        (IsRefused-before e (right_side names (stands state.earlier) nothing_known right) (λ pieces. Ok (with_statement (record state { names = names }) (Local id pieces)))
        (subst (λ (k : Known). IsRefused e (right_side names (stands state.earlier) k right)) nothing is))

-- once the statement is kept, or memory has run out
pub Gives-kept : (r : Result (Unit {0}) CheckError) (new next : State) (all : Result State Refusal) → all ≡ Ok next → OnOk r (new ≡ next) → IfErr r (λ e. e ≡ Memory) → Gives (λ _. new) r all
Gives-kept (Ok x) new next all is kept memory = is ∙ ap Ok (sym kept)
Gives-kept (Err e) new next all is kept memory = rw memory tt
