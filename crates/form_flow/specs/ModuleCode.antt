-- The statements of a module made ready are told apart as they are kept.
use Rattle.std.specs.Prelude.{ℕ, refl}
use Rattle.std.specs.Coded.{Coded, code_by, coded×, coded_ℕ}
use denote.Signature.{static_lft}
use Rattle.form_flow.specs.contracts.compiled.Statements as kept
use Rattle.form_flow.specs.declared.compiled.Statements.{Statements}
use Rattle.form_flow.specs.Statement.{Compiled}

abbrev pub compiled_code : Coded Compiled
compiled_code =
    code_by (ℕ × (ℕ × Statements)) (coded× coded_ℕ (coded× coded_ℕ (kept.the_row static_lft).coded))
    (λ c. (c.limits.terms, (c.limits.turns, record { block = c.statements })))
    (λ t. record { limits = record { terms = t.0; turns = t.1.0 }; statements = t.1.1.block }) (λ _. refl)
