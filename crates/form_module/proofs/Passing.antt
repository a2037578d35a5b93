-- Where a module has no statements, each term goes through them as it is.
use Rattle.std.proofs.Common.{◌≡◌, ◌≤◌, ℕ, zero, suc, Bool, true, false, List, [], ◌∷◌, refl, sym, subst, arith}
use Rattle.std.specs.Prelude.{nat_lt}
use Rattle.std.specs.Bool.{OnTrue}
use Rattle.std.proofs.lemmas.Bool.{le-ltb}
use Rattle.form_term.specs.Term.{is_nil}
use Rattle.form_term.specs.declared.monomial.Monomial.{Monomial}
use Rattle.form_expand.specs.Listing.{limited, single}
use Rattle.form_flow.specs.Statement.{Compiled, Limits, Statement}
use Rattle.form_flow.specs.Statements.{outputs}
use Rattle.form_flow.specs.Ways.{run_each}

-- no statements leave a term as it is
passes : (at : Limits) (m : Monomial) → nat_lt at.terms 1 ≡ false → outputs (record { limits = at; statements = [] }) m ≡ single m
unfolding outputs run_each limited
passes at m e = rw e refl

none_pass : (at : Limits) (statements : List Statement) → is_nil statements ≡ true → nat_lt at.terms 1 ≡ false → (m : Monomial) → outputs (record { limits = at; statements = statements }) m ≡ single m
none_pass at [] none e m = passes at m e
none_pass at (s ∷ ss) none e m = absurd (cc)

some_terms : (n : ℕ) → (n ≡ 0 → ⊥) → 1 ≤ n
some_terms zero some = absurd (some refl)
some_terms (suc n) some = omega arith

pub all_pass : (c : Compiled) (limit : ℕ) (none : Bool) → c.limits.terms ≡ limit → (limit ≡ 0 → ⊥) → none ≡ is_nil c.statements → OnTrue none ((m : Monomial) → outputs c m ≡ single m)
all_pass c limit true same some is =
    none_pass c.limits c.statements (sym is) (le-ltb c.limits.terms 1 (subst (λ (n : ℕ). 1 ≤ n) (sym same) (some_terms limit some)))
all_pass c limit false same some is = tt
