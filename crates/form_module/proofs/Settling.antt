-- What the tests of what is settled tell.
use Rattle.std.proofs.Common.{◌≡◌, ℕ, Bool, true, false, List, Option, None, refl, subst, ltb}
use Rattle.std.specs.Bool.{OnTrue}
use Rattle.std.specs.List.{IsAllAdjacentAnswer}
use Rattle.std.specs.Ordering.{nat_cmp}
use Rattle.std.specs.declared.cmp.Ordering.TheVariants.{Less}
use Rattle.std.proofs.lemmas.Cmp.{nat_cmp_total}
use Rattle.form_term.specs.declared.monomial.Monomial.{Monomial}
use Rattle.form_collect.proofs.Rising.{rise_from}
use Rattle.form_expand.specs.declared.stored.Stored.{Stored}
use Rattle.form_expand.specs.Listing.{single}
use Rattle.form_expand.specs.Meanings.{Meanings, terms_of}
use Rattle.form_flow.specs.Statement.{Compiled}
use Rattle.form_flow.specs.Statements.{outputs}
use Rattle.form_module.specs.Settled.{AreAtRest, AreSettled, Ascend, IsAlike, id_order}

pub both : (statements : Compiled) (standing : List Stored) (ascends : Bool) → ((m : Monomial) → outputs statements m ≡ single m) → OnTrue ascends (Ascend standing) → OnTrue ascends (AreAtRest statements standing)
both statements standing true leave ascend = record { leave = leave; ascend = ascend }
both statements standing false leave ascend = tt

pub less : (m n : ℕ) → ltb m n ≡ true → nat_cmp m n ≡ Less
less m n e = rw e refl

pub ascend_from : (standing : List Stored) (ascends : Bool) → IsAllAdjacentAnswer (λ x y t. t ≡ ltb x.expression y.expression) standing ascends → OnTrue ascends (Ascend standing)
ascend_from standing ascends h =
    rise_from id_order (λ x y z. nat_cmp_total.trans x.expression y.expression z.expression) (λ x y. ltb x.expression y.expression) (λ x y. less x.expression y.expression) standing ascends h

pub alike : (is_at_rest : Bool) (most : ℕ) (names : Meanings) (expression : ℕ) (place : Option ℕ) (terms : List Monomial) (are_own : Bool) → is_at_rest ≡ true → terms ≡ terms_of names expression →
    OnTrue are_own ((place ≡ None) × AreSettled most terms) → OnTrue are_own (IsAlike is_at_rest most names expression place)
alike is_at_rest most names expression place terms true rests are own = record { at_rest = rests; own = own.0; settled = subst (AreSettled most) are own.1 }
alike is_at_rest most names expression place terms false rests are own = tt

pub own : (place : Option ℕ) (most : ℕ) (terms : List Monomial) (settled : Bool) → place ≡ None → OnTrue settled (AreSettled most terms) → OnTrue settled ((place ≡ None) × AreSettled most terms)
own place most terms true none is = (none, is)
own place most terms false none is = tt
