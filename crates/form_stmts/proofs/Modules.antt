-- Items are the modules of a program, in one way, or refused, at one spot.
use Rattle.std.proofs.Common.{◌≡◌, ◌⊎◌, inl, inr, Bool, true, false, List, [], ◌∷◌, map, Option, Some, None, refl, sym, ap, subst, ◌∙◌}
use Rattle.std.specs.Prelude.{MatchBool}
use Rattle.form_base.specs.declared.spot.Spot.{Spot}
use Rattle.form_ast.specs.declared.module.PlacedPart.{PlacedPart}
use Rattle.form_blocks.specs.Blocks.{Read, Unfinished, and_read, fault_at_end, new_module}
use Rattle.form_blocks.specs.Growing.{parts_grown}
use Rattle.form_blocks.specs.declared.open.Fault.{Fault}
use Rattle.form_grammar.specs.Terminal.{terminal_of}
use Rattle.form_grammar.specs.declared.terminal.Terminal.{Terminal}
use Rattle.form_lexer.specs.declared.token.Token.{Token}
use Rattle.form_stmts.specs.Program.{Item, statement, unfinished, instruction, IsRead, GoesOn, ends_module, IsRefusedHere, IsRefusedAt, AreModules}
use Rattle.form_stmts.specs.Statement.{ReadsSo}
use Rattle.form_stmts.proofs.Either.{IsOne, IsOrNot}

-- what an item that ends a module leads to, or another one
abbrev EndsSo : Unfinished → List Item → List (List PlacedPart) → Type 0
EndsSo b others modules = (fault_at_end b ≡ None) × (rest : List (List PlacedPart)) × (modules ≡ parts_grown b.statements ∷ rest) × AreModules new_module others rest

abbrev GoesSo : Unfinished → Item → List Item → List (List PlacedPart) → Type 0
GoesSo b item others modules = (c : Unfinished) × GoesOn b item c × AreModules c others modules

abbrev IsRefusedEnd : Unfinished → List Item → Spot → Type 0
IsRefusedEnd b others spot = IsRefusedHere (fault_at_end b) spot ⊎ ((fault_at_end b ≡ None) × IsRefusedAt new_module others spot)

abbrev IsRefusedBehind : Unfinished → Item → List Item → Spot → Type 0
IsRefusedBehind b item others spot = (c : Unfinished) × GoesOn b item c × IsRefusedAt c others spot

one_here : (o : Option Fault) (s t : Spot) → IsRefusedHere o s → IsRefusedHere o t → s ≡ t
one_here None s t h k = absurd h
one_here (Some f) s t h k = sym h ∙ k

none_here : (o : Option Fault) (s : Spot) → o ≡ None → IsRefusedHere o s → ⊥
none_here None s e h = h
none_here (Some f) s e h = cc

-- a module is refused where it ends, or it isn't
fine_or_not : (o : Option Fault) → (o ≡ None) ⊎ ((spot : Spot) × IsRefusedHere o spot)
fine_or_not None = inl refl
fine_or_not (Some f) = inr (f.spot, refl)

abbrev Both : (List (List PlacedPart) → Type 0) → (Spot → Type 0) → Type 0
Both P Q = ((modules : List (List PlacedPart)) × P modules) ⊎ ((spot : Spot) × Q spot)

module _ (one : (terminals : List Terminal) → IsOne (ReadsSo terminals)) where
  one_option : (tokens : List Token) → IsOne (IsRead tokens)
  one_option tokens None None h k = refl
  one_option tokens None (Some s) h k = absurd (h s k)
  one_option tokens (Some r) None h k = absurd (k r h)
  one_option tokens (Some r) (Some s) h k = ap Some (one (map terminal_of tokens) r s h k)

  one_way : (b : Unfinished) (item : Item) → IsOne (GoesOn b item)
  one_way b (statement []) c d h k = h ∙ sym k
  one_way b (statement (t ∷ ts)) c d h k = h.2 ∙ ap (and_read b t.spot) (one_option (t ∷ ts) h.0 k.0 h.1 k.1) ∙ sym k.2
  one_way b (unfinished t ts) c d h k = h ∙ sym k
  one_way b (instruction line) c d h k = h ∙ sym k

  pub one_refusal : (list : List Item) (b : Unfinished) (s t : Spot) → IsRefusedAt b list s → IsRefusedAt b list t → s ≡ t
  one_refusal [] b s t h k = one_here (fault_at_end b) s t h k
  one_refusal (item ∷ list) b s t h k = by_end (ends_module item) (λ c. one_refusal list c s t) h k where
    by_end : (x : Bool) → ((c : Unfinished) → IsRefusedAt c list s → IsRefusedAt c list t → s ≡ t)
        → MatchBool x (IsRefusedEnd b list s) (IsRefusedBehind b item list s) → MatchBool x (IsRefusedEnd b list t) (IsRefusedBehind b item list t) → s ≡ t
    by_end true rest (inl h) (inl k) = one_here (fault_at_end b) s t h k
    by_end true rest (inl h) (inr k) = absurd (none_here (fault_at_end b) s k.0 h)
    by_end true rest (inr h) (inl k) = absurd (none_here (fault_at_end b) t h.0 k)
    by_end true rest (inr h) (inr k) = rest new_module h.1 k.1
    by_end false rest h k = rest k.0 (subst (λ (c : Unfinished). IsRefusedAt c list s) (one_way b item h.0 k.0 h.1 k.1) h.2) k.2

  pub never_both : (list : List Item) (b : Unfinished) (modules : List (List PlacedPart)) (spot : Spot) → AreModules b list modules → IsRefusedAt b list spot → ⊥
  never_both [] b modules spot m r = none_here (fault_at_end b) spot m.0 r
  never_both (item ∷ list) b modules spot m r = by_end (ends_module item) (λ c more. never_both list c more spot) m r where
    by_end : (x : Bool) → ((c : Unfinished) (more : List (List PlacedPart)) → AreModules c list more → IsRefusedAt c list spot → ⊥)
        → MatchBool x (EndsSo b list modules) (GoesSo b item list modules) → MatchBool x (IsRefusedEnd b list spot) (IsRefusedBehind b item list spot) → ⊥
    by_end true rest m (inl r) = none_here (fault_at_end b) spot m.0 r
    by_end true rest m (inr r) = rest new_module m.1 m.3 r.1
    by_end false rest m r = rest r.0 modules (subst (λ (c : Unfinished). AreModules c list modules) (one_way b item m.0 r.0 m.1 r.1) m.2) r.2

  pub one_program : (list : List Item) (b : Unfinished) → IsOne (AreModules b list)
  one_program [] b x y h k = h.1 ∙ sym k.1
  one_program (item ∷ list) b x y h k = by_end (ends_module item) (λ c. one_program list c) h k where
    by_end : (t : Bool) → ((c : Unfinished) → IsOne (AreModules c list))
        → MatchBool t (EndsSo b list x) (GoesSo b item list x) → MatchBool t (EndsSo b list y) (GoesSo b item list y) → x ≡ y
    by_end true rest h k = h.2 ∙ ap (λ (more : List (List PlacedPart)). parts_grown b.statements ∷ more) (rest new_module h.1 k.1 h.3 k.3) ∙ sym k.2
    by_end false rest h k = rest k.0 x y (subst (λ (c : Unfinished). AreModules c list x) (one_way b item h.0 k.0 h.1 k.1) h.2) k.2

module _ (or_not : (terminals : List Terminal) → IsOrNot (ReadsSo terminals)) where
  some_option : (tokens : List Token) → (r : Option Read) × IsRead tokens r
  some_option tokens = by_reading (or_not (map terminal_of tokens)) where
    by_reading : IsOrNot (ReadsSo (map terminal_of tokens)) → (r : Option Read) × IsRead tokens r
    by_reading (inl r) = (Some r.0, r.1)
    by_reading (inr none) = (None, none)

  some_way : (b : Unfinished) (item : Item) → (c : Unfinished) × GoesOn b item c
  some_way b (statement []) = (b, refl)
  some_way b (statement (t ∷ ts)) = let r = some_option (t ∷ ts) in (and_read b t.spot r.0, (r.0, r.1, refl))
  some_way b (unfinished t ts) = (and_read b t.spot None, refl)
  some_way b (instruction line) = (and_read b line.spot None, refl)

  pub one_of_both : (list : List Item) (b : Unfinished) → Both (AreModules b list) (IsRefusedAt b list)
  one_of_both [] b = by_fault (fine_or_not (fault_at_end b)) where
    by_fault : (fault_at_end b ≡ None) ⊎ ((spot : Spot) × IsRefusedHere (fault_at_end b) spot) → Both (AreModules b []) (IsRefusedAt b [])
    by_fault (inl fine) = inl ([], (fine, refl))
    by_fault (inr r) = inr r
  one_of_both (item ∷ list) b = by_end (ends_module item) (λ c. one_of_both list c) where
    behind : (c : Unfinished) → GoesOn b item c → Both (AreModules c list) (IsRefusedAt c list) → Both (GoesSo b item list) (IsRefusedBehind b item list)
    behind c g (inl p) = inl (p.0, (c, g, p.1))
    behind c g (inr r) = inr (r.0, (c, g, r.1))

    ended : (fault_at_end b ≡ None) → Both (AreModules new_module list) (IsRefusedAt new_module list) → Both (EndsSo b list) (IsRefusedEnd b list)
    ended fine (inl p) = inl (parts_grown b.statements ∷ p.0, (fine, p.0, refl, p.1))
    ended fine (inr r) = inr (r.0, inr (fine, r.1))

    by_fault : Both (AreModules new_module list) (IsRefusedAt new_module list) → (fault_at_end b ≡ None) ⊎ ((spot : Spot) × IsRefusedHere (fault_at_end b) spot) → Both (EndsSo b list) (IsRefusedEnd b list)
    by_fault rest (inl fine) = ended fine rest
    by_fault rest (inr r) = inr (r.0, inl r.1)

    by_end : (x : Bool) → ((c : Unfinished) → Both (AreModules c list) (IsRefusedAt c list))
        → Both (λ modules. MatchBool x (EndsSo b list modules) (GoesSo b item list modules)) (λ spot. MatchBool x (IsRefusedEnd b list spot) (IsRefusedBehind b item list spot))
    by_end true rest = by_fault (rest new_module) (fine_or_not (fault_at_end b))
    by_end false rest = let c = some_way b item in behind c.0 c.1 (rest c.0)
