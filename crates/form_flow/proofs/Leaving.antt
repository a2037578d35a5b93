-- The end of a block, as it is kept.
use Rattle.std.proofs.Common.{◌≡◌, ℕ, suc, ◌+◌, ◌||◌, Bool, true, false, List, [], ◌∷◌, ◌++◌, map, reverse, vec_len, Option, Some, None, MatchOption, option_map, option_to_list, refl, sym, ap, ◌∙◌, arith}
use Rattle.std.proofs.lemmas.List.{nil_from_length, reverse-append}
use Rattle.std.specs.Prelude.{Vec}
use denote.Ref.{Bor}
use Rattle.form_base.specs.declared.cause.Cause.TheVariants.{RepeatBudget}
use Rattle.form_term.specs.declared.monomial.Monomial.{Monomial}
use Rattle.form_flow.specs.declared.path.Layer.{Layer}
use Rattle.form_flow.specs.declared.path.Path.{Path}
use Rattle.form_flow.specs.Outcome.{bind, refusal, unchanged}
use Rattle.form_flow.specs.Ways.{Acting, Way, acts_of, finish, fresh, leaving, mark, out, run_each}
use Rattle.form_flow.specs.Statement.{Statement}
use Rattle.form_flow.specs.Paths.{IsUnchanged, outer_layers, unchanged_by, way, ways}
use Rattle.form_flow.proofs.Binding.{or_false}
use Rattle.form_flow.proofs.Finishing.{exhausted, one_statement, leaves, leaves_unchanged, turns_again}

or_swap : (a b : Bool) → (a || b) ≡ (b || a)
or_swap true true = refl
or_swap true false = refl
or_swap false true = refl
or_swap false false = refl

-- where nothing is left of a block that isn't repeated any more, what is around it goes on
pub goes_out : (act : Acting) (l : Layer) (ws : List Way) (m : Monomial) → l.rest.now ≡ [] → IsUnchanged l
    → finish (way act l ∷ ws) false m ≡ finish ws (l.has_acted || l.acted_before) m
goes_out act l ws m at_end is = by l.body refl is where
  by : (body : Option (Bor (List Statement))) → l.body ≡ body → unchanged_by body l.has_acted
      → finish (way act l ∷ ws) false m ≡ finish ws (l.has_acted || l.acted_before) m
  by None none is =
      leaves (way act l) ws false m (ap (map act) at_end) (ap (option_map (λ b. acts_of act b.now)) none)
      ∙ ap (λ c. finish ws (l.acted_before || c) m) (or_false l.has_acted)
      ∙ ap (λ c. finish ws c m) (or_swap l.acted_before l.has_acted)
  by (Some b) some is =
      leaves_unchanged (way act l) ws false m (acts_of act b.now) (ap (map act) at_end) (ap (option_map (λ b. acts_of act b.now)) some) (or_false l.has_acted ∙ is)
      ∙ ap (λ c. finish ws (c || l.acted_before) m) (sym is)

-- where none is around it, no statement is left
pub goes_outside : (act : Acting) (p : Path) (m : Monomial) → p.here.rest.now ≡ [] → IsUnchanged p.here → p.outer ≡ None → finish (ways act p) false m ≡ unchanged m
unfolding finish
goes_outside act p m at_end is none =
    ap (λ o. finish (way act p.here ∷ map (way act) (outer_layers o p.around.items)) false m) none ∙ goes_out act p.here [] m at_end is

marked_first : (w : Way) (ws : List Way) (c : Bool) (m : Monomial) → finish (w ∷ ws) c m ≡ finish (mark c w ∷ ws) false m
unfolding finish
marked_first w ws c m = ap (λ d. bind (out ws) (bind (leaving (record w { has_acted = d })) (run_each w.rest m))) (sym (or_false (w.has_acted || c)))

-- into the next of the blocks around it, which has this mark from then on
pub goes_inside : (act : Acting) (p : Path) (outer new : Layer) (ls : List Layer) (m : Monomial) → p.here.rest.now ≡ [] → IsUnchanged p.here → p.outer ≡ Some outer → ls ≡ reverse p.around.items
    → way act new ≡ mark (p.here.has_acted || p.here.acted_before) (way act outer)
    → finish (ways act p) false m ≡ finish (way act new ∷ map (way act) ls) false m
goes_inside act p outer new ls m at_end is next left marked =
    let ws = map (way act) (reverse p.around.items) in
    ap (λ o. finish (way act p.here ∷ map (way act) (outer_layers o p.around.items)) false m) next
    ∙ goes_out act p.here (way act outer ∷ ws) m at_end is
    ∙ marked_first (way act outer) ws (p.here.has_acted || p.here.acted_before) m
    ∙ ap (λ w. finish (w ∷ ws) false m) (sym marked)
    ∙ ap (λ os. finish (way act new ∷ map (way act) os) false m) (sym left)

-- the blocks around the next one, by what `pop` says
pub popped : {Z : Type 0} (old new : Vec Layer Z) (r : Option Layer) → old.items ≡ new.items ++ option_to_list r
    → MatchOption r ((vec_len old ≡ 0) × (vec_len new ≡ 0)) (λ _. vec_len new + 1 ≡ vec_len old)
    → outer_layers r new.items ≡ reverse old.items
popped old new None is none = ap reverse (sym (nil_from_length old.items (omega (arith, old.ok.0, none.0))))
popped old new (Some l) is one = sym (ap reverse is ∙ reverse-append new.items (l ∷ []))

module _ (act : Acting) (l : Layer) (ws : List Way) (m : Monomial) (body : Bor (List Statement))
    (at_end : l.rest.now ≡ []) (repeated : l.body ≡ Some body) (acted : l.has_acted ≡ true) where
  pub begins_again : (n : ℕ) → l.left ≡ suc n → finish (way act l ∷ ws) false m ≡ finish (fresh (acts_of act body.now) (Some (acts_of act body.now)) n true ∷ ws) false m
  begins_again n is =
      turns_again (way act l) ws false m (acts_of act body.now) n (ap (map act) at_end) (ap (option_map (λ b. acts_of act b.now)) repeated) (or_false l.has_acted ∙ acted) is

  pub begins_no_more : l.left ≡ 0 → finish (way act l ∷ ws) false m ≡ refusal RepeatBudget
  begins_no_more is =
      exhausted (way act l) ws false m (acts_of act body.now) (ap (map act) at_end) (ap (option_map (λ b. acts_of act b.now)) repeated) (or_false l.has_acted ∙ acted) is

-- the next statement of the innermost block is carried out, and what comes of it goes on
pub passes : (act : Acting) (l behind : Layer) (ws : List Way) (a : Statement) → way act l ≡ record (way act behind) { rest = act a ∷ (way act behind).rest }
    → (m : Monomial) → finish (way act l ∷ ws) false m ≡ bind (out (way act behind ∷ ws)) (act a m)
passes act l behind ws a is m =
    ap (λ w. finish (w ∷ ws) false m) is
    ∙ one_statement (record (way act behind) { rest = act a ∷ (way act behind).rest }) ws false m (act a) (way act behind).rest refl
