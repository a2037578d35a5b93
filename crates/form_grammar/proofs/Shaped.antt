-- Judging a pattern's pieces says what Patterns says of its tree.
use Rattle.std.proofs.Common.{◌≡◌, Bool, true, false, ◌&&◌, ◌||◌, cond, List, [], ◌∷◌, ◌++◌, Option, Some, None, option_map, option_and_then, refl, sym, ap, ◌∙◌, append_assoc}
use Rattle.std.proofs.lemmas.List.{append-nil}
use Rattle.form_base.specs.declared.spot.Spot.{Spot}
use Rattle.form_ast.specs.declared.expr.Spelled.{Spelled}
use Rattle.form_ast.specs.declared.expr.Restriction.{Restriction}
use Rattle.form_ast.specs.declared.expr.Sign.{Sign}
use Rattle.form_ast.specs.declared.expr.Sign.TheVariants as signs
use Rattle.form_ast.specs.declared.expr.Link.{Link}
use Rattle.form_ast.specs.declared.expr.Link.TheVariants as links
use Rattle.form_ast.specs.declared.expr.Named.TheVariants.{Declared}
use Rattle.form_ast.specs.declared.expr.Power.{Power}
use Rattle.form_ast.specs.declared.expr.Piece.{Piece}
use Rattle.form_ast.specs.declared.expr.Piece.TheVariants as pieces
use Rattle.form_ast.specs.declared.weight.Weight.{Weight}
use Rattle.form_ast.specs.declared.weight.Weight.TheVariants.{Lone}
use Rattle.form_ast.specs.Syntax.{Label, named, wildcard, Entry, name_entry, number_entry, Sum, first, more, Product, one, times, over, Factor, factor, raised, Base, number, name, dot, delta, empty_call, call, parenthesis, Arguments, argument, further, Argument, expression, field, link_of, name_of, mark_of, piece_of_power, pieces_of_entry, pieces_of_sum, pieces_of_product, pieces_of_factor, pieces_of_base, pieces_of_arguments, pieces_of_argument}
use Rattle.form_ast.specs.Patterns.{is_wildcard, entry_has_wildcard, text_of, has_wildcard, product_has_wildcard, factor_has_wildcard, base_has_wildcard, arguments_have_wildcard, argument_has_wildcard, weight_of, weights_of, is_minus, are_balanced, is_pattern, has_pattern_factors, is_pattern_factor, are_pattern_arguments, is_pattern_argument}
use Rattle.form_grammar.specs.declared.weights.WeightChange.{WeightChange}
use Rattle.form_grammar.specs.declared.weights.WeightChange.TheVariants as changes
use Rattle.form_grammar.specs.declared.shape.Level.{Level}
use Rattle.form_grammar.specs.declared.shape.Shape.{Shape}
use Rattle.form_grammar.specs.Shape as shape
use Rattle.form_grammar.specs.Shape.{empty, fits, with_weight, weights_with, added, with_last, last_changed, with_wildcard, are_factors, is_argument, absorbed, step, judged}

abbrev at : List Level → Level → Shape
at around inner = record { around = around; inner = inner }

abbrev level : Bool → Bool → Option (List Weight) → Level
level b h ws = record { has_begun = b; has_wildcard = h; weights = ws }

-- ---- booleans

or_false : (b : Bool) → (b || false) ≡ b
or_false true = refl
or_false false = refl

or_true : (b : Bool) → (b || true) ≡ true
or_true true = refl
or_true false = refl

or_assoc : (a b c : Bool) → ((a || b) || c) ≡ (a || (b || c))
or_assoc true b c = refl
or_assoc false b c = refl

-- ---- weights

option_map_twice : {A B C : Type 0} (f : A → B) (g : B → C) (o : Option A) → option_map g (option_map f o) ≡ option_map (λ x. g (f x)) o
option_map_twice f g None = refl
option_map_twice f g (Some x) = refl

last_one : (c : WeightChange) (ws : List Weight) (w : Weight) → with_last c (ws ++ w ∷ []) ≡ option_map (λ v. ws ++ v ∷ []) (shape.changed c w)
unfolding with_last
last_one c [] w = refl
last_one c (a ∷ []) w = option_map_twice (λ v. v ∷ []) (λ rest. a ∷ rest) (shape.changed c w)
last_one c (a ∷ b ∷ ws) w = ap (option_map (λ rest. a ∷ rest)) (last_one c (b ∷ ws) w) ∙ option_map_twice (λ v. (b ∷ ws) ++ v ∷ []) (λ rest. a ∷ rest) (shape.changed c w)

-- what changing the last weight gives
pub none_last : (c : WeightChange) (ws : List Weight) → ws ≡ [] → None ≡ with_last c ws
unfolding with_last
none_last c ws e = ap (with_last c) (sym e)

pub last_kept : (c : WeightChange) (ws front : List Weight) (w : Weight) → ws ≡ front ++ w ∷ [] → shape.changed c w ≡ None → None ≡ with_last c ws
last_kept c ws front w e f = sym (ap (with_last c) e ∙ last_one c front w ∙ ap (option_map (λ v. front ++ v ∷ [])) f)

pub last_made : (c : WeightChange) (ws front all : List Weight) (w v : Weight) → ws ≡ front ++ w ∷ [] → shape.changed c w ≡ Some v → all ≡ front ++ v ∷ [] → Some all ≡ with_last c ws
last_made c ws front all w v e f k = ap (λ (x : List Weight). Some x) k ∙ sym (ap (with_last c) e ∙ last_one c front w ∙ ap (option_map (λ v. front ++ v ∷ [])) f)

-- the weight that was added is changed
changed_behind : (c : WeightChange) (w : Option Weight) (ws : Option (List Weight)) → option_and_then (with_last c) (with_weight w ws) ≡ with_weight (option_and_then (shape.changed c) w) ws
changed_behind c None None = refl
changed_behind c None (Some ws) = refl
changed_behind c (Some w) None = no_list (shape.changed c w) where
  no_list : (o : Option Weight) → None ≡ with_weight o None
  no_list None = refl
  no_list (Some v) = refl
changed_behind c (Some w) (Some ws) = last_one c ws w ∙ as_weight (shape.changed c w) where
  as_weight : (o : Option Weight) → option_map (λ v. ws ++ v ∷ []) o ≡ with_weight o (Some ws)
  as_weight None = refl
  as_weight (Some v) = refl

weights_changed : (c : WeightChange) (link : Link) (w : Option Weight) (ws : Option (List Weight)) → option_and_then (with_last c) (weights_with link w ws) ≡ weights_with link (option_and_then (shape.changed c) w) ws
weights_changed c links.First w ws = changed_behind c w ws
weights_changed c links.Plus w ws = refl
weights_changed c links.Minus w ws = refl
weights_changed c links.Times w ws = changed_behind c w ws
weights_changed c links.Over w ws = refl

no_weight : (link : Link) (ws : Option (List Weight)) → weights_with link None ws ≡ None
no_weight links.First None = refl
no_weight links.First (Some ws) = refl
no_weight links.Plus ws = refl
no_weight links.Minus ws = refl
no_weight links.Times None = refl
no_weight links.Times (Some ws) = refl
no_weight links.Over ws = refl

-- ---- what a level is behind a factor

abbrev factor_weight : Factor → Option Weight
factor_weight f = cond (is_pattern_factor f) (Some (weight_of f)) None

abbrev behind_factor : Link → Factor → Level → Level
behind_factor link f l = level true (l.has_wildcard || factor_has_wildcard f) (weights_with link (factor_weight f) l.weights)

-- a level with another flag or other weights that are the same
same_level : (around : List Level) (h k : Bool) (ws vs : Option (List Weight)) (rest : List Piece) → h ≡ k → ws ≡ vs → judged (at around (level true h ws)) rest ≡ judged (at around (level true k vs)) rest
same_level around h k ws vs rest e f = ap (λ (b : Bool). judged (at around (level true b ws)) rest) e ∙ ap (λ (o : Option (List Weight)). judged (at around (level true k o)) rest) f

-- a mark behind a factor that was added
mark_behind : (around : List Level) (link : Link) (h k : Bool) (w v : Option Weight) (ws : Option (List Weight)) (rest : List Piece)
    → (k ≡ true) → (option_and_then (shape.changed changes.Mark) w ≡ v)
    → judged (at around (with_wildcard (last_changed changes.Mark (level true h (weights_with link w ws))))) rest ≡ judged (at around (level true k (weights_with link v ws))) rest
mark_behind around link h k w v ws rest e f =
    same_level around true k (option_and_then (with_last changes.Mark) (weights_with link w ws)) (weights_with link v ws) rest (sym e)
    (weights_changed changes.Mark link w ws ∙ ap (λ (x : Option Weight). weights_with link x ws) f)

change_behind : (c : WeightChange) (around : List Level) (link : Link) (h k : Bool) (w v : Option Weight) (ws : Option (List Weight)) (rest : List Piece)
    → h ≡ k → (option_and_then (shape.changed c) w ≡ v)
    → judged (at around (last_changed c (level true h (weights_with link w ws)))) rest ≡ judged (at around (level true k (weights_with link v ws))) rest
change_behind c around link h k w v ws rest e f =
    same_level around h k (option_and_then (with_last c) (weights_with link w ws)) (weights_with link v ws) rest e
    (weights_changed c link w ws ∙ ap (λ (x : Option Weight). weights_with link x ws) f)

-- ---- what a sum and arguments are

abbrev product_weights : Product → Option (List Weight)
product_weights p = cond (has_pattern_factors p) (Some (weights_of p)) None

abbrev level_of_sum : Sum → Level
level_of_sum (first None p) = level true (product_has_wildcard p) (product_weights p)
level_of_sum (first (Some sign) p) = level true (product_has_wildcard p) None
level_of_sum (more s sign p) = level true (has_wildcard s || product_has_wildcard p) None

abbrev joined : Option (List Weight) → Option (List Weight) → Option (List Weight)
joined (Some ws) (Some vs) = Some (ws ++ vs)
joined _ _ = None

abbrev weights_joined : Link → Option (List Weight) → Option (List Weight) → Option (List Weight)
weights_joined link ws vs = cond (fits link) (joined ws vs) None

abbrev behind_product : Link → Product → Level → Level
behind_product link p l = level true (l.has_wildcard || product_has_wildcard p) (weights_joined link l.weights (product_weights p))

joined_none : (ws : Option (List Weight)) → joined ws None ≡ None
joined_none None = refl
joined_none (Some ws) = refl

one_joined : (f : Factor) (ws : Option (List Weight)) → with_weight (factor_weight f) ws ≡ joined ws (product_weights (one f))
one_joined f ws = by_test (is_pattern_factor f) ws where
  by_test : (b : Bool) (ws : Option (List Weight)) → with_weight (cond b (Some (weight_of f)) None) ws ≡ joined ws (cond b (Some (weight_of f ∷ [])) None)
  by_test true None = refl
  by_test true (Some ws) = refl
  by_test false None = refl
  by_test false (Some ws) = refl

one_weights : (link : Link) (f : Factor) (ws : Option (List Weight)) → weights_with link (factor_weight f) ws ≡ weights_joined link ws (product_weights (one f))
one_weights links.First f ws = one_joined f ws
one_weights links.Plus f ws = refl
one_weights links.Minus f ws = refl
one_weights links.Times f ws = one_joined f ws
one_weights links.Over f ws = refl

times_joined : (p : Product) (f : Factor) (ws : Option (List Weight)) → with_weight (factor_weight f) (joined ws (product_weights p)) ≡ joined ws (product_weights (times p f))
times_joined p f ws = by_tests (has_pattern_factors p) (is_pattern_factor f) ws where
  by_tests : (a b : Bool) (ws : Option (List Weight)) → with_weight (cond b (Some (weight_of f)) None) (joined ws (cond a (Some (weights_of p)) None)) ≡ joined ws (cond (a && b) (Some (weights_of p ++ weight_of f ∷ [])) None)
  by_tests true true None = refl
  by_tests true true (Some ws) = ap (λ (all : List Weight). Some all) (append_assoc ws (weights_of p) (weight_of f ∷ []))
  by_tests true false None = refl
  by_tests true false (Some ws) = refl
  by_tests false true None = refl
  by_tests false true (Some ws) = refl
  by_tests false false None = refl
  by_tests false false (Some ws) = refl

no_more : (f : Factor) → with_weight (factor_weight f) None ≡ None
no_more f = by_test (is_pattern_factor f) where
  by_test : (b : Bool) → with_weight (cond b (Some (weight_of f)) None) None ≡ None
  by_test true = refl
  by_test false = refl

times_weights : (link : Link) (p : Product) (f : Factor) (ws : Option (List Weight)) → weights_with links.Times (factor_weight f) (weights_joined link ws (product_weights p)) ≡ weights_joined link ws (product_weights (times p f))
times_weights links.First p f ws = times_joined p f ws
times_weights links.Plus p f ws = no_more f
times_weights links.Minus p f ws = no_more f
times_weights links.Times p f ws = times_joined p f ws
times_weights links.Over p f ws = no_more f

over_weights : (link : Link) (ws : Option (List Weight)) → None ≡ weights_joined link ws None
over_weights links.First ws = sym (joined_none ws)
over_weights links.Plus ws = refl
over_weights links.Minus ws = refl
over_weights links.Times ws = sym (joined_none ws)
over_weights links.Over ws = refl

first_weights : (p : Product) → joined (Some []) (product_weights p) ≡ product_weights p
first_weights p = by_test (has_pattern_factors p) where
  by_test : (b : Bool) → joined (Some []) (cond b (Some (weights_of p)) None) ≡ cond b (Some (weights_of p)) None
  by_test true = refl
  by_test false = refl

signed_weights : (sign : Sign) (ws vs : Option (List Weight)) → weights_joined (link_of sign) ws vs ≡ None
signed_weights signs.Plus ws vs = refl
signed_weights signs.Minus ws vs = refl

-- the factors of a sum are judged as it is
factors_of_sum : (s : Sum) → are_factors (level_of_sum s).weights ≡ is_pattern s
factors_of_sum (first None p) = by_test (has_pattern_factors p) where
  by_test : (b : Bool) → are_factors (cond b (Some (weights_of p)) None) ≡ (b && are_balanced (weights_of p))
  by_test true = refl
  by_test false = refl
factors_of_sum (first (Some sign) p) = refl
factors_of_sum (more s sign p) = refl

has_of_sum : (s : Sum) → (level_of_sum s).has_wildcard ≡ has_wildcard s
has_of_sum (first None p) = refl
has_of_sum (first (Some sign) p) = refl
has_of_sum (more s sign p) = refl

-- ---- arguments

abbrev after_argument : Argument → Level → Level
after_argument a o = level o.has_begun (o.has_wildcard || argument_has_wildcard a) (cond (is_pattern_argument a) o.weights None)

abbrev after_arguments : Arguments → Level → Level
after_arguments args o = level o.has_begun (o.has_wildcard || arguments_have_wildcard args) (cond (are_pattern_arguments args) o.weights None)

-- where an argument stands last, what is around it and what it is
abbrev around_argument : Argument → Level → Level
around_argument (expression s) o = o
around_argument (field n) o = with_wildcard o

abbrev level_of_argument : Argument → Level
level_of_argument (expression s) = level_of_sum s
level_of_argument (field n) = empty

ended : (a : Argument) (o : Level) → absorbed (level_of_argument a) (around_argument a o) ≡ after_argument a o
ended (field n) o = ap (λ (b : Bool). level o.has_begun b o.weights) (sym (or_true o.has_wildcard))
ended (expression s) o =
    ap (λ (b : Bool). level o.has_begun (o.has_wildcard || b) (cond (cond b (are_factors (level_of_sum s).weights) true) o.weights None)) (has_of_sum s)
    ∙ ap (λ (b : Bool). level o.has_begun (o.has_wildcard || has_wildcard s) (cond (cond (has_wildcard s) b true) o.weights None)) (factors_of_sum s)

abbrev before_last : Arguments → Level → Level
before_last (argument a) o = o
before_last (further args a) o = after_arguments args o

abbrev last_of : Arguments → Argument
last_of (argument a) = a
last_of (further args a) = a

both : (a b : Bool) (ws : Option (List Weight)) → cond b (cond a ws None) None ≡ cond (a && b) ws None
both true b ws = refl
both false true ws = refl
both false false ws = refl

all_ended : (args : Arguments) (o : Level) → absorbed (level_of_argument (last_of args)) (around_argument (last_of args) (before_last args o)) ≡ after_arguments args o
all_ended (argument a) o = ended a o
all_ended (further args a) o =
    ended a (after_arguments args o)
    ∙ ap (λ (b : Bool). level o.has_begun b (cond (is_pattern_argument a) (cond (are_pattern_arguments args) o.weights None) None)) (or_assoc o.has_wildcard (arguments_have_wildcard args) (argument_has_wildcard a))
    ∙ ap (λ (ws : Option (List Weight)). level o.has_begun (o.has_wildcard || (arguments_have_wildcard args || argument_has_wildcard a)) ws) (both (are_pattern_arguments args) (is_pattern_argument a) o.weights)

-- ---- powers

sized : (b : Base) (p : Power) → option_and_then (shape.changed (changes.Size (is_minus p.sign) p.number.value)) (factor_weight (factor b None)) ≡ factor_weight (factor b (Some p))
sized (number n) p = refl
sized (name n) p = refl
sized (dot q r) p = refl
sized (delta spot a c) p = refl
sized (empty_call n) p = refl
sized (call n args) p = by_test (are_pattern_arguments args) where
  by_test : (b : Bool) → option_and_then (shape.changed (changes.Size (is_minus p.sign) p.number.value)) (cond b (Some (Lone 1)) None) ≡ cond b (Some (Lone p.number.value)) None
  by_test true = refl
  by_test false = refl
sized (parenthesis s) p = refl

freed : (b : Base) (sign : Option Sign) (n : Label) → option_and_then (shape.changed changes.Free) (factor_weight (factor b None)) ≡ factor_weight (raised b sign n)
freed (number m) sign n = refl
freed (name m) sign n = refl
freed (dot q r) sign n = refl
freed (delta spot a c) sign n = refl
freed (empty_call m) sign n = refl
freed (call m args) sign n = by_test (are_pattern_arguments args) where
  by_test : (b : Bool) → option_and_then (shape.changed changes.Free) (cond b (Some (Lone 1)) None) ≡ None
  by_test true = refl
  by_test false = refl
freed (parenthesis s) sign n = refl

-- a name that frees a factor may have a mark
mark_freed : (b : Base) (sign : Option Sign) (n m : Label) → option_and_then (shape.changed changes.Mark) (factor_weight (raised b sign n)) ≡ factor_weight (raised b sign m)
mark_freed (number k) sign n m = refl
mark_freed (name k) sign n m = refl
mark_freed (dot q r) sign n m = refl
mark_freed (delta spot a c) sign n m = refl
mark_freed (empty_call k) sign n m = refl
mark_freed (call k args) sign n m = refl
mark_freed (parenthesis s) sign n m = refl

-- ---- steps

call_weights : (ok : Bool) (link : Link) (ws : Option (List Weight)) → cond ok (weights_with link (Some (Lone 1)) ws) None ≡ weights_with link (cond ok (Some (Lone 1)) None) ws
call_weights true link ws = refl
call_weights false link ws = sym (no_weight link ws)

enclosed_weights : (ok : Bool) (link : Link) (ws : Option (List Weight)) → cond ok (weights_with link None ws) None ≡ weights_with link None ws
enclosed_weights true link ws = refl
enclosed_weights false link ws = sym (no_weight link ws)

-- a level behind a factor without a wildcard, with one, and one whose flag is known
plain_level : (around : List Level) (link : Link) (h : Bool) (w : Option Weight) (ws : Option (List Weight)) (rest : List Piece)
    → judged (at around (level true h (weights_with link w ws))) rest ≡ judged (at around (level true (h || false) (weights_with link w ws))) rest
plain_level around link h w ws rest = ap (λ (b : Bool). judged (at around (level true b (weights_with link w ws))) rest) (sym (or_false h))

number_read : (around : List Level) (link : Link) (l : Level) (p : Piece) (rest : List Piece) → step (at around l) p ≡ at around (level true l.has_wildcard (weights_with link None l.weights))
    → judged (at around l) (p ∷ rest) ≡ judged (at around (level true (l.has_wildcard || false) (weights_with link None l.weights))) rest
unfolding judged
number_read around link l p rest e = ap (λ (s : Shape). judged s rest) e ∙ plain_level around link l.has_wildcard None l.weights rest

-- one piece that adds a factor
factor_read : (around : List Level) (link : Link) (l : Level) (p : Piece) (w : Option Weight) (rest : List Piece) → step (at around l) p ≡ at around (level true l.has_wildcard (weights_with link w l.weights))
    → judged (at around l) (p ∷ rest) ≡ judged (at around (level true l.has_wildcard (weights_with link w l.weights))) rest
unfolding judged
factor_read around link l p w rest e = ap (λ (s : Shape). judged s rest) e

-- a mark behind it
mark_read : (around : List Level) (link : Link) (h k : Bool) (w v : Option Weight) (ws : Option (List Weight)) (r : Restriction) (rest : List Piece)
    → k ≡ true → option_and_then (shape.changed changes.Mark) w ≡ v
    → judged (at around (level true h (weights_with link w ws))) (pieces.Marked r ∷ rest) ≡ judged (at around (level true k (weights_with link v ws))) rest
unfolding judged
mark_read around link h k w v ws r rest e f = mark_behind around link h k w v ws rest e f

-- a further piece that changes it
change_read : (c : WeightChange) (around : List Level) (link : Link) (h k : Bool) (w v : Option Weight) (ws : Option (List Weight)) (p : Piece) (rest : List Piece)
    → step (at around (level true h (weights_with link w ws))) p ≡ at around (last_changed c (level true h (weights_with link w ws))) → h ≡ k → option_and_then (shape.changed c) w ≡ v
    → judged (at around (level true h (weights_with link w ws))) (p ∷ rest) ≡ judged (at around (level true k (weights_with link v ws))) rest
unfolding judged
change_read c around link h k w v ws p rest s e f = ap (λ (x : Shape). judged x rest) s ∙ change_behind c around link h k w v ws rest e f

-- a piece that changes nothing
same_read : (state : Shape) (p : Piece) (rest : List Piece) → step state p ≡ state → judged state (p ∷ rest) ≡ judged state rest
unfolding judged
same_read state p rest e = ap (λ (s : Shape). judged s rest) e

abbrev weight : Base → Option Weight
weight b = factor_weight (factor b None)

name_read : (around : List Level) (link : Link) (l : Level) (n : Label) (rest : List Piece) → judged (at around l) (pieces_of_base link (name n) ++ rest) ≡ judged (at around (behind_factor link (factor (name n) None) l)) rest
name_read around link l (named n) rest =
    factor_read around link l (pieces.Name link n) (weight (name (named n))) rest refl ∙ plain_level around link l.has_wildcard (weight (name (named n))) l.weights rest
name_read around link l (wildcard n r) rest =
    factor_read around link l (pieces.Name link (Declared n)) (weight (name (named (Declared n)))) (pieces.Marked r ∷ rest) refl
    ∙ mark_read around link l.has_wildcard (l.has_wildcard || true) (weight (name (named (Declared n)))) (weight (name (wildcard n r))) l.weights r rest (or_true l.has_wildcard) refl

-- the first name of a dot product, with its mark
first_of_dot : (around : List Level) (link : Link) (l : Level) (n : Label) (rest : List Piece)
    → judged (at around l) ((pieces.Dot link (name_of n) ∷ mark_of n) ++ rest) ≡ judged (at around (behind_factor link (factor (name n) None) l)) rest
first_of_dot around link l (named n) rest =
    factor_read around link l (pieces.Dot link n) (weight (name (named n))) rest refl ∙ plain_level around link l.has_wildcard (weight (name (named n))) l.weights rest
first_of_dot around link l (wildcard n r) rest =
    factor_read around link l (pieces.Dot link (Declared n)) (weight (name (named (Declared n)))) (pieces.Marked r ∷ rest) refl
    ∙ mark_read around link l.has_wildcard (l.has_wildcard || true) (weight (name (named (Declared n)))) (weight (name (wildcard n r))) l.weights r rest (or_true l.has_wildcard) refl

-- its second one
second_of_dot : (around : List Level) (link : Link) (l : Level) (p q : Label) (rest : List Piece)
    → judged (at around (behind_factor link (factor (name p) None) l)) ((pieces.EndOfDot (name_of q) ∷ mark_of q) ++ rest) ≡ judged (at around (behind_factor link (factor (dot p q) None) l)) rest
second_of_dot around link l p (named q) rest =
    change_read (changes.Second (text_of q)) around link (l.has_wildcard || is_wildcard p) (l.has_wildcard || (is_wildcard p || false)) (weight (name p)) (weight (dot p (named q))) l.weights (pieces.EndOfDot q) rest refl
    (ap (λ (b : Bool). l.has_wildcard || b) (sym (or_false (is_wildcard p)))) refl
second_of_dot around link l p (wildcard q r) rest =
    change_read (changes.Second q.name) around link (l.has_wildcard || is_wildcard p) (l.has_wildcard || is_wildcard p) (weight (name p)) (weight (dot p (named (Declared q)))) l.weights (pieces.EndOfDot (Declared q)) (pieces.Marked r ∷ rest) refl refl refl
    ∙ mark_read around link (l.has_wildcard || is_wildcard p) (l.has_wildcard || (is_wildcard p || true)) (weight (dot p (named (Declared q)))) (weight (dot p (wildcard q r))) l.weights r rest
    (ap (λ (b : Bool). l.has_wildcard || b) (or_true (is_wildcard p)) ∙ or_true l.has_wildcard) refl

-- an argument of `d_`
entry_read : (around : List Level) (link : Link) (h : Bool) (ws : Option (List Weight)) (a : Entry) (rest : List Piece)
    → judged (at around (level true h (weights_with link (Some (Lone 1)) ws))) (pieces_of_entry a ++ rest) ≡ judged (at around (level true (h || entry_has_wildcard a) (weights_with link (Some (Lone 1)) ws))) rest
entry_read around link h ws (name_entry (named n)) rest =
    same_read (at around (level true h (weights_with link (Some (Lone 1)) ws))) (pieces.EntryName n) rest refl ∙ plain_level around link h (Some (Lone 1)) ws rest
entry_read around link h ws (name_entry (wildcard n r)) rest =
    same_read (at around (level true h (weights_with link (Some (Lone 1)) ws))) (pieces.EntryName (Declared n)) (pieces.Marked r ∷ rest) refl
    ∙ mark_read around link h (h || true) (Some (Lone 1)) (Some (Lone 1)) ws r rest (or_true h) refl
entry_read around link h ws (number_entry n) rest =
    same_read (at around (level true h (weights_with link (Some (Lone 1)) ws))) (pieces.EntryNumber n) rest refl ∙ plain_level around link h (Some (Lone 1)) ws rest

delta_read : (around : List Level) (link : Link) (l : Level) (spot : Spot) (a c : Entry) (rest : List Piece)
    → judged (at around l) (pieces_of_base link (delta spot a c) ++ rest) ≡ judged (at around (behind_factor link (factor (delta spot a c) None) l)) rest
delta_read around link l spot a c rest =
    ap (judged (at around l)) (regroup (pieces_of_entry a) (pieces_of_entry c) (pieces.Delta link spot) pieces.EndOfDelta rest)
    ∙ factor_read around link l (pieces.Delta link spot) (Some (Lone 1)) (pieces_of_entry a ++ (pieces_of_entry c ++ (pieces.EndOfDelta ∷ rest))) refl
    ∙ entry_read around link l.has_wildcard l.weights a (pieces_of_entry c ++ (pieces.EndOfDelta ∷ rest))
    ∙ entry_read around link (l.has_wildcard || entry_has_wildcard a) l.weights c (pieces.EndOfDelta ∷ rest)
    ∙ same_read (at around (level true ((l.has_wildcard || entry_has_wildcard a) || entry_has_wildcard c) (weights_with link (Some (Lone 1)) l.weights))) pieces.EndOfDelta rest refl
    ∙ ap (λ (b : Bool). judged (at around (level true b (weights_with link (Some (Lone 1)) l.weights))) rest) (or_assoc l.has_wildcard (entry_has_wildcard a) (entry_has_wildcard c))
  where
    regroup : (a c : List Piece) (x y : Piece) (rest : List Piece) → (((x ∷ a) ++ c) ++ y ∷ []) ++ rest ≡ x ∷ (a ++ (c ++ (y ∷ rest)))
    regroup a c x y rest = simp append_assoc

-- a name with arguments begins, with its mark
abbrev called : Link → Label → Level → Level
called link n l = level true (l.has_wildcard || is_wildcard n) (weights_with link (Some (Lone 1)) l.weights)

call_read : (around : List Level) (link : Link) (l : Level) (n : Label) (rest : List Piece)
    → judged (at around l) ((pieces.Call link (name_of n) ∷ mark_of n) ++ rest) ≡ judged (at (called link n l ∷ around) empty) rest
unfolding judged
call_read around link l (named n) rest = ap (λ (b : Bool). judged (at (level true b (weights_with link (Some (Lone 1)) l.weights) ∷ around) empty) rest) (sym (or_false l.has_wildcard))
call_read around link l (wildcard n r) rest = ap (λ (b : Bool). judged (at (level true b (weights_with link (Some (Lone 1)) l.weights) ∷ around) empty) rest) (sym (or_true l.has_wildcard))

closed_read : (around : List Level) (outer inner : Level) (p : Piece) (rest : List Piece) → step (at (outer ∷ around) inner) p ≡ at around (absorbed inner outer)
    → judged (at (outer ∷ around) inner) (p ∷ rest) ≡ judged (at around (absorbed inner outer)) rest
unfolding judged
closed_read around outer inner p rest e = ap (λ (s : Shape). judged s rest) e

comma_read : (around : List Level) (outer inner : Level) (rest : List Piece) → judged (at (outer ∷ around) inner) (pieces.Comma ∷ rest) ≡ judged (at (absorbed inner outer ∷ around) empty) rest
unfolding judged
comma_read around outer inner rest = refl

field_read : (around : List Level) (o : Level) (n : Spelled) (rest : List Piece) → judged (at (o ∷ around) empty) (pieces.Field n ∷ rest) ≡ judged (at (with_wildcard o ∷ around) empty) rest
unfolding judged
field_read around o n rest = refl

open_read : (around : List Level) (link : Link) (l : Level) (rest : List Piece) → judged (at around l) (pieces.Open link ∷ rest) ≡ judged (at (added link None l ∷ around) empty) rest
unfolding judged
open_read around link l rest = refl

absorbed_sum : (link : Link) (s : Sum) (l : Level) → absorbed (level_of_sum s) (added link None l) ≡ behind_factor link (factor (parenthesis s) None) l
absorbed_sum link s l =
    ap (λ (b : Bool). level true (l.has_wildcard || b) (cond (is_argument (level_of_sum s)) (weights_with link None l.weights) None)) (has_of_sum s)
    ∙ ap (λ (ws : Option (List Weight)). level true (l.has_wildcard || has_wildcard s) ws) (enclosed_weights (is_argument (level_of_sum s)) link l.weights)

absorbed_call : (link : Link) (n : Label) (args : Arguments) (l : Level) → after_arguments args (called link n l) ≡ behind_factor link (factor (call n args) None) l
absorbed_call link n args l =
    ap (λ (b : Bool). level true b (cond (are_pattern_arguments args) (weights_with link (Some (Lone 1)) l.weights) None)) (or_assoc l.has_wildcard (is_wildcard n) (arguments_have_wildcard args))
    ∙ ap (λ (ws : Option (List Weight)). level true (l.has_wildcard || (is_wildcard n || arguments_have_wildcard args)) ws) (call_weights (are_pattern_arguments args) link l.weights)

absorbed_empty : (link : Link) (n : Label) (l : Level) → absorbed empty (called link n l) ≡ behind_factor link (factor (empty_call n) None) l
absorbed_empty link n l = ap (λ (b : Bool). level true b (weights_with link (Some (Lone 1)) l.weights)) (or_false (l.has_wildcard || is_wildcard n))

-- ---- trees

enclosed : {A : Type 0} (a : List A) (x y : A) (rest : List A) → ((x ∷ a) ++ y ∷ []) ++ rest ≡ x ∷ (a ++ (y ∷ rest))
enclosed a x y rest = simp append_assoc

three : {A : Type 0} (a b c d : List A) → ((a ++ b) ++ c) ++ d ≡ a ++ (b ++ (c ++ d))
three a b c d = simp append_assoc

raised_read : (around : List Level) (link : Link) (l : Level) (b : Base) (sign : Option Sign) (n : Label) (rest : List Piece)
    → judged (at around (behind_factor link (factor b None) l)) ((pieces.RaisedByName sign (name_of n) ∷ mark_of n) ++ rest) ≡ judged (at around (behind_factor link (raised b sign n) l)) rest
raised_read around link l b sign (named n) rest =
    change_read changes.Free around link (l.has_wildcard || base_has_wildcard b) (l.has_wildcard || (base_has_wildcard b || false)) (weight b) (factor_weight (raised b sign (named n))) l.weights (pieces.RaisedByName sign n) rest refl
    (ap (λ (h : Bool). l.has_wildcard || h) (sym (or_false (base_has_wildcard b)))) (freed b sign (named n))
raised_read around link l b sign (wildcard n r) rest =
    change_read changes.Free around link (l.has_wildcard || base_has_wildcard b) (l.has_wildcard || base_has_wildcard b) (weight b) (factor_weight (raised b sign (named (Declared n)))) l.weights (pieces.RaisedByName sign (Declared n)) (pieces.Marked r ∷ rest) refl refl (freed b sign (named (Declared n)))
    ∙ mark_read around link (l.has_wildcard || base_has_wildcard b) (l.has_wildcard || (base_has_wildcard b || true)) (factor_weight (raised b sign (named (Declared n)))) (factor_weight (raised b sign (wildcard n r))) l.weights r rest
    (ap (λ (h : Bool). l.has_wildcard || h) (or_true (base_has_wildcard b)) ∙ or_true l.has_wildcard) (mark_freed b sign (named (Declared n)) (wildcard n r))

mutual
  of_sum : (s : Sum) (around : List Level) (rest : List Piece) → judged (at around empty) (pieces_of_sum s ++ rest) ≡ judged (at around (level_of_sum s)) rest
  of_sum (first None p) around rest =
      of_product p around links.First empty rest ∙ ap (λ (ws : Option (List Weight)). judged (at around (level true (product_has_wildcard p) ws)) rest) (first_weights p)
  of_sum (first (Some sign) p) around rest =
      of_product p around (link_of sign) empty rest ∙ ap (λ (ws : Option (List Weight)). judged (at around (level true (product_has_wildcard p) ws)) rest) (signed_weights sign (Some []) (product_weights p))
  of_sum (more s sign p) around rest =
      ap (judged (at around empty)) (append_assoc (pieces_of_sum s) (pieces_of_product (link_of sign) p) rest)
      ∙ of_sum s around (pieces_of_product (link_of sign) p ++ rest)
      ∙ of_product p around (link_of sign) (level_of_sum s) rest
      ∙ ap (λ (ws : Option (List Weight)). judged (at around (level true ((level_of_sum s).has_wildcard || product_has_wildcard p) ws)) rest) (signed_weights sign (level_of_sum s).weights (product_weights p))
      ∙ ap (λ (b : Bool). judged (at around (level true (b || product_has_wildcard p) None)) rest) (has_of_sum s)

  of_product : (p : Product) (around : List Level) (link : Link) (l : Level) (rest : List Piece)
      → judged (at around l) (pieces_of_product link p ++ rest) ≡ judged (at around (behind_product link p l)) rest
  of_product (one f) around link l rest =
      of_factor f around link l rest ∙ ap (λ (ws : Option (List Weight)). judged (at around (level true (l.has_wildcard || factor_has_wildcard f) ws)) rest) (one_weights link f l.weights)
  of_product (times p f) around link l rest =
      ap (judged (at around l)) (append_assoc (pieces_of_product link p) (pieces_of_factor links.Times f) rest)
      ∙ of_product p around link l (pieces_of_factor links.Times f ++ rest)
      ∙ of_factor f around links.Times (behind_product link p l) rest
      ∙ same_level around ((l.has_wildcard || product_has_wildcard p) || factor_has_wildcard f) (l.has_wildcard || (product_has_wildcard p || factor_has_wildcard f)) (weights_with links.Times (factor_weight f) (weights_joined link l.weights (product_weights p))) (weights_joined link l.weights (product_weights (times p f))) rest
      (or_assoc l.has_wildcard (product_has_wildcard p) (factor_has_wildcard f)) (times_weights link p f l.weights)
  of_product (over p f) around link l rest =
      ap (judged (at around l)) (append_assoc (pieces_of_product link p) (pieces_of_factor links.Over f) rest)
      ∙ of_product p around link l (pieces_of_factor links.Over f ++ rest)
      ∙ of_factor f around links.Over (behind_product link p l) rest
      ∙ same_level around ((l.has_wildcard || product_has_wildcard p) || factor_has_wildcard f) (l.has_wildcard || (product_has_wildcard p || factor_has_wildcard f)) None (weights_joined link l.weights None) rest
      (or_assoc l.has_wildcard (product_has_wildcard p) (factor_has_wildcard f)) (over_weights link l.weights)

  of_factor : (f : Factor) (around : List Level) (link : Link) (l : Level) (rest : List Piece)
      → judged (at around l) (pieces_of_factor link f ++ rest) ≡ judged (at around (behind_factor link f l)) rest
  of_factor (factor b None) around link l rest = of_base b around link l rest
  of_factor (factor b (Some p)) around link l rest =
      ap (judged (at around l)) (append_assoc (pieces_of_base link b) (piece_of_power p ∷ []) rest)
      ∙ of_base b around link l (piece_of_power p ∷ rest)
      ∙ change_read (changes.Size (is_minus p.sign) p.number.value) around link (l.has_wildcard || base_has_wildcard b) (l.has_wildcard || base_has_wildcard b) (weight b) (factor_weight (factor b (Some p))) l.weights (piece_of_power p) rest refl refl (sized b p)
  of_factor (raised b sign n) around link l rest =
      ap (judged (at around l)) (append_assoc (pieces_of_base link b) (pieces.RaisedByName sign (name_of n) ∷ mark_of n) rest)
      ∙ of_base b around link l ((pieces.RaisedByName sign (name_of n) ∷ mark_of n) ++ rest)
      ∙ raised_read around link l b sign n rest

  of_base : (b : Base) (around : List Level) (link : Link) (l : Level) (rest : List Piece)
      → judged (at around l) (pieces_of_base link b ++ rest) ≡ judged (at around (behind_factor link (factor b None) l)) rest
  of_base (number n) around link l rest = number_read around link l (pieces.Number link n) rest refl
  of_base (name n) around link l rest = name_read around link l n rest
  of_base (dot p q) around link l rest =
      ap (judged (at around l)) (append_assoc (pieces.Dot link (name_of p) ∷ mark_of p) (pieces.EndOfDot (name_of q) ∷ mark_of q) rest)
      ∙ first_of_dot around link l p ((pieces.EndOfDot (name_of q) ∷ mark_of q) ++ rest)
      ∙ second_of_dot around link l p q rest
  of_base (delta spot a c) around link l rest = delta_read around link l spot a c rest
  of_base (empty_call n) around link l rest =
      ap (judged (at around l)) (append_assoc (pieces.Call link (name_of n) ∷ mark_of n) (pieces.EndOfCall ∷ []) rest)
      ∙ call_read around link l n (pieces.EndOfCall ∷ rest)
      ∙ closed_read around (called link n l) empty pieces.EndOfCall rest refl
      ∙ ap (λ (x : Level). judged (at around x) rest) (absorbed_empty link n l)
  of_base (call n args) around link l rest =
      ap (judged (at around l)) (three (pieces.Call link (name_of n) ∷ mark_of n) (pieces_of_arguments args) (pieces.EndOfCall ∷ []) rest)
      ∙ call_read around link l n (pieces_of_arguments args ++ (pieces.EndOfCall ∷ rest))
      ∙ of_arguments args around (called link n l) (pieces.EndOfCall ∷ rest)
      ∙ closed_read around (around_argument (last_of args) (before_last args (called link n l))) (level_of_argument (last_of args)) pieces.EndOfCall rest refl
      ∙ ap (λ (x : Level). judged (at around x) rest) (all_ended args (called link n l) ∙ absorbed_call link n args l)
  of_base (parenthesis s) around link l rest =
      ap (judged (at around l)) (enclosed (pieces_of_sum s) (pieces.Open link) pieces.Close rest)
      ∙ open_read around link l (pieces_of_sum s ++ (pieces.Close ∷ rest))
      ∙ of_sum s (added link None l ∷ around) (pieces.Close ∷ rest)
      ∙ closed_read around (added link None l) (level_of_sum s) pieces.Close rest refl
      ∙ ap (λ (x : Level). judged (at around x) rest) (absorbed_sum link s l)

  of_arguments : (args : Arguments) (around : List Level) (o : Level) (rest : List Piece)
      → judged (at (o ∷ around) empty) (pieces_of_arguments args ++ rest) ≡ judged (at (around_argument (last_of args) (before_last args o) ∷ around) (level_of_argument (last_of args))) rest
  of_arguments (argument a) around o rest = of_argument a around o rest
  of_arguments (further args a) around o rest =
      ap (judged (at (o ∷ around) empty)) (append_assoc (pieces_of_arguments args) (pieces.Comma ∷ pieces_of_argument a) rest)
      ∙ of_arguments args around o (pieces.Comma ∷ pieces_of_argument a ++ rest)
      ∙ comma_read around (around_argument (last_of args) (before_last args o)) (level_of_argument (last_of args)) (pieces_of_argument a ++ rest)
      ∙ ap (λ (x : Level). judged (at (x ∷ around) empty) (pieces_of_argument a ++ rest)) (all_ended args o)
      ∙ of_argument a around (after_arguments args o) rest

  of_argument : (a : Argument) (around : List Level) (o : Level) (rest : List Piece)
      → judged (at (o ∷ around) empty) (pieces_of_argument a ++ rest) ≡ judged (at (around_argument a o ∷ around) (level_of_argument a)) rest
  of_argument (expression s) around o rest = of_sum s (o ∷ around) rest
  of_argument (field n) around o rest = field_read around o n rest

at_end : (s : Shape) → judged s [] ≡ are_factors s.inner.weights
unfolding judged
at_end s = refl

-- The pieces of a tree are judged as it is.
pub judged_right : (s : Sum) → judged shape.begun (pieces_of_sum s) ≡ is_pattern s
judged_right s = ap (judged shape.begun) (sym (append-nil (pieces_of_sum s))) ∙ of_sum s [] [] ∙ at_end (at [] (level_of_sum s)) ∙ factors_of_sum s
