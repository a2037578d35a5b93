-- A tree that is lawful where some parentheses are open is lawful where so many are exactly if its pieces fit there.
use Rattle.std.proofs.Common.{◌≡◌, ℕ, ◌+◌, ◌-◌, ◌<◌, Bool, true, false, cond, List, [], ◌∷◌, ◌++◌, Option, Some, None, option_and_then, refl, sym, ap, ◌∙◌, append_assoc, arith, ltb}
use Rattle.std.proofs.lemmas.Bool.{ltb-true, lt-ltb}
use Rattle.form_base.specs.declared.spot.Spot.{Spot}
use Rattle.form_number.specs.declared.number.Number.{Number}
use Rattle.form_ast.specs.declared.expr.Sign.{Sign}
use Rattle.form_ast.specs.declared.expr.Spelled.{Spelled}
use Rattle.form_ast.specs.declared.expr.Link.{Link}
use Rattle.form_ast.specs.declared.expr.Link.TheVariants as links
use Rattle.form_ast.specs.declared.expr.Power.{Power}
use Rattle.form_ast.specs.declared.expr.Piece.{Piece}
use Rattle.form_ast.specs.declared.expr.Piece.TheVariants as pieces
use Rattle.form_ast.specs.declared.setting.Setting.{Setting}
use Rattle.form_ast.specs.Syntax.{Label, named, wildcard, Entry, name_entry, number_entry, Sum, first, more, Product, one, times, over, Factor, factor, raised, Base, number, name, dot, delta, empty_call, call, parenthesis, Arguments, argument, further, Argument, expression, field, first_link, link_of, name_of, mark_of, pieces_of_entry, piece_of_power, pieces_of_sum, pieces_of_product, pieces_of_factor, pieces_of_base, pieces_of_arguments, pieces_of_argument}
use Rattle.form_ast.specs.Lawful.{most_open, IsLawfulPower, IsLawfulSum, IsLawfulProduct, IsLawfulFactor, IsLawfulBase, IsLawfulArguments, IsLawfulArgument}
use Rattle.form_grammar.specs.Depth.{with_room, opened_by}

-- ---- pieces behind others

module _ {A : Type 0} where
  call_text : (m a rest : List A) (x y : A) → (((x ∷ m) ++ a) ++ y ∷ []) ++ rest ≡ x ∷ (m ++ (a ++ y ∷ rest))
  call_text m a rest x y = simp append_assoc

  empty_text : (m rest : List A) (x y : A) → ((x ∷ m) ++ y ∷ []) ++ rest ≡ x ∷ (m ++ y ∷ rest)
  empty_text m rest x y = simp append_assoc

  enclosed_text : (a rest : List A) (x y : A) → ((x ∷ a) ++ y ∷ []) ++ rest ≡ x ∷ (a ++ y ∷ rest)
  enclosed_text a rest x y = simp append_assoc

  delta_text : (a b rest : List A) (x y : A) → (((x ∷ a) ++ b) ++ y ∷ []) ++ rest ≡ x ∷ (a ++ (b ++ y ∷ rest))
  delta_text a b rest x y = simp append_assoc

  dot_text : (a b rest : List A) (x y : A) → ((x ∷ a) ++ (y ∷ b)) ++ rest ≡ x ∷ (a ++ y ∷ (b ++ rest))
  dot_text a b rest x y = simp append_assoc

-- these pieces leave as many open
abbrev Passes : ℕ → List Piece → Type 0
Passes n ps = (rest : List Piece) → opened_by n (ps ++ rest) ≡ opened_by n rest

mark_passes : (k : Label) (n : ℕ) → Passes n (mark_of k)
unfolding opened_by
mark_passes (named k) n rest = refl
mark_passes (wildcard k r) n rest = refl

entry_passes : (a : Entry) (n : ℕ) → Passes n (pieces_of_entry a)
unfolding opened_by
entry_passes (name_entry k) n rest = mark_passes k n rest
entry_passes (number_entry k) n rest = refl

room_there : (n behind : ℕ) → n < most_open → with_room n behind ≡ Some behind
room_there n behind h = ap (λ (b : Bool). cond b (Some behind) None) (lt-ltb n most_open h)

closed_again : (n : ℕ) (rest : List Piece) → opened_by (n + 1 - 1) rest ≡ opened_by n rest
closed_again n rest = let e : n + 1 - 1 ≡ n = omega arith in ap (λ m. opened_by m rest) e

call_opens : (n : ℕ) (link : Link) (k : Label) (rest : List Piece) → n < most_open → opened_by n (pieces.Call link (name_of k) ∷ rest) ≡ opened_by (n + 1) rest
unfolding opened_by
call_opens n link k rest h = ap (option_and_then (λ behind. opened_by behind rest)) (room_there n (n + 1) h)

call_ends : (n : ℕ) (rest : List Piece) → opened_by (n + 1) (pieces.EndOfCall ∷ rest) ≡ opened_by n rest
unfolding opened_by
call_ends n rest = closed_again n rest

parenthesis_opens : (n : ℕ) (link : Link) (rest : List Piece) → n < most_open → opened_by n (pieces.Open link ∷ rest) ≡ opened_by (n + 1) rest
unfolding opened_by
parenthesis_opens n link rest h = ap (option_and_then (λ behind. opened_by behind rest)) (room_there n (n + 1) h)

parenthesis_ends : (n : ℕ) (rest : List Piece) → opened_by (n + 1) (pieces.Close ∷ rest) ≡ opened_by n rest
unfolding opened_by
parenthesis_ends n rest = closed_again n rest

delta_opens : (n : ℕ) (link : Link) (spot : Spot) (rest : List Piece) → n < most_open → opened_by n (pieces.Delta link spot ∷ rest) ≡ opened_by n rest
unfolding opened_by
delta_opens n link spot rest h = ap (option_and_then (λ behind. opened_by behind rest)) (room_there n n h)

delta_ends : (n : ℕ) (rest : List Piece) → opened_by n (pieces.EndOfDelta ∷ rest) ≡ opened_by n rest
unfolding opened_by
delta_ends n rest = refl

number_passes : (n : ℕ) (link : Link) (k : Number) (rest : List Piece) → opened_by n (pieces.Number link k ∷ rest) ≡ opened_by n rest
unfolding opened_by
number_passes n link k rest = refl

name_passes : (n : ℕ) (link : Link) (k : Label) (rest : List Piece) → opened_by n (pieces.Name link (name_of k) ∷ mark_of k ++ rest) ≡ opened_by n rest
unfolding opened_by
name_passes n link k rest = mark_passes k n rest

dot_passes : (n : ℕ) (link : Link) (p q : Label) (rest : List Piece)
    → opened_by n (pieces.Dot link (name_of p) ∷ (mark_of p ++ pieces.EndOfDot (name_of q) ∷ (mark_of q ++ rest))) ≡ opened_by n rest
unfolding opened_by
dot_passes n link p q rest = mark_passes p n (pieces.EndOfDot (name_of q) ∷ (mark_of q ++ rest)) ∙ mark_passes q n rest

comma_passes : (n : ℕ) (rest : List Piece) → opened_by n (pieces.Comma ∷ rest) ≡ opened_by n rest
unfolding opened_by
comma_passes n rest = refl

field_passes : (n : ℕ) (k : Spelled) (rest : List Piece) → opened_by n (pieces.Field k ∷ rest) ≡ opened_by n rest
unfolding opened_by
field_passes n k rest = refl

exponent_passes : (n : ℕ) (sign : Option Sign) (k : Label) (rest : List Piece) → opened_by n (pieces.RaisedByName sign (name_of k) ∷ mark_of k ++ rest) ≡ opened_by n rest
unfolding opened_by
exponent_passes n sign k rest = mark_passes k n rest

raised_passes : (n : ℕ) (b : Bool) (sign : Option Sign) (k : Number) (rest : List Piece) → (b ≡ true → n < most_open) → opened_by n (pieces.Raised b sign k ∷ rest) ≡ opened_by n rest
unfolding opened_by
raised_passes n true sign k rest h = ap (option_and_then (λ behind. opened_by behind rest)) (room_there n n (h refl))
raised_passes n false sign k rest h = refl

power_passes : (n : ℕ) (p : Power) (rest : List Piece) → IsLawfulPower n (Some p) → opened_by n (piece_of_power p ∷ rest) ≡ opened_by n rest
power_passes n p rest h = raised_passes n p.is_parenthesized p.sign p.number rest h

-- ---- what is lawful fits

regrouped : (n : ℕ) (a b rest : List Piece) → opened_by n ((a ++ b) ++ rest) ≡ opened_by n (a ++ (b ++ rest))
regrouped n a b rest = ap (opened_by n) (append_assoc a b rest)

mutual
  pub passes_sum : (s : Sum) (g : Setting) (n : ℕ) → IsLawfulSum g n s → Passes n (pieces_of_sum s)
  passes_sum (first sign p) g n h rest = passes_product p (first_link sign) g n h rest
  passes_sum (more s sign p) g n h rest =
      regrouped n (pieces_of_sum s) (pieces_of_product (link_of sign) p) rest
      ∙ passes_sum s g n h.0 (pieces_of_product (link_of sign) p ++ rest)
      ∙ passes_product p (link_of sign) g n h.1 rest

  passes_product : (p : Product) (link : Link) (g : Setting) (n : ℕ) → IsLawfulProduct g n p → Passes n (pieces_of_product link p)
  passes_product (one f) link g n h rest = passes_factor f link g n h rest
  passes_product (times p f) link g n h rest =
      regrouped n (pieces_of_product link p) (pieces_of_factor links.Times f) rest
      ∙ passes_product p link g n h.0 (pieces_of_factor links.Times f ++ rest)
      ∙ passes_factor f links.Times g n h.1 rest
  passes_product (over p f) link g n h rest =
      regrouped n (pieces_of_product link p) (pieces_of_factor links.Over f) rest
      ∙ passes_product p link g n h.0 (pieces_of_factor links.Over f ++ rest)
      ∙ passes_factor f links.Over g n h.1 rest

  passes_factor : (f : Factor) (link : Link) (g : Setting) (n : ℕ) → IsLawfulFactor g n f → Passes n (pieces_of_factor link f)
  passes_factor (factor b None) link g n h rest = passes_base b link g n h.0 rest
  passes_factor (factor b (Some p)) link g n h rest =
      regrouped n (pieces_of_base link b) (piece_of_power p ∷ []) rest
      ∙ passes_base b link g n h.0 (piece_of_power p ∷ rest)
      ∙ power_passes n p rest h.1
  passes_factor (raised b sign k) link g n h rest =
      regrouped n (pieces_of_base link b) (pieces.RaisedByName sign (name_of k) ∷ mark_of k) rest
      ∙ passes_base b link g n h.0 (pieces.RaisedByName sign (name_of k) ∷ mark_of k ++ rest)
      ∙ exponent_passes n sign k rest

  passes_base : (b : Base) (link : Link) (g : Setting) (n : ℕ) → IsLawfulBase g n b → Passes n (pieces_of_base link b)
  passes_base (number k) link g n h rest = number_passes n link k rest
  passes_base (name k) link g n h rest = name_passes n link k rest
  passes_base (dot p q) link g n h rest =
      ap (opened_by n) (dot_text (mark_of p) (mark_of q) rest (pieces.Dot link (name_of p)) (pieces.EndOfDot (name_of q)))
      ∙ dot_passes n link p q rest
  passes_base (delta spot a b) link g n h rest =
      ap (opened_by n) (delta_text (pieces_of_entry a) (pieces_of_entry b) rest (pieces.Delta link spot) pieces.EndOfDelta)
      ∙ delta_opens n link spot (pieces_of_entry a ++ (pieces_of_entry b ++ pieces.EndOfDelta ∷ rest)) h.0
      ∙ entry_passes a n (pieces_of_entry b ++ pieces.EndOfDelta ∷ rest)
      ∙ entry_passes b n (pieces.EndOfDelta ∷ rest)
      ∙ delta_ends n rest
  passes_base (empty_call k) link g n h rest =
      ap (opened_by n) (empty_text (mark_of k) rest (pieces.Call link (name_of k)) pieces.EndOfCall)
      ∙ call_opens n link k (mark_of k ++ pieces.EndOfCall ∷ rest) h.0
      ∙ mark_passes k (n + 1) (pieces.EndOfCall ∷ rest)
      ∙ call_ends n rest
  passes_base (call k args) link g n h rest =
      ap (opened_by n) (call_text (mark_of k) (pieces_of_arguments args) rest (pieces.Call link (name_of k)) pieces.EndOfCall)
      ∙ call_opens n link k (mark_of k ++ (pieces_of_arguments args ++ pieces.EndOfCall ∷ rest)) h.0
      ∙ mark_passes k (n + 1) (pieces_of_arguments args ++ pieces.EndOfCall ∷ rest)
      ∙ passes_arguments args g (n + 1) h.2 (pieces.EndOfCall ∷ rest)
      ∙ call_ends n rest
  passes_base (parenthesis s) link g n h rest =
      ap (opened_by n) (enclosed_text (pieces_of_sum s) rest (pieces.Open link) pieces.Close)
      ∙ parenthesis_opens n link (pieces_of_sum s ++ pieces.Close ∷ rest) h.0
      ∙ passes_sum s g (n + 1) h.1 (pieces.Close ∷ rest)
      ∙ parenthesis_ends n rest

  passes_arguments : (args : Arguments) (g : Setting) (n : ℕ) → IsLawfulArguments g n args → Passes n (pieces_of_arguments args)
  passes_arguments (argument a) g n h rest = passes_argument a g n h rest
  passes_arguments (further args a) g n h rest =
      regrouped n (pieces_of_arguments args) (pieces.Comma ∷ pieces_of_argument a) rest
      ∙ passes_arguments args g n h.0 (pieces.Comma ∷ pieces_of_argument a ++ rest)
      ∙ comma_passes n (pieces_of_argument a ++ rest)
      ∙ passes_argument a g n h.1 rest

  passes_argument : (a : Argument) (g : Setting) (n : ℕ) → IsLawfulArgument g n a → Passes n (pieces_of_argument a)
  passes_argument (expression s) g n h rest = passes_sum s g n h rest
  passes_argument (field k) g n h rest = field_passes n k rest

-- ---- what fits is lawful

-- where one is opened there was room
room : (n behind out : ℕ) (rest : List Piece) → option_and_then (λ b. opened_by b rest) (with_room n behind) ≡ Some out → (n < most_open) × (opened_by behind rest ≡ Some out)
room n behind out rest e = by_test (ltb n most_open) refl e where
  by_test : (b : Bool) → ltb n most_open ≡ b → option_and_then (λ b. opened_by b rest) (cond b (Some behind) None) ≡ Some out → (n < most_open) × (opened_by behind rest ≡ Some out)
  by_test true t f = (ltb-true n most_open t, f)
  by_test false t f = absurd cc

call_room : (n out : ℕ) (link : Link) (k : Label) (rest : List Piece) → opened_by n (pieces.Call link (name_of k) ∷ rest) ≡ Some out → (n < most_open) × (opened_by (n + 1) rest ≡ Some out)
unfolding opened_by
call_room n out link k rest e = room n (n + 1) out rest e

parenthesis_room : (n out : ℕ) (link : Link) (rest : List Piece) → opened_by n (pieces.Open link ∷ rest) ≡ Some out → (n < most_open) × (opened_by (n + 1) rest ≡ Some out)
unfolding opened_by
parenthesis_room n out link rest e = room n (n + 1) out rest e

delta_room : (n out : ℕ) (link : Link) (spot : Spot) (rest : List Piece) → opened_by n (pieces.Delta link spot ∷ rest) ≡ Some out → (n < most_open) × (opened_by n rest ≡ Some out)
unfolding opened_by
delta_room n out link spot rest e = room n n out rest e

raised_room : (n out : ℕ) (b : Bool) (sign : Option Sign) (k : Number) (rest : List Piece) → opened_by n (pieces.Raised b sign k ∷ rest) ≡ Some out → (b ≡ true → n < most_open) × (opened_by n rest ≡ Some out)
unfolding opened_by
raised_room n out true sign k rest e = let r = room n n out rest e in (λ t. r.0, r.1)
raised_room n out false sign k rest e = (λ t. absurd cc, e)

mutual
  pub fits_sum : (s : Sum) (g : Setting) (m n out : ℕ) (rest : List Piece) → IsLawfulSum g m s → opened_by n (pieces_of_sum s ++ rest) ≡ Some out → IsLawfulSum g n s × (opened_by n rest ≡ Some out)
  fits_sum (first sign p) g m n out rest h e = fits_product p (first_link sign) g m n out rest h e
  fits_sum (more s sign p) g m n out rest h e =
      let a = fits_sum s g m n out (pieces_of_product (link_of sign) p ++ rest) h.0 (sym (regrouped n (pieces_of_sum s) (pieces_of_product (link_of sign) p) rest) ∙ e) in
      let b = fits_product p (link_of sign) g m n out rest h.1 a.1 in
      ((a.0, b.0), b.1)

  fits_product : (p : Product) (link : Link) (g : Setting) (m n out : ℕ) (rest : List Piece) → IsLawfulProduct g m p → opened_by n (pieces_of_product link p ++ rest) ≡ Some out → IsLawfulProduct g n p × (opened_by n rest ≡ Some out)
  fits_product (one f) link g m n out rest h e = fits_factor f link g m n out rest h e
  fits_product (times p f) link g m n out rest h e =
      let a = fits_product p link g m n out (pieces_of_factor links.Times f ++ rest) h.0 (sym (regrouped n (pieces_of_product link p) (pieces_of_factor links.Times f) rest) ∙ e) in
      let b = fits_factor f links.Times g m n out rest h.1 a.1 in
      ((a.0, b.0), b.1)
  fits_product (over p f) link g m n out rest h e =
      let a = fits_product p link g m n out (pieces_of_factor links.Over f ++ rest) h.0 (sym (regrouped n (pieces_of_product link p) (pieces_of_factor links.Over f) rest) ∙ e) in
      let b = fits_factor f links.Over g m n out rest h.1 a.1 in
      ((a.0, b.0, h.2), b.1)

  fits_factor : (f : Factor) (link : Link) (g : Setting) (m n out : ℕ) (rest : List Piece) → IsLawfulFactor g m f → opened_by n (pieces_of_factor link f ++ rest) ≡ Some out → IsLawfulFactor g n f × (opened_by n rest ≡ Some out)
  fits_factor (factor b None) link g m n out rest h e =
      let a = fits_base b link g m n out rest h.0 e in
      ((a.0, tt, h.2), a.1)
  fits_factor (factor b (Some p)) link g m n out rest h e =
      let a = fits_base b link g m n out (piece_of_power p ∷ rest) h.0 (sym (regrouped n (pieces_of_base link b) (piece_of_power p ∷ []) rest) ∙ e) in
      let r = raised_room n out p.is_parenthesized p.sign p.number rest a.1 in
      ((a.0, r.0, h.2), r.1)
  fits_factor (raised b sign k) link g m n out rest h e =
      let a = fits_base b link g m n out (pieces.RaisedByName sign (name_of k) ∷ mark_of k ++ rest) h.0 (sym (regrouped n (pieces_of_base link b) (pieces.RaisedByName sign (name_of k) ∷ mark_of k) rest) ∙ e) in
      ((a.0, h.1), sym (exponent_passes n sign k rest) ∙ a.1)

  fits_base : (b : Base) (link : Link) (g : Setting) (m n out : ℕ) (rest : List Piece) → IsLawfulBase g m b → opened_by n (pieces_of_base link b ++ rest) ≡ Some out → IsLawfulBase g n b × (opened_by n rest ≡ Some out)
  fits_base (number k) link g m n out rest h e = (tt, sym (number_passes n link k rest) ∙ e)
  fits_base (name k) link g m n out rest h e = (h, sym (name_passes n link k rest) ∙ e)
  fits_base (dot p q) link g m n out rest h e =
      (h, sym (dot_passes n link p q rest) ∙ sym (ap (opened_by n) (dot_text (mark_of p) (mark_of q) rest (pieces.Dot link (name_of p)) (pieces.EndOfDot (name_of q)))) ∙ e)
  fits_base (delta spot a b) link g m n out rest h e =
      let r = delta_room n out link spot (pieces_of_entry a ++ (pieces_of_entry b ++ pieces.EndOfDelta ∷ rest)) (sym (ap (opened_by n) (delta_text (pieces_of_entry a) (pieces_of_entry b) rest (pieces.Delta link spot) pieces.EndOfDelta)) ∙ e) in
      ((r.0, h.1, h.2), sym (entry_passes a n (pieces_of_entry b ++ pieces.EndOfDelta ∷ rest) ∙ entry_passes b n (pieces.EndOfDelta ∷ rest) ∙ delta_ends n rest) ∙ r.1)
  fits_base (empty_call k) link g m n out rest h e =
      let r = call_room n out link k (mark_of k ++ pieces.EndOfCall ∷ rest) (sym (ap (opened_by n) (empty_text (mark_of k) rest (pieces.Call link (name_of k)) pieces.EndOfCall)) ∙ e) in
      ((r.0, h.1), sym (mark_passes k (n + 1) (pieces.EndOfCall ∷ rest) ∙ call_ends n rest) ∙ r.1)
  fits_base (call k args) link g m n out rest h e =
      let r = call_room n out link k (mark_of k ++ (pieces_of_arguments args ++ pieces.EndOfCall ∷ rest)) (sym (ap (opened_by n) (call_text (mark_of k) (pieces_of_arguments args) rest (pieces.Call link (name_of k)) pieces.EndOfCall)) ∙ e) in
      let a = fits_arguments args g (m + 1) (n + 1) out (pieces.EndOfCall ∷ rest) h.2 (sym (mark_passes k (n + 1) (pieces_of_arguments args ++ pieces.EndOfCall ∷ rest)) ∙ r.1) in
      ((r.0, h.1, a.0), sym (call_ends n rest) ∙ a.1)
  fits_base (parenthesis s) link g m n out rest h e =
      let r = parenthesis_room n out link (pieces_of_sum s ++ pieces.Close ∷ rest) (sym (ap (opened_by n) (enclosed_text (pieces_of_sum s) rest (pieces.Open link) pieces.Close)) ∙ e) in
      let a = fits_sum s g (m + 1) (n + 1) out (pieces.Close ∷ rest) h.1 r.1 in
      ((r.0, a.0), sym (parenthesis_ends n rest) ∙ a.1)

  fits_arguments : (args : Arguments) (g : Setting) (m n out : ℕ) (rest : List Piece) → IsLawfulArguments g m args → opened_by n (pieces_of_arguments args ++ rest) ≡ Some out → IsLawfulArguments g n args × (opened_by n rest ≡ Some out)
  fits_arguments (argument a) g m n out rest h e = fits_argument a g m n out rest h e
  fits_arguments (further args a) g m n out rest h e =
      let x = fits_arguments args g m n out (pieces.Comma ∷ pieces_of_argument a ++ rest) h.0 (sym (regrouped n (pieces_of_arguments args) (pieces.Comma ∷ pieces_of_argument a) rest) ∙ e) in
      let y = fits_argument a g m n out rest h.1 (sym (comma_passes n (pieces_of_argument a ++ rest)) ∙ x.1) in
      ((x.0, y.0), y.1)

  fits_argument : (a : Argument) (g : Setting) (m n out : ℕ) (rest : List Piece) → IsLawfulArgument g m a → opened_by n (pieces_of_argument a ++ rest) ≡ Some out → IsLawfulArgument g n a × (opened_by n rest ≡ Some out)
  fits_argument (expression s) g m n out rest h e = fits_sum s g m n out rest h e
  fits_argument (field k) g m n out rest h e = (h, sym (field_passes n k rest) ∙ e)
