-- Functions and their arguments, read from the front.
use Rattle.std.proofs.Common.{◌≡◌, ℕ, ◌+◌, ◌-◌, ◌<◌, ◌≤◌, Bool, List, [], ◌∷◌, ◌++◌, length, take, drop, refl, sym, ap, subst, ◌∙◌, arith}
use Rattle.std.specs.Prelude.{Some, None, Ok}
use Rattle.form_term.specs.declared.arguments.Arguments.{Arguments}
use Rattle.form_term.specs.declared.monomial.Monomial.{Monomial}
use Rattle.form_term.specs.Calls.{call as call_from}
use Rattle.form_term.specs.Monomial.{summands_of}
use Rattle.form_term.specs.Term.{Call, expression}
use Rattle.form_collect.specs.Collecting.{collected}
use Rattle.form_tree.specs.declared.tree.Link.{Link}
use Rattle.form_tree.specs.declared.tree.Piece.{Piece}
use Rattle.form_tree.specs.declared.tree.Piece.TheVariants as pieces
use Rattle.form_expand.specs.declared.ended.Ended.TheVariants as ends
use Rattle.form_expand.specs.Calls.{IsFurther, called}
use Rattle.form_expand.specs.Closings.{closing_at}
use Rattle.form_expand.specs.Listing.{Listing, powers}
use Rattle.form_expand.specs.Meanings.{Meanings, function_of}
use Rattle.form_expand.specs.Readers.{in_product, list_of_calling, product_part}
use Rattle.form_expand.specs.Reading.{calling, fed, in_function, in_sum, read_from}
use Rattle.form_expand.specs.Singles.{argument_by, argument_of, list_of_call, of_collected}
use Rattle.form_expand.proofs.Called.{argument_opens}
use Rattle.form_expand.proofs.Listings.{limited_powers}
use Rattle.form_expand.proofs.Parenthesized.{read_ended}
use Rattle.form_gathered.specs.declared.joined.JoinedTerm.{JoinedTerm}
use Rattle.form_joined.specs.Products.{HasList}
use Rattle.form_sides.specs.Arguments.{AreArgued, ReadsArgument, ReadsExpression, HasPowers, ReadsFunction, argues_no_longer, argues_shorter}
use Rattle.form_sides.specs.Parts.{HasPowered, ReadsFactor, is_no_longer}
use Rattle.form_sides.specs.declared.sums.Argued.{Argued}
use Rattle.form_sides.specs.declared.sums.Argued.TheVariants as argued
use Rattle.form_sides.specs.declared.sums.Read.{Read}
use Rattle.form_sides.specs.declared.sums.Read.TheVariants.{Further, Unknown}

module _ (max : ℕ) (all : Meanings) where
  -- ---- arguments

  pub argument_begun : (ps more : List Piece) (old : Arguments) → ps ≡ pieces.Argument ∷ more → (r : Argued) → ReadsExpression max all more old r → ReadsArgument max all ps old r
  argument_begun ps more old is (argued.Further new rest) h = λ f k args e.
      let c = called max f k args in
      subst (λ (l : Listing). IsFurther max all l f k new rest.now) (sym (ap (list_of_calling all c) is ∙ argument_opens all c pieces.Argument more refl)) (h f k args e)
  argument_begun ps more old is argued.Unknown h = tt

  -- all of them were read
  pub all_argued : (ps rest : List Piece) (args : Arguments) → rest ≡ []
      → ((f : ℕ) (k : Bool) → IsFurther max all (list_of_calling all (calling max f k) ps) f k args rest) → AreArgued max all ps args
  all_argued ps rest args none h f k = subst (IsFurther max all (list_of_calling all (calling max f k) ps) f k args) none (h f k)

  -- ---- functions

  call_of_arguments : (f : ℕ) (k : Bool) (ps : List Piece) (args : Arguments) (c : Call) → AreArgued max all ps args → c ≡ call_from f args → list_of_call k c ≡ list_of_calling all (calling max f k) ps
  unfolding read_from
  call_of_arguments f k ps args c h is = ap (list_of_call k) (is ∙ ap (call_from f) (h f k).written) ∙ sym (h f k).read

  pub function_read : (f : ℕ) (k : Bool) (ps : List Piece) (len power : ℕ) (args : Arguments) (c : Call) → closing_at 0 0 ps ≡ Some (len, ends.Power power) → AreArgued max all (take len ps) args → c ≡ call_from f args
      → (r : Read) → HasPowers max (list_of_call k c) power (drop (len + 1) ps) r → ReadsFunction max all f k ps r
  function_read f k ps len power args c e h is (Further js rest) g =
      let list = list_of_calling all (calling max f k) (take len ps) in
      record {
        list = powers max list power;
        has = subst (λ (l : Listing). HasList (powers max l power) js.items) (call_of_arguments f k (take len ps) args c h is) g.0;
        within = limited_powers max list power;
        read = λ old m.
            let ended = read_ended all (in_sum (product_part max m old)) 0 (in_function (calling max f k)) [] ps len (ends.Power power) e in
            let z : len - 0 ≡ len = omega arith in
            let here = rw z at ended.read in
            here ∙ ap (read_from all (in_product max m (old ++ powers max list power ∷ []))) (sym g.1);
      }
  function_read f k ps len power args c e h is Unknown g = tt

  pub call_read : (link : Link) (f : ℕ) (k : Bool) (more : List Piece) (r : Read) → ReadsFunction max all (function_of all f) k more r → ReadsFactor max all (pieces.Function link f k) more r
  unfolding read_from fed
  call_read link f k more (Further js rest) h = record { list = h.list; has = h.has; within = h.within; read = h.read }
  call_read link f k more Unknown h = tt

-- ---- a function and its power

pub called_of : (max n : ℕ) (ps : List Piece) (l : Listing) (js : List JoinedTerm) → HasList l js → (r : Read) → HasPowered max js n ps r → HasPowers max l n ps r
called_of max n ps l js h (Further all rest) g = (g.0 l h, g.1)
called_of max n ps l js h Unknown g = tt

pub called_shorter : (max n : ℕ) (l : Listing) (rest ps : List Piece) → length rest ≤ length ps → (r : Read) → HasPowers max l n rest r → is_no_longer ps r
called_shorter max n l rest ps short (Further js left) h = rw h.1 short
called_shorter max n l rest ps short Unknown h = tt

-- ---- collected lists

pub argument_has : (l : Listing) (terms : List Monomial) → l.end ≡ None → collected l.terms ≡ Some terms → argument_of l ≡ Ok (expression (summands_of terms))
unfolding argument_of
argument_has l terms e h = ap (argument_by l.terms) e ∙ ap of_collected h

-- behind fewer pieces
pub argued_shorter : (ps more : List Piece) → length more < length ps → (r : Argued) → argues_no_longer more r → argues_shorter ps r
argued_shorter ps more less (argued.Further new rest) h = omega (arith, less, h)
argued_shorter ps more less argued.Unknown h = tt
