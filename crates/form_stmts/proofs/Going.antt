-- Reading goes on by a token, a line or a module, and meets what is refused.
use Rattle.std.proofs.Common.{◌≡◌, inr, ℕ, true, false, List, [], ◌∷◌, ◌++◌, map, Option, Some, Result, Ok, Err, refl, sym, ap, subst, ◌∙◌, append_assoc}
use Rattle.std.specs.Prelude.{OnOk, IfErr}
use Rattle.std.proofs.lemmas.List.{append-nil, map-append}
use Rattle.form_lexer.specs.Tokens.{AreTokens}
use Rattle.form_base.specs.declared.spot.Spot.{Spot}
use Rattle.form_stmts.specs.Line.{PlacedLine}
use Rattle.form_lexer.specs.declared.token.Token.{Token}
use Rattle.form_ast.specs.declared.module.PlacedPart.{PlacedPart}
use Rattle.form_grammar.specs.Terminal.{terminal_of}
use Rattle.form_stmts.specs.declared.error.ProgramError.{ProgramError}
use Rattle.form_stmts.specs.declared.error.ProgramError.TheVariants.{BadSyntax, Memory}
use Rattle.form_stmts.specs.declared.program.Reader.{Reader}
use Rattle.form_grammar.specs.declared.right_side.RightSide.{RightSide}
use Rattle.form_grammar.specs.declared.terminal.Terminal.{Terminal}
use Rattle.form_grammar.specs.Parts.{HasRead}
use Rattle.form_stmts.specs.Begun.{AreBegun}
use Rattle.form_stmts.specs.Instruction.{begins_with_period, is_module_instruction}
use Rattle.form_blocks.specs.Blocks.{Unfinished, new_module}
use Rattle.form_blocks.specs.Growing.{parts_grown}
use Rattle.form_stmts.specs.Program.{Lexed, token, period, Item, statement, instruction, items, unfinished_items, is_semicolon, ends_module, GoesOn, IsRefusedAt, AreModules, IsLexed}
use Rattle.form_stmts.specs.Progress.{HasBegun, AreLeft, ReadTo, ReadsOn, Refuses, RefusesLine, EndsStatement, LeavesStatement, EndsModule}

-- ---- items one after another

refused_on : (item : Item) (others : List Item) (b c : Unfinished) (spot : Spot) → ends_module item ≡ false → GoesOn b item c → IsRefusedAt c others spot → IsRefusedAt b (item ∷ others) spot
refused_on item others b c spot e g r = rw e (c, g, r)

modules_on : (item : Item) (others : List Item) (b c : Unfinished) (more : List (List PlacedPart)) → ends_module item ≡ false → GoesOn b item c → AreModules c others more → AreModules b (item ∷ others) more
modules_on item others b c more e g m = rw e (c, g, m)

-- behind a statement that isn't finished
refused_left : (begun : List Token) (others : List Item) (b c : Unfinished) (spot : Spot) → AreLeft b begun c → IsRefusedAt c others spot → IsRefusedAt b (unfinished_items begun ++ others) spot
refused_left [] others b c spot h r = subst (λ (x : Unfinished). IsRefusedAt x others spot) h r
refused_left (t ∷ ts) others b c spot h r = (c, h, r)

modules_left : (begun : List Token) (others : List Item) (b c : Unfinished) (more : List (List PlacedPart)) → AreLeft b begun c → AreModules c others more → AreModules b (unfinished_items begun ++ others) more
modules_left [] others b c more h m = subst (λ (x : Unfinished). AreModules x others more) h m
modules_left (t ∷ ts) others b c more h m = (c, h, m)

all_behind : (lexed rest : List Lexed) (here : Lexed) → items [] (lexed ++ here ∷ rest) ≡ items [] ((lexed ++ here ∷ []) ++ rest)
all_behind lexed rest here = ap (items []) (sym (append_assoc lexed (here ∷ []) rest))

-- ---- reading goes on

-- by one thing, where what follows is refused or made the same with it
module _ (old new : Reader) (here : Lexed) (after : List Token → List Token) (begins : (begun : List Token) → HasBegun old begun → HasBegun new (after begun))
    (refuses : (begun : List Token) → HasBegun old begun → (rest : List Lexed) (spot : Spot) → IsRefusedAt new.current (items (after begun) rest) spot → IsRefusedAt old.current (items begun (here ∷ rest)) spot)
    (made : List (List PlacedPart)) (modules : new.modules.items ≡ old.modules.items ++ made)
    (makes : (begun : List Token) → HasBegun old begun → (rest : List Lexed) (more : List (List PlacedPart)) → AreModules new.current (items (after begun) rest) more → AreModules old.current (items begun (here ∷ rest)) (made ++ more)) where
  reads_on : ReadsOn old (here ∷ []) new
  reads_on lexed to = record {
    begun = after to.begun;
    has_begun = begins to.begun to.has_begun;
    refused = λ rest spot r.
        subst (λ (all : List Item). IsRefusedAt new_module all spot) (all_behind lexed rest here) (to.refused (here ∷ rest) spot (refuses to.begun to.has_begun rest spot r));
    modules = λ rest more m.
        let all = to.modules (here ∷ rest) (made ++ more) (makes to.begun to.has_begun rest more m) in
        let regrouped : old.modules.items ++ (made ++ more) ≡ new.modules.items ++ more = sym (append_assoc old.modules.items made more) ∙ ap (λ (front : List (List PlacedPart)). front ++ more) (sym modules) in
        subst (λ (front : List (List PlacedPart)). AreModules new_module (items [] ((lexed ++ here ∷ []) ++ rest)) front) regrouped
        (subst (λ (all : List Item). AreModules new_module all (old.modules.items ++ (made ++ more))) (all_behind lexed rest here) all);
  }

same_modules : (new old : List (List PlacedPart)) → new ≡ old → new ≡ old ++ []
same_modules new old e = e ∙ sym (append-nil old)

-- behind a `;`
pub ends_statement : (old new : Reader) (t : Token) → is_semicolon t ≡ true → EndsStatement old new → ReadsOn old (token t ∷ []) new
ends_statement old new t e h = reads_on old new (token t) (λ begun. []) (λ begun k. h.has_begun)
    (λ begun k rest spot r. subst (λ (all : List Item). IsRefusedAt old.current all spot) (sym (behind begun rest)) (refused_on (statement begun) (items [] rest) old.current new.current spot refl (h.goes_on begun k) r))
    [] (same_modules new.modules.items old.modules.items h.modules)
    (λ begun k rest more m. subst (λ (all : List Item). AreModules old.current all more) (sym (behind begun rest)) (modules_on (statement begun) (items [] rest) old.current new.current more refl (h.goes_on begun k) m))
  where
    behind : (begun : List Token) (rest : List Lexed) → items begun (token t ∷ rest) ≡ statement begun ∷ items [] rest
    behind begun rest = rw e refl

-- a further token of a statement
pub goes_on : (old new : Reader) (t : Token) → is_semicolon t ≡ false → ((begun : List Token) → HasBegun old begun → HasBegun new (begun ++ t ∷ [])) → new.current ≡ old.current → new.modules.items ≡ old.modules.items → ReadsOn old (token t ∷ []) new
goes_on old new t e h current modules = reads_on old new (token t) (λ begun. begun ++ t ∷ []) h
    (λ begun k rest spot r. subst (λ (b : Unfinished). IsRefusedAt b (items begun (token t ∷ rest)) spot) current (subst (λ (all : List Item). IsRefusedAt new.current all spot) (on begun rest) r))
    [] (same_modules new.modules.items old.modules.items modules)
    (λ begun k rest more m. subst (λ (b : Unfinished). AreModules b (items begun (token t ∷ rest)) more) current (subst (λ (all : List Item). AreModules new.current all more) (on begun rest) m))
  where
    on : (begun : List Token) (rest : List Lexed) → items (begun ++ t ∷ []) rest ≡ items begun (token t ∷ rest)
    on begun rest = rw e refl

-- or it ends the module
pub module_ends : (old left new : Reader) (line : PlacedLine) → LeavesStatement old left → is_module_instruction line.text ≡ true → EndsModule left new → ReadsOn old (period line ∷ []) new
module_ends old left new line h is ends = reads_on old new (period line) (λ begun. []) (λ begun k. ends.has_begun [] h.has_begun)
    (λ begun k rest spot r. refused_left begun (instruction line ∷ items [] rest) old.current left.current spot (h.goes_on begun k)
    (refused rest spot (subst (λ (b : Unfinished). IsRefusedAt b (items [] rest) spot) ends.next r)))
    (parts_grown left.current.statements ∷ []) (ends.modules ∙ ap (λ (front : List (List PlacedPart)). front ++ parts_grown left.current.statements ∷ []) h.modules)
    (λ begun k rest more m. modules_left begun (instruction line ∷ items [] rest) old.current left.current (parts_grown left.current.statements ∷ more) (h.goes_on begun k)
    (makes rest more (subst (λ (b : Unfinished). AreModules b (items [] rest) more) ends.next m)))
  where
    refused : (rest : List Lexed) (spot : Spot) → IsRefusedAt new_module (items [] rest) spot → IsRefusedAt left.current (instruction line ∷ items [] rest) spot
    refused rest spot r = rw is (inr (ends.fine, r))

    makes : (rest : List Lexed) (more : List (List PlacedPart)) → AreModules new_module (items [] rest) more → AreModules left.current (instruction line ∷ items [] rest) (parts_grown left.current.statements ∷ more)
    makes rest more m = rw is (ends.fine, more, refl, m)

pub instruction_ends : {T : Type 0} (r : Result T ProgramError) (old left new : Reader) (line : PlacedLine) → LeavesStatement old left → is_module_instruction line.text ≡ true → OnOk r (EndsModule left new) → OnOk r (ReadsOn old (period line ∷ []) new)
instruction_ends (Ok x) old left new line h is ends = module_ends old left new line h is ends
instruction_ends (Err error) old left new line h is ends = tt

module _ {T : Type 0} (r : Result T ProgramError) (old new : Reader) (line : PlacedLine) (e : begins_with_period line.text ≡ true) where
  is_period : IsLexed line (period line ∷ [])
  is_period = rw e refl

  pub period_read : OnOk r (ReadsOn old (period line ∷ []) new) → OnOk r ((here : List Lexed) × IsLexed line here × ReadsOn old here new)
  period_read h = by_result r h where
    by_result : (r : Result T ProgramError) → OnOk r (ReadsOn old (period line ∷ []) new) → OnOk r ((here : List Lexed) × IsLexed line here × ReadsOn old here new)
    by_result (Ok x) h = (period line ∷ [], is_period, h)
    by_result (Err x) h = tt

  pub period_refused : IfErr r (λ error. Refuses old (period line ∷ []) error) → IfErr r (λ error. RefusesLine old line error)
  period_refused h = by_result r h where
    by_result : (r : Result T ProgramError) → IfErr r (λ error. Refuses old (period line ∷ []) error) → IfErr r (λ error. RefusesLine old line error)
    by_result (Ok x) h = tt
    by_result (Err Memory) h = tt
    by_result (Err (BadSyntax spot)) h = (period line ∷ [], is_period, h)

joined : {A : Type 0} (a b c d : List A) (x : A) → ((a ++ b) ++ x ∷ []) ++ (c ++ d) ≡ (a ++ (b ++ x ∷ c)) ++ d
joined a b c d x = simp append_assoc

-- something is refused at a token of a line
pub refused_among : (old read : Reader) (line : PlacedLine) (tokens front others : List Token) (t : Token) (error : ProgramError) → front ++ t ∷ others ≡ tokens → IsLexed line (map token tokens)
    → ReadsOn old (map token front) read → Refuses read (token t ∷ []) error → RefusesLine old line error
refused_among old read line tokens front others t Memory e is on r = tt
refused_among old read line tokens front others t (BadSyntax spot) e is on r =
    (map token tokens, is, λ lexed rest to. subst (λ (all : List Lexed). IsRefusedAt new_module (items [] all) spot) (regrouped lexed rest) (r (lexed ++ map token front) (map token others ++ rest) (on lexed to))) where
      regrouped : (lexed rest : List Lexed) → ((lexed ++ map token front) ++ token t ∷ []) ++ (map token others ++ rest) ≡ (lexed ++ map token tokens) ++ rest
      regrouped lexed rest = joined lexed (map token front) (map token others) rest (token t)
          ∙ ap (λ (all : List Lexed). (lexed ++ all) ++ rest) (sym (map-append token front (t ∷ others)) ∙ ap (map token) e)

-- one token further
pub reads_token : (old read new : Reader) (front : List Token) (t : Token) → ReadsOn old (map token front) read → ReadsOn read (token t ∷ []) new → ReadsOn old (map token (front ++ t ∷ [])) new
reads_token old read new front t on further = λ lexed to.
    subst (λ (all : List Lexed). ReadTo all new) (append_assoc lexed (map token front) (token t ∷ []) ∙ ap (λ (all : List Lexed). lexed ++ all) (sym (map-append token front (t ∷ [])))) (further (lexed ++ map token front) (on lexed to))

-- nothing was read yet
pub reads_none : (old : Reader) → ReadsOn old [] old
reads_none old lexed to = subst (λ (all : List Lexed). ReadTo all old) (sym (append-nil lexed)) to

-- what a line that begins with no period has
pub has_tokens : (line : PlacedLine) (spot : Spot) (text : List ℕ) (tokens : List Token) → begins_with_period line.text ≡ false → AreTokens spot text tokens → spot ≡ line.spot → text ≡ line.text
    → IsLexed line (map token tokens)
has_tokens line spot text tokens e h s t =
    let are : AreTokens line.spot line.text tokens = subst (λ (x : List ℕ). AreTokens line.spot x tokens) t (subst (λ (x : Spot). AreTokens x text tokens) s h) in
    rw e (tokens, are, refl)

-- a further token of a right side
pub begun_on : (tokens begun : List Token) (t : Token) (o : Option RightSide) (old new : RightSide) → o ≡ Some old → ((read : List Terminal) → HasRead read old → HasRead (read ++ terminal_of t ∷ []) new)
    → AreBegun tokens o begun → AreBegun tokens (Some new) (begun ++ t ∷ [])
begun_on tokens begun t o old new e f h = with_rest (subst (λ (x : Option RightSide). AreBegun tokens x begun) e h) where
  with_rest : AreBegun tokens (Some old) begun → AreBegun tokens (Some new) (begun ++ t ∷ [])
  with_rest k = record {
    rest = k.rest ++ t ∷ [];
    all = ap (λ (front : List Token). front ++ t ∷ []) k.all ∙ append_assoc tokens k.rest (t ∷ []);
    front = k.front;
    read = subst (λ (read : List Terminal). HasRead read new) (sym (map-append terminal_of k.rest (t ∷ []))) (f (map terminal_of k.rest) k.read);
  }
