-- Lines one after another, up to their end or to one at which something is refused.
use Rattle.std.proofs.Common.{◌≡◌, ℕ, Bool, true, false, Option, Some, None, List, [], ◌∷◌, ◌++◌, map, refl, sym, ap, subst, ◌∙◌, append_assoc, arith}
use Rattle.std.specs.Vec.Iter.{into_iter_items, into_iter_len}
use Rattle.std.specs.declared.vec.IntoIter.{IntoIter}
use Rattle.std.proofs.lemmas.List.{append-nil, nil_from_length}
use Rattle.std.proofs.lemmas.List.Elements.{All-nil}
use Rattle.form_base.specs.declared.spot.Spot.{Spot}
use Rattle.form_stmts.specs.Line.{PlacedLine}
use Rattle.form_lexer.specs.declared.token.Token.{Token}
use Rattle.form_lexer.specs.Tokens.{AreTokens}
use Rattle.form_ast.specs.declared.module.PlacedPart.{PlacedPart}
use Rattle.form_ast.specs.Lawful.{AreLawfulModules}
use Rattle.form_stmts.specs.declared.error.ProgramError.{ProgramError}
use Rattle.form_stmts.specs.declared.error.ProgramError.TheVariants.{BadSyntax, Memory}
use Rattle.form_stmts.specs.declared.program.Reader.{Reader}
use Rattle.form_stmts.specs.Instruction.{begins_with_period}
use Rattle.form_blocks.specs.Blocks.{fault_at_end, new_module}
use Rattle.form_blocks.specs.declared.open.Fault.{Fault}
use Rattle.form_stmts.specs.Program.{Lexed, token, period, items, AreLexed, IsLexed, IsRefusedAt, IsRefusedHere, IsRefusal, IsProgram, AreModules}
use Rattle.form_stmts.specs.Progress.{ReadTo, RefusesLine, ReadsOn}
use Rattle.form_blocks.proofs.Sound.{new_sound}
use Rattle.form_stmts.proofs.Lawfulness.{lawful_modules}

pub nothing_left : {X Z : Type 0} (it : IntoIter X Z) → into_iter_len it ≡ 0 → into_iter_items it ≡ []
nothing_left it e = nil_from_length it.rest.items (omega arith)

-- a line has something
line_lexed : ((spot : Spot) (text : List ℕ) → (tokens : List Token) × AreTokens spot text tokens) → (line : PlacedLine) → (here : List Lexed) × IsLexed line here
line_lexed some line = by_period (begins_with_period line.text) refl where
  by_period : (b : Bool) → begins_with_period line.text ≡ b → (here : List Lexed) × IsLexed line here
  by_period true e = (period line ∷ [], rw e refl)
  by_period false e = let t = some line.spot line.text in (map token t.0, rw e (t.0, t.1, refl))

-- and so have lines
pub lines_lexed : ((spot : Spot) (text : List ℕ) → (tokens : List Token) × AreTokens spot text tokens) → (lines : List PlacedLine) → (lexed : List Lexed) × AreLexed lines lexed
lines_lexed some [] = ([], refl)
lines_lexed some (line ∷ lines) =
    let here = line_lexed some line in
    let rest = lines_lexed some lines in
    (here.0 ++ rest.0, (here.0, here.1, rest.0, rest.1, refl))

-- what two lists of lines have
lexed_append : (lines others : List PlacedLine) (lexed more : List Lexed) → AreLexed lines lexed → AreLexed others more → AreLexed (lines ++ others) (lexed ++ more)
lexed_append [] others lexed more h k = subst (λ (front : List Lexed). AreLexed others (front ++ more)) (sym h) k
lexed_append (line ∷ lines) others lexed more (here, is, rest, are, e) k =
    (here, is, rest ++ more, lexed_append lines others rest more are k, ap (λ (front : List Lexed). front ++ more) e ∙ append_assoc here rest more)

-- one line further
pub reads_line : (done : List PlacedLine) (line : PlacedLine) (old new : Reader) → ((lexed : List Lexed) × AreLexed done lexed × ReadTo lexed old) → ((here : List Lexed) × IsLexed line here × ReadsOn old here new)
    → (lexed : List Lexed) × AreLexed (done ++ line ∷ []) lexed × ReadTo lexed new
reads_line done line old new read more =
    (read.0 ++ more.0, lexed_append done (line ∷ []) read.0 more.0 read.1 (more.0, more.1, [], refl, sym (append-nil more.0)), more.2 read.0 read.2)

-- something is refused at a line
pub refused_at_line : ((spot : Spot) (text : List ℕ) → (tokens : List Token) × AreTokens spot text tokens) → (lines done others : List PlacedLine) (line : PlacedLine) (reader : Reader) (error : ProgramError)
    → done ++ line ∷ others ≡ lines → ((lexed : List Lexed) × AreLexed done lexed × ReadTo lexed reader) → RefusesLine reader line error → IsRefusal error lines
refused_at_line some lines done others line reader Memory e read r = tt
refused_at_line some lines done others line reader (BadSyntax spot) e read r =
    let rest = lines_lexed some others in
    record {
      lexed = read.0 ++ (r.0 ++ rest.0);
      are_lexed = subst (λ (all : List PlacedLine). AreLexed all (read.0 ++ (r.0 ++ rest.0))) e (lexed_append done (line ∷ others) read.0 (r.0 ++ rest.0) read.1 (r.0, r.1, rest.0, rest.1, refl));
      refused = subst (λ (all : List Lexed). IsRefusedAt new_module (items [] all) spot) (append_assoc read.0 r.0 rest.0) (r.2 read.0 rest.0 read.2);
    }

-- the modules of what was read, of the last of which nothing is refused
modules_read : (lexed : List Lexed) (reader : Reader) → fault_at_end reader.current ≡ None → ReadTo lexed reader → AreModules new_module (items [] lexed) reader.modules.items
modules_read lexed reader fine to =
    subst (λ (modules : List (List PlacedPart)). AreModules new_module (items [] lexed) modules) (append-nil reader.modules.items)
    (subst (λ (all : List Lexed). AreModules new_module (items [] all) (reader.modules.items ++ [])) (append-nil lexed) (to.modules [] [] (fine, refl)))

-- all lines are read
all_read : (lines done rest : List PlacedLine) → done ++ rest ≡ lines → rest ≡ [] → done ≡ lines
all_read lines done rest e n = sym (append-nil done) ∙ ap (λ (r : List PlacedLine). done ++ r) (sym n) ∙ e

pub program_read : (lines done rest : List PlacedLine) (reader : Reader) → done ++ rest ≡ lines → rest ≡ [] → fault_at_end reader.current ≡ None → ((lexed : List Lexed) × AreLexed done lexed × ReadTo lexed reader) → IsProgram lines reader.modules.items
program_read lines done rest reader e n fine read = record {
  lexed = read.0;
  are_lexed = subst (λ (l : List PlacedLine). AreLexed l read.0) (all_read lines done rest e n) read.1;
  are_modules = modules_read read.0 reader fine read.2;
}

pub refused_here : (o : Option Fault) (f : Fault) (spot : Spot) → o ≡ Some f → spot ≡ f.spot → IsRefusedHere o spot
refused_here o f spot e k = subst (λ (x : Option Fault). IsRefusedHere x spot) (sym e) (sym k)

-- what stands behind the last instruction is refused
pub refused_read : (lines done rest : List PlacedLine) (reader : Reader) (spot : Spot) → done ++ rest ≡ lines → rest ≡ [] → IsRefusedHere (fault_at_end reader.current) spot → ((lexed : List Lexed) × AreLexed done lexed × ReadTo lexed reader) → IsRefusal (BadSyntax spot) lines
refused_read lines done rest reader spot e n here read = record {
  lexed = read.0;
  are_lexed = subst (λ (l : List PlacedLine). AreLexed l read.0) (all_read lines done rest e n) read.1;
  refused = subst (λ (all : List Lexed). IsRefusedAt new_module (items [] all) spot) (append-nil read.0) (read.2.refused [] spot here);
}

pub lawful_read : (lines : List PlacedLine) (modules : List (List PlacedPart)) → IsProgram lines modules → AreLawfulModules modules
lawful_read lines modules h = lawful_modules (items [] h.lexed) new_module modules (All-nil _) new_sound h.are_modules
