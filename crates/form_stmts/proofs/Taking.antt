-- Tokens that are taken one by one.
use Rattle.std.proofs.Common.{◌≡◌, [], map, length, arith, ap}
use Rattle.std.specs.Vec.Iter.{into_iter_len}
use Rattle.std.specs.declared.vec.IntoIter.{IntoIter}
use Rattle.std.proofs.lemmas.List.{length-map, nil_from_length}
use Rattle.form_lexer.specs.declared.token.Token.{Token}
use Rattle.form_grammar.specs.Terminal.{terminal_of}
use Rattle.form_stmts.specs.Reading.{terminals}

-- none is left
pub none_left : {A : Type 0} (it : IntoIter Token A) → into_iter_len it ≡ 0 → terminals it ≡ []
none_left it e = ap (map terminal_of) (nil_from_length it.rest.items (omega (arith, e)))

-- some are left
pub some_left : {A : Type 0} (it : IntoIter Token A) → (into_iter_len it ≡ 0 → ⊥) → terminals it ≡ [] → ⊥
some_left it some k = some (omega (arith, ap length k, length-map it.rest.items terminal_of))
