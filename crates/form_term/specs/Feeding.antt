-- What the factors of a term feed to a hasher.
use Rattle.std.specs.Prelude.{ℕ, List, [], ◌++◌, if◌then◌else◌}
use Rattle.std.specs.Hash as fed
use Rattle.form_term.specs.declared.power.Power.{Power}
use Rattle.form_term.specs.contracts.power.PowerHash.TheImpl as powers
use Rattle.form_term.specs.contracts.power.DotPowerHash.TheImpl as dots
use Rattle.form_term.specs.contracts.index.ComponentHash.TheImpl as components
use Rattle.form_term.specs.contracts.index.DeltaHash.TheImpl as deltas
use Rattle.form_term.specs.contracts.call.CallHash.TheImpl as calls
use Rattle.form_term.specs.Term.{Others, Call, is_nothing}
use Rattle.form_term.specs.Terms.{rest_of}

abbrev pub fed_powers : List Power → List (List ℕ)
fed_powers ps = fed.slice powers.ghosts.hash_input ps

abbrev pub fed_calls : List Call → List (List ℕ)
fed_calls cs = fed.slice calls.ghosts.hash_input cs

-- what is there besides `i_`, powers of symbols and commuting functions
abbrev pub fed_rest : Others → List (List ℕ)
fed_rest o =
    fed.slice dots.ghosts.hash_input o.dots
    ++ fed.slice components.ghosts.hash_input o.components
    ++ fed.slice deltas.ghosts.hash_input o.deltas
    ++ fed_calls o.word

-- all but whether `i_` is there, and only what is there
abbrev pub fed_others : Others → List (List ℕ)
fed_others o = fed_calls o.functions ++ (if is_nothing (rest_of o) then [] else fed_rest o)
