-- The modules of a sound program are of the grammar.
use Rattle.std.proofs.Common.{◌≡◌, ◌<◌, List, [], ◌∷◌, ◌++◌, All, length, slice_index_or, subst, sym}
use Rattle.std.specs.List.{AllByRecursion}
use Rattle.std.proofs.lemmas.List.Elements.{All-from_recursion}
use Rattle.form_names.specs.Names.{Entry}
use Rattle.form_check.specs.Program.{Module, Program}
use Rattle.form_check.specs.Sound.{AreModulesSound, IsSound}
use Rattle.form_flow.specs.Making.{HasAllTrees}
use Rattle.form_module.specs.Module.{HaveTrees}
use Rattle.form_module.proofs.Sound.{have_trees}

all_have : (names : List Entry) (earlier modules : List Module) → AreModulesSound names earlier modules → AllByRecursion HaveTrees modules
all_have names earlier [] sound = tt
all_have names earlier (m ∷ ms) sound = (have_trees names earlier m sound.0, all_have names (earlier ++ m ∷ []) ms sound.1)

pub actions_have : (p : Program) (ms : List Module) (m : Module) → IsSound p → ms ≡ p.modules → 0 < length ms → m ≡ slice_index_or ms 0 m → All HasAllTrees m.actions
actions_have p ms m sound is some first =
    let all : AllByRecursion HaveTrees ms = subst (AllByRecursion HaveTrees) (sym is) (all_have p.names [] p.modules sound) in
    subst (λ (n : Module). All HasAllTrees n.actions) (sym first) ((All-from_recursion HaveTrees ms all 0 m some).actions)
