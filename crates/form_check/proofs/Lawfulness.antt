-- What is lawful of a statement that is no block.
use Rattle.std.proofs.Common.{List, [], ◌∷◌, map, All}
use Rattle.std.proofs.lemmas.List.Elements.{All-nil, All-cons, All-head, All-tail}
use Rattle.form_base.specs.declared.block.Action.TheVariants as acting
use Rattle.form_ast.proofs.Holding.{lawful_leaf}
use Rattle.form_ast.specs.Lawful.{IsLawfulAction, IsLawfulStatement}
use Rattle.form_ast.specs.Written.{as_also, as_id, leaf_written}
use Rattle.form_ast.specs.declared.module.WrittenLeaf.{WrittenLeaf}
use Rattle.form_ast.specs.declared.module.WrittenLeaf.TheVariants as written
use Rattle.form_ast.specs.declared.statement.Rewrite.{Rewrite}
use Rattle.form_ast.specs.declared.statement.Statement.TheVariants as statements
use Rattle.form_check.specs.Acting.{IsLawfulLeaf, IsLawfulRewrite}

alsos : (rs : List Rewrite) → All IsLawfulStatement (map as_also rs) → All IsLawfulRewrite rs
alsos [] h = All-nil IsLawfulRewrite
alsos (r ∷ rs) h =
    All-cons IsLawfulRewrite r rs (All-head IsLawfulStatement (as_also r) (map as_also rs) h) (alsos rs (All-tail IsLawfulStatement (as_also r) (map as_also rs) h))

of_leaf : (l : WrittenLeaf) → All IsLawfulStatement (leaf_written l) → IsLawfulLeaf l
of_leaf (written.Rewrite id others) h =
    (All-head IsLawfulStatement (as_id id) (map as_also others) h, alsos others (All-tail IsLawfulStatement (as_id id) (map as_also others) h))
of_leaf (written.Multiply side right) h = All-head IsLawfulStatement (statements.Multiply side right) [] h
of_leaf (written.Sum ns) h = tt
of_leaf (written.SumOver n ks) h = tt
of_leaf written.Discard h = tt

pub leaf_lawful : (l : WrittenLeaf) → IsLawfulAction (acting.Plain l) → IsLawfulLeaf l
leaf_lawful l h = of_leaf l (lawful_leaf l h)
