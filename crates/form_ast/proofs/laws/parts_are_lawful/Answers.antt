use Rattle.form_ast.proofs.Holding.{lawful_choose, lawful_parts, lawful_repeat, lawful_within}
use Rattle.form_ast.proofs.laws.parts_are_lawful.Goals as goal

pub returns-clause-repeated : goal.returns-clause-repeated
returns-clause-repeated c = lawful_repeat

pub returns-clause-within : goal.returns-clause-within
returns-clause-within c = lawful_within

pub returns-clause-chosen : goal.returns-clause-chosen
returns-clause-chosen c = lawful_choose

pub returns-clause-parts : goal.returns-clause-parts
returns-clause-parts c = lawful_parts
