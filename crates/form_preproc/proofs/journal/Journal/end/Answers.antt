use Rattle.std.proofs.Common.{◌≡◌, ◌≤◌, ◌∷◌, List, [], ℕ, length, Option, Some, None, MatchOption}
use Rattle.form_preproc.specs.Journal.{AreMarks}
use Rattle.form_preproc.proofs.Changes.{outer_marks}
use Rattle.form_preproc.proofs.journal.Journal.end.Goals as goal

ended : (size : ℕ) (old new : List ℕ) (result : Option ℕ) → AreMarks size old → MatchOption result ((old ≡ []) × (new ≡ [])) (λ mark. old ≡ mark ∷ new)
    → MatchOption result ((old ≡ []) × (new ≡ [])) (λ mark. (old ≡ mark ∷ new) × (mark ≤ size) × AreMarks mark new)
ended size old new None h e = e
ended size old new (Some mark) h e = let o = outer_marks size mark old new h e in (e, o.0, o.1)

pub returns-clause-ended : goal.returns-clause-ended
returns-clause-ended c = ended (length c.args.self.now.changes.items) c.args.self.now.marks c.pop.new.self c.pop.result c.args.self.now.marked c.pop.ensures.popped
