-- For a capture with another normal text the store has the value that it had.
use Rattle.std.proofs.Common.{◌∙◌}
use Rattle.examples.proofs.TextKeys.{other_text_stays}
use Rattle.examples.proofs.store.Store.insert.Goals as goal

pub returns-in-Ok-insert-clause-others : goal.returns-in-Ok-insert-clause-others
returns-in-Ok-insert-clause-others g c b other =
    other_text_stays c.in-Ok.text _ _ _ c.in-Ok-insert.ensures.updates.3 (λ e. other (e ∙ c.in-Ok.ensures.text))
