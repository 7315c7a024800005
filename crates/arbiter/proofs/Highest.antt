-- What the highest byte tells, each way.
-- Assumes nothing.
use Rattle.arbiter.specs.Decisions.Laws.{none_asks, all_zero}
use Rattle.arbiter.specs.Questions.Laws as QuestionsLaws
use Rattle.arbiter.specs.Theorems.{HighestPasses, HighestSilent}

pub highest_passes : HighestPasses
highest_passes buffer bytes = (QuestionsLaws.highest_served buffer bytes, QuestionsLaws.highest_passes buffer bytes)

pub highest_silent : HighestSilent
highest_silent bytes bits = (all_zero bytes bits, none_asks bytes)
