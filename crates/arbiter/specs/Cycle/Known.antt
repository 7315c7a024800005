-- The questions of a cycle by the round-robin rule on small cases, by computing.
-- Assumes nothing.
use Rattle.std.specs.Prelude.{◌≡◌, refl, [], ◌∷◌, None, Some}
use Rattle.arbiter.specs.Answers.{made, number}
use Rattle.arbiter.specs.Questions.Known.{numbers, places}
use Rattle.arbiter.specs.Cycle.{opening, questions}

pub record KnownCycleQuestions : Type 0 where
  -- 1,024 stations are served and 1,025 are not, in an opening and in a cycle, which goes on to 5
  pub opening_width : number (opening 1024 8 (Some 1023)) ≡ 0
  pub opening_over : number (opening 1025 8 (Some 1023)) ≡ 1
  pub cycle_widths : numbers (questions (made 1024 8 (Some 1023)) [] 0 ∷ questions (made 1025 8 (Some 1023)) [] 0 ∷ []) ≡ 5 ∷ 1 ∷ []
  -- in each of these but the last the question that refuses is the first of all that would: 1, 3, 4, 5, 6 and 8
  pub order : numbers (questions (made 0 9 (Some 4)) (2 ∷ []) 1
      ∷ questions (made 4 5 (Some 4)) (2 ∷ []) 1
      ∷ questions (made 4 2 (Some 4)) (2 ∷ []) 1
      ∷ questions (made 4 2 None) (2 ∷ []) 1
      ∷ questions (made 4 2 None) (1 ∷ 0 ∷ 2 ∷ 2 ∷ []) 1
      ∷ questions (made 4 2 None) (1 ∷ 0 ∷ 2 ∷ 2 ∷ []) 4
      ∷ questions (made 4 2 None) (1 ∷ 0 ∷ 1 ∷ 1 ∷ []) 4
      ∷ [])
      ≡ 1 ∷ 3 ∷ 4 ∷ 5 ∷ 6 ∷ 8 ∷ 0 ∷ []
  pub place : places (questions (made 4 2 None) (1 ∷ 0 ∷ 2 ∷ 2 ∷ []) 4 ∷ []) ≡ 2 ∷ []

pub known : KnownCycleQuestions
known = record { opening_width = refl; opening_over = refl; cycle_widths = refl; order = refl; place = refl }
