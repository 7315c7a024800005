-- The bus's questions on small cases, by computing.
-- Assumes nothing.
use Rattle.std.specs.Prelude.{◌≡◌, refl, [], ◌∷◌, None, Some}
use Rattle.arbiter.specs.Answers.{made}
use Rattle.arbiter.specs.Questions.Known.{numbers, places}
use Rattle.token_bus.specs.Calls.{token_question, acknowledge, state_questions, questions}

pub record KnownBusQuestions : Type 0 where
  -- without a token the bus is refused
  pub tokens : numbers (token_question 4 None ∷ token_question 4 (Some 4) ∷ token_question 4 (Some 3) ∷ []) ≡ 4 ∷ 4 ∷ 0 ∷ []
  pub acknowledges : numbers (acknowledge 0 ∷ acknowledge 1 ∷ acknowledge 2 ∷ acknowledge 255 ∷ []) ≡ 0 ∷ 0 ∷ 9 ∷ 9 ∷ []
  -- 1,024 stations are served and 1,025 are not, in an opening and in a cycle, which goes on to 5
  pub opening_widths : numbers (state_questions (made 1024 1 (Some 1023)) ∷ state_questions (made 1025 1 (Some 1023)) ∷ []) ≡ 0 ∷ 1 ∷ []
  pub cycle_widths : numbers (questions (made 1024 1 (Some 1023)) [] 0 0 ∷ questions (made 1025 1 (Some 1023)) [] 0 0 ∷ []) ≡ 5 ∷ 1 ∷ []
  -- in each of these but the last the question that refuses is the first of all that would: 1, 3, 4 (of no token too), 5, 6, 8 and 9
  pub order : numbers (questions (made 0 2 (Some 4)) (2 ∷ []) 1 2
      ∷ questions (made 4 2 (Some 4)) (2 ∷ []) 1 2
      ∷ questions (made 4 1 (Some 4)) (2 ∷ []) 1 2
      ∷ questions (made 4 1 None) (2 ∷ []) 1 2
      ∷ questions (made 4 1 (Some 3)) (2 ∷ []) 1 2
      ∷ questions (made 4 1 (Some 3)) (1 ∷ 0 ∷ 2 ∷ 2 ∷ []) 1 2
      ∷ questions (made 4 1 (Some 3)) (1 ∷ 0 ∷ 2 ∷ 2 ∷ []) 4 2
      ∷ questions (made 4 1 (Some 3)) (1 ∷ 0 ∷ 1 ∷ 1 ∷ []) 4 2
      ∷ questions (made 4 1 (Some 3)) (1 ∷ 0 ∷ 1 ∷ 1 ∷ []) 4 1
      ∷ [])
      ≡ 1 ∷ 3 ∷ 4 ∷ 4 ∷ 5 ∷ 6 ∷ 8 ∷ 9 ∷ 0 ∷ []
  pub place : places (questions (made 4 1 (Some 3)) (1 ∷ 0 ∷ 2 ∷ 2 ∷ []) 4 2 ∷ []) ≡ 2 ∷ []

pub known : KnownBusQuestions
known = record { tokens = refl; acknowledges = refl; opening_widths = refl; cycle_widths = refl; order = refl; place = refl }
