-- The tree's questions on small cases, by computing.
-- Assumes nothing.
use Rattle.std.specs.Prelude.{◌≡◌, refl, [], ◌∷◌, None, Some}
use Rattle.arbiter.specs.Answers.{made}
use Rattle.arbiter.specs.Questions.Known.{numbers, places}
use Rattle.tree.specs.Calls.{tree_width, nodes_length, state_questions, questions}

pub record KnownTreeQuestions : Type 0 where
  pub tree_widths : numbers (tree_width 1 ∷ tree_width 6 ∷ tree_width 0 ∷ tree_width 2 ∷ tree_width 64 ∷ tree_width 1024 ∷ []) ≡ 2 ∷ 2 ∷ 2 ∷ 0 ∷ 0 ∷ 0 ∷ []
  -- a node buffer of 4 stations has 8 bytes
  pub nodes_lengths : numbers (nodes_length 4 4 ∷ nodes_length 4 7 ∷ nodes_length 4 9 ∷ nodes_length 4 8 ∷ []) ≡ 7 ∷ 7 ∷ 7 ∷ 0 ∷ []
  -- 1,024 stations are served and 1,025 are not, in an opening and in a cycle, which goes on to 5
  pub opening_widths : numbers (state_questions (made 1024 1 (Some 1023)) ∷ state_questions (made 1025 1 (Some 1023)) ∷ []) ≡ 0 ∷ 1 ∷ []
  pub cycle_widths : numbers (questions (made 1024 1 (Some 1023)) [] 0 0 ∷ questions (made 1025 1 (Some 1023)) [] 0 0 ∷ []) ≡ 5 ∷ 1 ∷ []
  -- in each of these but the last the question that refuses is the first of all that would: 1, 2, 3, 4, 5, 6, 7 and 8
  pub order : numbers (questions (made 0 2 (Some 6)) (2 ∷ []) 1 1
      ∷ questions (made 6 2 (Some 6)) (2 ∷ []) 1 1
      ∷ questions (made 4 2 (Some 4)) (2 ∷ []) 1 1
      ∷ questions (made 4 1 (Some 4)) (2 ∷ []) 1 1
      ∷ questions (made 4 1 None) (2 ∷ []) 1 1
      ∷ questions (made 4 1 None) (1 ∷ 0 ∷ 0 ∷ 2 ∷ []) 1 1
      ∷ questions (made 4 1 None) (1 ∷ 0 ∷ 0 ∷ 2 ∷ []) 4 1
      ∷ questions (made 4 1 None) (1 ∷ 0 ∷ 0 ∷ 2 ∷ []) 4 8
      ∷ questions (made 4 1 None) (1 ∷ 0 ∷ 0 ∷ 1 ∷ []) 4 8
      ∷ [])
      ≡ 1 ∷ 2 ∷ 3 ∷ 4 ∷ 5 ∷ 6 ∷ 7 ∷ 8 ∷ 0 ∷ []
  pub place : places (questions (made 4 1 None) (1 ∷ 0 ∷ 0 ∷ 2 ∷ []) 4 8 ∷ []) ≡ 3 ∷ []

pub known : KnownTreeQuestions
known = record { tree_widths = refl; nodes_lengths = refl; opening_widths = refl; cycle_widths = refl; order = refl; place = refl }
