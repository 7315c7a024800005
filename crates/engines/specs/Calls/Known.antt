-- What the engines ask, on small cases, by computing.
-- Assumes nothing.
use Rattle.std.specs.Prelude.{ℕ, ◌≡◌, refl, List, [], ◌∷◌, map, None, Some}
use Rattle.arbiter.specs.Answers.{made, number}
use Rattle.arbiter.specs.Questions.{Verdict}
use Rattle.arbiter.specs.Questions.Known.{numbers}
use Rattle.engines.specs.declared.Engine.{Engine}
use Rattle.engines.specs.declared.Engine.TheVariants.{Scan, Tree, Thermometer, KoggeStone}
use Rattle.engines.specs.Calls.{state_questions, nodes_question, opening}

-- the same of each engine
abbrev pub each : (Engine → Verdict) → List ℕ
each question = numbers (question Scan ∷ question Tree ∷ question Thermometer ∷ question KoggeStone ∷ [])

pub record KnownEngineQuestions : Type 0 where
  -- each serves 1,024 stations, and none 1,025
  pub most : each (λ e. state_questions e (made 1024 1 (Some 1023))) ≡ 0 ∷ 0 ∷ 0 ∷ 0 ∷ []
  pub over : each (λ e. state_questions e (made 1025 1 (Some 1023))) ≡ 1 ∷ 1 ∷ 1 ∷ 1 ∷ []
  pub openings : map (λ (e : Engine). number (opening e 1025 1 None)) (Scan ∷ Tree ∷ Thermometer ∷ KoggeStone ∷ []) ≡ 1 ∷ 1 ∷ 1 ∷ 1 ∷ []
  -- 2 comes after 1 and before 3, and is the tree's alone; so is one pick
  pub widths : each (λ e. state_questions e (made 6 9 (Some 6))) ≡ 3 ∷ 2 ∷ 3 ∷ 3 ∷ []
  pub picks : each (λ e. state_questions e (made 4 2 (Some 4))) ≡ 4 ∷ 3 ∷ 4 ∷ 4 ∷ []
  -- only the tree asks about a node buffer
  pub nodes : each (λ e. nodes_question e 4 4) ≡ 0 ∷ 7 ∷ 0 ∷ 0 ∷ []

pub known : KnownEngineQuestions
known = record { most = refl; over = refl; openings = refl; widths = refl; picks = refl; nodes = refl }
