-- Cycles with messages waiting by computing: the numbers, the requests and the questions.
-- Assumes nothing.
use Rattle.std.specs.Prelude.{ℕ, ◌≡◌, refl, List, [], ◌∷◌, None, Some}
use Rattle.arbiter.specs.Answers.{made}
use Rattle.arbiter.specs.Questions.{Verdict}
use Rattle.arbiter.specs.Questions.Known.{numbers, places}
use Rattle.engines.specs.declared.Engine.TheVariants.{Scan, Tree, Thermometer, KoggeStone}
use Rattle.backlog.specs.Calls.{arrived, requests, taken, waiting_length, overflow, questions}

-- what is asked of a tree of 4 stations that is lent these, with a grant and a node buffer of these lengths
abbrev pub of_tree : List ℕ → List ℕ → ℕ → ℕ → Verdict
of_tree arrivals waiting grantsSize nodesSize = questions Tree (made 4 1 (Some 0)) arrivals waiting grantsSize nodesSize

pub record KnownBacklog : Type 0 where
  -- the arrivals are added, and whoever then has a message asks, also if it came just now
  pub adds : arrived (3 ∷ 0 ∷ 0 ∷ 4294967295 ∷ []) (0 ∷ 1 ∷ 0 ∷ 0 ∷ []) ≡ 3 ∷ 1 ∷ 0 ∷ 4294967295 ∷ []
  pub asks : requests (3 ∷ 1 ∷ 0 ∷ 4294967295 ∷ []) ≡ 1 ∷ 1 ∷ 0 ∷ 1 ∷ []
  -- one is taken from each granted station, and none from one that asks and is not granted
  pub takes : taken (3 ∷ 1 ∷ 0 ∷ 4294967295 ∷ []) (1 ∷ 0 ∷ 0 ∷ 1 ∷ []) ≡ 2 ∷ 1 ∷ 0 ∷ 4294967294 ∷ []
  pub waiting_lengths : numbers (waiting_length 4 3 ∷ waiting_length 4 5 ∷ waiting_length 4 4 ∷ []) ≡ 15 ∷ 15 ∷ 0 ∷ []
  -- the lowest number that is above the most
  pub overflows : numbers (overflow (4294967295 ∷ 0 ∷ []) ∷ overflow (4294967296 ∷ []) ∷ overflow [] ∷ []) ≡ 0 ∷ 16 ∷ 0 ∷ []
  pub overflow_place : places (overflow (0 ∷ 4294967296 ∷ 4294967550 ∷ []) ∷ []) ≡ 1 ∷ []
  -- in each of these but the last the first question that refuses is followed by none that passes: 1, 2, 3 and 4 of the state, then 5, 6,
  -- 15, 7 and 16. In the last all pass, with arrivals that are no bits
  pub order : numbers (questions Tree (made 0 9 (Some 9)) (1 ∷ []) (4294967295 ∷ []) 1 1
      ∷ questions Tree (made 6 9 (Some 9)) (1 ∷ []) (4294967295 ∷ []) 1 1
      ∷ questions Tree (made 4 9 (Some 9)) (1 ∷ []) (4294967295 ∷ []) 1 1
      ∷ questions Tree (made 4 1 (Some 9)) (1 ∷ []) (4294967295 ∷ []) 1 1
      ∷ of_tree (1 ∷ []) (4294967295 ∷ []) 1 1
      ∷ of_tree (1 ∷ 1 ∷ 1 ∷ 1 ∷ []) (4294967295 ∷ []) 1 1
      ∷ of_tree (1 ∷ 1 ∷ 1 ∷ 1 ∷ []) (4294967295 ∷ []) 4 1
      ∷ of_tree (1 ∷ 1 ∷ 1 ∷ 1 ∷ []) (4294967295 ∷ 0 ∷ 0 ∷ 0 ∷ []) 4 1
      ∷ of_tree (1 ∷ 1 ∷ 1 ∷ 1 ∷ []) (4294967295 ∷ 0 ∷ 0 ∷ 0 ∷ []) 4 8
      ∷ of_tree (255 ∷ 1 ∷ 1 ∷ 1 ∷ []) (4294967040 ∷ 0 ∷ 0 ∷ 0 ∷ []) 4 8
      ∷ [])
      ≡ 1 ∷ 2 ∷ 3 ∷ 4 ∷ 5 ∷ 6 ∷ 15 ∷ 7 ∷ 16 ∷ 0 ∷ []
  -- only the tree asks about the node buffer
  pub nodes : numbers (questions Scan (made 2 2 None) (0 ∷ 9 ∷ []) (0 ∷ 0 ∷ []) 2 9 ∷ of_tree (0 ∷ 9 ∷ 0 ∷ 0 ∷ []) (0 ∷ 0 ∷ 0 ∷ 0 ∷ []) 4 9 ∷ []) ≡ 0 ∷ 7 ∷ []
  -- the lowest station that is over, after the arrivals
  pub place : places (of_tree (0 ∷ 1 ∷ 1 ∷ 0 ∷ []) (0 ∷ 4294967295 ∷ 4294967295 ∷ 0 ∷ []) 4 8 ∷ []) ≡ 1 ∷ []
  -- 1,024 stations are served by each engine, which goes on to 5, and 1,025 by none
  pub widths : numbers (questions Scan (made 1024 1 (Some 1023)) [] [] 0 0
      ∷ questions Tree (made 1024 1 (Some 1023)) [] [] 0 0
      ∷ questions Thermometer (made 1024 1 (Some 1023)) [] [] 0 0
      ∷ questions KoggeStone (made 1024 1 (Some 1023)) [] [] 0 0
      ∷ questions Scan (made 1025 1 (Some 1023)) [] [] 0 0
      ∷ questions Tree (made 1025 1 (Some 1023)) [] [] 0 0
      ∷ questions Thermometer (made 1025 1 (Some 1023)) [] [] 0 0
      ∷ questions KoggeStone (made 1025 1 (Some 1023)) [] [] 0 0
      ∷ [])
      ≡ 5 ∷ 5 ∷ 5 ∷ 5 ∷ 1 ∷ 1 ∷ 1 ∷ 1 ∷ []

pub known : KnownBacklog
unfolding arrived requests taken
known = record { adds = refl; asks = refl; takes = refl; waiting_lengths = refl; overflows = refl; overflow_place = refl; order = refl; nodes = refl; place = refl; widths = refl }
