-- Small cases of the questions, by computing: their edges, and the places that they name.
-- Assumes nothing.
use Rattle.std.specs.Prelude.{ℕ, ◌≡◌, refl, List, [], ◌∷◌, map, None, Some}
use Rattle.arbiter.specs.declared.refusal.Buffer.TheVariants.{Requests}
use Rattle.arbiter.specs.Answers.{made, number_of, place_of}
use Rattle.arbiter.specs.Questions.{Verdict, width, picks, one_pick, head, read_length, write_length, bits, write_questions}

-- the numbers of verdicts, 0 where nothing is refused
abbrev pub numbers : List Verdict → List ℕ
numbers vs = map (λ (v : Verdict). number_of v) vs

-- their places
abbrev pub places : List Verdict → List ℕ
places vs = map (λ (v : Verdict). place_of v) vs

pub record KnownQuestions : Type 0 where
  pub widths : numbers (width 0 ∷ width 1025 ∷ width 1024 ∷ width 257 ∷ width 256 ∷ width 1 ∷ []) ≡ 1 ∷ 1 ∷ 0 ∷ 0 ∷ 0 ∷ 0 ∷ []
  pub some_picks : numbers (picks 16 9 ∷ picks 2 3 ∷ picks 16 0 ∷ picks 16 8 ∷ picks 2 2 ∷ []) ≡ 3 ∷ 3 ∷ 3 ∷ 0 ∷ 0 ∷ []
  pub one_picks : numbers (one_pick 0 ∷ one_pick 2 ∷ one_pick 1 ∷ []) ≡ 3 ∷ 3 ∷ 0 ∷ []
  pub heads : numbers (head 4 None ∷ head 4 (Some 4) ∷ head 4 (Some 3) ∷ []) ≡ 0 ∷ 4 ∷ 0 ∷ []
  pub read_lengths : numbers (read_length 4 3 ∷ read_length 4 5 ∷ read_length 4 4 ∷ []) ≡ 5 ∷ 5 ∷ 0 ∷ []
  pub write_lengths : numbers (write_length 4 3 ∷ write_length 4 5 ∷ write_length 4 4 ∷ []) ≡ 6 ∷ 6 ∷ 0 ∷ []
  -- the first byte that is no bit
  pub some_bits : numbers (bits Requests 0 (0 ∷ 1 ∷ []) ∷ bits Requests 0 (1 ∷ 2 ∷ 255 ∷ []) ∷ bits Requests 3 (9 ∷ 9 ∷ 9 ∷ 1 ∷ []) ∷ []) ≡ 0 ∷ 8 ∷ 0 ∷ []
  pub bit_places : places (bits Requests 0 (1 ∷ 2 ∷ 255 ∷ []) ∷ bits Requests 2 (9 ∷ 9 ∷ 0 ∷ 2 ∷ []) ∷ []) ≡ 1 ∷ 3 ∷ []
  -- a call that writes what a state holds, to a buffer of 4: 1, 3, 4 and 6
  pub writes : numbers (write_questions (made 0 9 (Some 4)) 4 3
      ∷ write_questions (made 4 9 (Some 4)) 4 3
      ∷ write_questions (made 4 2 (Some 4)) 4 3
      ∷ write_questions (made 4 2 None) 4 3
      ∷ write_questions (made 4 2 None) 4 4
      ∷ [])
      ≡ 1 ∷ 3 ∷ 4 ∷ 6 ∷ 0 ∷ []

pub known : KnownQuestions
known =
    record {
      widths = refl;
      some_picks = refl;
      one_picks = refl;
      heads = refl;
      read_lengths = refl;
      write_lengths = refl;
      some_bits = refl;
      bit_places = refl;
      writes = refl;
    }
