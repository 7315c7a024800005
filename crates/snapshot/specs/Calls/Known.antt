-- Snapshots in six bytes and in four, by computing.
-- Assumes nothing.
use Rattle.std.specs.Prelude.{ℕ, ◌≡◌, refl, List, [], ◌∷◌, map}
use Rattle.std.specs.Prelude.{None, Some}
use Rattle.arbiter.specs.Answers.{made, number_of, place_of, served}
use Rattle.snapshot.specs.Calls.{saved, long_fields, short_fields, fields, questions, read}

-- the number and the place of a refusal
abbrev pub asked : List ℕ → List ℕ
asked bytes = number_of (questions bytes) ∷ place_of (questions bytes) ∷ []

pub record KnownSnapshots : Type 0 where
  -- low byte first, and the two high bytes
  pub saved_4 : saved (made 4 2 (Some 1)) ≡ 3 ∷ 0 ∷ 2 ∷ 1 ∷ 0 ∷ 1 ∷ []
  pub saved_257 : saved (made 257 1 (Some 256)) ≡ 0 ∷ 1 ∷ 1 ∷ 0 ∷ 1 ∷ 1 ∷ []
  pub saved_1024 : saved (made 1024 8 (Some 1023)) ≡ 255 ∷ 3 ∷ 8 ∷ 255 ∷ 3 ∷ 1 ∷ []
  pub saved_headless : saved (made 1024 8 None) ≡ 255 ∷ 3 ∷ 8 ∷ 0 ∷ 0 ∷ 0 ∷ []
  pub read_257 : read (0 ∷ 1 ∷ 1 ∷ 0 ∷ 1 ∷ 1 ∷ []) ≡ served (made 257 1 (Some 256))
  pub read_1024 : read (255 ∷ 3 ∷ 8 ∷ 255 ∷ 3 ∷ 1 ∷ []) ≡ served (made 1024 8 (Some 1023))
  pub read_headless : read (255 ∷ 3 ∷ 8 ∷ 0 ∷ 0 ∷ 0 ∷ []) ≡ served (made 1024 8 None)
  -- four bytes, as they were saved before
  pub short_4 : read (3 ∷ 2 ∷ 1 ∷ 1 ∷ []) ≡ served (made 4 2 (Some 1))
  pub short_256 : read (255 ∷ 8 ∷ 255 ∷ 1 ∷ []) ≡ served (made 256 8 (Some 255))
  pub short_headless : read (0 ∷ 1 ∷ 0 ∷ 0 ∷ []) ≡ served (made 1 1 None)
  -- six bytes: 8 at place 5 before 1, 1 before 3, 3 before 4; 4 by either head byte without the mark, and by a station that there is not
  pub refused : map asked
      ((0 ∷ 4 ∷ 0 ∷ 1 ∷ 0 ∷ 2 ∷ [])
      ∷ (0 ∷ 4 ∷ 0 ∷ 1 ∷ 0 ∷ 0 ∷ [])
      ∷ (255 ∷ 255 ∷ 1 ∷ 0 ∷ 0 ∷ 0 ∷ [])
      ∷ (255 ∷ 3 ∷ 0 ∷ 1 ∷ 0 ∷ 0 ∷ [])
      ∷ (255 ∷ 3 ∷ 1 ∷ 1 ∷ 0 ∷ 0 ∷ [])
      ∷ (255 ∷ 3 ∷ 1 ∷ 0 ∷ 1 ∷ 0 ∷ [])
      ∷ (255 ∷ 3 ∷ 1 ∷ 0 ∷ 4 ∷ 1 ∷ [])
      ∷ [])
      ≡ (8 ∷ 5 ∷ []) ∷ (1 ∷ 0 ∷ []) ∷ (1 ∷ 0 ∷ []) ∷ (3 ∷ 0 ∷ []) ∷ (4 ∷ 0 ∷ []) ∷ (4 ∷ 0 ∷ []) ∷ (4 ∷ 0 ∷ []) ∷ []
  -- four bytes: 8 at place 3 before 3, 3 before 4; other lengths by 5
  pub short_refused : map asked
      ((3 ∷ 0 ∷ 1 ∷ 2 ∷ [])
      ∷ (3 ∷ 0 ∷ 1 ∷ 0 ∷ [])
      ∷ (3 ∷ 2 ∷ 1 ∷ 0 ∷ [])
      ∷ (3 ∷ 2 ∷ 4 ∷ 1 ∷ [])
      ∷ (3 ∷ 2 ∷ 1 ∷ [])
      ∷ (3 ∷ 2 ∷ 1 ∷ 0 ∷ 1 ∷ [])
      ∷ (3 ∷ 0 ∷ 2 ∷ 1 ∷ 0 ∷ 1 ∷ 0 ∷ [])
      ∷ [])
      ≡ (8 ∷ 3 ∷ []) ∷ (3 ∷ 0 ∷ []) ∷ (4 ∷ 0 ∷ []) ∷ (4 ∷ 0 ∷ []) ∷ (5 ∷ 0 ∷ []) ∷ (5 ∷ 0 ∷ []) ∷ (5 ∷ 0 ∷ []) ∷ []

pub known : KnownSnapshots
unfolding long_fields short_fields fields
known =
    record {
      saved_4 = refl;
      saved_257 = refl;
      saved_1024 = refl;
      saved_headless = refl;
      read_257 = refl;
      read_1024 = refl;
      read_headless = refl;
      short_4 = refl;
      short_256 = refl;
      short_headless = refl;
      refused = refl;
      short_refused = refl;
    }
