-- Images on small cases, by computing: their bytes, their heads, and the questions of reading one.
-- Assumes nothing.
use Rattle.std.specs.Prelude.{◌≡◌, refl, [], ◌∷◌, None, Some}
use Rattle.arbiter.specs.Answers.{made}
use Rattle.arbiter.specs.Questions.Known.{numbers, places}
use Rattle.one_hot.specs.Calls.{image, head_of, one_hot, questions}

pub record KnownImages : Type 0 where
  pub image_none : image 4 None ≡ 0 ∷ 0 ∷ 0 ∷ 0 ∷ []
  pub image_at : image 4 (Some 2) ≡ 0 ∷ 0 ∷ 1 ∷ 0 ∷ []
  pub head_none : head_of (0 ∷ 0 ∷ 0 ∷ 0 ∷ []) ≡ None
  pub head_at : head_of (0 ∷ 0 ∷ 1 ∷ 0 ∷ []) ≡ Some 2
  -- the second of the ones
  pub images : numbers (one_hot (0 ∷ 0 ∷ []) ∷ one_hot (0 ∷ 1 ∷ []) ∷ one_hot (1 ∷ 0 ∷ 1 ∷ 1 ∷ []) ∷ []) ≡ 0 ∷ 0 ∷ 10 ∷ []
  pub image_place : places (one_hot (1 ∷ 0 ∷ 1 ∷ 1 ∷ []) ∷ []) ≡ 2 ∷ []
  -- 1,024 stations are served, which goes on to 5, and 1,025 are not
  pub widths : numbers (questions (made 1024 8 (Some 1023)) [] ∷ questions (made 1025 8 (Some 1023)) [] ∷ []) ≡ 5 ∷ 1 ∷ []
  -- in each of these but the last the question that refuses is the first of all that would: 1, 3, 4, 5, 8 and 10
  pub order : numbers (questions (made 0 9 (Some 4)) (2 ∷ [])
      ∷ questions (made 4 9 (Some 4)) (2 ∷ [])
      ∷ questions (made 4 2 (Some 4)) (2 ∷ [])
      ∷ questions (made 4 2 None) (2 ∷ [])
      ∷ questions (made 4 2 None) (1 ∷ 1 ∷ 2 ∷ 0 ∷ [])
      ∷ questions (made 4 2 None) (0 ∷ 1 ∷ 0 ∷ 1 ∷ [])
      ∷ questions (made 4 2 None) (0 ∷ 1 ∷ 0 ∷ 0 ∷ [])
      ∷ [])
      ≡ 1 ∷ 3 ∷ 4 ∷ 5 ∷ 8 ∷ 10 ∷ 0 ∷ []
  pub some_places : places (questions (made 4 2 None) (1 ∷ 1 ∷ 2 ∷ 0 ∷ []) ∷ questions (made 4 2 None) (0 ∷ 1 ∷ 0 ∷ 1 ∷ []) ∷ []) ≡ 2 ∷ 3 ∷ []

pub known : KnownImages
unfolding image
known =
    record {
      image_none = refl;
      image_at = refl;
      head_none = refl;
      head_at = refl;
      images = refl;
      image_place = refl;
      widths = refl;
      order = refl;
      some_places = refl;
    }
