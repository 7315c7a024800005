-- The packed scan's questions on small cases, by computing.
-- Assumes nothing.
use Rattle.std.specs.Prelude.{◌≡◌, refl, [], ◌∷◌, None, Some}
use Rattle.rules.specs.Packing.Known as PackingKnown
use Rattle.arbiter.specs.Answers.{made}
use Rattle.arbiter.specs.Questions.Known.{numbers, places}
use Rattle.packed_scan.specs.Calls.{unused_bits, state_questions, questions}

pub record KnownPackedQuestions : Type 0 where
  -- of 11 stations byte 1 has three; the place is the byte's and not the line's
  pub unused : numbers (unused_bits 11 PackingKnown.full ∷ unused_bits 11 PackingKnown.over ∷ []) ≡ 0 ∷ 14 ∷ []
  pub unused_place : places (unused_bits 11 PackingKnown.over ∷ []) ≡ 1 ∷ []
  -- 1,024 stations are served and 1,025 are not, in an opening and in a cycle, which goes on to 5
  pub opening_widths : numbers (state_questions (made 1024 1 (Some 1023)) ∷ state_questions (made 1025 1 (Some 1023)) ∷ []) ≡ 0 ∷ 1 ∷ []
  pub cycle_widths : numbers (questions (made 1024 1 (Some 1023)) [] 0 ∷ questions (made 1025 1 (Some 1023)) [] 0 ∷ []) ≡ 5 ∷ 1 ∷ []
  -- in each of these but the last the question that refuses is the first of all that would: 1, 3, 4, 5, 6 and 14
  pub order : numbers (questions (made 0 2 (Some 11)) (255 ∷ []) 1
      ∷ questions (made 11 2 (Some 11)) (255 ∷ []) 1
      ∷ questions (made 11 1 (Some 11)) (255 ∷ []) 1
      ∷ questions (made 11 1 None) (255 ∷ []) 1
      ∷ questions (made 11 1 None) PackingKnown.over 1
      ∷ questions (made 11 1 None) PackingKnown.over 2
      ∷ questions (made 11 1 None) PackingKnown.full 2
      ∷ [])
      ≡ 1 ∷ 3 ∷ 4 ∷ 5 ∷ 6 ∷ 14 ∷ 0 ∷ []
  -- the byte's place
  pub place : places (questions (made 11 1 None) PackingKnown.over 2 ∷ []) ≡ 1 ∷ []

pub known : KnownPackedQuestions
known =
    let full = PackingKnown.known.unpacks_full in
    let over = PackingKnown.known.unpacks_over in
    record { unused = rw (full, over) refl; unused_place = rw over refl; opening_widths = refl; cycle_widths = refl; order = rw (full, over) refl; place = rw over refl }
