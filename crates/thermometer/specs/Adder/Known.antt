-- Some sums by computing. Codes are written in binary here.
-- Assumes nothing.
use Rattle.std.specs.Prelude.{ℕ, ◌≡◌, refl, Bool, true, false, [], ◌∷◌, Result}
use Rattle.std.specs.Int.Count.{ones}
use Rattle.rules.specs.Thermometer.{code, is_code, add, cuts}
use Rattle.arbiter.specs.declared.refusal.Refusal.{Refusal}
use Rattle.arbiter.specs.Answers.{number_of, place_of}
use Rattle.thermometer.specs.declared.adder.Sum.{Sum}
use Rattle.arbiter.specs.Questions.Known.{numbers}
use Rattle.thermometer.specs.Adder.{pick_count, codes, sum, code_of, cut_of}

-- what the adder's answer says: a number, a place, a code, and whether it cut anything off
pub record Said : Type 0 where
  pub number : ℕ
  pub place : ℕ
  pub code : ℕ
  pub cut : Bool

abbrev pub said : Result Sum Refusal → Said
said answer = record { number = number_of answer; place = place_of answer; code = code_of answer; cut = cut_of answer }

pub record KnownSums : Type 0 where
  pub pick_counts : numbers (pick_count 0 ∷ pick_count 9 ∷ pick_count 8 ∷ pick_count 1 ∷ []) ≡ 3 ∷ 3 ∷ 0 ∷ 0 ∷ []
  -- 10 is no code, and 111 has too many ones for 2
  pub some_codes : numbers (codes 2 2 1 ∷ codes 2 1 2 ∷ codes 2 7 1 ∷ codes 2 1 1 ∷ codes 2 3 0 ∷ []) ≡ 13 ∷ 13 ∷ 13 ∷ 0 ∷ 0 ∷ []
  -- with 2 picks: 01 and 01 give 11
  pub exact : said (sum 2 1 1) ≡ record { number = 0; place = 0; code = 3; cut = false }
  -- 11 and 01 give 11 too, and add up to more
  pub cut_off : said (sum 2 3 1) ≡ record { number = 0; place = 0; code = 3; cut = true }
  -- 10 is no code
  pub no_code : said (sum 2 2 1) ≡ record { number = 13; place = 0; code = 0; cut = false }
  -- nine picks are refused by 3, whatever the codes
  pub nine_picks : said (sum 9 2 1) ≡ record { number = 3; place = 0; code = 0; cut = false }

pub known : KnownSums
unfolding code is_code add cuts ones
known = record { pick_counts = refl; some_codes = refl; exact = refl; cut_off = refl; no_code = refl; nine_picks = refl }
