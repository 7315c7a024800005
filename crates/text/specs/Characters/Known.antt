-- Some numbers and bits as text, by computing.
-- Assumes nothing.
use Rattle.std.specs.Prelude.{◌≡◌, refl, [], ◌∷◌, map}
use Rattle.text.specs.Characters.{digits, decimal, bits}

pub record KnownCharacters : Type 0 where
  -- 0, 9, 10, 1024 and 65536
  pub decimals : map decimal (0 ∷ 9 ∷ 10 ∷ 1024 ∷ 65536 ∷ [])
      ≡ (48 ∷ []) ∷ (57 ∷ []) ∷ (49 ∷ 48 ∷ []) ∷ (49 ∷ 48 ∷ 50 ∷ 52 ∷ []) ∷ (54 ∷ 53 ∷ 53 ∷ 51 ∷ 54 ∷ []) ∷ []
  -- the bytes 1, 0 and 2 as 1, 0 and 0
  pub some_bits : bits (1 ∷ 0 ∷ 2 ∷ []) ≡ 49 ∷ 48 ∷ 48 ∷ []

pub known : KnownCharacters
unfolding decimal digits
known = record { decimals = refl; some_bits = refl }
