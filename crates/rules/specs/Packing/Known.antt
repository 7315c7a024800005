-- Packed wires by computing: where each bit stands, how many bytes there are, and some entries of the table.
-- Assumes nothing.
use Rattle.std.specs.Prelude.{ℕ, ◌≡◌, refl, List, [], ◌∷◌, map}
use Rattle.rules.specs.Packing.{unpack, packed_length, pack, first_line}

-- 11 stations of which 0, 3, 7 and 9 ask
abbrev pub wires : List ℕ
wires = 1 ∷ 0 ∷ 0 ∷ 1 ∷ 0 ∷ 0 ∷ 0 ∷ 1 ∷ 0 ∷ 1 ∷ 0 ∷ []

-- the bytes of 11 stations that all ask, and the same with a bit set that is no station's
abbrev pub full : List ℕ
full = 255 ∷ 7 ∷ []

abbrev pub over : List ℕ
over = 255 ∷ 15 ∷ []

pub record KnownPacking : Type 0 where
  -- bits 0, 3 and 7 of the first byte, and bit 1 of the second
  pub packs : pack wires ≡ 137 ∷ 2 ∷ []
  pub unpacks : unpack 11 (137 ∷ 2 ∷ []) ≡ wires
  pub unpacks_full : unpack 16 full ≡ 1 ∷ 1 ∷ 1 ∷ 1 ∷ 1 ∷ 1 ∷ 1 ∷ 1 ∷ 1 ∷ 1 ∷ 1 ∷ 0 ∷ 0 ∷ 0 ∷ 0 ∷ 0 ∷ []
  pub unpacks_over : unpack 16 over ≡ 1 ∷ 1 ∷ 1 ∷ 1 ∷ 1 ∷ 1 ∷ 1 ∷ 1 ∷ 1 ∷ 1 ∷ 1 ∷ 1 ∷ 0 ∷ 0 ∷ 0 ∷ 0 ∷ []
  pub lengths : map packed_length (0 ∷ 1 ∷ 7 ∷ 8 ∷ 9 ∷ 16 ∷ 255 ∷ 256 ∷ 1023 ∷ 1024 ∷ []) ≡ 0 ∷ 1 ∷ 1 ∷ 1 ∷ 2 ∷ 2 ∷ 32 ∷ 32 ∷ 128 ∷ 128 ∷ []
  -- of byte 72, lines 3 and 6 are set
  pub lines : map (first_line 72) (0 ∷ 3 ∷ 4 ∷ 6 ∷ 7 ∷ []) ≡ 3 ∷ 3 ∷ 6 ∷ 6 ∷ 8 ∷ []

pub known : KnownPacking
unfolding pack unpack first_line
known = record { packs = refl; unpacks = refl; unpacks_full = refl; unpacks_over = refl; lengths = refl; lines = refl }
