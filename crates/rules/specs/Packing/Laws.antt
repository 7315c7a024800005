-- The first laws of packed wires: what is read off the definitions. The module of the same name in proofs has all.
-- Assumes nothing.
use Rattle.std.specs.Prelude.{ℕ, ◌<◌, ◌≡◌, List, length, get_or}
use Rattle.std.proofs.Common.{◌∙◌, zero-add}
use Rattle.rules.specs.Lists.Laws as ListsLaws
use Rattle.rules.specs.Packing.{wire, unpack, packed_length, packed_byte, pack}

-- unpacked there is a byte for each station
pub unpack_length : (n : ℕ) (packed : List ℕ) → length (unpack n packed) ≡ n
unfolding unpack
unpack_length n packed = ListsLaws.length_table (wire packed) 0 n

-- which is its wire
pub unpack_at : (n : ℕ) (packed : List ℕ) (i : ℕ) → i < n → get_or (unpack n packed) i 0 ≡ wire packed i
unfolding unpack
unpack_at n packed i l = ListsLaws.get_d_table (wire packed) 0 n i l ∙ rw zero-add

-- packed there are N/8 bytes rounded up
pub pack_length : (wires : List ℕ) → length (pack wires) ≡ packed_length (length wires)
unfolding pack
pack_length wires = ListsLaws.length_table (packed_byte wires) 0 (packed_length (length wires))

pub pack_at : (wires : List ℕ) (k : ℕ) → k < packed_length (length wires) → get_or (pack wires) k 0 ≡ packed_byte wires k
unfolding pack
pack_at wires k l = ListsLaws.get_d_table (packed_byte wires) 0 (packed_length (length wires)) k l ∙ rw zero-add
