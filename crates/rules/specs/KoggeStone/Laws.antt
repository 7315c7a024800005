-- The first laws of the network: what is read off the definitions. The module of the same name in proofs has all.
-- Assumes nothing.
use Prim.Native.Nat.{ℕ, ◌-◌, ◌^◌, ◌≤◌, ◌<◌}
use Rattle.std.specs.Prelude.{◌≡◌, refl, Bool, false, ◌||◌, ltb}
use Rattle.std.proofs.Common.{◌∙◌, zero-add, lt-ltb, le-ltb}
use mathlib.Core.List.{List, [], ◌∷◌, map}
use Rattle.std.proofs.Math.ListN.{length, get_or}
use Rattle.rules.specs.Head.{Head}
use Rattle.std.specs.List.{list_any}
use Rattle.rules.specs.Lists.{range, filter}
use Rattle.rules.specs.Lists.Laws as ListsLaws
use Rattle.rules.specs.Thermometer.{add, cuts, inputs}
use Rattle.rules.specs.KoggeStone.{distances, joined, levels, network, joined_cuts, levels_cut, network_cuts, counts, count_before}
use Rattle.rules.specs.Lists.{before}
use Rattle.rules.specs.RoundRobin.{order}

-- as many codes after a joining
pub joined_length : (m d : ℕ) (codes : List ℕ) → length (joined m d codes) ≡ length codes
unfolding joined
joined_length m d codes = ListsLaws.length_table _ 0 (length codes)

-- a position nearer to the first than the distance
pub joined_near : (m d : ℕ) (codes : List ℕ) (p : ℕ) → p < length codes → p < d → get_or (joined m d codes) p 0 ≡ get_or codes p 0
unfolding joined
joined_near m d codes p l near = ListsLaws.get_d_table _ 0 (length codes) p l ∙ rw (zero-add, lt-ltb p d near)

-- and every other
pub joined_far : (m d : ℕ) (codes : List ℕ) (p : ℕ) → p < length codes → d ≤ p
    → get_or (joined m d codes) p 0 ≡ add m (get_or codes (p - d) 0) (get_or codes p 0)
unfolding joined
joined_far m d codes p l far = ListsLaws.get_d_table _ 0 (length codes) p l ∙ rw (zero-add, le-ltb p d far)

-- the distances are those of the powers of two below the width
pub distances_powers : (n : ℕ) → distances n ≡ filter (λ d. ltb d n) (map (λ k. 2 ^ k) (range 0 n))
unfolding distances
distances_powers n = refl

-- after the last distance the codes come out
pub levels_none : (m : ℕ) (codes : List ℕ) → levels m [] codes ≡ codes
unfolding levels
levels_none m codes = refl

-- and before it they are joined at the next
pub levels_next : (m d : ℕ) (ds codes : List ℕ) → levels m (d ∷ ds) codes ≡ levels m ds (joined m d codes)
unfolding levels
levels_next m d ds codes = refl

-- the network joins what goes in at every distance
pub network_joins : (n m : ℕ) (h : Head) (asks : ℕ → Bool) → network n m h asks ≡ levels m (distances n) (inputs n m h asks)
unfolding network
network_joins n m h asks = refl

-- a joining cuts something off exactly if one of its adders does
pub joined_cuts_any : (m d : ℕ) (codes : List ℕ)
    → joined_cuts m d codes ≡ list_any (λ p. cuts m (get_or codes (p - d) 0) (get_or codes p 0)) (range d (length codes - d))
unfolding joined_cuts
joined_cuts_any m d codes = refl

-- after the last distance nothing more is cut off
pub levels_cut_none : (m : ℕ) (codes : List ℕ) → levels_cut m [] codes ≡ false
unfolding levels_cut
levels_cut_none m codes = refl

-- and before it something is at the next, or later
pub levels_cut_next : (m d : ℕ) (ds codes : List ℕ) → levels_cut m (d ∷ ds) codes ≡ (joined_cuts m d codes || levels_cut m ds (joined m d codes))
unfolding levels_cut
levels_cut_next m d ds codes = refl

-- the network cuts off what is cut off at its distances
pub network_cuts_levels : (n m : ℕ) (h : Head) (asks : ℕ → Bool) → network_cuts n m h asks ≡ levels_cut m (distances n) (inputs n m h asks)
unfolding network_cuts
network_cuts_levels n m h asks = refl

-- the counts are what comes out, one position on
pub counts_shifted : (n m : ℕ) (h : Head) (asks : ℕ → Bool) → counts n m h asks ≡ 0 ∷ network n m h asks
unfolding counts
counts_shifted n m h asks = refl

-- and the count before a station is that before its position
pub count_position : (n m : ℕ) (h : Head) (asks : ℕ → Bool) (w : ℕ) → count_before n m h asks w ≡ get_or (counts n m h asks) (length (before w (order n h))) 0
unfolding count_before
count_position n m h asks w = refl
