-- A network by computing: its distances, what each level makes of the codes, and what it cuts off. The levels are told by what goes in;
-- that this goes in is in the module of the same name in proofs.
-- Assumes nothing.
use Rattle.std.specs.Prelude.{ℕ, ◌≡◌, refl, Bool, true, false, ◌||◌, List, [], ◌∷◌, map, eqb}
use Rattle.std.specs.Int.Count.{ones}
use Rattle.std.specs.Prelude.{Some}
use Rattle.rules.specs.RoundRobin.{order}
use Rattle.rules.specs.Thermometer.{code, add, cuts, inputs}
use Rattle.rules.specs.KoggeStone.{distances, joined, levels, network, joined_cuts, levels_cut, counts, count_before}

-- 5 stations, 3 picks, head 3, and stations 0, 1 and 3 ask: the order is 3, 4, 0, 1, 2
abbrev pub asks : ℕ → Bool
asks w = eqb w 0 || eqb w 1 || eqb w 3

-- what goes in
abbrev pub in_order : List ℕ
in_order = inputs 5 3 (Some 3) asks

-- 8 positions, of which the first three ask
abbrev pub first_three : List ℕ
first_three = 1 ∷ 1 ∷ 1 ∷ 0 ∷ 0 ∷ 0 ∷ 0 ∷ 0 ∷ []

pub record KnownNetwork : Type 0 where
  -- one station has no joining; 8 has one level fewer than 9
  pub known_distances : map distances (1 ∷ 2 ∷ 3 ∷ 8 ∷ 9 ∷ [])
      ≡ [] ∷ (1 ∷ []) ∷ (1 ∷ 2 ∷ []) ∷ (1 ∷ 2 ∷ 4 ∷ []) ∷ (1 ∷ 2 ∷ 4 ∷ 8 ∷ []) ∷ []
  -- what goes in, and the codes joined at 1, at 2 and at 4
  pub known_inputs : in_order ≡ 1 ∷ 0 ∷ 1 ∷ 1 ∷ 0 ∷ []
  pub level_1 : levels 3 (1 ∷ []) in_order ≡ 1 ∷ 1 ∷ 1 ∷ 3 ∷ 1 ∷ []
  pub level_2 : levels 3 (1 ∷ 2 ∷ []) in_order ≡ 1 ∷ 1 ∷ 3 ∷ 7 ∷ 3 ∷ []
  pub known_network : network 5 3 (Some 3) asks ≡ 1 ∷ 1 ∷ 3 ∷ 7 ∷ 7 ∷ []
  -- the counts before stations 0 to 4
  pub known_counts : map (count_before 5 3 (Some 3) asks) (0 ∷ 1 ∷ 2 ∷ 3 ∷ 4 ∷ []) ≡ 1 ∷ 3 ∷ 7 ∷ 0 ∷ 1 ∷ []
  -- 3 ask: an adder for 2 cuts something off, and none for 3 does
  pub cut_for_two : levels_cut 2 (distances 5) (1 ∷ 0 ∷ 1 ∷ 1 ∷ 0 ∷ []) ≡ true
  pub cut_for_three : levels_cut 3 (distances 5) (1 ∷ 0 ∷ 1 ∷ 1 ∷ 0 ∷ []) ≡ false
  -- an adder for 2 does so at distance 2, and not at distance 1
  pub cut_at_two : levels_cut 2 (1 ∷ 2 ∷ []) first_three ≡ true
  pub cut_at_one : levels_cut 2 (1 ∷ []) first_three ≡ false

pub known_given : in_order ≡ 1 ∷ 0 ∷ 1 ∷ 1 ∷ 0 ∷ [] → order 5 (Some 3) ≡ 3 ∷ 4 ∷ 0 ∷ 1 ∷ 2 ∷ [] → KnownNetwork
unfolding count_before counts network levels levels_cut joined_cuts joined distances add cuts code ones
known_given e f =
    record {
      known_distances = refl;
      known_inputs = e;
      level_1 = rw e refl;
      level_2 = rw e refl;
      known_network = rw e refl;
      known_counts = rw (e, f) refl;
      cut_for_two = refl;
      cut_for_three = refl;
      cut_at_two = refl;
      cut_at_one = refl;
    }
