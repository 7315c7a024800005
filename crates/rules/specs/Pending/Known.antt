-- More pending by computing, told by whom a cycle grants. That the first four grant these is among the known turns.
-- Assumes nothing.
use Rattle.std.specs.Prelude.{ℕ, ◌≡◌, refl, Bool, true, false, List, [], ◌∷◌}
use Rattle.rules.specs.Lists.{member}
use Rattle.rules.specs.Pending.{more}

-- of n stations, where these ask and those are granted
abbrev pub said : ℕ → List ℕ → List ℕ → Bool
said n asking granted = more n (λ w. member w asking) granted

pub record KnownMore : Type 0 where
  -- all of 4 ask, and 3 and 0 are granted, or all are
  pub some_left : said 4 (0 ∷ 1 ∷ 2 ∷ 3 ∷ []) (3 ∷ 0 ∷ []) ≡ true
  pub all_granted : said 4 (0 ∷ 1 ∷ 2 ∷ 3 ∷ []) (2 ∷ 3 ∷ 0 ∷ 1 ∷ []) ≡ false
  -- 2 and 0 are granted, and no other asks
  pub both_granted : said 4 (0 ∷ 2 ∷ []) (2 ∷ 0 ∷ []) ≡ false
  pub nobody_asks : said 4 [] [] ≡ false
  pub only_station : said 1 (0 ∷ []) (0 ∷ []) ≡ false

pub known : KnownMore
unfolding more
known = record { some_left = refl; all_granted = refl; both_granted = refl; nobody_asks = refl; only_station = refl }
