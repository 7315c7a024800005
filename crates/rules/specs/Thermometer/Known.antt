-- Running codes by computing: three published examples. They are computed from their order; that the order is this one is in the module
-- of the same name in proofs.
-- Assumes nothing.
use Rattle.std.specs.Prelude.{ℕ, ◌≡◌, refl, List, [], ◌∷◌}
use Rattle.std.specs.Int.Count.{ones}
use Rattle.std.specs.Prelude.{Some}
use Rattle.rules.specs.Lists.{member}
use Rattle.rules.specs.RoundRobin.{order}
use Rattle.rules.specs.Thermometer.{code, add, inputs, running, running_codes}

-- the codes of a cycle in which these stations ask
abbrev pub codes : ℕ → ℕ → ℕ → List ℕ → List ℕ
codes n m h asking = running_codes n m (Some h) (λ w. member w asking)

pub record KnownRunningCodes : Type 0 where
  -- The examples go downwards, so station w is input 7 - w. Inputs 5, 4 and 2 ask, and the head, which the text does not name, is taken at
  -- input 7
  pub figure_2a : codes 8 2 0 (2 ∷ 3 ∷ 5 ∷ []) ≡ 0 ∷ 0 ∷ 0 ∷ 1 ∷ 3 ∷ 3 ∷ 3 ∷ 3 ∷ 3 ∷ []
  -- the head is at input 3, and inputs 6 and 2 ask
  pub figure_2b : codes 8 2 4 (1 ∷ 5 ∷ []) ≡ 0 ∷ 0 ∷ 1 ∷ 1 ∷ 1 ∷ 1 ∷ 3 ∷ 3 ∷ 3 ∷ []
  -- station w is input 4 - w; inputs 3, 2 and 0 ask, and the head is taken at input 4
  pub figure_3 : codes 5 2 0 (1 ∷ 2 ∷ 4 ∷ []) ≡ 0 ∷ 0 ∷ 1 ∷ 3 ∷ 3 ∷ 3 ∷ []

pub known_ordered : order 8 (Some 0) ≡ 0 ∷ 1 ∷ 2 ∷ 3 ∷ 4 ∷ 5 ∷ 6 ∷ 7 ∷ []
    → order 8 (Some 4) ≡ 4 ∷ 5 ∷ 6 ∷ 7 ∷ 0 ∷ 1 ∷ 2 ∷ 3 ∷ []
    → order 5 (Some 0) ≡ 0 ∷ 1 ∷ 2 ∷ 3 ∷ 4 ∷ []
    → KnownRunningCodes
unfolding inputs running running_codes add code ones
known_ordered e f g = record { figure_2a = rw e refl; figure_2b = rw f refl; figure_3 = rw g refl }
