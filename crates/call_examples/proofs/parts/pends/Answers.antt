use Rattle.std.specs.Prelude.{ℕ, zero, suc, ◌<◌, ◌≤◌, refl, [], ◌∷◌, get_or}
use Rattle.std.proofs.Common.{arith}
use Rattle.rules.proofs.RoundRobin.Laws.{start_none}
use Rattle.call_examples.proofs.parts.pends.Goals as goal

-- the two requests are bits
bits : (i : ℕ) → i < 2 → get_or (1 ∷ 1 ∷ []) i 0 ≤ 1
bits zero l = omega arith
bits (suc zero) l = omega arith
bits (suc (suc i)) l = absurd (omega arith)

-- src/parts.rt:64:20
pub invariant_of-cycle : goal.invariant_of-cycle
invariant_of-cycle g c =
    record {
      width_bound = omega arith;
      picked = omega arith;
      picks_bound = omega arith;
      picks_le_width = omega arith;
      head_bound = omega (arith, start_none);
      grants_len = refl;
      bits = bits;
    }
