-- `join` meets its contract: computed for each of the 16 pairs.
-- Assumes nothing.
use Prim.Native.Nat.{ℕ, zero, suc, ◌<◌}
use mathlib.Core.Path.{◌≡◌, refl}
use native.Mathlib.Omega.{arith}
use Rattle.rules.specs.Tree.{value, s1, s0, join}
use Rattle.tree.proofs.nodes.join.Goals as goal

-- a value is one of four
four : {P : Type 0} (v : ℕ) → v < 4 → (v ≡ 0 → P) → (v ≡ 1 → P) → (v ≡ 2 → P) → (v ≡ 3 → P) → P
four zero l a b c d = a refl
four (suc zero) l a b c d = b refl
four (suc (suc zero)) l a b c d = c refl
four (suc (suc (suc zero))) l a b c d = d refl
four (suc (suc (suc (suc v)))) l a b c d = absurd (omega arith)

pub returns : goal.returns
unfolding value s1 s0 join
returns c =
    four c.args.left c.requires.left_bound
    (λ e. four c.args.right c.requires.right_bound (λ f. rw (e, f)) (λ f. rw (e, f)) (λ f. rw (e, f)) (λ f. rw (e, f)))
    (λ e. four c.args.right c.requires.right_bound (λ f. rw (e, f)) (λ f. rw (e, f)) (λ f. rw (e, f)) (λ f. rw (e, f)))
    (λ e. four c.args.right c.requires.right_bound (λ f. rw (e, f)) (λ f. rw (e, f)) (λ f. rw (e, f)) (λ f. rw (e, f)))
    (λ e. four c.args.right c.requires.right_bound (λ f. rw (e, f)) (λ f. rw (e, f)) (λ f. rw (e, f)) (λ f. rw (e, f)))
