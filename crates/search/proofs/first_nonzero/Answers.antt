-- `first_nonzero` meets its contract: every byte that it passed is 0, whether alone or with seven others.
-- Assumes nothing.
use Prim.Native.Nat.{ℕ, ◌+◌, ◌≤◌, ◌<◌}
use mathlib.Core.Path.{◌≡◌, sym, ap, ◌∙◌}
use native.Mathlib.Omega.{arith}
use lib.ListN.{length, get_or}
use Rattle.search.specs.Places.{first}
use Rattle.search.specs.Places.Laws.{free_none, free_on, places_first, places_on, is_nonzero, is_zero}
use Rattle.search.specs.Words.Laws.{quiet, loud}
use Rattle.search.proofs.first_nonzero.Goals as goal

pub returns-then-bytes-lt8 : goal.returns-then-bytes-lt8
returns-then-bytes-lt8 c = c.first_above.ensures

pub loop-i-init : goal.loop-i-init
loop-i-init c = (omega arith, free_none)

-- where the lowest byte of the eight that is not 0 stands
lowest : (c : goal.After-lowest_byte)
    → let l = c.loop-i in
    let b = c.args.bytes.now in
    let p = l.i + c.lowest_byte.result in
    (p < l.i + 8) × (get_or b p 0 ≡ 0 → ⊥) × ((k : ℕ) → l.i ≤ k → k < p → get_or b k 0 ≡ 0)
lowest c =
    let l = c.loop-i in
    let b = c.args.bytes.now in
    let w = c.eight-word.ensures in
    loud b l.i (omega arith) (λ k. omega (arith, c.type_inv.bytes k)) (λ z. c.if-word-ne0.true (w ∙ z)) _ (rw (← w) (ap (λ (x : ℕ). l.i + x) c.lowest_byte.ensures))

pub overflow_add-result : goal.overflow_add-result
overflow_add-result c = omega (arith, (lowest c).0)

pub returns-then-word-ne0 : goal.returns-then-word-ne0
returns-then-word-ne0 c =
    let l = c.loop-i in
    let z = lowest c in
    let free = free_on l.invariant.1 (λ w a u. is_zero (z.2 w a u)) in
    sym (ap first (places_first free (omega arith) (omega (arith, z.0)) (is_nonzero z.1)))

pub loop-i-preserved : goal.loop-i-preserved
loop-i-preserved c =
    let l = c.loop-i in
    let b = c.args.bytes.now in
    let room : l.i + 8 ≤ length b = omega arith in
    let none = quiet b l.i room (sym c.eight-word.ensures ∙ c.if-word-ne0.false) in
    (omega arith, free_on l.invariant.1 (λ k a u. is_zero (none k a u)))

pub returns : goal.returns
returns c =
    let l = c.loop-i in
    c.first_above-2.ensures ∙ ap first (places_on l.invariant.1 l.invariant.0)
