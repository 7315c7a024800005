-- `read_full`: a read lengthens what was read by what the input loses in it.
-- Assumes nothing.
use Rattle.std.proofs.Common.{◌≡◌, ℕ, ◌+◌, ◌-◌, ◌≤◌, List, ◌++◌, rules, length, take, sym, ap, ◌∙◌, subst, le_refl, length-take-le}
use Rattle.std.proofs.lemmas.Slice.{take-put_mid_below}
use Rattle.std.proofs.Math.Seq.{take-append-add}
use Rattle.std.specs.Io.KnownBytes.{Consumes}
use Rattle.std.proofs.KnownBytes.{Consumes-trans, Consumes-kept}
use Rattle.std.proofs.lemmas.List.{take-append-le}
use borrow.Rule.Slice.PartMut.{put_mid, post_of}
use Rattle.console.proofs.read_full.Goals as goal
use Rattle.console.proofs.read_full.Goals.{in-Ok, in-Err+else-ne}

-- the first n of a part that was written from a on stand behind what was there before
joined : (a k n : ℕ) (xs ys : List ℕ) → a ≤ length xs → n ≤ length ys → take (a + n) (put_mid a k xs ys) ≡ take a xs ++ take n ys
joined a k n xs ys l u =
    let rest = post_of a k xs in
    ap (λ (m : ℕ). take (m + n) (put_mid a k xs ys)) (sym (length-take-le a xs l))
    ∙ take-append-add (take a xs) (ys ++ rest) n
    ∙ ap (λ (zs : List ℕ). take a xs ++ zs) (take-append-le n ys rest u)

pub loop-preserved : goal.loop-preserved
loop-preserved g c =
    let from = c.loop.done in
    let room = length c.loop.buffer - from in
    let within = c.loop.invariant.0 in
    elim c.match-read.branch [
      | in-Ok w ↦
          rw w.done-is (
            search rules,
            subst (Consumes _ _) (sym (joined from room w.in-Ok.n c.loop.buffer c.read.new.buf within w.in-Ok.ensures.bound.0))
                (Consumes-trans _ _ _ _ _ c.loop.invariant.1 w.in-Ok.ensures.bytes.0),
          )
      | in-Err+else-ne w ↦
          rw w.done-is (
            search rules,
            subst (Consumes _ _) (sym (take-put_mid_below _ _ _ _ _ (le_refl _) within)) (Consumes-kept _ _ _ _ c.loop.invariant.1 w.in-Err.ensures.bytes),
          )
    ]
