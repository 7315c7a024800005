-- Laws of the refusals: their numbers, and which of them name a place.
-- Assumes nothing.
use Rattle.std.specs.Prelude.{ℕ, ◌≡◌, refl, true, List, [], ◌∷◌, eqb}
use Rattle.std.proofs.Common.{arith, eqb-true, sym, true≢false}
use Rattle.rules.specs.Lists.{member}
use Rattle.rules.specs.Lists.Laws.{split}
use Rattle.arbiter.specs.declared.refusal.Buffer.TheVariants.{Requests}
use Rattle.arbiter.specs.declared.refusal.Refusal.{Refusal}
use Rattle.arbiter.specs.declared.refusal.Refusal.TheVariants.{Width, TreeWidth, Picks, HeadRange, ReadLength, WriteLength, NodesLength, NotABit, Acknowledge, SecondOne, FirstLine, InputLength, Code, UnusedBit, WaitingLength, Overflow, NodeByte, Total, Holder, Station, HeadsLength, Link, Filler}
use Rattle.arbiter.specs.Refusals.{number, place, Numbered, Placed, AnyPlace}

pub numbered : Numbered
numbered Width = (omega arith, omega arith)
numbered TreeWidth = (omega arith, omega arith)
numbered Picks = (omega arith, omega arith)
numbered HeadRange = (omega arith, omega arith)
numbered ReadLength = (omega arith, omega arith)
numbered WriteLength = (omega arith, omega arith)
numbered NodesLength = (omega arith, omega arith)
numbered (NotABit buffer p) = (omega arith, omega arith)
numbered Acknowledge = (omega arith, omega arith)
numbered (SecondOne p) = (omega arith, omega arith)
numbered FirstLine = (omega arith, omega arith)
numbered InputLength = (omega arith, omega arith)
numbered Code = (omega arith, omega arith)
numbered (UnusedBit p) = (omega arith, omega arith)
numbered WaitingLength = (omega arith, omega arith)
numbered (Overflow p) = (omega arith, omega arith)
numbered (NodeByte p) = (omega arith, omega arith)
numbered Total = (omega arith, omega arith)
numbered Holder = (omega arith, omega arith)
numbered Station = (omega arith, omega arith)
numbered HeadsLength = (omega arith, omega arith)
numbered (Link p) = (omega arith, omega arith)
numbered (Filler p) = (omega arith, omega arith)

pub placed : Placed
placed Width n = refl
placed TreeWidth n = refl
placed Picks n = refl
placed HeadRange n = refl
placed ReadLength n = refl
placed WriteLength n = refl
placed NodesLength n = refl
placed (NotABit buffer p) n = absurd (n refl)
placed Acknowledge n = refl
placed (SecondOne p) n = absurd (n refl)
placed FirstLine n = refl
placed InputLength n = refl
placed Code n = refl
placed (UnusedBit p) n = absurd (n refl)
placed WaitingLength n = refl
placed (Overflow p) n = absurd (n refl)
placed (NodeByte p) n = absurd (n refl)
placed Total n = refl
placed Holder n = refl
placed Station n = refl
placed HeadsLength n = refl
placed (Link p) n = absurd (n refl)
placed (Filler p) n = absurd (n refl)

-- what holds of the first number of a list, and of one that is among the others, holds of one that is among all
among : (P : ℕ → Type 0) (q x : ℕ) (xs : List ℕ) → P x → (member q xs ≡ true → P q) → member q (x ∷ xs) ≡ true → P q
among P q x xs first others m = split (eqb q x) (λ e. rw (eqb-true q x e) first) (λ e. others (rw e at m))

pub any_place : AnyPlace
any_place q p =
    let P : ℕ → Type 0 = λ n. (refusal : Refusal) × (number refusal ≡ n) × (place refusal ≡ p) in
    among P q 8 (10 ∷ 14 ∷ 16 ∷ 17 ∷ 22 ∷ 23 ∷ []) (NotABit Requests p, refl, refl)
    (among P q 10 (14 ∷ 16 ∷ 17 ∷ 22 ∷ 23 ∷ []) (SecondOne p, refl, refl)
    (among P q 14 (16 ∷ 17 ∷ 22 ∷ 23 ∷ []) (UnusedBit p, refl, refl)
    (among P q 16 (17 ∷ 22 ∷ 23 ∷ []) (Overflow p, refl, refl)
    (among P q 17 (22 ∷ 23 ∷ []) (NodeByte p, refl, refl)
    (among P q 22 (23 ∷ []) (Link p, refl, refl) (among P q 23 [] (Filler p, refl, refl) (λ m. absurd (true≢false (sym m)))))))))
