-- `run`: what was read is the input as far as `transcript` looks, and what is written is its text.
-- Assumes nothing.
use Rattle.std.specs.Prelude.{Option, None, Some, Result, Ok, Err, OnOk, IfSome}
use Rattle.std.proofs.Common.{◌≡◌, refl, ℕ, Bool, true, false, ◌≤◌, ◌<◌, List, [], ◌++◌, arith, length, take, sym, ap, ◌∙◌, subst, append-nil, length-take-le, ltb, ltb-true, ltb-false}
use Rattle.std.proofs.lemmas.List.{take_at, take_all}
use Rattle.std.specs.Io.KnownBytes.{Appends, Consumes, IsAtEnd}
use Rattle.transcript.specs.Text as Text
use Rattle.console.proofs.run.Goals as goal

split : {P : Type 0} (b : Bool) → (b ≡ true → P) → (b ≡ false → P) → P
split true f g = f refl
split false f g = g refl

-- bytes that an array holds of an input: all of it, or as many as there is room for
held : (old new : Option (List ℕ)) (bytes : List ℕ) (n : ℕ) → n ≤ length bytes → Consumes old new (take n bytes) → (n < length bytes → IsAtEnd new)
    → IfSome old (λ xs. take n bytes ≡ take (length bytes) xs)
held None new bytes n l lost end = tt
held (Some xs) None bytes n l lost end = absurd lost
held (Some xs) (Some ys) bytes n l lost end =
    let long : length (take n bytes) ≡ n = length-take-le n bytes l in
    split (ltb n (length bytes))
    (λ t.
    let none : ys ≡ [] = end (ltb-true n (length bytes) t) in
    let all : xs ≡ take n bytes = lost ∙ ap (λ (zs : List ℕ). take n bytes ++ zs) none ∙ append-nil (take n bytes) in
    sym (ap (take (length bytes)) all ∙ take_all (length bytes) (take n bytes) (omega (arith, long))))
    (λ f.
    let full : n ≡ length bytes = omega (arith, ltb-false n (length bytes) f) in
    sym (ap (take (length bytes)) lost ∙ take_at (take n bytes) ys (length bytes) (long ∙ full)))

-- so the text that is written of it is that of the input
printed : {T E : Type 0} (r : Result T E) (old before after : Option (List ℕ)) (bytes : List ℕ) (n : ℕ)
    → OnOk r (Appends before after (Text.text (take n bytes))) → IfSome old (λ xs. take n bytes ≡ take (length bytes) xs)
    → length bytes ≡ Text.read_size
    → OnOk r (IfSome old (λ xs. Appends before after (Text.text (take Text.read_size xs))))
printed (Err e) old before after bytes n wrote of size = tt
printed (Ok v) None before after bytes n wrote of size = tt
printed (Ok v) (Some xs) before after bytes n wrote of size =
    subst (Appends before after) (ap Text.text (of ∙ ap (λ (k : ℕ). take k xs) size)) wrote

pub returns : goal.returns
returns g c =
    printed c.answer.result _ _ _ c.read_full.new.buffer c.in_ok-read.read
    c.answer.ensures
    (held _ _ c.read_full.new.buffer c.in_ok-read.read c.in_ok-read.ensures.bound c.in_ok-read.ensures.bytes c.in_ok-read.ensures.end)
    c.read_full.auto.buffer
