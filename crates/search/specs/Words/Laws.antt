-- Laws of several bytes as one number: how it is put together, and where its lowest byte that is not 0 stands.
-- Promises `quiet`, `loud`, `parts` and `single`. The rest are steps of their proofs.
-- Assumes nothing.
use Rattle.std.specs.Prelude.{ℕ, zero, suc, ◌+◌, ◌-◌, ◌*◌, ◌/◌, ◌%◌, ◌^◌, ◌≤◌, ◌<◌, ◌≡◌, refl, List, [], ◌∷◌, ◌++◌, eqb, length, get_or, take, drop}
use Rattle.std.proofs.Common.{sym, ap, ◌∙◌, zero-add, pow-suc, mul_comm, mul_assoc, arith, length-drop, length-take-le, drop-cons, drop-drop, take-add, get_or-take, get_or-drop, eqb-true}
use Rattle.std.specs.Int.Count.{count_trailing_zeros}
use Rattle.std.proofs.lemmas.Bool.{eqb-false}
use Rattle.rules.specs.Lists.Laws as ListsLaws
use Rattle.search.specs.Words.{number}

-- j more digits
more : ℕ → ℕ → ℕ
more zero k = k
more (suc j) k = suc (more j k)

-- a number with one digit more below it, in base b
scaled : (b j r : ℕ) → b ^ suc j * r ≡ b * (b ^ j * r)
scaled b j r = rw (pow-suc b j, mul_comm (b ^ j) b) (mul_assoc b (b ^ j) r)

-- where the lowest j digits are 0, the others' trailing zeros come on top of them
low_zero : (j k r : ℕ) → count_trailing_zeros (more j k) (2 ^ j * r) ≡ j + count_trailing_zeros k r
unfolding count_trailing_zeros more
low_zero zero k r = let e : 1 * r ≡ r = omega arith in rw (e, zero-add)
low_zero (suc j) k r =
    let even : (2 ^ suc j * r) % 2 ≡ 0 = omega (arith, scaled 2 j r) in
    let half : (2 ^ suc j * r) / 2 ≡ 2 ^ j * r = omega (arith, scaled 2 j r) in
    rw (even, half) (ap suc (low_zero j k r) ∙ (omega arith))

-- where they are not, the trailing zeros are among them
low_some : (j k b r : ℕ) → 0 < b → b < 2 ^ j → count_trailing_zeros (more j k) (b + 2 ^ j * r) < j
unfolding count_trailing_zeros more
low_some zero k b r some small = absurd (omega arith)
low_some (suc j) k b r some small =
    let n = b + 2 ^ suc j * r in
    let half : n / 2 ≡ b / 2 + 2 ^ j * r = omega (arith, scaled 2 j r) in
    ListsLaws.split (eqb (b % 2) 0)
    (λ e.
    let even : n % 2 ≡ 0 = omega (arith, scaled 2 j r, eqb-true (b % 2) 0 e) in
    rw (even, half) (omega (arith, low_some j k (b / 2) r (omega (arith, eqb-true (b % 2) 0 e)) (omega (arith, pow-suc 2 j)))))
    (λ e. let odd : n % 2 ≡ 1 = omega (arith, scaled 2 j r, eqb-false (b % 2) 0 e) in rw odd (omega arith))

-- all the digits of some bytes
digits : List ℕ → ℕ
digits [] = 0
digits (b ∷ bs) = more 8 (digits bs)

eight_each : (bs : List ℕ) → digits bs ≡ 8 * length bs
unfolding digits more
eight_each [] = refl
eight_each (b ∷ bs) = omega (arith, eight_each bs)

-- place p of some bytes: it is not 0, and those before it are
record Lowest (bs : List ℕ) (p : ℕ) : Type 0 where
  within : p < length bs
  some : get_or bs p 0 ≡ 0 → ⊥
  zeros : (k : ℕ) → k < p → get_or bs k 0 ≡ 0

zeros_more : (b : ℕ) (bs : List ℕ) (p : ℕ) → b ≡ 0 → ((k : ℕ) → k < p → get_or bs k 0 ≡ 0) → (k : ℕ) → k < suc p
    → get_or (b ∷ bs) k 0 ≡ 0
zeros_more b bs p e z zero l = e
zeros_more b bs p e z (suc k) l = z k (omega arith)

-- a number that is 0 has only such bytes
all_zero : (bs : List ℕ) → number bs ≡ 0 → (k : ℕ) → k < length bs → get_or bs k 0 ≡ 0
all_zero [] e k l = absurd (omega arith)
all_zero (b ∷ bs) e k l = zeros_more b bs (length bs) (omega arith) (all_zero bs (omega arith)) k l

-- and another has its lowest other byte where its trailing zeros end
lowest : (bs : List ℕ) → ((k : ℕ) → k < length bs → get_or bs k 0 < 256) → (number bs ≡ 0 → ⊥)
    → Lowest bs (count_trailing_zeros (digits bs) (number bs) / 8)
unfolding digits
lowest [] l some = absurd (some refl)
lowest (b ∷ bs) l some =
    let n = number bs in
    let t = count_trailing_zeros (digits bs) n in
    ListsLaws.split (eqb b 0)
    (λ e.
    let none : b ≡ 0 = eqb-true b 0 e in
    let shift : b + 256 * n ≡ 2 ^ 8 * n = omega arith in
    let on : (8 + t) / 8 ≡ suc (t / 8) = omega arith in
    let r = lowest bs (λ k u. l (suc k) (omega arith)) (λ z. some (omega arith)) in
    rw (shift, low_zero 8 (digits bs) n, on) record { within = omega (arith, r.within); some = r.some; zeros = zeros_more b bs (t / 8) none r.zeros })
    (λ e.
    let first : count_trailing_zeros (more 8 (digits bs)) (b + 256 * n) / 8 ≡ 0 =
    omega (arith, low_some 8 (digits bs) b n (omega (arith, eqb-false b 0 e)) (l 0 (omega arith))) in
    rw first record { within = omega arith; some = eqb-false b 0 e; zeros = λ k u. absurd (omega arith) })

-- eight bytes of a buffer, from i on
module _ (bytes : List ℕ) (i : ℕ) (room : i + 8 ≤ length bytes) where
  abbrev eight : List ℕ
  eight = take 8 (drop i bytes)

  long : length eight ≡ 8
  long = length-take-le 8 (drop i bytes) (omega (arith, length-drop i bytes))

  at : (k : ℕ) → k < 8 → get_or eight k 0 ≡ get_or bytes (i + k) 0
  at k l = get_or-take 8 (drop i bytes) k 0 l ∙ get_or-drop i bytes k 0

  -- they are all 0
  pub quiet : number eight ≡ 0 → (w : ℕ) → i ≤ w → w < i + 8 → get_or bytes w 0 ≡ 0
  quiet e w l u =
      let k : i + (w - i) ≡ w = omega arith in
      rw k at (sym (at (w - i) (omega arith)) ∙ all_zero eight e (w - i) (omega (arith, long)))

  -- they are not, and p is the place of the lowest other byte: it is one of the eight and not 0, and those before it are 0
  pub loud : ((w : ℕ) → get_or bytes w 0 < 256) → (number eight ≡ 0 → ⊥) → (p : ℕ) → p ≡ i + count_trailing_zeros 64 (number eight) / 8
      → (p < i + 8) × (get_or bytes p 0 ≡ 0 → ⊥) × ((w : ℕ) → i ≤ w → w < p → get_or bytes w 0 ≡ 0)
  loud small some p e =
      let all : digits eight ≡ 64 = omega (arith, eight_each eight, long) in
      let r = rw all at (lowest eight (λ k l. let l8 : k < 8 = omega (arith, long) in rw (at k l8) (small (i + k))) some) in (
        omega (arith, r.within, long),
        (λ z. r.some (at _ (omega (arith, r.within, long)) ∙ rw (← e) z)),
        λ w l u.
            let k : i + (w - i) ≡ w = omega arith in
            rw k at (sym (at (w - i) (omega (arith, r.within, long))) ∙ r.zeros (w - i) (omega arith)),
      )

-- the bytes of one list, and above them those of another
append : (xs ys : List ℕ) → number (xs ++ ys) ≡ number xs + 256 ^ length xs * number ys
append [] ys = omega arith
append (x ∷ xs) ys = omega (arith, append xs ys, scaled 256 (length xs) (number ys))

-- so a number is put together from two parts
pub parts : (k j : ℕ) (bytes : List ℕ) (i : ℕ) → i + k ≤ length bytes
    → number (take (k + j) (drop i bytes)) ≡ number (take k (drop i bytes)) + 256 ^ k * number (take j (drop (i + k) bytes))
parts k j bytes i l =
    let long : length (take k (drop i bytes)) ≡ k = length-take-le k (drop i bytes) (omega (arith, length-drop i bytes)) in
    ap number (take-add k j (drop i bytes))
    ∙ append (take k (drop i bytes)) (take j (drop k (drop i bytes)))
    ∙ rw (long, drop-drop k i bytes)

-- and one byte is its own
pub single : (bytes : List ℕ) (i : ℕ) → i < length bytes → number (take 1 (drop i bytes)) ≡ get_or bytes i 0
single bytes i l = ap (λ (xs : List ℕ). number (take 1 xs)) (drop-cons bytes i 0 l) ∙ (omega arith)
