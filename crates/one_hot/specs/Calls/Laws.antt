-- Laws of the one-hot image, and of question 10.
-- Promises `image_length`, `image_bits`, `image_head`, `image_single`, `image_of`, `one_hot_none`, `one_hot_single`,
-- `one_hot_second`, `one_below`, `read_served` and `read_refused`. The rest are steps of their proofs.
-- Assumes nothing.
use Rattle.std.specs.Prelude.{ℕ, suc, ◌+◌, ◌-◌, ◌<◌, ◌≡◌, refl, Bool, true, false, List, [], ◌∷◌, eqb, ltb, length, get_or, drop, replicate}
use Rattle.std.proofs.Common.{sym, ap, ◌∙◌, arith, add-one, length-set, get_or-set_same, get_or-set_other, ext_get_or, eqb-true, ltb-false, eq-eqb, ne_eqb}
use Rattle.std.proofs.Math.Bool.{or-false}
use Rattle.std.proofs.lemmas.List.{length-replicate, get_or-replicate}
use Rattle.std.proofs.lemmas.Bool.{eqb-false}
use Rattle.rules.specs.Head.{Head}
use Rattle.std.specs.Prelude.{None, Some, Ok, Err}
use Rattle.rules.specs.Lists.{bit, range, member}
use Rattle.rules.specs.Lists.Laws as ListsLaws
use Rattle.rules.specs.RoundRobin.{start}
use Rattle.rules.proofs.RoundRobin.Laws.{start_at}
use Rattle.search.specs.Places.{places, ones, first}
use Rattle.search.specs.Places.Laws.{Free, places_none, places_first, free_of, first_none, first_some, found}
use Rattle.arbiter.specs.declared.refusal.Refusal.TheVariants.{SecondOne}
use Rattle.arbiter.specs.declared.State.{State}
use Rattle.arbiter.specs.declared.refusal.Refusal.{Refusal}
use Rattle.arbiter.specs.Answers.{moved, served, refused, if_passed}
use Rattle.arbiter.specs.Questions.{Verdict, passed, ◌then◌, refuse_at_first}
use Rattle.one_hot.specs.Calls.{image, head_of, one_hot, questions, read}

-- the head is at i
here : Head → ℕ → Bool
here None i = false
here (Some h) i = eqb i h

ltb_bit : (b : Bool) → ltb 1 (bit b) ≡ false
ltb_bit true = refl
ltb_bit false = refl

-- an image is n bytes long
pub image_length : (n : ℕ) (h : Head) → length (image n h) ≡ n
unfolding image
image_length n None = length-replicate n 0
image_length n (Some h) = length-set (replicate n 0) h 1 ∙ length-replicate n 0

-- and 1 at the head alone
image_at : (n : ℕ) (h : Head) (i : ℕ) → i < n → get_or (image n h) i 0 ≡ bit (here h i)
unfolding image here
image_at n None i l = get_or-replicate n i 0 0 l
image_at n (Some h) i l =
    ListsLaws.split (eqb i h)
    (λ e.
    let same : i ≡ h = eqb-true i h e in
    rw (e, same) (get_or-set_same (replicate n 0) h 1 0 (omega (arith, length-replicate {A = ℕ} n 0))))
    (λ e. rw e (get_or-set_other (replicate n 0) h i 1 0 (eqb-false i h e) ∙ get_or-replicate n i 0 0 l))

-- its bytes are 0 or 1
pub image_bits : (n : ℕ) (h : Head) → places (ltb 1) 0 (image n h) ≡ []
image_bits n h =
    let free : Free (ltb 1) 0 (length (image n h)) (image n h) =
    record {
      at =
          λ i l u.
          let in_image : i < n = omega (arith, image_length n h) in
          ap (ltb 1) (image_at n h i in_image) ∙ ltb_bit (here h i);
    } in
    places_none free (omega arith)

-- a byte of an image is 1 exactly at the head
image_one : (n : ℕ) (h : Head) (i : ℕ) → i < length (image n h) → eqb (get_or (image n h) i 0) 1 ≡ here h i
image_one n h i l =
    let in_image : i < n = omega (arith, image_length n h) in
    ap (λ (b : ℕ). eqb b 1) (image_at n h i in_image) ∙ ListsLaws.bit_one (here h i)

-- the place of its 1, if it has one
place_of : Head → List ℕ
place_of None = []
place_of (Some h) = h ∷ []

image_ones : (n : ℕ) (h : Head) → start h < n → ones 0 (image n h) ≡ place_of h
unfolding here place_of
image_ones n None l =
    let free : Free (λ b. eqb b 1) 0 (length (image n None)) (image n None) = record { at = λ i k u. image_one n None i u } in
    places_none free (omega arith)
image_ones n (Some h) l =
    let size = image_length n (Some h) in
    let short : h < length (image n (Some h)) = omega (arith, start_at h) in
    let free : Free (λ b. eqb b 1) 0 h (image n (Some h)) =
    record { at = λ i k u. image_one n (Some h) i (omega arith) ∙ ne_eqb i h (λ e. omega arith) } in
    let rest : Free (λ b. eqb b 1) (suc h) (length (image n (Some h))) (image n (Some h)) =
    record { at = λ i k u. image_one n (Some h) i u ∙ ne_eqb i h (λ e. omega arith) } in
    places_first free (omega arith) short (image_one n (Some h) h short ∙ eq-eqb h h refl)
    ∙ ap {B = List ℕ} (λ ps. h ∷ ps) (places_none rest (omega arith))

-- so it shows the head
pub image_head : (n : ℕ) (h : Head) → start h < n → head_of (image n h) ≡ h
unfolding place_of
image_head n None l = ap first (image_ones n None l)
image_head n (Some h) l = ap first (image_ones n (Some h) l)

-- and has no second 1
pub image_single : (n : ℕ) (h : Head) → start h < n → drop 1 (ones 0 (image n h)) ≡ []
unfolding place_of
image_single n None l = ap (λ (ps : List ℕ). drop 1 ps) (image_ones n None l)
image_single n (Some h) l = ap (λ (ps : List ℕ). drop 1 ps) (image_ones n (Some h) l)

-- of places that are at most one, a place is one of them exactly if it is the first
here_first : (ps : List ℕ) (i : ℕ) → drop 1 ps ≡ [] → here (first ps) i ≡ member i ps
unfolding here
here_first [] i e = refl
here_first (p ∷ []) i e = sym (or-false (eqb i p))
here_first (p ∷ q ∷ ps) i e = let z : ◌≡◌ {A = ℕ} 0 1 = cc in absurd (omega arith)

-- bytes that are 0 or 1, with at most one 1, are the image of the head that they show
pub image_of : (bytes : List ℕ) → places (ltb 1) 0 bytes ≡ [] → drop 1 (ones 0 bytes) ≡ []
    → image (length bytes) (head_of bytes) ≡ bytes
image_of bytes bits single =
    let n = length bytes in
    let h = head_of bytes in
    let free : Free (ltb 1) 0 n bytes = free_of bits in
    ext_get_or 0 (image n h) bytes (image_length n h)
    (λ i l.
    let u : i < n = omega (arith, image_length n h) in
    let whole : i < 0 + (n - 0) = omega arith in
    let one : member i (ones 0 bytes) ≡ eqb (get_or bytes i 0) 1 =
    ListsLaws.member_filter (λ k. eqb (get_or bytes k 0) 1) i (range 0 (n - 0)) ∙ rw (ListsLaws.member_range i 0 (n - 0) (omega arith) whole) in
    image_at n h i u
    ∙ ap bit (here_first (ones 0 bytes) i single ∙ one)
    ∙ ListsLaws.bit_byte (get_or bytes i 0) (ltb-false 1 (get_or bytes i 0) (free.at i (omega arith) u)))

-- an image with no 1
pub one_hot_none : (image : List ℕ) → first (ones 0 image) ≡ None → one_hot image ≡ passed
one_hot_none image e = ap (λ (ps : List ℕ). refuse_at_first SecondOne (drop 1 ps)) (first_none (ones 0 image) e)

-- an image whose first 1 is at i: the second is the first after it
one_hot_rest : (image : List ℕ) (i : ℕ) → first (ones 0 image) ≡ Some i → one_hot image ≡ refuse_at_first SecondOne (ones (i + 1) image)
one_hot_rest image i e = rw add-one (ap (λ (ps : List ℕ). refuse_at_first SecondOne (drop 1 ps)) (found (λ b. eqb b 1) 0 i image e).all)

pub one_hot_single : (image : List ℕ) (i : ℕ) → first (ones 0 image) ≡ Some i → first (ones (i + 1) image) ≡ None → one_hot image ≡ passed
one_hot_single image i e none = one_hot_rest image i e ∙ rw (first_none _ none)

pub one_hot_second : (image : List ℕ) (i k : ℕ) → first (ones 0 image) ≡ Some i → first (ones (i + 1) image) ≡ Some k
    → one_hot image ≡ Err (SecondOne k)
one_hot_second image i k e some = one_hot_rest image i e ∙ rw (first_some _ k some).1

-- it is within the image
pub one_below : (image : List ℕ) (i : ℕ) → first (ones 0 image) ≡ Some i → i < length image
one_below image i e = (found (λ b. eqb b 1) 0 i image e).high

-- reading an image by what its questions say: served it takes the head that the image shows, and refused it changes nothing
module _ (s : State) (bytes : List ℕ) where
  pub read_served : (h : Head) → (questions s bytes then Ok (head_of bytes)) ≡ Ok h → read s bytes ≡ served (moved s h)
  read_served h e = by (questions s bytes) e
    where
      by : (v : Verdict) → (v then Ok (head_of bytes)) ≡ Ok h
          → if_passed v (served (moved s (head_of bytes))) (λ refusal. refused refusal s) ≡ served (moved s h)
      by (Ok _) e = let same : head_of bytes ≡ h = cc in rw same
      by (Err r) e = let no : ⊥ = cc in absurd no

  pub read_refused : (refusal : Refusal) → (questions s bytes then Ok (head_of bytes)) ≡ Err refusal → read s bytes ≡ refused refusal s
  read_refused refusal e = by (questions s bytes) e
    where
      by : (v : Verdict) → (v then Ok (head_of bytes)) ≡ Err refusal
          → if_passed v (served (moved s (head_of bytes))) (λ refusal. refused refusal s) ≡ refused refusal s
      by (Ok _) e = let no : ⊥ = cc in absurd no
      by (Err r) e = let same : r ≡ refusal = cc in rw same
