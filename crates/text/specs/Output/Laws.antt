-- Texts that are written one after the other.
-- Assumes nothing.
use Rattle.std.specs.Prelude.{ℕ, suc, ◌+◌, ◌-◌, min, ◌≤◌, ◌<◌, ◌≡◌, refl, List, [], ◌∷◌, ◌++◌, length, take, drop, get_or, set}
use Rattle.std.proofs.Common.{sym, ap, ◌∙◌, add-one, arith, length-append, length-take, take_all, take-append-drop, take-suc}
use Rattle.std.proofs.lemmas.List.Edits.{sets, sets-eq}
use Rattle.std.proofs.Math.Seq.{length-sets, set_out}
use borrow.Rule.Slice.PartMut.{put_mid}
use Rattle.std.proofs.lemmas.Slice.{put_mid-paste}
use Rattle.std.proofs.lemmas.List.{drop_all}
use Rattle.std.proofs.lemmas.Bool.{cases_lt}
use Rattle.text.specs.declared.Output.{Output}
use Rattle.text.specs.Output.{Put, Written}

sets_append : (l : List ℕ) (i : ℕ) (xs ys : List ℕ) → sets l i (xs ++ ys) ≡ sets (sets l i xs) (i + length xs) ys
sets_append l i [] ys = grind arith
sets_append l i (x ∷ xs) ys = grind (arith, sets_append (set l i x) (suc i) xs ys)

-- past the end nothing is written
sets_out : (l : List ℕ) (i : ℕ) (vs : List ℕ) → length l ≤ i → sets l i vs ≡ l
sets_out l i [] h = refl
sets_out l i (v ∷ vs) h = grind (arith, set_out l i v, sets_out l (suc i) vs)

-- a text changes no length
pub put_length : {former : List ℕ} {at : ℕ} {text buffer : List ℕ} {end : ℕ} → Put former at text buffer end
    → length buffer ≡ length former
put_length {former} {at} {text} p = ap length p.holds ∙ length-sets former at text

-- a text told in another way
pub same_put : {former : List ℕ} {at : ℕ} {text other buffer : List ℕ} {end : ℕ} → text ≡ other → Put former at text buffer end
    → Put former at other buffer end
same_put e p = rw e at p

-- no text
pub put_none : (former : List ℕ) (at : ℕ) → Put former at [] former at
put_none former at = record { holds = refl; ends = omega arith }

-- one character, where there is room
pub put_one : (former : List ℕ) (at c : ℕ) → at < length former → Put former at (c ∷ []) (set former at c) (at + 1)
put_one former at c l = record { holds = refl; ends = omega arith }

-- any text, where there is no room
pub put_out : (former : List ℕ) (at : ℕ) (text : List ℕ) → length former ≤ at → Put former at text former at
put_out former at text l = record { holds = sym (sets_out former at text l); ends = omega arith }

-- as much of a text as there is room for, copied in one piece: what a write to `buffer[at..at + n]` leaves
pub put_copied : (former : List ℕ) (at : ℕ) (text part : List ℕ) (n k : ℕ) → at < length former
    → n ≡ min (length text) (length former - at) → k ≡ n → part ≡ take n text → Put former at text (put_mid at k former part) (at + n)
put_copied former at text part n k l e same copied =
    let few : length (take n text) ≡ n = omega (arith, length-take n text) in
    let written = sets former at (take n text) in
    let past : sets written (at + length (take n text)) (drop n text) ≡ written =
    grind (arith, cases_lt n (length text), drop_all n text, length-sets former at (take n text), sets_out written (at + length (take n text)) (drop n text)) in
    record {
      holds =
          put_mid-paste at k former part (take n text) n copied (sym same) (sym few)
          ∙ rw (take_all n (take n text) (omega arith))
          (sym (sets-eq (take n text) former at (omega arith) ∙ ap (λ (j : ℕ). take at former ++ take n text ++ drop (at + j) former) few)
          ∙ sym past
          ∙ sym (sets_append former at (take n text) (drop n text))
          ∙ ap (sets former at) (take-append-drop n text));
      ends = omega arith;
    }

-- one text after another, whether or not they fit
pub put_then : {former : List ℕ} {at : ℕ} {first buffer : List ℕ} {middle : ℕ} {second now : List ℕ} {end : ℕ}
    → Put former at first buffer middle → Put buffer middle second now end → Put former at (first ++ second) now end
put_then {former} {at} {first} {buffer} {middle} {second} p q =
    let long = put_length p in
    let after = at + length first in
    let same : sets buffer middle second ≡ sets buffer after second =
    grind (arith, cases_lt (length former) after, sets_out buffer middle second, sets_out buffer after second) in
    record {
      holds = q.holds ∙ same ∙ rw p.holds (sym (sets_append former at first second));
      ends = omega (arith, p.ends, q.ends, length-append first second);
    }

-- one character more of a text, whose i-th is c; d is what stands past its end
pub put_more : {former : List ℕ} {from : ℕ} (text : List ℕ) {i : ℕ} (d : ℕ) {buffer : List ℕ} {at c : ℕ} {now : List ℕ} {end : ℕ}
    → Put former from (take i text) buffer at → get_or text i d ≡ c → i < length text → Put buffer at (c ∷ []) now end
    → Put former from (take (i + 1) text) now end
put_more text {i} d p e l q = rw (add-one, take-suc text i d l, e) (put_then p q)

-- all characters of a text
pub put_last : {former : List ℕ} {from : ℕ} (text : List ℕ) (i : ℕ) {buffer : List ℕ} {at : ℕ}
    → Put former from (take i text) buffer at → length text ≤ i → Put former from text buffer at
put_last text i p l = same_put (take_all i text l) p

-- a text that fits is written whole
pub put_whole : {former : List ℕ} {at : ℕ} {text buffer : List ℕ} {end : ℕ} → Put former at text buffer end
    → at + length text ≤ length former → end ≡ at + length text
put_whole p l = omega (arith, p.ends)

-- at the start of a buffer
pub put_start : {former text buffer : List ℕ} {end : ℕ} → Put former 0 text buffer end → length text ≤ length former
    → buffer ≡ text ++ drop (length text) former
put_start {former} {text} p l =
    let zero : 0 + length text ≡ length text = omega arith in
    p.holds ∙ sets-eq text former 0 (omega arith) ∙ ap (λ (k : ℕ). text ++ drop k former) zero

-- a text told in another way
pub same_written : {former output : Output} {text other : List ℕ} → text ≡ other → Written former text output → Written former other output
same_written e w = rw e at w

-- no text
pub written_none : (output : Output) → Written output [] output
written_none output = record { same_buffer = refl; put = put_none output.bytes.now output.at }

-- one text after another
pub written_then : {former middle output : Output} {first second : List ℕ} → Written former first middle → Written middle second output
    → Written former (first ++ second) output
written_then v w = record { same_buffer = w.same_buffer ∙ v.same_buffer; put = put_then v.put w.put }
