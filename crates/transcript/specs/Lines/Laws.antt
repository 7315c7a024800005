-- What is known of places and lines.
-- Assumes nothing.
use Rattle.std.specs.Prelude.{ℕ, zero, suc, Bool, true, false, ◌==◌, position, unwrap_or, Option, None, Some, ◌+◌, ◌-◌, ◌≤◌, ◌<◌, ◌≡◌, refl, cond, List, [], ◌∷◌, ◌++◌, eqb, ltb, length, drop, get_or}
use Rattle.std.proofs.Common.{sym, ap, ◌∙◌, arith, length-take, ltb-true, ltb-false}
use Rattle.std.proofs.lemmas.List.Recursion.{is_position_or_len}
use Rattle.std.specs.Bool.{MatchBool}
use Rattle.std.specs.Fn.{ComputesKey, Called}
use Rattle.std.proofs.lemmas.Fn.{always_returns_same}
use Rattle.std.specs.List.{position_or_len, slice_split, onto_first, All, IsFirstMatchOrLen}
use Rattle.std.specs.Slice.Iter.{split_rest, split_done, split_callee, split_steps}
use Rattle.std.proofs.lemmas.List.Splits.{slice_split_none, slice_split_at}
use Rattle.std.proofs.lemmas.Grind.{common_steps}
use Rattle.std.specs.declared.slice.Split.{Split}
use denote.Param.Members.{Mut}
use denote.Ref.{Bor}
use Rattle.rules.specs.Lists.Laws as ListsLaws
use Rattle.text.specs.Characters.{line_feed}
use Rattle.transcript.specs.Lines.{place, on_first, split, unended, left}

-- the place of the first b in the library's words
place_is : (b : ℕ) (xs : List ℕ) → place b xs ≡ position_or_len (λ x. x == b) xs
unfolding place
place_is b xs = is_position_or_len (place b) (λ x. x == b) refl (λ x xs. cond_suc (eqb x b) (place b xs)) xs
  where
    cond_suc : (t : Bool) (k : ℕ) → cond t zero (suc k) ≡ cond t 0 (1 + k)
    cond_suc true k = refl
    cond_suc false k = omega arith

pub place_le : (b : ℕ) (xs : List ℕ) → place b xs ≤ length xs
unfolding place
place_le b [] = omega arith
place_le b (x ∷ xs) = ListsLaws.split (eqb x b) (λ t. rw t (omega arith)) (λ f. rw f (omega (arith, place_le b xs)))

-- what a search finds
pub place_found : (b : ℕ) (xs : List ℕ) (i : ℕ) → position (λ x. x == b) xs ≡ Some i → (place b xs ≡ i) × (i < length xs)
place_found b xs i e =
    ListsLaws.split (ltb (position_or_len (λ x. x == b) xs) (length xs))
    (λ t.
    let same : position_or_len (λ x. x == b) xs ≡ i = let all = rw t at e in cc in
    (place_is b xs ∙ same, omega (arith, same, ltb-true _ _ t)))
    (λ f. let all = rw f at e in let no : ⊥ = cc in absurd no)

pub place_missing : (b : ℕ) (xs : List ℕ) → position (λ x. x == b) xs ≡ None → place b xs ≡ length xs
place_missing b xs e =
    ListsLaws.split (ltb (position_or_len (λ x. x == b) xs) (length xs))
    (λ t. let all = rw t at e in let no : ⊥ = cc in absurd no)
    (λ f. omega (arith, place_le b xs, place_is b xs, ltb-false _ _ f))

-- the pieces in the library's words: there is always a first one
pub split_some : (b : ℕ) (xs : List ℕ) → 0 < length (split b xs)
unfolding split
split_some b [] = omega arith
split_some b (x ∷ xs) =
    ListsLaws.split (eqb x b) (λ t. rw t (omega arith)) (λ f. rw f (omega (arith, split_some b xs, on_first_length x (split b xs))))
  where
    on_first_length : (x : ℕ) (ps : List (List ℕ)) → length (on_first x ps) ≡ length ps
    on_first_length x [] = refl
    on_first_length x (p ∷ ps) = refl

pub split_is : (b : ℕ) (xs : List ℕ) → split b xs ≡ slice_split (λ x. x == b) xs
unfolding split
split_is b [] = refl
split_is b (x ∷ xs) =
    ListsLaws.split (eqb x b)
    (λ t. rw (t, split_is b xs))
    (λ f. rw f (on_first_is x (split b xs) (split_some b xs) ∙ ap (onto_first x) (split_is b xs)))
  where
    on_first_is : (x : ℕ) (ps : List (List ℕ)) → 0 < length ps → on_first x ps ≡ onto_first x ps
    on_first_is x [] l = absurd (omega arith)
    on_first_is x (p ∷ ps) l = refl

-- a line, and what an iterator has left after it
part : (b : ℕ) (xs x rest : List ℕ) (done : Bool) → MatchBool done (xs ≡ x) ((y : ℕ) × (xs ≡ x ++ (y ∷ rest)))
    → IsFirstMatchOrLen (λ y. y == b) xs (length x) → split b xs ≡ x ∷ cond done [] (split b rest)
part b xs x rest true e first =
    split_is b xs ∙ ap (slice_split (λ y. y == b)) e
    ∙ slice_split_none (λ y. y == b) x (λ k d l. rw e at (first.0 k d (omega arith) l))
part b xs x rest false e first =
    let front : All (λ y. (y == b) ≡ false) x = λ k d l. let a = first.0 k d (omega arith) l in let w = e.1 in grind (arith, common_steps) in
    let hit : (e.0 == b) ≡ true = let w = e.1 in let a = first.1 (grind (arith, common_steps)) e.0 in grind (arith, common_steps) in
    split_is b xs ∙ ap (slice_split (λ y. y == b)) e.1 ∙ slice_split_at (λ y. y == b) x e.0 rest front hit
    ∙ ap (λ (ls : List (List ℕ)). x ∷ ls) (sym (split_is b rest))

-- a closure that tests for a line feed, and an iterator over lines that cuts by it: its state before it gives something and after
module _ {P : Type 0} (g : Mut P (Bor ℕ × Unit {0}) Bool) where
  abbrev pub Tests : P → Type 0
  Tests = ComputesKey g (λ byte. byte == line_feed)

  module _ (s t : Split ℕ P) (item : Option (Bor (List ℕ))) (gives : split_steps g s item t) where
    pub left_next : Tests (split_callee s) → (line : Bor (List ℕ)) → item ≡ Some line
        → Tests (split_callee t) × (left s ≡ line.now ∷ left t)
    left_next tests line is =
        let k = rw is at gives in
        let next = k.2 (λ byte. byte == line_feed) tests in
        (next.0, rw k.0 (part line_feed (split_rest s) line.now (split_rest t) (split_done t) k.1 next.1))

    pub left_none : item ≡ None → left s ≡ []
    left_none is = let k = rw is at gives in rw k.0

  -- an iterator over the lines of a text that has given none gives the first one, since there is one
  pub left_first : (s t : Split ℕ P) (item : Option (Bor (List ℕ))) → split_steps g s item t
      → ((byte : Bor ℕ × Unit {0}) (r : Bool) (f : P) → Called g (split_callee s) byte r f → (r ≡ (byte.0.now == line_feed)) × (f ≡ split_callee s))
      → (body : List ℕ) → split_rest s ≡ body → split_done s ≡ false
      → (line none : Bor (List ℕ)) → line ≡ unwrap_or item none → split line_feed body ≡ line.now ∷ left t
  left_first s t None gives tests body rest done line none is =
      let all : left s ≡ split line_feed body = rw (done, rest) in
      absurd (omega (arith, split_some line_feed body, ap length (sym all ∙ left_none s t None gives refl)))
  left_first s t (Some item) gives tests body rest done line none is =
      let all : left s ≡ split line_feed body = rw (done, rest) in
      rw is (sym all ∙ (left_next s t (Some item) gives (always_returns_same g _ (split_callee s) tests) item refl).1)

-- how many characters lines have, each with its line feed
abbrev pub total_length : List (List ℕ) → ℕ
total_length [] = 0
total_length (line ∷ ls) = 1 + length line + total_length ls

on_first_total : (x : ℕ) (ls : List (List ℕ)) → total_length (on_first x ls) ≤ 1 + total_length ls
on_first_total x [] = omega arith
on_first_total x (line ∷ ls) = omega arith

pub split_total : (b : ℕ) (xs : List ℕ) → total_length (split b xs) ≤ 1 + length xs
unfolding split
split_total b [] = omega arith
split_total b (x ∷ xs) =
    ListsLaws.split (eqb x b)
    (λ t. rw t (omega (arith, split_total b xs)))
    (λ f. rw f (omega (arith, split_total b xs, on_first_total x (split b xs))))

pub lines_few : (ls : List (List ℕ)) → length ls ≤ total_length ls
lines_few [] = omega arith
lines_few (line ∷ ls) = omega (arith, lines_few ls)

-- all but the first of the lines of a text
pub left_few : (body first : List ℕ) (more : List (List ℕ)) → split line_feed body ≡ first ∷ more → length more ≤ length body
left_few body first more is = omega (arith, ap length is, lines_few (split line_feed body), split_total line_feed body)

pub unended_short : (input : List ℕ) → length (unended input) ≤ length input
unfolding unended
unended_short input =
    ListsLaws.split (eqb (get_or input (length input - 1) 0) line_feed)
    (λ t. rw t (omega (arith, length-take (length input - 1) input)))
    (λ f. rw f (omega arith))

-- all but the first
pub rest_total : (ls : List (List ℕ)) → total_length (drop 1 ls) ≤ total_length ls - 1
rest_total [] = omega arith
rest_total (line ∷ ls) = omega arith
