-- Laws of the words of Lists.
-- Assumes nothing.
use Rattle.std.specs.Prelude.{ℕ, zero, suc, ◌+◌, ◌-◌, ◌≤◌, ◌<◌, min, ◌≡◌, refl, Bool, true, false, not, ◌&&◌, ◌||◌, List, [], ◌∷◌, ◌++◌, map, ltb, eqb, length, take, get_or, set, replicate}
use Rattle.std.proofs.Common.{sym, ap, ◌∙◌, true≢false, zero-add, add-zero, suc-add, add-suc, add-one, one-add, append-nil, arith, length-set, get_or-set_same, get_or-set_other, ext_get_or, eqb-true, eq-eqb, ne_eqb, ltb-true, ltb-false, lt-ltb, le-ltb}
use Rattle.std.proofs.Math.Bool.{and-true, and-false}
use Rattle.std.proofs.Math.Dec.{leb-suc-suc}
use Rattle.std.proofs.lemmas.List.{length-map, length-replicate, get_or-replicate}
use Rattle.std.proofs.Math.Seq.{take-append-add}
use Rattle.std.proofs.lemmas.Bool.{eqb-false}
use Rattle.std.specs.List.{list_any}
use Rattle.rules.specs.Lists.{bit, range, filter, count, member, marks, before, last}

-- by cases on a test, with its outcome in hand
pub split : {P : Type 0} (b : Bool) → (b ≡ true → P) → (b ≡ false → P) → P
split true f g = f refl
split false f g = g refl

-- two tests that are passed together are passed each
pub both : (a b : Bool) → (a && b) ≡ true → (a ≡ true) × (b ≡ true)
both true b e = (refl, e)
both false b e = absurd (true≢false (sym e))

-- two tests that follow from each other are the same
pub both_ways : (a b : Bool) → (a ≡ true → b ≡ true) → (b ≡ true → a ≡ true) → a ≡ b
both_ways true b f g = sym (f refl)
both_ways false true f g = g refl
both_ways false false f g = refl

-- cut off at m, a count says the same of what lies below m
pub cut_below : (m c x : ℕ) → ltb (min m c + x) m ≡ ltb (c + x) m
cut_below m c x =
    split (ltb (c + x) m)
    (λ t. rw t (lt-ltb (min m c + x) m (omega (arith, ltb-true (c + x) m t))))
    (λ f. rw f (le-ltb (min m c + x) m (omega (arith, ltb-false (c + x) m f))))

-- a bit is 0 or 1
pub bit_le : (b : Bool) → bit b ≤ 1
bit_le true = omega arith
bit_le false = omega arith

-- and 1 where the test is passed
pub bit_one : (b : Bool) → eqb (bit b) 1 ≡ b
bit_one true = refl
bit_one false = refl

-- a byte that is 0 or 1 is the bit of its being 1
pub bit_byte : (b : ℕ) → b ≤ 1 → bit (eqb b 1) ≡ b
bit_byte zero l = refl
bit_byte (suc zero) l = refl
bit_byte (suc (suc b)) l = absurd (omega arith)

-- counting along two lists, one after the other
pub count_append : {A : Type 0} (p : A → Bool) (xs ys : List A) → count p (xs ++ ys) ≡ count p xs + count p ys
count_append p [] ys = omega arith
count_append p (x ∷ xs) ys = omega (arith, count_append p xs ys)

-- a test that everybody passes counts them all
pub count_all : {A : Type 0} (xs : List A) → count (λ _. true) xs ≡ length xs
count_all [] = refl
count_all (x ∷ xs) = omega (arith, count_all xs)

-- a test that nothing passes counts none
pub count_never : {A : Type 0} (p : A → Bool) → ((x : A) → p x ≡ false) → (xs : List A) → count p xs ≡ 0
count_never p none [] = refl
count_never p none (x ∷ xs) = rw (none x) (omega (arith, count_never p none xs))

-- filtering two lists, one after the other
pub filter_append : {A : Type 0} (p : A → Bool) (xs ys : List A) → filter p (xs ++ ys) ≡ filter p xs ++ filter p ys
filter_append p [] ys = refl
filter_append p (x ∷ xs) ys = split (p x) (λ e. rw (e, filter_append p xs ys)) (λ e. rw (e, filter_append p xs ys))

-- as many are left as pass
pub length_filter : {A : Type 0} (p : A → Bool) (xs : List A) → length (filter p xs) ≡ count p xs
length_filter p [] = refl
length_filter p (x ∷ xs) = split (p x) (λ e. rw e (omega (arith, length_filter p xs))) (λ e. rw e (omega (arith, length_filter p xs)))

-- a list without length is empty
pub empty : {A : Type 0} (xs : List A) → length xs ≡ 0 → xs ≡ []
empty [] e = refl
empty (x ∷ xs) e = absurd (omega arith)

-- a filter leaves no more of any kind
pub count_filter_le : {A : Type 0} (p q : A → Bool) (xs : List A) → count p (filter q xs) ≤ count p xs
count_filter_le p q [] = omega arith
count_filter_le p q (x ∷ xs) = split (q x) (λ e. rw e (omega (arith, count_filter_le p q xs))) (λ e. rw e (omega (arith, count_filter_le p q xs)))

-- being in one of two lists, one after the other
pub member_append : (w : ℕ) (xs ys : List ℕ) → member w (xs ++ ys) ≡ (member w xs || member w ys)
member_append w [] ys = refl
member_append w (x ∷ xs) ys = split (eqb w x) (λ e. rw e) (λ e. rw e (member_append w xs ys))

-- whoever is in a list is counted in it
pub member_count : (w : ℕ) (xs : List ℕ) → bit (member w xs) ≤ count (eqb w) xs
member_count w [] = omega arith
member_count w (x ∷ xs) = split (eqb w x) (λ e. rw e (omega arith)) (λ e. rw e (omega (arith, member_count w xs)))

-- whoever is counted in a list is in it
pub counted_member : (w : ℕ) (xs : List ℕ) → 0 < count (eqb w) xs → member w xs ≡ true
counted_member w [] h = absurd (omega arith)
counted_member w (x ∷ xs) h = split (eqb w x) (λ e. rw e) (λ e. rw e (counted_member w xs (omega (arith, rw e at h))))

-- whoever is not in a list is not counted in it
pub uncounted : (w : ℕ) (xs : List ℕ) → member w xs ≡ false → count (eqb w) xs ≡ 0
uncounted w [] h = refl
uncounted w (x ∷ xs) h =
    split (eqb w x)
    (λ e. absurd (true≢false (rw e at h)))
    (λ e. rw e (omega (arith, uncounted w xs (rw e at h))))

-- being left by a filter: being in the list, and passing
pub member_filter : (p : ℕ → Bool) (w : ℕ) (xs : List ℕ) → member w (filter p xs) ≡ (member w xs && p w)
member_filter p w [] = refl
member_filter p w (x ∷ xs) =
    split (eqb w x)
    (λ e.
    rw (eqb-true w x e)
    (split (p x) (λ t. rw (t, eq-eqb x x refl)) (λ t. rw (t, eq-eqb x x refl, member_filter p x xs) (rw t (and-false (member x xs))))))
    (λ e. split (p x) (λ t. rw (t, e) (member_filter p w xs)) (λ t. rw (t, e) (member_filter p w xs)))

-- a filter keeps whoever passes
pub filter_keeps : (p : ℕ → Bool) (w : ℕ) (xs : List ℕ) → p w ≡ true → member w (filter p xs) ≡ member w xs
filter_keeps p w xs t = member_filter p w xs ∙ rw t (and-true (member w xs))

-- those before w in two lists, one after the other, where w is in the first
pub before_left : (w : ℕ) (xs ys : List ℕ) → member w xs ≡ true → before w (xs ++ ys) ≡ before w xs
before_left w [] ys h = absurd (true≢false (sym h))
before_left w (x ∷ xs) ys h = split (eqb w x) (λ e. rw e) (λ e. rw e (ap {B = List ℕ} (λ l. x ∷ l) (before_left w xs ys (rw e at h))))

-- and where it is not
pub before_right : (w : ℕ) (xs ys : List ℕ) → member w xs ≡ false → before w (xs ++ ys) ≡ xs ++ before w ys
before_right w [] ys h = refl
before_right w (x ∷ xs) ys h =
    split (eqb w x)
    (λ e. absurd (true≢false (rw e at h)))
    (λ e. rw e (ap {B = List ℕ} (λ l. x ∷ l) (before_right w xs ys (rw e at h))))

-- a list in which w is: those before it, w, and the others
pub before_split : (w : ℕ) (xs : List ℕ) → member w xs ≡ true → (ys : List ℕ) × (xs ≡ before w xs ++ w ∷ ys)
before_split w [] h = absurd (true≢false (sym h))
before_split w (x ∷ xs) h =
    split (eqb w x)
    (λ e. (xs, rw e (ap {B = List ℕ} (λ (i : ℕ). i ∷ xs) (sym (eqb-true w x e)))))
    (λ e. let r = before_split w xs (rw e at h) in (r.0, rw e (ap {B = List ℕ} (λ l. x ∷ l) r.1)))

-- they are the beginning of the list
pub before_take : (w : ℕ) (xs : List ℕ) → before w xs ≡ take (length (before w xs)) xs
before_take w [] = refl
before_take w (x ∷ xs) = split (eqb w x) (λ e. rw e) (λ e. rw e (ap {B = List ℕ} (λ l. x ∷ l) (before_take w xs)))

-- they are no more than stand before any place where w is
pub before_first : (w : ℕ) (xs : List ℕ) (i : ℕ) → i < length xs → get_or xs i 0 ≡ w → length (before w xs) ≤ i
before_first w [] i l e = absurd (omega arith)
before_first w (x ∷ xs) zero l e = rw (eq-eqb w x (sym e)) (omega arith)
before_first w (x ∷ xs) (suc i) l e =
    split (eqb w x) (λ t. rw t (omega arith)) (λ f. rw f (omega (arith, before_first w xs i (omega arith) e)))

-- and where they are not all, w comes next
pub before_next : (w : ℕ) (xs : List ℕ) → length (before w xs) < length xs → get_or xs (length (before w xs)) 0 ≡ w
before_next w [] l = absurd (omega arith)
before_next w (x ∷ xs) l =
    split (eqb w x) (λ t. rw t (sym (eqb-true w x t))) (λ f. rw f (before_next w xs (omega (arith, rw f at l))))

-- whoever stands at a place is one of the list
pub count_at : (xs : List ℕ) (p : ℕ) → p < length xs → 0 < count (eqb (get_or xs p 0)) xs
count_at [] p l = absurd (omega arith)
count_at (x ∷ xs) zero l = rw (eq-eqb x x refl) (omega arith)
count_at (x ∷ xs) (suc p) l = omega (arith, count_at xs p (omega arith))

-- before the one at place p, if it stands nowhere else, stand the first p
pub before_at : (xs : List ℕ) (p : ℕ) → p < length xs → count (eqb (get_or xs p 0)) xs ≡ 1 → before (get_or xs p 0) xs ≡ take p xs
before_at [] p l e = absurd (omega arith)
before_at (x ∷ xs) zero l e = rw (eq-eqb x x refl)
before_at (x ∷ xs) (suc p) l e =
    split (eqb (get_or xs p 0) x)
    (λ t. absurd (omega (arith, count_at xs p (omega arith), rw t at e)))
    (λ f. rw f (ap {B = List ℕ} (λ i. x ∷ i) (before_at xs p (omega arith) (omega (arith, rw f at e)))))

-- no more pass before w than in the whole list
pub count_before_le : (p : ℕ → Bool) (w : ℕ) (xs : List ℕ) → count p (before w xs) ≤ count p xs
count_before_le p w [] = omega arith
count_before_le p w (x ∷ xs) = split (eqb w x) (λ e. rw e (omega arith)) (λ e. rw e (omega (arith, count_before_le p w xs)))

-- fewer pass before w than in the whole list, if w is there and passes
pub count_before : (p : ℕ → Bool) (w : ℕ) (xs : List ℕ) → member w xs ≡ true → p w ≡ true → count p (before w xs) < count p xs
count_before p w xs h t =
    let r = before_split w xs h in
    omega (arith, ap (count p) r.1, count_append p (before w xs) (w ∷ r.0), ap bit t)

-- whoever is not in a list is not in its beginning
pub not_in_take : (w m : ℕ) (xs : List ℕ) → member w xs ≡ false → member w (take m xs) ≡ false
not_in_take w zero xs h = refl
not_in_take w (suc m) [] h = refl
not_in_take w (suc m) (x ∷ xs) h =
    split (eqb w x) (λ e. absurd (true≢false (rw e at h))) (λ e. rw e (not_in_take w m xs (rw e at h)))

ltb_suc : (a b : ℕ) → ltb (1 + a) (suc b) ≡ ltb a b
ltb_suc a b = rw one-add (leb-suc-suc (suc a) b)

-- the m first of those that pass: w of the list is one of them exactly if it passes and fewer than m before it do
pub member_first : (p : ℕ → Bool) (w : ℕ) (xs : List ℕ) (m : ℕ) → member w xs ≡ true
    → member w (take m (filter p xs)) ≡ (p w && ltb (count p (before w xs)) m)
member_first p w xs zero h = rw (le-ltb (count p (before w xs)) 0 (omega arith)) (sym (and-false (p w)))
member_first p w [] (suc m) h = absurd (true≢false (sym h))
member_first p w (x ∷ xs) (suc m) h =
    split (eqb w x)
    (λ e.
    rw (eqb-true w x e, eq-eqb x x refl)
    (split (p x)
    (λ t. rw (t, eq-eqb x x refl, lt-ltb 0 (suc m) (omega arith)))
    (λ t. rw t (not_in_take x (suc m) (filter p xs) (member_filter p x xs ∙ rw t (and-false (member x xs)))))))
    (λ e.
    split (p x)
    (λ t. rw (e, t) (rw (e, ltb_suc) (member_first p w xs m (rw e at h))))
    (λ t. rw (e, t) (rw zero-add (member_first p w xs (suc m) (rw e at h)))))

-- the one that passes with j passing before it
pub record Passing (p : ℕ → Bool) (xs : List ℕ) (j : ℕ) : Type 0 where
  pub front : List ℕ
  pub here : ℕ
  pub back : List ℕ
  pub is : xs ≡ front ++ here ∷ back
  pub passes : p here ≡ true
  pub earlier : count p front ≡ j

skipped : (p : ℕ → Bool) (x : ℕ) (xs : List ℕ) (i j : ℕ) → bit (p x) + i ≡ j → Passing p xs i → Passing p (x ∷ xs) j
skipped p x xs i j e r = record {
  front = x ∷ r.front;
  here = r.here;
  back = r.back;
  is = ap {B = List ℕ} (λ l. x ∷ l) r.is;
  passes = r.passes;
  earlier = omega (arith, r.earlier);
}

-- it is there if more than j pass
pub passing : (p : ℕ → Bool) (xs : List ℕ) (j : ℕ) → j < count p xs → Passing p xs j
passing p [] j h = absurd (omega arith)
passing p (x ∷ xs) zero h =
    split (p x)
    (λ t. record { front = []; here = x; back = xs; is = refl; passes = t; earlier = refl })
    (λ t. skipped p x xs 0 0 (rw t) (passing p xs 0 (omega (arith, rw t at h))))
passing p (x ∷ xs) (suc j) h =
    split (p x)
    (λ t. skipped p x xs j (suc j) (rw t (one-add j)) (passing p xs j (omega (arith, rw t at h))))
    (λ t. skipped p x xs (suc j) (suc j) (rw t (zero-add (suc j))) (passing p xs (suc j) (omega (arith, rw t at h))))

take_own_length : (m : ℕ) (xs : List ℕ) → take m xs ≡ take (length (take m xs)) xs
take_own_length zero xs = refl
take_own_length (suc m) [] = refl
take_own_length (suc m) (x ∷ xs) = ap {B = List ℕ} (λ l. x ∷ l) (take_own_length m xs)

-- the m first of those that pass, where w is the last of them: those that pass before it, and w
pub first_upto : (p : ℕ → Bool) (m : ℕ) (xs front : List ℕ) (w : ℕ) (back : List ℕ) → xs ≡ front ++ w ∷ back → p w ≡ true
    → suc (count p front) ≡ length (take m (filter p xs)) → take m (filter p xs) ≡ filter p front ++ (w ∷ [])
first_upto p m xs front w back is t e =
    let parts : filter p xs ≡ filter p front ++ w ∷ filter p back = ap (filter p) is ∙ filter_append p front (w ∷ back) ∙ rw t in
    take_own_length m (filter p xs)
    ∙ rw (← e, parts, ← length_filter p front, ← add-one (length (filter p front)))
    (take-append-add (filter p front) (w ∷ filter p back) 1)

-- a range in two parts
pub range_append : (a j k : ℕ) → range a (j + k) ≡ range a j ++ range (a + j) k
range_append a zero k = rw (zero-add, add-zero)
range_append a (suc j) k = rw (suc-add j k, add-suc a j, ← suc-add a j) (ap {B = List ℕ} (λ l. a ∷ l) (range_append (suc a) j k))

-- the numbers below n: those below s, and those from s on
pub range_split : (n s : ℕ) → s ≤ n → range 0 n ≡ range 0 s ++ range s (n - s)
range_split n s l = let whole : s + (n - s) ≡ n = omega arith in rw (whole, zero-add) at (range_append 0 s (n - s))

-- a range and its last number
pub range_snoc : (a k : ℕ) → range a (suc k) ≡ range a k ++ ((a + k) ∷ [])
range_snoc a k = rw (add-one k) at (range_append a k 1)

-- a range has k numbers
pub length_range : (a k : ℕ) → length (range a k) ≡ k
length_range a zero = refl
length_range a (suc k) = ap suc (length_range (suc a) k)

-- a range from a has the numbers up to a + k
pub member_range : (w a k : ℕ) → a ≤ w → w < a + k → member w (range a k) ≡ true
member_range w a zero h l = absurd (omega arith)
member_range w a (suc k) h l =
    split (eqb w a) (λ e. rw e) (λ e. rw e (member_range w (suc a) k (omega (arith, eqb-false w a e)) (omega arith)))

-- none below a
pub below_range : (w a k : ℕ) → w < a → member w (range a k) ≡ false
below_range w a zero h = refl
below_range w a (suc k) h = rw (ne_eqb w a (λ q. omega arith)) (below_range w (suc a) k (omega arith))

-- none from a + k on
pub above_range : (w a k : ℕ) → a + k ≤ w → member w (range a k) ≡ false
above_range w a zero h = refl
above_range w a (suc k) h = rw (ne_eqb w a (λ q. omega arith)) (above_range w (suc a) k (omega arith))

-- before a number of a range stands the range up to it
pub before_range : (w a k : ℕ) → a ≤ w → w < a + k → before w (range a k) ≡ range a (w - a)
before_range w a zero h l = absurd (omega arith)
before_range w a (suc k) h l =
    split (eqb w a)
    (λ e. let d : w - a ≡ 0 = omega (arith, eqb-true w a e) in rw (e, d))
    (λ e.
    let lt : suc a ≤ w = omega (arith, eqb-false w a e) in
    let d : w - a ≡ suc (w - suc a) = omega arith in
    rw (e, d) (ap {B = List ℕ} (λ l. a ∷ l) (before_range w (suc a) k lt (omega arith))))

-- each number stands in a range once
pub range_once : (w a k : ℕ) → a ≤ w → w < a + k → count (eqb w) (range a k) ≡ 1
range_once w a zero h l = absurd (omega arith)
range_once w a (suc k) h l =
    split (eqb w a)
    (λ e. rw e (omega (arith, uncounted w (range (suc a) k) (below_range w (suc a) k (omega (arith, eqb-true w a e))))))
    (λ e. rw e (omega (arith, range_once w (suc a) k (omega (arith, eqb-false w a e)) (omega arith))))

-- what a map holds at a place
pub get_d_mapped : (f : ℕ → ℕ) (xs : List ℕ) (p : ℕ) → p < length xs → get_or (map f xs) p 0 ≡ f (get_or xs p 0)
get_d_mapped f [] p l = absurd (omega arith)
get_d_mapped f (x ∷ xs) zero l = refl
get_d_mapped f (x ∷ xs) (suc p) l = get_d_mapped f xs p (omega arith)

-- a table over a range holds at each place the entry of its number
pub get_d_table : (f : ℕ → ℕ) (a k i : ℕ) → i < k → get_or (map f (range a k)) i 0 ≡ f (a + i)
get_d_table f a zero i l = absurd (omega arith)
get_d_table f a (suc k) zero l = rw add-zero
get_d_table f a (suc k) (suc i) l = rw (add-suc a i, ← suc-add a i) (get_d_table f (suc a) k i (omega arith))

-- a table has one entry for each number
pub length_table : (f : ℕ → ℕ) (a k : ℕ) → length (map f (range a k)) ≡ k
length_table f a k = length-map (range a k) f ∙ length_range a k

-- two tables are the same where their entries are
pub table_same : (f g : ℕ → ℕ) (a k : ℕ) → ((i : ℕ) → a ≤ i → i < a + k → f i ≡ g i) → map f (range a k) ≡ map g (range a k)
table_same f g a zero e = refl
table_same f g a (suc k) e =
    rw (e a (omega arith) (omega arith)) (ap {B = List ℕ} (λ l. g a ∷ l) (table_same f g (suc a) k (λ i l u. e i (omega arith) (omega arith))))

-- no marks
pub marks_none : (n : ℕ) → replicate n 0 ≡ marks n []
marks_none n =
    ext_get_or 0 (replicate n 0) (marks n []) (length-replicate n 0 ∙ sym (length_table _ 0 n))
    (λ i l.
    let k : i < n = omega (arith, length-replicate {A = ℕ} n 0) in
    get_or-replicate n i 0 0 k ∙ sym (get_d_table _ 0 n i k))

-- a single mark
pub marks_one : (n w : ℕ) → w < n → set (replicate n 0) w 1 ≡ marks n (w ∷ [])
marks_one n w station =
    ext_get_or 0 (set (replicate n 0) w 1) (marks n (w ∷ [])) (long ∙ sym (length_table _ 0 n))
    (λ i l.
    let k : i < n = omega (arith, long) in
    byte i k ∙ sym (get_d_table _ 0 n i k ∙ rw zero-add))
  where
    long : length {A = ℕ} (set (replicate n 0) w 1) ≡ n
    long = length-set (replicate n 0) w 1 ∙ length-replicate n 0

    byte : (i : ℕ) → i < n → get_or (set (replicate n 0) w 1) i 0 ≡ bit (member i (w ∷ []))
    byte i k =
        split (eqb i w)
        (λ t. rw (t, eqb-true i w t) (get_or-set_same (replicate n 0) w 1 0 (omega (arith, length-replicate {A = ℕ} n 0))))
        (λ f. rw f (get_or-set_other (replicate n 0) w i 1 0 (eqb-false i w f) ∙ get_or-replicate n i 0 0 k))

-- no more of any kind stand in a list's beginning
pub count_take_le : (p : ℕ → Bool) (m : ℕ) (xs : List ℕ) → count p (take m xs) ≤ count p xs
count_take_le p zero xs = omega arith
count_take_le p (suc m) [] = omega arith
count_take_le p (suc m) (x ∷ xs) = omega (arith, count_take_le p m xs)

-- as many marks are 1 as numbers pass
count_marks : (p : ℕ → Bool) (xs : List ℕ) → count (λ b. eqb b 1) (map (λ w. bit (p w)) xs) ≡ count p xs
count_marks p [] = refl
count_marks p (x ∷ xs) = split (p x) (λ e. rw e (omega (arith, count_marks p xs))) (λ e. rw e (omega (arith, count_marks p xs)))

-- those of a list that lie below n, where n is one number more
below_next : (n : ℕ) (xs : List ℕ) → count (λ x. ltb x (suc n)) xs ≡ count (λ x. ltb x n) xs + count (eqb n) xs
below_next n [] = refl
below_next n (x ∷ xs) =
    split (ltb x n)
    (λ t.
    let l = ltb-true x n t in
    rw (t, lt-ltb x (suc n) (omega arith), ne_eqb n x (λ e. omega arith)) (omega (arith, below_next n xs)))
    (λ f.
    let l = ltb-false x n f in
    split (eqb n x)
    (λ t. let e = eqb-true n x t in rw (f, t, lt-ltb x (suc n) (omega arith)) (omega (arith, below_next n xs)))
    (λ g. let d = eqb-false n x g in rw (f, g, le-ltb x (suc n) (omega arith)) (omega (arith, below_next n xs))))

-- a list that holds each number at most once, and none from n on, has as many as there are marks
module _ (xs : List ℕ) (once : (w : ℕ) → count (eqb w) xs ≤ 1) where
  member_once : (w : ℕ) → bit (member w xs) ≡ count (eqb w) xs
  member_once w =
      split (member w xs)
      (λ t. rw t (omega (arith, ap bit t, member_count w xs, once w)))
      (λ f. rw f (omega (arith, uncounted w xs f)))

  members_below : (n : ℕ) → count (λ w. member w xs) (range 0 n) ≡ count (λ x. ltb x n) xs
  members_below zero = sym (count_never (λ x. ltb x 0) (λ x. le-ltb x 0 (omega arith)) xs)
  members_below (suc n) =
      let more : range 0 (suc n) ≡ range 0 n ++ (n ∷ []) = rw zero-add at (range_snoc 0 n) in
      ap (count (λ w. member w xs)) more
      ∙ count_append (λ w. member w xs) (range 0 n) (n ∷ [])
      ∙ omega (arith, members_below n, member_once n, below_next n xs)

  pub marks_count : (n : ℕ) → ((w : ℕ) → n ≤ w → count (eqb w) xs ≡ 0) → count (λ b. eqb b 1) (marks n xs) ≡ length xs
  marks_count n out = count_marks (λ w. member w xs) (range 0 n) ∙ members_below n ∙ all xs out
    where
      all : (ys : List ℕ) → ((w : ℕ) → n ≤ w → count (eqb w) ys ≡ 0) → count (λ y. ltb y n) ys ≡ length ys
      all [] f = refl
      all (y ∷ ys) f =
          split (ltb y n)
          (λ t. rw t (omega (arith, all ys (λ w l. omega (arith, f w l)))))
          (λ g. absurd (omega (arith, f y (omega (arith, ltb-false y n g)), ap bit (eq-eqb y y refl))))

-- an entry of a table is that of one of its numbers
pub table_entry : (f : ℕ → ℕ) (x a k : ℕ) → member x (map f (range a k)) ≡ true → (i : ℕ) × (a ≤ i) × (i < a + k) × (x ≡ f i)
table_entry f x a zero h = absurd (true≢false (sym h))
table_entry f x a (suc k) h =
    split (eqb x (f a))
    (λ e. (a, omega arith, omega arith, eqb-true x (f a) e))
    (λ e. let r = table_entry f x (suc a) k (rw e at h) in (r.0, omega (arith, r.1), omega (arith, r.2), r.3))

-- and the other way round
pub entry_table : (f : ℕ → ℕ) (i a k : ℕ) → a ≤ i → i < a + k → member (f i) (map f (range a k)) ≡ true
entry_table f i a zero l u = absurd (omega arith)
entry_table f i a (suc k) l u =
    split (eqb i a)
    (λ e. rw (eqb-true i a e, eq-eqb (f a) (f a) refl))
    (λ e.
    let rest = entry_table f i (suc a) k (omega (arith, eqb-false i a e)) (omega arith) in
    split (eqb (f i) (f a)) (λ t. rw t) (λ t. rw t rest))

-- nothing of a range passes a test that fails at all its numbers
pub filter_none : (p : ℕ → Bool) (a k : ℕ) → ((i : ℕ) → a ≤ i → i < a + k → p i ≡ false) → filter p (range a k) ≡ []
filter_none p a zero h = refl
filter_none p a (suc k) h = rw (h a (omega arith) (omega arith)) (filter_none p (suc a) k (λ i l u. h i (omega arith) (omega arith)))

-- and the other way round
pub none_of : (p : ℕ → Bool) (a k i : ℕ) → filter p (range a k) ≡ [] → a ≤ i → i < a + k → p i ≡ false
none_of p a k i e l u =
    let out : false ≡ (true && p i) =
    ap (member i) (sym e) ∙ member_filter p i (range a k) ∙ rw (member_range i a k l u) in
    sym out

-- two tests that agree on a range leave the same of it
pub filter_same : (p q : ℕ → Bool) (a k : ℕ) → ((i : ℕ) → a ≤ i → i < a + k → p i ≡ q i) → filter p (range a k) ≡ filter q (range a k)
filter_same p q a zero e = refl
filter_same p q a (suc k) e =
    rw (e a (omega arith) (omega arith), filter_same p q (suc a) k (λ i l u. e i (omega arith) (omega arith)))

-- and so do a longer range, of which nothing passes from there on, and a shorter one
pub filter_upto : (p q : ℕ → Bool) (a to end : ℕ) → a ≤ to → to ≤ end → ((i : ℕ) → a ≤ i → i < to → p i ≡ q i)
    → ((i : ℕ) → to ≤ i → i < end → p i ≡ false) → filter p (range a (end - a)) ≡ filter q (range a (to - a))
filter_upto p q a to end l u same none =
    let parts : end - a ≡ (to - a) + (end - to) = omega arith in
    let here : a + (to - a) ≡ to = omega arith in
    ap (λ (k : ℕ). filter p (range a k)) parts
    ∙ ap (filter p) (range_append a (to - a) (end - to))
    ∙ filter_append p (range a (to - a)) (range (a + (to - a)) (end - to))
    ∙ rw (here, filter_none p to (end - to) (λ i b e. none i b (omega arith)))
    (append-nil (filter p (range a (to - a))) ∙ filter_same p q a (to - a) (λ i b e. same i b (omega arith)))

-- the first of a range that passes, with those that pass after it
pub filter_first : (p : ℕ → Bool) (a k w : ℕ) → a ≤ w → w < a + k → ((i : ℕ) → a ≤ i → i < w → p i ≡ false) → p w ≡ true
    → filter p (range a k) ≡ w ∷ filter p (range (suc w) (a + k - suc w))
filter_first p a zero w l u h t = absurd (omega arith)
filter_first p a (suc k) w l u h t =
    split (eqb a w)
    (λ e.
    let same : a ≡ w = eqb-true a w e in
    let left : a + suc k - suc w ≡ k = omega arith in
    rw (left, same, t))
    (λ e.
    let past : a < w = omega (arith, eqb-false a w e) in
    let left : suc a + k - suc w ≡ a + suc k - suc w = omega arith in
    rw (h a (omega arith) past, ← left)
    (filter_first p (suc a) k w (omega arith) (omega arith) (λ i n v. h i (omega arith) v) t))

-- and the other way round: whoever is first of those that pass is of the range, and the rest are those that pass after it
pub record First (p : ℕ → Bool) (a k w : ℕ) (ws : List ℕ) : Type 0 where
  pub low : a ≤ w
  pub high : w < a + k
  pub passes : p w ≡ true
  pub earlier : (i : ℕ) → a ≤ i → i < w → p i ≡ false
  pub rest : ws ≡ filter p (range (suc w) (a + k - suc w))

pub first_of : (p : ℕ → Bool) (a k w : ℕ) (ws : List ℕ) → filter p (range a k) ≡ w ∷ ws → First p a k w ws
first_of p a zero w ws e = let z : ◌≡◌ {A = ℕ} 0 1 = cc in absurd (omega arith)
first_of p a (suc k) w ws e =
    split (p a)
    (λ t.
    let here : a ∷ filter p (range (suc a) k) ≡ w ∷ ws = rw t at e in
    let same : a ≡ w = cc in
    let left : k ≡ a + suc k - suc w = omega arith in
    record {
      low = omega arith;
      high = omega arith;
      passes = rw same at t;
      earlier = λ i l u. absurd (omega arith);
      rest = rw (← left, ← same) (cc);
    })
    (λ t.
    let there : filter p (range (suc a) k) ≡ w ∷ ws = rw t at e in
    let r = first_of p (suc a) k w ws there in
    let left : suc a + k - suc w ≡ a + suc k - suc w = omega arith in
    record {
      low = omega (arith, r.low);
      high = omega (arith, r.high);
      passes = r.passes;
      earlier =
          λ i l u.
          split (eqb i a)
          (λ q. rw (eqb-true i a q) t)
          (λ q. r.earlier i (omega (arith, eqb-false i a q)) u);
      rest = rw (← left) r.rest;
    })

-- the last of a list that ends in w
pub last_snoc : (x : ℕ) (xs : List ℕ) (w : ℕ) → last x (xs ++ (w ∷ [])) ≡ w
last_snoc x [] w = refl
last_snoc x (y ∷ ys) w = last_snoc y ys w

-- counting along a range, one number more
pub count_next : (p : ℕ → Bool) (from i : ℕ) → from ≤ i → count p (range from (i + 1 - from)) ≡ count p (range from (i - from)) + bit (p i)
count_next p from i l =
    let one : i + 1 - from ≡ suc (i - from) = omega arith in
    let here : from + (i - from) ≡ i = omega arith in
    ap (λ (k : ℕ). count p (range from k)) one
    ∙ ap (count p) (range_snoc from (i - from))
    ∙ count_append p (range from (i - from)) ((from + (i - from)) ∷ [])
    ∙ rw here (omega arith)

-- and several
count_parts : (p : ℕ → Bool) (from i to : ℕ) → from ≤ i → i ≤ to
    → count p (range from (to - from)) ≡ count p (range from (i - from)) + count p (range i (to - i))
count_parts p from i to l u =
    let parts : to - from ≡ (i - from) + (to - i) = omega arith in
    let here : from + (i - from) ≡ i = omega arith in
    ap (λ (k : ℕ). count p (range from k)) parts
    ∙ ap (count p) (range_append from (i - from) (to - i))
    ∙ count_append p (range from (i - from)) (range (from + (i - from)) (to - i))
    ∙ rw here

-- a longer range counts no fewer
pub count_more : (p : ℕ → Bool) (from i to : ℕ) → from ≤ i → i ≤ to → count p (range from (i - from)) ≤ count p (range from (to - from))
count_more p from i to l u = omega (arith, count_parts p from i to l u)

-- and no more where none of those passes
pub count_same : (p : ℕ → Bool) (from i to : ℕ) → from ≤ i → i ≤ to → ((w : ℕ) → i ≤ w → w < to → p w ≡ false)
    → count p (range from (to - from)) ≡ count p (range from (i - from))
count_same p from i to l u none =
    let over = filter_none p i (to - i) (λ w a b. none w a (omega arith)) in
    omega (arith, count_parts p from i to l u, length_filter p (range i (to - i)), ap length over)

-- the first that a filter leaves passes, and nobody before it does
pub first_left : (p : ℕ → Bool) (xs : List ℕ) (w : ℕ) (ws : List ℕ) → filter p xs ≡ w ∷ ws
    → (p w ≡ true) × (count p (before w xs) ≡ 0)
first_left p [] w ws e = let z : ◌≡◌ {A = ℕ} 0 1 = cc in absurd (omega arith)
first_left p (x ∷ xs) w ws e =
    split (p x)
    (λ t.
    let here : x ∷ filter p xs ≡ w ∷ ws = rw t at e in
    let same : x ≡ w = cc in
    (rw same at t, rw (eq-eqb w x (sym same))))
    (λ f.
    let r = first_left p xs w ws (rw f at e) in
    (r.0, split (eqb w x) (λ q. rw q) (λ q. rw (q, f) (omega (arith, r.1)))))

-- one at least passes exactly if they are more than none
pub any_count : (p : ℕ → Bool) (xs : List ℕ) → list_any p xs ≡ ltb 0 (count p xs)
any_count p [] = refl
any_count p (x ∷ xs) =
    split (p x)
    (λ t. rw t (sym (lt-ltb 0 (1 + count p xs) (omega arith))))
    (λ f. rw (f, zero-add (count p xs)) (any_count p xs))

-- one of a range passes, or none does
pub any_range : (p : ℕ → Bool) (a k w : ℕ) → a ≤ w → w < a + k → p w ≡ true → list_any p (range a k) ≡ true
any_range p a zero w l u t = absurd (omega arith)
any_range p a (suc k) w l u t =
    split (eqb a w)
    (λ e. rw (eqb-true a w e, t))
    (λ e.
    let there = any_range p (suc a) k w (omega (arith, eqb-false a w e)) (omega arith) t in
    split (p a) (λ q. rw q) (λ q. rw q there))

-- it is the same of two tests that are
pub any_same : (p q : ℕ → Bool) (a k : ℕ) → ((w : ℕ) → a ≤ w → w < a + k → p w ≡ q w) → list_any p (range a k) ≡ list_any q (range a k)
any_same p q a zero same = refl
any_same p q a (suc k) same =
    rw (same a (omega arith) (omega arith), any_same p q (suc a) k (λ w l u. same w (omega arith) (omega arith)))

pub any_found : (p : ℕ → Bool) (a k : ℕ) → list_any p (range a k) ≡ true → (w : ℕ) × (a ≤ w) × (w < a + k) × (p w ≡ true)
any_found p a zero e = absurd (true≢false (sym e))
any_found p a (suc k) e =
    split (p a)
    (λ q. (a, omega arith, omega arith, q))
    (λ q. let r = any_found p (suc a) k (rw q at e) in (r.0, omega (arith, r.1), omega (arith, r.2), r.3))

pub any_none : (p : ℕ → Bool) (a k : ℕ) → ((w : ℕ) → a ≤ w → w < a + k → p w ≡ false) → list_any p (range a k) ≡ false
any_none p a zero none = refl
any_none p a (suc k) none =
    rw (none a (omega arith) (omega arith)) (any_none p (suc a) k (λ w l u. none w (omega arith) (omega arith)))

pub any_not : (p : ℕ → Bool) (a k : ℕ) → list_any p (range a k) ≡ false → (w : ℕ) → a ≤ w → w < a + k → p w ≡ false
any_not p a k e w l u =
    split (p w) (λ t. absurd (true≢false (sym (any_range p a k w l u t) ∙ e))) (λ f. f)

-- one number more
pub any_next : (p : ℕ → Bool) (from i : ℕ) → from ≤ i → list_any p (range from (i + 1 - from)) ≡ (list_any p (range from (i - from)) || p i)
any_next p from i l =
    let one : i + 1 - from ≡ suc (i - from) = omega arith in
    let here : from + (i - from) ≡ i = omega arith in
    ap (λ (k : ℕ). list_any p (range from k)) one
    ∙ ap (list_any p) (range_snoc from (i - from))
    ∙ any_last (range from (i - from)) (from + (i - from))
    ∙ rw here
  where
    any_last : (xs : List ℕ) (x : ℕ) → list_any p (xs ++ (x ∷ [])) ≡ (list_any p xs || p x)
    any_last [] x = split (p x) (λ q. rw q) (λ q. rw q)
    any_last (y ∷ ys) x = split (p y) (λ q. rw q) (λ q. rw q (any_last ys x))

-- those that pass and are not in a list are as many fewer as the list is long, if it holds some of them, each once
pub count_outside : (p : ℕ → Bool) (xs : List ℕ) (n : ℕ) → ((w : ℕ) → count (eqb w) xs ≤ bit (p w && ltb w n))
    → count (λ w. p w && not (member w xs)) (range 0 n) + length xs ≡ count p (range 0 n)
count_outside p xs n once =
    omega (
      arith,
      parts (range 0 n),
      marks_count xs (λ w. omega (arith, once w, bit_le (p w && ltb w n))) n
          (λ w l. let out : (p w && ltb w n) ≡ false = rw (le-ltb w n l) (and-false (p w)) in omega (arith, once w, ap bit out)),
      count_marks (λ w. member w xs) (range 0 n),
    )
  where
    apart : (w : ℕ) → bit (p w && not (member w xs)) + bit (member w xs) ≡ bit (p w)
    apart w =
        split (member w xs)
        (λ t.
        let inside : 1 ≤ bit (p w && ltb w n) = omega (arith, ap bit t, member_count w xs, once w) in
        split (p w) (λ q. rw (t, q)) (λ q. absurd (omega (arith, rw q at inside))))
        (λ f. split (p w) (λ q. rw (f, q)) (λ q. rw (f, q)))

    parts : (ws : List ℕ) → count (λ w. p w && not (member w xs)) ws + count (λ w. member w xs) ws ≡ count p ws
    parts [] = refl
    parts (w ∷ ws) = omega (arith, apart w, parts ws)
