-- The first laws of the lamp: what is read off its definition. The module of the same name in proofs has all.
-- Assumes nothing.
use Rattle.std.specs.Prelude.{ℕ, ◌<◌, ◌≤◌, ◌≡◌, Bool, true, false, not, ◌&&◌, List, eqb, ltb, length}
use Rattle.std.proofs.Common.{◌∙◌, arith, lt-ltb, ltb-true}
use Rattle.std.specs.List.{list_any}
use Rattle.rules.specs.Lists.{bit, range, count, member}
use mathlib.Core.Path.{refl}
use Rattle.rules.specs.Lists.Laws as ListsLaws
use Rattle.rules.specs.Pending.{more}

module _ (n : ℕ) (asks : ℕ → Bool) (granted : List ℕ) where
  abbrev left : ℕ → Bool
  left w = asks w && not (member w granted)

  -- by definition
  pub more_any : more n asks granted ≡ list_any left (range 0 n)
  unfolding more
  more_any = refl

  -- there is such a station
  pub more_some : (w : ℕ) → w < n → asks w ≡ true → member w granted ≡ false → more n asks granted ≡ true
  unfolding more
  more_some w l t f = ListsLaws.any_range left 0 n w (omega arith) (omega arith) (rw (t, f))

  -- there is none
  pub more_none : ((w : ℕ) → w < n → left w ≡ false) → more n asks granted ≡ false
  unfolding more
  more_none none = ListsLaws.any_none left 0 n (λ w l u. none w (omega arith))

  -- of stations that ask, each granted once: more ask than are granted
  pub more_count : ((w : ℕ) → count (eqb w) granted ≤ bit (asks w && ltb w n)) → more n asks granted ≡ ltb (length granted) (count asks (range 0 n))
  unfolding more
  more_count once =
      let parts = ListsLaws.count_outside asks granted n once in
      ListsLaws.any_count left (range 0 n)
      ∙ ListsLaws.both_ways _ _
      (λ t. lt-ltb _ _ (omega (arith, parts, ltb-true _ _ t)))
      (λ t. lt-ltb _ _ (omega (arith, parts, ltb-true _ _ t)))
