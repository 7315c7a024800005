-- The grants that the counts before the positions give.
-- Assumes nothing.
use Prim.Native.Nat.{ℕ, ◌+◌, ◌-◌, ◌≤◌, ◌<◌}
use mathlib.Core.Path.{◌≡◌, sym, ◌∙◌}
use mathlib.Core.List.{List, ◌++◌}
use native.Mathlib.Omega.{arith}
use native.Mathlib.Nat.{zero-add}
use lib.Dec.{ltb}
use lib.ListN.{length, get_or, get_or-append, take, drop, length-append, length-drop}
use lib.Seq.{get_or-append_right, get_or-take, get_or-drop, ext_get_or, length-take-le}
use borrow.Author.Tests.{ltb-true, ltb-false, lt-ltb, le-ltb}
use Rattle.rules.specs.Lists.Laws as ListsLaws
use Rattle.kogge_stone.specs.Steps.{position, grant_of, grants_run, grants}

-- a run of stations
module _ (full : ℕ) (requests counts : List ℕ) where
  pub run_long : length (grants_run full requests counts) ≡ length requests
  unfolding grants_run
  run_long = ListsLaws.length_table _ 0 (length requests)

  -- at a station of it
  pub here : (w : ℕ) → w < length requests → get_or (grants_run full requests counts) w 0 ≡ grant_of full requests (get_or counts w 0) w
  unfolding grants_run
  here w l = ListsLaws.get_d_table _ 0 (length requests) w l ∙ rw zero-add

-- all stations
module _ (full first : ℕ) (requests counts : List ℕ) where
  pub long : length (grants full first requests counts) ≡ length requests
  unfolding grants
  long = ListsLaws.length_table _ 0 (length requests)

  pub at : (w : ℕ) → w < length requests
      → get_or (grants full first requests counts) w 0 ≡ grant_of full requests (get_or counts (position (length requests) first w) 0) w
  unfolding grants
  at w l = ListsLaws.get_d_table _ 0 (length requests) w l ∙ rw zero-add

  -- are two runs: those from `first` on have the first positions, and those below it the others
  module _ (l : first ≤ length requests) (e : length counts ≡ length requests) where
    abbrev n : ℕ
    n = length requests

    abbrev high : List ℕ
    high = grants_run full (drop first requests) (take (n - first) counts)

    abbrev low : List ℕ
    low = grants_run full (take first requests) (drop (n - first) counts)

    low_long : length low ≡ first
    low_long = run_long full (take first requests) _ ∙ length-take-le first requests l

    high_long : length high ≡ n - first
    high_long = run_long full (drop first requests) _ ∙ length-drop first requests

    in_low : (w : ℕ) → w < first → get_or (low ++ high) w 0 ≡ get_or (grants full first requests counts) w 0
    in_low w u =
        get_or-append low high 0 w (omega (arith, low_long))
        ∙ here full (take first requests) (drop (n - first) counts) w (omega (arith, length-take-le first requests l))
        ∙ rw (get_or-take first requests w 0 u, get_or-drop (n - first) counts w 0) (sym (at w (omega arith) ∙ rw (lt-ltb w first u)))

    in_high : (w : ℕ) → first ≤ w → w < n → get_or (low ++ high) w 0 ≡ get_or (grants full first requests counts) w 0
    in_high w u v =
        let back : first + (w - first) ≡ w = omega arith in
        let own : get_or high (w - first) 0 ≡ grant_of full requests (get_or counts (w - first) 0) w =
        here full (drop first requests) (take (n - first) counts) (w - first) (omega (arith, length-drop first requests))
        ∙ rw (get_or-drop first requests (w - first) 0, back, get_or-take (n - first) counts (w - first) 0 (omega arith)) in
        get_or-append_right low high w 0 (omega (arith, low_long)) ∙ rw low_long (own ∙ sym (at w v ∙ rw (le-ltb w first u)))

    pub rounded : low ++ high ≡ grants full first requests counts
    rounded =
        let size : length (low ++ high) ≡ n = length-append low high ∙ omega (arith, low_long, high_long) in
        ext_get_or 0 (low ++ high) (grants full first requests counts) (size ∙ sym long)
        (λ w u.
        ListsLaws.split (ltb w first) (λ t. in_low w (ltb-true w first t)) (λ f. in_high w (ltb-false w first f) (omega (arith, size))))
