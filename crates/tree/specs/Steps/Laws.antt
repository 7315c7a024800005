-- Laws of the steps: whom the node buffer grants, by the request of the station that the descent reached.
-- Promises `chosen_one`, `chosen_none`, `grants_one` and `grants_none`. The rest are steps of their proofs.
-- Assumes nothing.
use Rattle.std.specs.Prelude.{ℕ, ◌+◌, ◌≤◌, ◌≡◌, Bool, true, false, List, get_or, set, replicate, None, Some}
use Rattle.rules.specs.Lists.Laws as ListsLaws
use Rattle.rules.specs.Tree as TreeRule
use Rattle.rules.proofs.Tree.Laws as TreeLaws
use Rattle.search.specs.Places.{first}

module _ (n : ℕ) (t : List ℕ) where
  abbrev r : ℕ
  r = TreeRule.reached n t

  abbrev asks : Bool
  asks = TreeRule.s0 (get_or t (n + r) 0)

  -- the station reached asks, or it does not
  pub chosen_one : asks ≡ true → Some r ≡ first (TreeRule.chosen n t)
  unfolding TreeRule.chosen
  chosen_one e = rw e

  pub chosen_none : asks ≡ false → None ≡ first (TreeRule.chosen n t)
  unfolding TreeRule.chosen
  chosen_none e = rw e

  -- and the grant buffer
  pub grants_one : 1 ≤ n → asks ≡ true → set (replicate n 0) r 1 ≡ TreeRule.grants n t
  unfolding TreeRule.chosen TreeRule.grants
  grants_one some e = rw e (ListsLaws.marks_one n r (TreeLaws.reached_station n t some))

  pub grants_none : asks ≡ false → replicate n 0 ≡ TreeRule.grants n t
  unfolding TreeRule.chosen TreeRule.grants
  grants_none e = rw e (ListsLaws.marks_none n)
