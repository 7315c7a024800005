-- Laws of the tree's calls: what is known once the questions have passed, how a call meets its definition, and that the descent
-- decides and grants as the round-robin rule.
-- Assumes nothing.
use Rattle.std.specs.Prelude.{ℕ, ◌*◌, ◌^◌, ◌≤◌, ◌<◌, ◌≡◌, Bool, not, ◌&&◌, nat_eq, List, eqb, length, Option, is_some}
use Rattle.std.proofs.Common.{ap, ◌∙◌, arith}
use lib.Pointwise.{pointwise}
use Rattle.rules.proofs.Walk.Laws.{Walked}
use Rattle.rules.specs.Head.{Head}
use Rattle.rules.specs.Lists.{bit}
use Rattle.rules.specs.Lists.Laws as ListsLaws
use Rattle.rules.specs.RoundRobin.{start, grants}
use Rattle.rules.proofs.RoundRobin.Laws as RoundRobinLaws
use Rattle.rules.specs.Tree as TreeRule
use Rattle.rules.proofs.Tree.Laws as TreeLaws
use Rattle.arbiter.specs.declared.State.{State}
use Rattle.arbiter.specs.declared.refusal.Buffer.TheVariants.{Requests}
use Rattle.search.specs.Places.{Bits, first}
use Rattle.arbiter.specs.Questions as Questions
use Rattle.arbiter.specs.Questions.{Verdict, passed, ◌then◌}
use Rattle.arbiter.specs.Questions.Laws.{then_served, unless_served, width_served, one_pick_served, head_served, length_served, bits_served}
use Rattle.arbiter.specs.Decisions.{requested, decision, counted}
use Rattle.arbiter.specs.Decisions.Laws.{walked, pending_bytes}
use Rattle.arbiter.specs.Decisions.OnePick.{one_walked}
use Rattle.tree.specs.Subtrees.Laws.{chosen_granted}
use Rattle.tree.specs.Calls.{tree_width, nodes_length, state_questions, questions}
use Rattle.tree.specs.Steps.{Values}

-- what 2 says where it passes
tree_width_served : (n : ℕ) → tree_width n ≡ passed → (k : ℕ) × (1 ≤ k) × (n ≡ 2 ^ k)
tree_width_served n z =
    let r = ListsLaws.table_entry (λ k. 2 ^ k) n 1 n (unless_served _ _ z) in (r.0, r.1, r.3)

-- what is known once 1, 2, 3 and 4 have passed
pub record Allowed (s : State) : Type 0 where
  pub some : 1 ≤ s.width
  pub most : s.width ≤ Questions.max_width
  pub levels : ℕ
  pub power : s.width ≡ 2 ^ levels
  pub one : s.picks ≡ 1
  pub station : start s.head < s.width

pub allowed : (s : State) → state_questions s ≡ passed → Allowed s
allowed s z =
    let n = s.width in
    let two = Questions.width n then tree_width n in
    let c = then_served (two then Questions.one_pick s.picks) (Questions.head n s.head) z in
    let b = then_served two (Questions.one_pick s.picks) c.0 in
    let a = then_served (Questions.width n) (tree_width n) b.0 in
    let w = width_served n a.0 in
    let p = tree_width_served n a.1 in
    record {
      some = w.0;
      most = w.1;
      levels = p.0;
      power = p.2;
      one = one_pick_served s.picks b.1;
      station = head_served n s.head w.0 c.1;
    }

-- what is known of a cycle once all its questions have passed
pub record Ready (s : State) (requests : List ℕ) (grantsSize nodesSize : ℕ) : Type 0 where
  pub allows : Allowed s
  pub asked : length requests ≡ s.width
  pub room : grantsSize ≡ s.width
  pub space : nodesSize ≡ 2 * s.width
  pub wires : Bits requests

pub ready : (s : State) (requests : List ℕ) (grantsSize nodesSize : ℕ)
    → questions s requests grantsSize nodesSize ≡ passed → Ready s requests grantsSize nodesSize
ready s requests grantsSize nodesSize z =
    let n = s.width in
    let five = state_questions s then Questions.read_length n (length requests) in
    let six = five then Questions.write_length n grantsSize in
    let seven = six then nodes_length n nodesSize in
    let d = then_served seven (Questions.bits Requests 0 requests) z in
    let c = then_served six (nodes_length n nodesSize) d.0 in
    let b = then_served five (Questions.write_length n grantsSize) c.0 in
    let a = then_served (state_questions s) (Questions.read_length n (length requests)) b.0 in
    record {
      allows = allowed s a.0;
      asked = length_served _ n (length requests) a.1;
      room = length_served _ n grantsSize b.1;
      space = length_served _ (2 * n) nodesSize c.1;
      wires = bits_served Requests requests d.1;
    }

module _ (s : State) (asks : ℕ → Bool) (a : Allowed s) where
  abbrev n : ℕ
  n = s.width

  abbrev m : ℕ
  m = s.picks

  abbrev h : Head
  h = s.head

  abbrev tree : List ℕ
  tree = TreeRule.nodes n h asks

  -- the tree of the requests and the head grants whom the round-robin rule grants
  pub tree_grants : TreeRule.grants n tree ≡ grants n m h asks
  unfolding TreeRule.grants
  tree_grants =
      let same = chosen_granted n a.levels h asks a.power a.station in
      rw (a.one, same, RoundRobinLaws.grants_marks n 1 h asks)

  tree_walked : (z : Option ℕ) {new : List ℕ} → z ≡ first (TreeRule.chosen n tree) → new ≡ TreeRule.grants n tree
      → Walked n m h asks (bit (is_some z)) z new
  tree_walked z e bytes =
      let same = chosen_granted n a.levels h asks a.power a.station in
      let grants : grants n m h asks ≡ grants n 1 h asks = rw a.one in
      let one = one_walked n h asks a.station z (e ∙ ap first same) (bytes ∙ tree_grants ∙ grants) in
      rw (← a.one) at one

  -- and its bytes are values
  pub tree_values : Values n tree
  tree_values = TreeLaws.node_below n h asks a.some

  pub tree_length : length tree ≡ 2 * n
  tree_length = TreeLaws.nodes_length_lem n h asks a.some

-- so what is decided where it grants z, if anyone, is what the rule decides
pub tree_decides : (s : State) (requests : List ℕ) → Allowed s → length requests ≡ s.width → Bits requests
    → (z : Option ℕ) {c : ℕ} {new : List ℕ} {pending : Bool}
    → z ≡ first (TreeRule.chosen s.width (TreeRule.nodes s.width s.head (requested requests))) → c ≡ bit (is_some z)
    → new ≡ TreeRule.grants s.width (TreeRule.nodes s.width s.head (requested requests))
    → pending ≡ (eqb c s.picks && not (pointwise nat_eq requests new))
    → counted s.width s.head c z pending ≡ decision s.width s.picks s.head (requested requests)
tree_decides s requests a long bits z e one bytes more =
    let asks = requested requests in
    let station : start s.head ≤ s.width = omega (arith, a.station) in
    let w = tree_walked s asks a z e bytes in
    rw one
    (walked s.width s.picks s.head asks (omega (arith, a.one)) station w
    (more ∙ pending_bytes s.width s.picks s.head requests station long bits (one ∙ w.counted) w.bytes))
