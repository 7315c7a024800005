-- What holds of the rules by themselves, beyond their definitions. Each statement is the clause of the function of the same name in
-- src/theorems.rt, and so it is a theorem. n is the width, m the pick count, h the head; `asks w` says that station w asks.
-- `start h ≤ n` leaves out heads that are no station, and a width of 0.
-- Assumes nothing.
use Rattle.std.specs.Prelude.{ℕ, ◌+◌, ◌*◌, ◌/◌, ◌%◌, ◌≤◌, ◌<◌, ◌≡◌, nat_eq, Bool, not, List, [], ◌∷◌, ◌++◌, map, eqb, ltb, length, get_or}
use Rattle.std.specs.Int.Count.{ones}
use lib.Pointwise.{pointwise}
use Rattle.rules.specs.Head.{Head}
use Rattle.rules.specs.Lists.{range, filter, count, before}
use Rattle.rules.specs.RoundRobin as RoundRobinRule
use Rattle.rules.specs.RoundRobin.{start, order, granted}
use Rattle.rules.specs.RoundRobin.Trees.{Agree}
use Rattle.rules.specs.Tree.{leaf, join, nodes, goes_right}
use Rattle.rules.specs.Thermometer.{code, add, saturated, running_codes}
use Rattle.rules.specs.Thermometer as ThermometerRule
use Rattle.rules.specs.KoggeStone.{counts, count_before, network_cuts}
use Rattle.rules.specs.Packing.{line, wire, unpack, packed_length, pack, first_line}
use Rattle.rules.specs.Pending.{more}

-- the buffer t holds the tree of n stations: two bytes for each station, byte 0 is 0, node n + i is station i's, and every other node
-- joins its two children
pub record HoldsTree (n : ℕ) (h : Head) (asks : ℕ → Bool) (t : List ℕ) : Type 0 where
  pub bytes : length t ≡ 2 * n
  pub zero_byte : get_or t 0 0 ≡ 0
  pub stations : (i : ℕ) → i < n → get_or t (n + i) 0 ≡ leaf h asks i
  pub joined : (u : ℕ) → 1 ≤ u → u < n → get_or t u 0 ≡ join (get_or t (2 * u) 0) (get_or t (2 * u + 1) 0)

-- the tree's node buffer does
abbrev pub NodesHoldTree : Type 0
NodesHoldTree = (n : ℕ) (h : Head) (asks : ℕ → Bool) → 1 ≤ n → HoldsTree n h asks (nodes n h asks)

-- of the 16 pairs of child values, numbered 4 × left + right, these choose right
abbrev pub RightPairs : Type 0
RightPairs = filter (λ k. goes_right (k / 4) (k % 4)) (range 0 16) ≡ 0 ∷ 1 ∷ 2 ∷ 3 ∷ 7 ∷ 9 ∷ 11 ∷ 15 ∷ []

-- with 2 and with 4 stations, from no head and from every head, whoever asks, the tree grants whom the round-robin rule grants
abbrev pub SmallTrees : Type 0
SmallTrees = Agree 2 × Agree 4

-- the saturated adder may be regrouped, for every m and any three numbers
abbrev pub AddRegroup : Type 0
AddRegroup = (m a b c : ℕ) → add m (add m a b) c ≡ add m a (add m b c)

-- the saturated counts grant those whom the round-robin rule grants
abbrev pub GrantsRoundRobin : Type 0
GrantsRoundRobin =
    (n m : ℕ) (h : Head) (asks : ℕ → Bool) → start h ≤ n → ThermometerRule.grants n m h asks ≡ RoundRobinRule.grants n m h asks

-- the running code before each station is its saturated count, as a code
abbrev pub CodeBefore : Type 0
CodeBefore =
    (n m : ℕ) (h : Head) (asks : ℕ → Bool) → start h ≤ n → (w : ℕ) → w < n
    → get_or (running_codes n m h asks) (length (before w (order n h))) 0 ≡ code (saturated n m h asks w)

-- the number of ones of the code past the last station is the count of grants
abbrev pub OnesPast : Type 0
OnesPast =
    (n m : ℕ) (h : Head) (asks : ℕ → Bool) → start h ≤ n
    → ones (get_or (running_codes n m h asks) n 0) ≡ length (granted n m h asks)

-- both at once: the running codes are the saturated counts of all stations in their order, and then the count of grants
abbrev pub CodesSerial : Type 0
CodesSerial =
    (n m : ℕ) (h : Head) (asks : ℕ → Bool) → start h ≤ n
    → running_codes n m h asks ≡ map (λ w. code (saturated n m h asks w)) (order n h) ++ (code (length (granted n m h asks)) ∷ [])

-- the counts of the Kogge-Stone network are the running codes, the same list
abbrev pub CountsRunning : Type 0
CountsRunning = (n m : ℕ) (h : Head) (asks : ℕ → Bool) → start h ≤ n → counts n m h asks ≡ running_codes n m h asks

-- so the network's count before each station is that station's saturated count
abbrev pub CountSerial : Type 0
CountSerial =
    (n m : ℕ) (h : Head) (asks : ℕ → Bool) → start h ≤ n → (w : ℕ) → w < n
    → count_before n m h asks w ≡ code (saturated n m h asks w)

-- one of the network's adders cuts something off exactly if more than m ask
abbrev pub NetworkMore : Type 0
NetworkMore =
    (n m : ℕ) (h : Head) (asks : ℕ → Bool) → start h ≤ n → 1 ≤ m → network_cuts n m h asks ≡ ltb m (count asks (order n h))

-- more are pending exactly if more ask than are granted
abbrev pub MoreGranted : Type 0
MoreGranted =
    (n m : ℕ) (h : Head) (asks : ℕ → Bool) → start h ≤ n
    → more n asks (granted n m h asks) ≡ ltb (length (granted n m h asks)) (count asks (order n h))

-- that is, exactly if more ask than the picks
abbrev pub MorePicks : Type 0
MorePicks =
    (n m : ℕ) (h : Head) (asks : ℕ → Bool) → start h ≤ n → more n asks (granted n m h asks) ≡ ltb m (count asks (order n h))

-- by the bytes, of which each is 0 or 1: more are pending exactly if requests and grants are not the same
abbrev pub MoreBytes : Type 0
MoreBytes =
    (n m : ℕ) (h : Head) (requests : List ℕ) → length requests ≡ n → start h ≤ n
    → ((w : ℕ) → w < length requests → get_or requests w 0 ≤ 1)
    → let asks : ℕ → Bool = λ w. eqb (get_or requests w 0) 1 in
    more n asks (granted n m h asks) ≡ not (pointwise nat_eq requests (RoundRobinRule.grants n m h asks))

-- unpacking undoes packing, of wires that are 0 or 1
abbrev pub UnpackPack : Type 0
UnpackPack = (wires : List ℕ) → ((i : ℕ) → get_or wires i 0 ≤ 1) → unpack (length wires) (pack wires) ≡ wires

-- packing undoes unpacking, of as many bytes as n stations take, with no unused bit set
abbrev pub PackUnpack : Type 0
PackUnpack =
    (n : ℕ) (packed : List ℕ) → length packed ≡ packed_length n → ((k : ℕ) → get_or packed k 0 < 256)
    → ((i : ℕ) → n ≤ i → wire packed i ≡ 0) → pack (unpack n packed) ≡ packed

-- what an entry of the table says of a byte's lines: those from the start up to it are not set, and it is set unless it is 8
pub record Entry (byte start entry : ℕ) : Type 0 where
  pub low : start ≤ entry
  pub most : entry ≤ 8
  pub quiet : (j : ℕ) → start ≤ j → j < entry → line byte j ≡ 0
  pub set : entry < 8 → line byte entry ≡ 1

-- each entry of the table says this
abbrev pub EntryLine : Type 0
EntryLine = (byte start : ℕ) → start ≤ 8 → Entry byte start (first_line byte start)
