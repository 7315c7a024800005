-- 02, N2: "Its turns equal the plain scan's on the unpacked wires". The packed scan beside the plain scan, cycle by cycle, each way.
-- Assumes nothing.
use Rattle.std.specs.Prelude.{ℕ, ◌≡◌, List, length}
use Rattle.rules.specs.Packing.{packed_length, pack, unpack}
use Rattle.arbiter.specs.declared.State.{State}
use Rattle.arbiter.specs.Answers.{number}
use Rattle.arbiter.specs.Cycle as RoundRobinCalls
use Rattle.packed_scan.specs.Calls as PackedCalls

-- What the packed scan serves, the plain scan serves on the unpacked wires, with any grant buffer of N bytes: the answer is the same,
-- and its grants are the packed ones unpacked
abbrev pub ServedUnpacked : Type 0
ServedUnpacked =
    (s : State) (requests former bytes : List ℕ) → let o = PackedCalls.cycle s requests former in
    number o.answer ≡ 0 → length bytes ≡ s.width
    → RoundRobinCalls.cycle s (unpack s.width requests) bytes ≡ record { answer = o.answer; written = unpack s.width o.written }

-- What the plain scan serves with one pick, the packed scan serves on the packed wires, with any grant buffer of N/8 bytes rounded up:
-- the answer is the same, and its grants are the plain ones packed
abbrev pub ServedPacked : Type 0
ServedPacked =
    (s : State) (wires bytes former : List ℕ) → let o = RoundRobinCalls.cycle s wires bytes in
    number o.answer ≡ 0 → s.picks ≡ 1 → length former ≡ packed_length s.width
    → PackedCalls.cycle s (pack wires) former ≡ record { answer = o.answer; written = pack o.written }
