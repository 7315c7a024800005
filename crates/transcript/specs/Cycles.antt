-- Opening and the cycle lines: 01, "The program `turns`".
-- Assumes nothing.
use Rattle.std.specs.Prelude.{ℕ, ◌+◌, ◌*◌, Bool, cond, ◌&&◌, List, [], ◌∷◌, ◌++◌, map, eqb, length, take, get_or, replicate, None, Some, Result, Ok, Err}
use Rattle.rules.specs.RoundRobin.{start}
use Rattle.text.specs.Characters.{line_feed, space, digit, decimal, bits}
use Rattle.arbiter.specs.declared.Answer.{Answer}
use Rattle.arbiter.specs.declared.Granted.{Granted}
use Rattle.arbiter.specs.declared.State.{State}
use Rattle.arbiter.specs.declared.refusal.Refusal.{Refusal}
use Rattle.arbiter.specs.declared.refusal.Refusal.TheVariants.{ReadLength}
use Rattle.arbiter.specs.Refusals as Refusals
use Rattle.arbiter.specs.Answers.{Effect, refused}
use Rattle.engines.specs.Calls as EngineCalls
use Rattle.token_bus.specs.Calls as BusCalls
use Rattle.transcript.specs.declared.first_line.Kind.{Kind}
use Rattle.transcript.specs.declared.first_line.Kind.TheVariants.{RoundRobin, TokenBus}
pub mod Laws

-- an engine opens with no head, the bus with token 0
abbrev pub opening : Kind → ℕ → ℕ → Answer (Unit {0})
opening (RoundRobin e) n m = EngineCalls.opening e n m None
opening TokenBus n m = BusCalls.opening n m (Some 0)

-- a line that question 5 lets pass: "a cycle of N characters"; "For B a space and one acknowledge character follow"
abbrev pub well_formed : Kind → ℕ → List ℕ → Bool
well_formed (RoundRobin e) n line = eqb (length line) n
well_formed TokenBus n line = eqb (length line) (n + 2) && eqb (get_or line n 0) space

-- the byte that a character of a cycle line stands for: "Characters other than 0 and 1 stand for byte 2"
unfoldable pub wire : ℕ → ℕ
wire c = cond (eqb c (digit 0)) 0 (cond (eqb c (digit 1)) 1 2)

-- a call with these requests, a grant buffer of zeros and, for the engines, a node buffer of zeros; what the grant buffer then
-- holds. Only the bus reads the acknowledge byte
abbrev pub called : Kind → State → List ℕ → ℕ → Effect Granted
called (RoundRobin e) s requests byte =
    let o = EngineCalls.cycle e s requests (replicate s.width 0) (replicate (2 * s.width) 0) in
    record { answer = o.answer; written = o.grants }
called TokenBus s requests byte = BusCalls.cycle s requests (replicate s.width 0) byte

-- a cycle line: the characters of the stations are the requests, and for B the last one is the acknowledge byte
unfoldable pub cycle : Kind → State → List ℕ → Effect Granted
cycle kind s line =
    cond (well_formed kind s.width line)
    (called kind s (map wire (take s.width line)) (wire (get_or line (s.width + 1) 0)))
    (record { answer = refused ReadLength s; written = replicate s.width 0 })

-- the word, with a space on each side: " refused "
abbrev pub refused_word : List ℕ
refused_word = 32 ∷ 114 ∷ 101 ∷ 102 ∷ 117 ∷ 115 ∷ 101 ∷ 100 ∷ 32 ∷ []

-- what a refusal prints: "its number, the word `refused`, the refusal number and the place"
unfoldable pub refusal_line : ℕ → ℕ → ℕ → List ℕ
refusal_line k number place =
    decimal k ++ (refused_word ++ (decimal number ++ ((space ∷ []) ++ (decimal place ++ (line_feed ∷ [])))))

-- the same by the refusal itself
abbrev pub refused_line : ℕ → Refusal → List ℕ
refused_line k r = refusal_line k (Refusals.number r) (Refusals.place r)

-- what a served cycle prints: "its number from 1, the grants as N characters 0 or 1, and the next head, parted by single spaces"
unfoldable pub granted : ℕ → List ℕ → ℕ → List ℕ
granted k grants next = decimal k ++ ((space ∷ []) ++ (bits grants ++ ((space ∷ []) ++ (decimal next ++ (line_feed ∷ [])))))

-- what the k-th cycle line prints: what a call came to, the grants, and the next head's station
abbrev pub told : ℕ → Result Granted Refusal → List ℕ → ℕ → List ℕ
told k (Ok _) grants next = granted k grants next
told k (Err refusal) grants next = refused_line k refusal

-- a served cycle ends with a head, and `start` is its station
unfoldable pub printed : ℕ → Effect Granted → List ℕ
printed k o = told k o.answer.outcome o.written (start o.answer.state.head)

-- what the cycle lines from the k-th on print: "the run goes on with the old state" after a refused one, which its answer has
unfoldable pub run : Kind → State → ℕ → List (List ℕ) → List ℕ
run kind s k [] = []
run kind s k (line ∷ lines) = printed k (cycle kind s line) ++ run kind (cycle kind s line).answer.state (k + 1) lines
