-- Laws of the answers: when a call is served, and what it then answers and writes.
-- Assumes nothing.
use Rattle.std.specs.Prelude.{ℕ, ◌≡◌, refl, List, Ok, Err}
use Rattle.std.proofs.Common.{sym, ◌∙◌, arith}
use Rattle.arbiter.specs.declared.Answer.{Answer}
use Rattle.arbiter.specs.declared.State.{State}
use Rattle.arbiter.specs.declared.refusal.Refusal.{Refusal}
use Rattle.arbiter.specs.Questions.{Verdict, passed, ◌then◌}
use Rattle.arbiter.specs.Refusals as Refusals
use Rattle.arbiter.specs.Refusals.Laws.{numbered}
use Rattle.arbiter.specs.Answers.{Effect, number, if_passed, opens, opened, writes}

-- no refusal has the number of a served call
pub refusal_number : (refusal : Refusal) → Refusals.number refusal ≡ 0 → ⊥
refusal_number refusal z = omega (arith, (numbered refusal).0)

-- a call that is served has passed its questions: `number` is the number of its answer
pub served_passed : {A : Type 0} (v : Verdict) (a : A) (b : Refusal → A) (number : A → ℕ)
    → ((refusal : Refusal) → v ≡ Err refusal → number (b refusal) ≡ Refusals.number refusal) → number (if_passed v a b) ≡ 0 → v ≡ passed
served_passed (Ok _) a b number e z = refl
served_passed (Err refusal) a b number e z = absurd (refusal_number refusal (sym (e refusal refl) ∙ z))

-- and then it is what it is to be
pub passed_is : {A : Type 0} (v : Verdict) (a : A) (b : Refusal → A) → v ≡ passed → if_passed v a b ≡ a
passed_is v a b z = rw z

-- the same of a call that writes
module _ {T : Type 0} (v : Verdict) (s : State) (answer : Answer T) (target former : List ℕ) where
  pub writes_passed : number (writes v s answer target former).answer ≡ 0 → v ≡ passed
  writes_passed z = served_passed v _ _ (λ (o : Effect T). number o.answer) (λ e f. refl) z

  pub writes_is : v ≡ passed → writes v s answer target former ≡ record { answer = answer; written = target }
  writes_is z = rw z

  -- refused, it changes nothing: `answer` is what it would answer if it were served
  pub writes_refused : number answer ≡ 0
      → let o = writes v s answer target former in (number o.answer ≡ 0 → ⊥) → (o.answer.state ≡ s) × (o.written ≡ former)
  writes_refused z n = by v n
    where
      by : (v : Verdict) → let o = writes v s answer target former in (number o.answer ≡ 0 → ⊥) → (o.answer.state ≡ s) × (o.written ≡ former)
      by (Ok _) n = absurd (n z)
      by (Err refusal) n = (refl, refl)

-- an opening whose questions are asked first
pub opens_then : (v : Verdict) (s : State) → opens (v then Ok s) ≡ opened v s
opens_then (Ok _) s = refl
opens_then (Err refusal) s = refl

-- a call that makes a state is served exactly if its questions pass
pub opened_passed : (v : Verdict) (s : State) → number (opened v s) ≡ 0 → v ≡ passed
opened_passed v s z = served_passed v _ _ (λ (a : Answer (Unit {0})). number a) (λ e f. refl) z

pub passed_opened : (v : Verdict) (s : State) → v ≡ passed → number (opened v s) ≡ 0
passed_opened v s z = rw z

-- what holds of everything that a refused call may come to holds of what it comes to
pub if_refused : {A : Type 0} (v : Verdict) (a : A) (b : Refusal → A) (P : A → Type 0) → (v ≡ passed → ⊥)
    → ((refusal : Refusal) → v ≡ Err refusal → P (b refusal)) → P (if_passed v a b)
if_refused (Ok _) a b P n h = absurd (n refl)
if_refused (Err refusal) a b P n h = h refusal refl
