-- `readable` meets its contract: question 5, then those about the last byte and about what the snapshot says.
-- Assumes nothing.
use Rattle.std.proofs.Common.{ap, ◌≡◌, ◌∙◌, sym, arith, ◌-◌, length, Ok, Err, rules}
use Rattle.arbiter.specs.declared.refusal.Buffer.TheVariants.{Snapshot}
use Rattle.arbiter.specs.Questions as Questions
use Rattle.arbiter.specs.Questions.{◌then◌}
use Rattle.snapshot.specs.Calls.{questions, fields, allowed, state}
use Rattle.snapshot.specs.Calls.Laws.{asked_rest}
use Rattle.snapshot.proofs.readable.Goals as goal
use Rattle.snapshot.proofs.readable.Goals.{In_ok-fields}

-- what is still asked once 5 has passed
rest : (c : In_ok-fields) → let bytes = c.args.snapshot.now in let f = c.in_ok-fields.fields in
    (questions bytes then Ok (state (fields bytes))) ≡ (Questions.bits Snapshot (length bytes - 1) bytes then allowed f then Ok (state f))
rest c =
    asked_rest state c.args.snapshot.now c.in_ok-fields.fields (omega (arith, c.type_inv.snapshot 0)) (sym c.held.ensures ∙ c.in_ok-fields.was)

pub returns-in_err-allowed : goal.returns-in_err-allowed
returns-in_err-allowed c =
    let told : c.from_residual-in_err-allowed.result ≡ Err c.in_err-allowed.field-0.0 = search rules in
    rw (rest (goal.at.returns-in_err-allowed c).In_ok-fields, sym c.bits.ensures ∙ c.in_ok-bits.was, sym c.allowed.ensures ∙ c.in_err-allowed.was) told

pub returns : goal.returns
returns c =
    rw (rest (goal.at.returns c).In_ok-fields, sym c.bits.ensures ∙ c.in_ok-bits.was, sym c.allowed.ensures ∙ c.in_ok-allowed.was) (ap Ok c.state.ensures)
