-- `advance` meets its contract: where a question refuses nothing is done, and where they pass no number passes the most.
-- Assumes nothing.
use Rattle.std.proofs.Common.{rules, arith, ◌≡◌, ◌∙◌, refl, sym, ap, Err}
use mir.Syntax.{Opd}
use Rattle.arbiter.specs.Answers.{refused}
use Rattle.backlog.specs.Calls.{BacklogEffect, cycle}
use Rattle.backlog.specs.Calls.Laws.{refused_cycle, lent_passed}
use Rattle.tracer.specs.Trace.{Trace, trace, end, computes, runs, leaves, either, tries_result}
use Rattle.backlog.proofs.Backlog.advance.Code as code
use Rattle.backlog.proofs.Backlog.advance.Goals as goal

-- the numbers are gone over once, and the engine decides once
abbrev received : Trace
received = runs "backlog::receive" (runs "engines::Engine::arbitrate" end)

-- Read off the code: a cycle asks, goes over the numbers, runs the engine and takes what it grants, each once, whatever the room
one_engine : (on : Opd) × (trace (code.function).body end
    ≡ runs "backlog::question::cycle"
    (tries_result on
    (computes (either received received (runs "backlog::take" (runs "arbiter::State::settle" (leaves end)))))))
one_engine = (_, refl)

pub receive-requests-requires-clause-fitting : goal.receive-requests-requires-clause-fitting
receive-requests-requires-clause-fitting c =
    let a = c.args in
    let r = lent_passed a.engine a.self.now.0 a.arrivals.now a.waiting.now a.grants.now a.nodes.now (sym c.cycle.ensures ∙ c.in_ok-cycle.was) in
    λ i l. r.fits i (omega (arith, r.counted))

-- a refused call leaves everything as it was
stays : (c : goal.After-from_residual) → let a = c.args in
    cycle a.engine a.self.now.0 a.arrivals.now a.waiting.now a.grants.now a.nodes.now
    ≡ record { answer = refused c.in_err-cycle.field-0.0 a.self.now.0; waiting = a.waiting.now; grants = a.grants.now; nodes = a.nodes.now }
stays c =
    let a = c.args in
    refused_cycle a.engine a.self.now.0 a.arrivals.now a.waiting.now a.grants.now a.nodes.now c.in_err-cycle.field-0.0 (sym c.cycle.ensures ∙ c.in_err-cycle.was)

pub returns-in_err-cycle-clause-value : goal.returns-in_err-cycle-clause-value
returns-in_err-cycle-clause-value c =
    let told : c.from_residual.result ≡ Err c.in_err-cycle.field-0.0 = search rules in
    told ∙ ap (λ (o : BacklogEffect). o.answer.outcome) (sym (stays c))

pub returns-in_err-cycle-clause-state_after : goal.returns-in_err-cycle-clause-state_after
returns-in_err-cycle-clause-state_after c = ap (λ (o : BacklogEffect). o.answer.state) (sym (stays c))

pub returns-in_err-cycle-clause-waiting_after : goal.returns-in_err-cycle-clause-waiting_after
returns-in_err-cycle-clause-waiting_after c = ap (λ (o : BacklogEffect). o.waiting) (sym (stays c))

pub returns-in_err-cycle-clause-grants_after : goal.returns-in_err-cycle-clause-grants_after
returns-in_err-cycle-clause-grants_after c = ap (λ (o : BacklogEffect). o.grants) (sym (stays c))

pub returns-in_err-cycle-clause-nodes_after : goal.returns-in_err-cycle-clause-nodes_after
returns-in_err-cycle-clause-nodes_after c = ap (λ (o : BacklogEffect). o.nodes) (sym (stays c))
