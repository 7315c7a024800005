-- `arbitrate` meets its contract: the tree that is built holds values, and grants as the rule does.
-- Assumes nothing.
use Rattle.std.proofs.Common.{Bool, true, false, ◌≡◌, ◌∙◌, refl, sym, ap}
use mir.Val.{bool_byte}
use Rattle.rules.specs.Lists.{bit}
use Rattle.arbiter.specs.Answers.{decided}
use Rattle.tree.specs.Calls.{cycle}
use Rattle.tree.specs.Calls.Laws.{ready, tree_values, tree_decides}
use mir.Syntax.{Opd}
use Rattle.tracer.specs.Trace.{trace, end, runs, leaves, tries_result}
use Rattle.tree.proofs.Tree.arbitrate.Code as code
use Rattle.tree.proofs.Tree.arbitrate.Goals as goal

-- Read off the code: where no question refuses, the tree is built once, and grants once
one_tree : (on : Opd)
    × (trace (code.function).body end
    ≡ runs "tree::question::cycle"
    (tries_result on
    (runs "tree::nodes::Nodes::build"
    (runs "tree::grant"
    (runs "core::option::Option::is_some"
    (runs "core::convert::others::UsizeFromBool::from"
    (runs "arbiter::engine::ServedCycle::pending" (runs "arbiter::decide" (leaves end)))))))))
one_tree = (_, refl)

pub grant-granted-requires-clause-values : goal.grant-granted-requires-clause-values
grant-granted-requires-clause-values c =
    let a = c.args in
    let asked = ready a.state.now a.requests.now _ _ (sym c.cycle.ensures ∙ c.in_ok-cycle.was) in
    rw (c.build.ensures.same_width, c.build.ensures.bytes_after) (tree_values a.state.now _ asked.allows)

-- a test as a number
as_bit : (b : Bool) → bool_byte b ≡ bit b
as_bit true = refl
as_bit false = refl

pub returns-clause-value : goal.returns-clause-value
unfolding cycle
returns-clause-value c =
    let a = c.args in
    let z = c.grant-granted.ensures in
    let passed = sym c.cycle.ensures ∙ c.in_ok-cycle.was in
    let r = ready a.state.now a.requests.now _ _ passed in
    let one = c.from-count.ensures ∙ as_bit c.is_some.result ∙ ap bit c.is_some.ensures in
    rw passed
    (ap (decided a.state.now)
    (c.decide.ensures
    ∙ tree_decides a.state.now a.requests.now r.allows r.asked r.wires c.grant-granted.result
    (z.value ∙ rw (c.build.ensures.same_width, c.build.ensures.bytes_after))
    one
    (z.grants_after ∙ rw (c.build.ensures.same_width, c.build.ensures.bytes_after))
    (c.pending-more.ensures ∙ rw (z.same_picks, z.same_requests))))
