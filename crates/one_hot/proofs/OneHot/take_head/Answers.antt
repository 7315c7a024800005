-- `take_head` meets its contract: where a question refuses, the head stays.
-- Assumes nothing.
use Rattle.std.proofs.Common.{sym, ap, ◌∙◌}
use Rattle.arbiter.specs.declared.Answer.{Answer}
use Rattle.one_hot.specs.Calls.Laws.{read_refused}
use Rattle.one_hot.proofs.OneHot.take_head.Goals as goal

pub returns-in_err-self-clause-state_after : goal.returns-in_err-self-clause-state_after
returns-in_err-self-clause-state_after c =
    ap (λ (o : Answer (Unit {0})). o.state) (sym (read_refused c.args.self.now.0 c.args.image.now _ (sym c.read_head.ensures ∙ c.in_err-self.was)))
