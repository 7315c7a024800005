-- How far a run has come.
-- Assumes nothing.
use Prim.Native.Nat.{ℕ, ◌+◌, ◌≤◌}
use mathlib.Core.Path.{◌≡◌, refl, sym, ap, ◌∙◌}
use mathlib.Core.List.{List, [], ◌∷◌, ◌++◌, append-nil, append_assoc}
use native.Mathlib.Omega.{arith}
use lib.ListN.{length}
use Rattle.text.specs.declared.Output.{Output}
use Rattle.text.specs.Output.{Written}
use Rattle.text.specs.Output.Laws.{same_written, written_none, written_then}
use Rattle.transcript.specs.declared.first_line.Kind.{Kind}
use Rattle.transcript.specs.declared.cycles.Progress.{Progress}
use Rattle.transcript.specs.Text.{max_input}
use Rattle.transcript.specs.Cycles.{cycle, printed, run}

-- `lines` are still to run, and their text is still to be written after an output that was `former`: `whole` is all that is to be
-- written, and `done` is what has been
pub record Ran (e : Kind) (former : Output) (whole : List ℕ) (p : Progress) (output : Output) (lines : List (List ℕ)) : Type 0 where
  pub same_kind : p.kind ≡ e
  pub numbered : p.number + length lines ≤ max_input + 1
  pub done : List ℕ
  pub written : Written former done output
  pub rest : done ++ run e p.state p.number lines ≡ whole

module _ (e : Kind) (former : Output) where
  pub none_ran : (p : Progress) (lines : List (List ℕ)) → p.kind ≡ e → p.number + length lines ≤ max_input + 1
      → Ran e former (run e p.state p.number lines) p former lines
  none_ran p lines same few = record { same_kind = same; numbered = few; done = []; written = written_none former; rest = refl }

  module _ {whole : List ℕ} {p : Progress} {output : Output} {lines : List (List ℕ)} (r : Ran e former whole p output lines) where
    pub all_ran : lines ≡ [] → Written former whole output
    unfolding run
    all_ran none =
        let all : r.done ++ [] ≡ whole = rw none at r.rest in
        same_written (sym (append-nil r.done) ∙ all) r.written

    -- the next line
    module _ {line : List ℕ} {more : List (List ℕ)} (is : lines ≡ line ∷ more) where
      pub one_ran : {q : Progress} {now : Output} → Written output (printed p.number (cycle p.kind p.state line)) now
          → q.kind ≡ p.kind → q.state ≡ (cycle p.kind p.state line).answer.state → q.number ≡ p.number + 1
          → Ran e former whole q now more
      unfolding run
      one_ran {q} {now} written kind state number =
          record {
            same_kind = kind ∙ r.same_kind;
            numbered = omega (arith, r.numbered, number, ap length is);
            done = r.done ++ printed p.number (cycle p.kind p.state line);
            written = written_then r.written written;
            rest = rw (state, number, r.same_kind) (append_assoc r.done _ _ ∙ rw is at r.rest);
          }
