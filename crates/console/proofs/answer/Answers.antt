-- `answer`: the text stands at the start of the array that it is written from.
-- Assumes nothing.
use Rattle.std.specs.Prelude.{Option, Result, Ok, Err, OnOk}
use Rattle.std.proofs.Common.{◌≡◌, ℕ, List, ◌++◌, length, take, sym, ap, ◌∙◌, subst}
use Rattle.std.proofs.lemmas.List.{take_at}
use Rattle.std.specs.Io.KnownBytes.{Appends}
use Rattle.console.proofs.answer.Goals as goal

-- what is written is the text that stands at the start
front : {T E : Type 0} (r : Result T E) (before after : Option (List ℕ)) (text out former : List ℕ) (n : ℕ) → n ≡ length text → out ≡ text ++ former
    → OnOk r (Appends before after (take n out)) → OnOk r (Appends before after text)
front (Err e) before after text out former n long is wrote = tt
front (Ok v) before after text out former n long is wrote =
    subst (Appends before after) (ap (take n) is ∙ take_at text former n (sym long)) wrote

pub returns : goal.returns
returns g c =
    front c.write_all.result _ _ _ _ _ _ c.run-length.ensures.value c.run-length.ensures.output_after c.write_all.ensures.bytes
