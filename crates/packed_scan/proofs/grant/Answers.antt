-- `grant` meets its contract: the station that it grants has a byte.
-- Assumes nothing.
use Rattle.std.proofs.Common.{ℕ, ◌≡◌, refl, sym, ap, ◌∙◌, [], ◌∷◌, ◌++◌, arith}
use Rattle.search.specs.Places.{first}
use Rattle.search.specs.Places.Laws.{zeros_fit}
use Rattle.packed_scan.specs.Lines.{set_lines}
use Rattle.packed_scan.specs.Lines.Laws.{one_below, one_decides}
use mir.Syntax.{Opd}
use Rattle.tracer.specs.Trace.{named, trace, end, computes, calls, runs, leaves, chooses, case}
use Rattle.packed_scan.proofs.grant.Code as code
use Rattle.packed_scan.proofs.grant.Goals as goal

-- Read off the code: one search finds whom to grant. Its bit is set, and requests and grants are compared
one_search : (on : Opd)
    × (trace (code.function).body end
    ≡ runs "arbiter::first_station"
    (runs "packed_scan::first_request"
    (chooses on (case (1 ∷ []) end (case (0 ∷ []) (runs "arbiter::idle" (leaves end)) end))
    (runs "packed_scan::lines::single"
    (computes
    (computes
    (calls (named "core::cmp::PartialEq::ne" ("core::cmp::slices::RefSlicePartialEq::eq" ∷ "core::cmp::numbers::U8PartialEq::eq" ∷ []))
    (runs "arbiter::decide" (leaves end)))))))))
one_search = (_, refl)

pub bounds-grants-station : goal.bounds-grants-station
bounds-grants-station c =
    let a = c.args in
    let r = c.requires in
    let some = ap (λ (from : ℕ). first (set_lines from a.requests.now ++ set_lines 0 a.requests.now)) (sym c.first_station-first.ensures) ∙ sym c.first_request.ensures ∙ c.in-Some.is in
    let below = one_below a.width a.requests.now r.packed a.head r.head_bound _ some in zeros_fit r.grants_value (omega arith)

pub returns-clause-value : goal.returns-clause-value
returns-clause-value c =
    let a = c.args in
    let r = c.requires in
    let some = ap (λ (from : ℕ). first (set_lines from a.requests.now ++ set_lines 0 a.requests.now)) (sym c.first_station-first.ensures) ∙ sym c.first_request.ensures ∙ c.in-Some.is in
    c.decide.ensures ∙ one_decides a.width a.requests.now r.packed a.head r.head_bound _ some (λ k. omega (arith, c.type_inv.requests k)) _ (c.ne-more.ensures ∙ rw (r.grants_value, c.single.ensures))
