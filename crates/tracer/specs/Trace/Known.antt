-- Traces by computing: each kind of code once, alone where something is seen of it, and under a condition; and what stands behind it.
-- Assumes nothing.
use Rattle.std.specs.Prelude.{◌≡◌, refl, List, [], ◌∷◌, map}
use mir.Syntax.{tnil, dnil, dcons, impl, given, rattle_abi, Callee, fn, fn₀, method, forked, awaited, prim, loaded, ty_unit, c_unit, opd_true, opd_false, place, op1, op2, rv_opd, addr_of, aggregate, repeat, repeat_p, select, bit_not, bit_and, Body, skip, seq, assign, block, loop, cond, switch, exit, return, call, call_v, lend_static, unreachable, arm, default, no_default, Rv}
use Rattle.tracer.specs.Trace.{named, bound, other, Trace, end, computes, calls_pointer, reads, leaves, either, chooses, case, repeats, runs, called, trace}

-- a value that is assigned, and a call
abbrev pub set : Rv → Body
set v = assign (place 0 []) v

abbrev pub copied : Body
copied = set (rv_opd opd_true)

abbrev pub met : Body
met = set (op2 bit_and opd_true opd_true)

abbrev pub asked : Body
asked = call (fn₀ "f") [] (place 0 [])

abbrev pub pointed : Body
pointed = call_v opd_true (rattle_abi, tnil) [] (place 0 [])

-- a piece of code alone, and the same under a condition, on its first and on its second side
abbrev pub seen : Body → List Trace
seen a = trace a end ∷ trace (cond opd_true a skip) end ∷ trace (cond opd_true skip a) end ∷ []

-- where it is seen, so is the condition
abbrev pub shown : Trace → List Trace
shown t = t ∷ either t end end ∷ either end t end ∷ []

-- where it is not, nor is the condition
abbrev pub nothing : List Trace
nothing = end ∷ end ∷ end ∷ []

-- an impl with two functions that is given another, and the bound of its caller
abbrev pub of_impl : Callee
of_impl = fn "f" (tnil, dcons (impl ("g" ∷ "h" ∷ []) tnil (dcons (impl ("i" ∷ []) tnil dnil) dnil)) (dcons (given 0) (dcons (impl ("j" ∷ []) tnil dnil) dnil)))

pub record KnownTraces : Type 0 where
  -- what is passed over
  pub skipped : seen skip ≡ nothing
  pub copies : seen copied ≡ nothing
  pub addresses : seen (set (addr_of (place 0 []))) ≡ nothing
  pub structs : seen (set (aggregate [])) ≡ nothing
  pub arrays : seen (set (repeat opd_true 2)) ≡ nothing
  pub any_arrays : seen (set (repeat_p opd_true 0)) ≡ nothing
  -- what computes
  pub of_one : seen (set (op1 bit_not opd_true)) ≡ shown (computes end)
  pub of_two : seen met ≡ shown (computes end)
  pub of_lanes : seen (set (select opd_true opd_true opd_true)) ≡ shown (computes end)
  pub tables : seen (lend_static (place 0 []) ty_unit c_unit) ≡ shown (reads ty_unit end)
  -- what calls
  pub functions : seen asked ≡ shown (runs "f" end)
  pub pointers : seen pointed ≡ shown (calls_pointer end)
  -- what leaves
  pub exits : seen (exit 1) ≡ shown (leaves end)
  pub returns : seen return ≡ shown (leaves end)
  pub unreached : seen unreachable ≡ shown (leaves end)
  -- what is under a loop, a block or another condition
  pub loops : seen (loop asked) ≡ shown (repeats (runs "f" end) end)
  pub empty_loops : seen (loop skip) ≡ shown (repeats end end)
  pub blocks : seen (block asked) ≡ shown (runs "f" end)
  pub conditions : seen (cond opd_true asked met) ≡ shown (either (runs "f" end) (computes end) end)
  pub loop_or_pointer : trace (cond opd_true (loop skip) pointed) end ≡ either (repeats end end) (calls_pointer end) end
  -- arms with their keys, and the value that chooses; a default has no keys
  pub arms : seen (switch opd_true (arm (1 ∷ []) asked (arm (2 ∷ 3 ∷ []) met (default return))))
      ≡ shown (chooses opd_true (case (1 ∷ []) (runs "f" end) (case (2 ∷ 3 ∷ []) (computes end) (case [] (leaves end) end))) end)
  pub no_defaults : seen (switch opd_false (arm (0 ∷ []) skip (arm (4 ∷ []) asked no_default)))
      ≡ shown (chooses opd_false (case (0 ∷ []) end (case (4 ∷ []) (runs "f" end) end)) end)
  pub first_arms : seen (switch opd_true (arm (0 ∷ []) asked (arm (1 ∷ []) skip (default copied))))
      ≡ shown (chooses opd_true (case (0 ∷ []) (runs "f" end) end) end)
  pub silent_arms : seen (switch opd_true (arm (0 ∷ []) skip (arm (1 ∷ []) copied (default skip)))) ≡ nothing
  -- one after the other, also after a loop, a condition and some arms
  pub order : trace (seq met (seq copied (seq asked (seq (block met) (seq pointed return))))) end
      ≡ computes (runs "f" (computes (calls_pointer (leaves end))))
  pub after : trace
      (seq (loop (exit 0)) (seq (cond opd_true asked skip) (seq (cond opd_true skip copied) (seq (switch opd_true (arm [] asked no_default)) (seq (switch opd_true no_default) met))))) end
      ≡ repeats (leaves end) (either (runs "f" end) end (chooses opd_true (case [] (runs "f" end) end) (computes end)))
  -- a loop in a loop, and where each is left, with code behind where the inner one is and behind both
  pub nested : trace (seq (block (loop (seq (block (loop (seq (exit 1) asked))) (exit 1)))) asked) end
      ≡ repeats (repeats (leaves (runs "f" end)) (leaves end)) (runs "f" end)
  -- behind an operation on one operand
  pub after_one : trace (seq (set (op1 bit_not opd_true)) (seq copied (seq asked (seq (block met) return)))) end
      ≡ computes (runs "f" (computes (leaves end)))
  -- behind a table, a choice of lanes and an array of one value
  pub after_others : trace
      (seq pointed (seq (lend_static (place 0 []) ty_unit c_unit) (seq (set (select opd_true opd_true opd_true)) (seq (set (repeat_p opd_true 0)) unreachable)))) end
      ≡ calls_pointer (reads ty_unit (computes (leaves end)))
  -- whom a call names
  pub callees : map called (fn₀ "f" ∷ of_impl ∷ method (given 2) 1 (tnil, dnil) ∷ []) ≡ named "f" [] ∷ named "f" ("g" ∷ "h" ∷ "i" ∷ "j" ∷ []) ∷ bound 2 1 ∷ []
  pub others : map called (method (impl [] tnil dnil) 0 (tnil, dnil) ∷ forked tnil (fn₀ "f") ∷ awaited tnil ∷ prim loaded ∷ []) ≡ other ∷ other ∷ other ∷ other ∷ []

pub known : KnownTraces
known =
    record {
      skipped = refl;
      copies = refl;
      addresses = refl;
      structs = refl;
      arrays = refl;
      any_arrays = refl;
      of_one = refl;
      of_two = refl;
      of_lanes = refl;
      tables = refl;
      functions = refl;
      pointers = refl;
      exits = refl;
      returns = refl;
      unreached = refl;
      loops = refl;
      empty_loops = refl;
      blocks = refl;
      conditions = refl;
      loop_or_pointer = refl;
      arms = refl;
      no_defaults = refl;
      first_arms = refl;
      silent_arms = refl;
      order = refl;
      after = refl;
      nested = refl;
      after_one = refl;
      after_others = refl;
      callees = refl;
      others = refl;
    }
