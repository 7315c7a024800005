-- What a tracer sees of a function's code: where it computes something, which functions it calls and which tables it reads, in their
-- order; what stands under a condition, what is repeated, and where a loop or the function is left. Copies are passed over.
-- Assumes nothing.
use Rattle.std.specs.Prelude.{ℕ, Bool, true, false, ◌&&◌, List, [], ◌∷◌, ◌++◌}
use Rattle.std.proofs.Math.Bool as Bool
use mir.Syntax.{Ty, Symbol, Dict, impl, given, Dicts, dnil, dcons, Callee, fn, method, forked, awaited, prim, Opd, Rv, rv_opd, op2, op1, addr_of, aggregate, repeat, repeat_p, select}
use mir.Syntax.{Body, skip, seq, assign, block, loop, cond, switch, exit, return, call, unreachable, call_v, lend_static, Arms, arm, default, no_default}
pub mod Known

-- what is called: a function, with the functions of the impls that it is given for its bounds; for the caller's own bound of that
-- number, the method of that number; or something else, of threads
pub data Called : Type 0 where
  named : Symbol → List Symbol → Called
  bound : ℕ → ℕ → Called
  other : Called

-- Each but `end` has what comes after it last. `reads` has the type of a constant in memory, a table. `either` has a condition's two sides; `chooses` has the value by which an arm is chosen and
-- the arms, each a `case` with its keys and then the other arms
pub data Trace : Type 0 where
  end : Trace
  computes : Trace → Trace
  calls : Called → Trace → Trace
  calls_pointer : Trace → Trace
  reads : Ty → Trace → Trace
  leaves : Trace → Trace
  either : Trace → Trace → Trace → Trace
  chooses : Opd → Trace → Trace → Trace
  case : List ℕ → Trace → Trace → Trace
  repeats : Trace → Trace → Trace

-- the call of a function that is given no impl
abbrev pub runs : Symbol → Trace → Trace
runs f t = calls (named f []) t

-- where a `?` leaves: of an Option it returns none, of a Result its error, made by a function into the caller's
abbrev pub tries_option : Opd → Trace → Trace
tries_option on t =
    runs "core::option::OptionTry::branch"
    (chooses on (case (0 ∷ []) end (case (1 ∷ []) (runs "core::option::OptionFromResidualNoValue::from_residual" (leaves end)) end)) t)

abbrev pub tries_result_by : Symbol → Opd → Trace → Trace
tries_result_by from on t =
    runs "core::result::ResultTry::branch"
    (chooses on
    (case (0 ∷ []) end
    (case (1 ∷ []) (calls (named "core::result::ResultFromResidualErrResidual::from_residual" (from ∷ [])) (leaves end)) end))
    t)

-- the same where the error stays as it is
abbrev pub tries_result : Opd → Trace → Trace
tries_result = tries_result_by "core::convert::AnyFrom::from"

-- there is nothing to see
abbrev pub silent : Trace → Bool
silent end = true
silent (computes t) = false
silent (calls f t) = false
silent (calls_pointer t) = false
silent (reads τ t) = false
silent (leaves t) = false
silent (either a b t) = false
silent (chooses on arms t) = false
silent (case keys a rest) = false
silent (repeats a t) = false

-- a condition is seen where anything under it is
abbrev pub branches : Trace → Trace → Trace → Trace
branches a b t = Bool.cond (silent a && silent b) t (either a b t)

-- and so are an arm and those after it
abbrev pub one_of : List ℕ → Trace → Trace → Trace
one_of keys a rest = Bool.cond (silent a && silent rest) end (case keys a rest)

-- a choice of arms is seen where anything in one is
abbrev pub chosen : Opd → Trace → Trace → Trace
chosen on arms t = Bool.cond (silent arms) t (chooses on arms t)

-- a value, by an operation or by none
abbrev pub value : Rv → Trace → Trace
value (rv_opd x) t = t
value (op2 op x y) t = computes t
value (op1 op x) t = computes t
value (addr_of p) t = t
value (aggregate xs) t = t
value (repeat x n) t = t
value (repeat_p x n) t = t
value (select x y z) t = computes t

abbrev mutual
  -- the functions of an impl, and of those that it is given itself
  pub functions : Dict → List Symbol
  functions (impl fs types ds) = fs ++ all_functions ds
  functions (given k) = []

  pub all_functions : Dicts → List Symbol
  all_functions dnil = []
  all_functions (dcons d ds) = functions d ++ all_functions ds

abbrev pub called : Callee → Called
called (fn f args) = named f (all_functions args.1)
called (method (given k) i args) = bound k i
called (method (impl fs types ds) i args) = other
called (forked types f) = other
called (awaited types) = other
called (prim act) = other

abbrev mutual
  -- a piece of code, and what comes after it
  pub trace : Body → Trace → Trace
  trace skip t = t
  trace (seq a b) t = trace a (trace b t)
  trace (assign to v) t = value v t
  trace (block a) t = trace a t
  trace (loop a) t = repeats (trace a end) t
  trace (cond test a b) t = branches (trace a end) (trace b end) t
  trace (switch on arms) t = chosen on (arms_of arms) t
  trace (exit k) t = leaves t
  trace return t = leaves t
  trace (call f xs to) t = calls (called f) t
  trace unreachable t = leaves t
  trace (call_v f sig xs to) t = calls_pointer t
  trace (lend_static to τ k) t = reads τ t

  -- some arms: a default has no keys
  pub arms_of : Arms → Trace
  arms_of (arm keys a arms) = one_of keys (trace a end) (arms_of arms)
  arms_of (default a) = one_of [] (trace a end) end
  arms_of no_default = end
