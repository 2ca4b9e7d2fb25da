-- Mains of a program, the one main, and the form of a main as a test (JLS 8, 12.1.4).
use Rattle.std.specs.Prelude.{ℕ, ◌≡◌, ◌<◌, ◌≤◌, Bool, false, not, ◌&&◌, List, [], ◌∷◌, Option, Some, None, slice_get}
use Rattle.jn_base.specs.declared.number.SlotNo.{SlotNo}
use Rattle.jn_quals.specs.Order.{committed_only, within}
use Rattle.jn_points.specs.declared.program.Method.{Method}
use Rattle.jn_points.specs.declared.program.SlotInfo.{SlotInfo}
use Rattle.jn_points.specs.declared.program.Program.{Program}
use Rattle.jn_points.specs.Regular.{has_body}
use Rattle.jn_heap.specs.Runs.{MainForm}

module _ (P : Program) where
  -- a method of the form main, with some body
  abbrev pub IsMain : ℕ → Type 0
  IsMain m = (b : ℕ) × MainForm P m b

  -- the one method of the form main
  abbrev pub IsOnlyMain : ℕ → Type 0
  IsOnlyMain m = IsMain m × ((k : ℕ) → IsMain k → k ≡ m)

-- a slot that isn't inferred, and takes just what is whole: neither null nor what is under construction
abbrev pub is_committed : Option SlotInfo → Bool
is_committed None = false
is_committed (Some info) = not info.inferred && within info.start committed_only && within committed_only info.start

module _ (P : Program) where
  -- there is one parameter alone, it is a reference, and its slot is so
  abbrev pub takes_committed : List (Option SlotNo) → Bool
  takes_committed [] = false
  takes_committed (None ∷ xs) = false
  takes_committed (Some slot ∷ []) = is_committed (slice_get P.slots slot.0)
  takes_committed (Some slot ∷ y ∷ xs) = false

  -- declared as a main, with a body, and with one parameter whose slot is written or by default {C}
  abbrev pub has_form : Method → Bool
  has_form x = x.is_main && has_body x.body && takes_committed x.param_slots

  -- no method from number i up to, and without, n is a main
  abbrev pub NoneBetween : ℕ → ℕ → Type 0
  NoneBetween i n = (k : ℕ) → i ≤ k → k < n → IsMain P k → ⊥

  -- no method from number i on is a main
  abbrev pub NoneFrom : ℕ → Type 0
  NoneFrom i = (k : ℕ) → i ≤ k → IsMain P k → ⊥

  -- the first method of the form from place i on
  pub record IsFirst (i n : ℕ) : Type 0 where
    pub from : i ≤ n
    pub main : IsMain P n
    pub none : NoneBetween i n
