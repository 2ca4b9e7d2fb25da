-- What a call from outside means by trees, and programs that are safe for every caller by the meaning of their trees.
use Rattle.std.specs.Prelude.{ℕ, ◌≡◌, List, Option, Some}
use Rattle.jn_base.specs.declared.place.Span.{Span}
use Rattle.jn_quals.specs.Qualifier.{Qualifier}
use Rattle.jn_points.specs.declared.program.Program.{Program}
use Rattle.jn_lowering.specs.Bodies.{Source}
use Rattle.jn_heap.specs.Values.{Limits, Prim, Thing, Value}
use Rattle.jn_meaning.specs.Worlds.{Result, World}
use Rattle.jn_meaning.specs.Expressions.{Caller, constructed, entered, with_this}
use Rattle.jn_meaning.specs.Bodies.{Null, Stuck, Told, entered as entered_body, outer_world, told}
use Rattle.jn_caller_law.specs.Entries.{Allowed, Call, StaticCall, InstanceCall, ConstructorCall}
use Rattle.jn_caller_law.specs.Whole.{IsWhole}

module _ (P : Program) (sources : List Source) (names : List (List ℕ)) (limits : Limits) where
  -- as an expression that calls: a static method, the method that an object's class has, or `new` (JLS 8, 15.12.4, 15.9.4)
  abbrev pub call_meant : Caller → Call → World → Result (Option Value)
  call_meant call (StaticCall m b args) w = entered P names limits.longest call (Some m) (Some args) w
  call_meant call (InstanceCall m o k b args) w = entered P names limits.longest call (Some k) (with_this P names limits.longest call o (Some args)) w
  call_meant call (ConstructorCall m b args) w = constructed P names limits.longest call m (Some args) w

  -- what a call from outside comes to over this heap, these static numbers and this text, with so many units of fuel; its frame is the first
  abbrev pub call_tree : List Thing → List Prim → List ℕ → Call → ℕ → Told
  call_tree heap statics out c n = told (call_meant (entered_body P sources names limits.longest limits.deepest n 0) c (outer_world heap statics out n))

-- no allowed call over a whole heap, with any texts of strings, within any limits, with any text printed and any fuel, dereferences null
-- by its trees, or comes to what has no meaning
pub record SafeForCallersByTrees (P : Program) (sources : List Source) (s : List Qualifier) : Type 0 where
  pub never_null : (heap : List Thing) (statics : List Prim) (c : Call) → IsWhole P s heap statics → Allowed P s heap c → (names : List (List ℕ)) (limits : Limits) (out : List ℕ) (n : ℕ) (span : Span) → (call_tree P sources names limits heap statics out c n).end ≡ Null span → ⊥
  pub never_stuck : (heap : List Thing) (statics : List Prim) (c : Call) → IsWhole P s heap statics → Allowed P s heap c → (names : List (List ℕ)) (limits : Limits) (out : List ℕ) (n : ℕ) → (call_tree P sources names limits heap statics out c n).end ≡ Stuck → ⊥
