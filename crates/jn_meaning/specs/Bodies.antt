-- What a body does (JLS 8, 8.8.7 and 12.5), calls within each other, and what a main means: an end and a text.
use Rattle.std.specs.Prelude.{ℕ, zero, suc, ◌+◌, Bool, true, false, cond, ltb, List, [], ◌∷◌, length, Option, Some, None, slice_get}
use Rattle.jn_base.specs.declared.place.Span.{Span}
use Rattle.jn_points.specs.declared.program.Program.{Program}
use Rattle.jn_points.specs.BaseTyping.{given_bases}
use Rattle.jn_points.specs.Lookup.{body_of, class_info, ctor_of, method_at, parent_of}
use Rattle.jn_points.specs.Members.{constructor_of, declared_field}
use Rattle.jn_places.specs.Placed.{PlacedTree, PlacedTrees, NoPlacedTrees, PlacedDeclarator, PlacedMember, PlacedParameter, PlacedStatements, PlacedThisCall, PlacedSuperCallStatement, MorePlacedStatements}
use Rattle.jn_lowering.specs.Scopes.{Scope, count}
use Rattle.jn_lowering.specs.Calls.{is_static}
use Rattle.jn_lowering.specs.Expressions.{span_of}
use Rattle.jn_lowering.specs.Statements.{through}
use Rattle.jn_lowering.specs.Bodies.{Source, at_entry, calls_own, class, declarators_of, is_under_object, local_count, parent}
use Rattle.jn_heap.specs.Values.{Prim, Value, At, Thing, Elems, End, Done, Arithmetic, Index, NegativeSize, ClassCast, ArrayStore, Deep as DeepEnd, Limits, Long, statics_of}
use Rattle.jn_heap.specs.State.{value_at}
use Rattle.jn_heap.specs.Calls.{pad}
use Rattle.jn_heap.specs.Runs.{texts, words_base}
use Rattle.jn_meaning.specs.Worlds.{World, Result, Has, Stops, Stop, Faulted, NullAt, FuelOut, TooDeep, Senseless, spent, then_do, with_locals}
use Rattle.jn_meaning.specs.Operations.{FieldPlace, all_there, write_place}
use Rattle.jn_meaning.specs.Expressions.{Caller, evaluated, meant}
use Rattle.jn_meaning.specs.Statements.{Flow, Onward, Returns, Standing, all_executed, in_turn}

-- what a body gives: a returned value, or none where it falls off its end
abbrev pub given : Flow → Option Value
given (Returns v) = v
given flow = None

module _ (P : Program) (names : List (List ℕ)) (longest : ℕ) (call : Caller) (turns : ℕ) (m : ℕ) where
  -- the call of a constructor of the class or its superclass, on `this` (JLS 8, 8.8.7.1)
  abbrev pub on_this : Option Value → Option (List Value) → ℕ → World → Result Flow
  on_this None vs k w = Stops Senseless w.out
  on_this (Some v) None k w = Stops Senseless w.out
  on_this (Some v) (Some vs) k w = then_do (call k (v ∷ vs) w) (λ x w. Has Onward w)

  -- the constructor of this number is called on `this` with these arguments; where there is none nothing is done
  abbrev pub called_ctor : Option ℕ → List (Option Value) → World → Result Flow
  called_ctor None xs w = Has Onward w
  called_ctor (Some k) xs w = on_this (value_at w.locals 0) (all_there xs) k w

  -- `this(..)` or `super(..)` (JLS 8, 8.8.7.1)
  abbrev pub ctor_call : Scope → ℕ → PlacedTrees → World → Result Flow
  ctor_call s k es w = then_do (evaluated P names longest call (class P m) s es w) (called_ctor (constructor_of P k (count es)))

  -- `super()` where neither is written; Object's is no entry (JLS 8, 8.8.7)
  abbrev pub unwritten_call : Scope → World → Result Flow
  unwritten_call s w = cond (is_under_object (parent_of (class_info P (class P m)))) (Has Onward w) (ctor_call s (parent P m) NoPlacedTrees w)

  -- the call of another constructor with which a constructor's body begins, written or not (JLS 8, 8.8.7)
  abbrev pub construction : Scope → PlacedStatements → World → Result Flow
  construction s (MorePlacedStatements (PlacedThisCall es span) xs) w = ctor_call s (class P m) es w
  construction s (MorePlacedStatements (PlacedSuperCallStatement es span) xs) w = ctor_call s (parent P m) es w
  construction s xs w = unwritten_call s w

  -- a field that isn't static gets its initializer's value, in which no parameter is in scope (JLS 8, 8.3.2)
  abbrev pub writes_field : Option ℕ → Span → PlacedTree → World → Result Flow
  writes_field None name e w = Has Onward w
  writes_field (Some f) name e w =
      cond (is_static P f) (Has Onward w)
      (then_do ((meant P names longest call (class P m) [] e).value w) (λ x w. then_do (write_place P (FieldPlace (value_at w.locals 0) name f) (through name (span_of e)) x w) (λ z w. Has Onward w)))

  -- an instance field gets its initializer's value, if an initializer is written (JLS 8, 12.5)
  abbrev pub initializes : Span → ℕ → Option PlacedTree → World → Result Flow
  initializes name n None w = Has Onward w
  initializes name n (Some e) w = writes_field (declared_field P (class P m) n (class P m)) name e w

  -- the instance fields of one declaration get their values from left to right (JLS 8, 12.5)
  abbrev pub initializers_of : List PlacedDeclarator → World → Result Flow
  initializers_of [] w = Has Onward w
  initializers_of (d ∷ ds) w = in_turn (initializes d.name.span d.name.name.0 d.value w) (initializers_of ds)

  -- a class's initializers in textual order (JLS 8, 12.5)
  abbrev pub initializers : List PlacedMember → World → Result Flow
  initializers [] w = Has Onward w
  initializers (x ∷ xs) w = in_turn (initializers_of (declarators_of x) w) (initializers xs)

  -- a constructor begins with another one's call, then come the initializers, unless that is one of its class (JLS 8, 12.5)
  abbrev pub begins : Bool → Scope → PlacedStatements → List PlacedMember → World → Result Flow
  begins false s xs members w = Has Onward w
  begins true s xs members w = in_turn (construction s xs w) (λ w. cond (calls_own xs) (Has Onward w) (initializers members w))

  -- the body of the method
  abbrev pub body : List PlacedParameter → PlacedStatements → List PlacedMember → World → Result Flow
  body parameters xs members w =
      let st : Standing = record { scope = (at_entry P m parameters).scope; count = length (given_bases P m) } in
      in_turn (begins (ctor_of (method_at P m)) st.scope xs members w) (all_executed P names longest call turns (class P m) st xs)

module _ (P : Program) (sources : List Source) (names : List (List ℕ)) (longest : ℕ) where
  -- the caller's locals come back
  abbrev pub left : List (Option Value) → Result Flow → Result (Option Value)
  left locals r = then_do r (λ flow w. Has (given flow) (with_locals w locals))

  -- the body of a source, in a frame of its own
  abbrev pub in_frame : Caller → ℕ → Option Source → ℕ → List Value → World → Result (Option Value)
  in_frame call turns None m vs w = Stops Senseless w.out
  in_frame call turns (Some s) m vs w = left w.locals (body P names longest call turns m s.parameters s.body s.members (with_locals w (pad vs (local_count P m s.body))))

  -- the source of body b
  abbrev pub source_of : Option ℕ → Option Source
  source_of None = None
  source_of (Some b) = slice_get sources b

  module _ (deepest : ℕ) where
    -- a method's body in a further frame, unless there are more than the most: that takes a unit of fuel. Calls within each other are at most as many as units of fuel
    abbrev pub entered : ℕ → ℕ → Caller
    entered zero frames m vs w = cond (ltb frames deepest) (Stops FuelOut w.out) (Stops TooDeep w.out)
    entered (suc turns) frames m vs w = cond (ltb frames deepest) (spent w (in_frame (entered turns (frames + 1)) turns (source_of (body_of (method_at P m))) m vs)) (Stops TooDeep w.out)

-- how a main, or another call from outside, ends over trees
pub data TreeEnd : Type 0 where
  Returned : TreeEnd
  Fault : (kind : End) (span : Span) → TreeEnd
  TooLong : TreeEnd
  Null : (span : Span) → TreeEnd
  Out : TreeEnd
  Deep : TreeEnd
  Stuck : TreeEnd

-- an end and the text printed
pub record Told : Type 0 where
  pub end : TreeEnd
  pub text : List ℕ

-- an exception of Java, or a limit
abbrev pub fault : End → Span → TreeEnd
fault Done span = Stuck
fault Arithmetic span = Fault Arithmetic span
fault Index span = Fault Index span
fault NegativeSize span = Fault NegativeSize span
fault ClassCast span = Fault ClassCast span
fault ArrayStore span = Fault ArrayStore span
fault DeepEnd span = Stuck
fault Long span = TooLong

-- how a call from outside ends where something stops it
abbrev pub end_of : Stop → TreeEnd
end_of (Faulted e span) = fault e span
end_of (NullAt span) = Null span
end_of FuelOut = Out
end_of TooDeep = Deep
end_of Senseless = Stuck

-- how a call from outside ends, with the text that was printed until then
abbrev pub told : Result (Option Value) → Told
told (Has v w) = record { end = Returned; text = w.out }
told (Stops stop out) = record { end = end_of stop; text = out }

-- the world in which a call from outside begins: this heap, these static numbers and this text printed
abbrev pub outer_world : List Thing → List Prim → List ℕ → ℕ → World
outer_world heap statics out n = record { heap = heap; statics = statics; out = out; locals = []; fuel = n }

module _ (P : Program) (sources : List Source) (names : List (List ℕ)) where
  -- an array of the words, static fields at their initializers, and nothing printed (JLS 8, 12.1.4)
  abbrev pub start_world : List (List ℕ) → ℕ → World
  start_world words n = outer_world (Elems words_base (texts words) ∷ []) (statics_of P.fields) [] n

  -- with at most the deepest limit's frames, and arrays and texts of at most the longest length
  module _ (limits : Limits) where
    -- a method's or constructor's body with these values, called from outside: its frame is the first
    abbrev pub called : ℕ → List Value → World → Told
    called m vs w = told (entered P sources names limits.longest limits.deepest w.fuel 0 m vs w)

    -- the main, with these words and so many units of fuel
    abbrev pub tree : ℕ → List (List ℕ) → ℕ → Told
    tree main words n = called main (At 0 ∷ []) (start_world words n)
