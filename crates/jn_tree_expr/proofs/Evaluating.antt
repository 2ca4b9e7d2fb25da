-- Operands one after the other, and what stands before arguments.
use Rattle.std.proofs.Common.{◌≡◌, ℕ, List, [], ◌∷◌, ◌++◌, Option, Some, None, refl, sym, ap, append_assoc}
use Rattle.std.specs.Prelude.{MatchOption, true}
use Rattle.jn_base.specs.declared.number.MethodNo.{MethodNo}
use Rattle.jn_base.specs.declared.place.Span.{Span}
use Rattle.jn_heap.specs.Values.{Value, At, usual_limits}
use Rattle.jn_lowering.specs.Scopes.{Callee, Println, OfText, ClassMethod, ObjectMethod, NoMethod}
use Rattle.jn_scopes.specs.declared.context.Callee as code
use Rattle.jn_scopes.specs.declared.context.Callee.TheVariants.{Println as PrintlnCallee, Text as TextCallee, Class as ClassCallee, Object as ObjectCallee, Nothing as NoCallee}
use Rattle.jn_scopes.specs.Views.{callee_of}
use Rattle.jn_machine.specs.Parts.{prepended}
use Rattle.jn_points.specs.declared.program.Program.{Program}
use Rattle.jn_meaning.specs.Worlds.{World, Result, Has, Stops, then_do}
use Rattle.jn_meaning.specs.Expressions.{Caller, dotted_call, with_this}
use Rattle.jn_tree_expr.specs.Meaning.{called_behind, has_receiver, number_of}
use Rattle.jn_tree_world.specs.declared.halt.Halt.{Halt}
use Rattle.jn_tree_world.specs.declared.halt.Halt.TheVariants.{Faulted, NullAt, FuelOut, TooDeep, Senseless, OutOfMemory}
use Rattle.jn_tree_world.specs.Outcomes.{IsStop}

pub front_none : (o : Option (List Value)) → prepended [] o ≡ o
front_none None = refl
front_none (Some vs) = refl

pub this_front : (P : Program) (names : List (List ℕ)) (longest : ℕ) (m : Caller) (o : ℕ) (vs : Option (List Value)) → prepended (At o ∷ []) vs ≡ with_this P names longest m o vs
this_front P names longest m o None = refl
this_front P names longest m o (Some vs) = refl

pub then_has : {A : Type 0} → (r : Result A) → r ≡ then_do r (λ x w. Has x w)
then_has (Has x w) = refl
then_has (Stops s out) = refl

pub one_more : (done : List (Option Value)) (x : Option Value) (r : Result (List (Option Value))) → then_do (then_do r (λ xs w. Has (x ∷ xs) w)) (λ xs w. Has (done ++ xs) w) ≡ then_do r (λ xs w. Has ((done ++ x ∷ []) ++ xs) w)
one_more done x (Has xs w) = ap (λ l. Has l w) (sym (append_assoc done (x ∷ []) xs))
one_more done x (Stops s out) = refl

pub next_operand : (done : List (Option Value)) (x : Option Value) (v : World → Result (Option Value)) (rest : World → Result (List (Option Value))) (w mid : World) → v w ≡ Has x mid → then_do (then_do (v w) (λ x w. then_do (rest w) (λ xs w. Has (x ∷ xs) w))) (λ xs w. Has (done ++ xs) w) ≡ then_do (rest mid) (λ xs w. Has ((done ++ x ∷ []) ++ xs) w)
next_operand done x v rest w mid is = rw is (one_more done x (rest mid))

-- the number of a method that was found
pub numbered : (r : Option MethodNo) (x : Option ℕ) → MatchOption r (x ≡ None) (λ k. x ≡ Some k.0) → number_of r ≡ x
numbered None x is = sym is
numbered (Some k) x is = sym is

-- a call with a dot that has a receiver
pub receives : (P : Program) (names : List (List ℕ)) (m : Caller) (k : Callee) (span at : Span) (v : World → Result (Option Value)) (args : World → Result (List (Option Value))) (w : World) → has_receiver k ≡ true → dotted_call P names usual_limits.longest m k span at v args w ≡ then_do (v w) (λ x w. then_do (args w) (λ xs w. called_behind P names m k span at x xs w))
receives P names m Println span at v args w is = absurd (cc)
receives P names m (OfText op) span at v args w is = refl
receives P names m (ClassMethod k) span at v args w is = absurd (cc)
receives P names m (ObjectMethod k) span at v args w is = refl
receives P names m NoMethod span at v args w is = refl

-- what is there doesn't stop, unless memory is wanting
pub never_stops : {A B : Type 0} → (h : Halt) (x : A) (w : World) (out : List ℕ) (r : Result B) (said : List ℕ) → IsStop h (Has x w) out → IsStop h r said
never_stops (Faulted e span) x w out r said is = absurd (cc)
never_stops (NullAt span) x w out r said is = absurd (cc)
never_stops FuelOut x w out r said is = absurd (cc)
never_stops TooDeep x w out r said is = absurd (cc)
never_stops Senseless x w out r said is = absurd (cc)
never_stops OutOfMemory x w out r said is = tt

pub same_value : {A : Type 0} → (x y : A) (v w : World) → Has x v ≡ Has y w → x ≡ y
same_value x y v w is = cc

-- what is neither println nor a class's method has a receiver
pub has_other : (k : code.Callee) → (k ≡ PrintlnCallee → ⊥) → ((m : MethodNo) → k ≡ ClassCallee m → ⊥) → has_receiver (callee_of k) ≡ true
has_other PrintlnCallee p q = absurd (p refl)
has_other (ClassCallee m) p q = absurd (q m refl)
has_other (TextCallee op) p q = refl
has_other (ObjectCallee m) p q = refl
has_other NoCallee p q = refl
