-- Steps of the loops over registers and operands, and elements that are stored.
use Rattle.std.proofs.Common.{◌≡◌, ℕ, zero, suc, ◌+◌, ◌-◌, ◌<◌, ◌++◌, ◌∷◌, [], drop, length, List, Option, Some, None, refl, sym, ap, ◌∙◌, arith, append_assoc, length-drop}
use Rattle.std.specs.Prelude.{option_to_list, slice_get, slice_set}
use Rattle.jn_points.specs.declared.program.Program.{Program}
use Rattle.jn_heap.specs.Values.{Value, Thing, Object, Elems, Got}
use Rattle.jn_heap.specs.State.{State, Goes, Ends, moves_to, gather_more}
use Rattle.jn_heap.specs.Steps.{put_thing, store_in}
use Rattle.jn_heap.specs.Calls.{pad}
use Rattle.jn_machine.specs.declared.prim.Got.{Got as Answer}
use Rattle.jn_machine.specs.declared.prim.Got.TheVariants.{Gives as IsGiven, Fails as HasFailed, Lacks as HasNone}
use Rattle.jn_machine.specs.Ends.{end_of}
use Rattle.jn_machine.specs.Parts.{IsKept, prepended, put_answer, put_next, store_as, may_hold_in}

pad_front : (o : Option Value) (old new : List Value) (n : ℕ) → old ≡ option_to_list o ++ new → new ≡ drop 1 old → pad old (suc n) ≡ o ∷ pad new n
pad_front (Some v) old new n e r = rw e refl
pad_front None [] new n e r = rw (← e) refl
pad_front None (x ∷ xs) new n e r = absurd (omega (arith, ap length (e ∙ r), length-drop 1 (x ∷ xs)))

pub prepended_more : (front : List Value) (v : Value) (rest : Option (List Value)) → prepended front (gather_more (Some v) rest) ≡ prepended (front ++ v ∷ []) rest
prepended_more front v None = refl
prepended_more front v (Some vs) = ap Some (sym (append_assoc front (v ∷ []) vs))

pub store_is : (P : Program) (heap : List Thing) (x : Option Thing) (i : Option ℕ) (v : Value) → store_in P heap x i v ≡ store_as x i v (may_hold_in P heap x v)
store_is P heap None i v = refl
store_is P heap (Some (Object c fields)) i v = refl
store_is P heap (Some (Elems b items)) None v = refl
store_is P heap (Some (Elems b items)) (Some i) v = refl

pub pad_next : (o : Option Value) (old new : List Value) (count i : ℕ) → i < count → old ≡ option_to_list o ++ new → new ≡ drop 1 old → pad old (count - i) ≡ o ∷ pad new (count - (i + 1))
pad_next o old new count i lt e r = let k : count - i ≡ suc (count - (i + 1)) = omega arith in rw k (pad_front o old new (count - (i + 1)) e r)

set_same : (heap : List Thing) (o : ℕ) (x : Thing) → slice_get heap o ≡ Some x → slice_set heap o x ≡ heap
set_same [] o x is = refl
set_same (y ∷ ys) zero x is = let same : x ≡ y = cc in ap (λ z. z ∷ ys) same
set_same (y ∷ ys) (suc o) x is = ap (λ l. y ∷ l) (set_same ys o x is)

-- a write into a thing of the heap, which stays as it is where the write failed
pub put_is : {A : Type 0} → (heap : List Thing) (o : ℕ) (old new : Thing) (got : Got Thing) (done : Answer A) → slice_get heap o ≡ Some old → got ≡ put_answer done new → IsKept done old new → (st : State) → st.heap ≡ heap → put_thing st o got ≡ put_next done st (slice_set heap o new)
put_is heap o old new got (IsGiven d) there is kept st h = rw is (ap (λ l. Goes (record st { heap = slice_set l o new; top = moves_to st.top (st.top.at + 1) })) h)
put_is heap o old new got (HasFailed e) there is kept st h = rw is (ap (λ l. Ends (end_of e) (record st { heap = l })) (h ∙ sym (ap (slice_set heap o) kept ∙ set_same heap o old there)))
put_is heap o old new got HasNone there is kept st h = rw is refl
