-- A program in which each slot is written is solved by what is written.
use Rattle.std.proofs.Common.{◌≡◌, ℕ, ◌+◌, Bool, true, false, not, cond, ◌&&◌, ◌||◌, List, [], ◌∷◌, ◌++◌, Option, Some, None, refl, sym, ap, ◌∙◌, subst}
use Rattle.std.specs.Prelude.{flat_map, map, IsTrue, slice_get, slice_index_or, option_map}
use Rattle.std.proofs.lemmas.Option.{slice_get-map}
use Rattle.jn_base.specs.declared.number.SlotNo.{SlotNo}
use Rattle.jn_quals.specs.Qualifier.{Qualifier}
use Rattle.jn_quals.specs.Order.{no_qual, without_null}
use Rattle.jn_points.specs.declared.point.Operand.{Operand}
use Rattle.jn_points.specs.declared.program.Program.{Program}
use Rattle.jn_points.specs.declared.program.Method.{Method}
use Rattle.jn_points.specs.Lookup.{slots_of, field_info, method_at, method_in}
use Rattle.jn_sigs.specs.Signature.{starts_from, start_signature}
use Rattle.jn_env.specs.Environment.{Env}
use Rattle.jn_env.specs.Order.{QualsWithin, qual_at}
use Rattle.jn_transfer.specs.Contributions.{is_inferred, IsSent, field_slot_of, receiver_slot_of, result_slot_of, sends, arg_sends, receiver_sends, return_sends, kind_sends}
use Rattle.jn_transfer.specs.Pairs.{under, slot_sends, slots_sends, override_sends, pair_sends}
use Rattle.jn_transfer.specs.Closing.{IsClosed, IsNotBelowStart}
use Rattle.jn_places_law.specs.Written.{written_slot, IsWritten}
use Rattle.jn_places_law.proofs.Sent.{Each, HoldsOfSends, each_sent, points_send}

starts_written : (P : Program) (i : ℕ) (s : List Qualifier) → starts_from P i (map written_slot s) ≡ s
starts_written P i [] = refl
starts_written P i (q ∷ qs) = ap (λ x. q ∷ x) (starts_written P (i + 1) qs)

within_all : (s : List Qualifier) → QualsWithin s s
within_all [] = tt
within_all (q ∷ qs) = (self q.null q.committed q.free, within_all qs)
  where
    self : (a b c : Bool) → IsTrue ((not a || a) && (not b || b) && (not c || c))
    self true true true = refl
    self true true false = refl
    self true false true = refl
    self true false false = refl
    self false true true = refl
    self false true false = refl
    self false false true = refl
    self false false false = refl

none_inferred : (s : List Qualifier) (i : ℕ) → is_inferred (slice_get (map written_slot s) i) ≡ false
none_inferred s i = ap is_inferred (slice_get-map written_slot s i) ∙ here (slice_get s i)
  where
    here : (q : Option Qualifier) → is_inferred (option_map written_slot q) ≡ false
    here None = refl
    here (Some q) = refl

module _ (P : Program) (s : List Qualifier) (h : IsWritten P s) where
  pub start_is : start_signature P ≡ s
  start_is = ap (starts_from P 0) h ∙ starts_written P 0 s

  -- nothing is sent

  sends_none : (slot : Option SlotNo) (q : Qualifier) → sends P slot q ≡ []
  sends_none None q = refl
  sends_none (Some n) q = ap (λ b. cond b ((n.0, q) ∷ []) []) (ap (λ l. is_inferred (slice_get l n.0)) h ∙ none_inferred s n.0)

  nothing_more : (xs ys : List (ℕ × Qualifier)) → xs ≡ [] → ys ≡ [] → xs ++ ys ≡ []
  nothing_more xs ys a b = ap (λ x. x ++ ys) a ∙ b

  args_none : (e : Env) (xs : List (Option SlotNo)) (args : List Operand) → arg_sends P e xs args ≡ []
  args_none e [] args = refl
  args_none e (x ∷ xs) [] = refl
  args_none e (x ∷ xs) (a ∷ args) = nothing_more (sends P x (qual_at e a.reg.0)) (arg_sends P e xs args) (sends_none x (qual_at e a.reg.0)) (args_none e xs args)

  receiver_none : (e : Env) (slot : Option SlotNo) (r : Option Operand) → receiver_sends P e slot r ≡ []
  receiver_none e slot None = refl
  receiver_none e slot (Some r) = sends_none slot (without_null (qual_at e r.reg.0))

  return_none : (e : Env) (slot : Option SlotNo) (v : Option Operand) → return_sends P e slot v ≡ []
  return_none e slot None = refl
  return_none e slot (Some v) = sends_none slot (qual_at e v.reg.0)

  -- where nothing is sent, anything holds of it
  of_none : (F : ℕ × Qualifier → Type 0) (xs : List (ℕ × Qualifier)) → xs ≡ [] → Each F xs
  of_none F xs e = subst (Each F) (sym e) tt

  abbrev Never : ℕ × Qualifier → Type 0
  Never x = ⊥

  none_of_points : HoldsOfSends P Never
  none_of_points = record {
    fields = λ f q e. of_none Never (sends P (field_slot_of (field_info P f)) q) (sends_none (field_slot_of (field_info P f)) q);
    parameters = λ m e args. of_none Never (arg_sends P e (slots_of (method_at P m)) args) (args_none e (slots_of (method_at P m)) args);
    receivers = λ m e r. of_none Never (receiver_sends P e (receiver_slot_of (method_at P m)) r) (receiver_none e (receiver_slot_of (method_at P m)) r);
    results = λ b e v. of_none Never (return_sends P e (result_slot_of (method_in P b)) v) (return_none e (result_slot_of (method_in P b)) v);
  }

  -- nor by overriding methods

  slot_none : (t : List Qualifier) (from to : Option SlotNo) → slot_sends P t from to ≡ []
  slot_none t None to = refl
  slot_none t (Some n) to = sends_none to (slice_index_or t n.0 no_qual)

  slots_none : (t : List Qualifier) (from to : List (Option SlotNo)) → slots_sends P t from to ≡ []
  slots_none t [] to = refl
  slots_none t (x ∷ xs) [] = refl
  slots_none t (x ∷ xs) (y ∷ ys) = nothing_more (slot_sends P t x y) (slots_sends P t xs ys) (slot_none t x y) (slots_none t xs ys)

  override_none : (t : List Qualifier) (over lower : Option Method) → override_sends P t over lower ≡ []
  override_none t over lower =
      nothing_more (slots_sends P t (slots_of lower) (slots_of over) ++ slot_sends P t (receiver_slot_of lower) (receiver_slot_of over)) (slot_sends P t (result_slot_of over) (result_slot_of lower))
      (nothing_more (slots_sends P t (slots_of lower) (slots_of over)) (slot_sends P t (receiver_slot_of lower) (receiver_slot_of over)) (slots_none t (slots_of lower) (slots_of over)) (slot_none t (receiver_slot_of lower) (receiver_slot_of over)))
      (slot_none t (result_slot_of over) (result_slot_of lower))

  all_none : (f : ℕ → List (ℕ × Qualifier)) (ks : List ℕ) → ((k : ℕ) → f k ≡ []) → flat_map f ks ≡ []
  all_none f [] h = refl
  all_none f (k ∷ ks) h = nothing_more (f k) (flat_map f ks) (h k) (all_none f ks h)

  pair_none : (t : List Qualifier) (m : ℕ) → pair_sends P t m ≡ []
  pair_none t m = all_none (λ k. override_sends P t (method_at P m) (method_at P k)) (under P m) (λ k. override_none t (method_at P m) (method_at P k))

  pub closed : (t : List Qualifier) → IsClosed P t
  closed t = record {
    bodies = λ tables least b p pt e at env x sent. absurd (each_sent Never (kind_sends P b e pt.kind) x (points_send P Never none_of_points b e pt.kind) sent);
    pairs = λ m x sent. absurd (subst (IsSent x) (pair_none t m) sent);
  }

  pub not_below : IsNotBelowStart P s
  not_below = subst (λ x. QualsWithin x s) (sym start_is) (within_all s)

  pub below_others : (t : List Qualifier) → IsNotBelowStart P t → QualsWithin s t
  below_others t n = subst (λ x. QualsWithin x t) start_is n
