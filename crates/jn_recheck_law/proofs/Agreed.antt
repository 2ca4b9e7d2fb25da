-- Signatures that agree on slots have the same qualifiers there, of fields and of methods.
use Rattle.std.proofs.Common.{◌≡◌, ℕ, List, [], ◌∷◌, ◌++◌, Option, Some, None, refl, sym, ap, ◌∙◌}
use Rattle.jn_base.specs.declared.number.SlotNo.{SlotNo}
use Rattle.jn_quals.specs.Qualifier.{Qualifier}
use Rattle.jn_points.specs.declared.program.Field.{Field}
use Rattle.jn_points.specs.declared.program.Method.{Method}
use Rattle.jn_points.specs.declared.program.Program.{Program}
use Rattle.jn_points.specs.Lookup.{body_at, field_info, method_at, method_in, slots_of}
use Rattle.jn_sigs.specs.Signature.{field_qual, field_qual_of, receiver_of, result_of, slot_qual, slot_quals}
use Rattle.jn_transfer.specs.Contributions.{field_slot_of, receiver_slot_of, result_slot_of}
use Rattle.jn_recheck_law.specs.Alike.{SameDeclarations}
use Rattle.jn_recheck_law.specs.Slots.{Agree, slot_list, slot_lists}
use Rattle.jn_recheck_law.specs.RuleReads.{method_slots}
use Rattle.jn_recheck_law.specs.Reusable.{ActAlike}
use Rattle.jn_recheck_law.proofs.Seeing as see

module _ (s t : List Qualifier) where
  pub agree_left : (xs ys : List ℕ) → Agree s t (xs ++ ys) → Agree s t xs
  agree_left [] ys h = tt
  agree_left (x ∷ xs) ys h = (h.0, agree_left xs ys h.1)

  pub agree_right : (xs ys : List ℕ) → Agree s t (xs ++ ys) → Agree s t ys
  agree_right [] ys h = h
  agree_right (x ∷ xs) ys h = agree_right xs ys h.1

  pub slot_same : (x : Option SlotNo) → Agree s t (slot_list x) → slot_qual s x ≡ slot_qual t x
  slot_same None h = refl
  slot_same (Some n) h = h.0

  pub slots_same : (xs : List (Option SlotNo)) → Agree s t (slot_lists xs) → slot_quals s xs ≡ slot_quals t xs
  slots_same [] h = refl
  slots_same (x ∷ xs) h = (λ i. slot_same x (agree_left (slot_list x) (slot_lists xs) h) i ∷ slots_same xs (agree_right (slot_list x) (slot_lists xs) h) i)

  -- receiver, parameters and result of a method
  pub agree_receiver : (m : Option Method) → Agree s t (method_slots m) → Agree s t (slot_list (receiver_slot_of m))
  agree_receiver m h = agree_left (slot_list (receiver_slot_of m)) (slot_lists (slots_of m) ++ slot_list (result_slot_of m)) h

  pub agree_params : (m : Option Method) → Agree s t (method_slots m) → Agree s t (slot_lists (slots_of m))
  agree_params m h = agree_left (slot_lists (slots_of m)) (slot_list (result_slot_of m)) (agree_right (slot_list (receiver_slot_of m)) (slot_lists (slots_of m) ++ slot_list (result_slot_of m)) h)

  pub agree_result : (m : Option Method) → Agree s t (method_slots m) → Agree s t (slot_list (result_slot_of m))
  agree_result m h = agree_right (slot_lists (slots_of m)) (slot_list (result_slot_of m)) (agree_right (slot_list (receiver_slot_of m)) (slot_lists (slots_of m) ++ slot_list (result_slot_of m)) h)

-- a qualifier is that of its slot
pub field_is : (s : List Qualifier) (o : Option Field) → field_qual_of s o ≡ slot_qual s (field_slot_of o)
field_is s None = refl
field_is s (Some f) = refl

pub result_is : (s : List Qualifier) (o : Option Method) → result_of s o ≡ slot_qual s (result_slot_of o)
result_is s None = refl
result_is s (Some m) = refl

pub receiver_is : (s : List Qualifier) (o : Option Method) → receiver_of s o ≡ slot_qual s (receiver_slot_of o)
receiver_is s None = refl
receiver_is s (Some m) = refl

module _ (names more : List (List ℕ)) (P Q : Program) (s t : List Qualifier) (d : SameDeclarations names more P Q) where
  pub field_qual_same : (f : ℕ) → Agree s t (slot_list (field_slot_of (field_info Q f))) → field_qual P s f ≡ field_qual Q t f
  field_qual_same f h = field_is s (field_info P f) ∙ ap (slot_qual s) (see.field_slot_seen names more P Q d f) ∙ slot_same s t (field_slot_of (field_info Q f)) h ∙ sym (field_is t (field_info Q f))

  pub result_same : (m : ℕ) → Agree s t (slot_list (result_slot_of (method_at Q m))) → result_of s (method_at P m) ≡ result_of t (method_at Q m)
  result_same m h = result_is s (method_at P m) ∙ ap (slot_qual s) (see.result_slot_seen names more P Q d m) ∙ slot_same s t (result_slot_of (method_at Q m)) h ∙ sym (result_is t (method_at Q m))

  pub receiver_same : (m : ℕ) → Agree s t (slot_list (receiver_slot_of (method_at Q m))) → receiver_of s (method_at P m) ≡ receiver_of t (method_at Q m)
  receiver_same m h = receiver_is s (method_at P m) ∙ ap (slot_qual s) (see.receiver_slot_seen names more P Q d m) ∙ slot_same s t (receiver_slot_of (method_at Q m)) h ∙ sym (receiver_is t (method_at Q m))

  pub params_same : (m : ℕ) → Agree s t (slot_lists (slots_of (method_at Q m))) → slot_quals s (slots_of (method_at P m)) ≡ slot_quals t (slots_of (method_at Q m))
  params_same m h = ap (slot_quals s) (see.slots_seen names more P Q d m) ∙ slots_same s t (slots_of (method_at Q m)) h

  -- of a body's own method
  module _ (b : ℕ) (same : ActAlike (body_at P b) (body_at Q b)) where
    pub given_receiver : Agree s t (slot_list (receiver_slot_of (method_in Q b))) → receiver_of s (method_in P b) ≡ receiver_of t (method_in Q b)
    given_receiver h = receiver_is s (method_in P b) ∙ ap (slot_qual s) (see.given_receiver_seen names more P Q d b same) ∙ slot_same s t (receiver_slot_of (method_in Q b)) h ∙ sym (receiver_is t (method_in Q b))

    pub given_params : Agree s t (slot_lists (slots_of (method_in Q b))) → slot_quals s (slots_of (method_in P b)) ≡ slot_quals t (slots_of (method_in Q b))
    given_params h = ap (slot_quals s) (see.given_slots_seen names more P Q d b same) ∙ slots_same s t (slots_of (method_in Q b)) h

    pub given_result : Agree s t (slot_list (result_slot_of (method_in Q b))) → result_of s (method_in P b) ≡ result_of t (method_in Q b)
    given_result h = result_is s (method_in P b) ∙ ap (slot_qual s) (see.given_result_seen names more P Q d b same) ∙ slot_same s t (result_slot_of (method_in Q b)) h ∙ sym (result_is t (method_in Q b))
