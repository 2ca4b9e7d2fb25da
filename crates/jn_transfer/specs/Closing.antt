-- When a signature fits the tasks of its program: its bodies, and its methods that override.
use Rattle.std.specs.Prelude.{ℕ, ◌≡◌, ◌<◌, IsTrue, true, false, List, [], length, Option, Some, None, slice_get, slice_index_or}
use Rattle.jn_base.specs.declared.number.SlotNo.{SlotNo}
use Rattle.jn_quals.specs.Qualifier.{Qualifier}
use Rattle.jn_quals.specs.Order.{no_qual, within}
use Rattle.jn_points.specs.declared.program.Method.{Method}
use Rattle.jn_points.specs.declared.program.Program.{Program}
use Rattle.jn_points.specs.Lookup.{slots_of, private_of, method_at}
use Rattle.jn_points.specs.Members.{is_pair}
use Rattle.jn_sigs.specs.Signature.{slot_qual, start_signature}
use Rattle.jn_transfer.specs.Contributions.{Closed, IsSent, is_inferred, receiver_slot_of, result_slot_of}
use Rattle.jn_env.specs.Environment.{Env}
use Rattle.jn_env.specs.Order.{QualsWithin}
use Rattle.jn_transfer.specs.Least.{IsLeastTable}
use Rattle.jn_transfer.specs.Pairs.{pair_sends}

module _ (P : Program) (s : List Qualifier) where
  -- what the bodies send under their least tables is within the signature
  abbrev pub IsClosedUnderBodies : Type 0
  IsClosedUnderBodies = (tables : List (List (Option Env))) → ((b : ℕ) → IsLeastTable P s b (slice_index_or tables b [])) → Closed P s tables

  -- what the bodies send under their least tables, and what methods that override send, is within the signature
  pub record IsClosed : Type 0 where
    pub bodies : IsClosedUnderBodies
    pub pairs : (m : ℕ) (x : ℕ × Qualifier) → IsSent x (pair_sends P s m) → IsTrue (within x.1 (slice_index_or s x.0 no_qual))

  -- there is a qualifier for each slot, and it has all with which the slot starts
  abbrev pub IsNotBelowStart : Type 0
  IsNotBelowStart = QualsWithin (start_signature P) s

module _ (P : Program) where
  -- the slot is there and inferred
  abbrev pub InferredAt : Option SlotNo → Type 0
  InferredAt None = ⊥
  InferredAt (Some n) = is_inferred (slice_get P.slots n.0) ≡ true

  -- nothing is sent, or into an inferred slot
  abbrev pub IsTarget : Option SlotNo → Option SlotNo → Type 0
  IsTarget None to = Unit {0}
  IsTarget (Some n) to = InferredAt to

  -- the parameters, receiver and result of a pair whose target is inferred fit
  pub record PairFits (s : List Qualifier) (over lower : Option Method) : Type 0 where
    pub params : (i : ℕ) → InferredAt (slice_index_or (slots_of over) i None) → IsTrue (within (slot_qual s (slice_index_or (slots_of lower) i None)) (slot_qual s (slice_index_or (slots_of over) i None)))
    pub receiver : InferredAt (receiver_slot_of over) → IsTrue (within (slot_qual s (receiver_slot_of lower)) (slot_qual s (receiver_slot_of over)))
    pub result : InferredAt (result_slot_of lower) → IsTrue (within (slot_qual s (result_slot_of over)) (slot_qual s (result_slot_of lower)))

  -- no slot into which a pair would send is inferred
  pub record HasNoTargets : Type 0 where
    pub params : (m k i : ℕ) → is_pair P m k ≡ true → InferredAt (slice_index_or (slots_of (method_at P m)) i None) → ⊥
    pub receiver : (m k : ℕ) → is_pair P m k ≡ true → InferredAt (receiver_slot_of (method_at P m)) → ⊥
    pub result : (m k : ℕ) → is_pair P m k ≡ true → InferredAt (result_slot_of (method_at P k)) → ⊥

  -- no method of a pair is private
  abbrev pub NoPrivatePairs : Type 0
  NoPrivatePairs = (m k : ℕ) → is_pair P m k ≡ true → (private_of (method_at P m) ≡ false) × (private_of (method_at P k) ≡ false)

  -- each slot into which the pair sends is inferred
  pub record AllTargetsInferred (over lower : Option Method) : Type 0 where
    pub params : (i : ℕ) → i < length (slots_of lower) → i < length (slots_of over) → IsTarget (slice_index_or (slots_of lower) i None) (slice_index_or (slots_of over) i None)
    pub receiver : IsTarget (receiver_slot_of lower) (receiver_slot_of over)
    pub result : IsTarget (result_slot_of over) (result_slot_of lower)
