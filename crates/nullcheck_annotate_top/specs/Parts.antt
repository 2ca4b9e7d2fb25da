-- The part of a declaration that the cure of a fault names.
use Rattle.std.specs.Prelude.{ℕ, suc, Bool, cond, codes, eqb, List, [], ◌∷◌, Option, Some, None}
use Rattle.jn_base.specs.declared.number.SlotNo.{SlotNo}
use Rattle.jn_points.specs.declared.program.Field.{Field}
use Rattle.jn_points.specs.declared.program.Method.{Method}
use Rattle.jn_points.specs.declared.program.Program.{Program}
use Rattle.jn_points.specs.Members.{some_of}
use Rattle.jn_sigs.specs.Signature.{is_slot, method_has_slot}
use Rattle.nullcheck_annotate_top.specs.declared.parts.Part.{Part}
use Rattle.nullcheck_annotate_top.specs.declared.parts.Part.TheVariants.{OfField, Parameter, Receiver, Result}

-- the number of the first parameter whose slot is i, of those from number k on
abbrev pub parameter_with : ℕ → ℕ → List (Option SlotNo) → Option ℕ
parameter_with i k [] = None
parameter_with i k (slot ∷ slots) = cond (is_slot i slot) (Some k) (parameter_with i (suc k) slots)

-- that parameter, or else `this` where it has the slot, or else the result
abbrev pub part_by : Option ℕ → Bool → Part
part_by (Some k) receiver = Parameter k
part_by None receiver = cond receiver Receiver Result

-- the part of a method that has slot i
abbrev pub part_in : ℕ → Method → Part
part_in i m = part_by (parameter_with i 0 m.param_slots) (is_slot i m.receiver)

-- a field has slot i
abbrev pub is_of_field : ℕ → List Field → Bool
is_of_field i fields = some_of (λ (f : Field). is_slot i f.slot) fields

-- the part of the first method that has slot i
abbrev pub part_of_methods : ℕ → List Method → Option Part
part_of_methods i [] = None
part_of_methods i (m ∷ ms) = cond (method_has_slot i m) (Some (part_in i m)) (part_of_methods i ms)

-- the part of a declaration whose position slot i is; none of what is no slot
abbrev pub slot_part : Program → ℕ → Option Part
slot_part P i = cond (is_of_field i P.fields) (Some OfField) (part_of_methods i P.methods)

-- a parameter by its number from 0, in words
abbrev pub parameter_words : ℕ → List ℕ
parameter_words k = cond (eqb k 0) (codes "the first parameter") (cond (eqb k 1) (codes "the second parameter") (cond (eqb k 2) (codes "the third parameter") (codes "a later parameter")))

-- a part in words
abbrev pub part_words : Option Part → List ℕ
part_words None = codes "a position"
part_words (Some OfField) = codes "the field"
part_words (Some (Parameter k)) = parameter_words k
part_words (Some Receiver) = codes "`this`"
part_words (Some Result) = codes "the result"
