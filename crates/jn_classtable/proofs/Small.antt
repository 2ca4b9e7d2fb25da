-- Where little is declared, numbers of 32 bits are enough.
use Rattle.std.proofs.Common.{◌≡◌, ◌<◌, ◌≤◌, ◌+◌, ◌^◌, ℕ, zero, suc, Bool, true, false, cond, List, [], ◌∷◌, ◌++◌, length, Option, Some, None, refl, ap, ◌∙◌, arith, length-append}
use Rattle.std.specs.Prelude.{slice_get}
use Rattle.std.proofs.lemmas.List.{length-map}
use Rattle.jn_points.specs.declared.program.Method.{Method}
use Rattle.jn_points.specs.declared.program.SlotInfo.{SlotInfo}
use Rattle.jn_heads.specs.declared.head.FieldHead.{FieldHead}
use Rattle.jn_heads.specs.declared.head.ParamHead.{ParamHead}
use Rattle.jn_heads.specs.declared.head.MethodHead.{MethodHead}
use Rattle.jn_heads.specs.declared.head.ClassHead.{ClassHead}
use Rattle.jn_heads.specs.declared.head.TypeHead.{TypeHead}
use Rattle.jn_heads.specs.Heads.{all_heads}
use Rattle.jn_heads.specs.Types.{base_of, is_position, has_receiver, field_slots, value_slots, result_slots, receiver_slots, params_slots, method_slots, fields_slots, methods_slots, class_slots, slots_of_all}
use Rattle.jn_classtable.specs.Table.{count, bodies_of, bodies_of_all, fields_of, fields_from, methods_of, methods_from, table}
use Rattle.jn_classtable.specs.Items.{methods_items, items, IsSmall}
use Rattle.jn_classtable.specs.Built.{SmallTable}
use Rattle.jn_classtable.proofs.Numbering.{MethodFrom, methods_from_at}

one : (b : Bool) (x : SlotInfo) → length (cond b (x ∷ []) []) ≤ 1
one true x = omega arith
one false x = omega arith

one_body : (b : Bool) → count b ≤ 1
one_body true = omega arith
one_body false = omega arith

few_bodies : (ms : List MethodHead) → bodies_of ms ≤ methods_items ms
few_bodies [] = omega arith
few_bodies (m ∷ ms) =
    let a : count m.has_body ≤ 1 = one_body m.has_body in
    let b : bodies_of ms ≤ methods_items ms = few_bodies ms in
    omega arith

few_all_bodies : (hs : List ClassHead) → bodies_of_all hs ≤ items hs
few_all_bodies [] = omega arith
few_all_bodies (h ∷ hs) =
    let a : bodies_of h.methods ≤ methods_items h.methods = few_bodies h.methods in
    let b : bodies_of_all hs ≤ items hs = few_all_bodies hs in
    omega arith

few_heads : (hs : List ClassHead) → length hs ≤ items hs
few_heads [] = omega arith
few_heads (h ∷ hs) = let a : length hs ≤ items hs = few_heads hs in omega arith

-- the parameters of one method
few_in_methods : (ms : List MethodHead) (j : ℕ) (m : MethodHead) → slice_get ms j ≡ Some m → length m.params ≤ methods_items ms
few_in_methods [] j m at = cc
few_in_methods (x ∷ ms) zero m at = let e : x ≡ m = cc in let n : length x.params ≡ length m.params = ap (λ (y : MethodHead). length y.params) e in omega arith
few_in_methods (x ∷ ms) (suc j) m at = let a : length m.params ≤ methods_items ms = few_in_methods ms j m at in omega arith

few_params : (hs : List ClassHead) (k j : ℕ) (h : ClassHead) (m : MethodHead) → slice_get hs k ≡ Some h → slice_get h.methods j ≡ Some m → length m.params ≤ items hs
few_params [] k j h m there at = cc
few_params (x ∷ hs) zero j h m there at =
    let e : x ≡ h = cc in
    let n : methods_items x.methods ≡ methods_items h.methods = ap (λ (y : ClassHead). methods_items y.methods) e in
    let a : length m.params ≤ methods_items h.methods = few_in_methods h.methods j m at in
    omega arith
few_params (x ∷ hs) (suc k) j h m there at = let a : length m.params ≤ items hs = few_params hs k j h m there at in omega arith

module _ (all : List ClassHead) where
  few_field_slots : (fs : List FieldHead) → length (fields_slots all fs) ≤ length fs
  few_field_slots [] = omega arith
  few_field_slots (f ∷ fs) =
      let a : length (field_slots all f) ≤ 1 = one (is_position all f.kind) _ in
      let b : length (fields_slots all fs) ≤ length fs = few_field_slots fs in
      let n : length (field_slots all f ++ fields_slots all fs) ≡ length (field_slots all f) + length (fields_slots all fs) = length-append (field_slots all f) (fields_slots all fs) in
      omega arith

  few_param_slots : (p : Bool) (ps : List ParamHead) → length (params_slots all p ps) ≤ length ps
  few_param_slots p [] = omega arith
  few_param_slots p (x ∷ ps) =
      let a : length (value_slots all p x.kind) ≤ 1 = one (is_position all x.kind) _ in
      let b : length (params_slots all p ps) ≤ length ps = few_param_slots p ps in
      let n : length (value_slots all p x.kind ++ params_slots all p ps) ≡ length (value_slots all p x.kind) + length (params_slots all p ps) = length-append (value_slots all p x.kind) (params_slots all p ps) in
      omega arith

  few_result_slots : (p : Bool) (o : Option TypeHead) → length (result_slots all p o) ≤ 1
  few_result_slots p None = omega arith
  few_result_slots p (Some t) = one (is_position all t) _

  few_method_slots : (m : MethodHead) → length (method_slots all m) ≤ length m.params + 2
  few_method_slots m =
      let a : length (receiver_slots m) ≤ 1 = one (has_receiver m) _ in
      let b : length (params_slots all m.is_private m.params) ≤ length m.params = few_param_slots m.is_private m.params in
      let c : length (result_slots all m.is_private m.result) ≤ 1 = few_result_slots m.is_private m.result in
      let n : length (method_slots all m) ≡ length (receiver_slots m) + length (params_slots all m.is_private m.params ++ result_slots all m.is_private m.result) = length-append (receiver_slots m) (params_slots all m.is_private m.params ++ result_slots all m.is_private m.result) in
      let k : length (params_slots all m.is_private m.params ++ result_slots all m.is_private m.result) ≡ length (params_slots all m.is_private m.params) + length (result_slots all m.is_private m.result) = length-append (params_slots all m.is_private m.params) (result_slots all m.is_private m.result) in
      omega arith

  few_methods_slots : (ms : List MethodHead) → length (methods_slots all ms) ≤ methods_items ms
  few_methods_slots [] = omega arith
  few_methods_slots (m ∷ ms) =
      let a : length (method_slots all m) ≤ length m.params + 2 = few_method_slots m in
      let b : length (methods_slots all ms) ≤ methods_items ms = few_methods_slots ms in
      let n : length (method_slots all m ++ methods_slots all ms) ≡ length (method_slots all m) + length (methods_slots all ms) = length-append (method_slots all m) (methods_slots all ms) in
      omega arith

  few_slots : (hs : List ClassHead) → length (slots_of_all all hs) ≤ items hs
  few_slots [] = omega arith
  few_slots (h ∷ hs) =
      let a : length (fields_slots all h.fields) ≤ length h.fields = few_field_slots h.fields in
      let b : length (methods_slots all h.methods) ≤ methods_items h.methods = few_methods_slots h.methods in
      let c : length (slots_of_all all hs) ≤ items hs = few_slots hs in
      let n : length (class_slots all h) ≡ length (fields_slots all h.fields) + length (methods_slots all h.methods) = length-append (fields_slots all h.fields) (methods_slots all h.methods) in
      let k : length (slots_of_all all (h ∷ hs)) ≡ length (class_slots all h) + length (slots_of_all all hs) = length-append (class_slots all h) (slots_of_all all hs) in
      omega arith

  as_many_fields : (c s : ℕ) (fs : List FieldHead) → length (fields_of all c s fs) ≡ length fs
  as_many_fields c s [] = refl
  as_many_fields c s (f ∷ fs) = ap suc (as_many_fields c (s + length (field_slots all f)) fs)

  few_fields : (c s : ℕ) (hs : List ClassHead) → length (fields_from all c s hs) ≤ items hs
  few_fields c s [] = omega arith
  few_fields c s (h ∷ hs) =
      let a : length (fields_of all c s h.fields) ≡ length h.fields = as_many_fields c s h.fields in
      let b : length (fields_from all (suc c) (s + length (class_slots all h)) hs) ≤ items hs = few_fields (suc c) (s + length (class_slots all h)) hs in
      let n : length (fields_from all c s (h ∷ hs)) ≡ length (fields_of all c s h.fields) + length (fields_from all (suc c) (s + length (class_slots all h)) hs) = length-append (fields_of all c s h.fields) (fields_from all (suc c) (s + length (class_slots all h)) hs) in
      omega arith

  few_methods_of : (c s b : ℕ) (ms : List MethodHead) → length (methods_of all c s b ms) ≤ methods_items ms
  few_methods_of c s b [] = omega arith
  few_methods_of c s b (m ∷ ms) =
      let a : length (methods_of all c (s + length (method_slots all m)) (b + count m.has_body) ms) ≤ methods_items ms = few_methods_of c (s + length (method_slots all m)) (b + count m.has_body) ms in
      omega arith

  few_methods : (c s b : ℕ) (hs : List ClassHead) → length (methods_from all c s b hs) ≤ items hs
  few_methods c s b [] = omega arith
  few_methods c s b (h ∷ hs) =
      let own = methods_of all c (s + length (fields_slots all h.fields)) b h.methods in
      let rest = methods_from all (suc c) (s + length (class_slots all h)) (b + bodies_of h.methods) hs in
      let a : length own ≤ methods_items h.methods = few_methods_of c (s + length (fields_slots all h.fields)) b h.methods in
      let d : length rest ≤ items hs = few_methods (suc c) (s + length (class_slots all h)) (b + bodies_of h.methods) hs in
      let n : length (own ++ rest) ≡ length own + length rest = length-append own rest in
      omega arith

-- Object has a constructor, String nothing
with_known : (hs : List ClassHead) → items (all_heads hs) ≡ 5 + items hs
with_known hs = omega arith

pub small_table : (hs : List ClassHead) → IsSmall hs → SmallTable hs
small_table hs small =
    let k : items (all_heads hs) ≡ 5 + items hs = with_known hs in
    let n : length hs ≤ items hs = few_heads hs in
    let s : length (slots_of_all hs (all_heads hs)) ≤ items (all_heads hs) = few_slots hs (all_heads hs) in
    let b : bodies_of_all (all_heads hs) ≤ items (all_heads hs) = few_all_bodies (all_heads hs) in
    let f : length (table hs).fields ≤ items (all_heads hs) = few_fields hs 0 0 (all_heads hs) in
    let m : length (table hs).methods ≤ items (all_heads hs) = few_methods hs 0 0 0 (all_heads hs) in
    record {
      heads = omega arith;
      slots = omega arith;
      bodies = omega arith;
      fields = omega arith;
      methods = omega arith;
      params = λ i x at. params_few i x (methods_from_at hs 0 0 0 (all_heads hs) i x at);
    }
  where
    params_few : (i : ℕ) (x : Method) → MethodFrom hs 0 0 0 (all_heads hs) x → length x.params < 2 ^ 32
    params_few i x r =
        let k : items (all_heads hs) ≡ 5 + items hs = with_known hs in
        let p : length r.method.head.params ≤ items (all_heads hs) = few_params (all_heads hs) r.k r.method.j r.class r.method.head r.there r.method.among in
        let e : length x.params ≡ length r.method.head.params = ap (λ (y : Method). length y.params) r.method.is ∙ length-map r.method.head.params (λ (p : ParamHead). base_of hs p.kind) in
        omega arith
