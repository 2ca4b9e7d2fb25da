-- The methods of the class table, the constructors that they call, and the trees of their bodies.
use Rattle.std.proofs.Common.{◌≡◌, ◌+◌, ℕ, suc, true, false, List, [], ◌∷◌, length, map, Option, Some, None, refl, sym, ap, ◌∙◌, subst, eqb, arith}
use Rattle.std.specs.Prelude.{flat_map}
use Rattle.std.proofs.lemmas.Bool.{eq-eqb, or_left}
use Rattle.jn_points.specs.declared.program.Program.{Program}
use Rattle.jn_points.specs.Members.{constructor_of}
use Rattle.jn_places.specs.Placed.{PlacedType, PlacedFile, NoPlacedStatements}
use Rattle.jn_heads.specs.declared.head.MethodHead.{MethodHead}
use Rattle.jn_heads.specs.declared.head.ClassHead.{ClassHead}
use Rattle.jn_heads.specs.Heads.{all_heads}
use Rattle.jn_heads.specs.Types.{fields_slots, class_slots, method_slots}
use Rattle.jn_classtable.specs.Table.{body_at, bodies_of, bodies_of_all, count, method_of, methods_of, methods_from, table}
use Rattle.jn_classtable.specs.Rows.{found_number, called_with, called_of, called_from}
use Rattle.jn_heads.specs.Extract.{class_head, heads}
use Rattle.jn_declaration_rules.proofs.Tests.{member}
use Rattle.jn_lowering.specs.Bodies.{own_arity}
use Rattle.jn_program_law.specs.FileSources.{BodyTree, type_trees, types_of, body_trees, unwritten_tree}
use Rattle.jn_program_law.proofs.Aligned.{Agrees, AllAgree, agree_append}
use Rattle.jn_program_law.proofs.Trees.{HeadTree, AllHeads, type_heads, heads_are}

-- the constructor of an arity is among the calls of one that begins with `this(..)` of that arity
called_is : (P : Program) (c n k : ℕ) (o : Option ℕ) → o ≡ Some n → constructor_of P c n ≡ Some k → member k (called_with P c o) ≡ true
called_is P c n k None e h = cc
called_is P c n k (Some m) e h =
    let same : m ≡ n = cc in
    subst (λ z. member k (called_with P c (Some z)) ≡ true) (sym same) (subst (λ r. member k (found_number r) ≡ true) (sym h) (or_left (eqb k k) false (eq-eqb k k refl)))

not_zero : {A : Type 0} (n : ℕ) → suc n ≡ 0 → A
not_zero n e = cc

module _ (hs : List ClassHead) (P : Program) where
  agrees : (c s b : ℕ) (m : MethodHead) (t : Option BodyTree) → HeadTree m t → Agrees P (method_of hs (suc c) s b m) (called_with P (suc c) m.calls) t
  agrees c s b m t h = record {
    called = λ u e i n k o f. called_is P (suc c) n k m.calls (h.calls u e i ∙ o) f;
    object = λ u e o. not_zero c o;
  }

  methods_agree : (c s b e : ℕ) (ms : List MethodHead) (ts : List (Option BodyTree)) → AllHeads ms ts → b + bodies_of ms ≡ e → AllAgree P b e (methods_of hs (suc c) s b ms) (called_of P (suc c) ms) ts
  methods_agree c s b e [] [] h n = let k : b + 0 ≡ e = n in let a : b ≡ e = omega arith in a
  methods_agree c s b e [] (t ∷ ts) h n = absurd h
  methods_agree c s b e (m ∷ ms) [] h n = absurd h
  methods_agree c s b e (m ∷ ms) (t ∷ ts) h n = (
    ap (λ z. body_at z b) h.0.bodied,
    (
      agrees c s b m t h.0,
      subst (λ z. AllAgree P (b + count z) e (methods_of hs (suc c) (s + length (method_slots hs m)) (b + count m.has_body) ms) (called_of P (suc c) ms) ts) h.0.bodied
          (methods_agree c (s + length (method_slots hs m)) (b + count m.has_body) e ms ts h.1 (let k : b + (count m.has_body + bodies_of ms) ≡ e = n in omega arith)),
    ),
  )

  types_agree : (c s b e : ℕ) (types : List PlacedType) → b + bodies_of_all (map class_head types) ≡ e → AllAgree P b e (methods_from hs (suc c) s b (map class_head types)) (called_from P (suc c) (map class_head types)) (flat_map type_trees types)
  types_agree c s b e [] n = let k : b + 0 ≡ e = n in let a : b ≡ e = omega arith in a
  types_agree c s b e (t ∷ ts) n =
      agree_append P b (b + bodies_of (class_head t).methods) e
      (methods_of hs (suc c) (s + length (fields_slots hs (class_head t).fields)) b (class_head t).methods)
      (methods_from hs (suc (suc c)) (s + length (class_slots hs (class_head t))) (b + bodies_of (class_head t).methods) (map class_head ts))
      (called_of P (suc c) (class_head t).methods) (called_from P (suc (suc c)) (map class_head ts))
      (type_trees t) (flat_map type_trees ts)
      (methods_agree c (s + length (fields_slots hs (class_head t).fields)) b (b + bodies_of (class_head t).methods) (class_head t).methods (type_trees t) (type_heads t) refl)
      (types_agree (suc c) (s + length (class_slots hs (class_head t))) (b + bodies_of (class_head t).methods) e ts (let k : b + (bodies_of (class_head t).methods + bodies_of_all (map class_head ts)) ≡ e = n in omega arith))

-- with Object and String
pub all_agree : (files : List PlacedFile) → AllAgree (table (heads files)) 0 (bodies_of_all (all_heads (heads files))) (table (heads files)).methods (called_from (table (heads files)) 0 (all_heads (heads files))) (body_trees files)
all_agree files = subst (λ hs. AllAgree (table (heads files)) 0 (bodies_of_all (all_heads hs)) (methods_from (heads files) 0 0 0 (all_heads hs)) (called_from (table (heads files)) 0 (all_heads hs)) (body_trees files)) (sym (heads_are files))
    (refl, (record { called = λ u e i n k o f. none_called u e n k o; object = λ u e o. object_body u e }, types_agree (heads files) (table (heads files)) 1 0 1 (bodies_of_all (all_heads (map class_head (types_of files)))) (types_of files) (omega arith)))
  where
    object_body : (u : BodyTree) → unwritten_tree [] ≡ Some u → u.body ≡ NoPlacedStatements
    object_body u e = let k : record { parameters = []; body = NoPlacedStatements; members = [] } ≡ u = cc in ap (λ (v : BodyTree). v.body) (sym k)

    none_called : (u : BodyTree) → unwritten_tree [] ≡ Some u → (n k : ℕ) → own_arity u.body ≡ Some n → member k [] ≡ true
    none_called u e n k o = let bad : own_arity NoPlacedStatements ≡ Some n = ap own_arity (sym (object_body u e)) ∙ o in cc
