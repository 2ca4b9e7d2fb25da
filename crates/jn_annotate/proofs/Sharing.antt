-- A slot is of a field that shares its type with one of another qualifier where it is among those slots; the least of them is the first.
use Rattle.std.proofs.Common.{◌≡◌, ◌⊎◌, inl, inr, ℕ, ◌+◌, ◌<◌, ◌≤◌, Bool, true, false, not, cond, ◌&&◌, ◌||◌, List, [], ◌∷◌, ◌++◌, length, Option, Some, None, refl, sym, ap, ◌∙◌, arith, subst, get_or, append_assoc, append-nil}
use Rattle.std.specs.Prelude.{drop, take, eqb}
use Rattle.std.proofs.lemmas.List.{drop_more}
use Rattle.std.proofs.lemmas.Bool.{eqb-true, eq-eqb}
use Rattle.jn_base.specs.declared.number.SlotNo.{SlotNo}
use Rattle.jn_quals.specs.Qualifier.{Qualifier}
use Rattle.jn_points.specs.Members.{some_of}
use Rattle.jn_points.specs.declared.program.Field.{Field}
use Rattle.jn_points.specs.declared.program.Program.{Program}
use Rattle.jn_sigs.specs.Signature.{is_slot, slot_qual}
use Rattle.jn_trees.specs.Trees.{MemberTree, FieldMember, MethodMember, ConstructorMember, TypeDeclaration, SourceTree}
use Rattle.jn_annotate.specs.Insertions.{fields_in, type_fields, file_fields, first_slot}
use Rattle.jn_annotate.specs.Annotated.{slot_inferred, same_qual, members_of, differs, shared_in, shared_in_members, shared_in_types, shared_from, has_shared_type, IsFirst, HasNone}
use Rattle.jn_annotate.specs.Shared.{is_among, off_slot, off_slots, member_slots, members_slots, types_slots, shared_slots, IsLeast}

-- one of two lists has it
among_both : (i : ℕ) (xs ys : List ℕ) → is_among i (xs ++ ys) ≡ cond (is_among i xs) true (is_among i ys)
among_both i [] ys = refl
among_both i (x ∷ xs) ys = ap (λ b. eqb x i || b) (among_both i xs ys) ∙ either (eqb x i) (is_among i xs)
  where
    either : (a b : Bool) → (a || cond b true (is_among i ys)) ≡ cond (a || b) true (is_among i ys)
    either true b = refl
    either false b = refl

module _ (P : Program) (s : List Qualifier) (i : ℕ) where
  off_is : (q : Qualifier) (f : Field) → differs P s q i f ≡ is_among i (off_slot P s q f.slot)
  off_is q f = go f.slot
    where
      at : (a b : Bool) (n : SlotNo) → ((eqb n.0 i && a) && b) ≡ is_among i (cond (a && b) (n.0 ∷ []) [])
      at true true n = both (eqb n.0 i)
        where
          both : (c : Bool) → ((c && true) && true) ≡ (c || false)
          both true = refl
          both false = refl
      at true false n = none (eqb n.0 i)
        where
          none : (c : Bool) → ((c && true) && false) ≡ false
          none true = refl
          none false = refl
      at false b n = none (eqb n.0 i)
        where
          none : (c : Bool) → ((c && false) && b) ≡ false
          none true = refl
          none false = refl

      go : (x : Option SlotNo) → (is_slot i x && slot_inferred P s x && not (same_qual (slot_qual s x) q)) ≡ is_among i (off_slot P s q x)
      go None = refl
      go (Some n) = at (slot_inferred P s (Some n)) (not (same_qual (slot_qual s (Some n)) q)) n

  offs_are : (q : Qualifier) (fs : List Field) → some_of (differs P s q i) fs ≡ is_among i (off_slots P s q fs)
  offs_are q [] = refl
  offs_are q (f ∷ fs) =
      ap (λ b. b || some_of (differs P s q i) fs) (off_is q f) ∙ ap (λ b. is_among i (off_slot P s q f.slot) || b) (offs_are q fs)
      ∙ or_cond (is_among i (off_slot P s q f.slot)) (is_among i (off_slots P s q fs)) ∙ sym (among_both i (off_slot P s q f.slot) (off_slots P s q fs))
    where
      or_cond : (a b : Bool) → (a || b) ≡ cond a true b
      or_cond true b = refl
      or_cond false b = refl

  member_is : (m : MemberTree) (fs : List Field) → shared_in P s m fs i ≡ is_among i (member_slots P s m fs)
  member_is (FieldMember ms u d ds) fs = offs_are (slot_qual s (first_slot fs)) (take (1 + length ds) fs)
  member_is (MethodMember ms u n r ps body) fs = refl
  member_is (ConstructorMember ms n ps ss) fs = refl

  both_are : (a b c d : Bool) → a ≡ c → b ≡ d → cond a true b ≡ cond c true d
  both_are a b c d e f = ap (λ x. cond x true b) e ∙ ap (λ x. cond c true x) f

  members_are : (ms : List MemberTree) (fs : List Field) → shared_in_members P s ms fs i ≡ is_among i (members_slots P s ms fs)
  members_are [] fs = refl
  members_are (m ∷ ms) fs = both_are _ _ _ _ (member_is m fs) (members_are ms (drop (fields_in m) fs)) ∙ sym (among_both i (member_slots P s m fs) (members_slots P s ms (drop (fields_in m) fs)))

  types_are : (ts : List TypeDeclaration) (fs : List Field) → shared_in_types P s ts fs i ≡ is_among i (types_slots P s ts fs)
  types_are [] fs = refl
  types_are (t ∷ ts) fs = both_are _ _ _ _ (members_are (members_of t) fs) (types_are ts (drop (type_fields t) fs)) ∙ sym (among_both i (members_slots P s (members_of t) fs) (types_slots P s ts (drop (type_fields t) fs)))

  files_are : (trees : List SourceTree) (fs : List Field) → shared_from P s trees fs i ≡ is_among i (shared_slots P s trees fs)
  files_are [] fs = refl
  files_are (f ∷ trees) fs = both_are _ _ _ _ (types_are f.types fs) (files_are trees (drop (file_fields f.types) fs)) ∙ sym (among_both i (types_slots P s f.types fs) (shared_slots P s trees (drop (file_fields f.types) fs)))

pub first_is : (P : Program) (s : List Qualifier) (trees : List SourceTree) (n : ℕ) → IsLeast (Some n) (shared_slots P s trees P.fields) → IsFirst (has_shared_type P s trees) n
first_is P s trees n h = (files_are P s n trees P.fields ∙ h.0, λ j l. files_are P s j trees P.fields ∙ h.1 j l)

pub none_is : (P : Program) (s : List Qualifier) (trees : List SourceTree) → shared_slots P s trees P.fields ≡ [] → HasNone (has_shared_type P s trees)
none_is P s trees h i = files_are P s i trees P.fields ∙ ap (is_among i) h

-- ---- the least of a list

-- the number is the least of those before, together with what is left
pub record Least (ns : List ℕ) (n : ℕ) (left : List ℕ) : Type 0 where
  pub done : List ℕ
  pub all : ns ≡ done ++ left
  pub there : is_among n done ≡ true
  pub low : (j : ℕ) → j < n → is_among j done ≡ false

among_one : (i : ℕ) (xs : List ℕ) (y : ℕ) → is_among i (xs ++ y ∷ []) ≡ cond (is_among i xs) true (eqb y i)
among_one i xs y = among_both i xs (y ∷ []) ∙ ap (λ b. cond (is_among i xs) true b) (or_none (eqb y i))
  where
    or_none : (b : Bool) → (b || false) ≡ b
    or_none true = refl
    or_none false = refl

not_same : (y j : ℕ) → j < y → eqb y j ≡ false
not_same y j l = go (eqb y j) refl
  where
    go : (b : Bool) → eqb y j ≡ b → eqb y j ≡ false
    go true e = absurd (let f = eqb-true y j e in omega (arith, f, l))
    go false e = e

pub least_start : (n : ℕ) (ns : List ℕ) → Least (n ∷ ns) n ns
least_start n ns = record { done = n ∷ []; all = refl; there = ap (λ b. b || false) (eq-eqb n n refl); low = λ j l. ap (λ b. b || false) (not_same n j l) }

pub least_next : (ns : List ℕ) (n y m : ℕ) (left : List ℕ) → (m ≡ n) × (n ≤ y) ⊎ (m ≡ y) × (y ≤ n) → Least ns n (y ∷ left) → Least ns m left
least_next ns n y m left (inl e) h = record {
  done = h.done ++ y ∷ [];
  all = h.all ∙ sym (append_assoc h.done (y ∷ []) left);
  there = among_one m h.done y ∙ ap (λ b. cond b true (eqb y m)) (ap (λ i. is_among i h.done) e.0 ∙ h.there);
  low = λ j l. let k : j < n = omega (arith, l, e) in among_one j h.done y ∙ ap (λ b. cond b true (eqb y j)) (h.low j k) ∙ not_same y j (omega (arith, k, e));
}
least_next ns n y m left (inr e) h = record {
  done = h.done ++ y ∷ [];
  all = h.all ∙ sym (append_assoc h.done (y ∷ []) left);
  there = among_one m h.done y ∙ ap (λ b. cond (is_among m h.done) true b) (eq-eqb y m (sym e.0)) ∙ always (is_among m h.done);
  low = λ j l. let k : j < y = omega (arith, l, e) in among_one j h.done y ∙ ap (λ b. cond b true (eqb y j)) (h.low j (omega (arith, k, e))) ∙ not_same y j k;
}
  where
    always : (b : Bool) → cond b true true ≡ true
    always true = refl
    always false = refl

pub least_next_at : (ns rest : List ℕ) (n m i d : ℕ) → i < length rest → (m ≡ n) × (n ≤ get_or rest i d) ⊎ (m ≡ get_or rest i d) × (get_or rest i d ≤ n) → Least ns n (drop i rest) → Least ns m (drop (i + 1) rest)
least_next_at ns rest n m i d l e h = least_next ns n (get_or rest i d) m (drop (i + 1) rest) e (subst (Least ns n) (drop_more rest i d l) h)

pub least_all : (ns : List ℕ) (n : ℕ) → Least ns n [] → IsLeast (Some n) ns
least_all ns n h =
    let e : ns ≡ h.done = h.all ∙ append-nil h.done in
    (ap (is_among n) e ∙ h.there, λ j l. ap (is_among j) e ∙ h.low j l)
