-- A class's tree is joined from those of its supertypes.
use Rattle.std.proofs.Common.{◌≡◌, ◌<◌, ◌+◌, ◌-◌, ℕ, zero, suc, Bool, true, false, cond, List, [], ◌∷◌, length, drop, get_or, Option, Some, None, refl, sym, ap, ◌∙◌, subst, eqb, arith}
use Rattle.std.proofs.lemmas.List.{at_drop_more}
use Rattle.jn_base.specs.declared.number.ClassNo.{ClassNo}
use Rattle.jn_points.specs.declared.program.Class.{Class}
use Rattle.jn_points.specs.Members.{first_or, is_class}
use Rattle.jn_member_tables.specs.declared.nodes.Node.{Node}
use Rattle.jn_member_tables.specs.declared.tables.Entry.{Entry}
use Rattle.jn_member_tables.specs.Nodes.{find, keys, Closed, Grown, IsPut, IsMerged}
use Rattle.jn_member_tables.specs.Along.{parent_found, others_found, root_at}
use Rattle.jn_member_tables.specs.Tables.{first_entry, SmallKeys, root_or, look, parent_root, IsOver, IsBeside, IsJoined}
use Rattle.jn_member_tables.proofs.Found.{first_or_none, first_or_assoc}
use Rattle.jn_member_tables.proofs.Puts.{grown_twice, same_grown, find_empty}

no_entry : Entry
no_entry = record { key = 0; value = 0 }

drop_all : (es : List Entry) → drop (length es) es ≡ []
drop_all [] = refl
drop_all (e ∷ es) = drop_all es

small_at : (n : ℕ) (es : List Entry) (i : ℕ) (d : Entry) → SmallKeys n es → i < length es → (get_or es i d).key < n
small_at n [] i d small lt = absurd (omega (arith, lt))
small_at n (e ∷ es) zero d small lt = small.0
small_at n (e ∷ es) (suc i) d small lt = small_at n es i d small.1 (omega (arith, lt))

pub over_none : (xs : List Node) (h n : ℕ) (es : List Entry) → Closed xs → n < length xs → IsOver xs xs h n (drop (length es - 0) es) n
over_none xs h n es closed lt = let whole : length es ≡ length es - 0 = omega arith in subst (λ i. IsOver xs xs h n (drop i es) n) whole (subst (λ ds. IsOver xs xs h n ds n) (sym (drop_all es)) (record { grown = same_grown xs n closed lt; found = λ k low. refl }))

entry_or : (b : Bool) (v : ℕ) (a c : Option ℕ) → cond b (Some v) (first_or a c) ≡ first_or (cond b (Some v) a) c
entry_or true v a c = refl
entry_or false v a c = refl

-- one entry more is put
pub over_more : (old mid new : List Node) (h n : ℕ) (es : List Entry) (step q r : ℕ) (d e : Entry) → step < length es → SmallKeys (keys h) es → e ≡ get_or es (length es - 1 - step) d → IsOver old mid h n (drop (length es - step) es) q → IsPut mid new h q e.key e.value r → IsOver old new h n (drop (length es - (step + 1)) es) r
over_more old mid new h n es step q r d e lt small is over put =
    let i : ℕ = length es - 1 - step in
    let low : i < length es = omega (arith, lt) in
    let before : length es - step ≡ i + 1 = omega (arith, lt) in
    let after : length es - (step + 1) ≡ i = omega (arith, lt) in
    let key : e.key < keys h = subst (λ (z : Entry). z.key < keys h) (sym is) (small_at (keys h) es i d small low) in
    record {
      grown = grown_twice old mid new q r over.grown put.grown;
      found = λ k inside.
          put.found key k inside
          ∙ (ap (cond (eqb e.key k) (Some e.value)) (over.found k inside)
          ∙ (entry_or (eqb e.key k) e.value (first_entry (drop (length es - step) es) k) (find old h n k)
          ∙ ap (λ o. first_or o (find old h n k)) (ap (λ j. cond (eqb e.key k) (Some e.value) (first_entry (drop j es) k)) before
          ∙ (ap (λ (z : Entry). first_entry (z ∷ drop (i + 1) es) k) is
          ∙ (sym (at_drop_more (λ ds. first_entry ds k) es i d low) ∙ ap (λ j. first_entry (drop j es) k) (sym after))))));
    }

pub over_end : (old new : List Node) (h n : ℕ) (es : List Entry) (step r : ℕ) → length es ≡ step → IsOver old new h n (drop (length es - step) es) r → IsOver old new h n es r
over_end old new h n es step r e over = let z : length es - step ≡ 0 = omega (arith, e) in subst (λ j. IsOver old new h n (drop j es) r) z over

root_inside : (xs : List Node) (roots : List (Option ℕ)) (c : ℕ) → Closed xs → ((c r : ℕ) → root_at roots c ≡ Some r → r < length xs) → root_or (root_at roots c) < length xs
root_inside xs roots c closed inside = by (root_at roots c) refl
  where
    by : (o : Option ℕ) → root_at roots c ≡ o → root_or o < length xs
    by None e = closed.some
    by (Some r) e = inside c r e

module _ (old : List Node) (h : ℕ) (roots : List (Option ℕ)) (parent : Option ClassNo) (ss : List ClassNo) (i : ℕ) (d : ClassNo) (lt : i < length ss) (all : ℕ → Option ℕ) where
  abbrev others : ℕ → List ClassNo → Option ℕ
  others k ds = others_found (look old h roots k) parent ds

  pub beside_parent : (mid : List Node) (q : ℕ) → is_class parent (get_or ss i d) ≡ true → ((k : ℕ) → first_or (find mid h q k) (others k (drop i ss)) ≡ all k) → (k : ℕ) → first_or (find mid h q k) (others k (drop (i + 1) ss)) ≡ all k
  beside_parent mid q e inv k =
      let here : others k (drop i ss) ≡ others k (drop (i + 1) ss) = at_drop_more (others k) ss i d lt ∙ ap (λ b. cond b (others k (drop (i + 1) ss)) (first_or (look old h roots k (get_or ss i d).0) (others k (drop (i + 1) ss)))) e in
      ap (first_or (find mid h q k)) (sym here) ∙ inv k

  pub beside_merged : (mid new : List Node) (q o r : ℕ) → is_class parent (get_or ss i d) ≡ false → o ≡ root_or (root_at roots (get_or ss i d).0) → o < length old → Grown old mid q → IsMerged mid new h q o r → ((k : ℕ) → first_or (find mid h q k) (others k (drop i ss)) ≡ all k) → (k : ℕ) → first_or (find new h r k) (others k (drop (i + 1) ss)) ≡ all k
  beside_merged mid new q o r e is low grown merged inv k =
      let rest = others k (drop (i + 1) ss) in
      let here : others k (drop i ss) ≡ first_or (look old h roots k (get_or ss i d).0) rest = at_drop_more (others k) ss i d lt ∙ ap (λ b. cond b rest (first_or (look old h roots k (get_or ss i d).0) rest)) e in
      let other : find mid h o k ≡ look old h roots k (get_or ss i d).0 = grown.kept h o k low ∙ ap (λ j. find old h j k) is in
      ap (λ a. first_or a rest) (merged.found k ∙ ap (first_or (find mid h q k)) other)
      ∙ (sym (first_or_assoc (find mid h q k) (look old h roots k (get_or ss i d).0) rest)
      ∙ (ap (first_or (find mid h q k)) (sym here) ∙ inv k))

pub parent_is : (xs : List Node) (h : ℕ) (roots : List (Option ℕ)) (o : Option ClassNo) (k : ℕ) → Closed xs → find xs h (parent_root roots o) k ≡ parent_found (look xs h roots k) o
parent_is xs h roots None k closed = find_empty xs closed h k
parent_is xs h roots (Some p) k closed = refl

pub parent_inside : (xs : List Node) (roots : List (Option ℕ)) (o : Option ClassNo) → Closed xs → ((c r : ℕ) → root_at roots c ≡ Some r → r < length xs) → parent_root roots o < length xs
parent_inside xs roots None closed inside = closed.some
parent_inside xs roots (Some p) closed inside = root_inside xs roots p.0 closed inside

pub root_there : (xs : List Node) (roots : List (Option ℕ)) (c r : ℕ) → Closed xs → ((c r : ℕ) → root_at roots c ≡ Some r → r < length xs) → r ≡ root_or (root_at roots c) → r < length xs
root_there xs roots c r closed inside e = subst (λ n. n < length xs) (sym e) (root_inside xs roots c closed inside)

pub joined : (old mid new : List Node) (h : ℕ) (roots : List (Option ℕ)) (x : Class) (es : List Entry) (n q r : ℕ) → Closed old → n ≡ parent_root roots x.parent → IsBeside old mid h n roots x.parent x.supers q → IsOver mid new h q es r → IsJoined old new h roots x es r
joined old mid new h roots x es n q r closed is beside over = record {
  grown = grown_twice old mid new q r beside.grown over.grown;
  found = λ k low. over.found k low ∙ ap (first_or (first_entry es k)) (sym (beside.found k) ∙ ap (λ a. first_or a (others_found (look old h roots k) x.parent x.supers)) (ap (λ j. find old h j k) is ∙ parent_is old h roots x.parent k closed));
}
