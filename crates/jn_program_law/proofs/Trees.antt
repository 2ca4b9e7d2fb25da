-- Heads of methods and trees of bodies stand side by side.
use Rattle.std.proofs.Common.{◌≡◌, suc, Bool, true, false, cond, List, [], ◌∷◌, ◌++◌, map, Option, Some, None, refl, sym, ap, ◌∙◌}
use Rattle.std.specs.Prelude.{flat_map}
use Rattle.jn_trees.specs.declared.expression.Identifier.{Identifier}
use Rattle.jn_places.specs.Placed.{PlacedTrees, NoPlacedTrees, MorePlacedTrees, PlacedThisCall, PlacedStatements, NoPlacedStatements, MorePlacedStatements, PlacedMember, PlacedFieldMember, PlacedMethod, PlacedConstructor, PlacedType, PlacedClass, PlacedInterface, PlacedFile}
use Rattle.jn_heads.specs.declared.head.MethodHead.{MethodHead}
use Rattle.jn_heads.specs.Heads.{unwritten_constructor}
use Rattle.jn_heads.specs.Extract.{count, first_call, has_constructor, method_heads, class_head, heads}
use Rattle.jn_lowering.specs.Scopes.{count as count_of}
use Rattle.jn_lowering.specs.Bodies.{own_arity}
use Rattle.jn_program_law.specs.FileSources.{BodyTree, member_trees, members_trees, unwritten_tree, type_trees, types_of}
use Rattle.jn_program_law.proofs.Aligned.{is_tree}

same_count : (ts : PlacedTrees) → count ts ≡ count_of ts
same_count NoPlacedTrees = refl
same_count (MorePlacedTrees t ts) = ap suc (same_count ts)

-- both parts see the same call of `this(..)`
same_call : (ss : PlacedStatements) → first_call ss ≡ own_arity ss
same_call NoPlacedStatements = refl
same_call (MorePlacedStatements (PlacedThisCall es span) ss) = ap Some (same_count es)
same_call (MorePlacedStatements s ss) = refl

-- a head and the tree of its body
pub record HeadTree (m : MethodHead) (t : Option BodyTree) : Type 0 where
  pub bodied : m.has_body ≡ is_tree t
  pub calls : (u : BodyTree) → t ≡ Some u → m.ctor ≡ true → m.calls ≡ own_arity u.body

abbrev pub AllHeads : List MethodHead → List (Option BodyTree) → Type 0
AllHeads [] [] = Unit {0}
AllHeads (m ∷ ms) (t ∷ ts) = HeadTree m t × AllHeads ms ts
AllHeads ms ts = ⊥

heads_append : (ms ns : List MethodHead) (ts us : List (Option BodyTree)) → AllHeads ms ts → AllHeads ns us → AllHeads (ms ++ ns) (ts ++ us)
heads_append [] ns [] us h k = k
heads_append [] ns (t ∷ ts) us h k = absurd h
heads_append (m ∷ ms) ns [] us h k = absurd h
heads_append (m ∷ ms) ns (t ∷ ts) us h k = (h.0, heads_append ms ns ts us h.1 k)

no_constructor : {A : Type 0} → false ≡ true → A
no_constructor e = cc

member_heads : (interface : Bool) (all : List PlacedMember) (x : PlacedMember) → AllHeads (method_heads interface x) (member_trees interface all x)
member_heads true all (PlacedMethod ms result n receiver ps None s) = (record { bodied = refl; calls = λ u e c. no_constructor c }, tt)
member_heads true all (PlacedMethod ms result n receiver ps (Some b) s) = (record { bodied = refl; calls = λ u e c. no_constructor c }, tt)
member_heads false all (PlacedMethod ms result n receiver ps None s) = (record { bodied = refl; calls = λ u e c. no_constructor c }, tt)
member_heads false all (PlacedMethod ms result n receiver ps (Some b) s) = (record { bodied = refl; calls = λ u e c. no_constructor c }, tt)
member_heads false all (PlacedConstructor ms n ps body s) = (record { bodied = refl; calls = λ u e c. same u e }, tt)
  where
    same : (u : BodyTree) → Some (record { parameters = ps; body = body; members = all }) ≡ Some u → first_call body ≡ own_arity u.body
    same u e = let k : record { parameters = ps; body = body; members = all } ≡ u = cc in same_call body ∙ ap (λ (v : BodyTree). own_arity v.body) k
member_heads true all (PlacedConstructor ms n ps body s) = tt
member_heads true all (PlacedFieldMember ms u d ds s) = tt
member_heads false all (PlacedFieldMember ms u d ds s) = tt

members_heads : (interface : Bool) (all xs : List PlacedMember) → AllHeads (flat_map (method_heads interface) xs) (members_trees interface all xs)
members_heads interface all [] = tt
members_heads interface all (x ∷ xs) = heads_append (method_heads interface x) (flat_map (method_heads interface) xs) (member_trees interface all x) (members_trees interface all xs) (member_heads interface all x) (members_heads interface all xs)

pub unwritten_head : (n : Identifier) (all : List PlacedMember) → AllHeads (unwritten_constructor n ∷ []) (unwritten_tree all ∷ [])
unwritten_head n all = (record { bodied = refl; calls = λ u e c. same u e }, tt)
  where
    same : (u : BodyTree) → unwritten_tree all ≡ Some u → None ≡ own_arity u.body
    same u e = let k : record { parameters = []; body = NoPlacedStatements; members = all } ≡ u = cc in ap (λ (v : BodyTree). own_arity v.body) k

pub type_heads : (t : PlacedType) → AllHeads (class_head t).methods (type_trees t)
type_heads (PlacedInterface ms n parents members s) = members_heads true members members
type_heads (PlacedClass ms n parent interfaces members s) = by (has_constructor (flat_map (method_heads false) members))
  where
    by : (b : Bool) → AllHeads (cond b (flat_map (method_heads false) members) (flat_map (method_heads false) members ++ unwritten_constructor n ∷ [])) (cond b (members_trees false members members) (members_trees false members members ++ unwritten_tree members ∷ []))
    by true = members_heads false members members
    by false = heads_append (flat_map (method_heads false) members) (unwritten_constructor n ∷ []) (members_trees false members members) (unwritten_tree members ∷ []) (members_heads false members members) (unwritten_head n members)

map_append : (ts us : List PlacedType) → map class_head (ts ++ us) ≡ map class_head ts ++ map class_head us
map_append [] us = refl
map_append (t ∷ ts) us = ap (λ hs. class_head t ∷ hs) (map_append ts us)

-- the heads are those of the types of all files
pub heads_are : (files : List PlacedFile) → heads files ≡ map class_head (types_of files)
heads_are [] = refl
heads_are (f ∷ fs) = ap (λ hs. map class_head f.types ++ hs) (heads_are fs) ∙ sym (map_append f.types (types_of fs))
