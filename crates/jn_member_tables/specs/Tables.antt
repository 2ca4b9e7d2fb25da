-- For each class a table of what is found along its walk.
use Rattle.std.specs.Prelude.{ℕ, ◌≡◌, ◌<◌, ◌≤◌, ◌^◌, true, false, cond, eqb, List, [], ◌∷◌, length, Option, Some, None, slice_index_or}
use Rattle.jn_base.specs.declared.number.ClassNo.{ClassNo}
use Rattle.jn_points.specs.declared.program.Class.{Class}
use Rattle.jn_points.specs.declared.program.Program.{Program}
use Rattle.jn_points.specs.Members.{first_or, first_some, walk, walk_by, reaches}
use Rattle.jn_member_tables.specs.declared.nodes.Node.{Node}
use Rattle.jn_member_tables.specs.declared.tables.Entry.{Entry}
use Rattle.jn_member_tables.specs.Nodes.{find, keys, Closed, Grown}
use Rattle.jn_member_tables.specs.Along.{IsWalk, parent_found, others_found, root_at, rooted_count}

abbrev pub first_entry : List Entry → ℕ → Option ℕ
first_entry [] key = None
first_entry (e ∷ es) key = cond (eqb e.key key) (Some e.value) (first_entry es key)

abbrev pub entries_at : List (List Entry) → ℕ → List Entry
entries_at own d = slice_index_or own d []

-- what class d itself has for a key
abbrev pub offers : List (List Entry) → ℕ → ℕ → Option ℕ
offers own key d = first_entry (entries_at own d) key

abbrev pub SmallKeys : ℕ → List Entry → Type 0
SmallKeys n [] = Unit {0}
SmallKeys n (e ∷ es) = (e.key < n) × SmallKeys n es

abbrev pub root_or : Option ℕ → ℕ
root_or None = 0
root_or (Some r) = r

-- what the tree of a class has
abbrev pub look : List Node → ℕ → List (Option ℕ) → ℕ → ℕ → Option ℕ
look nodes h roots key c = find nodes h (root_or (root_at roots c)) key

-- the trees of all classes, in one list of nodes
pub record Trees : Type 0 where
  pub height : ℕ
  pub nodes : List Node
  pub roots : List (Option ℕ)

abbrev pub find_in : Trees → ℕ → ℕ → Option ℕ
find_in t c k = look t.nodes t.height t.roots k c

-- node r is the tree of node n below entries
pub record IsOver (old new : List Node) (h n : ℕ) (entries : List Entry) (r : ℕ) : Type 0 where
  pub grown : Grown old new r
  pub found : (k : ℕ) → k < keys h → find new h r k ≡ first_or (first_entry entries k) (find old h n k)

-- node r is the tree of node n with what the trees of the classes that aren't the parent have besides
pub record IsBeside (old new : List Node) (h n : ℕ) (roots : List (Option ℕ)) (parent : Option ClassNo) (ss : List ClassNo) (r : ℕ) : Type 0 where
  pub grown : Grown old new r
  pub found : (k : ℕ) → first_or (find old h n k) (others_found (look old h roots k) parent ss) ≡ find new h r k

-- node r is the tree of a class: its own entries, then what its parent has, then what its interfaces have
pub record IsJoined (old new : List Node) (h : ℕ) (roots : List (Option ℕ)) (x : Class) (entries : List Entry) (r : ℕ) : Type 0 where
  pub grown : Grown old new r
  pub found : (k : ℕ) → k < keys h → find new h r k ≡ first_or (first_entry entries k) (first_or (parent_found (look old h roots k) x.parent) (others_found (look old h roots k) x.parent x.supers))

-- node r is the tree of class c, whose walk takes no more than i steps and stays inside
pub record HasTree (P : Program) (own : List (List Entry)) (nodes : List Node) (h i c r : ℕ) : Type 0 where
  pub inside : r < length nodes
  pub steady : IsWalk P i c (walk_by P i c)
  pub within : (k d : ℕ) → reaches P k c d ≡ true → d < length P.classes
  pub finds : (k : ℕ) → k < keys h → find nodes h r k ≡ first_some (offers own k) (walk_by P i c)

-- each root is that of its class's tree
pub record AreTrees (P : Program) (own : List (List Entry)) (h : ℕ) (nodes : List Node) (roots : List (Option ℕ)) : Type 0 where
  pub closed : Closed nodes
  pub long : length roots ≡ length P.classes
  pub small : (c : ℕ) → SmallKeys (keys h) (entries_at own c)
  pub trees : (c r : ℕ) → root_at roots c ≡ Some r → HasTree P own nodes h (rooted_count roots) c r

-- each walk ends, stays inside, and finds what the table of its class has, where keys are below a number
pub record IsTable (P : Program) (own : List (List Entry)) (n : ℕ) (t : Trees) : Type 0 where
  pub steady : (c : ℕ) → c < length P.classes → IsWalk P (length P.classes) c (walk P c)
  pub within : (c d k : ℕ) → c < length P.classes → reaches P k c d ≡ true → d < length P.classes
  pub finds : (c k : ℕ) → c < length P.classes → k < n → find_in t c k ≡ first_some (offers own k) (walk P c)

abbrev pub parent_root : List (Option ℕ) → Option ClassNo → ℕ
parent_root roots None = 0
parent_root roots (Some p) = root_or (root_at roots p.0)
