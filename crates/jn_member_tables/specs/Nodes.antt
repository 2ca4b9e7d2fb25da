-- Persistent tables: binary trees over the bits of keys, in one list of nodes that only grows (Okasaki, Purely Functional Data Structures, 9).
use Rattle.std.specs.Prelude.{ℕ, zero, suc, ◌≡◌, ◌<◌, ◌≤◌, ◌+◌, ◌/◌, ◌%◌, Bool, true, false, cond, eqb, List, length, Option, Some, None, slice_index_or}
use Rattle.jn_points.specs.Members.{first_or}
use Rattle.jn_member_tables.specs.declared.nodes.Node.{Node}

abbrev pub no_node : Node
no_node = record { left = 0; right = 0; value = None }

abbrev pub node_at : List Node → ℕ → Node
node_at nodes n = slice_index_or nodes n no_node

abbrev pub side : Bool → Node → ℕ
side false x = x.left
side true x = x.right

-- the node with another child at a side
abbrev pub with_side : Bool → Node → ℕ → Node
with_side false x child = record { left = child; right = x.right; value = None }
with_side true x child = record { left = x.left; right = child; value = None }

abbrev pub is_odd : ℕ → Bool
is_odd key = eqb (key % 2) 1

-- what the tree of a height below node n has for a key, whose lowest bit chooses the side
abbrev pub find : List Node → ℕ → ℕ → ℕ → Option ℕ
find nodes zero n key = (node_at nodes n).value
find nodes (suc h) n key = find nodes h (side (is_odd key) (node_at nodes n)) (key / 2)

-- how many keys a tree of a height has
abbrev pub keys : ℕ → ℕ
keys zero = 1
keys (suc h) = keys h + keys h

-- the first node is the empty tree, and no node has a side outside
pub record Closed (nodes : List Node) : Type 0 where
  pub some : 0 < length nodes
  pub empty : node_at nodes 0 ≡ no_node
  pub sides : (n : ℕ) (right : Bool) → n < length nodes → side right (node_at nodes n) < length nodes

-- node r is there, and all trees that were there are kept
pub record Grown (old new : List Node) (r : ℕ) : Type 0 where
  pub closed : Closed new
  pub inside : r < length new
  pub longer : length old ≤ length new
  pub kept : (h n k : ℕ) → n < length old → find new h n k ≡ find old h n k

-- node r is the tree of node n with a value put at a key
pub record IsPut (old new : List Node) (h n key value r : ℕ) : Type 0 where
  pub grown : Grown old new r
  pub found : key < keys h → (k : ℕ) → k < keys h → find new h r k ≡ cond (eqb key k) (Some value) (find old h n k)

-- node r is the tree of node a with what that of node b has for other keys
pub record IsMerged (old new : List Node) (h a b r : ℕ) : Type 0 where
  pub grown : Grown old new r
  pub found : (k : ℕ) → find new h r k ≡ first_or (find old h a k) (find old h b k)

abbrev pub with_value : Option ℕ → ℕ → ℕ → ℕ
with_value None a b = b
with_value (Some v) a b = a
