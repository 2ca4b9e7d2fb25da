-- Walks along supertypes, which end where no class is its own supertype.
use Rattle.std.specs.Prelude.{ℕ, suc, ◌≡◌, ◌<◌, ◌≤◌, Bool, true, false, not, cond, length, ◌&&◌, List, [], ◌∷◌, filter, flat_map, Option, Some, None, slice_index_or}
use Rattle.jn_base.specs.declared.number.ClassNo.{ClassNo}
use Rattle.jn_points.specs.declared.program.Class.{Class}
use Rattle.jn_points.specs.declared.program.Program.{Program}
use Rattle.jn_points.specs.Lookup.{class_info}
use Rattle.jn_points.specs.Members.{some_of, first_or, first_some, is_class, walk_by, reaches}
use Rattle.jn_member_tables.specs.Numbers.{contains}

-- xs finds what any walk of at least i steps from class c finds, and has what such a walk reaches
pub record IsWalk (P : Program) (i c : ℕ) (xs : List ℕ) : Type 0 where
  pub first : (f : ℕ → Option ℕ) (k : ℕ) → i ≤ k → first_some f (walk_by P k c) ≡ first_some f xs
  pub reach : (d k : ℕ) → i ≤ k → reaches P k c d ≡ contains xs d

-- what is found along a parent's walk
abbrev pub parent_found : (ℕ → Option ℕ) → Option ClassNo → Option ℕ
parent_found found None = None
parent_found found (Some p) = found p.0

-- the first that is found along the walks of the classes that aren't the parent
abbrev pub others_found : (ℕ → Option ℕ) → Option ClassNo → List ClassNo → Option ℕ
others_found found parent [] = None
others_found found parent (s ∷ ss) = cond (is_class parent s) (others_found found parent ss) (first_or (found s.0) (others_found found parent ss))

-- the parent stands among the supertypes
abbrev pub names_parent : Option ClassNo → List ClassNo → Bool
names_parent None ss = true
names_parent (Some p) ss = some_of (λ s. is_class (Some p) s) ss

abbrev pub is_some : Option ℕ → Bool
is_some None = false
is_some (Some n) = true

-- the root of a class's tree, where it has one
abbrev pub root_at : List (Option ℕ) → ℕ → Option ℕ
root_at roots c = slice_index_or roots c None

abbrev pub has_root : List (Option ℕ) → ℕ → Bool
has_root roots c = is_some (root_at roots c)

abbrev pub all_rooted : List (Option ℕ) → List ClassNo → Bool
all_rooted roots [] = true
all_rooted roots (s ∷ ss) = has_root roots s.0 && all_rooted roots ss

abbrev pub is_ready : List (Option ℕ) → Class → Bool
is_ready roots x = all_rooted roots x.supers && names_parent x.parent x.supers

-- how many classes have their tree
abbrev pub rooted_count : List (Option ℕ) → ℕ
rooted_count [] = 0
rooted_count (r ∷ rs) = cond (is_some r) (suc (rooted_count rs)) (rooted_count rs)

-- what has its tree keeps one
abbrev pub Keeps : List (Option ℕ) → List (Option ℕ) → Type 0
Keeps old new = (d : ℕ) → has_root old d ≡ true → has_root new d ≡ true

-- class c gets its tree where it was ready
abbrev pub GetsRoot : Program → List (Option ℕ) → List (Option ℕ) → ℕ → Type 0
GetsRoot P old new c = (x : Class) → class_info P c ≡ Some x → c < length old → is_ready old x ≡ true → has_root new c ≡ true

-- each class has its tree
abbrev pub AllRooted : Program → List (Option ℕ) → Type 0
AllRooted P roots = (c : ℕ) → c < length P.classes → has_root roots c ≡ true
