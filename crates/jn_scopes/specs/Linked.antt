-- Where the last variable of each group of names stands.
use Rattle.std.specs.Prelude.{ℕ, ◌≡◌, ◌<◌, ◌≤◌, ◌-◌, ◌^◌, ◌%◌, List, length, slice_index, slice_index_or}
use Rattle.jn_scopes.specs.declared.context.Variable.{Variable}

-- names fall into 64 groups
abbrev pub group_of : Variable → ℕ
group_of v = v.name.0 % 64

-- 1 + the place of the last variable of the group before the place n; 0 where none is of it
pub record IsLast (vs : List Variable) (n group k : ℕ) : Type 0 where
  pub within : k ≤ n
  pub there : (v : Variable) → 0 < k → group_of (slice_index_or vs (k - 1) v) ≡ group
  pub behind : (i : ℕ) (v : Variable) → k ≤ i → i < n → group_of (slice_index_or vs i v) ≡ group → ⊥

-- for each variable the last one of its group before it, and for each group the last one of all
pub record Linked (vs : List Variable) (previous ends : List ℕ) : Type 0 where
  pub few : length vs < 2 ^ 32
  pub lengths : length previous ≡ length vs
  pub groups : length ends ≡ 64
  pub before : (p : ℕ) (v : Variable) → p < length vs → IsLast vs p (group_of (slice_index_or vs p v)) (slice_index previous p)
  pub last : (group : ℕ) → group < 64 → IsLast vs (length vs) group (slice_index ends group)
