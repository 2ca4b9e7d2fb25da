-- The classes that declare a field of a name, found along the supertypes of each class.
use Rattle.std.specs.Prelude.{ℕ, suc, ◌≡◌, ◌<◌, ◌≤◌, Bool, true, false, cond, ◌&&◌, eqb, ltb, List, [], ◌∷◌, length, flat_map, Option, Some, None}
use Rattle.jn_base.specs.declared.number.ClassNo.{ClassNo}
use Rattle.jn_points.specs.declared.program.Class.{Class}
use Rattle.jn_points.specs.declared.program.Field.{Field}
use Rattle.jn_points.specs.declared.program.Program.{Program}
use Rattle.jn_points.specs.Lookup.{field_info}
use Rattle.jn_points.specs.Members.{some_of, first_or, reaches}
use Rattle.jn_member_tables.specs.declared.tables.Entry.{Entry}
use Rattle.jn_member_tables.specs.Tables.{Trees, find_in}

-- class d declares a field of the name
abbrev pub declares : Program → ℕ → ℕ → Bool
declares P d name = some_of (λ (y : Field). eqb y.owner.0 d && eqb y.name.0 name) P.fields

-- a field gives the class that declares it an entry at its name, where that is below n
abbrev pub owner_entry : ℕ → ℕ → Option Field → List Entry
owner_entry n d None = []
owner_entry n d (Some f) = cond (eqb f.owner.0 d && ltb f.name.0 n) (record { key = f.name.0; value = d } ∷ []) []

abbrev pub owner_entries : Program → ℕ → ℕ → List ℕ → List Entry
owner_entries P n d ks = flat_map (λ k. owner_entry n d (field_info P k)) ks

-- walks end and stay inside, and along the walk of a class the table finds a class that declares a field of a name below n, where there is one
pub record AreOwners (P : Program) (n : ℕ) (t : Trees) : Type 0 where
  pub steady : (c d : ℕ) → c < length P.classes → reaches P (suc (length P.classes)) c d ≡ reaches P (length P.classes) c d
  pub within : (c d k : ℕ) → c < length P.classes → reaches P k c d ≡ true → d < length P.classes
  pub none : (c d name : ℕ) → c < length P.classes → name < n → find_in t c name ≡ None → reaches P (length P.classes) c d ≡ true → declares P d name ≡ false
  pub some : (c d name : ℕ) → c < length P.classes → name < n → find_in t c name ≡ Some d → (reaches P (length P.classes) c d ≡ true) × (declares P d name ≡ true)

-- why tables don't tell whether a field of a class hides one: its name isn't below n, Object or a class above it declares a field of
-- the name, or the class stands above itself
pub data Untold (P : Program) (n : ℕ) (x : Field) (info : Class) : Type 0 where
  past : n ≤ x.name.0 → Untold P n x info
  object : (d : ℕ) → reaches P (length P.classes) 0 d ≡ true → declares P d x.name.0 ≡ true → Untold P n x info
  circle : some_of (λ (s : ClassNo). reaches P (length P.classes) s.0 x.owner.0) info.supers ≡ true → Untold P n x info

-- the first class that the tables of some supertypes have
abbrev pub found_above : Trees → ℕ → List ClassNo → Option ℕ
found_above t name [] = None
found_above t name (s ∷ ss) = first_or (find_in t s.0 name) (found_above t name ss)
