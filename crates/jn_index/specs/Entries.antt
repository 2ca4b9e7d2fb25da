-- What classes have of themselves, at keys: a class at its number, and open members at the first member of their name and arity.
use Rattle.std.specs.Prelude.{ℕ, ◌≡◌, ◌<◌, ◌||◌, Bool, not, cond, ◌&&◌, eqb, List, [], ◌∷◌, length, flat_map, Option, Some, None}
use Rattle.jn_points.specs.declared.program.Field.{Field}
use Rattle.jn_points.specs.declared.program.Method.{Method}
use Rattle.jn_points.specs.declared.program.Program.{Program}
use Rattle.jn_points.specs.Lookup.{field_info, method_at}
use Rattle.jn_points.specs.Members.{first_at, is_named}
use Rattle.jn_member_tables.specs.declared.tables.Entry.{Entry}
use Rattle.jn_member_tables.specs.Numbers.{list_at, first_in, passes}
use Rattle.jn_member_tables.specs.Tables.{entries_at}

abbrev pub entry_if : Option ℕ → ℕ → List Entry
entry_if None value = []
entry_if (Some key) value = record { key = key; value = value } ∷ []

-- class d has the method for its subclasses, too (JLS 8, 8.2)
abbrev pub is_open : Method → ℕ → Bool
is_open m d = not m.ctor && eqb m.owner.0 d && not m.is_private

abbrev pub is_open_field : Field → ℕ → Bool
is_open_field f d = eqb f.owner.0 d && not f.is_private

module _ (P : Program) where
  -- the method that class d declares for its subclasses
  abbrev pub open_method : ℕ → ℕ → ℕ → Option ℕ
  open_method name arity d = first_at (λ (m : Method). is_named m name arity && eqb m.owner.0 d && not m.is_private) 0 P.methods

  abbrev pub open_field : ℕ → ℕ → Option ℕ
  open_field name d = first_at (λ (f : Field). eqb f.name.0 name && eqb f.owner.0 d && not f.is_private) 0 P.fields

  abbrev pub is_named_at : ℕ → ℕ → ℕ → Bool
  is_named_at name arity k = passes (λ (m : Method). is_named m name arity) (method_at P k)

  abbrev pub is_field_named : ℕ → ℕ → Bool
  is_field_named name k = passes (λ (f : Field). eqb f.name.0 name) (field_info P k)

  module _ (named : List (List ℕ)) where
    abbrev pub method_key : ℕ → ℕ → Option ℕ
    method_key name arity = first_in (is_named_at name arity) (list_at named name)

    abbrev pub field_key : ℕ → Option ℕ
    field_key name = first_in (is_field_named name) (list_at named name)

    abbrev pub method_entry : ℕ → ℕ → Option Method → List Entry
    method_entry d k None = []
    method_entry d k (Some m) = cond (is_open m d) (entry_if (method_key m.name.0 (length m.params)) k) []

    abbrev pub field_entry : ℕ → ℕ → Option Field → List Entry
    field_entry d k None = []
    field_entry d k (Some f) = cond (is_open_field f d) (entry_if (field_key f.name.0) k) []

    abbrev pub method_entries : ℕ → List ℕ → List Entry
    method_entries d ks = flat_map (λ k. method_entry d k (method_at P k)) ks

    abbrev pub field_entries : ℕ → List ℕ → List Entry
    field_entries d ks = flat_map (λ k. field_entry d k (field_info P k)) ks

abbrev pub class_entries : Bool → ℕ → List Entry
class_entries listed c = cond listed (record { key = c; value = c } ∷ []) []

-- the lists of the numbers below n
pub record IsListed (n : ℕ) (of : ℕ → List Entry) (all : List (List Entry)) : Type 0 where
  pub long : length all ≡ n
  pub lists : (d : ℕ) → d < n → entries_at all d ≡ of d
