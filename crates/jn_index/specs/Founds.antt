-- What tables find.
use Rattle.std.specs.Prelude.{ℕ, ◌≡◌, ◌<◌, true, List, length, Some}
use Rattle.jn_points.specs.declared.program.Program.{Program}
use Rattle.jn_points.specs.Members.{first_some, walk}
use Rattle.jn_member_tables.specs.Numbers.{contains}
use Rattle.jn_member_tables.specs.Along.{IsWalk, is_some}
use Rattle.jn_member_tables.specs.Tables.{Trees, find_in}
use Rattle.jn_index.specs.Entries.{open_method, open_field, method_key, field_key}
use Rattle.jn_index.specs.Busy.{is_busy}

-- walks end and stay inside, and the table has their classes
pub record AreClasses (P : Program) (t : Trees) : Type 0 where
  pub steady : (c : ℕ) → c < length P.classes → IsWalk P (length P.classes) c (walk P c)
  pub within : (c d : ℕ) → c < length P.classes → contains (walk P c) d ≡ true → d < length P.classes
  pub found : (c d : ℕ) → c < length P.classes → d < length P.classes → is_some (find_in t c d) ≡ contains (walk P c) d

abbrev pub AreMethods : Program → List (List ℕ) → Trees → Type 0
AreMethods P named t = (c name arity key : ℕ) → c < length P.classes → method_key P named name arity ≡ Some key → find_in t c key ≡ first_some (open_method P name arity) (walk P c)

abbrev pub AreFields : Program → List (List ℕ) → Trees → Type 0
AreFields P named t = (c name key : ℕ) → c < length P.classes → field_key P named name ≡ Some key → find_in t c key ≡ first_some (open_field P name) (walk P c)

abbrev pub AreBusy : Program → List (List ℕ) → List (List ℕ) → Trees → Type 0
AreBusy P own named t = (c d : ℕ) → c < length P.classes → is_busy P own named d ≡ true → contains (walk P c) d ≡ true → find_in t c d ≡ Some d
