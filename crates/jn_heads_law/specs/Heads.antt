-- Programs that declare the same but for places: their bodies may differ.
use Rattle.std.specs.Prelude.{◌≡◌, map}
use Rattle.jn_points.specs.declared.program.Program.{Program}
use Rattle.jn_places_law.specs.Bare.{bare_class, bare_field, bare_method}

-- the programs declare the same but for places: they may differ in their bodies and slots
pub record HeadsAlike (P Q : Program) : Type 0 where
  pub classes : map bare_class P.classes ≡ map bare_class Q.classes
  pub fields : map bare_field P.fields ≡ map bare_field Q.fields
  pub methods : map bare_method P.methods ≡ map bare_method Q.methods
