-- The causes of a body with its table are those of the program's.
use Rattle.std.proofs.Common.{◌≡◌, ℕ, List, [], ◌++◌, ◌∙◌, ap, subst}
use Rattle.std.specs.Prelude.{slice_index_or}
use Rattle.jn_quals.specs.Qualifier.{Qualifier}
use Rattle.jn_points.specs.declared.program.Program.{Program}
use Rattle.jn_env.specs.Order.{Table}
use Rattle.jn_reasons_law.specs.declared.item.Bit.{Bit}
use Rattle.jn_reasons_law.specs.declared.item.Item.TheVariants.{AtRegister}
use Rattle.jn_reasons.specs.declared.causes.Cause.{Cause}
use Rattle.jn_reasons.specs.Listed.{body_causes, register_causes, causes}
use Rattle.jn_origins.specs.OneBody.{TabledBody, tabled_by}
use Rattle.jn_origins.specs.Targets.{AreSame}

pub sent_for : (P : Program) (s : List Qualifier) (tables : List Table) (b k : ℕ) (bit : Bit) (t : TabledBody) (list new : List Cause) → t ≡ tabled_by P s b (slice_index_or tables b [])
    → new ≡ list ++ body_causes t.program t.body t.table k bit → new ≡ list ++ body_causes P b (slice_index_or tables b []) k bit
sent_for P s tables b k bit t list new e h = h ∙ ap (λ (x : TabledBody). list ++ body_causes x.program x.body x.table k bit) e

pub causes_for : (P : Program) (s : List Qualifier) (tables : List Table) (b p r : ℕ) (bit : Bit) (t : TabledBody) (list : List Cause) → t ≡ tabled_by P s b (slice_index_or tables b [])
    → AreSame list (register_causes t.program t.sig t.body t.table p r bit) → AreSame list (causes P s tables (AtRegister b p r bit))
causes_for P s tables b p r bit t list e h = subst (λ (x : TabledBody). AreSame list (register_causes x.program x.sig x.body x.table p r bit)) e h
