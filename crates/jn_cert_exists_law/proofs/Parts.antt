-- Least tables are parts of a certificate, and those of an accepted program hold.
use Rattle.std.proofs.Common.{◌≡◌, ℕ, ◌<◌, List, [], length, Option, refl, ◌∙◌}
use Rattle.std.specs.Prelude.{slice_index_or}
use Rattle.jn_quals.specs.Qualifier.{Qualifier}
use Rattle.jn_points.specs.BaseRows.{NoBaseRows}
use Rattle.jn_points.specs.Regular.{Regular}
use Rattle.jn_points.specs.declared.program.Program.{Program}
use Rattle.jn_sigs.specs.Signature.{start_signature}
use Rattle.jn_sigs.proofs.Starts.{length-starts_from}
use Rattle.jn_env.specs.Environment.{Env}
use Rattle.jn_transfer.specs.Closing.{IsClosed, IsNotBelowStart}
use Rattle.jn_transfer.specs.Least.{IsLeastTable}
use Rattle.jn_transfer.specs.Rules.{Breaks}
use Rattle.jn_tables_law.proofs.Climbing.{least_is_table}
use Rattle.jn_regular_law.proofs.Whole.{point_regular, regular_typed}
use Rattle.jn_tables_law.proofs.Inferring.{regular_inferable}
use Rattle.jn_cert_form.specs.Form.{ArePlain, AreParts, cert_bytes}
use Rattle.jn_cert_law.specs.Certificate.{CertHolds}
use Rattle.jn_cert_law.specs.Holds.{KeepsWritten}
use Rattle.jn_cert_law.proofs.Accepting.{least_holds}
use Rattle.jn_inference_law.specs.Solution.{IsLeastSignature}
use Rattle.jn_cert_exists_law.proofs.Plain.{entry_plain, least_plain}
use Rattle.jn_cert_exists_law.proofs.Written.{keeps_written, length-within}

module _ (P : Program) (s : List Qualifier) where
  pub table_plain : (b : ℕ) (t : List (Option Env)) → Regular P → NoBaseRows P → b < length P.bodies → IsLeastTable P s b t → ArePlain P b t
  table_plain b t R N lt is =
      let B = regular_typed P R N in
      least_plain P R s b (λ p pt at. ((point_regular P R b p pt at).typed, B.points b p pt at)) (entry_plain P R s b lt) t is

  pub are_parts : (tables : List (List (Option Env))) → Regular P → NoBaseRows P → length s ≡ length P.slots → length tables ≡ length P.bodies → ((b : ℕ) → b < length P.bodies → IsLeastTable P s b (slice_index_or tables b [])) → AreParts P s tables
  are_parts tables R N slots bodies least = record {
    slots = slots;
    bodies = bodies;
    each = λ b lt.
        let is = least b lt in
        let table = least_is_table P s b ((regular_inferable P R).inside b lt) (slice_index_or tables b []) is in
        record { long = table.long; sized = table.sized; plain = table_plain b (slice_index_or tables b []) R N lt is };
  }

  pub certified : (tables : List (List (Option Env))) → Regular P → NoBaseRows P → length tables ≡ length P.bodies → ((b : ℕ) → b < length P.bodies → IsLeastTable P s b (slice_index_or tables b [])) → IsClosed P s → IsNotBelowStart P s → KeepsWritten P s → Breaks P s [] → CertHolds P (cert_bytes P s tables)
  certified tables R N bodies least closed starts written breaks = record {
    sig = s;
    tables = tables;
    form = record { parts = are_parts tables R N (length-within (start_signature P) s starts ∙ length-starts_from P 0 P.slots) bodies least; text = refl };
    holds = least_holds P (regular_inferable P R) s tables bodies least closed starts written breaks;
  }

  pub solved_certified : (tables : List (List (Option Env))) → Regular P → NoBaseRows P → length tables ≡ length P.bodies → ((b : ℕ) → b < length P.bodies → IsLeastTable P s b (slice_index_or tables b [])) → IsLeastSignature P s → Breaks P s [] → CertHolds P (cert_bytes P s tables)
  solved_certified tables R N bodies least is breaks = certified tables R N bodies least is.closed is.starts (keeps_written P R s is) breaks
