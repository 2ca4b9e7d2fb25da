use Rattle.std.proofs.Common.{◌≡◌, ◌≤◌, ℕ, List, length, sym, ap, ◌∙◌, subst}
use Rattle.jn_points.specs.BaseRows.{NoBaseRows}
use Rattle.jn_points.specs.Regular.{Regular}
use Rattle.jn_inference_law.specs.Solution.{IsLeastSignature}
use Rattle.jn_cert_form.specs.Form.{AreParts, cert_bytes}
use Rattle.jn_cert_law.specs.Certificate.{CertHolds}
use Rattle.nullcheck_cert_write.specs.Making.{AreLeastTables, most_bytes}
use Rattle.nullcheck_cert_write.proofs.Solving.{Tables, long_sig, no_rows}
use Rattle.nullcheck_cert_write.proofs.making.written.Goals as goal

pub write_cert-requires-clause-parts : goal.write_cert-requires-clause-parts
write_cert-requires-clause-parts c =
    let P = c.program-program.result.now in
    let s = c.args.sig.now in
    let same = sym c.program-program.ensures.is in
    let regular = subst Regular same c.program-program.ensures.regular in
    let typed = subst NoBaseRows same c.program-program.ensures.typed in
    let least = subst (λ Q. IsLeastSignature Q s) same c.requires.least in
    let solved = c.in_ok-tables.ensures in
    subst (λ (ts : Tables). AreParts P s ts) (sym c.deref.ensures.value) (c.least_tables_have_a_form.ensures.parts P s c.in_ok-tables.tables.items regular typed (long_sig P s least) solved.many solved.each)

pub returns-in-Ok : goal.returns-in-Ok
returns-in-Ok c =
    let P = c.program-program.result.now in
    let B = c.args.base.now in
    let s = c.args.sig.now in
    let is = c.program-program.ensures.is in
    let tables = c.in_ok-tables.tables.items in
    let solved = subst (λ Q. AreLeastTables Q s tables) is c.in_ok-tables.ensures in
    let holds = c.accepted_programs_have_certificates.ensures.least B s tables c.program-program.ensures.regular c.program-program.ensures.typed solved.many solved.each c.requires.least c.requires.unbroken in
    let text : c.in-Ok.cert.items ≡ cert_bytes B s tables = c.in-Ok.ensures.written.text ∙ (ap (λ (ts : Tables). cert_bytes P s ts) c.deref.ensures.value ∙ ap (λ Q. cert_bytes Q s tables) is) in
    record {
      accepted = no_rows B s c.requires.least c.requires.unbroken;
      small = subst (λ (xs : List ℕ). length xs ≤ most_bytes) (sym c.of_vec.ensures) c.in-Ok.ensures.small;
      holds = subst (CertHolds B) (sym (c.of_vec.ensures ∙ text)) holds;
    }
