use Rattle.std.proofs.Common.{◌≡◌, [], sym, subst}
use Rattle.std.specs.Prelude.{IfErr, IfOk}
use Rattle.jn_accept.specs.Accepting.{AreRowsOf}
use Rattle.jn_front.specs.Files.{files_of_reads}
use Rattle.jn_tables_law.specs.Inferable.{IsInferable}
use Rattle.jn_inference_law.specs.Solution.{IsLeastSignature}
use Rattle.jn_system.specs.Rows.{AreBroken}
use Rattle.nullcheck_top.specs.Found.{IsFinding}
use Rattle.nullcheck_top.proofs.Reporting.{checked_finding, rows_of_rules}
use Rattle.nullcheck_top.proofs.check.checked.Goals as goal

pub solve_sig-requires-clause-inferable : goal.solve_sig-requires-clause-inferable
solve_sig-requires-clause-inferable g c κs lives = subst IsInferable (sym c.indexed.ensures.is) (c.regular_programs_are_inferable.ensures.inferable c.args.base c.requires.program.of_files.regular)

pub check_all-requires-clause-inferable : goal.check_all-requires-clause-inferable
check_all-requires-clause-inferable g c κs lives = subst IsInferable (sym c.indexed-2.ensures.is) (c.regular_programs_are_inferable.ensures.inferable c.args.base c.requires.program.of_files.regular)

pub accept-made-requires-clause-closed : goal.accept-made-requires-clause-closed
accept-made-requires-clause-closed g c = (subst (λ P. IsLeastSignature P c.in_ok-sig.sig) c.indexed.ensures.is c.in_ok-sig.ensures).closed

pub accept-made-requires-clause-starts : goal.accept-made-requires-clause-starts
accept-made-requires-clause-starts g c = (subst (λ P. IsLeastSignature P c.in_ok-sig.sig) c.indexed.ensures.is c.in_ok-sig.ensures).starts

pub accept-made-requires-clause-broken : goal.accept-made-requires-clause-broken
accept-made-requires-clause-broken g c =
    let sig = c.in_ok-sig.sig in
    let broken = subst (λ P. AreBroken P sig c.in_ok-rows.rows.items) c.indexed-2.ensures.is c.in_ok-rows.ensures in
    subst (λ rs. AreRowsOf c.args.base sig rs) (sym c.deref.ensures.value) (rows_of_rules c.args.base sig c.in_ok-rows.rows.items broken)

pub returns : goal.returns
returns g c =
    let files = files_of_reads c.args.reads.now in
    let sig = c.in_ok-sig.sig in
    let rows = c.in_ok-rows.rows.items in
    let least = subst (λ P. IsLeastSignature P sig) c.indexed.ensures.is c.in_ok-sig.ensures in
    let broken = subst (λ P. AreBroken P sig rows) c.indexed-2.ensures.is c.in_ok-rows.ensures in
    let taken = subst (λ rs. IfOk c.accept-made.result (λ a. (rs ≡ []) × (a ≡ (c.args.base, sig)))) c.deref.ensures.value c.accept-made.ensures.accepted in
    let refused = subst (λ rs. IfErr c.accept-made.result (λ r. (rs ≡ [] → ⊥) × (r.0 ≡ c.args.base) × (r.1 ≡ sig))) c.deref.ensures.value c.accept-made.ensures.refused in
    subst (IsFinding c.args.infer files c.args.names.now) (sym c.found_by.ensures)
    (checked_finding c.args.infer files c.args.names.now c.args.base sig rows c.requires.program least broken c.accept-made.result taken refused)
