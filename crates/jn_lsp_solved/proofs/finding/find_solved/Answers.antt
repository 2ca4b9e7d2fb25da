use Rattle.std.proofs.Common.{◌≤◌, ◌<◌, List, length, sym, subst, arith}
use Rattle.jn_front.specs.declared.source.SourceFile.{SourceFile}
use Rattle.jn_recheck.proofs.Reading.{reads_long}
use Rattle.jn_lsp_solved.proofs.finding.find_solved.Goals as goal

pub returns-then-listed-gt-MOST_FILES : goal.returns-then-listed-gt-MOST_FILES
returns-then-listed-gt-MOST_FILES g c =
    let many = subst (λ (files : List SourceFile). 64 < length files) c.as_slice-listed.ensures.are c.if-listed-gt-MOST_FILES.true in
    (_, c.in_ok-too_many_files.ensures.phase c.args.infer c.args.files.now many)

pub type_files-requires-clause-few : goal.type_files-requires-clause-few
type_files-requires-clause-few g c κs within =
    let long = reads_long c.in_ok-reads.reads.items c.as_slice-listed.result.now c.in_ok-reads.ensures.are in
    let few = c.if-listed-gt-MOST_FILES.false in
    subst (λ rs. length rs ≤ 64) (sym c.deref.ensures.value) (omega (arith, long, few))

pub solve_typed-requires-clause-few : goal.solve_typed-requires-clause-few
solve_typed-requires-clause-few g c κs within =
    let long = reads_long c.in_ok-reads.reads.items c.as_slice-listed.result.now c.in_ok-reads.ensures.are in
    let few = c.if-listed-gt-MOST_FILES.false in
    omega (arith, long, few)
