use Rattle.std.proofs.Common.{◌≡◌, [], ◌∷◌, ◌++◌, ◌+◌, ap, arith, refl, sym, ◌∙◌, take, subst}
use Rattle.std.proofs.lemmas.List.{take_all, take_more}
use Rattle.nullcheck_lsp_top.specs.Reading.{AreRead, ReadsMore, source}
use Rattle.nullcheck_lsp_top.proofs.Reading.{read_more}
use Rattle.nullcheck_lsp_top.proofs.Starting.{reads_all, reads_part}
use Rattle.nullcheck_lsp_top.proofs.texts.read_files.Goals as goal

pub loop-name-preserved : goal.loop-name-preserved
loop-name-preserved g c =
    let held = g.F.Files.held c.args.files.now in
    let old = source (g.F.Files.gave c.args.files.now) (g.F.Files.faults c.args.files.now) in
    let mid = source (g.F.Files.gave c.loop-name.files) (g.F.Files.faults c.loop-name.files) in
    let new = source (g.F.Files.gave c.read_one.new.files) (g.F.Files.faults c.read_one.new.files) in
    let names = c.args.names.now in
    let i = c.loop-name.name-index in
    let name = c.name-item.result in
    let front : take i names ++ name ∷ [] ≡ take (i + 1) names = ap (λ n. take i names ++ n ∷ []) c.name-item.is ∙ sym (take_more names i name c.loop-name-test.true) in
    let more : ReadsMore held (name ∷ []) mid new c.loop-name.reads.files c.read_one.new.reads.files c.loop-name.reads.lost c.read_one.new.reads.lost = subst (λ h. ReadsMore h (name ∷ []) mid new c.loop-name.reads.files c.read_one.new.reads.files c.loop-name.reads.lost c.read_one.new.reads.lost) c.loop-name.invariant.held c.in_ok-read_one.ensures.reads in
    record {
      held = c.in_ok-read_one.ensures.held ∙ c.loop-name.invariant.held;
      read = subst (λ ns. AreRead held ns old new c.read_one.new.reads.files c.read_one.new.reads.lost) front (read_more held (take i names) (name ∷ []) old mid new c.loop-name.reads.files c.read_one.new.reads.files c.loop-name.reads.lost c.read_one.new.reads.lost c.loop-name.invariant.read more);
    }

pub returns-in_err-read_one-clause-first : goal.returns-in_err-read_one-clause-first
returns-in_err-read_one-clause-first g c =
    let held = g.F.Files.held c.args.files.now in
    let old = source (g.F.Files.gave c.args.files.now) (g.F.Files.faults c.args.files.now) in
    let mid = source (g.F.Files.gave c.loop-name.files) (g.F.Files.faults c.loop-name.files) in
    reads_part held c.args.names.now c.loop-name.name-index c.name-item.result old mid c.loop-name.reads.files c.loop-name.reads.lost (g.F.Files.gave c.read_one.new.files) c.loop-name-test.true c.name-item.is c.loop-name.invariant.read c.in_err-read_one.ensures.little

pub returns-clause-first : goal.returns-clause-first
returns-clause-first g c =
    let held = g.F.Files.held c.args.files.now in
    let old = source (g.F.Files.gave c.args.files.now) (g.F.Files.faults c.args.files.now) in
    let mid = source (g.F.Files.gave c.loop-name.files) (g.F.Files.faults c.loop-name.files) in
    let names = c.args.names.now in
    let all : take c.loop-name.name-index names ≡ names = take_all c.loop-name.name-index names (let le = c.loop-name-test.false in omega (arith, le)) in
    reads_all held names old mid c.loop-name.reads.files c.loop-name.reads.lost (g.F.Files.gave c.loop-name.files) (subst (λ ns. AreRead held ns old mid c.loop-name.reads.files c.loop-name.reads.lost) all c.loop-name.invariant.read) refl
