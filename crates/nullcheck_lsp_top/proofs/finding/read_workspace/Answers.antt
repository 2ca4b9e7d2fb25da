use Rattle.std.proofs.Common.{rules, ◌≡◌, ◌∙◌, ap, inl, length, refl, subst}
use Rattle.nullcheck_lsp_top.specs.Looking.{outside}
use Rattle.nullcheck_lsp_top.specs.Reading.{AreTaken, ReadsFirst, is_many, names_taken, source, warnings_of}
use Rattle.nullcheck_lsp_top.proofs.Reading.{warned_by}
use Rattle.nullcheck_lsp_top.proofs.Starting.{starts_files}
use Rattle.nullcheck_lsp_top.proofs.finding.read_workspace.Goals as goal

pub returns-clause-found : goal.returns-clause-found
returns-clause-found g c =
    let held = g.F.Files.held c.args.files.now in
    let old = outside (g.D.Folder.told c.args.folder.now) (g.D.Folder.faults c.args.folder.now) (g.F.Files.gave c.args.files.now) (g.F.Files.faults c.args.files.now) in
    let new = outside (g.D.Folder.told c.find.new.folder) (g.D.Folder.faults c.find.new.folder) (g.F.Files.gave c.take_files.new.files) (g.F.Files.faults c.take_files.new.files) in
    let names = c.in_ok-found.found.names.items in
    let missed = c.in_ok-found.found.missed.items in
    let unnamed = c.in_ok-found.found.unnamed.items in
    let lost = c.in_ok-reads.reads.lost in
    let count : c.len.result ≡ length names = search rules in
    let warned : c.in_ok-warnings.warnings ≡ warnings_of (length names) missed unnamed lost = warned_by c.in_ok-warnings.warnings c.len.result (length names) c.deref-3.result.now missed c.deref-4.result.now unnamed c.as_slice.result.now lost c.in_ok-warnings.ensures count c.deref-3.ensures.value c.deref-4.ensures.value c.as_slice.ensures in
    record {
      names = names;
      missed = missed;
      unnamed = unnamed;
      lost = lost;
      named = c.in_ok-found.ensures.found;
      read =
          subst (λ b. AreTaken held b names (source old.gave old.reads) (source new.gave new.reads) c.in_ok-reads.reads.files lost) (c.is_many-many.ensures ∙ ap is_many c.deref.ensures.value)
          (subst (λ ns. AreTaken held c.is_many-many.result ns (source old.gave old.reads) (source new.gave new.reads) c.in_ok-reads.reads.files lost) c.deref-2.ensures.value c.in_ok-reads.ensures.taken);
      warned = warned;
    }

pub returns-in_err-found-clause-starts : goal.returns-in_err-found-clause-starts
returns-in_err-found-clause-starts g c = inl (c.in_err-found.ensures.begins, refl)

pub returns-in_err-reads-clause-starts : goal.returns-in_err-reads-clause-starts
returns-in_err-reads-clause-starts g c =
    let held = g.F.Files.held c.args.files.now in
    let old = outside (g.D.Folder.told c.args.folder.now) (g.D.Folder.faults c.args.folder.now) (g.F.Files.gave c.args.files.now) (g.F.Files.faults c.args.files.now) in
    let new = outside (g.D.Folder.told c.find.new.folder) (g.D.Folder.faults c.find.new.folder) (g.F.Files.gave c.take_files.new.files) (g.F.Files.faults c.take_files.new.files) in
    let names = c.in_ok-found.found.names.items in
    let many = c.is_many-many.result in
    let first : ReadsFirst held (names_taken many names) (source old.gave old.reads) new.gave = subst (λ ns. ReadsFirst held (names_taken many ns) (source old.gave old.reads) new.gave) c.deref-2.ensures.value c.in_err-reads.ensures.first in
    starts_files held c.args.root.now old new names c.in_ok-found.found.missed.items c.in_ok-found.found.unnamed.items many c.in_ok-found.ensures.found (c.is_many-many.ensures ∙ ap is_many c.deref.ensures.value) first

pub returns-in_err-warnings-clause-starts : goal.returns-in_err-warnings-clause-starts
returns-in_err-warnings-clause-starts g c =
    let held = g.F.Files.held c.args.files.now in
    let old = outside (g.D.Folder.told c.args.folder.now) (g.D.Folder.faults c.args.folder.now) (g.F.Files.gave c.args.files.now) (g.F.Files.faults c.args.files.now) in
    let new = outside (g.D.Folder.told c.find.new.folder) (g.D.Folder.faults c.find.new.folder) (g.F.Files.gave c.take_files.new.files) (g.F.Files.faults c.take_files.new.files) in
    let names = c.in_ok-found.found.names.items in
    let many = c.is_many-many.result in
    let first : ReadsFirst held (names_taken many names) (source old.gave old.reads) new.gave = subst (λ ns. ReadsFirst held (names_taken many ns) (source old.gave old.reads) new.gave) c.deref-2.ensures.value c.in_ok-reads.ensures.first in
    starts_files held c.args.root.now old new names c.in_ok-found.found.missed.items c.in_ok-found.found.unnamed.items many c.in_ok-found.ensures.found (c.is_many-many.ensures ∙ ap is_many c.deref.ensures.value) first

pub returns-clause-starts : goal.returns-clause-starts
returns-clause-starts g c =
    let held = g.F.Files.held c.args.files.now in
    let old = outside (g.D.Folder.told c.args.folder.now) (g.D.Folder.faults c.args.folder.now) (g.F.Files.gave c.args.files.now) (g.F.Files.faults c.args.files.now) in
    let new = outside (g.D.Folder.told c.find.new.folder) (g.D.Folder.faults c.find.new.folder) (g.F.Files.gave c.take_files.new.files) (g.F.Files.faults c.take_files.new.files) in
    let names = c.in_ok-found.found.names.items in
    let many = c.is_many-many.result in
    let first : ReadsFirst held (names_taken many names) (source old.gave old.reads) new.gave = subst (λ ns. ReadsFirst held (names_taken many ns) (source old.gave old.reads) new.gave) c.deref-2.ensures.value c.in_ok-reads.ensures.first in
    starts_files held c.args.root.now old new names c.in_ok-found.found.missed.items c.in_ok-found.found.unnamed.items many c.in_ok-found.ensures.found (c.is_many-many.ensures ∙ ap is_many c.deref.ensures.value) first
