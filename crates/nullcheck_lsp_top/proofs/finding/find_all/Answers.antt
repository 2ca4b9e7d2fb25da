use Rattle.std.proofs.Common.{ℕ, List, subst}
use Rattle.nullcheck_lsp_top.specs.declared.client.Home.{Home}
use Rattle.nullcheck_lsp_top.specs.Looking.{AreInFolders, BeginsInFolders, finds, listing}
use Rattle.nullcheck_lsp_top.proofs.finding.find_all.Goals as goal

pub returns-clause-found : goal.returns-clause-found
returns-clause-found g c =
    let old = listing (g.D.Folder.told c.args.folder.now) (g.D.Folder.faults c.args.folder.now) in
    let new = listing (g.D.Folder.told c.find_in_folders.new.folder) (g.D.Folder.faults c.find_in_folders.new.folder) in
    let found = finds c.in_ok-found.found.names.items c.in_ok-found.found.missed.items c.in_ok-found.found.unnamed.items in
    let one = subst (λ (names : List (List ℕ)). AreInFolders names c.as_slice-2.result.now old new found) c.as_slice.ensures c.in_ok-found.ensures.found in
    (found.names, subst (λ (homes : List Home). AreInFolders c.args.root.now.exclude homes old new found) c.as_slice-2.ensures one, c.in_ok-order.ensures)

pub returns-in_err-found-clause-begins : goal.returns-in_err-found-clause-begins
returns-in_err-found-clause-begins g c =
    let old = listing (g.D.Folder.told c.args.folder.now) (g.D.Folder.faults c.args.folder.now) in
    let new = listing (g.D.Folder.told c.find_in_folders.new.folder) (g.D.Folder.faults c.find_in_folders.new.folder) in
    let one = subst (λ (names : List (List ℕ)). BeginsInFolders names c.as_slice-2.result.now old new) c.as_slice.ensures c.in_err-found.ensures.begins in
    subst (λ (homes : List Home). BeginsInFolders c.args.root.now.exclude homes old new) c.as_slice-2.ensures one

pub returns-in_err-order-clause-begins : goal.returns-in_err-order-clause-begins
returns-in_err-order-clause-begins g c =
    let old = listing (g.D.Folder.told c.args.folder.now) (g.D.Folder.faults c.args.folder.now) in
    let new = listing (g.D.Folder.told c.find_in_folders.new.folder) (g.D.Folder.faults c.find_in_folders.new.folder) in
    let one = subst (λ (names : List (List ℕ)). BeginsInFolders names c.as_slice-2.result.now old new) c.as_slice.ensures c.in_ok-found.ensures.begins in
    subst (λ (homes : List Home). BeginsInFolders c.args.root.now.exclude homes old new) c.as_slice-2.ensures one

pub returns-clause-begins : goal.returns-clause-begins
returns-clause-begins g c =
    let old = listing (g.D.Folder.told c.args.folder.now) (g.D.Folder.faults c.args.folder.now) in
    let new = listing (g.D.Folder.told c.find_in_folders.new.folder) (g.D.Folder.faults c.find_in_folders.new.folder) in
    let one = subst (λ (names : List (List ℕ)). BeginsInFolders names c.as_slice-2.result.now old new) c.as_slice.ensures c.in_ok-found.ensures.begins in
    subst (λ (homes : List Home). BeginsInFolders c.args.root.now.exclude homes old new) c.as_slice-2.ensures one
