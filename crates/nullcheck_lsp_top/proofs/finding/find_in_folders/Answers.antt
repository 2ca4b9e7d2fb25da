use Rattle.std.proofs.Common.{◌++◌, List, [], ◌∷◌, ap, arith, sym, subst, take, ◌∙◌}
use Rattle.std.proofs.lemmas.List.{take_all, take_more}
use Rattle.nullcheck_lsp_top.specs.declared.client.Home.{Home}
use Rattle.nullcheck_lsp_top.specs.Looking.{AreInFolders, finds, listing}
use Rattle.nullcheck_lsp_top.proofs.Searching.{begins_all, begins_part, below_more}
use Rattle.nullcheck_lsp_top.proofs.finding.find_in_folders.Goals as goal

pub loop-home-preserved : goal.loop-home-preserved
loop-home-preserved g c =
    let l = c.loop-home in
    let homes = c.args.homes.now in
    let home = c.home-item.result in
    let old = listing (g.D.Folder.told c.args.folder.now) (g.D.Folder.faults c.args.folder.now) in
    let mid = listing (g.D.Folder.told l.folder) (g.D.Folder.faults l.folder) in
    let new = listing (g.D.Folder.told c.find_below.new.folder) (g.D.Folder.faults c.find_below.new.folder) in
    let before = finds l.found.names.items l.found.missed.items l.found.unnamed.items in
    let after = finds c.find_below.new.found.names.items c.find_below.new.found.missed.items c.find_below.new.found.unnamed.items in
    let more = take_more homes l.home-index home c.loop-home-test.true ∙ ap (λ (h : Home). take l.home-index homes ++ h ∷ []) (sym c.home-item.is) in
    subst (λ (hs : List Home). AreInFolders c.args.exclude.now hs old new after) (sym more) (below_more c.args.exclude.now (take l.home-index homes) home old mid new before after l.invariant c.in_ok-find_below.ensures.below)

pub returns-in_err-find_below-clause-begins : goal.returns-in_err-find_below-clause-begins
returns-in_err-find_below-clause-begins g c =
    let l = c.loop-home in
    let old = listing (g.D.Folder.told c.args.folder.now) (g.D.Folder.faults c.args.folder.now) in
    let mid = listing (g.D.Folder.told l.folder) (g.D.Folder.faults l.folder) in
    let new = listing (g.D.Folder.told c.find_below.new.folder) (g.D.Folder.faults c.find_below.new.folder) in
    let before = finds l.found.names.items l.found.missed.items l.found.unnamed.items in
    begins_part c.args.exclude.now c.args.homes.now l.home-index c.home-item.result old mid new before c.loop-home-test.true c.home-item.is l.invariant c.in_err-find_below.ensures.begins

pub returns-clause-begins : goal.returns-clause-begins
returns-clause-begins g c =
    let l = c.loop-home in
    let homes = c.args.homes.now in
    let old = listing (g.D.Folder.told c.args.folder.now) (g.D.Folder.faults c.args.folder.now) in
    let now = listing (g.D.Folder.told l.folder) (g.D.Folder.faults l.folder) in
    let found = finds l.found.names.items l.found.missed.items l.found.unnamed.items in
    let all = take_all l.home-index homes (let le = c.loop-home-test.false in omega (arith, le)) in
    begins_all c.args.exclude.now homes old now found (subst (λ (hs : List Home). AreInFolders c.args.exclude.now hs old now found) all l.invariant)
