use Rattle.std.proofs.Common.{◌≡◌, ◌+◌, ◌++◌, List, [], ◌∷◌, ap, sym, subst, take, ◌∙◌}
use Rattle.std.proofs.lemmas.List.{take_more}
use Rattle.nullcheck_lsp_top.specs.declared.client.Home.{Home}
use Rattle.nullcheck_lsp_top.specs.Looking.{AreReal, Listing, home_at, listing}
use Rattle.nullcheck_lsp_top.proofs.Searching.{real_more}
use Rattle.nullcheck_lsp_top.proofs.finding.real_homes.Goals as goal

pub loop-home-preserved : goal.loop-home-preserved
loop-home-preserved g c =
    let l = c.loop-home in
    let homes = c.args.homes.now in
    let home = c.home-item.result in
    let is = c.in_ok-made.ensures.is in
    let made = home_at home.path is.0 in
    let old = listing (g.D.Folder.told c.args.folder.now) (g.D.Folder.faults c.args.folder.now) in
    let mid = listing (g.D.Folder.told l.folder) (g.D.Folder.faults l.folder) in
    let new = listing (g.D.Folder.told c.real_home.new.folder) (g.D.Folder.faults c.real_home.new.folder) in
    let more = take_more homes l.home-index home c.loop-home-test.true ∙ ap (λ (h : Home). take l.home-index homes ++ h ∷ []) (sym c.home-item.is) in
    let pushed = c.in_ok-push.ensures.ok ∙ ap (λ (h : Home). l.after ++ h ∷ []) is.1 in
    subst (λ (hs : List Home). AreReal hs c.push.new.self old new) (sym more)
    (subst (λ (as_ : List Home). AreReal (take l.home-index homes ++ home ∷ []) as_ old new) (sym pushed)
    (real_more (take l.home-index homes) home l.after old mid (g.D.Folder.told c.real_home.new.folder) (g.D.Folder.faults c.real_home.new.folder) is.0 l.invariant is.2 c.in_ok-made.ensures.kept))

pub returns-in_err-made-clause-first : goal.returns-in_err-made-clause-first
returns-in_err-made-clause-first g c =
    let l = c.loop-home in
    let old = listing (g.D.Folder.told c.args.folder.now) (g.D.Folder.faults c.args.folder.now) in
    let mid = listing (g.D.Folder.told l.folder) (g.D.Folder.faults l.folder) in
    let new = listing (g.D.Folder.told c.real_home.new.folder) (g.D.Folder.faults c.real_home.new.folder) in
    let same : mid ≡ new = λ i. listing (sym c.in_err-made.ensures.spared i) (sym c.in_err-made.ensures.kept i) in
    (l.home-index, l.after, subst (λ (n : Listing). AreReal (take l.home-index c.args.homes.now) l.after old n) same l.invariant)

pub returns-in_err-push-clause-first : goal.returns-in_err-push-clause-first
returns-in_err-push-clause-first g c =
    let l = c.loop-home in
    let homes = c.args.homes.now in
    let home = c.home-item.result in
    let is = c.in_ok-made.ensures.is in
    let old = listing (g.D.Folder.told c.args.folder.now) (g.D.Folder.faults c.args.folder.now) in
    let mid = listing (g.D.Folder.told l.folder) (g.D.Folder.faults l.folder) in
    let new = listing (g.D.Folder.told c.real_home.new.folder) (g.D.Folder.faults c.real_home.new.folder) in
    let more = take_more homes l.home-index home c.loop-home-test.true ∙ ap (λ (h : Home). take l.home-index homes ++ h ∷ []) (sym c.home-item.is) in
    let after = l.after ++ home_at home.path is.0 ∷ [] in (
      l.home-index + 1,
      after,
      subst (λ (hs : List Home). AreReal hs after old new) (sym more)
          (real_more (take l.home-index homes) home l.after old mid (g.D.Folder.told c.real_home.new.folder) (g.D.Folder.faults c.real_home.new.folder) is.0 l.invariant is.2 c.in_ok-made.ensures.kept),
    )

pub returns-clause-first : goal.returns-clause-first
returns-clause-first g c = (c.loop-home.home-index, c.loop-home.after, c.loop-home.invariant)
