use Rattle.std.proofs.Common.{subst}
use Rattle.jn_lsp.specs.Publications.{Announces}
use Rattle.jn_lsp.specs.Serving.{AreAnswers, ServerOf, Takes}
use Rattle.jn_lsp.proofs.Upholding.{informed_anew, takes_alone, takes_anew}
use Rattle.jn_lsp.proofs.server.Server.take.Goals as goal

pub returns-in-None-clause-takes : goal.returns-in-None-clause-takes
returns-in-None-clause-takes g c =
    let i = c.self.inside in
    let next = c.behind_event-next.result in
    let answers = subst (λ t. AreAnswers i.phase t i.workspace c.args.event.now c.in_ok-direct.direct) c.as_slice.ensures.value c.in_ok-direct.ensures in
    let after : ServerOf = record { phase = next; workspace = i.workspace; told = i.told.items; last = i.last } in
    subst (λ (b : ServerOf). Takes b c.args.event.now c.into_vec.result.items after) c.self.view_is
    (takes_alone i.phase next i.workspace i.told.items i.last c.args.event.now c.in_ok-direct.direct c.into_vec.result.items c.in_ok-moved.moved c.behind_event-next.ensures answers c.in_ok-moved.ensures c.in-None.is c.into_vec.ensures)

pub returns-clause-takes : goal.returns-clause-takes
returns-clause-takes g c =
    let i = c.self.inside in
    let next = c.behind_event-next.result in
    let workspace = c.in-Some.workspace in
    let news = c.in_ok-files-in-Some.field-0 in
    let found = c.in_ok-files-in-Some.ensures in
    let before : ServerOf = record { phase = i.phase; workspace = i.workspace; told = i.told.items; last = i.last } in
    let after : ServerOf = record { phase = next; workspace = workspace; told = news.told.items; last = c.keep.new.last } in
    let answers = subst (λ t. AreAnswers i.phase t i.workspace c.args.event.now c.in_ok-direct.direct) c.as_slice.ensures.value c.in_ok-direct.ensures in
    let announced = subst (λ t. Announces c.in_ok-opened.opened workspace.versions t news.told.items news.publications) c.as_slice-in-Some.ensures.value found.announced in
    subst (λ (b : ServerOf). Takes b c.args.event.now c.in_ok-replies-in-Some.replies.items after) c.self.view_is
    (takes_anew before next c.args.event.now c.in_ok-direct.direct news.publications c.in_ok-replies-in-Some.replies.items c.in_ok-opened.opened c.in_ok-moved.moved workspace news.files news.came news.all.items news.told.items c.keep.new.last c.behind_event-next.ensures answers c.in_ok-moved.ensures c.in-Some.is c.in_ok-opened.ensures found.told found.stood announced c.in_ok-replies-in-Some.ensures c.keep.ensures)

pub invariant_of-self-in-Some : goal.invariant_of-self-in-Some
invariant_of-self-in-Some g c =
    let news = c.in_ok-files-in-Some.field-0 in
    let found = c.in_ok-files-in-Some.ensures in
    informed_anew c.in-Some.workspace c.self.inside.last c.keep.new.last news.came news.files news.all.items news.told.items found.told found.stood c.keep.ensures
