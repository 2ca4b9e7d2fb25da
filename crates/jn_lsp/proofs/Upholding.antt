-- A server keeps what is told true to the files, event by event.
use Rattle.std.proofs.Common.{◌≡◌, ℕ, Bool, true, false, List, [], ◌∷◌, ◌++◌, Option, Some, None, append-nil, refl, sym, ap, ◌∙◌, subst}
use Rattle.std.specs.Prelude.{option_to_list}
use Rattle.jn_base.specs.declared.infer.Infer.{Infer}
use Rattle.jn_command.specs.declared.report.Report.{Report}
use Rattle.jn_command.specs.declared.report.Report.TheVariants.{Refused, Checked}
use Rattle.jn_front.specs.declared.source.SourceFile.{SourceFile}
use Rattle.jn_lsp_text.specs.declared.encoding.Encoding.{Encoding}
use Rattle.jn_lsp_text.specs.declared.markup.Markup.{Markup}
use Rattle.jn_lsp_text.specs.declared.message.Message.{Message}
use Rattle.jn_lsp_text.specs.declared.reply.Action.{Action}
use Rattle.jn_lsp_text.specs.declared.reply.Diagnostic.{Diagnostic}
use Rattle.jn_lsp_text.specs.declared.reply.Hint.{Hint}
use Rattle.jn_lsp_text.specs.declared.reply.Hover.{Hover}
use Rattle.jn_lsp_text.specs.declared.reply.Reply.{Reply}
use Rattle.jn_note_words.specs.declared.note.Notes.{Notes}
use Rattle.jn_lsp.specs.declared.diagnostics.Told.{Told}
use Rattle.jn_lsp.specs.declared.documents.Workspace.{Workspace}
use Rattle.jn_lsp.specs.declared.event.Event.{Event}
use Rattle.jn_lsp.specs.declared.event.Event.TheVariants.{Folder, Message as MessageEvent}
use Rattle.jn_lsp.specs.declared.phase.Phase.{Phase}
use Rattle.jn_lsp.specs.declared.phase.Phase.TheVariants.{Waiting, Serving, ShutDown, Exited}
use Rattle.jn_lsp.specs.Publications.{Announces, last_published}
use Rattle.jn_lsp.specs.Serving.{AreAnswers, ArePublishedLast, AreToldOf, IsInformed, IsMovedIn, IsRetold, IsToldAnew, IsUpToDate, Serves, ServerOf, Takes, answer_of, files_of, opened_by, new_server, next_phase}
use Rattle.jn_lsp.specs.declared.unchecked.LastReport.{LastReport}
use Rattle.jn_lsp.specs.Reported.{AreFindings, AreTold, IsTold, comes_to_rules, next_last, reported_at}
use Rattle.jn_lsp.specs.Telling.{told_from, told_of}
use Rattle.jn_lsp.specs.Unknown.{doubts_in, hushed, unless_unknown}
use Rattle.jn_lsp.proofs.Answering.{IsSilent, each_answer}
use Rattle.jn_lsp.proofs.Hushing.{doubts_silent, hushed_told, own_hushed}
use Rattle.jn_lsp.proofs.LastPublished.{AreOwnTold, announced, last_both, told_own}
use Rattle.jn_lsp.proofs.Names.{stand_own, true_false}
use Rattle.jn_lsp.proofs.Rows.{told_named}

-- ---- answers publish nothing

module _ (name : List ℕ) (last : List Diagnostic) where
  answer_silent : (markup : Markup) (actions : List Action) (hints : List Hint) (hover : Option Hover) (phase : Phase) (message : Message) → IsSilent name last (answer_of markup actions hints hover phase message)
  answer_silent markup actions hints hover Waiting message = (each_answer name last markup actions hints hover message).1
  answer_silent markup actions hints hover Serving message = (each_answer name last markup actions hints hover message).3
  answer_silent markup actions hints hover ShutDown message = (each_answer name last markup actions hints hover message).5
  answer_silent markup actions hints hover (Exited in_order) _ = refl

  answers_silent : (server : ServerOf) (event : Event) (direct : List Reply) → AreAnswers server.phase server.told server.workspace event direct → last_published name last direct ≡ last
  answers_silent server (MessageEvent message) direct (actions, offered, hints, shown, hover, told, e) =
      let answer = option_to_list (answer_of server.workspace.markup actions hints hover server.phase message) in
      let warnings = doubts_in server.phase message server.workspace.documents server.workspace.unknown in
      ap (last_published name last) e
      ∙ last_both name last answer warnings
      ∙ ap (λ l. last_published name l warnings) (answer_silent server.workspace.markup actions hints hover server.phase message)
      ∙ doubts_silent name last server.phase message server.workspace.documents server.workspace.unknown
  answers_silent server (Folder files) direct e = ap (last_published name last) e

-- ---- one event

-- what is told is the same, whichever report came to the rules last, where this one comes there; else the last one is as it was
told_after : (infer : Infer) (encoding : Encoding) (before : LastReport) (came : Bool) (files : List SourceFile) (told : List Told) → IsTold infer encoding before came files told → IsTold infer encoding (next_last came files told before) came files told
told_after infer encoding before false files told is = is
told_after infer encoding before true [] told is = is
told_after infer encoding before true (file ∷ files) told is = by_report is.report is.notes is.found is.comes is.are
  where
    by_report : (report : Report) (notes : List Notes) → AreFindings infer (file ∷ files) report notes → true ≡ comes_to_rules report → told ≡ told_from (reported_at encoding before (file ∷ files) report notes) 0 (file ∷ files) → AreTold infer encoding (next_last true (file ∷ files) told before) true (file ∷ files) told
    by_report (Refused rows) notes found comes are = true_false true refl comes
    by_report (Checked rows) notes found comes are = record { report = Checked rows; notes = notes; found = found; comes = refl; are = are }

told_anew : (workspace : Workspace) (before after : LastReport) (told : List Told) (anew : IsToldAnew workspace before after told) → AreToldOf workspace after anew.came anew.all told
told_anew workspace before after told anew = record {
  is = subst (λ l. IsTold workspace.infer workspace.encoding l anew.came (files_of workspace) anew.all) (sym anew.keeps) (told_after workspace.infer workspace.encoding before anew.came (files_of workspace) anew.all anew.are.is);
  told_is = anew.are.told_is;
}

informed_behind : (opened : Option (List ℕ)) (moved : Option Workspace) (before after : ServerOf) (news : List Reply) → IsRetold opened moved before news after → IsInformed before → IsInformed after
informed_behind opened None before after news (nothing, same, told, last) (came, all, informed) =
    (came, all, subst (λ w. AreToldOf w after.last came all after.told) (sym same) (subst (λ l. AreToldOf before.workspace l came all after.told) (sym last) (subst (AreToldOf before.workspace before.last came all) (sym told) informed)))
informed_behind opened (Some workspace) before after news (is, anew, announces) informed =
    (anew.came, anew.all, subst (λ w. AreToldOf w after.last anew.came anew.all after.told) (sym is) (told_anew workspace before.last after.last after.told anew))

pub informed : (before after : ServerOf) (event : Event) (replies : List Reply) → Takes before event replies after → IsInformed before → IsInformed after
informed before after event replies takes is = informed_behind (opened_by event) takes.moved before after takes.news takes.retold is

news_last : (opened : Option (List ℕ)) (name : List ℕ) (moved : Option Workspace) (before after : ServerOf) (news : List Reply) → IsRetold opened moved before news after → last_published name (told_of before.told name) news ≡ told_of after.told name
news_last opened name None before after news (nothing, same, told, last) = ap (last_published name (told_of before.told name)) nothing ∙ ap (λ t. told_of t name) (sym told)
news_last opened name (Some workspace) before after news (is, anew, announces) =
    let own = own_hushed workspace.unknown anew.all (told_own workspace.infer workspace.encoding before.last anew.came (files_of workspace) anew.all (stand_own workspace.disk workspace.documents) anew.are.is) in
    announced opened workspace.versions before.told after.told news name (subst AreOwnTold (sym anew.are.told_is) own) announces

event_last : (name : List ℕ) (before after : ServerOf) (event : Event) (replies : List Reply) → Takes before event replies after → last_published name (told_of before.told name) replies ≡ told_of after.told name
event_last name before after event replies takes =
    ap (last_published name (told_of before.told name)) takes.all
    ∙ last_both name (told_of before.told name) takes.direct takes.news
    ∙ ap (λ l. last_published name l takes.news) (answers_silent name (told_of before.told name) before event takes.direct takes.answers)
    ∙ news_last (opened_by event) name takes.moved before after takes.news takes.retold

-- files stay as they are
pub takes_alone : (phase next : Phase) (workspace : Workspace) (told : List Told) (last : LastReport) (event : Event) (direct replies : List Reply) (moved : Option Workspace) → next ≡ next_phase phase event → AreAnswers phase told workspace event direct → IsMovedIn phase event workspace moved → moved ≡ None → replies ≡ direct → Takes (record { phase = phase; workspace = workspace; told = told; last = last }) event replies (record { phase = next; workspace = workspace; told = told; last = last })
takes_alone phase next workspace told last event direct replies moved behind answers moves none e = record {
  phase = behind;
  direct = direct;
  answers = answers;
  moved = None;
  moves = subst (IsMovedIn phase event workspace) none moves;
  news = [];
  retold = (refl, refl, refl, refl);
  all = e ∙ sym (append-nil direct);
}

-- files change
pub takes_anew : (before : ServerOf) (next : Phase) (event : Event) (direct publications replies : List Reply) (opened : Option (List ℕ)) (moved : Option Workspace) (workspace : Workspace) (files : List SourceFile) (came : Bool) (all told : List Told) (last : LastReport) → next ≡ next_phase before.phase event → AreAnswers before.phase before.told before.workspace event direct → IsMovedIn before.phase event before.workspace moved → moved ≡ Some workspace → opened ≡ opened_by event → AreToldOf workspace before.last came all told → files ≡ files_of workspace → Announces opened workspace.versions before.told told publications → replies ≡ direct ++ publications → last ≡ next_last came files all before.last → Takes before event replies (record { phase = next; workspace = workspace; told = told; last = last })
takes_anew before next event direct publications replies opened moved workspace files came all told last behind answers moves some opens are stood announced e keeps = record {
  phase = behind;
  direct = direct;
  answers = answers;
  moved = Some workspace;
  moves = subst (IsMovedIn before.phase event before.workspace) some moves;
  news = publications;
  retold = (refl, record { came = came; all = all; are = are; keeps = keeps ∙ ap (λ fs. next_last came fs all before.last) stood }, subst (λ o. Announces o workspace.versions before.told told publications) opens announced);
  all = e;
}

pub informed_anew : (workspace : Workspace) (before after : LastReport) (came : Bool) (files : List SourceFile) (all told : List Told) → AreToldOf workspace before came all told → files ≡ files_of workspace → after ≡ next_last came files all before → (come : Bool) × (every : List Told) × AreToldOf workspace after come every told
informed_anew workspace before after came files all told are stood keeps =
    (came, all, told_anew workspace before after told (record { came = came; all = all; are = are; keeps = keeps ∙ ap (λ fs. next_last came fs all before) stood }))

-- ---- all events

all_informed : (events : List Event) (before after : ServerOf) (replies : List Reply) → Serves before events replies after → IsInformed before → IsInformed after
all_informed [] before after replies (nothing, same) is = subst IsInformed (sym same) is
all_informed (event ∷ events) before after replies (first, rest, mid, e, takes, serves) is = all_informed events mid after rest serves (informed before mid event first takes is)

all_last : (name : List ℕ) (events : List Event) (before after : ServerOf) (replies : List Reply) → Serves before events replies after → last_published name (told_of before.told name) replies ≡ told_of after.told name
all_last name [] before after replies (nothing, same) = ap (last_published name (told_of before.told name)) nothing ∙ ap (λ (s : ServerOf). told_of s.told name) (sym same)
all_last name (event ∷ events) before after replies (first, rest, mid, e, takes, serves) =
    ap (last_published name (told_of before.told name)) e
    ∙ last_both name (told_of before.told name) first rest
    ∙ ap (λ l. last_published name l rest) (event_last name before mid event first takes)
    ∙ all_last name events mid after rest serves

as_reported : (infer : Infer) (encoding : Encoding) (last : LastReport) (came : Bool) (unknown : List (List ℕ)) (files : List SourceFile) (all told : List Told) (published : List ℕ → List Diagnostic) → IsTold infer encoding last came files all → told ≡ hushed unknown all → ((name : List ℕ) → published name ≡ told_of told name) → ArePublishedLast infer encoding last unknown files published
as_reported infer encoding last came unknown [] all told published is e same = λ name. same name ∙ ap (λ t. told_of t name) (e ∙ ap (hushed unknown) is.0)
as_reported infer encoding last came unknown (file ∷ files) all told published is e same = (
  is.report,
  is.notes,
  is.found,
  λ name.
      same name
      ∙ ap (λ t. told_of t name) e
      ∙ hushed_told unknown all name
      ∙ ap (unless_unknown unknown name) (ap (λ t. told_of t name) is.are ∙ told_named (reported_at encoding last (file ∷ files) is.report is.notes) (file ∷ files) name),
)

pub up_to_date : (infer : Infer) (events : List Event) (replies : List Reply) (after : ServerOf) → Serves (new_server infer) events replies after → IsUpToDate after replies
up_to_date infer events replies after serves =
    let informed = all_informed events (new_server infer) after replies serves (false, [], record { is = (refl, refl); told_is = refl }) in
    as_reported after.workspace.infer after.workspace.encoding after.last informed.0 after.workspace.unknown (files_of after.workspace) informed.1 after.told (λ name. last_published name [] replies) informed.2.is informed.2.told_is (λ name. all_last name events (new_server infer) after replies serves)
