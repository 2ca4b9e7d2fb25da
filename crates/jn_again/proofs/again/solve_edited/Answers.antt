use Rattle.std.proofs.Common.{ℕ, Bool, List, length, refl, sym, ap, ◌∙◌, subst}
use Rattle.jn_contrib.specs.declared.listed.Overrider.{Overrider}
use Rattle.jn_inference_law.specs.Inference.{inference, words_for}
use Rattle.jn_inference_law.proofs.LeastSignature.{found_count, found_signature}
use Rattle.jn_again.specs.Losing.{told}
use Rattle.jn_resume.specs.Keepable.{IsEditOf}
use Rattle.jn_sigs.specs.Packed.{unpacked}
use Rattle.jn_again.specs.Flags.{AreChangedBelow}
use Rattle.jn_again.proofs.Editing.{is_edit, least_words, start_words, task_list, tasks_are}
use Rattle.jn_again.proofs.again.solve_edited.Goals as goal

pub solve_words-requires-clause-old : goal.solve_words-requires-clause-old
solve_words-requires-clause-old c = task_list c.args.old.now c.in_ok-old_own.old_own c.args.old_overriders.now c.len.result (length c.args.old_overriders.now) c.requires.old c.in_ok-old_own.ensures c.requires.old_list c.len.ensures refl (c.are_few.ensures.few c.if-not-are_few.false)

pub solve_words-requires-clause-new : goal.solve_words-requires-clause-new
solve_words-requires-clause-new c = task_list c.args.new.now c.in_ok-own.own c.args.overriders.now c.len.result (length c.args.old_overriders.now) c.requires.new c.in_ok-own.ensures c.requires.list (c.len.ensures ∙ c.requires.bodies) (ap (λ (os : List Overrider). length os) c.requires.lists) (c.are_few.ensures.few c.if-not-are_few.false)

pub solve_words-requires-clause-flags : goal.solve_words-requires-clause-flags
solve_words-requires-clause-flags c = ap (λ (l : List Bool). length l) c.as_slice.ensures.value ∙ c.in_ok-changed.ensures.count ∙ tasks_are c.args.old.now c.args.old_overriders.now c.len-2.result (length c.args.old_overriders.now) c.requires.old_list c.len-2.ensures refl

pub solve_words-requires-clause-edit : goal.solve_words-requires-clause-edit
solve_words-requires-clause-edit c =
    let P = c.args.old.now in
    let Q = c.args.new.now in
    let tasks = tasks_are P c.args.old_overriders.now c.len-2.result (length c.args.old_overriders.now) c.requires.old_list c.len-2.ensures refl in
    let flags = c.in_ok-changed.changed.items in
    let changed = subst (λ (n : ℕ). AreChangedBelow n P Q flags) tasks c.in_ok-changed.ensures.told in
    let one = start_words P c.in_ok-before.before c.words.result.now c.in_ok-before.ensures c.words.ensures.packed c.words.ensures.same in
    let two = start_words Q c.in_ok-first.first c.words-2.result.now c.in_ok-first.ensures c.words-2.ensures.packed c.words-2.ensures.same in
    let last = least_words P c.args.sig.now c.words-3.result.now c.requires.least c.words-3.ensures.packed c.words-3.ensures.same in
    subst (λ (l : List Bool). IsEditOf (inference P) (inference Q) c.words.result.now c.words-2.result.now c.words-3.result.now (told l)) (sym c.as_slice.ensures.value)
    (is_edit P Q c.requires.declares.0 c.requires.declares.1.0 c.requires.declares.1.1 c.requires.bodies c.args.old_overriders.now c.args.overriders.now c.requires.old_list c.requires.list c.requires.lists c.requires.old c.requires.new flags changed c.args.sig.now c.words.result.now c.words-2.result.now c.words-3.result.now c.requires.least one.0 one.1 two.0 last.0 last.1)

pub signature-requires : goal.signature-requires
signature-requires c =
    let Q = c.args.new.now in
    let two = start_words Q c.in_ok-first.first c.words-2.result.now c.in_ok-first.ensures c.words-2.ensures.packed c.words-2.ensures.same in
    ap (λ (ws : List ℕ). length ws) c.as_slice-2.ensures.value
    ∙ found_count Q c.requires.new c.words-2.result.now two.0 two.1 Q c.in_ok-words.words.items refl c.in_ok-words.ensures
    ∙ ap words_for (sym c.len-3.ensures)

pub returns : goal.returns
returns c =
    let Q = c.args.new.now in
    let two = start_words Q c.in_ok-first.first c.words-2.result.now c.in_ok-first.ensures c.words-2.ensures.packed c.words-2.ensures.same in
    found_signature Q c.requires.new c.words-2.result.now two.0 two.1 Q c.in_ok-words.words.items c.in_ok-found.found refl c.in_ok-words.ensures
    (c.in_ok-found.ensures ∙ ap (λ (ws : List ℕ). unpacked ws c.len-3.result) c.as_slice-2.ensures.value ∙ ap (λ (n : ℕ). unpacked c.in_ok-words.words.items n) c.len-3.ensures)
