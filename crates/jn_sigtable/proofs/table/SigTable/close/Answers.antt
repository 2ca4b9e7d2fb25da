use Rattle.std.proofs.Common.{◌≡◌, ℕ, ◌+◌, ◌<◌, ◌≤◌, take, length, sym, ap, ◌∙◌, subst}
use Rattle.jn_sigtable.specs.System.{least, System}
use Rattle.jn_sigtable.specs.Machine.{described, dirty_words, AreBetween, HasAll}
use Rattle.jn_sigtable.proofs.Counting.{bounded}
use Rattle.jn_sigtable.proofs.Keeping.{lawful_at}
use Rattle.jn_sigtable.proofs.Closing.{closed_between, closed_least}
use Rattle.jn_sigtable.proofs.table.SigTable.close.Goals as goal

pub returns-clause-below : goal.returns-clause-below
returns-clause-below g c =
    let h = c.args.self in
    let d = described g.C.Constraints.describe in
    let law = lawful_at g.C.Constraints.describe h.counted.system h.table.shared.key.system h.same (g.met.C.Constraints.laws h.counted.system) in
    let f = c.close_with-closed.ensures.values.2 in
    let m : (d h.table.shared.key.system).words ≡ h.counted.words = ap (λ x. (d x).words) h.same ∙ sym h.counted.words_is in
    let e = c.in_ok-words.ensures in
    subst (λ (y : System). AreBetween y (take y.words h.table.shared.key.words.items) c.in_ok-words.field-0.items) (ap d h.same)
    (closed_between d h.table.shared.key law f.0 c.args.pass.seat.id c.args.pass.seat.me.0 _ c.in_ok-words.field-0.items f.1.0 f.1.1 f.2 (e.0 ∙ sym m) (λ i less. e.1 i (subst (λ x. i < x) m less)))

pub returns-clause-least : goal.returns-clause-least
returns-clause-least g c all =
    let h = c.args.self in
    let d = described g.C.Constraints.describe in
    let law = lawful_at g.C.Constraints.describe h.counted.system h.table.shared.key.system h.same (g.met.C.Constraints.laws h.counted.system) in
    let f = c.close_with-closed.ensures.values.2 in
    let m : (d h.table.shared.key.system).words ≡ h.counted.words = ap (λ x. (d x).words) h.same ∙ sym h.counted.words_is in
    let e = c.in_ok-words.ensures in
    let size : length h.table.shared.key.words.items ≡ (d h.table.shared.key.system).words + dirty_words (d h.table.shared.key.system) = h.opened ∙ (h.counted.count_is ∙ ap (λ x. (d x).words + dirty_words (d x)) (sym h.same)) in
    subst (λ (y : System). c.in_ok-words.field-0.items ≡ least y (take y.words h.table.shared.key.words.items)) (ap d h.same)
    (closed_least d h.table.shared.key law f.0 c.args.pass.seat.id c.args.pass.seat.me.0 _ c.in_ok-words.field-0.items f.1.0 f.1.1 f.2 (e.0 ∙ sym m) (λ i less. e.1 i (subst (λ x. i < x) m less)) size c.args.pass.live (subst (λ (y : System). HasAll y c.args.pass.seat.me.0) (sym (ap d h.same)) all))

pub returns-in_err-words-clause-bound : goal.returns-in_err-words-clause-bound
returns-in_err-words-clause-bound g c =
    let h = c.args.self in
    let d = described g.C.Constraints.describe in
    let f = c.close_with-closed.ensures.values.2 in
    let most = bounded d h.table.shared.key f.0 c.args.pass.seat.id c.args.pass.seat.me.0 f.1.0 f.1.1 c.args.pass.live in
    subst (λ (n : ℕ). c.args.pass.seat.me.0.taken ≤ n) c.requires.own.2 most

pub returns-clause-bound : goal.returns-clause-bound
returns-clause-bound g c =
    let h = c.args.self in
    let d = described g.C.Constraints.describe in
    let f = c.close_with-closed.ensures.values.2 in
    let most = bounded d h.table.shared.key f.0 c.args.pass.seat.id c.args.pass.seat.me.0 f.1.0 f.1.1 c.args.pass.live in
    subst (λ (n : ℕ). c.args.pass.seat.me.0.taken ≤ n) c.requires.own.2 most
