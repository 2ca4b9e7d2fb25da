use Rattle.std.proofs.Common.{◌≡◌, false, true, not, sym, ◌∙◌}
use Rattle.jn_env.specs.Packed.{rises}
use Rattle.jn_env.proofs.Held.{as_long, join_stays, join_changes, not_back}
use Rattle.jn_env.proofs.packed.BitList.within.Goals as goal

pub words_within-requires : goal.words_within-requires
words_within-requires c =
    let long = as_long c.self.inside.words.items c.other.inside.words.items c.self.inside.count c.other.inside.count c.args.self.now c.args.other.now c.self.invariant c.other.invariant c.self.view_is c.other.view_is c.requires in
    rw (c.deref.ensures.value, c.deref-2.ensures.value) long

pub returns-clause-yes : goal.returns-clause-yes
returns-clause-yes c = λ t.
    let words = c.self.inside.words.items in
    let others = c.other.inside.words.items in
    let is : c.words_within.result ≡ not (rises others words) = rw (← c.deref.ensures.value, ← c.deref-2.ensures.value) c.words_within.ensures in
    join_stays others words c.other.inside.count c.self.inside.count c.args.other.now c.args.self.now c.other.invariant c.self.invariant c.other.view_is c.self.view_is (sym c.requires) (not_back (rises others words) false (sym is ∙ t))

pub returns-clause-no : goal.returns-clause-no
returns-clause-no c = λ t.
    let words = c.self.inside.words.items in
    let others = c.other.inside.words.items in
    let is : c.words_within.result ≡ not (rises others words) = rw (← c.deref.ensures.value, ← c.deref-2.ensures.value) c.words_within.ensures in
    join_changes others words c.other.inside.count c.self.inside.count c.args.other.now c.args.self.now c.other.invariant c.self.invariant c.other.view_is c.self.view_is (sym c.requires) (not_back (rises others words) true (sym is ∙ t))
