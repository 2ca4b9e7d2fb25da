use Rattle.std.proofs.Common.{◌≡◌, sym, ap, ◌∙◌, subst}
use Rattle.std.specs.Vec.{with_items}
use Rattle.std.proofs.lemmas.List.{with_items_is}
use Rattle.jn_env.specs.Packed.{HoldBits, bits_of, either_words, rises}
use Rattle.jn_env.proofs.Held.{as_long, join_held, join_are, join_stays, join_changes}
use Rattle.jn_env.proofs.packed.BitList.join.Goals as goal

pub join_words-requires : goal.join_words-requires
join_words-requires c =
    let long = as_long c.self.inside.words.items c.other.inside.words.items c.self.inside.count c.other.inside.count c.args.self.now c.args.other.now c.self.invariant c.other.invariant c.self.view_is c.other.view_is c.requires in
    rw (c.deref_mut.ensures.value, c.deref.ensures.value) long

pub invariant_of-self : goal.invariant_of-self
invariant_of-self c =
    let words = c.self.inside.words.items in
    let others = c.other.inside.words.items in
    let joined : c.join_words.new.left ≡ either_words words others = rw (← c.deref_mut.ensures.value, ← c.deref.ensures.value) c.join_words.ensures.joined in
    let is : (with_items c.self.inside.words c.join_words.new.left).items ≡ either_words words others = with_items_is c.self.inside.words c.join_words.new.left (c.join_words.auto.left ∙ c.deref_mut.ensures.len) ∙ joined in
    subst (λ zs. HoldBits zs c.self.inside.count) (sym is) (join_held words others c.self.inside.count c.other.inside.count c.args.self.now c.args.other.now c.self.invariant c.other.invariant c.self.view_is c.other.view_is c.requires)

pub returns-clause-joined : goal.returns-clause-joined
returns-clause-joined c =
    let words = c.self.inside.words.items in
    let others = c.other.inside.words.items in
    let joined : c.join_words.new.left ≡ either_words words others = rw (← c.deref_mut.ensures.value, ← c.deref.ensures.value) c.join_words.ensures.joined in
    let is : (with_items c.self.inside.words c.join_words.new.left).items ≡ either_words words others = with_items_is c.self.inside.words c.join_words.new.left (c.join_words.auto.left ∙ c.deref_mut.ensures.len) ∙ joined in
    ap (λ zs. bits_of zs c.self.inside.count) is ∙ join_are words others c.self.inside.count c.other.inside.count c.args.self.now c.args.other.now c.self.invariant c.other.invariant c.self.view_is c.other.view_is c.requires

pub returns-clause-same : goal.returns-clause-same
returns-clause-same c = λ t.
    let words = c.self.inside.words.items in
    let others = c.other.inside.words.items in
    let joined : c.join_words.new.left ≡ either_words words others = rw (← c.deref_mut.ensures.value, ← c.deref.ensures.value) c.join_words.ensures.joined in
    let risen : c.join_words.result ≡ rises words others = rw (← c.deref_mut.ensures.value, ← c.deref.ensures.value) c.join_words.ensures.risen in
    let is : (with_items c.self.inside.words c.join_words.new.left).items ≡ either_words words others = with_items_is c.self.inside.words c.join_words.new.left (c.join_words.auto.left ∙ c.deref_mut.ensures.len) ∙ joined in
    ap (λ zs. bits_of zs c.self.inside.count) is ∙ join_are words others c.self.inside.count c.other.inside.count c.args.self.now c.args.other.now c.self.invariant c.other.invariant c.self.view_is c.other.view_is c.requires
    ∙ join_stays words others c.self.inside.count c.other.inside.count c.args.self.now c.args.other.now c.self.invariant c.other.invariant c.self.view_is c.other.view_is c.requires (sym risen ∙ t)

pub returns-clause-changed : goal.returns-clause-changed
returns-clause-changed c = λ t e.
    let words = c.self.inside.words.items in
    let others = c.other.inside.words.items in
    let joined : c.join_words.new.left ≡ either_words words others = rw (← c.deref_mut.ensures.value, ← c.deref.ensures.value) c.join_words.ensures.joined in
    let risen : c.join_words.result ≡ rises words others = rw (← c.deref_mut.ensures.value, ← c.deref.ensures.value) c.join_words.ensures.risen in
    let is : (with_items c.self.inside.words c.join_words.new.left).items ≡ either_words words others = with_items_is c.self.inside.words c.join_words.new.left (c.join_words.auto.left ∙ c.deref_mut.ensures.len) ∙ joined in
    let whole = ap (λ zs. bits_of zs c.self.inside.count) is ∙ join_are words others c.self.inside.count c.other.inside.count c.args.self.now c.args.other.now c.self.invariant c.other.invariant c.self.view_is c.other.view_is c.requires in
    join_changes words others c.self.inside.count c.other.inside.count c.args.self.now c.args.other.now c.self.invariant c.other.invariant c.self.view_is c.other.view_is c.requires (sym risen ∙ t) (sym whole ∙ e)
