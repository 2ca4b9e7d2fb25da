use Rattle.std.proofs.Common.{◌≡◌, ◌<◌, ℕ, List, [], ◌∷◌, length, false, true, ◌&&◌, Bool, refl, sym, ap, ◌∙◌, arith}
use Rattle.std.specs.Prelude.{nat_eq}
use Rattle.jn_lexer.specs.Scan.{begins}
use Rattle.jn_lexer.proofs.spelling.begins.Goals as goal

begins_short : (text word : List ℕ) → length text < length word → begins text word ≡ false
begins_short text [] l = absurd (omega arith)
begins_short [] (f ∷ fs) l = refl
begins_short (c ∷ cs) (f ∷ fs) l = ap (λ b. nat_eq c f && b) (begins_short cs fs (omega arith)) ∙ both (nat_eq c f)
  where
    both : (b : Bool) → (b && false) ≡ false
    both true = refl
    both false = refl

pub returns-then-text-word : goal.returns-then-text-word
returns-then-text-word c = sym (begins_short c.args.text.now c.args.word.now (let l = c.if-text-word.true in let e = c.as_bytes-word.ensures.len in let v = ap length c.as_bytes-word.ensures.value in omega (arith, l, e, v)))
