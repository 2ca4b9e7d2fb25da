-- One turn of each loop: what is read of the rest doesn't depend on how much was read before.
use Rattle.std.proofs.Common.{◌≡◌, ℕ, zero, suc, ◌<◌, ◌≤◌, List, [], ◌∷◌, length, refl, ap, arith, length-append, Some, None}
use Rattle.jn_base.specs.declared.number.NameNo.{NameNo}
use Rattle.jn_trees.specs.declared.token.TokenKind.{TokenKind}
use Rattle.jn_trees.specs.declared.token.TokenKind.TheVariants.{Id, RightBrace, Comma}
use Rattle.jn_trees.specs.declared.context.Context.{Context}
use Rattle.jn_trees.specs.Trees.{Tree, Statements, NoStatements, MoreStatements}
use Rattle.jn_trees.specs.Spelling.{spell, spell_value, spell_statement}
use Rattle.jn_trees.specs.Longest.{Try, TryStatement}
use Rattle.jn_trees.specs.WellFormed.{assignment_rank}
use Rattle.jn_parse_expr_law.specs.Reader.{TryAll, bind_all, add_first, items_behind, items_from, all_items}
use Rattle.jn_parse_expr_law.proofs.Sound.{Sound}
use Rattle.jn_parse_stmt_law.specs.Parts.{Read, then_read, put, read_value, declarator_behind, put_before, more_declarators, all_declarators}
use Rattle.jn_parse_stmt_law.specs.StatementReader.{block_from, read_block, statement_reader}
use Rattle.jn_parse_stmt_law.proofs.Wholes.{Whole}
use Rattle.jn_parse_stmt_law.proofs.Declarators.{value_sound}
use Rattle.jn_parse_stmt_law.proofs.StatementsSound.{AllRead, SoundStatement}
use Rattle.jn_parse_stmt_law.proofs.Statements.{some_tokens}
use Rattle.jn_parse_stmt_law.proofs.Laws.{statement_sound}

module _ (d : ℕ) (whole : List TokenKind → Try) (w : Whole d whole) where
  -- declarators
  value_shorter : (ts : List TokenKind) → length (read_value whole ts).1 ≤ length ts
  value_shorter ts =
      let v = read_value whole ts in
      omega (arith, ap (length {A = TokenKind}) (value_sound d whole w ts).0, length-append (spell_value v.0) v.1)

  any_number : (n m : ℕ) (ts : List TokenKind) → length ts ≤ n → length ts ≤ m → more_declarators whole n ts ≡ more_declarators whole m ts
  any_number zero zero ts h k = refl
  any_number zero (suc m) [] h k = refl
  any_number zero (suc m) (x ∷ ts) h k = absurd (omega (arith, h))
  any_number (suc n) zero [] h k = refl
  any_number (suc n) zero (x ∷ ts) h k = absurd (omega (arith, k))
  any_number (suc n) (suc m) (Comma ∷ Id x ∷ ts) h k =
      let r = declarator_behind whole x ts in
      ap (λ q. put r.0 q) (any_number n m r.1 (omega (arith, h, value_shorter ts)) (omega (arith, k, value_shorter ts)))
  any_number (suc n) (suc m) _ h k = refl

  pub declarators_go_on : (x : NameNo) (ts : List TokenKind) → all_declarators whole (Comma ∷ Id x ∷ ts) ≡ put_before (declarator_behind whole x ts) (all_declarators whole)
  unfolding all_declarators
  declarators_go_on x ts =
      let r = declarator_behind whole x ts in
      ap (λ q. put r.0 q) (any_number (suc (length ts)) (length r.1) r.1 (omega (arith, value_shorter ts)) (omega arith))

  -- expressions
  abbrev NoMore : List TokenKind → Try → Type 0
  NoMore ts None = Unit {0}
  NoMore ts (Some r) = length r.1 ≤ length ts

  no_more : (ts : List TokenKind) (o : Try) → Sound assignment_rank d ts o → NoMore ts o
  no_more ts None h = tt
  no_more ts (Some r) h = omega (arith, ap (length {A = TokenKind}) h.0, length-append (spell r.0) r.1)

  behind_same : (f g : List TokenKind → TryAll) (t : Tree) (ts : List TokenKind) → ((us : List TokenKind) → length us < length ts → f us ≡ g us) → items_behind f t ts ≡ items_behind g t ts
  behind_same f g t (Comma ∷ ts) h = ap (λ o. add_first t o) (h ts (omega arith))
  behind_same f g t _ h = refl

  -- what stands after the first expression is less than all
  then_same : (f g : List TokenKind → TryAll) (ts : List TokenKind) (o : Try) → NoMore ts o → ((us : List TokenKind) → length us < length ts → f us ≡ g us) → bind_all o (items_behind f) ≡ bind_all o (items_behind g)
  then_same f g ts None k h = refl
  then_same f g ts (Some r) k h = behind_same f g r.0 r.1 (λ us lt. h us (omega (arith, lt, k)))

  any_items : (n m : ℕ) (ts : List TokenKind) → length ts < n → length ts < m → items_from whole n ts ≡ items_from whole m ts
  any_items zero m ts h k = absurd (omega (arith, h))
  any_items (suc n) zero ts h k = absurd (omega (arith, k))
  any_items (suc n) (suc m) ts h k =
      then_same (items_from whole n) (items_from whole m) ts (whole ts) (no_more ts (whole ts) (w.sound ts)) (λ us lt. any_items n m us (omega (arith, lt, h)) (omega (arith, lt, k)))

  pub expressions_go_on : (ts : List TokenKind) → all_items whole ts ≡ bind_all (whole ts) (items_behind (all_items whole))
  unfolding all_items
  expressions_go_on ts =
      then_same (items_from whole (length ts)) (λ us. items_from whole (suc (length us)) us) ts (whole ts) (no_more ts (whole ts) (w.sound ts)) (λ us lt. any_items (length ts) (suc (length us)) us lt (omega arith))

pub declarators_end : (whole : List TokenKind → Try) (ts : List TokenKind) → ((x : NameNo) (us : List TokenKind) → ts ≡ Comma ∷ Id x ∷ us → ⊥) → all_declarators whole ts ≡ ([], ts)
unfolding all_declarators
declarators_end whole (Comma ∷ Id x ∷ ts) h = absurd (h x ts refl)
declarators_end whole _ h = refl

-- blocks
module _ (one : List TokenKind → TryStatement) (less : (ts : List TokenKind) → AllRead (λ s us. length us < length ts) (one ts)) where
  any_block : (n m : ℕ) (ts : List TokenKind) → length ts < n → length ts < m → block_from one n ts ≡ block_from one m ts
  any_block zero m ts h k = absurd (omega (arith, h))
  any_block (suc n) zero ts h k = absurd (omega (arith, k))
  any_block (suc n) (suc m) (RightBrace ∷ ts) h k = refl
  any_block (suc n) (suc m) ts h k =
      (elim (one ts) as (λ o. AllRead (λ s us. length us < length ts) o → then_read o (λ s us. then_read (block_from one n us) (λ ss vs. Some (MoreStatements s ss, vs))) ≡ then_read o (λ s us. then_read (block_from one m us) (λ ss vs. Some (MoreStatements s ss, vs)))) [
        | None ↦ λ _. refl
        | Some r ↦ λ lt. ap (λ (o : Read Statements). then_read o (λ ss vs. Some (MoreStatements r.0 ss, vs))) (any_block n m r.1 (omega (arith, h, lt)) (omega (arith, k, lt)))
      ]) (less ts)

  block_turn : (ts : List TokenKind) → ((us : List TokenKind) → ts ≡ RightBrace ∷ us → ⊥) → read_block one ts ≡ then_read (one ts) (λ s us. then_read (read_block one us) (λ ss vs. Some (MoreStatements s ss, vs)))
  unfolding read_block
  block_turn (RightBrace ∷ ts) h = absurd (h ts refl)
  block_turn ts h =
      (elim (one ts) as (λ o. AllRead (λ s us. length us < length ts) o → then_read o (λ s us. then_read (block_from one (length ts) us) (λ ss vs. Some (MoreStatements s ss, vs))) ≡ then_read o (λ s us. then_read (block_from one (suc (length us)) us) (λ ss vs. Some (MoreStatements s ss, vs)))) [
        | None ↦ λ _. refl
        | Some r ↦ λ lt. ap (λ (o : Read Statements). then_read o (λ ss vs. Some (MoreStatements r.0 ss, vs))) (any_block (length ts) (suc (length r.1)) r.1 lt (omega arith))
      ]) (less ts)

less_of : (c : Context) (d : ℕ) (ts : List TokenKind) (o : TryStatement) → SoundStatement c d ts o → AllRead (λ s us. length us < length ts) o
less_of c d ts None h = tt
less_of c d ts (Some r) h = omega (arith, ap (length {A = TokenKind}) h.0, length-append (spell_statement r.0) r.1, some_tokens r.0)

pub block_goes_on : (d : ℕ) (c : Context) (ts : List TokenKind) → ((us : List TokenKind) → ts ≡ RightBrace ∷ us → ⊥)
    → read_block (statement_reader d c) ts ≡ then_read (statement_reader d c ts) (λ s us. then_read (read_block (statement_reader d c) us) (λ ss vs. Some (MoreStatements s ss, vs)))
block_goes_on d c ts h = block_turn (statement_reader d c) (λ us. less_of c d us (statement_reader d c us) (statement_sound d c us)) ts h

pub block_ends : (one : List TokenKind → TryStatement) (ts : List TokenKind) → read_block one (RightBrace ∷ ts) ≡ Some (NoStatements, ts)
unfolding read_block
block_ends one ts = refl
