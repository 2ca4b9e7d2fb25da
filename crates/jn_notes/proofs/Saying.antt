-- What is said of items, one more and step by step.
use Rattle.std.proofs.Common.{◌≡◌, cond, ⊎_elim, ℕ, ◌+◌, ◌-◌, ◌<◌, ◌≤◌, List, [], ◌∷◌, length, take, Option, Some, None, sym, ap, ◌∙◌, subst, arith}
use Rattle.std.specs.Prelude.{slice_index_or}
use Rattle.std.specs.Option.{option_or}
use Rattle.std.proofs.lemmas.List.{take_all}
use Rattle.jn_points.specs.declared.program.Program.{Program}
use Rattle.jn_reasons_law.specs.declared.item.Item.{Item}
use Rattle.jn_reasons_law.specs.declared.item.Step.{Step}
use Rattle.jn_chain.specs.declared.chains.Rest.{Rest}
use Rattle.jn_chain.specs.declared.shown.Told.{Told}
use Rattle.jn_chain.specs.Keys.{Key, IsEnd, IsPut, kept_of}
use Rattle.jn_chain.specs.Search.{AreRests, Ground, IsKnownStep, IsPath}
use Rattle.jn_chain.specs.Told.{told_of}
use Rattle.jn_chain.proofs.Walks.{no_way, path_less, way_more}
use Rattle.jn_notes.specs.declared.said.Said.{Said}
use Rattle.jn_note_words.specs.declared.leaving.ReadAt.{ReadAt}
use Rattle.jn_notes.specs.Noted.{most_shown}
use Rattle.jn_notes.specs.Said.{AreSaid, IsSaid, said_of}
use Rattle.jn_note_words.specs.Leaving.{goes_on, read_from, read_in}
use Rattle.jn_notes.proofs.Leaving.{read_inside}

some_said : (a b : Said) → Some a ≡ Some b → a ≡ b
some_said a b e = cc

-- ---- what is kept

-- at first nothing is said
pub none_said : (G : Ground) (entries : List (Key × Said)) → entries ≡ [] → AreSaid G (kept_of Said entries)
none_said G entries e x said h = absurd (never (sym (ap (λ (es : List (Key × Said)). kept_of Said es x) e) ∙ h))
  where
    never : None ≡ Some said → ⊥
    never e = cc

-- what is said now is so
pub said_more : (G : Ground) (x : Item) (said : Said) (old new : Item → Option Said) → AreSaid G old → IsSaid G x said → IsPut x said old new → AreSaid G new
said_more G x said old new h is put y other e = ⊎_elim (λ (same : y ≡ x). here same) (λ (stays : new y ≡ old y). h y other (sym stays ∙ e)) (put.others y)
  where
    here : y ≡ x → IsSaid G y other
    here same =
        let one : said ≡ other = some_said said other (sym put.here ∙ ap new (sym same) ∙ e) in
        subst (λ (z : Item). IsSaid G z other) (sym same) (subst (IsSaid G x) one is)

-- ---- step by step

pub said_whole : (P : Program) (x : Step) (behind : Said) (told' : Told) (read : Option ReadAt) → ((steps : List Step) → behind.told ≡ told_of most_shown steps → told' ≡ told_of most_shown (x ∷ steps))
    → read ≡ option_or (read_from P x.item x.place) (cond (goes_on x) behind.read None)
    → (steps : List Step) → behind ≡ said_of P steps → record { told = told'; read = read } ≡ said_of P (x ∷ steps)
said_whole P x behind told' read t r steps e = λ i. record { told = told_is i; read = read_is i }
  where
    told_is : told' ≡ told_of most_shown (x ∷ steps)
    told_is = t steps (ap (λ (a : Said). a.told) e)

    read_is : read ≡ read_in P (x ∷ steps)
    read_is = r ∙ ap (λ (a : Said). option_or (read_from P x.item x.place) (cond (goes_on x) a.read None)) e

module _ (G : Ground) (K : Item → Option Rest) (R : AreRests G K) where
  -- a step to the text
  pub said_last : (P : Program) (x : Step) (next : Option Item) (told' : Told) (said : Said) → G.program ≡ P → IsKnownStep G K x next → next ≡ None → ((most : ℕ) → told' ≡ told_of most [])
      → ((steps : List Step) → record { told = told'; read = None } ≡ said_of P steps → said ≡ said_of P (x ∷ steps)) → IsSaid G x.item said
  said_last P x next told' said p k n t h = record {
    steps = x ∷ [];
    way = way_more G K R x None [] (subst (IsKnownStep G K x) n k) (no_way G K R);
    is = h [] (λ i. record { told = t most_shown i; read = None }) ∙ ap (λ (Q : Program). said_of Q (x ∷ [])) (sym p);
  }

  -- a step to an item of which something is said
  pub said_behind : (P : Program) (x : Step) (next : Option Item) (y : Item) (says : Item → Option Said) (behind said : Said) → G.program ≡ P → IsKnownStep G K x next → next ≡ Some y → AreSaid G says → says y ≡ Some behind
      → ((steps : List Step) → behind ≡ said_of P steps → said ≡ said_of P (x ∷ steps)) → IsSaid G x.item said
  said_behind P x next y says behind said p k n all e h =
      let b = all y behind e in
      record {
        steps = x ∷ b.steps;
        way = way_more G K R x (Some y) b.steps (subst (IsKnownStep G K x) n k) b.way;
        is = h b.steps (b.is ∙ ap (λ (Q : Program). said_of Q b.steps) p) ∙ ap (λ (Q : Program). said_of Q (x ∷ b.steps)) (sym p);
      }

-- ---- from the last step back

module _ (G : Ground) (K : Item → Option Rest) (item : Item) (steps : List Step) where
  pub back_start : (stop : Option Item) → IsPath G K (Some item) steps stop → IsPath G K (Some item) (take (length steps - 0) steps) stop
  back_start stop p = subst (λ (l : List Step). IsPath G K (Some item) l stop) (sym (take_all (length steps - 0) steps (omega arith))) p

  pub back_step : (stop : Option Item) (done : ℕ) (d : Step) → done < length steps → IsPath G K (Some item) (take (length steps - done) steps) stop
      → IsPath G K (Some item) (take (length steps - (done + 1)) steps) (Some (slice_index_or steps (length steps - 1 - done) d).item) × IsKnownStep G K (slice_index_or steps (length steps - 1 - done) d) stop
  back_step stop done d lt p =
      let r = path_less G K (Some item) stop steps (length steps - 1 - done) d (omega (arith, lt)) (subst (λ (n : ℕ). IsPath G K (Some item) (take n steps) stop) (more done lt) p) in
      (subst (λ (n : ℕ). IsPath G K (Some item) (take n steps) (Some (slice_index_or steps (length steps - 1 - done) d).item)) (less done lt) r.0, r.1)
    where
      more : (n : ℕ) → n < length steps → length steps - n ≡ (length steps - 1 - n) + 1
      more n lt = omega (arith, lt)

      less : (n : ℕ) → n < length steps → length steps - 1 - n ≡ length steps - (n + 1)
      less n lt = omega (arith, lt)

  pub back_done : (next : Option Item) (done : ℕ) (says : Item → Option Said) → length steps ≤ done → IsPath G K (Some item) (take (length steps - done) steps) next → IsEnd Said says next → IsEnd Said says (Some item)
  back_done next done says le p e = by next (length steps - done) (omega (arith, le)) p e
    where
      by : (y : Option Item) (n : ℕ) → n ≡ 0 → IsPath G K (Some item) (take n steps) y → IsEnd Said says y → IsEnd Said says (Some item)
      by y n z p e = subst (IsEnd Said says) (sym (subst (λ (m : ℕ). IsPath G K (Some item) (take m steps) y) z p)) e

-- the read is in a body that is there
pub said_inside : (G : Ground) (P : Program) (x : Item) (said : Said) → G.program ≡ P → IsSaid G x said → (read : ReadAt) → said.read ≡ Some read → read.body < length P.bodies
said_inside G P x said p h read e = subst (λ (Q : Program). read.body < length Q.bodies) p (read_inside G.program h.steps read (sym (ap (λ (y : Said). y.read) h.is) ∙ e))
