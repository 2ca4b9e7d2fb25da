-- Walks that stop where memory is wanted.
use Rattle.std.proofs.Common.{◌≡◌, ℕ, zero, suc, ◌+◌, ◌<◌, ◌++◌, List, [], ◌∷◌, drop, get_or, length, map, take, inl, inr, refl, sym, ap, ◌∙◌, subst, append_assoc, append-nil, arith}
use Rattle.std.proofs.lemmas.List.{drop_more, take-append-drop}
use Rattle.jn_folder.specs.declared.listed.Entry.{Entry}
use Rattle.jn_folder.specs.declared.listed.Listed.{Listed}
use Rattle.jn_folder.specs.Listing.{folders_of, listed, with_listed}
use Rattle.jn_folder.specs.Walking.{AreAsked, AreBelow, Asks, AsksBelow, BeginsLevel, BeginsWalk, Seen, most_levels}
use Rattle.jn_folder.proofs.Asking.{Leads, asked_both, behind}

-- ---- a walk goes on where each further folder has no entries

abbrev blank : List ℕ → Listed
blank path = listed path []

asked_blank : (paths : List (List ℕ)) (n : ℕ) → AreAsked paths (map blank paths) [] n n
asked_blank [] n = (refl, refl, refl)
asked_blank (path ∷ paths) n = inl ([], map blank paths, refl, asked_blank paths n)

below_blank : (skipped : List (List ℕ)) (levels : ℕ) (paths : List (List ℕ)) (n : ℕ) → (told : List Listed) × AreBelow skipped levels paths told [] n n
below_blank skipped zero paths n = ([], (refl, refl, refl))
below_blank skipped (suc levels) paths n =
    let here = map blank paths in
    let deeper = below_blank skipped levels (folders_of skipped here) n in
    (here ++ deeper.0, (here, deeper.0, [], [], n, refl, refl, asked_blank paths n, deeper.1))

-- ---- one folder

pub level_listed : (before : ℕ) (path : List ℕ) (entries : List Entry) (old new : List Listed) → new ≡ with_listed old path entries → BeginsLevel before (path ∷ []) old new
level_listed before path entries old new gave = record {
  told = listed path entries ∷ [];
  gave = gave;
  more = [];
  missed = [];
  now = before;
  goes_on = inl (entries, [], refl, (refl, refl, refl));
}

pub level_unlisted : (before : ℕ) (path : List ℕ) (old new : List Listed) → new ≡ old → BeginsLevel before (path ∷ []) old new
level_unlisted before path old new same = record {
  told = [];
  gave = same ∙ sym (append-nil old);
  more = blank path ∷ [];
  missed = [];
  now = before;
  goes_on = inl ([], [], refl, (refl, refl, refl));
}

-- ---- a level

pub level_whole : (skipped paths : List (List ℕ)) (s t : Seen) → Asks skipped paths s t → BeginsLevel s.faults paths s.told t.told
level_whole skipped paths s t a = record {
  told = a.told;
  gave = a.gave;
  more = [];
  missed = a.lost;
  now = t.faults;
  goes_on = subst (λ (l : List Listed). AreAsked paths l a.lost s.faults t.faults) (sym (append-nil a.told)) a.asked;
}

four : (a b c d : List Listed) → (a ++ (b ++ c)) ++ d ≡ (a ++ b) ++ (c ++ d)
four a b c d = ap (λ l. l ++ d) (sym (append_assoc a b c)) ∙ append_assoc (a ++ b) c d

-- so many folders were asked, and one more in part
pub level_part : (skipped paths : List (List ℕ)) (i : ℕ) (path : List ℕ) (s t : Seen) (new : List Listed) → i < length paths → path ≡ get_or paths i path → Asks skipped (take i paths) s t → BeginsLevel t.faults (path ∷ []) t.told new → BeginsLevel s.faults paths s.told new
level_part skipped paths i path s t new lt item a b = record {
  told = a.told ++ b.told;
  gave = behind s.told t.told new a.told b.told a.gave b.gave;
  more = b.more ++ map blank (drop (i + 1) paths);
  missed = a.lost ++ (b.missed ++ []);
  now = b.now;
  goes_on = subst (λ (ps : List (List ℕ)). AreAsked ps ((a.told ++ b.told) ++ (b.more ++ map blank (drop (i + 1) paths))) (a.lost ++ (b.missed ++ [])) s.faults b.now) (sym all)
      (subst (λ (l : List Listed). AreAsked (take i paths ++ (path ∷ [] ++ drop (i + 1) paths)) l (a.lost ++ (b.missed ++ [])) s.faults b.now) told_is
      (asked_both (take i paths) (path ∷ [] ++ drop (i + 1) paths) a.told ((b.told ++ b.more) ++ map blank (drop (i + 1) paths)) a.lost (b.missed ++ []) s.faults t.faults b.now a.asked
      (asked_both (path ∷ []) (drop (i + 1) paths) (b.told ++ b.more) (map blank (drop (i + 1) paths)) b.missed [] t.faults b.now b.now b.goes_on (asked_blank (drop (i + 1) paths) b.now))));
}
  where
    all : paths ≡ take i paths ++ (path ∷ [] ++ drop (i + 1) paths)
    all = sym (take-append-drop i paths) ∙ ap (λ l. take i paths ++ l) (drop_more paths i path lt ∙ ap (λ p. p ∷ drop (i + 1) paths) (sym item))

    told_is : a.told ++ ((b.told ++ b.more) ++ map blank (drop (i + 1) paths)) ≡ (a.told ++ b.told) ++ (b.more ++ map blank (drop (i + 1) paths))
    told_is = sym (append_assoc a.told (b.told ++ b.more) (map blank (drop (i + 1) paths))) ∙ four a.told b.told b.more (map blank (drop (i + 1) paths))

-- ---- level by level

pub walk_none : (skipped : List (List ℕ)) (root : List ℕ) (before : ℕ) (old new : List Listed) → new ≡ old → BeginsWalk skipped root before old new
walk_none skipped root before old new same =
    let all = below_blank skipped most_levels (root ∷ []) before in
    record { told = []; gave = same ∙ sym (append-nil old); more = all.0; missed = []; now = before; goes_on = all.1 }

pub walk_whole : (skipped : List (List ℕ)) (root : List ℕ) (old now : Seen) → AsksBelow skipped 64 (root ∷ []) old now → BeginsWalk skipped root old.faults old.told now.told
walk_whole skipped root old now a = record {
  told = a.told;
  gave = a.gave;
  more = [];
  missed = a.lost;
  now = now.faults;
  goes_on = subst (λ (l : List Listed). AreBelow skipped most_levels (root ∷ []) l a.lost old.faults now.faults) (sym (append-nil a.told)) a.asked;
}

pub walk_part : (skipped : List (List ℕ)) (left : ℕ) (folders : List (List ℕ)) (root : List ℕ) (old now : Seen) (new : List Listed) → Leads skipped (suc left) folders (root ∷ []) old now → BeginsLevel now.faults folders now.told new → BeginsWalk skipped root old.faults old.told new
walk_part skipped left folders root old now new p b =
    let deeper = below_blank skipped left (folders_of skipped (b.told ++ b.more)) b.now in
    record {
      told = p.told ++ b.told;
      gave = behind old.told now.told new p.told b.told p.gave b.gave;
      more = b.more ++ deeper.0;
      missed = p.lost ++ (b.missed ++ []);
      now = b.now;
      goes_on = subst (λ (l : List Listed). AreBelow skipped most_levels (root ∷ []) l (p.lost ++ (b.missed ++ [])) old.faults b.now) (sym (append_assoc p.told (b.told ++ b.more) deeper.0) ∙ four p.told b.told b.more deeper.0)
          (p.rest ((b.told ++ b.more) ++ deeper.0) (b.missed ++ []) b.now (b.told ++ b.more, deeper.0, b.missed, [], b.now, refl, refl, b.goes_on, deeper.1));
    }
