-- Folders that are asked one after the other, and level by level.
use Rattle.std.proofs.Common.{◌≡◌, ◌≢◌, ℕ, zero, suc, ◌+◌, ◌-◌, ◌<◌, ◌≤◌, ◌++◌, List, [], ◌∷◌, inl, inr, refl, sym, ap, ◌∙◌, subst, append_assoc, append-nil, arith}
use Rattle.std.specs.Prelude.{◌⊎◌, ◌^◌}
use Rattle.std.proofs.lemmas.Grind.{flat_map-append}
use Rattle.jn_outside.specs.Causes.{Rose}
use Rattle.jn_folder.specs.declared.listed.Entry.{Entry}
use Rattle.jn_folder.specs.declared.listed.Listed.{Listed}
use Rattle.jn_folder.specs.Listing.{files_in, files_of, folders_in, folders_of, listed, unnamed_in, unnamed_of}
use Rattle.jn_folder.specs.Walking.{AreAsked, AreBelow, Asks, AsksBelow, Counts, IsOrderOf, RoseForEach, Seen, Telling, Walks, most_levels, telling}

files_both : (xs ys : List Listed) → files_of (xs ++ ys) ≡ files_of xs ++ files_of ys
files_both xs ys = flat_map-append (λ (l : Listed). files_in l.path l.entries) xs ys

folders_both : (skipped : List (List ℕ)) (xs ys : List Listed) → folders_of skipped (xs ++ ys) ≡ folders_of skipped xs ++ folders_of skipped ys
folders_both skipped xs ys = flat_map-append (λ (l : Listed). folders_in skipped l.path l.entries) xs ys

unnamed_both : (xs ys : List Listed) → unnamed_of (xs ++ ys) ≡ unnamed_of xs ++ unnamed_of ys
unnamed_both xs ys = flat_map-append (λ (l : Listed). unnamed_in l.path l.entries) xs ys

-- after a list, one list and then another
pub behind : {A : Type 0} (old mid new front back : List A) → mid ≡ old ++ front → new ≡ mid ++ back → new ≡ old ++ (front ++ back)
behind old mid new front back a b = b ∙ ap (λ xs. xs ++ back) a ∙ append_assoc old front back

-- ---- counts

pub none_missed : (n : ℕ) → Counts [] n n
none_missed n = record { later = omega arith; kept = (λ e. refl); rose = (λ e. absurd (e refl)); each = refl }

lt_or_same : (b c : ℕ) → b ≤ c → (b < c) ⊎ (b ≡ c)
lt_or_same b c le = grind arith

top_stays : (a b c : ℕ) → b ≡ 2 ^ 64 - 1 → a ≤ b → (b < c) ⊎ (b ≡ c) → Rose a c
top_stays a b c e le (inl lt) = inl (omega (arith, le, lt))
top_stays a b c e le (inr same) = inr (sym same ∙ e)

rose_on : (a b c : ℕ) → Rose a b → a ≤ b → b ≤ c → Rose a c
rose_on a b c (inl lt) le more = inl (omega (arith, lt, more))
rose_on a b c (inr e) le more = top_stays a b c e le (lt_or_same b c more)

some_not_none : (x : List ℕ) (xs : List (List ℕ)) → x ∷ xs ≡ [] → ⊥
some_not_none x xs e = cc

each_more : (xs ys : List (List ℕ)) (a b c : ℕ) → RoseForEach xs a b → RoseForEach ys b c → RoseForEach (xs ++ ys) a c
each_more [] ys a b c same q = subst (λ n. RoseForEach ys n c) same q
each_more (x ∷ xs) ys a b c (mid, rose, rest) q = (mid, rose, each_more xs ys mid b c rest q)

pub counts_more : (xs ys : List (List ℕ)) (a b c : ℕ) → Counts xs a b → Counts ys b c → Counts (xs ++ ys) a c
counts_more [] ys a b c p q = subst (λ n. Counts ys n c) (p.kept refl) q
counts_more (x ∷ xs) ys a b c p q = record {
  later = (let f = p.later in let s = q.later in omega (arith, f, s));
  kept = (λ e. absurd (some_not_none x (xs ++ ys) e));
  rose = (λ e. rose_on a b c (p.rose (λ e. some_not_none x xs e)) p.later q.later);
  each = each_more (x ∷ xs) ys a b c p.each q.each;
}

-- ---- one level

pub asked_both : (ps qs : List (List ℕ)) (a b : List Listed) (l m : List (List ℕ)) (x y z : ℕ) → AreAsked ps a l x y → AreAsked qs b m y z → AreAsked (ps ++ qs) (a ++ b) (l ++ m) x z
asked_both [] qs a b l m x y z (no_told, no_lost, same) h = subst (λ (t : List Listed). AreAsked qs (t ++ b) (l ++ m) x z) (sym no_told) (subst (λ (t : List (List ℕ)). AreAsked qs b (t ++ m) x z) (sym no_lost) (subst (λ n. AreAsked qs b m n z) same h))
asked_both (p ∷ ps) qs a b l m x y z (inl (entries, others, is, g)) h = inl (entries, others ++ b, ap (λ (t : List Listed). t ++ b) is, asked_both ps qs others b l m x y z g h)
asked_both (p ∷ ps) qs a b l m x y z (inr (others, mid, is, rose, g)) h = inr (others ++ m, mid, ap (λ (t : List (List ℕ)). t ++ m) is, rose, asked_both ps qs a b others m mid y z g h)

pub asks_none : (skipped : List (List ℕ)) (s : Seen) → Asks skipped [] s s
asks_none skipped s = record {
  told = [];
  lost = [];
  gave = sym (append-nil s.told);
  asked = (refl, refl, refl);
  files = sym (append-nil s.files);
  below = sym (append-nil s.below);
  missed = sym (append-nil s.missed);
  unnamed = sym (append-nil s.unnamed);
  counts = none_missed s.faults;
}

pub asks_more : (skipped ps qs : List (List ℕ)) (s t u : Seen) → Asks skipped ps s t → Asks skipped qs t u → Asks skipped (ps ++ qs) s u
asks_more skipped ps qs s t u p q = record {
  told = p.told ++ q.told;
  lost = p.lost ++ q.lost;
  gave = behind s.told t.told u.told p.told q.told p.gave q.gave;
  asked = asked_both ps qs p.told q.told p.lost q.lost s.faults t.faults u.faults p.asked q.asked;
  files = behind s.files t.files u.files (files_of p.told) (files_of q.told) p.files q.files ∙ ap (λ xs. s.files ++ xs) (sym (files_both p.told q.told));
  below = behind s.below t.below u.below (folders_of skipped p.told) (folders_of skipped q.told) p.below q.below ∙ ap (λ xs. s.below ++ xs) (sym (folders_both skipped p.told q.told));
  missed = behind s.missed t.missed u.missed p.lost q.lost p.missed q.missed;
  unnamed = behind s.unnamed t.unnamed u.unnamed (unnamed_of p.told) (unnamed_of q.told) p.unnamed q.unnamed ∙ ap (λ xs. s.unnamed ++ xs) (sym (unnamed_both p.told q.told));
  counts = counts_more p.lost q.lost s.faults t.faults u.faults p.counts q.counts;
}

-- the folder was listed
pub asks_listed : (skipped : List (List ℕ)) (path : List ℕ) (entries : List Entry) (s t : Seen) → t.told ≡ s.told ++ listed path entries ∷ [] → t.files ≡ s.files ++ files_in path entries → t.below ≡ s.below ++ folders_in skipped path entries → t.missed ≡ s.missed → t.unnamed ≡ s.unnamed ++ unnamed_in path entries → t.faults ≡ s.faults → Asks skipped (path ∷ []) s t
asks_listed skipped path entries s t gave files below missed unnamed faults = record {
  told = listed path entries ∷ [];
  lost = [];
  gave = gave;
  asked = inl (entries, [], refl, (refl, refl, faults));
  files = files ∙ ap (λ xs. s.files ++ xs) (sym (append-nil (files_in path entries)));
  below = below ∙ ap (λ xs. s.below ++ xs) (sym (append-nil (folders_in skipped path entries)));
  missed = missed ∙ sym (append-nil s.missed);
  unnamed = unnamed ∙ ap (λ xs. s.unnamed ++ xs) (sym (append-nil (unnamed_in path entries)));
  counts = subst (λ n. Counts [] s.faults n) (sym faults) (none_missed s.faults);
}

-- it was missed
pub asks_missed : (skipped : List (List ℕ)) (path : List ℕ) (s t : Seen) → t.told ≡ s.told → t.files ≡ s.files → t.below ≡ s.below → t.missed ≡ s.missed ++ path ∷ [] → t.unnamed ≡ s.unnamed → s.faults ≤ t.faults → Rose s.faults t.faults → Asks skipped (path ∷ []) s t
asks_missed skipped path s t gave files below missed unnamed later rose = record {
  told = [];
  lost = path ∷ [];
  gave = gave ∙ sym (append-nil s.told);
  asked = inr ([], t.faults, refl, rose, (refl, refl, refl));
  files = files ∙ sym (append-nil s.files);
  below = below ∙ sym (append-nil s.below);
  missed = missed;
  unnamed = unnamed ∙ sym (append-nil s.unnamed);
  counts = record { later = later; kept = (λ e. absurd (some_not_none path [] e)); rose = (λ e. rose); each = (t.faults, rose, refl) };
}

-- ---- level by level

-- from the root on so much was asked, and these levels of these folders are left
pub record Leads (skipped : List (List ℕ)) (left : ℕ) (folders paths : List (List ℕ)) (old now : Seen) : Type 0 where
  pub told : List Listed
  pub lost : List (List ℕ)
  pub gave : now.told ≡ old.told ++ told
  pub files : now.files ≡ old.files ++ files_of told
  pub missed : now.missed ≡ old.missed ++ lost
  pub unnamed : now.unnamed ≡ old.unnamed ++ unnamed_of told
  pub counts : Counts lost old.faults now.faults
  pub rest : (more : List Listed) (deeper : List (List ℕ)) (end : ℕ) → AreBelow skipped left folders more deeper now.faults end → AreBelow skipped most_levels paths (told ++ more) (lost ++ deeper) old.faults end

pub leads_none : (skipped paths folders : List (List ℕ)) (s : Seen) → folders ≡ paths → Leads skipped 64 folders paths s s
leads_none skipped paths folders s is = record {
  told = [];
  lost = [];
  gave = sym (append-nil s.told);
  files = sym (append-nil s.files);
  missed = sym (append-nil s.missed);
  unnamed = sym (append-nil s.unnamed);
  counts = none_missed s.faults;
  rest = (λ more deeper end h. subst (λ (ps : List (List ℕ)). AreBelow skipped most_levels ps more deeper s.faults end) is h);
}

module _ (skipped : List (List ℕ)) (left : ℕ) (folders paths : List (List ℕ)) (old now new : Seen) (p : Leads skipped (suc left) folders paths old now) (q : Asks skipped folders now new) (none : now.below ≡ []) where
  below_is : new.below ≡ folders_of skipped q.told
  below_is = q.below ∙ ap (λ xs. xs ++ folders_of skipped q.told) none

  rest_more : (more : List Listed) (deeper : List (List ℕ)) (end : ℕ) → AreBelow skipped left (folders_of skipped q.told) more deeper new.faults end → AreBelow skipped most_levels paths ((p.told ++ q.told) ++ more) ((p.lost ++ q.lost) ++ deeper) old.faults end
  rest_more more deeper end h =
      subst (λ (t : List Listed). AreBelow skipped most_levels paths t ((p.lost ++ q.lost) ++ deeper) old.faults end) (sym (append_assoc p.told q.told more))
      (subst (λ (l : List (List ℕ)). AreBelow skipped most_levels paths (p.told ++ (q.told ++ more)) l old.faults end) (sym (append_assoc p.lost q.lost deeper))
      (p.rest (q.told ++ more) (q.lost ++ deeper) end (q.told, more, q.lost, deeper, new.faults, refl, refl, q.asked, h)))

  pub leads_more : (end : Seen) → end.told ≡ new.told → end.faults ≡ new.faults → end.files ≡ new.files → end.missed ≡ new.missed → end.unnamed ≡ new.unnamed → Leads skipped left new.below paths old end
  leads_more end told faults files missed unnamed = record {
    told = p.told ++ q.told;
    lost = p.lost ++ q.lost;
    gave = told ∙ behind old.told now.told new.told p.told q.told p.gave q.gave;
    files = files ∙ behind old.files now.files new.files (files_of p.told) (files_of q.told) p.files q.files ∙ ap (λ xs. old.files ++ xs) (sym (files_both p.told q.told));
    missed = missed ∙ behind old.missed now.missed new.missed p.lost q.lost p.missed q.missed;
    unnamed = unnamed ∙ behind old.unnamed now.unnamed new.unnamed (unnamed_of p.told) (unnamed_of q.told) p.unnamed q.unnamed ∙ ap (λ xs. old.unnamed ++ xs) (sym (unnamed_both p.told q.told));
    counts = subst (λ n. Counts (p.lost ++ q.lost) old.faults n) (sym faults) (counts_more p.lost q.lost old.faults now.faults new.faults p.counts q.counts);
    rest = (λ more deeper last h. rest_more more deeper last (subst (λ (fs : List (List ℕ)). AreBelow skipped left fs more deeper new.faults last) below_is (subst (λ n. AreBelow skipped left new.below more deeper n last) faults h)));
  }

module _ (skipped : List (List ℕ)) (left : ℕ) (folders paths : List (List ℕ)) (old now : Seen) (zero_left : left ≡ 0) (p : Leads skipped left folders paths old now) where
  none_left : AreBelow skipped left folders [] [] now.faults now.faults
  none_left = subst (λ n. AreBelow skipped n folders [] [] now.faults now.faults) (sym zero_left) (refl, refl, refl)

  asked_all : AreBelow skipped most_levels paths p.told p.lost old.faults now.faults
  asked_all =
      subst (λ (t : List Listed). AreBelow skipped most_levels paths t p.lost old.faults now.faults) (append-nil p.told)
      (subst (λ (l : List (List ℕ)). AreBelow skipped most_levels paths (p.told ++ []) l old.faults now.faults) (append-nil p.lost)
      (p.rest [] [] now.faults none_left))

  pub leads_end : AsksBelow skipped 64 paths old now
  leads_end = record {
    told = p.told;
    lost = p.lost;
    gave = p.gave;
    asked = asked_all;
    files = p.files;
    missed = p.missed;
    unnamed = p.unnamed;
    counts = p.counts;
  }

-- ---- a walk

none_before : (missed lost : List (List ℕ)) → missed ≡ [] → missed ++ lost ≡ lost
none_before missed lost none = ap (λ xs. xs ++ lost) none

pub walks_from : (skipped : List (List ℕ)) (root : List ℕ) (old new : Seen) (names : List (List ℕ)) → AsksBelow skipped 64 (root ∷ []) old new → old.files ≡ [] → old.missed ≡ [] → old.unnamed ≡ [] → IsOrderOf new.files names → Walks skipped root (telling old.told new.told old.faults new.faults) names new.missed new.unnamed
walks_from skipped root old new names a no_files no_missed no_unnamed order = record {
  told = a.told;
  gave = a.gave;
  below = subst (λ (m : List (List ℕ)). AreBelow skipped most_levels (root ∷ []) a.told m old.faults new.faults) (sym (a.missed ∙ none_before old.missed a.lost no_missed)) a.asked;
  order = subst (λ (fs : List (List ℕ)). IsOrderOf fs names) (a.files ∙ none_before old.files (files_of a.told) no_files) order;
  strange = a.unnamed ∙ none_before old.unnamed (unnamed_of a.told) no_unnamed;
}

pub counts_from : (skipped : List (List ℕ)) (root : List ℕ) (old new : Seen) → AsksBelow skipped 64 (root ∷ []) old new → old.missed ≡ [] → Counts new.missed old.faults new.faults
counts_from skipped root old new a no_missed = subst (λ (m : List (List ℕ)). Counts m old.faults new.faults) (sym (a.missed ∙ none_before old.missed a.lost no_missed)) a.counts
