-- What updates and deletions leave of a `HashStore`.
use Rattle.std.proofs.Common.{◌≡◌, ◌≢◌, ℕ, ◌+◌, ◌-◌, ◌*◌, ◌<◌, ◌≤◌, Bool, true, false, cond, ◌&&◌, List, Option, Some, None, is_some}
use Rattle.std.proofs.Common.{length, map, inl, inr, ◌⊎◌, refl, ap, sym, ◌∙◌, subst, arith, eq-eqb, if◌then◌else◌}
use Rattle.std.proofs.lemmas.Bool.{cases_lt}
use Rattle.std.proofs.lemmas.Cmp.{nat_list_cmp_total}
use Rattle.std.proofs.lemmas.List.{length-map, get_or_past}
use Rattle.std.proofs.Math.ListN.{get_or-map}
use Rattle.std.specs.FinMap.{get, insert, remove, len, contains_key, len-insert, len-remove}
use Rattle.bpf_hash.specs.declared.runs.Runs.{Runs}
use Rattle.bpf_shared.specs.declared.shapes.MapShape.{MapShape}
use Rattle.bpf_shared.specs.Shape.{elements, element_span}
use Rattle.bpf_shared.specs.Store.{KeyMap, Plain, Value, put}
use Rattle.bpf_shared.specs.Events.{kept_after, after_delete}
use Rattle.bpf_shared.specs.Sound.{IsSoundStore}
use Rattle.bpf_hash.specs.Private.Runs.{run_of, count_of, no_runs, is_run}
use Rattle.bpf_hash.specs.Private.Rows.{Rows, key_of, bytes_of, linked_count, run_looked_up, run_left, IsLinked, IsTable, IsMissing, linked_row, unlinked_row}
use Rattle.bpf_hash.specs.Private.Contents.{Contents, runs_of, rows, element_count, span_at, is_running, holds, keeps, IsUsed, StandsFor, IsStore, with_table}
use Rattle.bpf_shared.proofs.Puts.{true_or_false, equal_or_not, put-same, put-other, put_cases, insert_cases, remove_cases, gone_key}
use Rattle.bpf_shared.proofs.Soundness.{kept_still, kept_now}
use Rattle.bpf_shared.proofs.Lawful.{leads_new}
use Rattle.bpf_hash.proofs.Blocks.{block_fits, apart_blocks, get_or-before, get_or-inside, get_or-behind}
use Rattle.bpf_hash.proofs.Linking.{linked_inside, count-less, count-more, unlinked_was, unlinked_still, linked_here, linked_more}
use Rattle.bpf_hash.proofs.Linking.{linked_was, key-here, key-beside, bytes-here, bytes-beside}
use Rattle.bpf_hash.proofs.Changing.{rows-here, rows-else, rows_cases, shapes-with, shape-with, tells-with}
use Rattle.bpf_hash.proofs.Places.{linked_size, one_number}

-- ---- notes of an element that left
module _ (runs : List Runs) (t : Rows) (is : IsTable t) (k : ℕ) (inside : IsLinked t k) (cpus : length runs ≡ t.cpus) where
  abbrev o : ℕ
  o = k

  oi : o < elements t.shape
  oi = linked_inside t is k inside

  fits : o * t.cpus + length (map count_of runs) ≤ length t.left
  fits = omega (arith, block_fits o (elements t.shape) t.cpus oi, is.left, length-map runs count_of)

  pub left-here : (c : ℕ) → c < t.cpus → run_left (unlinked_row runs k t) o c ≡ (run_of runs c).count
  left-here c l =
      get_or-inside t.left (map count_of runs) (o * t.cpus) fits c (omega (arith, length-map runs count_of))
      ∙ get_or-map count_of runs c no_runs

  pub left-else : (i c : ℕ) → c < t.cpus → i ≢ o → run_left (unlinked_row runs k t) i c ≡ run_left t i c
  left-else i c l ne = elim (apart_blocks i o t.cpus ne) [
    | inl a ↦ get_or-before t.left (map count_of runs) (o * t.cpus) fits (i * t.cpus + c) (omega arith)
    | inr a ↦ get_or-behind t.left (map count_of runs) (o * t.cpus) fits (i * t.cpus + c) (omega (arith, length-map runs count_of))
  ]

-- ---- an element leaves its map
module _ (p : Contents) (is : IsStore p) (m k : ℕ) (mi : m < length p.tables) (inside : IsLinked (rows p m) k) where
  abbrev pub gone : Rows
  gone = unlinked_row p.runs k (rows p m)

  abbrev pub old : ℕ
  old = k

  table : IsTable (rows p m)
  table = (is.tables m mi).0

  width : length p.runs ≡ (rows p m).cpus
  width = sym (is.tables m mi).1

  old_linked : IsLinked (rows p m) old
  old_linked = inside

  old_size : old < element_count p m
  old_size = linked_inside (rows p m) table k inside

  abbrev pub after : Contents
  after = with_table p m gone

  pub holds-same : (d n j : ℕ) → holds after d n j ≡ holds p d n j
  holds-same d n j = ap (is_run (runs_of p d)) (tells-with p m gone mi run_looked_up (λ x y. refl) n j d)

  past_false : (d run : ℕ) → length p.runs ≤ d → is_run (runs_of p d) run ≡ false
  past_false d run l = ap (λ (x : Runs). is_run x run) (get_or_past p.runs d no_runs l)

  -- what is kept besides: the element that left, for each CPU that is in a run
  pub keeps-else : (d n j : ℕ) → ((n ≡ m) → j ≢ old) → keeps after d n j ≡ keeps p d n j
  keeps-else d n j ne = elim (rows_cases p m gone mi n) [
    | inr e ↦ ap (λ (t : Rows). is_run (runs_of p d) (run_left t j d)) e.1
    | inl e ↦ elim (cases_lt d (length p.runs)) [
      | inr past ↦ past_false d (run_left (rows after n) j d) past ∙ sym (past_false d (run_left (rows p n) j d) past)
      | inl l ↦
          ap (λ (t : Rows). is_run (runs_of p d) (run_left t j d)) e.1
          ∙ (ap (is_run (runs_of p d)) (left-else p.runs (rows p m) table k inside width j d (subst (λ (x : ℕ). d < x) width l) (ne e.0))
          ∙ ap (λ (x : ℕ). is_run (runs_of p d) (run_left (rows p x) j d)) (sym e.0))
    ]
  ]

  keeps-here : (d : ℕ) → keeps after d m old ≡ is_running p d
  keeps-here d = elim (cases_lt d (length p.runs)) [
    | inr past ↦ past_false d (run_left (rows after m) old d) past ∙ sym (ap (λ (x : Runs). x.running) (get_or_past p.runs d no_runs past))
    | inl l ↦
        ap (λ (t : Rows). is_run (runs_of p d) (run_left t old d)) (rows-here p m gone mi)
        ∙ (ap (is_run (runs_of p d)) (left-here p.runs (rows p m) table k inside width d (subst (λ (x : ℕ). d < x) width l))
        ∙ (ap (λ (b : Bool). (runs_of p d).running && b) (eq-eqb (runs_of p d).count (runs_of p d).count refl) ∙ and_true (runs_of p d).running))
  ]
    where
      and_true : (b : Bool) → (b && true) ≡ b
      and_true true = refl
      and_true false = refl

  shape-same : (n : ℕ) → (rows after n).shape ≡ (rows p n).shape
  shape-same = shape-with p m gone mi refl

  key-same : (n j : ℕ) → key_of (rows after n) j ≡ key_of (rows p n) j
  key-same n j = elim (rows_cases p m gone mi n) [ inl e ↦ ap (λ (t : Rows). key_of t j) e.1 ∙ ap (λ (x : ℕ). key_of (rows p x) j) (sym e.0) | inr e ↦ ap (λ (t : Rows). key_of t j) e.1 ]

  bytes-same : (n j : ℕ) → bytes_of (rows after n) j ≡ bytes_of (rows p n) j
  bytes-same n j = elim (rows_cases p m gone mi n) [ inl e ↦ ap (λ (t : Rows). bytes_of t j) e.1 ∙ ap (λ (x : ℕ). bytes_of (rows p x) j) (sym e.0) | inr e ↦ ap (λ (t : Rows). bytes_of t j) e.1 ]

  within : (n j : ℕ) → j < element_count after n → j < element_count p n
  within n j l = subst (λ (h : MapShape). j < elements h) (shape-same n) l

  back : (n j : ℕ) → j < element_count p n → j < element_count after n
  back n j l = subst (λ (h : MapShape). j < elements h) (sym (shape-same n)) l

  pub gone_was : (n j : ℕ) → IsLinked (rows after n) j → IsLinked (rows p n) j × ((n ≡ m) → j ≢ old)
  gone_was n j l = elim (rows_cases p m gone mi n) [
    | inr e ↦ (subst (λ (t : Rows). IsLinked t j) e.1 l, λ s. absurd (e.0 s))
    | inl e ↦ (
        let w = unlinked_was p.runs (rows p m) table k inside width j (subst (λ (t : Rows). IsLinked t j) e.1 l) in
        (subst (λ (x : ℕ). IsLinked (rows p x) j) (sym e.0) w.0, λ s. w.1))
  ]

  pub gone_still : (n j : ℕ) → IsLinked (rows p n) j → ((n ≡ m) → j ≢ old) → IsLinked (rows after n) j
  gone_still n j l ne = elim (rows_cases p m gone mi n) [
    | inr e ↦ subst (λ (t : Rows). IsLinked t j) (sym e.1) l
    | inl e ↦ subst (λ (t : Rows). IsLinked t j) (sym e.1) (unlinked_still p.runs (rows p m) table k inside width j
        (subst (λ (x : ℕ). IsLinked (rows p x) j) e.0 l) (ne e.0))
  ]

  same_or_not : (n j : ℕ) → ((n ≡ m) × (j ≡ old)) ⊎ ((n ≡ m) → j ≢ old)
  same_or_not n j = elim (equal_or_not n m) [
    | inr ne ↦ inr (λ e. absurd (ne e))
    | inl e ↦ elim (equal_or_not j old) [ inl f ↦ inl (e, f) | inr f ↦ inr (λ _. f) ]
  ]

  used-was : (n j : ℕ) → IsUsed after n j → IsUsed p n j
  used-was n j (inl l) = inl (gone_was n j l).0
  used-was n j (inr u) = elim u.1 [
    | inr e ↦ inr (u.0, inr (sym (holds-same u.0 n j) ∙ e))
    | inl e ↦ elim (same_or_not n j) [
      | inl s ↦ inl (subst (λ (x : ℕ). IsLinked (rows p x) j) (sym s.0) (subst (IsLinked (rows p m)) (sym s.1) old_linked))
      | inr ne ↦ inr (u.0, inl (sym (keeps-else u.0 n j ne) ∙ e))
    ]
  ]

  module _ (s : Plain) (so : IsSoundStore s) (h : StandsFor p s) (key : List ℕ) (keyed : key_of (rows p m) k ≡ key) where
    leads-old : get (s.maps m) key ≡ Some (h.number m old)
    leads-old = subst (λ (q : List ℕ). get (s.maps m) q ≡ Some (h.number m old)) keyed (h.leads m old old_linked)

    -- another element has another key
    other_key : (j : ℕ) → IsLinked (rows p m) j → j ≢ old → key_of (rows p m) j ≢ key
    other_key j l ne e =
        let there : get (s.maps m) key ≡ Some (h.number m j) = subst (λ (q : List ℕ). get (s.maps m) q ≡ Some (h.number m j)) e (h.leads m j l) in
        let same : h.number m j ≡ h.number m old = (let q : Some (h.number m j) ≡ Some (h.number m old) = sym there ∙ leads-old in cc) in
        ne (one_number p is s so h m m j old (linked_size p is m j l) old_size (inl l) (inl old_linked) same).1

    still_leads : (q : List ℕ) → q ≢ key → get (remove (s.maps m) key) q ≡ get (s.maps m) q
    still_leads q ne = elim (remove_cases (s.maps m) key q) [ inl e ↦ absurd (ne e.0) | inr e ↦ e ]

    leads-after : (n j : ℕ) → IsLinked (rows after n) j → (n ≡ m) ⊎ (n ≢ m) → get (put s.maps m (remove (s.maps m) key) n)
        (key_of (rows after n) j) ≡ Some (h.number n j)
    leads-after n j l (inr ne) =
        let was = gone_was n j l in
        ap (λ (x : KeyMap). get x (key_of (rows after n) j)) (put-other s.maps m n (remove (s.maps m) key) ne)
        ∙ (ap (get (s.maps n)) (key-same n j) ∙ h.leads n j was.0)
    leads-after n j l (inl e) =
        let was = gone_was n j l in
        let here : IsLinked (rows p m) j = subst (λ (x : ℕ). IsLinked (rows p x) j) e was.0 in
        ap (λ (x : KeyMap). get x (key_of (rows after n) j)) (put-same s.maps m n (remove (s.maps m) key) e)
        ∙ (ap (get (remove (s.maps m) key)) (key-same n j ∙ ap (λ (x : ℕ). key_of (rows p x) j) e)
        ∙ (still_leads (key_of (rows p m) j) (other_key j here (was.1 e)) ∙ (h.leads m j here ∙ ap (λ (x : ℕ). Some (h.number x j)) (sym e))))

    found-after : (n : ℕ) (q : List ℕ) (v : ℕ) → get (put s.maps m (remove (s.maps m) key) n) q ≡ Some v → (n ≡ m) ⊎ (n ≢ m)
        → (i : ℕ) × IsLinked (rows after n) i × (key_of (rows after n) i ≡ q) × (v ≡ h.number n i)
    found-after n q v e (inr ne) =
        let f = h.found n q v (sym (ap (λ (x : KeyMap). get x q) (put-other s.maps m n (remove (s.maps m) key) ne)) ∙ e) in
        (f.0, gone_still n f.0 f.1 (λ s. absurd (ne s)), key-same n f.0 ∙ f.2, f.3)
    found-after n q v e (inl s') =
        let there : get (remove (s.maps m) key) q ≡ Some v = sym (ap (λ (x : KeyMap). get x q) (put-same s.maps m n (remove (s.maps m) key) s')) ∙ e in
        let ne : q ≢ key = λ (x : q ≡ key). (let none : None ≡ Some v = sym (ap (get (remove (s.maps m) key)) x ∙ gone_key (s.maps m) key) ∙ there in cc) in
        let f = h.found m q v (sym (still_leads q ne) ∙ there) in
        let apart : f.0 ≢ old = λ (x : f.0 ≡ old). ne (sym f.2 ∙ (ap (key_of (rows p m)) x ∙ keyed)) in (
          f.0,
          gone_still n f.0 (subst (λ (x : ℕ). IsLinked (rows p x) f.0) (sym s') f.1) (λ _. apart),
          key-same n f.0 ∙ (ap (λ (x : ℕ). key_of (rows p x) f.0) s' ∙ f.2),
          f.3 ∙ ap (λ (x : ℕ). h.number x f.0) (sym s'),
        )

    one_less : len (remove (s.maps m) key) + 1 ≡ len (s.maps m)
    one_less =
        let there : contains_key (s.maps m) key ≡ true = ap is_some leads-old in
        let less : len (remove (s.maps m) key) ≡ len (s.maps m) - 1 = len-remove nat_list_cmp_total (s.maps m) key ∙ ap
        (λ (b : Bool). cond b (len (s.maps m) - 1) (len (s.maps m))) there in
        let count = h.counts m in
        let some : linked_count gone + 1 ≡ linked_count (rows p m) = count-less p.runs (rows p m) table k inside width in
        omega arith

    counts-after : (n : ℕ) → (n ≡ m) ⊎ (n ≢ m) → len (put s.maps m (remove (s.maps m) key) n) ≡ linked_count (rows after n)
    counts-after n (inr ne) = ap len (put-other s.maps m n (remove (s.maps m) key) ne) ∙ (h.counts n ∙ ap linked_count (sym (rows-else p m gone mi n ne)))
    counts-after n (inl e) =
        let less = one_less in
        let count = h.counts m in
        let fewer : linked_count gone + 1 ≡ linked_count (rows p m) = count-less p.runs (rows p m) table k inside width in
        ap len (put-same s.maps m n (remove (s.maps m) key) e)
        ∙ (let same : len (remove (s.maps m) key) ≡ linked_count gone = omega arith in
        same ∙ ap linked_count (sym (ap (rows after) e ∙ rows-here p m gone mi)))

    kept-after : (c v : ℕ) → kept_after s (get (s.maps m) key) c v ≡ true → (n : ℕ) × (i : ℕ) × (i < element_count after n) ×
        (keeps after c n i ≡ true) × (v ≡ h.number n i)
    kept-after c v e = go (true_or_false (s.running c)) (ap (λ (o : Option ℕ). kept_after s o c v) (sym leads-old) ∙ e)
      where
        before : s.kept c v ≡ true → (n : ℕ) × (i : ℕ) × (i < element_count after n) × (keeps after c n i ≡ true) × (v ≡ h.number n i)
        before x =
            let f = h.kept c v x in
            elim (same_or_not f.0 f.1) [
              | inr ne ↦ (f.0, f.1, back f.0 f.1 f.2, keeps-else c f.0 f.1 ne ∙ f.3, f.4)
              | inl s' ↦
                  let runs : is_running p c ≡ true = running_of (is_running p c) _ f.3 in
                  (f.0, f.1, back f.0 f.1 f.2, ap (λ (z : ℕ). keeps after c z f.1) s'.0 ∙ (ap (keeps after c m) s'.1 ∙ (keeps-here c ∙ runs)), f.4)
            ]
          where
            running_of : (a b : Bool) → (a && b) ≡ true → a ≡ true
            running_of true b h = refl
            running_of false b h = h

        go : (s.running c ≡ true) ⊎ (s.running c ≡ false) → kept_after s (Some (h.number m old)) c v ≡ true → (n : ℕ) × (i : ℕ) ×
            (i < element_count after n) × (keeps after c n i ≡ true) × (v ≡ h.number n i)
        go (inr r) x = before (sym (ap (λ (b : Bool). (if b then put (s.kept c) (h.number m old) true else s.kept c) v) r) ∙ x)
        go (inl r) x = elim (put_cases (s.kept c) (h.number m old) v true) [
          | inl y ↦ (m, old, back m old old_size, keeps-here c ∙ (sym (h.running c) ∙ r), y.0)
          | inr y ↦ before (sym y.1 ∙ (sym (ap (λ (b : Bool). (if b then put (s.kept c) (h.number m old) true else s.kept c) v) r) ∙ x))
        ]

    pub gone_stands : StandsFor after (after_delete s m key)
    gone_stands = record {
      cpus = h.cpus;
      maps = h.maps ∙ sym (shapes-with p m gone mi refl);
      running = h.running;
      number = h.number;
      leads = λ n j l. leads-after n j l (equal_or_not n m);
      found = λ n q v e. found-after n q v e (equal_or_not n m);
      counts = λ n. counts-after n (equal_or_not n m);
      values = λ n j l u.
          h.values n j (within n j l) (used-was n j u)
          ∙ (ap (λ (b : List ℕ). let y : Value = record { bytes = b; span = span_at p n j } in y) (sym (bytes-same n j))
          ∙ ap (λ (x : MapShape). let y : Value = record { bytes = bytes_of (rows after n) j; span = element_span n x j } in y) (sym (shape-same n)));
      held = λ c v e. (let f = h.held c v e in (f.0, f.1, back f.0 f.1 f.2, holds-same c f.0 f.1 ∙ f.3, f.4));
      held_back = λ c n j l e. h.held_back c n j (within n j l) (sym (holds-same c n j) ∙ e);
      kept = kept-after;
      kept_back = λ c n j l e. elim (same_or_not n j) [
        | inr ne ↦ kept_still s (get (s.maps m) key) c (h.number n j) (h.kept_back c n j (within n j l) (sym (keeps-else c n j ne) ∙ e))
        | inl s' ↦
            let going : s.running c ≡ true = h.running c ∙ (sym (keeps-here c) ∙
            (sym (ap (λ (z : ℕ). keeps after c z j) s'.0 ∙ ap (keeps after c m) s'.1) ∙ e)) in
            let at : h.number n j ≡ h.number m old = ap (λ (z : ℕ). h.number z j) s'.0 ∙ ap (h.number m) s'.1 in
            ap (kept_after s (get (s.maps m) key) c) at ∙ kept_now s (get (s.maps m) key) c (h.number m old) leads-old going
      ];
    }

-- ---- a key is put into a free element
abbrev pub with_value : Plain → ℕ → List ℕ → Value → Plain
with_value s m key x = record s { maps = put s.maps m (insert (s.maps m) key s.made); made = s.made + 1; value = put s.value s.made x }

module _ (p : Contents) (is : IsStore p) (m i : ℕ) (key bytes : List ℕ) (mi : m < length p.tables) (gap : IsMissing (rows p m) key)
    (ii : i < element_count p m) (free : IsLinked (rows p m) i → ⊥) (size : length key ≡ (rows p m).shape.key)
    (long : length bytes ≡ (rows p m).shape.value) where
  abbrev full : Rows
  full = linked_row i key bytes (rows p m)

  abbrev later : Contents
  later = with_table p m full

  here-table : IsTable (rows p m)
  here-table = (is.tables m mi).0

  holds-still : (d n j : ℕ) → holds later d n j ≡ holds p d n j
  holds-still d n j = ap (is_run (runs_of p d)) (tells-with p m full mi run_looked_up (λ x y. refl) n j d)

  keeps-still : (d n j : ℕ) → keeps later d n j ≡ keeps p d n j
  keeps-still d n j = ap (is_run (runs_of p d)) (tells-with p m full mi run_left (λ x y. refl) n j d)

  shape-still : (n : ℕ) → (rows later n).shape ≡ (rows p n).shape
  shape-still = shape-with p m full mi refl

  inside-was : (n j : ℕ) → j < element_count later n → j < element_count p n
  inside-was n j l = subst (λ (h : MapShape). j < elements h) (shape-still n) l

  inside-still : (n j : ℕ) → j < element_count p n → j < element_count later n
  inside-still n j l = subst (λ (h : MapShape). j < elements h) (sym (shape-still n)) l

  it_or_not : (n j : ℕ) → ((n ≡ m) × (j ≡ i)) ⊎ ((n ≡ m) → j ≢ i)
  it_or_not n j = elim (equal_or_not n m) [
    | inr ne ↦ inr (λ e. absurd (ne e))
    | inl e ↦ elim (equal_or_not j i) [ inl f ↦ inl (e, f) | inr f ↦ inr (λ _. f) ]
  ]

  link_was : (n j : ℕ) → IsLinked (rows later n) j → ((n ≡ m) × (j ≡ i)) ⊎ IsLinked (rows p n) j
  link_was n j l = elim (rows_cases p m full mi n) [
    | inr e ↦ inr (subst (λ (t : Rows). IsLinked t j) e.1 l)
    | inl e ↦ elim (linked_was (rows p m) here-table i key bytes gap ii free size long j (subst (λ (t : Rows). IsLinked t j) e.1 l)) [
      | inl f ↦ inl (e.0, f)
      | inr f ↦ inr (subst (λ (x : ℕ). IsLinked (rows p x) j) (sym e.0) f)
    ]
  ]

  link_still : (n j : ℕ) → IsLinked (rows p n) j → IsLinked (rows later n) j
  link_still n j l = elim (rows_cases p m full mi n) [
    | inr e ↦ subst (λ (t : Rows). IsLinked t j) (sym e.1) l
    | inl e ↦ subst (λ (t : Rows). IsLinked t j) (sym e.1) (linked_more (rows p m) here-table i key bytes gap ii free size long j
        (subst (λ (x : ℕ). IsLinked (rows p x) j) e.0 l))
  ]

  link_here : IsLinked (rows later m) i
  link_here = subst (λ (t : Rows). IsLinked t i) (sym (rows-here p m full mi)) (linked_here (rows p m) here-table i key bytes gap ii free size long)

  not_it : (n j : ℕ) → IsLinked (rows p n) j → (n ≡ m) → j ≢ i
  not_it n j l e f = free (subst (IsLinked (rows p m)) f (subst (λ (x : ℕ). IsLinked (rows p x) j) e l))

  key-now : key_of (rows later m) i ≡ key
  key-now = ap (λ (t : Rows). key_of t i) (rows-here p m full mi) ∙ key-here (rows p m) here-table i key bytes gap ii free size long

  bytes-now : bytes_of (rows later m) i ≡ bytes
  bytes-now = ap (λ (t : Rows). bytes_of t i) (rows-here p m full mi) ∙ bytes-here (rows p m) here-table i key bytes gap ii free size long

  key-still : (n j : ℕ) → j < element_count p n → ((n ≡ m) → j ≢ i) → key_of (rows later n) j ≡ key_of (rows p n) j
  key-still n j l ne = elim (rows_cases p m full mi n) [
    | inr e ↦ ap (λ (t : Rows). key_of t j) e.1
    | inl e ↦ ap (λ (t : Rows). key_of t j) e.1
        ∙ (key-beside (rows p m) here-table i key bytes gap ii free size long j (subst (λ (x : ℕ). j < element_count p x) e.0 l) (ne e.0) ∙
        ap (λ (x : ℕ). key_of (rows p x) j) (sym e.0))
  ]

  bytes-still : (n j : ℕ) → j < element_count p n → ((n ≡ m) → j ≢ i) → bytes_of (rows later n) j ≡ bytes_of (rows p n) j
  bytes-still n j l ne = elim (rows_cases p m full mi n) [
    | inr e ↦ ap (λ (t : Rows). bytes_of t j) e.1
    | inl e ↦ ap (λ (t : Rows). bytes_of t j) e.1
        ∙ (bytes-beside (rows p m) here-table i key bytes gap ii free size long j (subst (λ (x : ℕ). j < element_count p x) e.0 l) (ne e.0)
        ∙ ap (λ (x : ℕ). bytes_of (rows p x) j) (sym e.0))
  ]

  module _ (s : Plain) (so : IsSoundStore s) (h : StandsFor p s) (new : get (s.maps m) key ≡ None)
      (unheld : (c : ℕ) → holds p c m i ≡ true → ⊥) (unkept : (c : ℕ) → keeps p c m i ≡ true → ⊥) where
    abbrev value : Value
    value = record { bytes = bytes; span = span_at p m i }

    abbrev numbers : ℕ → ℕ → ℕ
    numbers = put h.number m (put (h.number m) i s.made)

    number-here : numbers m i ≡ s.made
    number-here = ap (λ (f : ℕ → ℕ). f i) (put-same h.number m m (put (h.number m) i s.made) refl) ∙ put-same (h.number m) i i s.made refl

    number-else : (n j : ℕ) → ((n ≡ m) → j ≢ i) → numbers n j ≡ h.number n j
    number-else n j ne = elim (put_cases h.number m n (put (h.number m) i s.made)) [
      | inr e ↦ ap (λ (f : ℕ → ℕ). f j) e.1
      | inl e ↦ ap (λ (f : ℕ → ℕ). f j) e.1 ∙ (put-other (h.number m) i j s.made (ne e.0) ∙ ap (λ (x : ℕ). h.number x j) (sym e.0))
    ]

    other_keys : (q : List ℕ) → q ≢ key → get (insert (s.maps m) key s.made) q ≡ get (s.maps m) q
    other_keys q ne = elim (insert_cases (s.maps m) key s.made q) [ inl e ↦ absurd (ne e.0) | inr e ↦ e ]

    old_key : (n j : ℕ) (l : IsLinked (rows p n) j) → (n ≡ m) → key_of (rows p n) j ≢ key
    old_key n j l e f =
        let there : get (s.maps m) key ≡ Some (h.number n j) = subst (λ (x : ℕ). get (s.maps x) key ≡ Some (h.number n j)) e
        (subst (λ (q : List ℕ). get (s.maps n) q ≡ Some (h.number n j)) f (h.leads n j l)) in
        let none : None ≡ Some (h.number n j) = sym new ∙ there in
        cc

    leads-later : (n j : ℕ) → IsLinked (rows later n) j → get (put s.maps m (insert (s.maps m) key s.made) n) (key_of (rows later n) j) ≡ Some (numbers n j)
    leads-later n j l = elim (link_was n j l) [
      | inl e ↦
          let at : key_of (rows later n) j ≡ key = ap (λ (x : ℕ). key_of (rows later x) j) e.0 ∙ (ap (key_of (rows later m)) e.1 ∙ key-now) in
          let number : numbers n j ≡ s.made = ap (λ (x : ℕ). numbers x j) e.0 ∙ (ap (numbers m) e.1 ∙ number-here) in
          ap (λ (x : KeyMap). get x (key_of (rows later n) j)) (put-same s.maps m n (insert (s.maps m) key s.made) e.0)
          ∙ (ap (get (insert (s.maps m) key s.made)) at ∙ (leads_new (s.maps m) key s.made ∙ ap (λ (x : ℕ). Some x) (sym number)))
      | inr w ↦
          let ne : (n ≡ m) → j ≢ i = not_it n j w in
          let at : key_of (rows later n) j ≡ key_of (rows p n) j = key-still n j (linked_size p is n j w) ne in
          let number : numbers n j ≡ h.number n j = number-else n j ne in
          let old : get (s.maps n) (key_of (rows p n) j) ≡ Some (h.number n j) = h.leads n j w in
          ap (get (put s.maps m (insert (s.maps m) key s.made) n)) at
          ∙ (elim (put_cases s.maps m n (insert (s.maps m) key s.made)) [
            | inr e ↦ ap (λ (x : KeyMap). get x (key_of (rows p n) j)) e.1
            | inl e ↦ ap (λ (x : KeyMap). get x (key_of (rows p n) j)) e.1
                ∙ (other_keys (key_of (rows p n) j) (old_key n j w e.0) ∙ ap (λ (x : ℕ). get (s.maps x) (key_of (rows p n) j)) (sym e.0))
          ] ∙ (old ∙ ap (λ (x : ℕ). Some x) (sym number)))
    ]

    was_found : (n : ℕ) (q : List ℕ) (v : ℕ) → get (s.maps n) q ≡ Some v → (j : ℕ) × IsLinked (rows later n) j ×
        (key_of (rows later n) j ≡ q) × (v ≡ numbers n j)
    was_found n q v e =
        let f = h.found n q v e in
        let ne : (n ≡ m) → f.0 ≢ i = not_it n f.0 f.1 in
        (f.0, link_still n f.0 f.1, key-still n f.0 (linked_size p is n f.0 f.1) ne ∙ f.2, f.3 ∙ sym (number-else n f.0 ne))

    found-later : (n : ℕ) (q : List ℕ) (v : ℕ) → get (put s.maps m (insert (s.maps m) key s.made) n) q ≡ Some v → (j : ℕ) × IsLinked
        (rows later n) j × (key_of (rows later n) j ≡ q) × (v ≡ numbers n j)
    found-later n q v e = elim (put_cases s.maps m n (insert (s.maps m) key s.made)) [
      | inr x ↦ was_found n q v (sym (ap (λ (y : KeyMap). get y q) x.1) ∙ e)
      | inl x ↦
          let there : get (insert (s.maps m) key s.made) q ≡ Some v = sym (ap (λ (y : KeyMap). get y q) x.1) ∙ e in
          elim (insert_cases (s.maps m) key s.made q) [
            | inl y ↦
                let made : v ≡ s.made = (let z : Some s.made ≡ Some v = sym y.1 ∙ there in cc) in (
                  i,
                  subst (λ (z : ℕ). IsLinked (rows later z) i) (sym x.0) link_here,
                  ap (λ (z : ℕ). key_of (rows later z) i) x.0 ∙ (key-now ∙ sym y.0),
                  made ∙ (sym number-here ∙ ap (λ (z : ℕ). numbers z i) (sym x.0)),
                )
            | inr y ↦ was_found n q v (ap (λ (z : ℕ). get (s.maps z) q) x.0 ∙ (sym y ∙ there))
          ]
    ]

    counts-later : (n : ℕ) → len (put s.maps m (insert (s.maps m) key s.made) n) ≡ linked_count (rows later n)
    counts-later n = elim (put_cases s.maps m n (insert (s.maps m) key s.made)) [
      | inr x ↦ ap len x.1 ∙ (h.counts n ∙ ap linked_count (sym (rows-else p m full mi n x.0)))
      | inl x ↦
          let absent : contains_key (s.maps m) key ≡ false = ap is_some new in
          let more : len (insert (s.maps m) key s.made) ≡ len (s.maps m) + 1 = len-insert nat_list_cmp_total (s.maps m) key s.made ∙ ap
          (λ (b : Bool). cond b (len (s.maps m)) (len (s.maps m) + 1)) absent in
          let more_linked : linked_count full ≡ linked_count (rows p m) + 1 = count-more (rows p m) here-table i key bytes gap ii free size long in
          let count = h.counts m in
          let same : len (insert (s.maps m) key s.made) ≡ linked_count full = omega arith in
          ap len x.1 ∙ (same ∙ ap linked_count (sym (ap (rows later) x.0 ∙ rows-here p m full mi)))
    ]

    used-was' : (n j : ℕ) → IsUsed later n j → ((n ≡ m) → j ≢ i) → IsUsed p n j
    used-was' n j (inl l) ne = elim (link_was n j l) [ inl e ↦ absurd (ne e.0 e.1) | inr w ↦ inl w ]
    used-was' n j (inr u) ne = inr (u.0, elim u.1 [ inl e ↦ inl (sym (keeps-still u.0 n j) ∙ e) | inr e ↦ inr (sym (holds-still u.0 n j) ∙ e) ])

    older : (n j : ℕ) → j < element_count p n → IsUsed p n j → h.number n j < s.made
    older n j l (inl w) = so.live_made (h.number n j) (inl (n, (_, h.leads n j w)))
    older n j l (inr u) = elim u.1 [
      | inl e ↦ so.kept_made (h.number n j) (u.0, h.kept_back u.0 n j l e)
      | inr e ↦ so.live_made (h.number n j) (inr (inl (u.0, h.held_back u.0 n j l e)))
    ]

    values-later : (n j : ℕ) → j < element_count later n → IsUsed later n j → put s.value s.made value (numbers n j) ≡ record
        { bytes = bytes_of (rows later n) j; span = span_at later n j }
    values-later n j l u = elim (it_or_not n j) [
      | inl e ↦
          let number : numbers n j ≡ s.made = ap (λ (x : ℕ). numbers x j) e.0 ∙ (ap (numbers m) e.1 ∙ number-here) in
          put-same s.value s.made (numbers n j) value number
          ∙ (ap (λ (b : List ℕ). let y : Value = record { bytes = b; span = span_at p m i } in y) (sym bytes-now)
          ∙ (ap (λ (x : MapShape). let y : Value = record { bytes = bytes_of (rows later m) i; span = element_span m x i } in y) (sym (shape-still m))
          ∙ (ap (λ (x : ℕ). let y : Value = record { bytes = bytes_of (rows later m) x; span = span_at later m x } in y) (sym e.1)
          ∙ ap (λ (x : ℕ). let y : Value = record { bytes = bytes_of (rows later x) j; span = span_at later x j } in y) (sym e.0))))
      | inr ne ↦
          let was = used-was' n j u ne in
          let inside = inside-was n j l in
          let number : numbers n j ≡ h.number n j = number-else n j ne in
          let below = older n j inside was in
          ap (put s.value s.made value) number
          ∙ (put-other s.value s.made (h.number n j) value (λ e. (let z : h.number n j ≡ s.made = e in omega arith))
          ∙ (h.values n j inside was
          ∙ (ap (λ (b : List ℕ). let y : Value = record { bytes = b; span = span_at p n j } in y) (sym (bytes-still n j inside ne))
          ∙ ap (λ (x : MapShape). let y : Value = record { bytes = bytes_of (rows later n) j; span = element_span n x j } in y) (sym (shape-still n)))))
    ]

    pub linked_stands : StandsFor later (with_value s m key value)
    linked_stands = record {
      cpus = h.cpus;
      maps = h.maps ∙ sym (shapes-with p m full mi refl);
      running = h.running;
      number = numbers;
      leads = leads-later;
      found = found-later;
      counts = counts-later;
      values = values-later;
      held = λ c v e. (let f = h.held c v e in (
        f.0,
        f.1,
        inside-still f.0 f.1 f.2,
        holds-still c f.0 f.1 ∙ f.3,
        f.4 ∙ sym
            (number-else f.0 f.1 (unheld_at c f.0 f.1 f.3)),
      ));
      held_back = λ c n j l e.
          (let w = sym (holds-still c n j) ∙ e in ap (s.held c) (number-else n j (unheld_at c n j w)) ∙ h.held_back c n j (inside-was n j l) w);
      kept = λ c v e. (let f = h.kept c v e in (
        f.0,
        f.1,
        inside-still f.0 f.1 f.2,
        keeps-still c f.0 f.1 ∙ f.3,
        f.4 ∙ sym
            (number-else f.0 f.1 (unkept_at c f.0 f.1 f.3)),
      ));
      kept_back = λ c n j l e.
          (let w = sym (keeps-still c n j) ∙ e in ap (s.kept c) (number-else n j (unkept_at c n j w)) ∙ h.kept_back c n j (inside-was n j l) w);
    }
      where
        unheld_at : (c n j : ℕ) → holds p c n j ≡ true → (n ≡ m) → j ≢ i
        unheld_at c n j e a f = unheld c (sym (ap (λ (x : ℕ). holds p c x j) a ∙ ap (holds p c m) f) ∙ e)

        unkept_at : (c n j : ℕ) → keeps p c n j ≡ true → (n ≡ m) → j ≢ i
        unkept_at c n j e a f = unkept c (sym (ap (λ (x : ℕ). keeps p c x j) a ∙ ap (keeps p c m) f) ∙ e)
