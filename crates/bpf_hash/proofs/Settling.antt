-- Updates and deletions of a `HashStore` are calls.
use Rattle.std.proofs.Common.{◌≡◌, ◌≢◌, ℕ, ◌+◌, ◌-◌, ◌*◌, ◌<◌, ◌≤◌, Bool, true, false, not, cond, ◌&&◌, ◌==◌, List, [], ◌∷◌, Option, Some}
use Rattle.std.proofs.Common.{None, is_some, length, slice_index, inl, inr, refl, ap, sym, ◌∙◌, subst, arith, eq-eqb, ne_eqb}
use Rattle.std.proofs.lemmas.Bool.Decides.{nat_tests}
use Rattle.std.proofs.lemmas.Cmp.{nat_list_cmp_total}
use Rattle.std.proofs.lemmas.List.{set-get_or}
use Rattle.std.specs.Ordering.{nat_cmp, eq_by_cmp}
use Rattle.std.specs.Cmp.Lexicographic.{slice_cmp}
use Rattle.std.specs.FinMap.{get, insert, remove, len, contains_key, get-insert, get-remove, len-insert, len-remove}
use Rattle.bpf_base.proofs.Lists.{set_twice}
use Rattle.bpf_shared.specs.declared.events.MapAnswer.{MapAnswer}
use Rattle.bpf_shared.specs.declared.events.MapAnswer.TheVariants.{Done, Invalid, Busy, Exists, Absent, Full, NoMemory}
use Rattle.bpf_shared.specs.declared.events.Event.TheVariants.{Update, Delete}
use Rattle.bpf_shared.specs.declared.shapes.MapShape.{MapShape}
use Rattle.bpf_shared.specs.First.{first_of}
use Rattle.bpf_shared.specs.Shape.{IsMap, IsKeyOf, elements, element_span}
use Rattle.bpf_shared.specs.Store.{KeyMap, Plain, Value, put}
use Rattle.bpf_shared.specs.Events.{has_key, refusals, kept_after, after_delete, after_update}
use Rattle.bpf_shared.specs.Sound.{IsSoundStore}
use Rattle.bpf_hash.specs.Private.Runs.{is_run}
use Rattle.bpf_hash.specs.Private.Rows.{Rows, no_rows, key_of, run_looked_up, run_left, IsTable, IsLinked, IsMissing, linked_count, IsKeyAt}
use Rattle.bpf_hash.specs.Private.Rows.{IsLowestFreeRow, HasRoomAt, PutsRow, TakesRow, linked_row, unlinked_row}
use Rattle.bpf_hash.specs.Private.Contents.{Contents, runs_of, rows, span_at, shapes_of, has_cpu, is_running, holds, keeps, held_spans}
use Rattle.bpf_hash.specs.Private.Contents.{StandsFor, MayLack, IsStore, with_table, Makes}
use Rattle.bpf_shared.proofs.Puts.{equal_or_not, put-same, put-other, gone_key}
use Rattle.bpf_shared.proofs.Soundness.{after_delete_sound}
use Rattle.bpf_hash.proofs.Passages.{calls}
use Rattle.bpf_hash.proofs.Linking.{unlinked_table, unlinked_missing, count-less}
use Rattle.bpf_hash.proofs.Changing.{rows-here, shape-with, shapes-with, tells-with, store-with, held-same, count-with, shape_at}
use Rattle.bpf_hash.proofs.Places.{held_taken, keeps_cpu, taken_up, lowest_up, free_apart}
use Rattle.bpf_hash.proofs.Updating.{left-here, left-else, gone_stands, gone_was, holds-same, keeps-else, with_value, linked_stands}

-- ---- tests
tests : (a b c d a' b' c' d' : Bool) → a ≡ a' → b ≡ b' → c ≡ c' → d ≡ d'
    → first_of ((Invalid, a) ∷ (Exists, b) ∷ (Absent, c) ∷ (Full, d) ∷ []) ≡ first_of ((Invalid, a') ∷ (Exists, b') ∷ (Absent, c') ∷ (Full, d') ∷ [])
tests a b c d a' b' c' d' p q r s = λ i. first_of ((Invalid, p i) ∷ (Exists, q i) ∷ (Absent, r i) ∷ (Full, s i) ∷ [])

and_false : (b : Bool) → (b && false) ≡ false
and_false true = refl
and_false false = refl

-- ---- keys of a map
module _ (p : Contents) (m : ℕ) (key : List ℕ) (s : Plain) (h : StandsFor p s) where
  there : (k : ℕ) → IsKeyAt (rows p m) key k → has_key s m key ≡ true
  there k at = ap is_some (subst (λ (q : List ℕ). get (s.maps m) q ≡ Some (h.number m k)) at.is (h.leads m k at.linked))

  missing : IsMissing (rows p m) key → get (s.maps m) key ≡ None
  missing gap = go (get (s.maps m) key) refl
    where
      go : (o : Option ℕ) → get (s.maps m) key ≡ o → get (s.maps m) key ≡ None
      go None e = e
      go (Some v) e = let f = h.found m key v e in absurd (gap f.0 f.1 f.2)

  counted : len (s.maps m) ≡ linked_count (rows p m)
  counted = h.counts m

unchanged : (p : Contents) (m : ℕ) (n : Rows) → n ≡ rows p m → with_table p m n ≡ p
unchanged p m n e = ap (with_table p m) e ∙ ap (λ (ts : List Rows). let q : Contents = record p { tables = ts } in q) (set-get_or p.tables m no_rows)

-- the store with other finite maps that have the same keys and values
other_maps : (r : Contents) (s : Plain) (maps : ℕ → KeyMap) → ((n : ℕ) (q : List ℕ) → get (maps n) q ≡ get (s.maps n) q) →
    ((n : ℕ) → len (maps n) ≡ len (s.maps n))
    → StandsFor r s → StandsFor r (record s { maps = maps })
other_maps r s maps same count h = record {
  cpus = h.cpus;
  maps = h.maps;
  running = h.running;
  number = h.number;
  leads = λ n j l. same n (key_of (rows r n) j) ∙ h.leads n j l;
  found = λ n q v e. h.found n q v (sym (same n q) ∙ e);
  counts = λ n. count n ∙ h.counts n;
  values = h.values;
  held = h.held;
  held_back = h.held_back;
  kept = h.kept;
  kept_back = h.kept_back;
}

module _ (k : KeyMap) (key : List ℕ) (n v : ℕ) (there : get k key ≡ Some v) where
  inserted_again : (q : List ℕ) → get (insert k key n) q ≡ get (insert (remove k key) key n) q
  inserted_again q =
      get-insert nat_list_cmp_total k key n q
      ∙ (go (eq_by_cmp (slice_cmp nat_cmp) q key) ∙ sym (get-insert nat_list_cmp_total (remove k key) key n q ∙ ap
      (cond (eq_by_cmp (slice_cmp nat_cmp) q key) (Some n)) (get-remove nat_list_cmp_total k key q)))
    where
      go : (b : Bool) → cond b (Some n) (get k q) ≡ cond b (Some n) (cond b None (get k q))
      go true = refl
      go false = refl

  len_again : 0 < len k → len (insert k key n) ≡ len (insert (remove k key) key n)
  len_again some =
      let had : contains_key k key ≡ true = ap is_some there in
      let now : contains_key (remove k key) key ≡ false = ap is_some (gone_key k key) in
      let less : len (remove k key) ≡ len k - 1 = len-remove nat_list_cmp_total k key ∙ ap (λ (b : Bool). cond b (len k - 1) (len k)) had in
      let first : len (insert k key n) ≡ len k = len-insert nat_list_cmp_total k key n ∙ ap (λ (b : Bool). cond b (len k) (len k + 1)) had in
      let second : len (insert (remove k key) key n) ≡ len (remove k key) + 1 = len-insert nat_list_cmp_total (remove k key) key n ∙ ap
      (λ (b : Bool). cond b (len (remove k key)) (len (remove k key) + 1)) now in
      omega arith

module _ (p : Contents) (is : IsStore p) (c m : ℕ) (key : List ℕ) (mi : m < length p.tables) where
  abbrev pub row : Rows
  row = rows p m

  table : IsTable row
  table = (is.tables m mi).0

  width : length p.runs ≡ row.cpus
  width = sym (is.tables m mi).1

  is_map : (s : Plain) → StandsFor p s → IsMap s.shape.maps m row.shape
  is_map s h = subst (λ (maps : List MapShape). IsMap maps m row.shape) (sym h.maps) (shape_at p.tables m mi)

  gone_left : (k : ℕ) → IsLinked row k → (i d : ℕ) → d < length p.runs → run_left (unlinked_row p.runs k row) i d ≤ (runs_of p d).count
  gone_left k l i d inside =
      let di : d < row.cpus = subst (λ (x : ℕ). d < x) width inside in
      elim (equal_or_not i k) [
        | inl e ↦
            let at : run_left (unlinked_row p.runs k row) i d ≡ (runs_of p d).count = ap
            (λ (x : ℕ). run_left (unlinked_row p.runs k row) x d) e ∙ left-here p.runs row table k l width d di in
            omega arith
        | inr ne ↦
            let at : run_left (unlinked_row p.runs k row) i d ≡ run_left row i d = left-else p.runs row table k l width i d di ne in
            let old = is.left m i d inside in
            omega arith
      ]

  gone_store : (k : ℕ) → IsLinked row k → IsStore (with_table p m (unlinked_row p.runs k row))
  gone_store k l = store-with p m (unlinked_row p.runs k row) mi is (unlinked_table p.runs row table k l width) refl
      (λ i d x. is.looked_up m i d x) (gone_left k l)

  -- ---- deletions
  pub takes_calls : (answer : MapAnswer) (n : Rows) → is_running p c ≡ true → IsKeyOf (shapes_of p) m key → TakesRow p.runs row key answer n
      → Makes p (with_table p m n) c (Delete m key answer)
  takes_calls Done n going keyed t = calls p (with_table p m n) c (Delete m key Done) (λ s so h. (
    after_delete s m key,
    (h.running c ∙ going, (subst (λ (maps : List MapShape). IsKeyOf maps m key) (sym h.maps) keyed, (there p m key s h t.0 t.1, refl))),
    tt,
    subst (λ (x : Rows). StandsFor (with_table p m x) (after_delete s m key)) (sym t.2) (gone_stands p is m t.0 mi t.1.linked s so h key t.1.is),
  ))
  takes_calls Absent n going keyed t = calls p (with_table p m n) c (Delete m key Absent) (λ s so h. (
    s,
    (h.running c ∙ going, (subst (λ (maps : List MapShape). IsKeyOf maps m key) (sym h.maps) keyed, (ap is_some (missing p m key s h t.0), refl))),
    tt,
    subst (λ (x : Contents). StandsFor x s) (sym (unchanged p m n t.1)) h,
  ))
  takes_calls Busy n going keyed t = absurd t
  takes_calls Invalid n going keyed t = absurd t
  takes_calls Exists n going keyed t = absurd t
  takes_calls Full n going keyed t = absurd t
  takes_calls NoMemory n going keyed t = absurd t

  -- what an answer leaves as it was
  abbrev pub Keeps : Rows → Type 0
  Keeps n = (n.shape ≡ row.shape) × (n.cpus ≡ row.cpus) × (n.looked_up ≡ row.looked_up) × ((i d : ℕ) → d < length p.runs → run_left n i d ≤ (runs_of p d).count)

  same_keeps : (n : Rows) → n ≡ row → Keeps n
  same_keeps n e = subst Keeps (sym e) (refl, refl, refl, λ i d l. is.left m i d l)

  gone_keeps : (k : ℕ) → IsLinked row k → (n : Rows) → n ≡ unlinked_row p.runs k row → Keeps n
  gone_keeps k l n e = subst Keeps (sym e) (refl, refl, refl, gone_left k l)

  pub takes_keeps : (answer : MapAnswer) (n : Rows) → TakesRow p.runs row key answer n → Keeps n
  takes_keeps Done n t = gone_keeps t.0 t.1.linked n t.2
  takes_keeps Absent n t = same_keeps n t.1
  takes_keeps Busy n t = absurd t
  takes_keeps Invalid n t = absurd t
  takes_keeps Exists n t = absurd t
  takes_keeps Full n t = absurd t
  takes_keeps NoMemory n t = absurd t

  pub puts_keeps : (bytes : List ℕ) (flags : ℕ) (answer : MapAnswer) (n : Rows) → PutsRow p.runs row key bytes flags answer n → Keeps n
  puts_keeps bytes flags Invalid n t = same_keeps n t.1
  puts_keeps bytes flags Exists n t = same_keeps n t.2
  puts_keeps bytes flags Absent n t = same_keeps n t.2
  puts_keeps bytes flags Full n t = same_keeps n t.3
  puts_keeps bytes flags NoMemory n t = same_keeps n t.2
  puts_keeps bytes flags Busy n t = absurd t
  puts_keeps bytes flags Done n (i, free, inl t) = subst Keeps (sym t.2.2) (refl, refl, refl, gone_left t.2.0 t.2.1.linked)
  puts_keeps bytes flags Done n (i, free, inr t) = subst Keeps (sym t.3) (refl, refl, refl, λ j d l. is.left m j d l)

  pub keeps_store : (n : Rows) → Keeps n → IsTable n → IsStore (with_table p m n)
  keeps_store n k after = store-with p m n mi is after k.1 (λ i d l. subst (λ (x : ℕ). x ≤ (runs_of p d).count) (sym (looked i d)) (is.looked_up m i d l)) k.3
    where
      looked : (i d : ℕ) → run_looked_up n i d ≡ run_looked_up row i d
      looked i d = ap (λ (x : ℕ). slice_index n.looked_up (i * x + d)) k.1 ∙ ap (λ (x : List ℕ). slice_index x (i * row.cpus + d)) k.2

  pub keeps_held : (n : Rows) → Keeps n → held_spans (with_table p m n) ≡ held_spans p
  keeps_held n k = held-same p (with_table p m n) (count-with p m n mi) (shape-with p m n mi k.0)
      (λ d x j. ap (is_run (runs_of p d)) (tells-with p m n mi run_looked_up looked x j d))
    where
      looked : (i d : ℕ) → run_looked_up n i d ≡ run_looked_up row i d
      looked i d = ap (λ (x : ℕ). slice_index n.looked_up (i * x + d)) k.1 ∙ ap (λ (x : List ℕ). slice_index x (i * row.cpus + d)) k.2

  pub keeps_shapes : (n : Rows) → Keeps n → shapes_of (with_table p m n) ≡ shapes_of p
  keeps_shapes n k = shapes-with p m n mi k.0

  -- ---- updates
  module _ (bytes : List ℕ) (flags : ℕ) (size : length key ≡ row.shape.key) (long : length bytes ≡ row.shape.value) where
    -- a refusal by a test
    refused : (answer : MapAnswer) (n : Rows) → n ≡ row → ((s : Plain) → StandsFor p s → StandsFor (with_table p m n) s)
    refused answer n e s h = subst (λ (x : Contents). StandsFor x s) (sym (unchanged p m n e)) h

    abbrev passing : Plain → Type 0
    passing s = first_of (refusals s m row.shape key flags) ≡ None

    passes_there : (s : Plain) → flags ≤ 2 → flags ≢ 1 → has_key s m key ≡ true → passing s
    passes_there s l ne has = tests _ _ _ _ false false false false
        (grind (arith, nat_tests))
        (ap (λ (b : Bool). b && has_key s m key) (ne_eqb flags 1 ne))
        (ap (λ (b : Bool). (flags == 2) && not b) has ∙ and_false (flags == 2))
        (ap (λ (b : Bool). not b && (len (s.maps m) == row.shape.max)) has)

    passes_missing : (s : Plain) → flags < 2 → has_key s m key ≡ false → len (s.maps m) ≢ row.shape.max → passing s
    passes_missing s l has room = tests _ _ _ _ false false false false
        (grind (arith, nat_tests))
        (ap (λ (b : Bool). (flags == 1) && b) has ∙ and_false (flags == 1))
        (ap (λ (b : Bool). b && not (has_key s m key)) (ne_eqb flags 2 (λ e. (let z : flags ≡ 2 = e in omega arith))))
        (ap (λ (b : Bool). not b && (len (s.maps m) == row.shape.max)) has ∙ ne_eqb (len (s.maps m)) row.shape.max room)

    room_passes : (s : Plain) → StandsFor p s → HasRoomAt row key flags → passing s
    room_passes s h (inl r) = passes_there s r.0 r.1 (there p m key s h r.2.0 r.2.1)
    room_passes s h (inr r) = passes_missing s r.0 (ap is_some (missing p m key s h r.1))
        (λ e. (let x = r.2 in let y = h.counts m in let z : len (s.maps m) ≡ row.shape.max = e in omega arith))

    module _ (i : ℕ) (free : IsLowestFreeRow p.runs row i) (s : Plain) (so : IsSoundStore s) (h : StandsFor p s) where
      abbrev value : Value
      value = record { bytes = bytes; span = span_at p m i }

      unheld : (d : ℕ) → holds p d m i ≡ true → ⊥
      unheld d e = free.free (held_taken p is s so h d m i free.inside e)

      unkept : (d : ℕ) → keeps p d m i ≡ true → ⊥
      unkept d e = free.free (inr (d, keeps_cpu p d m i e, e))

      added : IsMissing row key → StandsFor (with_table p m (linked_row i key bytes row)) (after_update s m key value)
      added gap =
          let new = missing p m key s h gap in
          let kept : s.kept ≡ kept_after s (get (s.maps m) key) = sym (ap (kept_after s) new) in
          subst (λ (f : ℕ → ℕ → Bool). StandsFor (with_table p m (linked_row i key bytes row)) (record (with_value s m key value) { kept = f })) kept
          (linked_stands p is m i key bytes mi gap free.inside (λ l. free.free (inl l)) size long s so h new unheld unkept)

      replaced : (k : ℕ) → IsKeyAt row key k → StandsFor (with_table p m (linked_row i key bytes (unlinked_row p.runs k row))) (after_update s m key value)
      replaced k at =
          let q : Contents = with_table p m (unlinked_row p.runs k row) in
          let t : Plain = after_delete s m key in
          let here : rows q m ≡ unlinked_row p.runs k row = rows-here p m (unlinked_row p.runs k row) mi in
          let shape : (rows q m).shape ≡ row.shape = ap (λ (x : Rows). x.shape) here in
          let leads : get (s.maps m) key ≡ Some (h.number m k) = subst (λ (x : List ℕ). get (s.maps m) x ≡ Some (h.number m k)) at.is (h.leads m k at.linked) in
          let apart : i ≢ k = λ e. free.free (inl (subst (IsLinked row) (sym e) at.linked)) in
          let stands : StandsFor (with_table q m (linked_row i key bytes (rows q m))) (with_value t m key (record { bytes = bytes; span = span_at q m i })) =
          linked_stands q (gone_store k at.linked) m i key bytes (subst (λ (x : ℕ). m < x) (sym (count-with p m (unlinked_row p.runs k row) mi)) mi)
          (subst (λ (x : Rows). IsMissing x key) (sym here) (unlinked_missing p.runs row table k at.linked width key at.is))
          (subst (λ (x : MapShape). i < elements x) (sym shape) free.inside)
          (λ l. free.free (inl (gone_was p is m k mi at.linked m i l).0))
          (size ∙ ap (λ (x : MapShape). x.key) (sym shape))
          (long ∙ ap (λ (x : MapShape). x.value) (sym shape))
          t (after_delete_sound s m key so) (gone_stands p is m k mi at.linked s so h key at.is)
          (ap (λ (x : KeyMap). get x key) (put-same s.maps m m (remove (s.maps m) key) refl) ∙ gone_key (s.maps m) key)
          (λ d e. unheld d (sym (holds-same p is m k mi at.linked d m i) ∙ e))
          (λ d e. unkept d (sym (keeps-else p is m k mi at.linked d m i (λ _. apart)) ∙ e)) in
          let same_contents : with_table q m (linked_row i key bytes (rows q m)) ≡ with_table p m (linked_row i key bytes (unlinked_row p.runs k row)) =
          ap (λ (x : Rows). with_table q m (linked_row i key bytes x)) here
          ∙ ap (λ (ts : List Rows). let y : Contents = record p { tables = ts } in y)
          (set_twice p.tables m (unlinked_row p.runs k row) (linked_row i key bytes (unlinked_row p.runs k row))) in
          let same_value : ◌≡◌ {A = Value} (record { bytes = bytes; span = span_at q m i }) value = ap
          (λ (x : MapShape). let y : Value = record { bytes = bytes; span = element_span m x i } in y) shape in
          let moved = subst (λ (x : Contents). StandsFor x (with_value t m key value)) same_contents
          (subst (λ (x : Value). StandsFor (with_table q m (linked_row i key bytes (rows q m))) (with_value t m key x)) same_value stands) in
          let some : 0 < len (s.maps m) =
          (let x = h.counts m in
          let y : linked_count (unlinked_row p.runs k row) + 1 ≡ linked_count row = count-less p.runs row table k at.linked width in omega arith)
          in
          other_maps (with_table p m (linked_row i key bytes (unlinked_row p.runs k row))) (with_value t m key value)
          (put s.maps m (insert (s.maps m) key s.made))
          (λ n x. elim (equal_or_not n m) [
            | inr ne ↦
                ap (λ (y : KeyMap). get y x) (put-other s.maps m n (insert (s.maps m) key s.made) ne)
                ∙ sym (ap (λ (y : KeyMap). get y x) (put-other t.maps m n (insert (t.maps m) key s.made) ne) ∙ ap (λ (y : KeyMap). get y x)
                (put-other s.maps m n (remove (s.maps m) key) ne))
            | inl e ↦
                ap (λ (y : KeyMap). get y x) (put-same s.maps m n (insert (s.maps m) key s.made) e)
                ∙ (inserted_again (s.maps m) key s.made (h.number m k) leads x
                ∙ sym (ap (λ (y : KeyMap). get y x) (put-same t.maps m n (insert (t.maps m) key s.made) e) ∙ ap
                (λ (y : KeyMap). get (insert y key s.made) x) (put-same s.maps m m (remove (s.maps m) key) refl)))
          ])
          (λ n. elim (equal_or_not n m) [
            | inr ne ↦
                ap len (put-other s.maps m n (insert (s.maps m) key s.made) ne)
                ∙ sym (ap len (put-other t.maps m n (insert (t.maps m) key s.made) ne) ∙ ap len (put-other s.maps m n (remove (s.maps m) key) ne))
            | inl e ↦
                ap len (put-same s.maps m n (insert (s.maps m) key s.made) e)
                ∙ (len_again (s.maps m) key s.made (h.number m k) leads some
                ∙ sym (ap len (put-same t.maps m n (insert (t.maps m) key s.made) e) ∙ ap (λ (y : KeyMap). len (insert y key s.made))
                (put-same s.maps m m (remove (s.maps m) key) refl)))
          ])
          moved

    pub puts_calls : (answer : MapAnswer) (n : Rows) → is_running p c ≡ true → PutsRow p.runs row key bytes flags answer n
        → Makes p (with_table p m n) c (Update m key bytes flags answer)
    puts_calls Invalid n going t = calls p (with_table p m n) c (Update m key bytes flags Invalid) (λ s so h. (
      s,
      (h.running c ∙ going, (row.shape, is_map s h, size, long, (tests _ _ _ _ true _ _ _ (let l = t.0 in grind (arith, nat_tests)) refl refl refl, refl))),
      tt,
      refused Invalid n t.1 s h,
    ))
    puts_calls Exists n going t = calls p (with_table p m n) c (Update m key bytes flags Exists) (λ s so h. (
      s,
      (
        h.running c ∙ going,
        (
          row.shape,
          is_map s h,
          size,
          long,
          (
            tests _ _ _ _ false true _ _ (let l = t.0 in grind (arith, nat_tests))
                (let has = there p m key s h t.1.0 t.1.1 in ap (λ (b : Bool). (flags == 1) && b) has ∙ (ap (λ (b : Bool). b && true) (eq-eqb flags 1 t.0)))
                refl refl,
            refl,
          ),
        ),
      ),
      tt,
      refused Exists n t.2 s h,
    ))
    puts_calls Absent n going t = calls p (with_table p m n) c (Update m key bytes flags Absent) (λ s so h. (
      s,
      (
        h.running c ∙ going,
        (
          row.shape,
          is_map s h,
          size,
          long,
          (
            tests _ _ _ _ false false true _ (let l = t.0 in grind (arith, nat_tests))
                (let has : has_key s m key ≡ false = ap is_some (missing p m key s h t.1) in ap (λ (b : Bool). (flags == 1) && b) has ∙ and_false (flags == 1))
                (let has : has_key s m key ≡ false = ap is_some (missing p m key s h t.1) in ap (λ (b : Bool). (flags == 2) && not b) has ∙
                ap (λ (b : Bool). b && true) (eq-eqb flags 2 t.0))
                refl,
            refl,
          ),
        ),
      ),
      tt,
      refused Absent n t.2 s h,
    ))
    puts_calls Full n going t = calls p (with_table p m n) c (Update m key bytes flags Full) (λ s so h. (
      s,
      (
        h.running c ∙ going,
        (row.shape, is_map s h, size, long, (full_test s h t.0 (ap is_some (missing p m key s h t.1)) (h.counts m ∙ t.2), refl)),
      ),
      tt,
      refused Full n t.3 s h,
    ))
      where
        full_test : (s : Plain) → StandsFor p s → flags < 2 → has_key s m key ≡ false → len (s.maps m) ≡ row.shape.max → first_of
            (refusals s m row.shape key flags) ≡ Some Full
        full_test s h l has full = tests _ _ _ _ false false false true
            (grind (arith, nat_tests))
            (ap (λ (b : Bool). (flags == 1) && b) has ∙ and_false (flags == 1))
            (ap (λ (b : Bool). b && not (has_key s m key)) (ne_eqb flags 2 (λ e. (let z : flags ≡ 2 = e in omega arith))))
            (ap (λ (b : Bool). not b && (len (s.maps m) == row.shape.max)) has ∙ eq-eqb (len (s.maps m)) row.shape.max full)
    puts_calls NoMemory n going t = calls p (with_table p m n) c (Update m key bytes flags NoMemory) (λ s so h. (
      s,
      (h.running c ∙ going, (row.shape, is_map s h, size, long, (room_passes s h t.0, refl))),
      (row.shape, is_map s h, λ i l. taken_up p is s so h m i l (t.1 i l)),
      refused NoMemory n t.2 s h,
    ))
    puts_calls Busy n going t = absurd t
    puts_calls Done n going (i, free, inl t) = calls p (with_table p m n) c (Update m key bytes flags Done) (λ s so h. (
      after_update s m key (value i free s so h),
      (
        h.running c ∙ going,
        (
          row.shape,
          is_map s h,
          size,
          long,
          (
            passes_there s t.0 t.1 (there p m key s h t.2.0 t.2.1),
            (span_at p m i, record { element = (i, free.inside, refl); apart = free_apart p is s so h m i free.inside free.free }, refl),
          ),
        ),
      ),
      (row.shape, i, is_map s h, lowest_up p is s so h m i free, ap (λ (x : Value). x.span) (put-same s.value s.made s.made (value i free s so h) refl)),
      subst (λ (x : Rows). StandsFor (with_table p m x) (after_update s m key (value i free s so h))) (sym t.2.2) (replaced i free s so h t.2.0 t.2.1),
    ))
    puts_calls Done n going (i, free, inr t) = calls p (with_table p m n) c (Update m key bytes flags Done) (λ s so h. (
      after_update s m key (value i free s so h),
      (
        h.running c ∙ going,
        (
          row.shape,
          is_map s h,
          size,
          long,
          (
            passes_missing s t.0 (ap is_some (missing p m key s h t.2))
                (λ e. (let x = t.1 in let y = h.counts m in let z : len (s.maps m) ≡ row.shape.max = e in omega arith)),
            (span_at p m i, record { element = (i, free.inside, refl); apart = free_apart p is s so h m i free.inside free.free }, refl),
          ),
        ),
      ),
      (row.shape, i, is_map s h, lowest_up p is s so h m i free, ap (λ (x : Value). x.span) (put-same s.value s.made s.made (value i free s so h) refl)),
      subst (λ (x : Rows). StandsFor (with_table p m x) (after_update s m key (value i free s so h))) (sym t.3) (added i free s so h t.2),
    ))

    pub puts_lacks : (answer : MapAnswer) (n : Rows) → PutsRow p.runs row key bytes flags answer n → MayLack p (with_table p m n) m key answer
    puts_lacks Invalid n t = tt
    puts_lacks Exists n t = tt
    puts_lacks Absent n t = tt
    puts_lacks Full n t = tt
    puts_lacks Done n t = tt
    puts_lacks Busy n t = absurd t
    puts_lacks NoMemory n t = λ s so h. (row.shape, is_map s h, λ i l. taken_up p is s so h m i l (t.1 i l))
