-- What a lookup leaves of a `HashStore`.
use Rattle.std.proofs.Common.{◌≡◌, ◌≢◌, ℕ, ◌+◌, ◌*◌, ◌<◌, ◌≤◌, Bool, true, false, ◌&&◌, ◌||◌, ◌==◌, List, Option, Some, None, ◌⊎◌, inl, inr}
use Rattle.std.proofs.Common.{length, slice_index, refl, ap, sym, ◌∙◌, subst, arith, eq-eqb, ne_eqb}
use Rattle.std.proofs.lemmas.Bool.{cases_lt}
use Rattle.std.proofs.lemmas.List.{get_or-set_same, get_or-set_other, get_or_past, length-set}
use Rattle.std.specs.FinMap.{get}
use Rattle.bpf_shared.specs.declared.events.Span.{Span}
use Rattle.bpf_shared.specs.declared.events.Event.TheVariants.{Lookup}
use Rattle.bpf_shared.specs.declared.shapes.MapShape.{MapShape}
use Rattle.bpf_hash.specs.declared.runs.Runs.{Runs}
use Rattle.bpf_shared.specs.Shape.{IsKeyOf, elements, element_span}
use Rattle.bpf_shared.specs.Store.{Plain, Value, put, Finds}
use Rattle.bpf_shared.specs.Events.{span_of, after_lookup}
use Rattle.bpf_shared.specs.Passage.{same_span, held_with}
use Rattle.bpf_hash.specs.Private.Runs.{no_runs, is_run}
use Rattle.bpf_hash.specs.Private.Rows.{Rows, key_of, bytes_of, run_looked_up, run_left, IsLinked, IsTable, noted_row}
use Rattle.bpf_hash.specs.Private.Contents.{Contents, runs_of, rows, element_count, span_at, shapes_of, has_cpu, is_running, holds, keeps}
use Rattle.bpf_hash.specs.Private.Contents.{any_below, held_spans, IsUsed, StandsFor, IsStore, looked, Makes}
use Rattle.bpf_shared.proofs.Puts.{equal_or_not, put_pair, put_pair-old, put_pair-new}
use Rattle.bpf_hash.proofs.Passages.{calls}
use Rattle.bpf_hash.proofs.AnyBelow.{any_below_one}
use Rattle.bpf_hash.proofs.Blocks.{in_block, one_block, one_place}
use Rattle.bpf_hash.proofs.Changing.{rows-here, rows-else, rows_cases, shapes-with, shape-with, tells-with, store-with}
use Rattle.bpf_hash.proofs.Showing.{SameContent, linked_was, within_was, within_still, span-same, shows_after}

own_or_same : (s h : Bool) → s ≡ (s || (h && s))
own_or_same true h = refl
own_or_same false true = refl
own_or_same false false = refl

module _ (p : Contents) (is : IsStore p) (c m i : ℕ) (mi : m < length p.tables) (ii : i < element_count p m) (ci : c < length p.runs) where
  abbrev row : Rows
  row = noted_row i c (runs_of p c).count (rows p m)

  table : IsTable (rows p m)
  table = (is.tables m mi).0

  width : (rows p m).cpus ≡ length p.runs
  width = (is.tables m mi).1

  pub looked_same : SameContent p (looked p c m i)
  looked_same = record {
    cpus = refl;
    tables = length-set p.tables m row;
    shapes = shapes-with p m row mi refl;
    shape = shape-with p m row mi refl;
    linked = λ n. elim (rows_cases p m row mi n) [ inl e ↦ ap (λ (t : Rows). t.linked) e.1 ∙ ap (λ (x : ℕ). (rows p x).linked) (sym e.0) | inr e ↦ ap (λ (t : Rows). t.linked) e.1 ];
    key = λ n j. elim (rows_cases p m row mi n) [ inl e ↦ ap (λ (t : Rows). key_of t j) e.1 ∙ ap (λ (x : ℕ). key_of (rows p x) j) (sym e.0) | inr e ↦ ap (λ (t : Rows). key_of t j) e.1 ];
    bytes = λ n j. elim (rows_cases p m row mi n) [ inl e ↦ ap (λ (t : Rows). bytes_of t j) e.1 ∙ ap (λ (x : ℕ). bytes_of (rows p x) j) (sym e.0) | inr e ↦ ap (λ (t : Rows). bytes_of t j) e.1 ];
  }

  keeps-looked : (d n j : ℕ) → keeps (looked p c m i) d n j ≡ keeps p d n j
  keeps-looked d n j = ap (is_run (runs_of p d)) (tells-with p m row mi run_left (λ x y. refl) n j d)

  noted_now : run_looked_up row i c ≡ (runs_of p c).count
  noted_now =
      let inside : c < (rows p m).cpus = subst (λ (w : ℕ). c < w) (sym width) ci in
      get_or-set_same (rows p m).looked_up (i * (rows p m).cpus + c) (runs_of p c).count 0
      (omega (arith, in_block i (element_count p m) (rows p m).cpus c ii inside, table.looked_up))

  holds_now : is_running p c ≡ true → holds (looked p c m i) c m i ≡ true
  holds_now going =
      ap (λ (t : Rows). is_run (runs_of p c) (run_looked_up t i c)) (rows-here p m row mi)
      ∙ (ap (is_run (runs_of p c)) noted_now
      ∙ (ap (λ (b : Bool). b && ((runs_of p c).count == (runs_of p c).count)) going ∙ eq-eqb (runs_of p c).count (runs_of p c).count refl))

  idle_past : (d run : ℕ) → length p.runs ≤ d → is_run (runs_of p d) run ≡ false
  idle_past d run l = ap (λ (x : Runs). is_run x run) (get_or_past p.runs d no_runs l)

  -- the CPU holds it, or it holds what it held
  holds_cases : (d n j : ℕ) → ((d ≡ c) × (n ≡ m) × (j ≡ i)) ⊎ (holds (looked p c m i) d n j ≡ holds p d n j)
  holds_cases d n j = elim (rows_cases p m row mi n) [
    | inr e ↦ inr (ap (λ (t : Rows). is_run (runs_of p d) (run_looked_up t j d)) e.1)
    | inl e ↦ elim (cases_lt d (length p.runs)) [
      | inr past ↦ inr (idle_past d (run_looked_up (rows (looked p c m i) n) j d) past ∙ sym (idle_past d (run_looked_up (rows p n) j d) past))
      | inl inside ↦
          let w = (rows p m).cpus in
          let di : d < w = subst (λ (x : ℕ). d < x) (sym width) inside in
          let ci' : c < w = subst (λ (x : ℕ). c < x) (sym width) ci in
          elim (equal_or_not (j * w + d) (i * w + c)) [
            | inl q ↦ inl (one_place j i w d c di ci' q, e.0, one_block j i w d c di ci' q)
            | inr ne ↦ inr (
                ap (λ (t : Rows). is_run (runs_of p d) (run_looked_up t j d)) e.1
                ∙ (ap (is_run (runs_of p d)) (get_or-set_other (rows p m).looked_up (i * w + c) (j * w + d) (runs_of p c).count 0 ne)
                ∙ ap (λ (x : ℕ). is_run (runs_of p d) (run_looked_up (rows p x) j d)) (sym e.0))
                )
          ]
    ]
  ]

  holds_other : (d n j : ℕ) → ((d ≡ c) → (j ≡ i) → ⊥) → holds (looked p c m i) d n j ≡ holds p d n j
  holds_other d n j ne = elim (holds_cases d n j) [ inl k ↦ absurd (ne k.0 k.2) | inr k ↦ k ]

  same_place : (d n j : ℕ) → d ≡ c → n ≡ m → j ≡ i → holds (looked p c m i) d n j ≡ holds (looked p c m i) c m i
  same_place d n j x y z = ap (λ (k : ℕ). holds (looked p c m i) k n j) x ∙
      (ap (λ (k : ℕ). holds (looked p c m i) c k j) y ∙ ap (λ (k : ℕ). holds (looked p c m i) c m k) z)

  module _ (going : is_running p c ≡ true) (linked : IsLinked (rows p m) i) where
    used_was : (n j : ℕ) → IsUsed (looked p c m i) n j → IsUsed p n j
    used_was n j (inl l) = inl (linked_was p (looked p c m i) looked_same n j l)
    used_was n j (inr k) = elim k.1 [
      | inl e ↦ inr (k.0, inl (sym (keeps-looked k.0 n j) ∙ e))
      | inr e ↦ elim (holds_cases k.0 n j) [
        | inl q ↦ inl (subst (λ (x : ℕ). IsLinked (rows p x) j) (sym q.1) (subst (IsLinked (rows p m)) (sym q.2) linked))
        | inr q ↦ inr (k.0, inr (sym q ∙ e))
      ]
    ]

    holds_still : (d n j : ℕ) → holds p d n j ≡ true → holds (looked p c m i) d n j ≡ true
    holds_still d n j e = elim (holds_cases d n j) [ inl q ↦ same_place d n j q.0 q.1 q.2 ∙ holds_now going | inr q ↦ q ∙ e ]

    looked_shows : (s : Plain) (h : StandsFor p s) → StandsFor (looked p c m i) (after_lookup s c (Some (h.number m i)))
    looked_shows s h = shows_after p (looked p c m i) looked_same s h s.running (put s.held c (put (s.held c) (h.number m i) true)) s.kept
        h.running
        used_was
        (λ d v e. elim (put_pair s.held c (h.number m i) d v e) [
          | inl k ↦ (m, i, within_still p (looked p c m i) looked_same m i ii, same_place d m i k.0 refl refl ∙ holds_now going, k.1)
          | inr k ↦ (let x = h.held d v k in (x.0, x.1, within_still p (looked p c m i) looked_same x.0 x.1 x.2, holds_still d x.0 x.1 x.3, x.4))
        ])
        (λ d n j l e. elim (holds_cases d n j) [
          | inl q ↦
              ap (λ (x : ℕ). put s.held c (put (s.held c) (h.number m i) true) x (h.number n j)) q.0
              ∙ (ap (λ (x : ℕ). put s.held c (put (s.held c) (h.number m i) true) c (h.number x j)) q.1
              ∙ (ap (λ (x : ℕ). put s.held c (put (s.held c) (h.number m i) true) c (h.number m x)) q.2 ∙ put_pair-new s.held c (h.number m i)))
          | inr q ↦ put_pair-old s.held c (h.number m i) d (h.number n j) (h.held_back d n j (within_was p (looked p c m i) looked_same n j l) (sym q ∙ e))
        ])
        (λ d v e. let x = h.kept d v e in (x.0, x.1, within_still p (looked p c m i) looked_same x.0 x.1 x.2, keeps-looked d x.0 x.1 ∙ x.3, x.4))
        (λ d n j l e. h.kept_back d n j (within_was p (looked p c m i) looked_same n j l) (sym (keeps-looked d n j) ∙ e))

    pub looked_calls : (key : List ℕ) → IsKeyOf (shapes_of p) m key → key_of (rows p m) i ≡ key → Makes p (looked p c m i) c
        (Lookup m key (Some (span_at p m i)))
    looked_calls key is keyed = calls p (looked p c m i) c (Lookup m key (Some (span_at p m i))) (λ s so h.
        let leads : get (s.maps m) key ≡ Some (h.number m i) = subst (λ (k : List ℕ). Finds s m k (h.number m i)) keyed (h.leads m i linked) in (
          after_lookup s c (Some (h.number m i)),
          (
            h.running c ∙ going,
            (
              subst (λ (maps : List MapShape). IsKeyOf maps m key) (sym h.maps) is,
              sym (ap (span_of s) leads ∙ ap (λ (x : Value). Some x.span) (h.values m i ii (inl linked))),
              ap (after_lookup s c) (sym leads),
            ),
          ),
          tt,
          looked_shows s h,
        ))

    -- ---- the spans that are held
    pub looked_held : held_spans (looked p c m i) ≡ held_with (held_spans p) c (Some (span_at p m i))
    looked_held = λ k d x. go d x k
      where
        at_place : (d : ℕ) (x : Span) → (holds (looked p c m i) d m i && same_span x (span_at (looked p c m i) m i)) ≡
            (((d == c) && same_span x (span_at p m i)) || (holds p d m i && same_span x (span_at p m i)))
        at_place d x =
            ap (λ (y : Span). holds (looked p c m i) d m i && same_span x y) (span-same p (looked p c m i) looked_same m i)
            ∙ elim (equal_or_not d c) [
              | inl e ↦
                  ap (λ (b : Bool). b && same_span x (span_at p m i)) (same_place d m i e refl refl ∙ holds_now going)
                  ∙ (own_or_same (same_span x (span_at p m i)) (holds p d m i)
                  ∙ sym (ap (λ (b : Bool). (b && same_span x (span_at p m i)) || (holds p d m i && same_span x (span_at p m i))) (eq-eqb d c e)))
              | inr ne ↦
                  ap (λ (b : Bool). b && same_span x (span_at p m i)) (holds_other d m i (λ e f. ne e))
                  ∙ sym (ap (λ (b : Bool). (b && same_span x (span_at p m i)) || (holds p d m i && same_span x (span_at p m i))) (ne_eqb d c ne))
            ]

        beside : (d : ℕ) (x : Span) (j : ℕ) → j ≢ i → (holds (looked p c m i) d m j && same_span x (span_at (looked p c m i) m j)) ≡
            (holds p d m j && same_span x (span_at p m j))
        beside d x j ne =
            ap (λ (b : Bool). b && same_span x (span_at (looked p c m i) m j)) (holds_other d m j (λ e f. ne f))
            ∙ ap (λ (y : Span). holds p d m j && same_span x y) (span-same p (looked p c m i) looked_same m j)

        in_map : (d : ℕ) (x : Span) → any_below (element_count (looked p c m i) m)
            (λ j. holds (looked p c m i) d m j && same_span x (span_at (looked p c m i) m j))
            ≡ (((d == c) && same_span x (span_at p m i)) || any_below (element_count p m) (λ j. holds p d m j && same_span x (span_at p m j)))
        in_map d x =
            ap (λ (n : ℕ). any_below n (λ j. holds (looked p c m i) d m j && same_span x (span_at (looked p c m i) m j))) (ap elements (looked_same.shape m))
            ∙ any_below_one (element_count p m) i (λ j. holds p d m j && same_span x (span_at p m j))
            (λ j. holds (looked p c m i) d m j && same_span x (span_at (looked p c m i) m j)) ((d == c) && same_span x (span_at p m i))
            ii (at_place d x) (beside d x)

        in_other : (d : ℕ) (x : Span) (n : ℕ) → n ≢ m → any_below (element_count (looked p c m i) n)
            (λ j. holds (looked p c m i) d n j && same_span x (span_at (looked p c m i) n j))
            ≡ any_below (element_count p n) (λ j. holds p d n j && same_span x (span_at p n j))
        in_other d x n ne = ap (λ (t : Rows). any_below (elements t.shape)
            (λ j. is_run (runs_of p d) (run_looked_up t j d) && same_span x (element_span n t.shape j))) (rows-else p m row mi n ne)

        go : (d : ℕ) (x : Span) → held_spans (looked p c m i) d x ≡ (((d == c) && same_span x (span_at p m i)) || held_spans p d x)
        go d x =
            ap (λ (k : ℕ). any_below k (λ n. any_below (element_count (looked p c m i) n)
            (λ j. holds (looked p c m i) d n j && same_span x (span_at (looked p c m i) n j)))) looked_same.tables
            ∙ any_below_one (length p.tables) m (λ n. any_below (element_count p n) (λ j. holds p d n j && same_span x (span_at p n j)))
            (λ n. any_below (element_count (looked p c m i) n) (λ j. holds (looked p c m i) d n j && same_span x
            (span_at (looked p c m i) n j))) ((d == c) && same_span x (span_at p m i)) mi (in_map d x) (in_other d x)

  pub looked_store : IsTable row → IsStore (looked p c m i)
  looked_store after = store-with p m row mi is after refl (λ j d l. bound j d l
      (equal_or_not (j * (rows p m).cpus + d) (i * (rows p m).cpus + c))) (λ j d l. is.left m j d l)
    where
      bound : (j d : ℕ) → d < length p.runs → ((j * (rows p m).cpus + d) ≡ (i * (rows p m).cpus + c)) ⊎
          ((j * (rows p m).cpus + d) ≢ (i * (rows p m).cpus + c)) → run_looked_up row j d ≤ (runs_of p d).count
      bound j d l (inl q) =
          let w = (rows p m).cpus in
          let di : d < w = subst (λ (x : ℕ). d < x) (sym width) l in
          let ci' : c < w = subst (λ (x : ℕ). c < x) (sym width) ci in
          let same : d ≡ c = one_place j i w d c di ci' q in
          let at : run_looked_up row j d ≡ (runs_of p c).count = ap (slice_index row.looked_up) q ∙ noted_now in
          let run : (runs_of p d).count ≡ (runs_of p c).count = ap (λ (x : ℕ). (runs_of p x).count) same in
          omega arith
      bound j d l (inr ne) =
          let at : run_looked_up row j d ≡ run_looked_up (rows p m) j d = get_or-set_other (rows p m).looked_up (i * (rows p m).cpus + c)
          (j * (rows p m).cpus + d) (runs_of p c).count 0 ne in
          let old = is.looked_up m j d l in
          omega arith

-- ---- a key that is not there
pub unlooked_calls : (p : Contents) (c m : ℕ) (key : List ℕ) → is_running p c ≡ true → IsKeyOf (shapes_of p) m key →
    ((i : ℕ) → IsLinked (rows p m) i → key_of (rows p m) i ≡ key → ⊥)
    → Makes p p c (Lookup m key None)
unlooked_calls p c m key going is absent = calls p p c (Lookup m key None) (λ s so h.
    let leads : get (s.maps m) key ≡ None = nowhere s h (get (s.maps m) key) refl in (
      s,
      (
        h.running c ∙ going,
        (
          subst (λ (maps : List MapShape). IsKeyOf maps m key) (sym h.maps) is,
          sym (ap (span_of s) leads),
          ap
              (after_lookup s c) (sym leads),
        ),
      ),
      tt,
      h,
    ))
  where
    nowhere : (s : Plain) → StandsFor p s → (o : Option ℕ) → get (s.maps m) key ≡ o → get (s.maps m) key ≡ None
    nowhere s h None e = e
    nowhere s h (Some v) e = let f = h.found m key v e in absurd (absent f.0 f.1 f.2)
