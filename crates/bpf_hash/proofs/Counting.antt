-- The runs of a `HashStore`: what begins and ends leave.
use Rattle.std.proofs.Common.{◌≡◌, ◌≢◌, ℕ, ◌+◌, ◌*◌, ◌<◌, ◌≤◌, nat_lt, Bool, true, false, ◌&&◌, ◌==◌, if◌then◌else◌, List, [], ◌⊎◌, inl}
use Rattle.std.proofs.Common.{inr, length, get_or, set, slice_index, refl, ap, sym, ◌∙◌, subst, arith, ne_eqb}
use Rattle.std.proofs.lemmas.Bool.Decides.{nat_tests}
use Rattle.std.proofs.lemmas.List.{get_or-set_same, get_or-set_other, get_or_read, get_or_past, ext_get_or, length-set, length-map}
use Rattle.std.proofs.Math.ListN.{get_or-map}
use Rattle.std.proofs.lemmas.Bool.{cases_lt}
use Rattle.bpf_shared.specs.declared.events.Span.{Span}
use Rattle.bpf_shared.specs.declared.events.Event.TheVariants.{Begin, End}
use Rattle.bpf_hash.specs.declared.runs.Runs.{Runs}
use Rattle.bpf_shared.specs.Store.{Plain, put, never}
use Rattle.bpf_shared.specs.Events.{after_begin, after_end}
use Rattle.bpf_shared.specs.Sound.{IsSoundStore}
use Rattle.bpf_shared.proofs.Puts.{equal_or_not, put-same, put-other, put_cases}
use Rattle.bpf_shared.specs.Passage.{held_without}
use Rattle.bpf_hash.specs.Private.Runs.{no_runs, is_run}
use Rattle.bpf_hash.specs.Private.Rows.{Rows, no_rows, shape_of, key_of, bytes_of, run_looked_up, run_left}
use Rattle.bpf_hash.specs.Private.Contents.{Contents, runs_of, rows, shapes_of, has_cpu, is_running, holds, keeps, held_spans, IsUsed}
use Rattle.bpf_hash.specs.Private.Contents.{StandsFor, IsStore, started, stopped, Makes}
use Rattle.bpf_hash.specs.Private.Changes.{IsAlike, Recounts}
use Rattle.bpf_hash.proofs.Passages.{calls}
use Rattle.bpf_hash.proofs.Showing.{SameContent, same_tables, linked_was, within_was, within_still, shows_after, held_spans-same, held_spans-without}

abbrev pub with_runs : Contents → ℕ → Runs → Contents
with_runs p c r = record p { runs = set p.runs c r }

module _ (p : Contents) (c : ℕ) (r : Runs) where
  pub runs-same : c < length p.runs → runs_of (with_runs p c r) c ≡ r
  runs-same l = get_or-set_same p.runs c r no_runs l

  pub runs-other : (d : ℕ) → d ≢ c → runs_of (with_runs p c r) d ≡ runs_of p d
  runs-other d ne = get_or-set_other p.runs c d r no_runs ne

  pub has_cpu-same : has_cpu (with_runs p c r) ≡ has_cpu p
  has_cpu-same = λ k d. nat_lt d (length-set p.runs c r k)

  pub is_running-with : c < length p.runs → is_running (with_runs p c r) ≡ put (is_running p) c r.running
  is_running-with l = λ k d. go d k
    where
      go : (d : ℕ) → is_running (with_runs p c r) d ≡ put (is_running p) c r.running d
      go d = elim (equal_or_not d c) [
        | inl e ↦ ap (λ (x : ℕ). (runs_of (with_runs p c r) x).running) e ∙
            (ap (λ (x : Runs). x.running) (runs-same l) ∙ sym (put-same (is_running p) c d r.running e))
        | inr ne ↦ ap (λ (x : Runs). x.running) (runs-other d ne) ∙ sym (put-other (is_running p) c d r.running ne)
      ]

  pub is_run-other : (d run : ℕ) → d ≢ c → is_run (runs_of (with_runs p c r) d) run ≡ is_run (runs_of p d) run
  is_run-other d run ne = ap (λ (x : Runs). is_run x run) (runs-other d ne)

  pub is_run-own : c < length p.runs → (run : ℕ) → is_run (runs_of (with_runs p c r) c) run ≡ is_run r run
  is_run-own l run = ap (λ (x : Runs). is_run x run) (runs-same l)

pub served : (p : Contents) (c : ℕ) → has_cpu p c ≡ true → c < length p.runs
served p c h = grind (arith, nat_tests)

idle_run : (p : Contents) (c run : ℕ) → is_running p c ≡ false → is_run (runs_of p c) run ≡ false
idle_run p c run e = ap (λ (b : Bool). b && (run == (runs_of p c).count)) e

-- ---- one CPU's run is over, or another begins
module _ (p q : Contents) (c : ℕ) (same : SameContent p q) (other : (d m i : ℕ) → d ≢ c → (holds q d m i ≡ holds p d m i) ×
    (keeps q d m i ≡ keeps p d m i)) (own : (m i : ℕ) → (holds q c m i ≡ false) × (keeps q c m i ≡ false)) where
  held_was : (d m i : ℕ) → holds q d m i ≡ true → (d ≢ c) × (holds p d m i ≡ true)
  held_was d m i e = elim (equal_or_not d c) [
    | inl k ↦ absurd (let n = ap (λ (x : ℕ). holds q x m i) k ∙ (own m i).0 in cc)
    | inr ne ↦ (ne, sym (other d m i ne).0 ∙ e)
  ]

  kept_was : (d m i : ℕ) → keeps q d m i ≡ true → (d ≢ c) × (keeps p d m i ≡ true)
  kept_was d m i e = elim (equal_or_not d c) [
    | inl k ↦ absurd (let n = ap (λ (x : ℕ). keeps q x m i) k ∙ (own m i).1 in cc)
    | inr ne ↦ (ne, sym (other d m i ne).1 ∙ e)
  ]

  gone : (f : ℕ → ℕ → Bool) (d v : ℕ) → put f c never d v ≡ true → (d ≢ c) × (f d v ≡ true)
  gone f d v h = elim (put_cases f c d never) [
    | inl k ↦ absurd (let e : false ≡ true = sym (ap (λ (g : ℕ → Bool). g v) k.1) ∙ h in cc)
    | inr k ↦ (k.0, sym (ap (λ (g : ℕ → Bool). g v) k.1) ∙ h)
  ]

  stays : (f : ℕ → ℕ → Bool) (d v : ℕ) → d ≢ c → f d v ≡ true → put f c never d v ≡ true
  stays f d v ne h = ap (λ (g : ℕ → Bool). g v) (put-other f c d never ne) ∙ h

  pub released : (s : Plain) (h : StandsFor p s) (b : Bool) → is_running q ≡ put (is_running p) c b → StandsFor q
      (record s { running = put s.running c b; held = put s.held c never; kept = put s.kept c never })
  released s h b runs = shows_after p q same s h (put s.running c b) (put s.held c never) (put s.kept c never)
      (λ d. ap (λ (x : Bool). if d == c then b else x) (h.running d) ∙ sym (ap (λ (f : ℕ → Bool). f d) runs))
      (λ m i. elim [ inl l ↦ inl (linked_was p q same m i l) | inr k ↦ inr (k.0, elim k.1 [ inl e ↦ inl (kept_was k.0 m i e).1 | inr e ↦ inr (held_was k.0 m i e).1 ]) ])
      (λ d v e. let g = gone s.held d v e in let x = h.held d v g.1 in (x.0, x.1, within_still p q same x.0 x.1 x.2, (other d x.0 x.1 g.0).0 ∙ x.3, x.4))
      (λ d m i l e. let w = held_was d m i e in stays s.held d (h.number m i) w.0 (h.held_back d m i (within_was p q same m i l) w.1))
      (λ d v e. let g = gone s.kept d v e in let x = h.kept d v g.1 in (x.0, x.1, within_still p q same x.0 x.1 x.2, (other d x.0 x.1 g.0).1 ∙ x.3, x.4))
      (λ d m i l e. let w = kept_was d m i e in stays s.kept d (h.number m i) w.0 (h.kept_back d m i (within_was p q same m i l) w.1))

  pub released_spans : held_spans q ≡ held_without (held_spans p) c
  released_spans = held_spans-without p q same c (λ d m i ne. (other d m i ne).0) (λ m i. (own m i).0)

-- ---- an end
module _ (p : Contents) (c : ℕ) (serves : has_cpu p c ≡ true) where
  stopped_same : SameContent p (stopped p c)
  stopped_same = same_tables p (stopped p c) (length-set p.runs c (record (runs_of p c) { running = false })) refl

  stopped_other : (d m i : ℕ) → d ≢ c → (holds (stopped p c) d m i ≡ holds p d m i) × (keeps (stopped p c) d m i ≡ keeps p d m i)
  stopped_other d m i ne = (
    is_run-other p c (record (runs_of p c) { running = false }) d (run_looked_up (rows p m) i d) ne,
    is_run-other p c (record (runs_of p c) { running = false }) d (run_left (rows p m) i d) ne,
  )

  stopped_own : (m i : ℕ) → (holds (stopped p c) c m i ≡ false) × (keeps (stopped p c) c m i ≡ false)
  stopped_own m i = (
    is_run-own p c (record (runs_of p c) { running = false }) (served p c serves) (run_looked_up (rows p m) i c),
    is_run-own p c (record (runs_of p c) { running = false }) (served p c serves) (run_left (rows p m) i c),
  )

  end_calls : is_running p c ≡ true → Makes p (stopped p c) c End
  end_calls going = calls p (stopped p c) c End (λ s so h. (
    after_end s c,
    (h.running c ∙ going, refl),
    tt,
    released p (stopped p c) c stopped_same stopped_other stopped_own s h false
        (is_running-with p c (record (runs_of p c) { running = false }) (served p c serves)),
  ))

  -- what the code leaves is the store with the run ended
  pub ended : (runs : List Runs) (tables : List Rows) (x : Runs) → ◌≡◌ {A = Contents} (record { runs = runs; tables = tables }) p → x ≡ get_or runs c x
      → ◌≡◌ {A = Contents} (record { runs = set runs c (record { count = x.count; running = false }); tables = tables }) (stopped p c)
  ended runs tables x view read =
      let inside : c < length runs = subst (λ (q : Contents). c < length q.runs) (sym view) (served p c serves) in
      ap (λ (y : Runs). let q : Contents = record { runs = set runs c (record { count = y.count; running = false }); tables = tables } in q)
      (get_or_read runs c x inside read no_runs) ∙ ap (λ (q : Contents). stopped q c) view

  pub ended_calls : (n : Contents) → n ≡ stopped p c → is_running p c ≡ true → Makes p n c End
  ended_calls n e going = subst (λ (x : Contents). Makes p x c End) (sym e) (end_calls going)

  pub ended_held : (n : Contents) → n ≡ stopped p c → held_spans n ≡ held_without (held_spans p) c
  ended_held n e = ap held_spans e ∙ released_spans p (stopped p c) c stopped_same stopped_other stopped_own

-- ---- runs counted anew
module _ (p q : Contents) (c : ℕ) (is : IsStore p) (serves : has_cpu p c ≡ true) (idle : is_running p c ≡ false) (anew : Recounts p c q) where
  table-anew : (m : ℕ) → (m < length p.tables) ⊎ (length p.tables ≤ m) → rows q m ≡ record (rows p m)
      { looked_up = (rows q m).looked_up; left = (rows q m).left }
  table-anew m (inl l) = (anew.tables m l).0.rest
  table-anew m (inr l) =
      let none : rows p m ≡ no_rows = get_or_past p.tables m no_rows l in
      let gone : rows q m ≡ no_rows = get_or_past q.tables m no_rows (omega (arith, anew.count)) in
      gone ∙ (sym (ap (λ (t : Rows). let r : Rows = record t { looked_up = []; left = [] } in r) none)
      ∙ ap (λ (t : Rows). let r : Rows = record (rows p m) { looked_up = t.looked_up; left = t.left } in r) (sym gone))

  table-is : (m : ℕ) → rows q m ≡ record (rows p m) { looked_up = (rows q m).looked_up; left = (rows q m).left }
  table-is m = table-anew m (cases_lt m (length p.tables))

  shapes-anew : shapes_of q ≡ shapes_of p
  shapes-anew =
      let long : length (shapes_of q) ≡ length (shapes_of p) = length-map q.tables shape_of ∙ (anew.count ∙ sym (length-map p.tables shape_of)) in
      ext_get_or (shape_of no_rows) (shapes_of q) (shapes_of p) long (λ m l.
      get_or-map shape_of q.tables m no_rows ∙ (ap (λ (t : Rows). t.shape) (table-is m) ∙ sym (get_or-map shape_of p.tables m no_rows)))

  anew_same : SameContent p q
  anew_same = record {
    cpus = ap (length {A = Runs}) anew.runs ∙ length-set p.runs c (record (runs_of p c) { count = 0 });
    tables = anew.count;
    shapes = shapes-anew;
    shape = λ m. ap (λ (t : Rows). t.shape) (table-is m);
    linked = λ m. ap (λ (t : Rows). t.linked) (table-is m);
    key = λ m i. ap (λ (t : Rows). key_of t i) (table-is m);
    bytes = λ m i. ap (λ (t : Rows). bytes_of t i) (table-is m);
  }

  runs-anew : (d : ℕ) → runs_of q d ≡ runs_of (with_runs p c (record (runs_of p c) { count = 0 })) d
  runs-anew d = ap (λ (r : List Runs). get_or r d no_runs) anew.runs

  running-anew : (d : ℕ) → is_running q d ≡ is_running p d
  running-anew d = elim (equal_or_not d c) [
    | inl e ↦
        ap (λ (x : ℕ). is_running q x) e
        ∙ (ap (λ (x : Runs). x.running) (runs-anew c ∙ runs-same p c (record (runs_of p c) { count = 0 }) (served p c serves)) ∙ ap
        (λ (x : ℕ). is_running p x) (sym e))
    | inr ne ↦ ap (λ (x : Runs). x.running) (runs-anew d ∙ runs-other p c (record (runs_of p c) { count = 0 }) d ne)
  ]

  -- notes of a CPU that runs are as they were
  still-noted : (d m i : ℕ) → d < length p.runs → d ≢ c → (m < length p.tables) ⊎ (length p.tables ≤ m)
      → (run_looked_up (rows q m) i d ≡ run_looked_up (rows p m) i d) × (run_left (rows q m) i d ≡ run_left (rows p m) i d)
  still-noted d m i l ne (inl k) =
      let cpus : (rows q m).cpus ≡ (rows p m).cpus = ap (λ (t : Rows). t.cpus) (table-is m) in
      let f = (anew.tables m k).0 in
      let inside : d < (rows p m).cpus = subst (λ (n : ℕ). d < n) (sym (is.tables m k).1) l in (
        ap (λ (n : ℕ). slice_index (rows q m).looked_up (i * n + d)) cpus ∙ f.looked_up.others i d inside ne,
        ap (λ (n : ℕ). slice_index (rows q m).left (i * n + d)) cpus ∙ f.left.others i d inside ne,
      )
  still-noted d m i l ne (inr k) =
      let none : rows p m ≡ no_rows = get_or_past p.tables m no_rows k in
      let gone : rows q m ≡ no_rows = get_or_past q.tables m no_rows (omega (arith, anew.count)) in
      let same : rows q m ≡ rows p m = gone ∙ sym none in (
        ap (λ (t : Rows). run_looked_up t i d) same,
        ap (λ (t : Rows). run_left t i d) same,
      )

  idle_past : (d run : ℕ) → length p.runs ≤ d → is_run (runs_of p d) run ≡ false
  idle_past d run l = ap (λ (x : Runs). is_run x run) (get_or_past p.runs d no_runs l)

  both_anew : (d m i : ℕ) → (holds q d m i ≡ holds p d m i) × (keeps q d m i ≡ keeps p d m i)
  both_anew d m i = elim (equal_or_not d c) [
    | inl e ↦
        let quiet : is_running p d ≡ false = ap (is_running p) e ∙ idle in
        let quiet' : is_running q d ≡ false = running-anew d ∙ quiet in (
          idle_run q d (run_looked_up (rows q m) i d) quiet' ∙ sym (idle_run p d (run_looked_up (rows p m) i d) quiet),
          idle_run q d (run_left (rows q m) i d) quiet' ∙ sym (idle_run p d (run_left (rows p m) i d) quiet),
        )
    | inr ne ↦
        let run : runs_of q d ≡ runs_of p d = runs-anew d ∙ runs-other p c (record (runs_of p c) { count = 0 }) d ne in
        elim (cases_lt d (length p.runs)) [
          | inl l ↦ (
              let n = still-noted d m i l ne (cases_lt m (length p.tables)) in (
                ap (λ (x : Runs). is_run x (run_looked_up (rows q m) i d)) run ∙ ap (is_run (runs_of p d)) n.0,
                ap (λ (x : Runs). is_run x (run_left (rows q m) i d)) run ∙ ap (is_run (runs_of p d)) n.1,
              ))
          | inr l ↦ (
            ap (λ (x : Runs). is_run x (run_looked_up (rows q m) i d)) run ∙
                (idle_past d (run_looked_up (rows q m) i d) l ∙ sym (idle_past d (run_looked_up (rows p m) i d) l)),
            ap (λ (x : Runs). is_run x (run_left (rows q m) i d)) run ∙
                (idle_past d (run_left (rows q m) i d) l ∙ sym (idle_past d (run_left (rows p m) i d) l)),
          )
        ]
  ]

  used-anew : (m i : ℕ) → IsUsed q m i → IsUsed p m i
  used-anew m i (inl l) = inl (linked_was p q anew_same m i l)
  used-anew m i (inr k) = inr (k.0, elim k.1 [ inl e ↦ inl (sym (both_anew k.0 m i).1 ∙ e) | inr e ↦ inr (sym (both_anew k.0 m i).0 ∙ e) ])

  anew_shows : (s : Plain) → StandsFor p s → StandsFor q s
  anew_shows s h = shows_after p q anew_same s h s.running s.held s.kept
      (λ d. h.running d ∙ sym (running-anew d))
      used-anew
      (λ d v e. let x = h.held d v e in (x.0, x.1, within_still p q anew_same x.0 x.1 x.2, (both_anew d x.0 x.1).0 ∙ x.3, x.4))
      (λ d m i l e. h.held_back d m i (within_was p q anew_same m i l) (sym (both_anew d m i).0 ∙ e))
      (λ d v e. let x = h.kept d v e in (x.0, x.1, within_still p q anew_same x.0 x.1 x.2, (both_anew d x.0 x.1).1 ∙ x.3, x.4))
      (λ d m i l e. h.kept_back d m i (within_was p q anew_same m i l) (sym (both_anew d m i).1 ∙ e))

  pub anew_alike : IsAlike p q
  anew_alike = record {
    shows = anew_shows;
    running = λ k d. running-anew d k;
    held = held_spans-same p q anew_same (λ d m i. (both_anew d m i).0);
    serves = λ k d. nat_lt d (anew_same.cpus k);
    shapes = shapes-anew;
  }

  pub anew_store : IsStore q
  anew_store = record {
    cpus = subst (λ (n : ℕ). n ≤ 16) (sym anew_same.cpus) is.cpus;
    maps = subst (λ (n : ℕ). n ≤ 16) (sym anew.count) is.maps;
    tables = λ m l. (let k : m < length p.tables = subst (λ (n : ℕ). m < n) anew.count l in
        ((anew.tables m k).1, ap (λ (t : Rows). t.cpus) (table-is m) ∙ ((is.tables m k).1 ∙ sym anew_same.cpus)));
    looked_up = λ m i d l. bound d (run_looked_up (rows q m) i d) (run_looked_up (rows p m) i d) (within d l)
        (is.looked_up m i d (within d l)) (λ ne. (still-noted d m i (within d l) ne (cases_lt m (length p.tables))).0)
        (λ e. zero_looked m i d e (cases_lt m (length p.tables)));
    left = λ m i d l. bound d (run_left (rows q m) i d) (run_left (rows p m) i d) (within d l) (is.left m i d (within d l))
        (λ ne. (still-noted d m i (within d l) ne (cases_lt m (length p.tables))).1) (λ e. zero_left m i d e (cases_lt m (length p.tables)));
  }
    where
      within : (d : ℕ) → d < length q.runs → d < length p.runs
      within d l = subst (λ (n : ℕ). d < n) anew_same.cpus l

      zero_looked : (m i d : ℕ) → d ≡ c → (m < length p.tables) ⊎ (length p.tables ≤ m) → run_looked_up (rows q m) i d ≡ 0
      zero_looked m i d e (inl k) =
          ap (λ (n : ℕ). slice_index (rows q m).looked_up (i * n + d)) (ap (λ (t : Rows). t.cpus) (table-is m))
          ∙ (ap (λ (n : ℕ). slice_index (rows q m).looked_up (i * (rows p m).cpus + n)) e ∙ (anew.tables m k).0.looked_up.here i)
      zero_looked m i d e (inr k) = ap (λ (t : Rows). run_looked_up t i d) (get_or_past q.tables m no_rows (omega (arith, anew.count)))

      zero_left : (m i d : ℕ) → d ≡ c → (m < length p.tables) ⊎ (length p.tables ≤ m) → run_left (rows q m) i d ≡ 0
      zero_left m i d e (inl k) =
          ap (λ (n : ℕ). slice_index (rows q m).left (i * n + d)) (ap (λ (t : Rows). t.cpus) (table-is m))
          ∙ (ap (λ (n : ℕ). slice_index (rows q m).left (i * (rows p m).cpus + n)) e ∙ (anew.tables m k).0.left.here i)
      zero_left m i d e (inr k) = ap (λ (t : Rows). run_left t i d) (get_or_past q.tables m no_rows (omega (arith, anew.count)))

      bound : (d now was : ℕ) → d < length p.runs → was ≤ (runs_of p d).count → (d ≢ c → now ≡ was) → (d ≡ c → now ≡ 0) → now ≤ (runs_of q d).count
      bound d now was l h same zero_there = elim (equal_or_not d c) [
        | inl e ↦ (let z = zero_there e in omega arith)
        | inr ne ↦
            let n = same ne in
            let count : (runs_of q d).count ≡ (runs_of p d).count = ap (λ (x : Runs). x.count)
            (runs-anew d ∙ runs-other p c (record (runs_of p c) { count = 0 }) d ne) in
            omega arith
      ]

-- ---- a begin
kept-idle : (s : Plain) (c : ℕ) → IsSoundStore s → s.running c ≡ false → put s.kept c never ≡ s.kept
kept-idle s c so idle = λ k d v. go d v k
  where
    go : (d v : ℕ) → put s.kept c never d v ≡ s.kept d v
    go d v = elim (put_cases s.kept c d never) [
      | inl k ↦ ap (λ (f : ℕ → Bool). f v) k.1 ∙ sym (ap (λ (x : ℕ). s.kept x v) k.0 ∙ (so.idle c idle v).1)
      | inr k ↦ ap (λ (f : ℕ → Bool). f v) k.1
    ]

module _ (p : Contents) (c : ℕ) (is : IsStore p) (serves : has_cpu p c ≡ true) (idle : is_running p c ≡ false) where
  started_same : SameContent p (started p c)
  started_same = same_tables p (started p c) (length-set p.runs c (record { count = (runs_of p c).count + 1; running = true })) refl

  started_other : (d m i : ℕ) → d ≢ c → (holds (started p c) d m i ≡ holds p d m i) × (keeps (started p c) d m i ≡ keeps p d m i)
  started_other d m i ne = (
    is_run-other p c (record { count = (runs_of p c).count + 1; running = true }) d (run_looked_up (rows p m) i d) ne,
    is_run-other p c (record { count = (runs_of p c).count + 1; running = true }) d (run_left (rows p m) i d) ne,
  )

  not_yet : (run : ℕ) → run ≤ (runs_of p c).count → is_run (runs_of (started p c) c) run ≡ false
  not_yet run l = is_run-own p c (record { count = (runs_of p c).count + 1; running = true }) (served p c serves) run ∙ ne_eqb run
      ((runs_of p c).count + 1) (λ e. omega arith)

  started_own : (m i : ℕ) → (holds (started p c) c m i ≡ false) × (keeps (started p c) c m i ≡ false)
  started_own m i = (
    not_yet (run_looked_up (rows p m) i c) (is.looked_up m i c (served p c serves)),
    not_yet (run_left (rows p m) i c)
        (is.left m i c (served p c serves)),
  )

  pub started_shows : (s : Plain) → IsSoundStore s → StandsFor p s → StandsFor (started p c) (after_begin s c)
  started_shows s so h =
      subst (λ (k : ℕ → ℕ → Bool). StandsFor (started p c) (record s
      { running = put s.running c true; held = put s.held c never; kept = k })) (kept-idle s c so (h.running c ∙ idle))
      (released p (started p c) c started_same started_other started_own s h true
      (is_running-with p c (record { count = (runs_of p c).count + 1; running = true }) (served p c serves)))

  pub started_running : is_running (started p c) ≡ put (is_running p) c true
  started_running = is_running-with p c (record { count = (runs_of p c).count + 1; running = true }) (served p c serves)

  pub started_held : held_spans (started p c) ≡ held_without (held_spans p) c
  started_held = released_spans p (started p c) c started_same started_other started_own

-- the store p was made countable, as x, and the code counted the CPU's runs up
module _ (p x : Contents) (c : ℕ) (serves : has_cpu p c ≡ true) (idle : is_running p c ≡ false) (is_alike : IsAlike p x) (runs : List Runs)
    (tables : List Rows) (y : Runs) (view : ◌≡◌ {A = Contents} (record { runs = runs; tables = tables }) x) (read : y ≡ get_or runs c y)
    (store : IsStore (record { runs = runs; tables = tables })) where
  abbrev counted_up : Contents
  counted_up = record { runs = set runs c (record { count = y.count + 1; running = true }); tables = tables }

  is_store : IsStore x
  is_store = subst IsStore view store

  still_served : has_cpu x c ≡ true
  still_served = ap (λ (f : ℕ → Bool). f c) is_alike.serves ∙ serves

  still_idle : is_running x c ≡ false
  still_idle = ap (λ (f : ℕ → Bool). f c) is_alike.running ∙ idle

  is_started : counted_up ≡ started x c
  is_started =
      let inside : c < length runs = subst (λ (q : Contents). c < length q.runs) (sym view) (served x c still_served) in
      ap (λ (z : Runs). let q : Contents = record { runs = set runs c (record { count = z.count + 1; running = true }); tables = tables } in q)
      (get_or_read runs c y inside read no_runs) ∙ ap (λ (q : Contents). started q c) view

  pub begun_calls : Makes p counted_up c Begin
  begun_calls = calls p counted_up c Begin (λ s so h. (
    after_begin s c,
    (subst (λ (k : ℕ). c < k) (sym h.cpus) (served p c serves), h.running c ∙ idle, refl),
    tt,
    subst (λ (q : Contents). StandsFor q (after_begin s c)) (sym is_started) (started_shows x c is_store still_served still_idle s so (is_alike.shows s h)),
  ))

  pub begun_running : is_running counted_up ≡ put (is_running p) c true
  begun_running = ap is_running is_started ∙ (started_running x c is_store still_served still_idle ∙ ap (λ (f : ℕ → Bool). put f c true) is_alike.running)

  pub begun_held : held_spans counted_up ≡ held_without (held_spans p) c
  begun_held = ap held_spans is_started ∙ (started_held x c is_store still_served still_idle ∙ ap (λ (f : ℕ → Span → Bool). held_without f c) is_alike.held)

  pub begun_same : (shapes_of counted_up ≡ shapes_of p) × (has_cpu counted_up ≡ has_cpu p)
  begun_same = (
    ap shapes_of is_started ∙ is_alike.shapes,
    ap has_cpu is_started ∙
        (has_cpu-same x c (record { count = (runs_of x c).count + 1; running = true }) ∙ is_alike.serves),
  )
