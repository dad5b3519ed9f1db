-- What a lookup that finds an element leaves of a store, given by its parts and by what became of the one table.
use Rattle.std.proofs.Common.{◌≡◌, ℕ, ◌<◌, true, List, length, get_or, Some, subst, ap, sym, ◌∙◌}
use Rattle.std.proofs.lemmas.List.{get_or_read}
use Rattle.bpf_shared.specs.declared.events.Span.{Span}
use Rattle.bpf_shared.specs.declared.events.Event.TheVariants.{Lookup}
use Rattle.bpf_hash.specs.declared.runs.Runs.{Runs}
use Rattle.bpf_shared.specs.declared.shapes.MapShape.{MapShape}
use Rattle.bpf_shared.specs.Shape.{IsMap, IsElementSpan, elements, element_span}
use Rattle.bpf_shared.specs.Passage.{held_with}
use Rattle.bpf_hash.specs.Private.Runs.{no_runs}
use Rattle.bpf_hash.specs.Private.Rows.{Rows, key_of, IsLinked, IsTable, noted_row}
use Rattle.bpf_hash.specs.Private.Contents.{Contents, runs_of, rows, element_count, span_at, shapes_of, has_cpu, is_running, held_spans}
use Rattle.bpf_hash.specs.Private.Contents.{IsStore, looked, with_table, Makes}
use Rattle.bpf_hash.proofs.Counting.{served}
use Rattle.bpf_hash.proofs.Changing.{map_there, shape_at, read_row}
use Rattle.bpf_hash.proofs.Looking.{looked_calls, looked_held, looked_same, looked_store}

-- the CPU is served, and the map's table, read twice, has the element
module _ (parts p : Contents) (view : ◌≡◌ {A = Contents} parts p) (ok : IsStore parts) (c m : ℕ) (serves : has_cpu p c ≡ true)
    (h : MapShape) (map : IsMap (shapes_of p) m h)
    (seen : Rows) (seen_is : seen ≡ get_or parts.tables m seen) (old : Rows) (old_is : old ≡ get_or parts.tables m old) (i : ℕ)
    (inside : i < elements seen.shape) where
  is : IsStore p
  is = subst IsStore view ok

  there : m < length p.tables
  there = map_there p m h map

  on : c < length p.runs
  on = served p c serves

  row : seen ≡ rows p m
  row = read_row p m parts.runs parts.tables seen view there seen_is

  same : old ≡ rows p m
  same = read_row p m parts.runs parts.tables old view there old_is

  within : i < element_count p m
  within = subst (λ (t : Rows). i < elements t.shape) row inside

  pub element_there : i < elements old.shape
  element_there = subst (λ (t : Rows). i < elements t.shape) (sym same) within

  pub cpu_there : c < old.cpus
  cpu_there = subst (λ (t : Rows). c < t.cpus) (sym same) (subst (λ (n : ℕ). c < n) (sym (is.tables m there).1) on)

  pub is_element : (span : Span) → span ≡ element_span m seen.shape i → IsElementSpan (shapes_of p) m span
  is_element span e = ((rows p m).shape, i, shape_at p.tables m there, within, e ∙ ap (λ (t : Rows). element_span m t.shape i) row)

  -- the element's note is the CPU's run
  module _ (run : Runs) (run_is : run ≡ get_or parts.runs c run) (n : Rows) (noted : n ≡ noted_row i c run.count old) where
    own : run ≡ runs_of p c
    own = get_or_read parts.runs c run (subst (λ (q : Contents). c < length q.runs) (sym view) on) run_is no_runs ∙ ap (λ (q : Contents). runs_of q c) view

    note : n ≡ noted_row i c (runs_of p c).count (rows p m)
    note = noted ∙ (ap (λ (x : Runs). noted_row i c x.count old) own ∙ ap (noted_row i c (runs_of p c).count) same)

    new : ◌≡◌ {A = Contents} (with_table parts m n) (looked p c m i)
    new = ap (λ (q : Contents). with_table q m n) view ∙ ap (with_table p m) note

    pub lookup_store : IsTable n → IsStore (with_table parts m n)
    lookup_store table = subst IsStore (sym new) (looked_store p is c m i there within on (subst IsTable note table))

    pub lookup_same : (shapes_of (with_table parts m n) ≡ shapes_of p) × (has_cpu (with_table parts m n) ≡ has_cpu p) ×
        (is_running (with_table parts m n) ≡ is_running p)
    lookup_same = (ap shapes_of new ∙ (looked_same p is c m i there within on).shapes, ap has_cpu new, ap is_running new)

    module _ (going : is_running p c ≡ true) (key : List ℕ) (size : length key ≡ h.key) (linked : IsLinked seen i)
        (keyed : key_of seen i ≡ key) (span : Span) (span_is : span ≡ element_span m seen.shape i) where
      in_map : IsLinked (rows p m) i
      in_map = subst (λ (t : Rows). IsLinked t i) row linked

      at : span ≡ span_at p m i
      at = span_is ∙ ap (λ (t : Rows). element_span m t.shape i) row

      pub lookup_calls : Makes p (with_table parts m n) c (Lookup m key (Some span))
      lookup_calls =
          subst (λ (q : Contents). Makes p q c (Lookup m key (Some span))) (sym new)
          (subst (λ (x : Span). Makes p (looked p c m i) c (Lookup m key (Some x))) (sym at)
          (looked_calls p is c m i there within on going in_map key (h, map, size) (subst (λ (t : Rows). key_of t i ≡ key) row keyed)))

      pub lookup_held : held_spans (with_table parts m n) ≡ held_with (held_spans p) c (Some span)
      lookup_held = ap held_spans new ∙ (looked_held p is c m i there within on going in_map ∙ ap (λ (x : Span). held_with (held_spans p) c (Some x)) (sym at))
