-- Buffers by CPU, of which one is another now.
use Rattle.std.proofs.Common.{◌≡◌, ◌≢◌, ℕ, ◌<◌, Bool, zero, suc, List, [], ◌∷◌, length, inl, inr, refl, sym, ap, subst, ◌∙◌, arith}
use Rattle.std.specs.Prelude.{Vec, map, slice_set, slice_index_or}
use Rattle.std.specs.declared.alloc.Global.{Global}
use Rattle.std.proofs.lemmas.List.{map-set, length-map, get_or-set_same, get_or-set_other}
use Rattle.bpf_shared.specs.Access.{bytes_in}
use Rattle.bpf_shared.specs.Shape.{Shape}
use Rattle.bpf_shared.specs.declared.events.Span.{Span}
use Rattle.bpf_shared.specs.declared.events.Event.{Event}
use Rattle.bpf_shared.specs.Store.{put}
use Rattle.bpf_shared.specs.Passage.{IsWritable}
use Rattle.bpf_shared.proofs.Puts.{equal_or_not, put-same, put-other}
use Rattle.bpf_plain.specs.PlainStore.{Contents, shape_of, held_spans}
use Rattle.bpf_buffering.specs.Search.{buffer_at}
use Rattle.bpf_x86.proofs.Alike.{same_functions}
use Rattle.bpf_buffering.specs.declared.waiting.Stored.{Stored}
use Rattle.bpf_buffering.specs.Waiting.{CanWait, event_of}
use Rattle.bpf_buffering.specs.Going.{LeavesOthers}
use Rattle.bpf_buffering.specs.Buffering.{stored_at, events_of_all}

abbrev pub items_of : Vec Stored Global → List Stored
items_of b = b.items

abbrev pub events_in : Vec Stored Global → List Event
events_in b = map event_of b.items

module _ (buffers : List (Vec Stored Global)) (c : ℕ) (v : Vec Stored Global) (within : c < length buffers) where
  pub stored_same : stored_at (slice_set buffers c v) c ≡ v.items
  stored_same =
      ap (λ (l : List (List Stored)). slice_index_or l c []) (map-set items_of buffers c v)
      ∙ get_or-set_same (map items_of buffers) c v.items [] (subst (λ (n : ℕ). c < n) (sym (length-map buffers items_of)) within)

  pub stored_other : (d : ℕ) → d ≢ c → stored_at (slice_set buffers c v) d ≡ stored_at buffers d
  stored_other d ne =
      ap (λ (l : List (List Stored)). slice_index_or l d []) (map-set items_of buffers c v) ∙ get_or-set_other (map items_of buffers) c d v.items [] ne

  pub events_set : buffer_at (events_of_all (slice_set buffers c v)) ≡ put (buffer_at (events_of_all buffers)) c (map event_of v.items)
  events_set = same_functions (buffer_at (events_of_all (slice_set buffers c v))) (put (buffer_at (events_of_all buffers)) c (map event_of v.items)) same
    where
      same : (d : ℕ) → buffer_at (events_of_all (slice_set buffers c v)) d ≡ put (buffer_at (events_of_all buffers)) c (map event_of v.items) d
      same d = ap (λ (l : List (List Event)). slice_index_or l d []) (map-set events_in buffers c v) ∙ elim (equal_or_not d c) [
        | inl e ↦
            ap (λ (k : ℕ). slice_index_or (slice_set (map events_in buffers) c (map event_of v.items)) k []) e
            ∙ (get_or-set_same (map events_in buffers) c (map event_of v.items) [] (subst (λ (n : ℕ). c < n) (sym (length-map buffers events_in)) within)
            ∙ sym (put-same (buffer_at (events_of_all buffers)) c d (map event_of v.items) e))
        | inr ne ↦ get_or-set_other (map events_in buffers) c d (map event_of v.items) [] ne ∙ sym
            (put-other (buffer_at (events_of_all buffers)) c d (map event_of v.items) ne)
      ]

-- what waits of a CPU, as events and as stores
pub events_at : (buffers : List (Vec Stored Global)) (c : ℕ) → buffer_at (events_of_all buffers) c ≡ map event_of (stored_at buffers c)
events_at [] c = refl
events_at (b ∷ bs) zero = refl
events_at (b ∷ bs) (suc c) = events_at bs c

-- another CPU's stores may wait still
pub waits_still : (old new : Contents) (c d : ℕ) (waiting : List Stored) → d ≢ c → LeavesOthers c old new → CanWait old d waiting → CanWait new d waiting
waits_still old new c d waiting ne others can = record {
  writable = λ k e less.
      let x = slice_index_or waiting k e in
      subst (λ (h : Shape). IsWritable h (held_spans new d) x.at (bytes_in x.size)) (sym others.shape)
      (subst (λ (f : Span → Bool). IsWritable (shape_of old) f x.at (bytes_in x.size)) (sym (others.held d ne)) (can.writable k e less));
  idle = λ off. can.idle (sym (others.runs d ne) ∙ off);
}

-- nothing may wait of any CPU
pub nothing_waits : (store : Contents) (c : ℕ) (waiting : List Stored) → waiting ≡ [] → CanWait store c waiting
nothing_waits store c waiting none =
    subst (λ (es : List Stored). CanWait store c es) (sym none) (record { writable = λ k e less. absurd (omega arith); idle = λ off. refl })
