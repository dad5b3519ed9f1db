-- What a CPU sees, as contents of a store.
use Rattle.std.proofs.Common.{◌≡◌, ◌∙◌, ℕ, ◌<◌, List, [], ◌∷◌, length, refl, sym, ap, subst, arith}
use Rattle.std.proofs.lemmas.List.{nil_from_length}
use Rattle.std.specs.Prelude.{Vec, map, slice_index_or, vec_len}
use Rattle.std.specs.declared.alloc.Global.{Global}
use Rattle.bpf_shared.specs.Access.{bytes_in}
use Rattle.bpf_shared.specs.declared.events.Event.{Event}
use Rattle.bpf_shared.specs.Passage.{IsWritable}
use Rattle.bpf_shared.specs.Store.{Plain}
use Rattle.bpf_shared.specs.Sound.{IsSoundStore}
use Rattle.bpf_shared.specs.History.{PlainlyLegal, entry}
use Rattle.bpf_plain.specs.PlainStore.{Contents, StandsFor, shape_of, held_spans}
use Rattle.bpf_loader.specs.Loaded.{Loaded}
use Rattle.bpf_buffering.specs.Search.{buffer_at}
use Rattle.bpf_buffering.specs.declared.waiting.Stored.{Stored}
use Rattle.bpf_buffering.specs.declared.jobs.Listed.{Listed}
use Rattle.bpf_buffering.specs.Waiting.{WaitingContents, AreWritable, event_of}
use Rattle.bpf_buffering.specs.Buffering.{stored_at, events_of_all, state_of, IsBuffering, IsSeenBy}
use Rattle.bpf_x86.specs.Forwarding.{AreStores}
use Rattle.bpf_buffering.proofs.Placing.{read_items}
use Rattle.bpf_buffering.proofs.Waits.{events_at}

pub no_items : (v : Vec Stored Global) → vec_len v ≡ 0 → v.items ≡ []
no_items v none = nil_from_length v.items (omega (arith, none, v.ok.0))

are_stores : (es : List Stored) → AreStores (map event_of es)
are_stores [] = tt
are_stores (e ∷ es) = are_stores es

module _ (w : WaitingContents) (programs : List Loaded) (jobs : List Listed) (buffers : List (Vec Stored Global))
    (board : IsBuffering w programs jobs buffers) (c : ℕ) where
  pub stores_alone : AreStores (buffer_at (events_of_all buffers) c)
  stores_alone = subst AreStores (sym (events_at buffers c)) (are_stores (stored_at buffers c))

  -- where nothing waits it is memory
  pub seen_memory : (seen : Contents) → seen ≡ w.store → buffer_at (events_of_all buffers) c ≡ [] → IsSeenBy (state_of w programs jobs buffers) c seen
  seen_memory seen same none x shows =
      let here : x.buffers c ≡ [] = ap (λ (f : ℕ → List Event). f c) shows.buffers ∙ none in
      let s = x.world.store in (
        s,
        subst (λ (es : List Event). PlainlyLegal s (map (entry c) es) s) (sym here) refl,
        shows.world.sound,
        subst (λ (p : Contents). StandsFor p s) (sym same) shows.world.store,
      )

  module _ (within : c < length buffers) (v : Vec Stored Global) (read : v ≡ slice_index_or buffers c v) where
    pub empty_here : v.items ≡ [] → buffer_at (events_of_all buffers) c ≡ []
    empty_here none = events_at buffers c ∙ ap (map event_of) (sym (read_items buffers c v within read) ∙ none)

    pub may_be_made : (seen : Contents) (es : List Stored) → seen ≡ w.store → es ≡ v.items → AreWritable (shape_of seen) (held_spans seen c) es
    may_be_made seen es same is =
        subst (λ (p : Contents). AreWritable (shape_of p) (held_spans p c) es) (sym same)
        (subst (λ (xs : List Stored). AreWritable (shape_of w.store) (held_spans w.store c) xs)
        (sym (is ∙ read_items buffers c v within read)) (board.each c).writable)

    pub seen_made : (old seen : Contents) (es : List Stored) → old ≡ w.store → es ≡ v.items → ((s : Plain) → IsSoundStore s → StandsFor old s
        → (t : Plain) × PlainlyLegal s (map (entry c) (map event_of es)) t × IsSoundStore t × StandsFor seen t)
        → IsSeenBy (state_of w programs jobs buffers) c seen
    seen_made old seen es same is made x shows =
        let s = x.world.store in
        let r = made s shows.world.sound (subst (λ (p : Contents). StandsFor p s) (sym same) shows.world.store) in
        let here : map event_of es ≡ x.buffers c = ap (map event_of) (is ∙ read_items buffers c v within read)
        ∙ (sym (events_at buffers c) ∙ ap (λ (f : ℕ → List Event). f c) (sym shows.buffers)) in
        (r.0, subst (λ (events : List Event). PlainlyLegal s (map (entry c) events) r.0) here r.1, r.2, r.3)
