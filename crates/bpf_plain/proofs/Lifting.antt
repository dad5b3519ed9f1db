-- What the maps' calls are to the whole store; and what a passage from a store as made is.
use Rattle.std.proofs.Common.{◌≡◌, ℕ, ◌<◌, Bool, List, [], inl, inr, refl, ap, sym, subst, ◌∙◌, arith}
use Rattle.bpf_shared.specs.declared.events.Span.{Span}
use Rattle.bpf_shared.specs.declared.events.Event.{Event}
use Rattle.bpf_shared.specs.declared.events.Entry.{Entry}
use Rattle.bpf_shared.specs.declared.events.MapAnswer.{MapAnswer}
use Rattle.bpf_shared.specs.declared.events.MapAnswer.TheVariants.{Done, Invalid, Busy, Exists, Absent, Full, NoMemory}
use Rattle.bpf_shared.specs.Shape.{Shape, IsShape, IsArray, Covers, copies}
use Rattle.bpf_shared.specs.Store.{Plain, Value, as_made, IsFixed, array_of, copy_of}
use Rattle.bpf_shared.specs.Events.{Allowed, Reaches}
use Rattle.bpf_shared.specs.History.{PlainlyLegal}
use Rattle.bpf_shared.specs.Passage.{Calls, IsHeldPlace}
use Rattle.bpf_shared.specs.Sound.{IsSoundStore}
use Rattle.bpf_shared.proofs.Soundness.{as_made_sound, held_later}
use Rattle.bpf_shared.proofs.Histories.{plainly_legal}
use Rattle.bpf_shared.proofs.Leaving.{event_shape}
use Rattle.bpf_shared.proofs.Lawful.{one_value_is_reached}
use Rattle.bpf_shared.proofs.Fixed.{fixed_below}
use Rattle.bpf_shared.proofs.Values.{WritesInto, value_left}
use Rattle.bpf_hash.specs.HashStore as hash
use Rattle.bpf_hash.specs.Shows as shows
use Rattle.bpf_hash.proofs.Beside.{held_value}
use Rattle.bpf_plain.specs.Private.Contents.{Contents, has_cpu, StandsFor, Passes, Makes, MayLack, IsMade, IsStore, with_maps}
use Rattle.bpf_plain.specs.Shows.{ShowsNoKey}
use Rattle.bpf_plain.specs.Legality.{PassagesAreLegal}

-- ---- shapes that are equal have the same fixed values
pub same_fixed : (h k : Shape) → h ≡ k → (v : ℕ) → IsFixed h v → IsFixed k v
same_fixed h k e v f = record {
  array = f.array;
  is = subst (λ (x : Shape). IsArray x.arrays (array_of v) f.array) e f.is;
  copy = subst (λ (x : Shape). copy_of v < copies x.cpus f.array) e f.copy;
  index = f.index;
}

-- ---- one event of the maps is one of the store, if it writes into no fixed value
pub lifted : (p : Contents) (maps : hash.Contents) (c : ℕ) (e : Event) → hash.Makes p.maps maps c e
    → ((s : Plain) → IsSoundStore s → hash.StandsFor p.maps s → (v : ℕ) → IsFixed s.shape v → WritesInto s c v e → ⊥)
    → Makes p (with_maps p maps) c e
lifted p maps c e makes beside s so h =
    let r = makes s so h.maps in
    let a : Allowed s c e r.0 = subst (λ (z : Plain). Allowed s c e z) r.1.2 r.1.1.0 in (
      r.0,
      r.1,
      r.2,
      record {
        shape = event_shape s r.0 c e a ∙ h.shape;
        maps = r.3;
        fixed = λ v f.
            (let k : IsFixed s.shape v = record {
              array = f.array;
              is = subst (λ (x : Shape). IsArray x.arrays (array_of v) f.array) (sym h.shape) f.is;
              copy = subst (λ (x : Shape). copy_of v < copies x.cpus f.array) (sym h.shape) f.copy;
              index = f.index;
            } in
            ap (λ (x : Value). x.bytes) (value_left s r.0 c v (so.live_made v (inr (inr k))) e a (beside s so h.maps v k)) ∙ h.fixed v f);
      },
    )

-- what is at a held place is no fixed value
pub held_beside : (maps : hash.Contents) (c a n : ℕ) → 0 < n → IsHeldPlace (hash.held_spans maps c) a n
    → (s : Plain) → IsSoundStore s → hash.StandsFor maps s → (v : ℕ) → IsFixed s.shape v → Reaches s c v a n → ⊥
held_beside maps c a n some place s so h v f r =
    let w = held_value maps s so h c place.span place.holds in
    let there : Reaches s c w.0 a n = record { holds = inl w.1; covers = subst (λ (q : Span). Covers q a n) (sym w.2) place.covers } in
    let same : v ≡ w.0 = one_value_is_reached s c c v w.0 a n so some r there in
    let later = held_later s so c w.0 w.1 in
    let below = fixed_below s.shape v f in
    omega arith

-- a call of a store that serves all CPUs
pub is_call : (old new : Contents) (c : ℕ) (e : Event) → Makes old new c e → Calls (Passes old new) (has_cpu old) c e
is_call old new c e makes = record { others = []; foreign = λ d h. refl; passage = makes }

-- the same of a store whose parts are these
pub call_lifted : (parts p : Contents) (view : ◌≡◌ {A = Contents} parts p) (maps : hash.Contents) (c : ℕ) (e : Event) → hash.Makes parts.maps maps c e
    → ((s : Plain) → IsSoundStore s → hash.StandsFor parts.maps s → (v : ℕ) → IsFixed s.shape v → WritesInto s c v e → ⊥)
    → Calls (Passes p (with_maps parts maps)) (has_cpu p) c e
call_lifted parts p view maps c e makes beside =
    subst (λ (x : Contents). Calls (Passes x (with_maps parts maps)) (has_cpu x) c e) view
    (is_call parts (with_maps parts maps) c e (lifted parts maps c e makes beside))

pub maps_store : (parts : Contents) (maps : hash.Contents) → IsStore parts → hash.shapes_of maps ≡ hash.shapes_of parts.maps → hash.has_cpu
    maps ≡ hash.has_cpu parts.maps → IsStore (with_maps parts maps)
maps_store parts maps is shapes serves = record {
  shape = is.shape;
  maps = shapes ∙ is.maps;
  cpus = λ c. ap (λ (f : ℕ → Bool). f c) serves ∙ is.cpus c;
  arrays = is.arrays;
}

pub lacks : (p : Contents) (maps : hash.Contents) (m : ℕ) (key : List ℕ) (answer : MapAnswer) → hash.MayLack p.maps maps m key answer →
    MayLack p (with_maps p maps) m key answer
lacks p maps m key Done l = l
lacks p maps m key Invalid l = l
lacks p maps m key Busy l = l
lacks p maps m key Exists l = l
lacks p maps m key Absent l = l
lacks p maps m key Full l = l
lacks p maps m key NoMemory l = λ s so h. l s so h.maps

-- ---- what the maps show, the store shows
module _ (parts p : Contents) (view : ◌≡◌ {A = Contents} parts p) (a : ℕ) where
  pub no_key : shows.ShowsNoKey parts.maps a → ShowsNoKey p a
  no_key none = subst (λ (x : Contents). ShowsNoKey x a) view (λ s so h key leads. none s so h.maps key leads)

-- ---- passages from a store as made
pub history : (h : Shape) (x y : Contents) (log : List Entry) → IsShape h → IsMade h x → Passes x y log
    → (t : Plain) × PlainlyLegal (as_made h) log t × IsSoundStore t × StandsFor y t
history h x y log is made p = p (as_made h) (as_made_sound h is) made.shows

pub passages_are_legal : PassagesAreLegal
passages_are_legal h x y log is made p = let r = history h x y log is made p in (r.0, plainly_legal (as_made h) r.0 log r.1)
