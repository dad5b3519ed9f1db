-- What a store does with one CPU's waiting stores are calls of the x86 machine, where that CPU is alone.
use Rattle.std.proofs.Common.{◌≡◌, ℕ, Bool, true, false, List, [], ◌∷◌, ◌++◌, refl, sym, ap, subst, ◌∙◌}
use Rattle.std.specs.Prelude.{map, nat_lt}
use Rattle.std.proofs.lemmas.List.{map-append}
use Rattle.bpf_shared.specs.declared.events.Event.{Event}
use Rattle.bpf_shared.specs.declared.events.Event.TheVariants.{Begin, Lookup, Update, Load}
use Rattle.bpf_shared.specs.declared.events.MapAnswer.{MapAnswer}
use Rattle.bpf_shared.specs.declared.events.MapAnswer.TheVariants.{Done, Invalid, Busy, Exists, Absent, Full, NoMemory}
use Rattle.bpf_shared.specs.Store.{Plain, put}
use Rattle.bpf_shared.specs.Sound.{IsSoundStore}
use Rattle.bpf_shared.specs.Choice.{PlainlyAllowed}
use Rattle.bpf_shared.specs.History.{PlainlyLegal, entry}
use Rattle.bpf_shared.specs.Passage.{Calls as Called}
use Rattle.bpf_shared.proofs.Puts.{put-same}
use Rattle.bpf_plain.specs.PlainStore.{Contents, has_cpu, StandsFor, Passes}
use Rattle.bpf_machine.proofs.OwnEvents.{call_leads}
use Rattle.bpf_x86.specs.Buffers.{Buffered, Sees, Drains, AsksMemory, Calls}
use Rattle.bpf_x86.specs.Machine.{none_waits}
use Rattle.bpf_buffering.specs.Search.{alone}
use Rattle.bpf_buffering.specs.Waiting.{WaitingContents, Leads, IsSameCpu, PassesWaiting, buffer_of, event_of}
use Rattle.bpf_buffering.specs.declared.waiting.Stored.{Stored}
use Rattle.bpf_x86.proofs.Calling.{put_twice}
use Rattle.bpf_buffering.proofs.Determined.{refused_alike, too_many}
use Rattle.bpf_buffering.proofs.Making.{Makes}

-- ---- what it sees alone
sees_alone : (s m : Plain) (c : ℕ) (es : List Event) → PlainlyLegal s (map (entry c) es) m → Sees (alone s c es) c m
sees_alone s m c es legal = subst (λ (fs : List Event). PlainlyLegal s (map (entry c) fs) m) (sym (put-same none_waits c c es refl)) legal

-- a call of the store itself
abbrev pub Made : Contents → ℕ → Event → Contents → Type 0
Made x c e y = (s : Plain) → IsSoundStore s → StandsFor x s → (t : Plain) × PlainlyAllowed s c e t × IsSoundStore t × StandsFor y t

pub made_of : (x y : Contents) (c : ℕ) (e : Event) → has_cpu x c ≡ true → Called (Passes x y) (has_cpu x) c e → has_cpu y ≡ has_cpu x → Made x c e y
made_of x y c e served call same s so shows = call_leads x y c e served call same s so shows

module _ (x y : WaitingContents) where
  -- whatever waits
  asks_alone : (e : Event) → y.waiting ≡ x.waiting → Made x.store x.cpu e y.store → (s : Plain) → IsSoundStore s → StandsFor x.store s
      → (t : Plain) × IsSoundStore t × StandsFor y.store t × AsksMemory (alone s x.cpu (buffer_of x)) x.cpu e (alone t x.cpu (buffer_of y))
  asks_alone e same made s so shows =
      let m = made s so shows in
      (m.0, m.2, m.3, (m.0, m.1, ap (λ (es : List Stored). alone m.0 x.cpu (map event_of es)) same))

  pub lookup_leads : (m : ℕ) (key : List ℕ) (found : _) → y.waiting ≡ x.waiting → Made x.store x.cpu (Lookup m key found) y.store → Leads x
      (Lookup m key found) y
  lookup_leads m key found same made = asks_alone (Lookup m key found) same made

  pub refused_leads : (m : ℕ) (key bytes : List ℕ) (flags : ℕ) → y.waiting ≡ x.waiting → Made x.store x.cpu
      (Update m key bytes flags Invalid) y.store → Leads x (Update m key bytes flags Invalid) y
  refused_leads m key bytes flags same made = asks_alone (Update m key bytes flags Invalid) same made

  -- after a drain
  pub drains_alone : (mid : Contents) (e : Event) → y.waiting ≡ [] → Makes x.cpu x.store x.waiting mid → Made mid x.cpu e y.store →
      (s : Plain) → IsSoundStore s → StandsFor x.store s
      → (t : Plain) × IsSoundStore t × StandsFor y.store t × ((d : Buffered) × Drains (alone s x.cpu (buffer_of x)) x.cpu d × AsksMemory d
      x.cpu e (alone t x.cpu (buffer_of y)))
  drains_alone mid e none makes made s so shows =
      let first = makes s so shows in
      let then = made first.0 first.2 first.3 in
      let d : Buffered = record { memory = first.0; buffers = put (put none_waits x.cpu (buffer_of x)) x.cpu [] } in
      let buffers : put none_waits x.cpu (buffer_of y) ≡ put (put none_waits x.cpu (buffer_of x)) x.cpu [] =
      ap (λ (es : List Stored). put none_waits x.cpu (map event_of es)) none ∙ sym (put_twice none_waits x.cpu (buffer_of x) []) in (
        then.0,
        then.2,
        then.3,
        (
          d,
          (first.0, sees_alone s first.0 x.cpu (buffer_of x) first.1, refl),
          (then.0, then.1, ap (λ (f : ℕ → List Event). record { memory = then.0; buffers = f }) buffers),
        ),
      )

  -- an update, by its flags: above 2 it is refused, and else it drains
  pub update_refused : (m : ℕ) (key bytes : List ℕ) (flags : ℕ) (answer : MapAnswer) → nat_lt 2 flags ≡ true → y.waiting ≡ x.waiting → Made
      x.store x.cpu (Update m key bytes flags answer) y.store → Leads x (Update m key bytes flags answer) y
  update_refused m key bytes flags answer many same made s so shows =
      let first = made s so shows in
      let is : answer ≡ Invalid = refused_alike s first.0 x.cpu m key bytes flags answer many first.1 in
      let r = asks_alone (Update m key bytes flags answer) same made s so shows in (
        r.0,
        r.1,
        r.2,
        subst (λ (a : MapAnswer). Calls (alone s x.cpu (buffer_of x)) x.cpu (Update m key bytes flags a) (alone r.0 x.cpu (buffer_of y))) (sym is)
            (subst (λ (a : MapAnswer). AsksMemory (alone s x.cpu (buffer_of x)) x.cpu (Update m key bytes flags a) (alone r.0 x.cpu (buffer_of y))) is r.3),
      )

  pub update_leads : (mid : Contents) (m : ℕ) (key bytes : List ℕ) (flags : ℕ) (answer : MapAnswer) → nat_lt 2 flags ≡ false → y.waiting ≡
      [] → Makes x.cpu x.store x.waiting mid → Made mid x.cpu (Update m key bytes flags answer) y.store
      → Leads x (Update m key bytes flags answer) y
  update_leads mid m key bytes flags Invalid few none makes made s so shows =
      let first = makes s so shows in
      let then = made first.0 first.2 first.3 in
      let no : true ≡ false = sym (too_many first.0 then.0 x.cpu m key bytes flags then.1) ∙ few in cc
  update_leads mid m key bytes flags Done few none makes made s so shows = drains_alone mid (Update m key bytes flags Done) none makes made s so shows
  update_leads mid m key bytes flags Busy few none makes made s so shows = drains_alone mid (Update m key bytes flags Busy) none makes made s so shows
  update_leads mid m key bytes flags Exists few none makes made s so shows = drains_alone mid (Update m key bytes flags Exists) none makes made s so shows
  update_leads mid m key bytes flags Absent few none makes made s so shows = drains_alone mid (Update m key bytes flags Absent) none makes made s so shows
  update_leads mid m key bytes flags Full few none makes made s so shows = drains_alone mid (Update m key bytes flags Full) none makes made s so shows
  update_leads mid m key bytes flags NoMemory few none makes made s so shows = drains_alone mid (Update m key bytes flags NoMemory) none makes made s so shows

  -- a begin, before which nothing waits
  pub begin_leads : x.waiting ≡ [] → y.waiting ≡ [] → Made x.store x.cpu Begin y.store → Leads x Begin y
  begin_leads was none made = drains_alone x.store Begin none (λ s so shows.
      (s, subst (λ (es : List Stored). PlainlyLegal s (map (entry x.cpu) (map event_of es)) s) (sym was) refl, so, shows)) made

  -- a load: where what waits is made in a copy
  pub load_leads : (mid after : Contents) (a : ℕ) (size : _) (found : ℕ) → y.waiting ≡ x.waiting → y.store ≡ x.store → Makes x.cpu x.store
      x.waiting mid → Made mid x.cpu (Load a size found) after → Leads x (Load a size found) y
  load_leads mid after a size found same store makes made s so shows =
      let first = makes s so shows in
      let then = made first.0 first.2 first.3 in
      let still : then.0 ≡ first.0 = then.1.0.1.3 in (
        s,
        so,
        subst (λ (k : Contents). StandsFor k s) (sym store) shows,
        (
          first.0,
          sees_alone s first.0 x.cpu (buffer_of x) first.1,
          subst
              (λ (t : Plain). PlainlyAllowed first.0 x.cpu (Load a size found) t) still then.1,
          ap
              (λ (es : List Stored). alone s x.cpu (map event_of es)) same,
        ),
      )

  -- a store: one more waits
  pub store_leads : (mid after : Contents) (e : Stored) → y.waiting ≡ x.waiting ++ e ∷ [] → y.store ≡ x.store → Makes x.cpu x.store
      x.waiting mid → Made mid x.cpu (event_of e) after → Leads x (event_of e) y
  store_leads mid after e more store makes made s so shows =
      let first = makes s so shows in
      let then = made first.0 first.2 first.3 in
      let longer : buffer_of y ≡ buffer_of x ++ event_of e ∷ [] = ap (map event_of) more ∙ map-append event_of x.waiting (e ∷ []) in
      let now : ℕ → List Event = put none_waits x.cpu (buffer_of x) in
      let last : buffer_of x ++ event_of e ∷ [] ≡ now x.cpu ++ event_of e ∷ [] = ap (λ (es : List Event). es ++ event_of e ∷ [])
      (sym (put-same none_waits x.cpu x.cpu (buffer_of x) refl)) in
      let buffers : put none_waits x.cpu (buffer_of y) ≡ put now x.cpu (now x.cpu ++ event_of e ∷ []) =
      ap (λ (es : List Event). put none_waits x.cpu es) (longer ∙ last) ∙ sym (put_twice none_waits x.cpu (buffer_of x) (now x.cpu ++ event_of e ∷ [])) in (
        s,
        so,
        subst (λ (k : Contents). StandsFor k s) (sym store) shows,
        (first.0, then.0, sees_alone s first.0 x.cpu (buffer_of x) first.1, then.1, ap (λ (f : ℕ → List Event). record { memory = s; buffers = f }) buffers),
      )

  -- ---- so the call is the adapter's
  pub called : (serves : ℕ → Bool) (e : Event) → IsSameCpu x y → (y.lost ≡ false → (x.lost ≡ false) × Leads x e y) → Called (PassesWaiting x y) serves x.cpu e
  called serves e same leads = record {
    others = [];
    foreign = λ c served. refl;
    passage = (
      e ∷ [],
      refl,
      same,
      λ kept.
          (let r = leads kept in (r.0, λ s so shows. (let t = r.1 s so shows in (t.0, t.1, t.2, (alone t.0 x.cpu (buffer_of y), t.3, refl))))),
    );
  }
